-- A walk over stored clauses that looks for a short one.
use Rattle.std.proofs.Common.{◌≡◌, ◌==◌, ℕ, Bool, true, false, cond, not, ◌||◌, ◌<◌, ◌≤◌, arith, nat_le, nat_lt, filter, option_map, List, [], ◌∷◌, ◌++◌, Option, Some, None, refl, sym, ap, subst, ◌∙◌, option_to_list}
use Rattle.std.specs.Option.{is_some}
use Rattle.std.specs.List.{list_any, list_all}
use Rattle.std.proofs.lemmas.Bool.{and_from, and_parts, or_left, or_right, false≢true, eq-eqb, eqb-true, ltb-true, leb-true, lt-leb}
use Rattle.std.specs.Bool.{beq}
use Rattle.std.proofs.lemmas.List.Folds.{list_all-append}
use Rattle.sat_lits.specs.ListLaws.{all_push, all_mono, all_filter}
use Rattle.sat_lits.specs.InLits.{same_lit}
use Rattle.sat_lits.specs.declared.literal.InLit.{InLit}
use Rattle.sat_lits.specs.declared.literal.ClauseId.{ClauseId}
use Rattle.clause_store.specs.Store.{Held, IsKept, rising, clause_at, is_live, before}
use Rattle.state_laws.specs.Resolution.{mentions}
use Rattle.state_laws.specs.Held.{own_of, own_clause, touches}
use Rattle.state_laws.specs.HeldLaws.{all_found}
use Rattle.state_laws.specs.Kernel.{Kernel, Keeps}
use Rattle.one_solver.specs.Units.{is_short, is_empty, is_unit, are_long}

-- a clause that is found is one of those that are held
pub found_any : (p : Held → Bool) (held : List Held) (id : ℕ) (h : Held) → clause_at held id ≡ Some h → p h ≡ true → list_any p held ≡ true
found_any p [] id h e a = cc
found_any p (k ∷ held) id h e a = go (k.id == id) (found_any p held id h) e
  where
    go : (b : Bool) → (clause_at held id ≡ Some h → p h ≡ true → list_any p held ≡ true) → cond b (Some k) (clause_at held id) ≡ Some h → (p k || list_any p held) ≡ true
    go true r q = let same : k ≡ h = cc in or_left _ _ (ap p same ∙ a)
    go false r q = or_right _ _ (r q a)

-- a live id has its clause
pub live_clause : (held : List Held) (id : ℕ) → is_live held id ≡ true → (h : Held) × (clause_at held id ≡ Some h)
live_clause held id e = go (clause_at held id) refl e
  where
    go : (o : Option Held) → clause_at held id ≡ o → is_some o ≡ true → (h : Held) × (clause_at held id ≡ Some h)
    go o f g = elim o as (λ p. clause_at held id ≡ p → is_some p ≡ true → (h : Held) × (clause_at held id ≡ Some h)) [ None ↦ λ f g. absurd (false≢true g) | Some h ↦ λ f g. (h, f) ] f g

-- the clause of an id has these literals
pub lits_at : (held : List Held) (id : ℕ) (h : Held) (lits : List InLit) → clause_at held id ≡ Some h → h.lits ≡ lits → option_map (λ k. k.lits) (clause_at held id) ≡ Some lits
lits_at held id h lits e f = ap (option_map (λ (k : Held). k.lits)) e ∙ ap (λ (c : List InLit). let o : Option (List InLit) = Some c in o) f

same_itself : (l : InLit) → same_lit l l ≡ true
same_itself l = and_from _ _ (eq-eqb l.var.0 l.var.0 refl) (go l.negative)
  where
    go : (b : Bool) → beq b b ≡ true
    go true = refl
    go false = refl

-- a clause of one literal that is found is one of those that are held
pub unit_found : (held : List Held) (id : ℕ) (l : InLit) → option_map (λ h. h.lits) (clause_at held id) ≡ Some (l ∷ []) → list_any (λ h. is_unit (same_lit l) h.lits) held ≡ true
unit_found held id l e = go (clause_at held id) refl e
  where
    go : (o : Option Held) → clause_at held id ≡ o → option_map (λ h. h.lits) o ≡ Some (l ∷ []) → list_any (λ h. is_unit (same_lit l) h.lits) held ≡ true
    go None f g = cc
    go (Some h) f g = let same : h.lits ≡ l ∷ [] = cc in found_any (λ k. is_unit (same_lit l) k.lits) held id h f (ap (is_unit (same_lit l)) same ∙ same_itself l)

-- the clause of an id has it
pub found_id : (held : List Held) (id : ℕ) (h : Held) → clause_at held id ≡ Some h → h.id ≡ id
found_id [] id h e = cc
found_id (k ∷ held) id h e = go (k.id == id) refl (found_id held id h) e
  where
    go : (b : Bool) → (k.id == id) ≡ b → (clause_at held id ≡ Some h → h.id ≡ id) → cond b (Some k) (clause_at held id) ≡ Some h → h.id ≡ id
    go true t r f = let same : k ≡ h = cc in sym (ap (λ (z : Held). z.id) same) ∙ eqb-true _ _ t
    go false t r f = r f

-- an empty clause that is found is told
pub empty_found : (held : List Held) (id : ℕ) (h : Held) → clause_at held id ≡ Some h → h.lits ≡ [] → list_any (λ k. is_empty k.lits) held ≡ true
empty_found held id h e f = found_any (λ k. is_empty k.lits) held id h e (ap is_empty f)

-- and one that is not short is passed
pub long_passed : (held : List Held) (at : Option ClauseId) (id : ClauseId) (next : Option ClauseId) → at ≡ Some id → is_live held id.0 ≡ true
    → before held next ≡ before held (Some id) ++ option_to_list (clause_at held id.0) → ((h : Held) → clause_at held id.0 ≡ Some h → is_short h.lits ≡ false)
    → are_long (before held at) ≡ true → are_long (before held next) ≡ true
long_passed held at id next e live step long passed =
    let (h, f) = live_clause held id.0 live in
    let p : are_long (before held (Some id)) ≡ true = subst (λ (o : Option ClauseId). are_long (before held o) ≡ true) e passed in
    let q : are_long (before held (Some id) ++ h ∷ []) ≡ true = all_push (λ k. not (is_short k.lits)) (before held (Some id)) h p (ap not (long h f)) in
    subst (λ (hs : List Held). are_long hs ≡ true) (sym (step ∙ ap (λ o. before held (Some id) ++ option_to_list o) f)) q

-- a fact of the clauses before that of an id, and of its own, is one of all clauses up to that id
upto : (p q : Held → Bool) (id : ClauseId) (held : List Held) → ((h : Held) → p h ≡ true → q h ≡ true) → rising held ≡ true → is_live held id.0 ≡ true → list_all p (before held (Some id)) ≡ true
    → ((h : Held) → clause_at held id.0 ≡ Some h → q h ≡ true) → list_all (λ h. not (nat_le h.id id.0) || q h) held ≡ true
upto p q id [] s r live a f = refl
upto p q id (h ∷ held) s r live a f = go (h.id == id.0) refl (and_parts _ _ r) (λ r l a f. upto p q id held s r l a f) live a f
  where
    later : h.id ≡ id.0 → list_all (λ k. nat_lt h.id k.id) held ≡ true → list_all (λ k. not (nat_le k.id id.0) || q k) held ≡ true
    later e l = all_mono (λ k. nat_lt h.id k.id) (λ k. not (nat_le k.id id.0) || q k) (λ k g. or_left _ _ (ap not (lt-leb k.id id.0 (let m : h.id < k.id = ltb-true _ _ g in omega arith)))) held l

    go : (b : Bool) → (h.id == id.0) ≡ b → (list_all (λ k. nat_lt h.id k.id) held ≡ true) × (rising held ≡ true)
        → (rising held ≡ true → is_live held id.0 ≡ true → list_all p (before held (Some id)) ≡ true → ((k : Held) → clause_at held id.0 ≡ Some k → q k ≡ true) → list_all (λ k. not (nat_le k.id id.0) || q k) held ≡ true)
        → is_some (cond b (Some h) (clause_at held id.0)) ≡ true → list_all p (cond b [] (h ∷ before held (Some id))) ≡ true
        → ((k : Held) → cond b (Some h) (clause_at held id.0) ≡ Some k → q k ≡ true) → list_all (λ k. not (nat_le k.id id.0) || q k) (h ∷ held) ≡ true
    go true e t again live a f = and_from _ _ (or_right _ _ (f h refl)) (later (eqb-true _ _ e) t.0)
    go false e t again live a f = let c : (p h ≡ true) × (list_all p (before held (Some id)) ≡ true) = and_parts _ _ a in and_from _ _ (or_right _ _ (s h c.0)) (again t.1 live c.1 f)

-- where a variable is fixed by the clause of an id, what is up to that id stays long
pub fixed_passed : (k n : Kernel) (v : ℕ) (id : ClauseId) (l : InLit) (next : Option ClauseId) → IsKept k.store → Keeps k n v → option_map (λ h. h.lits) (clause_at k.store.held id.0) ≡ Some (l ∷ []) → (own_of k.maps l).var.0 ≡ v
    → are_long (before k.store.held (Some id)) ≡ true → before n.store.held next ≡ filter (λ h. nat_le h.id id.0) n.store.held → are_long (before n.store.held next) ≡ true
fixed_passed k n v id l next kept keeps lits own passed step =
    ap are_long step ∙ all_filter far (λ h. nat_le h.id id.0) long (λ h a b. cut (nat_le h.id id.0) (long h) a b) n.store.held all
  where
    long : Held → Bool
    long h = not (is_short h.lits)

    far : Held → Bool
    far h = not (nat_le h.id id.0) || long h

    cut : (a b : Bool) → (not a || b) ≡ true → a ≡ true → b ≡ true
    cut true b e f = e
    cut false b e f = absurd (false≢true f)

    live : is_live k.store.held id.0 ≡ true
    live = go (clause_at k.store.held id.0) lits
      where
        go : (o : Option Held) → option_map (λ h. h.lits) o ≡ Some (l ∷ []) → is_some o ≡ true
        go None e = cc
        go (Some h) e = refl

    some_lits : (h : Held) → clause_at k.store.held id.0 ≡ Some h → h.lits ≡ l ∷ []
    some_lits h e = same (sym (ap (option_map (λ (z : Held). z.lits)) e) ∙ lits)
      where
        same : {x y : List InLit} → Some x ≡ Some y → x ≡ y
        same q = cc

    hit : (h : Held) → clause_at k.store.held id.0 ≡ Some h → touches k.maps v h ≡ true
    hit h e = ap (λ (c : List InLit). mentions v (own_clause k.maps c)) (some_lits h e) ∙ or_left _ _ (eq-eqb _ _ own)

    given : id.0 < k.store.given
    given = let (h, e) = live_clause k.store.held id.0 live in
        let a : h.id < k.store.given = ltb-true _ _ (all_found (λ z. nat_lt z.id k.store.given) k.store.held id.0 h e kept.below) in
        let b : h.id ≡ id.0 = found_id k.store.held id.0 h e in
        omega arith

    old : list_all far (filter (λ h. not (touches k.maps v h)) k.store.held) ≡ true
    old =
        all_filter (λ h. not (nat_le h.id id.0) || (long h || touches k.maps v h)) (λ h. not (touches k.maps v h)) far (λ h a b. drop (nat_le h.id id.0) (long h) (touches k.maps v h) a b) k.store.held
        (upto long (λ h. long h || touches k.maps v h) id k.store.held (λ h e. or_left _ _ e) kept.rises live passed (λ h e. or_right _ _ (hit h e)))
      where
        drop : (a b c : Bool) → (not a || (b || c)) ≡ true → not c ≡ true → (not a || b) ≡ true
        drop false b c e f = refl
        drop true true c e f = refl
        drop true false true e f = absurd (false≢true f)
        drop true false false e f = e

    all : list_all far n.store.held ≡ true
    all =
        ap (list_all far) keeps.held ∙ (list_all-append far (filter (λ h. not (touches k.maps v h)) k.store.held) keeps.news
        ∙ and_from _ _ old (all_mono (λ h. nat_le k.store.given h.id) far (λ h e. or_left _ _ (ap not (lt-leb h.id id.0 (let a : k.store.given ≤ h.id = leb-true _ _ e in let b : id.0 < k.store.given = given in omega arith)))) keeps.news keeps.fresh))
