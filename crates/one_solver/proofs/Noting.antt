-- The ids of long learned clauses that a walk notes while literals are fixed.
use Rattle.std.proofs.Common.{◌≡◌, ◌==◌, ℕ, Bool, true, false, cond, not, ◌||◌, ◌<◌, ◌≤◌, arith, nat_le, ltb, filter, map, option_map, option_to_list, unwrap_or, List, [], ◌∷◌, ◌++◌, Option, Some, None, refl, sym, ap, ap₂, subst, ◌∙◌, IfSome, Vec, Global, append-nil, ltb-true, lt-ltb, eq-eqb, ne_eqb, eqb-true, leb-true, le-leb}
use Rattle.std.specs.Option.{is_some, option_or}
use Rattle.std.specs.Bool.{beq}
use Rattle.std.specs.List.{list_all}
use Rattle.std.proofs.lemmas.Bool.{and_from, and_parts, or_left, or_right, false≢true, true≢false, lt-leb, leb-false}
use Rattle.std.proofs.lemmas.List.{map-append}
use Rattle.std.proofs.lemmas.List.Elements.{filter-append}
use Rattle.std.proofs.lemmas.List.Folds.{list_all-append, find-append}
use Rattle.sat_lits.specs.ClauseLaws.{beq_true}
use Rattle.sat_lits.specs.ListLaws.{all_mono, both_all, all_filter, all_push}
use Rattle.sat_lits.specs.declared.literal.ClauseId.{ClauseId}
use Rattle.sat_lits.specs.declared.literal.InLit.{InLit}
use Rattle.clause_store.specs.Store.{Store, Held, IsKept, clause_at, is_live, before, rising}
use Rattle.state_laws.specs.Resolution.{mentions}
use Rattle.state_laws.specs.Held.{own_of, own_clause, touches}
use Rattle.state_laws.specs.HeldLaws.{all_found, filter_none}
use Rattle.state_laws.specs.MarkLaws.{filter_swap}
use Rattle.state_laws.specs.Kernel.{Kernel, Keeps}
use Rattle.one_solver.specs.Learned.{is_long, is_long_at, numbers_in, noted, HasNoted, NotesLong}
use Rattle.one_solver.proofs.Walking.{live_clause, found_id}

-- a live id is above what all ids are above
live_above : (n i : ℕ) (held : List Held) → list_all (λ h. ltb n h.id) held ≡ true → is_live held i ≡ true → n < i
live_above n i [] a l = absurd (false≢true l)
live_above n i (h ∷ held) a l =
    let p : (ltb n h.id ≡ true) × (list_all (λ k. ltb n k.id) held ≡ true) = and_parts _ _ a in
    go (h.id == i) refl (ltb-true _ _ p.0) (live_above n i held p.1) l
  where
    go : (b : Bool) → (h.id == i) ≡ b → n < h.id → (is_live held i ≡ true → n < i) → is_some (cond b (Some h) (clause_at held i)) ≡ true → n < i
    go true q x r m = let y : h.id ≡ i = eqb-true _ _ q in omega arith
    go false q x r m = r m

-- the clauses before that of a live id have lower ids
before_below : (held : List Held) (id : ClauseId) → rising held ≡ true → is_live held id.0 ≡ true → list_all (λ h. ltb h.id id.0) (before held (Some id)) ≡ true
before_below [] id r l = refl
before_below (h ∷ held) id r l =
    let p : (list_all (λ k. ltb h.id k.id) held ≡ true) × (rising held ≡ true) = and_parts _ _ r in
    go (h.id == id.0) p.0 (before_below held id p.1) l
  where
    go : (b : Bool) → list_all (λ k. ltb h.id k.id) held ≡ true → (is_live held id.0 ≡ true → list_all (λ k. ltb k.id id.0) (before held (Some id)) ≡ true)
        → is_some (cond b (Some h) (clause_at held id.0)) ≡ true → list_all (λ k. ltb k.id id.0) (cond b [] (h ∷ before held (Some id))) ≡ true
    go true p q m = refl
    go false p q m = and_from _ _ (lt-ltb _ _ (live_above h.id id.0 held p m)) (q m)

-- what all clauses pass, those before an id pass
before_pass : (p : Held → Bool) (held : List Held) (id : ClauseId) → list_all p held ≡ true → list_all p (before held (Some id)) ≡ true
before_pass p [] id a = refl
before_pass p (h ∷ held) id a =
    let q : (p h ≡ true) × (list_all p held ≡ true) = and_parts _ _ a in
    go (h.id == id.0) q.0 (before_pass p held id q.1)
  where
    go : (b : Bool) → p h ≡ true → list_all p (before held (Some id)) ≡ true → list_all p (cond b [] (h ∷ before held (Some id))) ≡ true
    go true q r = refl
    go false q r = and_from _ _ q r

-- no clause has an id that all ids are above
none_at : (i : ℕ) (held : List Held) → list_all (λ h. ltb i h.id) held ≡ true → clause_at held i ≡ None
none_at i [] a = refl
none_at i (h ∷ held) a =
    let p : (ltb i h.id ≡ true) × (list_all (λ k. ltb i k.id) held ≡ true) = and_parts _ _ a in
    rw (ne_eqb h.id i (λ q. absurd (let l : i < h.id = ltb-true _ _ p.0 in omega arith))) (none_at i held p.1)

-- whether the clause of an id passes a test
abbrev passes_at : (Held → Bool) → List Held → ℕ → Bool
passes_at q held i = unwrap_or (option_map q (clause_at held i)) false

-- where some clauses are left out, an id is live where its clause is not
left_live : (q : Held → Bool) (held : List Held) (i : ℕ) → rising held ≡ true → is_live (filter q held) i ≡ passes_at q held i
left_live q [] i r = refl
left_live q (h ∷ held) i r =
    let p : (list_all (λ k. ltb h.id k.id) held ≡ true) × (rising held ≡ true) = and_parts _ _ r in
    go (h.id == i) (q h) refl refl (left_live q held i p.1) p.0
  where
    go : (a b : Bool) → (h.id == i) ≡ a → q h ≡ b → is_live (filter q held) i ≡ passes_at q held i → list_all (λ k. ltb h.id k.id) held ≡ true
        → is_live (cond b (h ∷ filter q held) (filter q held)) i ≡ unwrap_or (option_map q (cond a (Some h) (clause_at held i))) false
    go true true e f s l = rw (e, f) refl
    go true false e f s l = s ∙ (ap (λ o. unwrap_or (option_map q o) false) (none_at i held (subst (λ n. list_all (λ k. ltb n k.id) held ≡ true) (eqb-true _ _ e) l)) ∙ sym f)
    go false true e f s l = rw e s
    go false false e f s l = s

beq_self : (b : Bool) → beq b b ≡ true
beq_self true = refl
beq_self false = refl

-- the clause of the id of a held clause is itself
named_self : (q : Held → Bool) (held : List Held) → rising held ≡ true → list_all (λ h. beq (passes_at q held h.id) (q h)) held ≡ true
named_self q [] r = refl
named_self q (h ∷ held) r =
    let p : (list_all (λ k. ltb h.id k.id) held ≡ true) × (rising held ≡ true) = and_parts _ _ r in
    and_from _ _ (rw (eq-eqb h.id h.id refl) (beq_self (q h)))
    (both_all (λ k. ltb h.id k.id) (λ k. beq (passes_at q held k.id) (q k)) (λ k. beq (passes_at q (h ∷ held) k.id) (q k))
    (λ k l e. rw (ne_eqb h.id k.id (λ z. absurd (let m : h.id < k.id = ltb-true _ _ l in omega arith))) e) held p.0 (named_self q held p.1))

-- numbers that pass a test are those of the clauses that do
filter_numbers : (p : ℕ → Bool) (q : Held → Bool) (held : List Held) → list_all (λ h. beq (p h.id) (q h)) held ≡ true → filter p (map (λ h. h.id) held) ≡ map (λ h. h.id) (filter q held)
filter_numbers p q [] e = refl
filter_numbers p q (h ∷ held) e =
    let a : (beq (p h.id) (q h) ≡ true) × (list_all (λ k. beq (p k.id) (q k)) held ≡ true) = and_parts _ _ e in
    go (p h.id) (q h) (beq_true _ _ a.0) (filter_numbers p q held a.1)
  where
    go : (x y : Bool) → x ≡ y → filter p (map (λ k. k.id) held) ≡ map (λ k. k.id) (filter q held) → cond x (h.id ∷ filter p (map (λ k. k.id) held)) (filter p (map (λ k. k.id) held)) ≡ map (λ k. k.id) (cond y (h ∷ filter q held) (filter q held))
    go true true s r = ap (λ z. h.id ∷ z) r
    go false false s r = r
    go true false s r = absurd (true≢false s)
    go false true s r = absurd (false≢true s)

-- what passes the first test passes the second, so that the second leaves none of it out
filter_less : (p q : ℕ → Bool) (ns : List ℕ) → list_all (λ n. not (p n) || q n) ns ≡ true → filter p (filter q ns) ≡ filter p ns
filter_less p q [] e = refl
filter_less p q (n ∷ ns) e =
    let a : ((not (p n) || q n) ≡ true) × (list_all (λ m. not (p m) || q m) ns ≡ true) = and_parts _ _ e in
    go (p n) (q n) refl a.0 (filter_less p q ns a.1)
  where
    go : (x y : Bool) → p n ≡ x → (not x || y) ≡ true → filter p (filter q ns) ≡ filter p ns → filter p (cond y (n ∷ filter q ns) (filter q ns)) ≡ cond x (n ∷ filter p ns) (filter p ns)
    go true true s f r = rw s (ap (λ z. n ∷ z) r)
    go false true s f r = rw s r
    go false false s f r = r
    go true false s f r = absurd (false≢true f)

-- of the clauses up to an id, where that of the id is left out, those that are left stood before it
upto_left : (q : Held → Bool) (held : List Held) (id : ClauseId) → rising held ≡ true → is_live held id.0 ≡ true → ((h : Held) → clause_at held id.0 ≡ Some h → q h ≡ false)
    → filter (λ h. nat_le h.id id.0) (filter q held) ≡ filter q (before held (Some id))
upto_left q [] id r live gone = refl
upto_left q (h ∷ held) id r live gone =
    let p : (list_all (λ k. ltb h.id k.id) held ≡ true) × (rising held ≡ true) = and_parts _ _ r in
    go (h.id == id.0) refl p.0 (λ l g. upto_left q held id p.1 l g) live gone
  where
    upto : Held → Bool
    upto k = nat_le k.id id.0

    past : h.id ≡ id.0 → list_all (λ k. ltb h.id k.id) held ≡ true → filter (λ k. nat_le k.id id.0) (filter q held) ≡ []
    past e l =
        filter_none (λ k. nat_le k.id id.0) (filter q held)
        (all_filter (λ k. ltb h.id k.id) q (λ k. not (nat_le k.id id.0)) (λ k m t. ap not (lt-leb k.id id.0 (let u : h.id < k.id = ltb-true _ _ m in omega arith))) held l)

    keep : (c : Bool) → nat_le h.id id.0 ≡ true → filter (λ k. nat_le k.id id.0) (filter q held) ≡ filter q (before held (Some id))
        → filter (λ k. nat_le k.id id.0) (cond c (h ∷ filter q held) (filter q held)) ≡ cond c (h ∷ filter q (before held (Some id))) (filter q (before held (Some id)))
    keep true l r = rw l (ap (λ z. h ∷ z) r)
    keep false l r = r

    go : (b : Bool) → (h.id == id.0) ≡ b → list_all (λ k. ltb h.id k.id) held ≡ true
        → (is_live held id.0 ≡ true → ((k : Held) → clause_at held id.0 ≡ Some k → q k ≡ false) → filter (λ k. nat_le k.id id.0) (filter q held) ≡ filter q (before held (Some id)))
        → is_some (cond b (Some h) (clause_at held id.0)) ≡ true → ((k : Held) → cond b (Some h) (clause_at held id.0) ≡ Some k → q k ≡ false)
        → filter (λ k. nat_le k.id id.0) (cond (q h) (h ∷ filter q held) (filter q held)) ≡ filter q (cond b [] (h ∷ before held (Some id)))
    go true e l again live gone = rw (gone h refl) (past (eqb-true _ _ e) l)
    go false e l again live gone = keep (q h) (le-leb h.id id.0 (let m : h.id < id.0 = live_above h.id id.0 held l live in omega arith)) (again live gone)

-- one clause more is passed
pub noted_more : (store : Store) (at : Option ClauseId) (id : ClauseId) (next : Option ClauseId) (ids new : Option (Vec ClauseId Global)) → IsKept store → at ≡ Some id → is_live store.held id.0 ≡ true
    → IfSome next (λ n. is_live store.held n.0 ≡ true) → before store.held next ≡ before store.held (Some id) ++ option_to_list (clause_at store.held id.0)
    → numbers_in new ≡ noted (is_long_at store.held id.0) id.0 (numbers_in ids) → NotesLong store at ids → NotesLong store next new
noted_more store at id next ids new kept e live nlive step made notes =
    subst (λ (o : Option (List ℕ)). IfSome o (HasNoted store next)) (sym made) (go (numbers_in ids) (subst (λ (a : Option ClauseId). IfSome (numbers_in ids) (HasNoted store a)) e notes))
  where
    held : List Held
    held = store.held

    above : (n : Option ClauseId) → next ≡ n → IfSome n (λ m. is_live held m.0 ≡ true) → IfSome n (λ m. id.0 < m.0)
    above None q l = tt
    above (Some m) q l =
        let (h, f) = live_clause held id.0 live in
        let one : before held (Some m) ≡ before held (Some id) ++ h ∷ [] = ap (before held) (sym q) ∙ (step ∙ ap (λ (o : Option Held). before held (Some id) ++ option_to_list o) f) in
        let all : list_all (λ k. ltb k.id m.0) (before held (Some id) ++ h ∷ []) ≡ true = subst (λ (hs : List Held). list_all (λ k. ltb k.id m.0) hs ≡ true) one (before_below held m kept.rises l) in
        let last : list_all (λ k. ltb k.id m.0) (h ∷ []) ≡ true = (and_parts (list_all (λ k. ltb k.id m.0) (before held (Some id))) (list_all (λ k. ltb k.id m.0) (h ∷ [])) (sym (list_all-append (λ k. ltb k.id m.0) (before held (Some id)) (h ∷ [])) ∙ all)).1 in
        let u : h.id < m.0 = ltb-true _ _ (and_parts (ltb h.id m.0) true last).0 in
        let w : h.id ≡ id.0 = found_id held id.0 h f in
        omega arith

    below : (ns : List ℕ) (b : Bool) (n : Option ClauseId) → IfSome n (λ m. id.0 < m.0) → list_all (λ k. ltb k id.0) ns ≡ true → IfSome n (λ m. list_all (λ k. ltb k m.0) (cond b (ns ++ id.0 ∷ []) ns) ≡ true)
    below ns b None l a = tt
    below ns b (Some m) l a = more b (all_mono (λ k. ltb k id.0) (λ k. ltb k m.0) (λ k t. lt-ltb k m.0 (let u : k < id.0 = ltb-true _ _ t in omega arith)) ns a)
      where
        more : (c : Bool) → list_all (λ k. ltb k m.0) ns ≡ true → list_all (λ k. ltb k m.0) (cond c (ns ++ id.0 ∷ []) ns) ≡ true
        more true t = all_push (λ k. ltb k m.0) ns id.0 t (lt-ltb id.0 m.0 l)
        more false t = t

    step_live : (ns : List ℕ) → filter (is_live held) ns ≡ map (λ k. k.id) (filter is_long (before held (Some id))) → filter (is_live held) (cond (is_long_at held id.0) (ns ++ id.0 ∷ []) ns) ≡ map (λ k. k.id) (filter is_long (before held next))
    step_live ns a =
        let (h, f) = live_clause held id.0 live in
        let one : before held next ≡ before held (Some id) ++ h ∷ [] = step ∙ ap (λ (o : Option Held). before held (Some id) ++ option_to_list o) f in
        let same : is_long_at held id.0 ≡ is_long h = ap (λ (o : Option Held). unwrap_or (option_map is_long o) false) f in
        let parts : map (λ (k : Held). k.id) (filter is_long (before held next)) ≡ map (λ (k : Held). k.id) (filter is_long (before held (Some id))) ++ map (λ (k : Held). k.id) (filter is_long (h ∷ [])) =
        ap (λ (hs : List Held). map (λ (k : Held). k.id) (filter is_long hs)) one
        ∙ (ap (map (λ (k : Held). k.id)) (filter-append is_long (before held (Some id)) (h ∷ [])) ∙ map-append (λ (k : Held). k.id) (filter is_long (before held (Some id))) (filter is_long (h ∷ []))) in
        ap (λ (b : Bool). filter (is_live held) (cond b (ns ++ id.0 ∷ []) ns)) same ∙ (last h (found_id held id.0 h f) (is_long h) ∙ sym parts)
      where
        last : (h : Held) → h.id ≡ id.0 → (b : Bool) → filter (is_live held) (cond b (ns ++ id.0 ∷ []) ns) ≡ map (λ k. k.id) (filter is_long (before held (Some id))) ++ map (λ k. k.id) (cond b (h ∷ []) [])
        last h w true =
            filter-append (is_live held) ns (id.0 ∷ [])
            ∙ ap₂ {C = List ℕ} ◌++◌ a (ap (λ (b : Bool). cond {A = List ℕ} b (id.0 ∷ []) []) live ∙ ap (λ (n : ℕ). n ∷ []) (sym w))
        last h w false = a ∙ sym (append-nil (map (λ (k : Held). k.id) (filter is_long (before held (Some id)))))

    go : (o : Option (List ℕ)) → IfSome o (HasNoted store (Some id)) → IfSome (noted (is_long_at held id.0) id.0 o) (HasNoted store next)
    go None n = tt
    go (Some ns) n = record { live = step_live ns n.live; below = below ns (is_long_at held id.0) next (above next refl nlive) n.below }

-- at the start none are noted
pub noted_none : (store : Store) (at : Option ClauseId) (ids : Option (Vec ClauseId Global)) → before store.held at ≡ [] → IfSome (numbers_in ids) (λ ns. ns ≡ []) → NotesLong store at ids
noted_none store at ids b e = go (numbers_in ids) e
  where
    under : (a : Option ClauseId) (ns : List ℕ) → ns ≡ [] → IfSome a (λ m. list_all (λ k. ltb k m.0) ns ≡ true)
    under None ns f = tt
    under (Some m) ns f = ap (list_all (λ k. ltb k m.0)) f

    go : (o : Option (List ℕ)) → IfSome o (λ ns. ns ≡ []) → IfSome o (HasNoted store at)
    go None f = tt
    go (Some ns) f = record { live = ap (filter (is_live store.held)) f ∙ sym (ap (λ (hs : List Held). map (λ (k : Held). k.id) (filter is_long hs)) b); below = under at ns f }

-- the clause of one literal holds the literal's variable
hit_of : (k : Kernel) (v : ℕ) (id : ClauseId) (l : InLit) → option_map (λ h. h.lits) (clause_at k.store.held id.0) ≡ Some (l ∷ []) → (own_of k.maps l).var.0 ≡ v → (h : Held) → clause_at k.store.held id.0 ≡ Some h → touches k.maps v h ≡ true
hit_of k v id l lits own h e =
    ap (λ (c : List InLit). mentions v (own_clause k.maps c)) (same (sym (ap (option_map (λ (z : Held). z.lits)) e) ∙ lits)) ∙ or_left _ _ (eq-eqb _ _ own)
  where
    same : {x y : List InLit} → Some x ≡ Some y → x ≡ y
    same q = cc

-- what is known of the clauses that pass a test
unfiltered : (q p : Held → Bool) (held : List Held) → list_all p (filter q held) ≡ true → list_all (λ h. not (q h) || p h) held ≡ true
unfiltered q p [] a = refl
unfiltered q p (h ∷ held) a = go (q h) refl (λ t. unfiltered q p held t) a
  where
    go : (b : Bool) → q h ≡ b → (list_all p (filter q held) ≡ true → list_all (λ k. not (q k) || p k) held ≡ true) → list_all p (cond b (h ∷ filter q held) (filter q held)) ≡ true → list_all (λ k. not (q k) || p k) (h ∷ held) ≡ true
    go true e f a = let c : (p h ≡ true) × (list_all p (filter q held) ≡ true) = and_parts _ _ a in and_from _ _ (or_right _ _ c.0) (f c.1)
    go false e f a = and_from _ _ (or_left _ _ (ap not e)) (f a)

-- where a variable is fixed by the clause of an id, the live ones of the ids that were noted are those of the long learned clauses up to it
pub noted_fixed : (k n : Kernel) (v : ℕ) (id : ClauseId) (l : InLit) (next : Option ClauseId) (ids : Option (Vec ClauseId Global)) → IsKept k.store → IsKept n.store → Keeps k n v → option_map (λ h. h.lits) (clause_at k.store.held id.0) ≡ Some (l ∷ []) → (own_of k.maps l).var.0 ≡ v
    → IfSome next (λ m. is_live n.store.held m.0 ≡ true) → before n.store.held next ≡ filter (λ h. nat_le h.id id.0) n.store.held → NotesLong k.store (Some id) ids → NotesLong n.store next ids
noted_fixed k n v id l next ids kept nkept keeps lits own nlive step notes = go (numbers_in ids) notes
  where
    old : List Held
    old = k.store.held

    stays : Held → Bool
    stays h = not (touches k.maps v h)

    live : is_live old id.0 ≡ true
    live = some_live (clause_at old id.0) lits
      where
        some_live : (o : Option Held) → option_map (λ h. h.lits) o ≡ Some (l ∷ []) → is_some o ≡ true
        some_live None e = absurd cc
        some_live (Some h) e = refl

    gone : (h : Held) → clause_at old id.0 ≡ Some h → stays h ≡ false
    gone h e = ap not (hit_of k v id l lits own h e)

    given : id.0 < k.store.given
    given =
        let (h, e) = live_clause old id.0 live in
        let a : h.id < k.store.given = ltb-true _ _ (all_found (λ z. ltb z.id k.store.given) old id.0 h e kept.below) in
        let b : h.id ≡ id.0 = found_id old id.0 h e in
        omega arith

    -- an old id is live where its clause stays
    still : (i : ℕ) → ltb i k.store.given ≡ true → is_live n.store.held i ≡ passes_at stays old i
    still i e =
        ap (λ (hs : List Held). is_live hs i) keeps.held
        ∙ (ap is_some (find-append (λ (h : Held). h.id == i) (filter stays old) keeps.news ∙ ap (λ (o : Option Held). option_or (clause_at (filter stays old) i) o) (none_at i keeps.news news))
        ∙ (or_none (clause_at (filter stays old) i) ∙ left_live stays old i kept.rises))
      where
        news : list_all (λ h. ltb i h.id) keeps.news ≡ true
        news = all_mono (λ h. nat_le k.store.given h.id) (λ h. ltb i h.id) (λ h t. lt-ltb i h.id (let a : k.store.given ≤ h.id = leb-true _ _ t in let b : i < k.store.given = ltb-true _ _ e in omega arith)) keeps.news keeps.fresh

        or_none : (o : Option Held) → is_some (option_or o None) ≡ is_some o
        or_none None = refl
        or_none (Some h) = refl

    -- and so it was live
    was_live : (i : ℕ) → ltb i id.0 ≡ true → (not (is_live n.store.held i) || is_live old i) ≡ true
    was_live i e =
        ap (λ (b : Bool). not b || is_live old i) (still i (lt-ltb i k.store.given (let a : i < id.0 = ltb-true _ _ e in let b : id.0 < k.store.given = given in omega arith)))
        ∙ each (clause_at old i)
      where
        each : (o : Option Held) → (not (unwrap_or (option_map stays o) false) || is_some o) ≡ true
        each None = refl
        each (Some h) = or_right (not (stays h)) true refl

    -- of the clauses up to the id those that stay are left
    left : before n.store.held next ≡ filter stays (before old (Some id))
    left =
        step
        ∙ (ap (filter (λ h. nat_le h.id id.0)) keeps.held
        ∙ (filter-append (λ (h : Held). nat_le h.id id.0) (filter stays old) keeps.news
        ∙ (ap (λ (hs : List Held). filter (λ h. nat_le h.id id.0) (filter stays old) ++ hs) (filter_none (λ h. nat_le h.id id.0) keeps.news news)
        ∙ (append-nil (filter (λ h. nat_le h.id id.0) (filter stays old)) ∙ upto_left stays old id kept.rises live gone))))
      where
        news : list_all (λ h. not (nat_le h.id id.0)) keeps.news ≡ true
        news = all_mono (λ h. nat_le k.store.given h.id) (λ h. not (nat_le h.id id.0)) (λ h t. ap not (lt-leb h.id id.0 (let a : k.store.given ≤ h.id = leb-true _ _ t in let b : id.0 < k.store.given = given in omega arith))) keeps.news keeps.fresh

    told : list_all (λ h. beq (is_live n.store.held h.id) (stays h)) (filter is_long (before old (Some id))) ≡ true
    told =
        all_filter (λ h. beq (is_live n.store.held h.id) (stays h)) is_long (λ h. beq (is_live n.store.held h.id) (stays h)) (λ h a b. a) (before old (Some id))
        (before_pass (λ h. beq (is_live n.store.held h.id) (stays h)) old id
        (both_all (λ h. ltb h.id k.store.given) (λ h. beq (passes_at stays old h.id) (stays h)) (λ h. beq (is_live n.store.held h.id) (stays h))
        (λ h a b. ap (λ (c : Bool). beq c (stays h)) (still h.id a) ∙ b) old kept.below (named_self stays old kept.rises)))

    under : (m : Option ClauseId) → next ≡ m → IfSome m (λ j. is_live n.store.held j.0 ≡ true) → (ns : List ℕ) → list_all (λ i. ltb i id.0) ns ≡ true → IfSome m (λ j. list_all (λ i. ltb i j.0) ns ≡ true)
    under None q l ns a = tt
    under (Some j) q l ns a = all_mono (λ i. ltb i id.0) (λ i. ltb i j.0) (λ i t. lt-ltb i j.0 (let u : i < id.0 = ltb-true _ _ t in let w : id.0 < j.0 = past in omega arith)) ns a
      where
        past : id.0 < j.0
        past =
            let (h, f) = live_clause n.store.held j.0 l in
            let w : h.id ≡ j.0 = found_id n.store.held j.0 h f in
            let all : list_all (λ z. ltb z.id j.0) (filter (λ z. nat_le z.id id.0) n.store.held) ≡ true = subst (λ (hs : List Held). list_all (λ z. ltb z.id j.0) hs ≡ true) (ap (before n.store.held) (sym q) ∙ step) (before_below n.store.held j nkept.rises l) in
            after h.id (nat_le h.id id.0) refl w (all_found (λ z. not (nat_le z.id id.0) || ltb z.id j.0) n.store.held j.0 h f (unfiltered (λ z. nat_le z.id id.0) (λ z. ltb z.id j.0) n.store.held all))
          where
            after : (i : ℕ) (b : Bool) → nat_le i id.0 ≡ b → i ≡ j.0 → (not b || ltb i j.0) ≡ true → id.0 < j.0
            after i true e w t = absurd (let u : i < j.0 = ltb-true _ _ t in omega arith)
            after i false e w t = let u : id.0 < i = leb-false _ _ e in omega arith

    go : (o : Option (List ℕ)) → IfSome o (HasNoted k.store (Some id)) → IfSome o (HasNoted n.store next)
    go None a = tt
    go (Some ns) a =
        record {
          live =
              sym (filter_less (is_live n.store.held) (is_live old) ns (all_mono (λ i. ltb i id.0) (λ i. not (is_live n.store.held i) || is_live old i) was_live ns a.below))
              ∙ (ap (filter (is_live n.store.held)) a.live
              ∙ (filter_numbers (is_live n.store.held) stays (filter is_long (before old (Some id))) told
              ∙ ap (map (λ (h : Held). h.id)) (filter_swap stays is_long (before old (Some id)) ∙ ap (filter is_long) (sym left))));
          below = under next refl nlive ns a.below;
        }

-- the numbers of the ids whose numbers pass a test
pub numbers_filter : (p : ℕ → Bool) (ids : List ClauseId) → map (λ id. id.0) (filter (λ id. p id.0) ids) ≡ filter p (map (λ id. id.0) ids)
numbers_filter p [] = refl
numbers_filter p (x ∷ ids) = go (p x.0) (numbers_filter p ids)
  where
    go : (b : Bool) → map (λ id. id.0) (filter (λ id. p id.0) ids) ≡ filter p (map (λ id. id.0) ids)
        → map (λ (id : ClauseId). id.0) (cond b (x ∷ filter (λ id. p id.0) ids) (filter (λ id. p id.0) ids)) ≡ cond b (x.0 ∷ filter p (map (λ id. id.0) ids)) (filter p (map (λ id. id.0) ids))
    go true r = ap (λ z. x.0 ∷ z) r
    go false r = r
