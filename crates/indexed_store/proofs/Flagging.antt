-- What flags tell after some were made, set or cleared, and the clauses of variables that are flagged.
use Rattle.std.proofs.Common.{◌≡◌, ℕ, zero, suc, ◌<◌, ◌==◌, Bool, true, false, cond, not, ◌||◌, ◌&&◌, ltb, List, [], ◌∷◌, ◌++◌, Some, refl, sym, ap, ◌∙◌, arith, map, filter, set, option_map, append-nil, eqb-true, ne_eqb, ltb-true}
use Rattle.std.proofs.lemmas.Bool.{and_parts, and_from, eqb-false, false≢true}
use Rattle.std.proofs.lemmas.List.{map-append, get_or-set_other}
use Rattle.std.proofs.lemmas.List.Elements.{filter-append}
use Rattle.std.proofs.lemmas.List.Folds.{list_any-append}
use Rattle.std.proofs.lemmas.Option.{same_Some}
use Rattle.std.specs.List.{list_all, list_any}
use Rattle.sat_lits.specs.ListLaws.{all_mono, any_map}
use Rattle.sat_lits.specs.declared.literal.InLit.{InLit}
use Rattle.clause_store.specs.Store.{Held, clause_at, hard_of, rising, without}
use Rattle.state_laws.specs.Resolution.{is_of, mentions}
use Rattle.indexed_store.specs.Lists.{is_in}
use Rattle.indexed_store.specs.Bounds.{as_own, are_bounded, hard_with, is_bounded}
use Rattle.indexed_store.specs.Flags.{is_flagged, is_hard_with}

-- one flag more that is not set
pub flag_push : (flags : List Bool) (v : ℕ) → is_flagged (flags ++ false ∷ []) v ≡ is_flagged flags v
flag_push [] zero = refl
flag_push [] (suc v) = refl
flag_push (x ∷ flags) zero = refl
flag_push (x ∷ flags) (suc v) = flag_push flags v

flag_off : (flags : List Bool) (i : ℕ) → is_flagged (set flags i false) i ≡ false
flag_off [] i = refl
flag_off (x ∷ flags) zero = refl
flag_off (x ∷ flags) (suc i) = flag_off flags i

flag_cleared : (flags : List Bool) (i v : ℕ) → is_flagged (set flags i false) v ≡ (not (i == v) && is_flagged flags v)
flag_cleared flags i v = go (i == v) refl
  where
    go : (b : Bool) → (i == v) ≡ b → is_flagged (set flags i false) v ≡ (not b && is_flagged flags v)
    go true e = ap (λ n. is_flagged (set flags i false) n) (sym (eqb-true i v e)) ∙ flag_off flags i
    go false e = get_or-set_other flags i v false false (λ q. eqb-false i v e (sym q))

-- the flags of the variables of one literal more are cleared
pub flag_step : (olds flags : List Bool) (seen : List InLit) (l : InLit) (v : ℕ) → is_flagged flags v ≡ (not (list_any (is_in v) seen) && is_flagged olds v)
    → is_flagged (set flags l.var.0 false) v ≡ (not (list_any (is_in v) (seen ++ l ∷ [])) && is_flagged olds v)
flag_step olds flags seen l v e =
    flag_cleared flags l.var.0 v
    ∙ (ap (λ b. not (l.var.0 == v) && b) e
    ∙ (both (l.var.0 == v) (list_any (is_in v) seen) (is_flagged olds v)
    ∙ ap (λ b. not b && is_flagged olds v) (sym (list_any-append (is_in v) seen (l ∷ [])))))
  where
    both : (a b c : Bool) → (not a && (not b && c)) ≡ (not (b || (a || false)) && c)
    both true true c = refl
    both true false c = refl
    both false true c = refl
    both false false c = refl

-- one variable more is flagged
pub aside_set : (flags : List Bool) (held : List Held) (i v : ℕ) → ((w : ℕ) → is_flagged flags w ≡ true → is_bounded w held ≡ false) → is_bounded i held ≡ false → is_flagged (set flags i true) v ≡ true → is_bounded v held ≡ false
aside_set flags held i v h f t = go (v == i) refl
  where
    go : (b : Bool) → (v == i) ≡ b → is_bounded v held ≡ false
    go true e = ap (λ n. is_bounded n held) (eqb-true v i e) ∙ f
    go false e = h v (sym (get_or-set_other flags i v true false (eqb-false v i e)) ∙ t)

not_true : (x : Bool) → not x ≡ true → x ≡ false
not_true true e = absurd (false≢true e)
not_true false e = refl

-- a clause that is not hard or does not hold a variable adds nothing to its hard clauses
with_push : (v : ℕ) (hs : List Held) (h : Held) → is_hard_with v h.learned h.lits ≡ false → hard_with v (hs ++ h ∷ []) ≡ hard_with v hs
with_push v hs h e =
    ap (λ z. filter (mentions v) (map (map as_own) (map (λ (c : Held). c.lits) z))) (filter-append (λ (c : Held). not c.learned) hs (h ∷ []))
    ∙ (ap (λ z. filter (mentions v) (map (map as_own) z)) (map-append (λ (c : Held). c.lits) (filter (λ (c : Held). not c.learned) hs) (filter (λ (c : Held). not c.learned) (h ∷ [])))
    ∙ (ap (filter (mentions v)) (map-append (map as_own) (hard_of hs) (hard_of (h ∷ [])))
    ∙ (filter-append (mentions v) (map (map as_own) (hard_of hs)) (map (map as_own) (hard_of (h ∷ [])))
    ∙ (ap (λ z. hard_with v hs ++ z) (last h.learned e) ∙ append-nil (hard_with v hs)))))
  where
    last : (b : Bool) → (not b && list_any (is_in v) h.lits) ≡ false → filter (mentions v) (map (map as_own) (map (λ (c : Held). c.lits) (cond (not b) (h ∷ []) []))) ≡ []
    last true f = refl
    last false f = ap (λ x. cond x (map as_own h.lits ∷ []) []) (any_map (is_of v) as_own h.lits ∙ f)

-- in front of others as well
with_skip : (v : ℕ) (h : Held) (hs : List Held) → is_hard_with v h.learned h.lits ≡ false → hard_with v (h ∷ hs) ≡ hard_with v hs
with_skip v h hs e = go h.learned e
  where
    go : (b : Bool) → (not b && list_any (is_in v) h.lits) ≡ false
        → filter (mentions v) (map (map as_own) (map (λ (c : Held). c.lits) (cond (not b) (h ∷ filter (λ (c : Held). not c.learned) hs) (filter (λ (c : Held). not c.learned) hs)))) ≡ hard_with v hs
    go true f = refl
    go false f = ap (λ x. cond x (map as_own h.lits ∷ hard_with v hs) (hard_with v hs)) (any_map (is_of v) as_own h.lits ∙ f)

with_more : (v : ℕ) (h : Held) (ks hs : List Held) → hard_with v ks ≡ hard_with v hs → hard_with v (h ∷ ks) ≡ hard_with v (h ∷ hs)
with_more v h ks hs r = go h.learned
  where
    go : (b : Bool) → filter (mentions v) (map (map as_own) (map (λ (c : Held). c.lits) (cond (not b) (h ∷ filter (λ (c : Held). not c.learned) ks) (filter (λ (c : Held). not c.learned) ks))))
        ≡ filter (mentions v) (map (map as_own) (map (λ (c : Held). c.lits) (cond (not b) (h ∷ filter (λ (c : Held). not c.learned) hs) (filter (λ (c : Held). not c.learned) hs))))
    go true = r
    go false = ap (λ z. cond (mentions v (map as_own h.lits)) (map as_own h.lits ∷ z) z) r

-- whether a clause has another id, or takes nothing from the hard clauses of a variable where it is dropped
abbrev spares : ℕ → ℕ → Held → Bool
spares v i h = not (h.id == i) || not (is_hard_with v h.learned h.lits)

with_without : (v i : ℕ) (hs : List Held) → list_all (spares v i) hs ≡ true → hard_with v (without i hs) ≡ hard_with v hs
with_without v i [] e = refl
with_without v i (h ∷ hs) e =
    let p : (spares v i h ≡ true) × (list_all (spares v i) hs ≡ true) = and_parts _ _ e in
    go (h.id == i) p.0 (with_without v i hs p.1)
  where
    go : (a : Bool) → (not a || not (is_hard_with v h.learned h.lits)) ≡ true → hard_with v (without i hs) ≡ hard_with v hs → hard_with v (cond (not a) (h ∷ without i hs) (without i hs)) ≡ hard_with v (h ∷ hs)
    go true f r = r ∙ sym (with_skip v h hs (not_true (is_hard_with v h.learned h.lits) f))
    go false f r = with_more v h (without i hs) hs r

-- the clause of an id alone has it
only_one : (v i : ℕ) (hs : List Held) (lits : List InLit) (b : Bool) → rising hs ≡ true → option_map (λ h. h.lits) (clause_at hs i) ≡ Some lits → option_map (λ h. h.learned) (clause_at hs i) ≡ Some b → is_hard_with v b lits ≡ false
    → list_all (spares v i) hs ≡ true
only_one v i [] lits b r e f n = refl
only_one v i (h ∷ hs) lits b r e f n =
    let p : (list_all (λ k. ltb h.id k.id) hs ≡ true) × (rising hs ≡ true) = and_parts _ _ r in
    go (h.id == i) refl e f p.0 (only_one v i hs lits b p.1)
  where
    later : (h.id == i) ≡ true → (k : Held) → ltb h.id k.id ≡ true → spares v i k ≡ true
    later q k l =
        let d : h.id ≡ i = eqb-true _ _ q in
        let m : h.id < k.id = ltb-true _ _ l in
        ap (λ x. not x || not (is_hard_with v k.learned k.lits)) (ne_eqb k.id i (λ z. absurd (omega (arith, d, m, z))))

    go : (a : Bool) → (h.id == i) ≡ a → option_map (λ (c : Held). c.lits) (cond a (Some h) (clause_at hs i)) ≡ Some lits → option_map (λ (c : Held). c.learned) (cond a (Some h) (clause_at hs i)) ≡ Some b → list_all (λ k. ltb h.id k.id) hs ≡ true
        → (option_map (λ (c : Held). c.lits) (clause_at hs i) ≡ Some lits → option_map (λ (c : Held). c.learned) (clause_at hs i) ≡ Some b → is_hard_with v b lits ≡ false → list_all (spares v i) hs ≡ true)
        → ((not a || not (is_hard_with v h.learned h.lits)) && list_all (spares v i) hs) ≡ true
    go true q x y a s =
        and_from _ _
        (ap (λ z. not (not z && list_any (is_in v) h.lits)) (same_Some h.learned b y) ∙ (ap (λ z. not (not b && list_any (is_in v) z)) (same_Some h.lits lits x) ∙ ap not n))
        (all_mono (λ (k : Held). ltb h.id k.id) (spares v i) (later q) hs a)
    go false q x y a s = s x y n

-- flagged variables stay over the bound where a clause is added
pub aside_more : (hs news : List Held) (h : Held) (v : ℕ) (b : Bool) → news ≡ hs ++ h ∷ [] → (not (is_hard_with v h.learned h.lits) && b) ≡ true → (b ≡ true → is_bounded v hs ≡ false) → is_bounded v news ≡ false
aside_more hs news h v b n e f =
    let p : (not (is_hard_with v h.learned h.lits) ≡ true) × (b ≡ true) = and_parts _ _ e in
    ap (are_bounded v) (ap (hard_with v) n ∙ with_push v hs h (not_true (is_hard_with v h.learned h.lits) p.0)) ∙ f p.1

-- and where the clause of an id is dropped
pub aside_less : (hs : List Held) (i v : ℕ) (lits : List InLit) (learned b : Bool) → rising hs ≡ true → option_map (λ h. h.lits) (clause_at hs i) ≡ Some lits → option_map (λ h. h.learned) (clause_at hs i) ≡ Some learned
    → (not (is_hard_with v learned lits) && b) ≡ true → (b ≡ true → is_bounded v hs ≡ false) → is_bounded v (without i hs) ≡ false
aside_less hs i v lits learned b r x y e f =
    let p : (not (is_hard_with v learned lits) ≡ true) × (b ≡ true) = and_parts _ _ e in
    ap (are_bounded v) (with_without v i hs (only_one v i hs lits learned r x y (not_true (is_hard_with v learned lits) p.0))) ∙ f p.1
