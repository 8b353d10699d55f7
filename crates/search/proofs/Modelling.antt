-- A quiet trail over all variables in use is a model.
use Rattle.std.proofs.Common.{◌≡◌, ◌<◌, ◌≤◌, ℕ, suc, Bool, true, false, cond, not, eqb, leb, ◌&&◌, List, [], ◌∷◌, length, map, filter, get_or, Option, Some, None, refl, sym, ap, ◌∙◌, ⊎_elim, arith, ltb-true}
use Rattle.std.specs.Option.{is_some, unwrap_or}
use Rattle.std.specs.Bool.{beq}
use Rattle.std.proofs.lemmas.Bool.{and_parts, and_from, or_cases, not-true, false≢true, both_ways}
use Rattle.std.proofs.lemmas.Option.{same_Some}
use Rattle.std.specs.List.{list_any, list_all}
use Rattle.sat_lits.specs.Truth.{signed, clause_value}
use Rattle.sat_lits.specs.InLits.{same_lit}
use Rattle.sat_lits.specs.ListLaws.{all_or_any, all_mono, any_mono, all_any_mono, both_all, all_at}
use Rattle.sat_lits.specs.declared.literal.InLit.{InLit}
use Rattle.trail.specs.declared.trail.Step.{Step}
use Rattle.trail.specs.Trail.{shaped, true_in, set_in, unset_in, step_in, value_in}
use Rattle.trail.specs.Laws.{set_in-step_in, value_in-step}
use Rattle.clause_store.specs.Store.{Held, hard_of}
use Rattle.propagate.specs.Units.{quiet_clause, all_quiet}
use Rattle.pick_order.specs.declared.preference.Preference.{Preference}
use Rattle.pick_order.specs.Preferences.{AllSet, preference_in}
use Rattle.state_laws.specs.Held.{in_value}
use Rattle.state_laws.specs.Kernel.{Kernel}
use Rattle.search.specs.declared.work.Work.{Work}
use Rattle.search.specs.InUse.{in_use, is_among, lits_among}
use Rattle.search.specs.Ordering.{HasJust}
use Rattle.search.specs.Assumed.{positive, assumption_at}
use Rattle.search.specs.Answers.{IsInnerModel}
use Rattle.search.specs.Searching.{AtMove}
use Rattle.search.proofs.Using.{among_below}

-- a variable in use is set where the order finds none that is not
pub all_set : (order : List (Option Preference)) (numbers : List ℕ) (t : List Step) (v : ℕ) → HasJust order numbers → AllSet order t → is_among numbers v ≡ true → set_in t v ≡ true
all_set order numbers t v j a e = go (preference_in order v) refl (j v ∙ e)
  where
    go : (o : Option Preference) → preference_in order v ≡ o → is_some o ≡ true → set_in t v ≡ true
    go None f g = absurd (false≢true g)
    go (Some p) f g = a v p f

true_set : (t : List Step) (l : InLit) → true_in t l ≡ true → set_in t l.var.0 ≡ true
true_set t l e = any_mono (λ (s : Step). same_lit s.lit l) (λ (s : Step). eqb s.lit.var.0 l.var.0) (λ s x. (and_parts (eqb s.lit.var.0 l.var.0) (beq s.lit.negative l.negative) x).0) t e

-- a true literal is true under the values of the trail
true_value : (t : List Step) (values : List Bool) (n : ℕ) (l : InLit) → shaped t ≡ true → ((v : ℕ) → v < n → get_or values v false ≡ unwrap_or (value_in t (positive v)) false) → l.var.0 < n → true_in t l ≡ true → in_value values l ≡ true
true_value t values n l e h b x = ap (signed l.negative) (h l.var.0 b) ∙ go (step_in t l.var.0) refl (sym (set_in-step_in t l.var.0) ∙ true_set t l x)
  where
    sign : (m k : Bool) → beq m k ≡ true → signed k (beq m false) ≡ true
    sign true true f = refl
    sign true false f = absurd (false≢true f)
    sign false true f = absurd (false≢true f)
    sign false false f = refl

    go : (o : Option Step) → step_in t l.var.0 ≡ o → is_some o ≡ true → signed l.negative (unwrap_or (value_in t (positive l.var.0)) false) ≡ true
    go None f g = absurd (false≢true g)
    go (Some s) f g =
        let a : value_in t l ≡ Some (beq s.lit.negative l.negative) = value_in-step t l s e f in
        let c : value_in t l ≡ Some true = ap (λ (z : Bool). cond z (Some true) (cond (list_any (λ (r : Step). (eqb r.lit.var.0 l.var.0) && not (beq r.lit.negative l.negative)) t) (Some false) None)) x in
        ap (λ (z : Option Bool). signed l.negative (unwrap_or z false)) (value_in-step t (positive l.var.0) s e f) ∙ sign s.lit.negative l.negative (same_Some (beq s.lit.negative l.negative) true (sym a ∙ c))

-- a quiet clause all of whose variables are set has a true literal
quiet_true : (t : List Step) (lits : List InLit) → list_all (λ l. set_in t l.var.0) lits ≡ true → quiet_clause t lits ≡ true → list_any (true_in t) lits ≡ true
quiet_true t lits s q =
    ⊎_elim (λ (a : list_any (true_in t) lits ≡ true). a)
    (λ (a : list_any (λ l. unset_in t l && list_any (λ m. unset_in t m && not (same_lit l m)) lits) lits ≡ true).
    all_or_any (λ (l : InLit). set_in t l.var.0) (λ (l : InLit). unset_in t l && list_any (λ m. unset_in t m && not (same_lit l m)) lits) (list_any (true_in t) lits ≡ true) lits s a
    (λ l x y. absurd (both_ways _ (not-true _ (and_parts (unset_in t l) (list_any (λ m. unset_in t m && not (same_lit l m)) lits) y).0) x)))
    (or_cases _ _ q)

-- what all clauses pass, the hard ones do
hard_all : (p : List InLit → Bool) (held : List Held) → list_all (λ h. p h.lits) held ≡ true → list_all p (hard_of held) ≡ true
hard_all p [] e = refl
hard_all p (h ∷ rest) e =
    let a : (p h.lits ≡ true) × (list_all (λ c. p c.lits) rest ≡ true) = and_parts _ _ e in
    go (not h.learned) a.0 (hard_all p rest a.1)
  where
    go : (b : Bool) → p h.lits ≡ true → list_all p (hard_of rest) ≡ true → list_all p (map (λ (c : Held). c.lits) (cond b (h ∷ filter (λ c. not c.learned) rest) (filter (λ c. not c.learned) rest))) ≡ true
    go true x y = and_from _ _ x y
    go false x y = y

-- what each place passes, all do
all_places : (p : InLit → Bool) (d : InLit) (xs : List InLit) → ((i : ℕ) → i < length xs → p (get_or xs i d) ≡ true) → list_all p xs ≡ true
all_places p d [] h = refl
all_places p d (x ∷ xs) h = and_from _ _ (h 0 (omega arith)) (all_places p d xs (λ i l. h (suc i) (omega arith)))

pub inner_model : (k : Kernel) (w : Work) (values : List Bool) (n : ℕ) → AtMove k w → all_quiet w.trail.steps k.store.held ≡ true → AllSet w.order.known w.trail.steps → length w.assumptions ≤ w.next → n ≡ length k.maps.owners → length values ≡ n
    → ((v : ℕ) → v < n → get_or values v false ≡ unwrap_or (value_in w.trail.steps (positive v)) false) → IsInnerModel k w.assumptions values
inner_model k w values n m q s z e l h =
    record {
      whole = l ∙ e;
      hard =
          hard_all (clause_value (in_value values)) k.store.held
          (both_all (λ (c : Held). lits_among (in_use k.maps) c.lits) (λ (c : Held). quiet_clause w.trail.steps c.lits) (λ (c : Held). clause_value (in_value values) c.lits) (λ c x y. clause c.lits x y) k.store.held m.tables.clauses q);
      assumed =
          all_places (in_value values) (positive 0) w.assumptions
          (λ i b. true_value w.trail.steps values n (assumption_at w.assumptions i) m.searching.sound h
          (inside (assumption_at w.assumptions i) (all_at (λ (a : InLit). is_among (in_use k.maps) a.var.0) w.assumptions i (positive 0) b m.tables.assumptions))
          (any_mono (λ (r : Step). same_lit r.lit (assumption_at w.assumptions i) && leb r.level (length w.positions)) (λ (r : Step). same_lit r.lit (assumption_at w.assumptions i))
          (λ r x. (and_parts (same_lit r.lit (assumption_at w.assumptions i)) (leb r.level (length w.positions)) x).0) w.trail.steps (m.assumes.so_far i (omega arith))));
    }
  where
    inside : (a : InLit) → is_among (in_use k.maps) a.var.0 ≡ true → a.var.0 < n
    inside a x = let b : a.var.0 < length k.maps.owners = ltb-true _ _ (among_below k.maps.owners a.var.0 x) in omega (arith, e)

    clause : (lits : List InLit) → lits_among (in_use k.maps) lits ≡ true → quiet_clause w.trail.steps lits ≡ true → clause_value (in_value values) lits ≡ true
    clause lits x y =
        all_any_mono (λ (a : InLit). is_among (in_use k.maps) a.var.0) (true_in w.trail.steps) (in_value values) (λ a u v. true_value w.trail.steps values n a m.searching.sound h (inside a u) v) lits x
        (quiet_true w.trail.steps lits (all_mono (λ (a : InLit). is_among (in_use k.maps) a.var.0) (λ (a : InLit). set_in w.trail.steps a.var.0) (λ a u. all_set w.order.known (in_use k.maps) w.trail.steps a.var.0 m.tables.order s u) lits x) y)
