-- A table beside the list of what is marked in it.
use Rattle.std.proofs.Common.{◌≡◌, ◌<◌, ◌≤◌, ℕ, Bool, true, false, eqb, ltb, ◌||◌, List, [], ◌∷◌, ◌++◌, length, set, Option, Some, None, option_map, unwrap_or, refl, sym, ap, subst, ◌∙◌, ⊎_elim, eq-eqb, lt-ltb, ltb-true}
use Rattle.std.proofs.lemmas.Bool.{and_parts, and_from, or_cases, or_left, or_right, eqb-true, eqb-false, false≢true, both_ways, ltb-false}
use Rattle.std.proofs.lemmas.List.{get_or-set_same, get_or-set_other, get_or_past, length-set}
use Rattle.std.proofs.lemmas.List.Folds.{list_any-append, list_all-append}
use Rattle.std.specs.Option.{is_some}
use Rattle.std.specs.List.{list_any, list_all}
use Rattle.sat_lits.specs.ListLaws.{all_or_any}
use Rattle.sat_lits.specs.declared.literal.Inner.{Inner}
use Rattle.trail.specs.declared.trail.Step.{Step}
use Rattle.trail.specs.Trail.{Assignment, IsKept, set_in, step_in}
use Rattle.trail.specs.Laws.{set_in-step_in}
use Rattle.analyze.specs.Marking.{level_or}
use Rattle.analyze.specs.Inside.{flag}

-- while marks are taken away, what is marked in the table stands in the list
pub record Unmarks (table : List Bool) (vars : List Inner) (size : ℕ) : Type 0 where
  pub inside : list_all (λ w. ltb w.0 (length table)) vars ≡ true
  pub covers : (v : ℕ) → flag table v ≡ true → list_any (λ w. eqb w.0 v) vars ≡ true
  pub same_size : length table ≡ size

-- what is marked has a place in the table
pub flag_inside : (table : List Bool) (v : ℕ) → flag table v ≡ true → v < length table
flag_inside table v e = go (ltb v (length table)) refl
  where
    go : (b : Bool) → ltb v (length table) ≡ b → v < length table
    go true f = ltb-true _ _ f
    go false f = absurd (let l : length table ≤ v = ltb-false _ _ f in both_ways _ (get_or_past table v false l) e)

pub unmark_first : (table : List Bool) (vars : List Inner) → ((v : ℕ) → flag table v ≡ list_any (λ w. eqb w.0 v) vars) → Unmarks table vars (length table)
unmark_first table vars h = record { inside = go vars (λ v e. flag_inside table v (h v ∙ e)); covers = λ v e. sym (h v) ∙ e; same_size = refl }
  where
    go : (xs : List Inner) → ((v : ℕ) → list_any (λ w. eqb w.0 v) xs ≡ true → v < length table) → list_all (λ w. ltb w.0 (length table)) xs ≡ true
    go [] k = refl
    go (x ∷ xs) k = and_from _ _ (lt-ltb _ _ (k x.0 (or_left _ _ (eq-eqb x.0 x.0 refl)))) (go xs (λ v e. k v (or_right _ _ e)))

pub unmark_inside : (table : List Bool) (vars rest : List Inner) (v : Inner) (size : ℕ) → Unmarks table vars size → vars ≡ rest ++ v ∷ [] → v.0 < length table
unmark_inside table vars rest v size u e =
    let a : (list_all (λ w. ltb w.0 (length table)) rest ≡ true) × (list_all (λ w. ltb w.0 (length table)) (v ∷ []) ≡ true) =
    and_parts _ _ (sym (list_all-append (λ (w : Inner). ltb w.0 (length table)) rest (v ∷ [])) ∙ (ap (list_all (λ (w : Inner). ltb w.0 (length table))) (sym e) ∙ u.inside)) in
    ltb-true _ _ (and_parts (ltb v.0 (length table)) true a.1).0

pub unmark_more : (table : List Bool) (vars rest : List Inner) (v : Inner) (size : ℕ) → Unmarks table vars size → vars ≡ rest ++ v ∷ [] → Unmarks (set table v.0 false) rest size
unmark_more table vars rest v size u e =
    let i : v.0 < length table = unmark_inside table vars rest v size u e in
    let a : (list_all (λ w. ltb w.0 (length table)) rest ≡ true) × (list_all (λ w. ltb w.0 (length table)) (v ∷ []) ≡ true) =
    and_parts _ _ (sym (list_all-append (λ (w : Inner). ltb w.0 (length table)) rest (v ∷ [])) ∙ (ap (list_all (λ (w : Inner). ltb w.0 (length table))) (sym e) ∙ u.inside)) in
    record {
      inside = subst (λ (n : ℕ). list_all (λ w. ltb w.0 n) rest ≡ true) (sym (length-set table v.0 false)) a.0;
      covers = λ k f. go k i (eqb v.0 k) refl f;
      same_size = length-set table v.0 false ∙ u.same_size;
    }
  where
    go : (k : ℕ) → v.0 < length table → (b : Bool) → eqb v.0 k ≡ b → flag (set table v.0 false) k ≡ true → list_any (λ w. eqb w.0 k) rest ≡ true
    go k i true g f = absurd (both_ways _ (ap (λ (n : ℕ). flag (set table v.0 false) n) (sym (eqb-true _ _ g)) ∙ get_or-set_same table v.0 false false i) f)
    go k i false g f =
        let o : list_any (λ w. eqb w.0 k) vars ≡ true = u.covers k (sym (get_or-set_other table v.0 k false false (λ q. eqb-false _ _ g (sym q))) ∙ f) in
        ⊎_elim (λ (x : list_any (λ w. eqb w.0 k) rest ≡ true). x) (λ (x : (eqb v.0 k || false) ≡ true). absurd (both_ways _ (ap (λ (z : Bool). z || false) g) x))
        (or_cases _ _ (sym (list_any-append (λ (w : Inner). eqb w.0 k) rest (v ∷ [])) ∙ (ap (list_any (λ (w : Inner). eqb w.0 k)) (sym e) ∙ o)))

pub unmark_end : (table : List Bool) (vars : List Inner) (size : ℕ) → Unmarks table vars size → vars ≡ [] → (v : ℕ) → flag table v ≡ list_any (λ w. eqb w.0 v) vars
unmark_end table vars size u e v = go (flag table v) refl
  where
    none : list_any (λ (w : Inner). eqb w.0 v) vars ≡ false
    none = ap (list_any (λ (w : Inner). eqb w.0 v)) e

    go : (b : Bool) → flag table v ≡ b → b ≡ list_any (λ w. eqb w.0 v) vars
    go true f = absurd (both_ways _ none (u.covers v f))
    go false f = sym none

-- a variable of a level above 0 is reserved
pub level_reserved : (trail : Assignment) (v : ℕ) → IsKept trail → (level_or trail.steps v ≡ 0 → ⊥) → v < trail.reserved
level_reserved trail v k n = go (set_in trail.steps v) refl
  where
    none : (o : Option Step) → is_some o ≡ false → unwrap_or (option_map (λ (s : Step). s.level) o) 0 ≡ 0
    none None e = refl
    none (Some s) e = absurd (false≢true (sym e))

    go : (b : Bool) → set_in trail.steps v ≡ b → v < trail.reserved
    go true e = all_or_any (λ (s : Step). ltb s.lit.var.0 trail.reserved) (λ (s : Step). eqb s.lit.var.0 v) (v < trail.reserved) trail.steps k.known e (λ s a b. subst (λ (z : ℕ). z < trail.reserved) (eqb-true _ _ b) (ltb-true _ _ a))
    go false e = absurd (n (none (step_in trail.steps v) (sym (set_in-step_in trail.steps v) ∙ e)))
