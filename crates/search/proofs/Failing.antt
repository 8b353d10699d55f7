-- Assumptions that contradict the clauses.
use Rattle.std.proofs.Common.{◌≡◌, ◌<◌, ◌≤◌, ◌+◌, ◌-◌, ℕ, Bool, true, false, not, eqb, leb, ltb, ◌&&◌, ◌||◌, List, [], ◌∷◌, ◌++◌, length, map, take, get_or, refl, sym, ap, subst, ◌∙◌, ⊎_elim, arith, lt-ltb, add-one, length-append}
use Rattle.std.proofs.lemmas.Bool.{and_parts, and_from, or_cases, eqb-true, leb-true, le-leb, not-true, both_ways, cases_lt}
use Rattle.std.proofs.lemmas.List.{get_or_append_left, get_or-map, length-map, map-append}
use Rattle.std.proofs.Math.Seq.{get_or-append_seam, take-suc}
use Rattle.std.proofs.lemmas.List.Folds.{list_all-append}
use Rattle.std.specs.List.{list_any, list_all}
use Rattle.std.specs.List.Sorted.{IsStrictlyIncreasing}
use Rattle.sat_lits.specs.InLits.{same_lit}
use Rattle.sat_lits.specs.ListLaws.{all_or_any, all_mono, all_at}
use Rattle.sat_lits.specs.declared.literal.InLit.{InLit}
use Rattle.trail.specs.declared.trail.Step.{Step}
use Rattle.trail.specs.Trail.{level_of, decided}
use Rattle.trail.specs.Laws.{same_lit_eq}
use Rattle.clause_store.specs.Store.{Held}
use Rattle.propagate.specs.Reasons.{lit_value, held_value}
use Rattle.analyze.specs.FinalSets.{IsFinalSet, decisions_value, has_decision}
use Rattle.search.specs.Assumed.{HasAssumed, assumption_at, is_assumed}
use Rattle.search.specs.Answers.{AreFailed}

-- the positions of the assumptions that were decided at these levels
abbrev pub positions_at : List ℕ → List ℕ → List ℕ
positions_at positions levels = map (λ level. get_or positions (level - 1) 0) levels

-- one level more
pub positions_more : (positions levels : List ℕ) (i : ℕ) → i < length levels → positions_at positions (take (i + 1) levels) ≡ positions_at positions (take i levels) ++ get_or positions (get_or levels i 0 - 1) 0 ∷ []
positions_more positions levels i h =
    ap (λ (j : ℕ). positions_at positions (take j levels)) (add-one i)
    ∙ (ap (positions_at positions) (take-suc levels i 0 h) ∙ map-append (λ (level : ℕ). get_or positions (level - 1) 0) (take i levels) (get_or levels i 0 ∷ []))

module _ (held : List Held) (assumptions : List InLit) (positions : List ℕ) (next : ℕ) (t : List Step) (levels : List ℕ) (a : HasAssumed assumptions positions next t) (n : next < length assumptions) (f : IsFinalSet held t (assumption_at assumptions next) levels) where
  -- each level has a position
  pub level_inside : (i : ℕ) → i < length levels → (1 ≤ get_or levels i 0) × (get_or levels i 0 ≤ length positions)
  level_inside i h =
      let d : has_decision t (get_or levels i 0) ≡ true = all_at (has_decision t) levels i 0 h f.decisions in
      let p : ((leb 1 (get_or levels i 0) && leb (get_or levels i 0) (level_of t)) ≡ true) × (list_any (λ s. decided s.reason && eqb s.level (get_or levels i 0)) t ≡ true) = and_parts _ _ d in
      let q : (leb 1 (get_or levels i 0) ≡ true) × (leb (get_or levels i 0) (level_of t) ≡ true) = and_parts _ _ p.0 in
      let x : 1 ≤ get_or levels i 0 = leb-true _ _ q.0 in
      let y : get_or levels i 0 ≤ level_of t = leb-true _ _ q.1 in
      let z : level_of t ≤ length positions = a.no_other n in
      (x, omega arith)

  at_level : (i : ℕ) → i < length levels → get_or (positions_at positions levels ++ next ∷ []) i 0 ≡ get_or positions (get_or levels i 0 - 1) 0
  at_level i h =
      let l : length (positions_at positions levels) ≡ length levels = length-map levels (λ (level : ℕ). get_or positions (level - 1) 0) in
      get_or_append_left (positions_at positions levels) (next ∷ []) 0 i (omega arith) ∙ get_or-map (λ (level : ℕ). get_or positions (level - 1) 0) levels i 0 0 h

  at_end : get_or (positions_at positions levels ++ next ∷ []) (length levels) 0 ≡ next
  at_end = subst (λ (j : ℕ). get_or (positions_at positions levels ++ next ∷ []) j 0 ≡ next) (length-map levels (λ (level : ℕ). get_or positions (level - 1) 0)) (get_or-append_seam (positions_at positions levels) next [] 0)

  rises : IsStrictlyIncreasing (positions_at positions levels ++ next ∷ [])
  rises i h =
      let l : length (positions_at positions levels ++ next ∷ []) ≡ length (positions_at positions levels) + 1 = length-append (positions_at positions levels) (next ∷ []) in
      let m : length (positions_at positions levels) ≡ length levels = length-map levels (λ (level : ℕ). get_or positions (level - 1) 0) in
      let b : i < length levels = omega arith in
      let x : (1 ≤ get_or levels i 0) × (get_or levels i 0 ≤ length positions) = level_inside i b in
      let x0 : 1 ≤ get_or levels i 0 = x.0 in
      let x1 : get_or levels i 0 ≤ length positions = x.1 in
      subst (λ (z : ℕ). z < get_or (positions_at positions levels ++ next ∷ []) (i + 1) 0) (sym (at_level i b))
      (⊎_elim
      (λ (g : i + 1 < length levels).
      let y : (1 ≤ get_or levels (i + 1) 0) × (get_or levels (i + 1) 0 ≤ length positions) = level_inside (i + 1) g in
      let y1 : get_or levels (i + 1) 0 ≤ length positions = y.1 in
      let r : get_or levels i 0 < get_or levels (i + 1) 0 = f.rising i g in
      subst (λ (z : ℕ). get_or positions (get_or levels i 0 - 1) 0 < z) (sym (at_level (i + 1) g)) (a.rising (get_or levels i 0 - 1) (get_or levels (i + 1) 0 - 1) (omega arith) (omega arith)))
      (λ (g : length levels ≤ i + 1).
      let e : i + 1 ≡ length levels = omega arith in
      subst (λ (z : ℕ). get_or positions (get_or levels i 0 - 1) 0 < z) (sym (ap (λ (j : ℕ). get_or (positions_at positions levels ++ next ∷ []) j 0) e ∙ at_end)) (a.below (get_or levels i 0 - 1) (omega arith)))
      (cases_lt (i + 1) (length levels)))

  within : list_all (λ p. ltb p (length assumptions)) (positions_at positions levels ++ next ∷ []) ≡ true
  within = list_all-append (λ (p : ℕ). ltb p (length assumptions)) (positions_at positions levels) (next ∷ []) ∙ and_from _ _ (each levels f.decisions) (and_from _ _ (lt-ltb _ _ n) refl)
    where
      each : (ls : List ℕ) → list_all (has_decision t) ls ≡ true → list_all (λ p. ltb p (length assumptions)) (positions_at positions ls) ≡ true
      each [] e = refl
      each (level ∷ ls) e =
          let d : (has_decision t level ≡ true) × (list_all (has_decision t) ls ≡ true) = and_parts _ _ e in
          let p : ((leb 1 level && leb level (level_of t)) ≡ true) × (list_any (λ s. decided s.reason && eqb s.level level) t ≡ true) = and_parts _ _ d.0 in
          let q : (leb 1 level ≡ true) × (leb level (level_of t) ≡ true) = and_parts _ _ p.0 in
          let x : 1 ≤ level = leb-true _ _ q.0 in
          let y : level ≤ level_of t = leb-true _ _ q.1 in
          let z : level_of t ≤ length positions = a.no_other n in
          let b : get_or positions (level - 1) 0 < next = a.below (level - 1) (omega arith) in
          and_from _ _ (lt-ltb _ _ (omega arith)) (each ls d.1)

  -- where the assumptions at these positions are true, so are the decisions of the levels
  decisions_true : (w : ℕ → Bool) → list_all (λ p. lit_value w (assumption_at assumptions p)) (positions_at positions levels) ≡ true → decisions_value w (λ level. list_any (λ named. eqb named level) levels) t ≡ true
  decisions_true w e = all_mono (is_assumed assumptions positions) (λ (s : Step). not (decided s.reason && list_any (λ named. eqb named s.level) levels) || lit_value w s.lit) step t a.assumed
    where
      both : (ls : List ℕ) → list_all (has_decision t) ls ≡ true → list_all (λ p. lit_value w (assumption_at assumptions p)) (positions_at positions ls) ≡ true
          → list_all (λ level. (leb 1 level && leb level (level_of t)) && lit_value w (assumption_at assumptions (get_or positions (level - 1) 0))) ls ≡ true
      both [] d v = refl
      both (level ∷ ls) d v =
          let x : (has_decision t level ≡ true) × (list_all (has_decision t) ls ≡ true) = and_parts _ _ d in
          let y : (lit_value w (assumption_at assumptions (get_or positions (level - 1) 0)) ≡ true) × (list_all (λ p. lit_value w (assumption_at assumptions p)) (positions_at positions ls) ≡ true) = and_parts _ _ v in
          and_from _ _ (and_from _ _ (and_parts (leb 1 level && leb level (level_of t)) (list_any (λ s. decided s.reason && eqb s.level level) t) x.0).0 y.0) (both ls x.1 y.1)

      step : (s : Step) → is_assumed assumptions positions s ≡ true → (not (decided s.reason && list_any (λ named. eqb named s.level) levels) || lit_value w s.lit) ≡ true
      step s x = go (decided s.reason && list_any (λ named. eqb named s.level) levels) refl
        where
          go : (b : Bool) → (decided s.reason && list_any (λ named. eqb named s.level) levels) ≡ b → (not b || lit_value w s.lit) ≡ true
          go false g = refl
          go true g =
              let p : (decided s.reason ≡ true) × (list_any (λ named. eqb named s.level) levels ≡ true) = and_parts _ _ g in
              all_or_any (λ (level : ℕ). (leb 1 level && leb level (level_of t)) && lit_value w (assumption_at assumptions (get_or positions (level - 1) 0))) (λ (named : ℕ). eqb named s.level) (lit_value w s.lit ≡ true) levels (both levels f.decisions e) p.1
              (λ level u v.
              let q : ((leb 1 level && leb level (level_of t)) ≡ true) × (lit_value w (assumption_at assumptions (get_or positions (level - 1) 0)) ≡ true) = and_parts _ _ u in
              let r : (leb 1 level ≡ true) × (leb level (level_of t) ≡ true) = and_parts _ _ q.0 in
              let i : level ≡ s.level = eqb-true _ _ v in
              let x0 : 1 ≤ level = leb-true _ _ r.0 in
              let x1 : level ≤ level_of t = leb-true _ _ r.1 in
              let z : level_of t ≤ length positions = a.no_other n in
              let j : (decided s.reason && (leb 1 s.level && leb s.level (length positions))) ≡ true = and_from _ _ p.0 (and_from _ _ (le-leb 1 s.level (omega arith)) (le-leb s.level (length positions) (omega arith))) in
              ⊎_elim (λ (c : not (decided s.reason && (leb 1 s.level && leb s.level (length positions))) ≡ true). absurd (both_ways _ (not-true _ c) j))
              (λ (c : same_lit s.lit (assumption_at assumptions (get_or positions (s.level - 1) 0)) ≡ true).
              subst (λ (l : InLit). lit_value w l ≡ true) (sym (same_lit_eq s.lit (assumption_at assumptions (get_or positions (s.level - 1) 0)) c)) (subst (λ (k : ℕ). lit_value w (assumption_at assumptions (get_or positions (k - 1) 0)) ≡ true) i q.1))
              (or_cases _ _ x))

  pub failed_set : AreFailed held assumptions (positions_at positions levels ++ next ∷ [])
  failed_set = record { rising = rises; within = within; contradict = contradict }
    where
      contradict : (w : ℕ → Bool) → held_value w held ≡ true → list_all (λ p. lit_value w (assumption_at assumptions p)) (positions_at positions levels ++ next ∷ []) ≡ false
      contradict w h = go (list_all (λ p. lit_value w (assumption_at assumptions p)) (positions_at positions levels ++ next ∷ [])) refl
        where
          go : (b : Bool) → list_all (λ p. lit_value w (assumption_at assumptions p)) (positions_at positions levels ++ next ∷ []) ≡ b → b ≡ false
          go false g = refl
          go true g =
              let p : (list_all (λ q. lit_value w (assumption_at assumptions q)) (positions_at positions levels) ≡ true) × ((lit_value w (assumption_at assumptions next) && true) ≡ true) =
              and_parts _ _ (sym (list_all-append (λ (q : ℕ). lit_value w (assumption_at assumptions q)) (positions_at positions levels) (next ∷ [])) ∙ g) in
              absurd (both_ways _ (f.derived w h (decisions_true w p.0)) (and_parts _ _ p.1).0)
