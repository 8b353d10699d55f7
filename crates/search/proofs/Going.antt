-- How each move keeps what a search keeps, and raises its number.
use Rattle.std.proofs.Common.{◌≡◌, ◌<◌, ◌≤◌, ℕ, true, false, eqb, ◌&&◌, ◌||◌, List, [], ◌∷◌, ◌++◌, length, Option, Some, None, refl, sym, subst, ◌∙◌, arith}
use Rattle.std.proofs.lemmas.Bool.{and_parts, and_from, eqb-true, not-true, false≢true}
use Rattle.std.specs.List.{list_any, list_all}
use Rattle.sat_lits.specs.InLits.{same_lit}
use Rattle.sat_lits.specs.ListLaws.{all_or_any}
use Rattle.sat_lits.specs.declared.literal.InLit.{InLit}
use Rattle.sat_lits.specs.declared.literal.ClauseId.{ClauseId}
use Rattle.trail.specs.declared.trail.Step.{Step}
use Rattle.trail.specs.Trail.{shaped, shaped_step, unset_in, false_in, level_of, decided}
use Rattle.trail.specs.Laws.{shaped_step-assign, same_lit_eq}
use Rattle.clause_store.specs.Store.{Held}
use Rattle.propagate.specs.Units.{gives}
use Rattle.propagate.specs.Reasons.{has_reason, unit_reason, derives, Extends}
use Rattle.propagate.specs.Laws.{named_all, unit_named, unit_has_reason, derived_level}
use Rattle.analyze.specs.Quiet.{QuietBelow}
use Rattle.analyze.specs.QuietLaws.{assign_keeps}
use Rattle.search_laws.specs.TrailNumber.{trail_number}
use Rattle.search_laws.specs.NumberLaws.{more_raises}
use Rattle.search_laws.specs.NumberLaws.{bounded_more}
use Rattle.search_laws.specs.FitLaws.{trail_fits}
use Rattle.search.specs.InUse.{is_among, lits_among, clauses_among, steps_among}
use Rattle.search.specs.Assumed.{HasAssumed}
use Rattle.search.specs.Searching.{IsSearching}
use Rattle.search.proofs.Assuming.{assumed_assign}

-- a trail over numbers in use has no more steps than there are
pub fits : (numbers : List ℕ) (t : List Step) → shaped t ≡ true → steps_among numbers t ≡ true → length t ≤ length numbers
fits numbers t e a = trail_fits numbers t e a

-- a step more
pub searching_more : (held : List Held) (numbers : List ℕ) (conflicts : ℕ) (t : List Step) (s : Step) → shaped_step t s ≡ true → has_reason held t s s.reason ≡ true → is_among numbers s.lit.var.0 ≡ true → QuietBelow held (s ∷ t) → IsSearching held numbers conflicts t
    → IsSearching held numbers conflicts (s ∷ t)
searching_more held numbers conflicts t s e r a q i =
    let l : length (s ∷ t) ≤ length numbers = fits numbers (s ∷ t) (and_from _ _ e i.sound) (and_from _ _ a i.active) in
    record {
      sound = and_from _ _ e i.sound;
      reasons = and_from _ _ r i.reasons;
      active = and_from _ _ a i.active;
      quiet = q;
      bound = bounded_more (length numbers) s t conflicts (omega arith) i.bound;
    }

-- raises the number of the trail
pub number_more : (held : List Held) (numbers : List ℕ) (conflicts : ℕ) (t : List Step) (s : Step) → IsSearching held numbers conflicts (s ∷ t) → trail_number (length numbers) t < trail_number (length numbers) (s ∷ t)
number_more held numbers conflicts t s i = let l : length (s ∷ t) ≤ length numbers = i.bound.fits in more_raises (length numbers) s t (omega arith)

-- the literal that a clause is unit by has a number in use
unit_among : (numbers : List ℕ) (held : List Held) (t : List Step) (l : InLit) (r : Option ClauseId) → clauses_among numbers held ≡ true → unit_reason held t l r ≡ true → is_among numbers l.var.0 ≡ true
unit_among numbers held t l None a e = absurd (false≢true e)
unit_among numbers held t l (Some id) a e =
    named_all (λ (h : Held). lits_among numbers h.lits) (gives t l) held id (is_among numbers l.var.0 ≡ true) (unit_named held t l id e).1 a
    (λ h b g.
    let p : (list_any (same_lit l) h.lits ≡ true) × (list_all (λ m. same_lit l m || false_in t m) h.lits ≡ true) = and_parts _ _ g in
    all_or_any (λ (m : InLit). is_among numbers m.var.0) (same_lit l) (is_among numbers l.var.0 ≡ true) h.lits b p.0 (λ m y z. subst (λ (k : InLit). is_among numbers k.var.0 ≡ true) (sym (same_lit_eq l m z)) y))

reason_some : (held : List Held) (t : List Step) (l : InLit) (r : Option ClauseId) → unit_reason held t l r ≡ true → decided r ≡ false
reason_some held t l None e = absurd (false≢true e)
reason_some held t l (Some id) e = refl

-- what was reached by propagation
pub record IsReached (held : List Held) (numbers : List ℕ) (conflicts : ℕ) (assumptions : List InLit) (positions : List ℕ) (next : ℕ) (from to : List Step) : Type 0 where
  pub searching : IsSearching held numbers conflicts to
  pub assumes : HasAssumed assumptions positions next to
  pub rises : trail_number (length numbers) from ≤ trail_number (length numbers) to

derived : (held : List Held) (numbers : List ℕ) (conflicts : ℕ) (assumptions : List InLit) (positions : List ℕ) (next : ℕ) (older newer : List Step) → clauses_among numbers held ≡ true → derives held newer older ≡ true
    → IsSearching held numbers conflicts older → HasAssumed assumptions positions next older → IsReached held numbers conflicts assumptions positions next older (newer ++ older)
derived held numbers conflicts assumptions positions next older [] a e i h = record { searching = i; assumes = h; rises = omega arith }
derived held numbers conflicts assumptions positions next older (s ∷ newer) a e i h =
    let p : ((unit_reason held (newer ++ older) s.lit s.reason && eqb s.level (level_of older)) ≡ true) × (derives held newer older ≡ true) = and_parts _ _ e in
    let q : (unit_reason held (newer ++ older) s.lit s.reason ≡ true) × (eqb s.level (level_of older) ≡ true) = and_parts _ _ p.0 in
    let k : IsReached held numbers conflicts assumptions positions next older (newer ++ older) = derived held numbers conflicts assumptions positions next older newer a p.1 i h in
    let l : s.level ≡ level_of (newer ++ older) = eqb-true _ _ q.1 ∙ sym (derived_level held newer older p.1) in
    let u : (unset_in (newer ++ older) s.lit ≡ true) × (has_reason held (newer ++ older) s s.reason ≡ true) = unit_has_reason held (newer ++ older) s s.reason q.0 in
    let j : IsSearching held numbers conflicts (s ∷ newer ++ older) =
    searching_more held numbers conflicts (newer ++ older) s (shaped_step-assign (newer ++ older) s (not-true _ u.0) l) u.1 (unit_among numbers held (newer ++ older) s.lit s.reason a q.0) (assign_keeps held (newer ++ older) s l k.searching.quiet) k.searching in
    let r : trail_number (length numbers) (newer ++ older) < trail_number (length numbers) (s ∷ newer ++ older) = number_more held numbers conflicts (newer ++ older) s j in
    let z : trail_number (length numbers) older ≤ trail_number (length numbers) (newer ++ older) = k.rises in
    record { searching = j; assumes = assumed_assign assumptions positions next (newer ++ older) s l (reason_some held (newer ++ older) s.lit s.reason q.0) k.assumes; rises = omega arith }

pub reached : (held : List Held) (numbers : List ℕ) (conflicts : ℕ) (assumptions : List InLit) (positions : List ℕ) (next : ℕ) (from to : List Step) → clauses_among numbers held ≡ true → Extends held from to
    → IsSearching held numbers conflicts from → HasAssumed assumptions positions next from → IsReached held numbers conflicts assumptions positions next from to
reached held numbers conflicts assumptions positions next from to a x i h =
    subst (λ (z : List Step). IsReached held numbers conflicts assumptions positions next from z) (sym x.parts) (derived held numbers conflicts assumptions positions next from x.newer a x.derived i h)
