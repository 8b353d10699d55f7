-- The clause of negated literals.
use Rattle.std.proofs.Common.{◌≡◌, ℕ, Bool, true, false, not, ◌||◌, ◌&&◌, List, [], ◌∷◌, Option, Some, cond, rules, map, refl, sym, ap, subst, ◌∙◌}
use Rattle.std.proofs.lemmas.Bool.{or_left, or_right, true≢false}
use Rattle.sat_lits.specs.ClauseLaws.{signed_not}
use Rattle.sat_lits.specs.Meaning.{Problem, Follows, satisfies_clause, is_true, value_of, negated}
use Rattle.sat_lits.specs.Verdicts.{makes_true, IsFailed, IsRight}
use Rattle.sat_lits.specs.declared.verdict.Verdict.{Verdict}
use Rattle.sat_lits.specs.declared.verdict.Verdict.TheVariants.{Unsat}
use Rattle.sat_lits.specs.declared.literal.Lit.{Lit}
use Rattle.sat_api.specs.Answers.{HasModelUnder, is_refutation}
use Rattle.sat_api.specs.Decisions.{IsFound}
use Rattle.sat_api.specs.Laws.{makes_true-StandAt}
use Rattle.race.specs.declared.answer.RaceAnswer.{RaceAnswer}
use Rattle.race.specs.declared.answer.RaceAnswer.TheVariants as answer

-- where not all of some literals are true, one of their negations is
one_false : (values : List Bool) (lits : List Lit) → makes_true values lits ≡ false → satisfies_clause values (map negated lits) ≡ true
one_false values [] e = absurd (true≢false e)
one_false values (l ∷ lits) e = go (is_true values l) refl (λ g. one_false values lits g) e
  where
    go : (b : Bool) → is_true values l ≡ b → (makes_true values lits ≡ false → satisfies_clause values (map negated lits) ≡ true) → (b && makes_true values lits) ≡ false → (is_true values (negated l) || satisfies_clause values (map negated lits)) ≡ true
    go true f r g = or_right _ _ (r g)
    go false f r g = or_left _ _ (signed_not l.negative (value_of values l.var) ∙ ap not f)

-- the clause of the negated failed assumptions follows
pub negated_follow : (f : Problem) (assumptions failed : List Lit) → IsFailed f assumptions failed → Follows f (map negated failed)
negated_follow f assumptions failed h values m = one_false values failed (h.contradict values m)

-- failed assumptions that were found, in a verdict that was found
pub found_failed : (f : Problem) (assumptions : List Lit) (limit : Option ℕ) (threads counted_before counted_now before now : ℕ) (found : RaceAnswer) (verdict : Verdict) (failed : List Lit) → found ≡ answer.Verdict verdict → verdict ≡ Unsat failed
    → IsFound f assumptions limit threads counted_before counted_now before now found → IsFailed f assumptions failed
found_failed f assumptions limit threads counted_before counted_now before now found verdict failed e v h =
    let P : RaceAnswer → Type 0 = λ x. IsFound f assumptions limit threads counted_before counted_now before now x in
    let Q : Verdict → Type 0 = λ x. IsRight f assumptions x in
    subst Q v (subst P e h)

-- where assumptions fail, there is no model under them
pub none_under : (f : Problem) (failed assumptions : List Lit) → IsFailed f assumptions failed → HasModelUnder f assumptions → ⊥
none_under f failed assumptions h (values, model, made) = true≢false (sym (makes_true-StandAt values assumptions h.positions failed h.places made) ∙ h.contradict values model)

-- where the empty clause follows, no assumption is needed for a contradiction
pub empty_failed : (f : Problem) (assumptions : List Lit) → Follows f [] → IsFailed f assumptions []
empty_failed f assumptions h = record { positions = []; rising = search rules; places = tt; distinct = search rules; contradict = λ values m. sym (h values m) }

-- a conflict without literals is the empty clause
pub empty_follows : (f : Problem) (lits : List Lit) → is_refutation (Some lits) ≡ true → Follows f lits → Follows f []
empty_follows f [] e h = h
empty_follows f (l ∷ lits) e h = absurd (true≢false (sym e))

pub okay_kept : (r : Bool) → not r ≡ cond r false true
okay_kept true = refl
okay_kept false = refl
