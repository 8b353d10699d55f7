-- What a turn comes to, for the log and for the solver that had it.
use Rattle.std.proofs.Common.{◌≡◌, ℕ, true, ◌<◌, ◌^◌, List, All, length, refl, sym, ap, subst, ◌∙◌, arith}
use Rattle.std.specs.declared.option.Option.{Option}
use Rattle.std.proofs.lemmas.List.Elements.{All-append}
use Rattle.sat_lits.specs.Conflicts.{own_count, interval_len, intervals_len}
use Rattle.sat_lits.specs.Formulas.{Extends, names_known}
use Rattle.sat_lits.specs.declared.formula.Item.TheVariants.{Clause}
use Rattle.sat_lits.specs.declared.literal.Lit.{Lit}
use Rattle.sat_lits.specs.Logs.{IsLegalLog}
use Rattle.sat_lits.specs.Meaning.{Problem}
use Rattle.sat_lits.specs.declared.shared.Shared.{Shared}
use Rattle.share_store.specs.Log.{StartsWith}
use Rattle.share_turn.specs.Views.{IsLegalFor, freed, got}
use Rattle.share_turn.specs.declared.view.Question.{Question}
use Rattle.share_turn.specs.declared.view.View.{View}
use Rattle.one_solver.specs.Parts.{Parts, problem_in, SameCall}
use Rattle.one_solver.specs.InStep.{IsInStep, EntriesFollow, GoesOn, in_step_follows}
use Rattle.one_solver.specs.Steps.{IsUnderWay}
use Rattle.race.specs.Running.{IsSearching, IsWithin}

-- a log that goes on begins with what it was
pub goes_on_starts : (number : ℕ) (old new : List Shared) → GoesOn number old new → StartsWith new old
goes_on_starts number old new g = record { rest = g.more; is = g.is }

-- a legal log that goes on by entries of one of the solvers stays legal for the question
pub goes_on_legal : (q : Question) (number : ℕ) (old new : List Shared) → number < q.solvers → IsLegalFor q old → IsLegalLog q.formula.problem new → GoesOn number old new → IsLegalFor q new
goes_on_legal q number old new known legal now g = record {
  legal = now;
  solvers = subst (All (λ (e : Shared). e.solver < q.solvers)) (sym g.is) (All-append (λ (e : Shared). e.solver < q.solvers) old g.more legal.solvers
      (λ k d within. subst (λ n. n < q.solvers) (sym (g.own k d within)) known));
}

-- a call that is under way is so after a turn
pub under_way_on : (s t : Parts) → problem_in t ≡ problem_in s → SameCall s t → IsUnderWay s → IsUnderWay t
under_way_on s t problem same h = record {
  counted = same.conflicts ∙ (h.counted ∙ sym (ap intervals_len same.interval));
  few = omega (arith, same.interval, h.few);
  short = λ j below. let b : j < s.interval = omega (arith, same.interval) in subst (λ (f : Problem). interval_len j < 3 ^ own_count f) (sym problem) (h.short j b);
  assumed = record {
    known = subst (λ (n : ℕ). names_known n (Clause t.assumptions) ≡ true) (sym (ap (λ (f : Problem). f.vars) problem))
        (subst (λ (a : List Lit). names_known (problem_in s).vars (Clause a) ≡ true) (sym same.assumptions) h.assumed.known);
    few = subst (λ (a : List Lit). length a < 2 ^ 32) (sym same.assumptions) h.assumed.few;
  };
}

-- a search goes on after a turn
pub after_turn : (limit : Option ℕ) (s t : Parts) (v : View) (log new : List Shared) → IsSearching limit s v → IsLegalFor v.question log → IsLegalLog (problem_in t) new
    → GoesOn s.number log new → IsInStep t new → problem_in t ≡ problem_in s → SameCall s t
    → IsSearching limit t (freed new (got log v))
after_turn limit s t v log new h legal now goes step problem same = record {
  seated = record {
    free = refl;
    known = subst (λ n. n < v.question.solvers) (sym same.number) h.seated.known;
    front = subst (λ (f : Problem). Extends f v.question.formula.problem) (sym problem) h.seated.front;
    within = subst (λ (n : ℕ). IsWithin limit n) (sym same.conflicts) h.seated.within;
    legal = goes_on_legal v.question s.number log new h.seated.known legal (subst (λ (f : Problem). IsLegalLog f new) (problem ∙ h.whole) now) goes;
    in_step = step;
  };
  whole = problem ∙ h.whole;
  assumptions = same.assumptions ∙ h.assumptions;
  under_way = under_way_on s t problem same h.under_way;
}

-- the entries that a searching solver took follow from the formula
pub searching_follows : (limit : Option ℕ) (s : Parts) (v : View) → IsSearching limit s v → EntriesFollow s
searching_follows limit s v h = in_step_follows s v.seen (subst (λ (f : Problem). IsLegalLog f v.seen) (sym h.whole) h.seated.legal.legal) h.seated.in_step
