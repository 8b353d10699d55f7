-- Why a race decides where it is given enough conflicts and no alarm.
use Rattle.std.proofs.Common.{◌≡◌, ◌<◌, ◌≤◌, ℕ, List, IfSome, All, length, map, get_or, sym, ap, subst, ◌∙◌, arith}
use Rattle.std.proofs.lemmas.List.{length-map}
use Rattle.std.specs.declared.option.Option.{Option}
use Rattle.std.proofs.lemmas.List.Elements.{All-map}
use Rattle.sat_lits.specs.Conflicts.{own_count, enough}
use Rattle.sat_lits.specs.Meaning.{Problem}
use Rattle.sat_lits.specs.declared.literal.Lit.{Lit}
use Rattle.sat_ports.specs.Causes.{Rose}
use Rattle.one_solver.specs.Parts.{Parts}
use Rattle.race.specs.declared.answer.RaceAnswer.{RaceAnswer}
use Rattle.race.specs.declared.answer.RaceAnswer.TheVariants.{Verdict, Interrupted, Spent, Memory}
use Rattle.race.specs.Running.{IsSpent}
use Rattle.race.specs.Answers.{AllSpent, RacesRight, IsEnoughFor, IsDecided}

-- the conflicts of solvers that all spent the limit
pub all_spent : (limit : Option ℕ) (f : Problem) (solvers : List Parts) (counts : List ℕ) → counts ≡ map (λ s. s.conflicts) solvers
    → All (λ s. IsSpent limit f s.conflicts) solvers → AllSpent limit f solvers counts
all_spent limit f solvers counts are each = record {
  many = ap length are ∙ length-map solvers (λ (s : Parts). s.conflicts);
  counted = are;
  each = subst (All (IsSpent limit f)) (sym are) (All-map (IsSpent limit f) (λ (s : Parts). s.conflicts) solvers each);
}

pub decided : (f : Problem) (assumptions : List Lit) (limit : Option ℕ) (before now : ℕ) (solvers : List Parts) (answer : RaceAnswer) → 0 < length solvers
    → RacesRight f assumptions limit before now solvers answer → IsEnoughFor limit f → (Rose before now → ⊥) → IsDecided answer
decided f assumptions limit before now solvers (Verdict verdict) some right many calm = tt
decided f assumptions limit before now solvers Interrupted some right many calm = calm right
decided f assumptions limit before now solvers (Spent counts) some right many calm =
    let h : IsSpent limit f (get_or counts 0 0) = right.each 0 0 (omega (arith, right.many, some)) in
    let m : enough (own_count f) ≤ get_or counts 0 0 = subst (λ (l : Option ℕ). IfSome l (λ most. enough (own_count f) ≤ most)) h.limit_is many in
    absurd (omega (arith, h.few, m))
decided f assumptions limit before now solvers Memory some right many calm = tt
