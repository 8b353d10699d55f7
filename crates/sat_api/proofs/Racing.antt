-- What a race comes to, once its conflicts are poured.
use Rattle.std.proofs.Common.{◌≡◌, ℕ, ◌+◌, ◌<◌, ◌≤◌, min, List, All, map, length, get_or, Some, refl, sym, ap, subst, ◌∙◌, arith}
use Rattle.std.specs.Prelude.{sum, sum_by}
use Rattle.std.specs.declared.option.Option.{Option}
use Rattle.std.proofs.lemmas.List.Sums.{sum-map}
use Rattle.analyze.specs.Counting.{saturated}
use Rattle.sat_lits.specs.Conflicts.{own_count, enough}
use Rattle.sat_lits.specs.Meaning.{Problem}
use Rattle.sat_lits.specs.Formulas.{Extends}
use Rattle.sat_lits.specs.FollowLaws.{Extends_through}
use Rattle.sat_lits.specs.declared.literal.Lit.{Lit}
use Rattle.sat_lits.specs.declared.shared.Shared.{Shared}
use Rattle.sat_ports.specs.Causes.{RoseBy}
use Rattle.one_solver.specs.Parts.{Parts, problem_in}
use Rattle.race.specs.Running.{IsSpent}
use Rattle.race.specs.Homes.{EachPlace, IsEntrant}
use Rattle.race.specs.Answers.{AllSpent, RacesRight}
use Rattle.race.specs.declared.answer.RaceAnswer.{RaceAnswer}
use Rattle.race.specs.declared.answer.RaceAnswer.TheVariants.{Verdict, Interrupted, Spent, Memory}
use Rattle.sat_api.specs.Answers.{SpendsAll}
use Rattle.sat_api.specs.Decisions.{IsFound}

same_limit : (limit : Option ℕ) (m n : ℕ) → limit ≡ Some m → limit ≡ Some n → m ≡ n
same_limit limit m n e f = let g : Some m ≡ Some n = sym e ∙ f in cc

-- each solver spent the limit, and the sum was poured
all_spent : (limit : Option ℕ) (f : Problem) (solvers : List Parts) (counts : List ℕ) (before now : ℕ) → 0 < length solvers → now ≡ saturated before (sum_by (λ s. s.conflicts) solvers) → AllSpent limit f solvers counts
    → SpendsAll limit f (length solvers) before now counts
all_spent limit f solvers counts before now some poured h =
    let first : IsSpent limit f (get_or counts 0 0) = h.each 0 0 (omega (arith, h.many, some)) in
    let total : sum counts ≡ sum_by (λ s. s.conflicts) solvers = ap sum h.counted ∙ sum-map (λ (s : Parts). s.conflicts) solvers in
    record {
      limit = get_or counts 0 0;
      is_limit = first.limit_is;
      many = h.many;
      each = λ k d within. same_limit limit (get_or counts k d) (get_or counts 0 0) (h.each k d within).limit_is first.limit_is;
      few = first.few;
      rose = omega (arith, poured, total);
    }

pub found_right : (f : Problem) (assumptions : List Lit) (limit : Option ℕ) (raised_before raised_now : ℕ) (solvers : List Parts) (answer : RaceAnswer) (before now : ℕ) → 0 < length solvers
    → now ≡ saturated before (sum_by (λ s. s.conflicts) solvers) → RacesRight f assumptions limit raised_before raised_now solvers answer → IsFound f assumptions limit (length solvers) before now raised_before raised_now answer
found_right f assumptions limit raised_before raised_now solvers (Verdict verdict) before now some poured right = right
found_right f assumptions limit raised_before raised_now solvers Interrupted before now some poured right = right
found_right f assumptions limit raised_before raised_now solvers (Spent counts) before now some poured right = all_spent limit f solvers counts before now some poured right
found_right f assumptions limit raised_before raised_now solvers Memory before now some poured right = tt

-- solvers may enter a race over the same clauses for a formula that has more
pub enters_more : (f g : Problem) (log : List Shared) (solvers : List Parts) → Extends f g → EachPlace (IsEntrant f log) solvers → EachPlace (IsEntrant g log) solvers
enters_more f g log solvers more each k d within =
    let e = each k d within in
    record { number = e.number; front = Extends_through (problem_in (get_or solvers k d)) f g e.front more; conflicts = e.conflicts; in_step = e.in_step }
