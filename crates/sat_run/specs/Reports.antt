-- What is told of a question, and how it is written.
use Rattle.std.specs.Prelude.{◌≡◌, ℕ, ◌+◌, ◌<◌, Bool, true, false, List, [], ◌∷◌, ◌++◌, All, length, map, sum, Some}
use Rattle.std.specs.List.{flat_map}
use Rattle.std.specs.declared.option.Option.{Option}
use Rattle.sat_lits.specs.Conflicts.{own_count, enough}
use Rattle.sat_lits.specs.Logs.{IsLegalLog}
use Rattle.sat_lits.specs.Meaning.{Problem, negated}
use Rattle.sat_lits.specs.Verdicts.{IsRight}
use Rattle.sat_lits.specs.declared.shared.Shared.{Shared}
use Rattle.sat_lits.specs.declared.verdict.Verdict.TheVariants.{Sat, Unsat}
use Rattle.sat_ports.specs.Causes.{RoseBy}
use Rattle.sat_api.specs.State.{SolverState}
use Rattle.sat_api.specs.Answers.{HasModelUnder}
use Rattle.dimacs_text.specs.Texts.{text_of_verdict, text_of_limit, text_of_alarm, text_of_shared}
use Rattle.sat_run.specs.Questions.{Question}
use Rattle.sat_run.specs.declared.report.Report.{Report}
use Rattle.sat_run.specs.declared.report.Report.TheVariants as report

-- a block: what is told of a question, and the shared clauses that are listed behind it
pub record Block : Type 0 where
  pub told : Report
  pub entries : List Shared

abbrev pub block : Report → List Shared → Block
block told entries = record { told = told; entries = entries }

-- what is set for a run: the number of threads, the conflict limit, and whether shared clauses are listed
pub record Rules : Type 0 where
  pub threads : ℕ
  pub max_conflicts : Option ℕ
  pub shares : Bool

-- what is set in a solver, and whether shared clauses are listed
abbrev pub rules_with : Bool → SolverState → Rules
rules_with shares s = record { threads = s.threads; max_conflicts = s.max_conflicts; shares = shares }

-- there is a count for each thread, and each is the conflict limit that was given, which is less than enough for the formula
pub record SpendsLimit (rules : Rules) (f : Problem) (counts : List ℕ) : Type 0 where
  pub limit : ℕ
  pub is_given : rules.max_conflicts ≡ Some limit
  pub many : length counts ≡ rules.threads
  pub each : All (λ count. count ≡ limit) counts
  pub few : limit < enough (own_count f)

-- what is told of a question is right: a right verdict, or that the conflict limit was spent, or that the alarm was raised, which its count tells
abbrev pub IsRightReport : Rules → Question → Report → Type 0
IsRightReport rules q (report.Verdict verdict) = IsRight q.problem q.assumptions verdict
IsRightReport rules q (report.Limit counts) = SpendsLimit rules q.problem counts
IsRightReport rules q report.Alarm = Unit {0}

-- the shared clauses that were listed so far are legal for the formula, and one of the threads gave each; or none is listed
pub record ListsRight (rules : Rules) (f : Problem) (so_far entries : List Shared) : Type 0 where
  pub legal : rules.shares ≡ true → IsLegalLog f so_far
  pub given : rules.shares ≡ true → All (λ e. e.solver < rules.threads) so_far
  pub none : rules.shares ≡ false → entries ≡ []

-- the solver left what is told to be read: the model, or the clause of the negated failed assumptions
abbrev pub IsTold : Report → SolverState → Type 0
IsTold (report.Verdict (Sat values)) solver = solver.model ≡ Some values
IsTold (report.Verdict (Unsat failed)) solver = solver.conflict ≡ Some (map negated failed)
IsTold (report.Limit counts) solver = Unit {0}
IsTold report.Alarm solver = Unit {0}

-- the conflicts that a report counts, over all solvers
abbrev pub conflicts_of : Report → ℕ
conflicts_of (report.Verdict verdict) = 0
conflicts_of (report.Limit counts) = sum counts
conflicts_of report.Alarm = 0

-- how many raises of the alarm a report tells of
abbrev pub raises_of : Report → ℕ
raises_of (report.Verdict verdict) = 0
raises_of (report.Limit counts) = 0
raises_of report.Alarm = 1

-- a right report on the question, for a solver and the count of an alarm before and after it was asked: the solver left what is told to be read, and the conflicts and the raises were counted
pub record IsReportOn (q : Question) (before now : SolverState) (raised_before raised_now : ℕ) (report : Report) : Type 0 where
  pub right : (shares : Bool) → IsRightReport (rules_with shares before) q report
  pub told : IsTold report now
  pub counted : RoseBy (conflicts_of report) before.counted now.counted
  pub raised : RoseBy (raises_of report) raised_before raised_now

-- a verdict that a report tells comes exactly where it may: with a model under the assumptions, or without one
abbrev pub IsDecided : Question → Report → Type 0
IsDecided q (report.Verdict (Sat values)) = HasModelUnder q.problem q.assumptions
IsDecided q (report.Verdict (Unsat failed)) = HasModelUnder q.problem q.assumptions → ⊥
IsDecided q (report.Limit counts) = ⊥
IsDecided q report.Alarm = ⊥

-- the lines of a report
abbrev pub text_of_report : Report → List ℕ
text_of_report (report.Verdict verdict) = text_of_verdict verdict
text_of_report (report.Limit counts) = text_of_limit counts
text_of_report report.Alarm = text_of_alarm

-- a line for each shared clause, in order
abbrev pub entries_text : List Shared → List ℕ
entries_text entries = flat_map text_of_shared entries

-- the lines of a block
abbrev pub text_of_block : Block → List ℕ
text_of_block b = text_of_report b.told ++ entries_text b.entries

-- blocks, one after another
abbrev pub blocks_text : List Block → List ℕ
blocks_text [] = []
blocks_text (b ∷ blocks) = text_of_block b ++ blocks_text blocks

abbrev pub status_of : Report → ℕ
status_of (report.Verdict (Sat values)) = 10
status_of (report.Verdict (Unsat failed)) = 20
status_of (report.Limit counts) = 15
status_of report.Alarm = 15

-- one right block for each question, in order, behind shared clauses that were listed before
abbrev pub AreRight : Rules → List Shared → List Question → List Block → Type 0
AreRight rules listed [] [] = Unit {0}
AreRight rules listed (q ∷ qs) (b ∷ blocks) = IsRightReport rules q b.told × ListsRight rules q.problem (listed ++ b.entries) b.entries × AreRight rules (listed ++ b.entries) qs blocks
AreRight rules listed [] (b ∷ blocks) = ⊥
AreRight rules listed (q ∷ qs) [] = ⊥

-- one block for each question, in order, each of them decided
abbrev pub AreDecided : List Question → List Block → Type 0
AreDecided [] [] = Unit {0}
AreDecided (q ∷ qs) (b ∷ blocks) = IsDecided q b.told × AreDecided qs blocks
AreDecided [] (b ∷ blocks) = ⊥
AreDecided (q ∷ qs) [] = ⊥

-- the shared clauses that blocks list, in a row
abbrev pub entries_of : List Block → List Shared
entries_of [] = []
entries_of (b ∷ blocks) = b.entries ++ entries_of blocks

-- the conflicts that blocks count together
abbrev pub conflicts_of_all : List Block → ℕ
conflicts_of_all [] = 0
conflicts_of_all (b ∷ blocks) = conflicts_of b.told + conflicts_of_all blocks

-- the raises of the alarm that blocks tell of together
abbrev pub raises_of_all : List Block → ℕ
raises_of_all [] = 0
raises_of_all (b ∷ blocks) = raises_of b.told + raises_of_all blocks
