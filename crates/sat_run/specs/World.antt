-- What a part of a run does to the solver, the alarm and the sink.
use Rattle.std.specs.Prelude.{◌≡◌, ℕ, ◌≤◌, Bool, false, List, [], ◌∷◌, ◌++◌, take, if◌then◌else◌}
use Rattle.std.specs.declared.option.Option.{Option}
use Rattle.std.specs.Io.KnownBytes.{Appends}
use Rattle.sat_ports.specs.Causes.{Rose, RoseBy}
use Rattle.sat_lits.specs.Formulas.{no_problem}
use Rattle.sat_lits.specs.declared.shared.Shared.{Shared}
use Rattle.sat_api.specs.State.{SolverState}
use Rattle.dimacs_text.specs.declared.command.Command.{Command}
use Rattle.sat_run.specs.Writing.{Port, port}
use Rattle.sat_run.specs.Questions.{Question, questions_from, after_all}
use Rattle.sat_run.specs.Reports.{Block, block, Rules, rules_with, AreRight, IsTold, conflicts_of_all, raises_of_all, entries_of, text_of_block, blocks_text}
use Rattle.sat_run.specs.declared.report.Report.{Report}
use Rattle.sat_run.specs.declared.failures.Halt.{Halt}
use Rattle.sat_run.specs.declared.failures.Halt.TheVariants.{Memory, Write}

-- what a run changes beside the source: the solver, how often the alarm was raised, and the sink; and whether it lists shared clauses
pub record World : Type 0 where
  pub shares : Bool
  pub solver : SolverState
  pub raised : ℕ
  pub sink : Port

abbrev pub world : Bool → SolverState → ℕ → Option (List ℕ) → ℕ → World
world shares solver raised bytes faults = record { shares = shares; solver = solver; raised = raised; sink = port bytes faults }

-- the same before the words say whether shared clauses are listed
abbrev pub outside : SolverState → ℕ → Option (List ℕ) → ℕ → World
outside solver raised bytes faults = world false solver raised bytes faults

-- what is set for a run
abbrev pub rules_of : World → Rules
rules_of w = rules_with w.shares w.solver

-- the shared clauses that are to be listed: all of them, or none
abbrev pub listed_in : World → List Shared
listed_in w = if w.shares then w.solver.shared else []

-- the limits, the number of threads and the conflict limit are as before
pub record KeepsSettings (old new : SolverState) : Type 0 where
  pub limits : new.limits ≡ old.limits
  pub threads : new.threads ≡ old.threads
  pub max_conflicts : new.max_conflicts ≡ old.max_conflicts

-- these blocks are right for these questions, the solver counted their conflicts, and the alarm was raised at least as often as they tell
pub record Tells (questions : List Question) (blocks : List Block) (old new : World) : Type 0 where
  pub right : AreRight (rules_of old) (listed_in old) questions blocks
  pub counted : RoseBy (conflicts_of_all blocks) old.solver.counted new.solver.counted
  pub raised : RoseBy (raises_of_all blocks) old.raised new.raised
  pub later : old.raised ≤ new.raised
  pub settings : KeepsSettings old.solver new.solver
  pub shares : new.shares ≡ old.shares

-- the commands were carried out, and their questions answered by whole blocks, which list all that is shared
pub record Carries (commands : List Command) (old new : World) : Type 0 where
  pub blocks : List Block
  pub tells : Tells (questions_from old.solver.problem commands) blocks old new
  pub listed : listed_in new ≡ listed_in old ++ entries_of blocks
  pub written : Appends old.sink.bytes new.sink.bytes (blocks_text blocks)
  pub kept : new.sink.faults ≡ old.sink.faults
  pub problem : new.solver.problem ≡ after_all old.solver.problem commands

-- the question was answered by this report, whose block was written, with all that is shared and was not listed before
pub record AnswersOne (q : Question) (report : Report) (old new : World) : Type 0 where
  pub entries : List Shared
  pub tells : Tells (q ∷ []) (block report entries ∷ []) old new
  pub listed : listed_in new ≡ listed_in old ++ entries
  pub written : Appends old.sink.bytes new.sink.bytes (text_of_block (block report entries))
  pub kept : new.sink.faults ≡ old.sink.faults
  pub problem : new.solver.problem ≡ old.solver.problem
  pub told : IsTold report new.solver

-- what is written of blocks: all of them, or where a write failed the last one up to some byte
abbrev pub IsCut : Halt → List Block → List ℕ → Type 0
IsCut Memory blocks text = text ≡ blocks_text blocks
IsCut Write blocks text = (whole : List Block) × (last : Block) × (count : ℕ) × (blocks ≡ whole ++ last ∷ []) × (text ≡ blocks_text whole ++ take count (text_of_block last))

-- the sink failed where a write did, and else it did not
abbrev pub IsHaltOf : Halt → Port → Port → Type 0
IsHaltOf Memory before now = now.faults ≡ before.faults
IsHaltOf Write before now = Rose before.faults now.faults

-- the run stopped among these questions: the first of them were answered, and blocks of them were written
pub record StopsAmong (halt : Halt) (questions : List Question) (old new : World) : Type 0 where
  pub answered : List Question
  pub rest : List Question
  pub all : questions ≡ answered ++ rest
  pub blocks : List Block
  pub tells : Tells answered blocks old new
  pub text : List ℕ
  pub cut : IsCut halt blocks text
  pub written : Appends old.sink.bytes new.sink.bytes text
  pub cause : IsHaltOf halt old.sink new.sink

-- for each run so far, from its start on, and the commands that it carried out
abbrev pub ForRun : World → (World → List Command → Type 0) → Type 0
ForRun now P = (start : World) (given : List Command) → Carries given start now → start.solver.problem ≡ no_problem → P start given
