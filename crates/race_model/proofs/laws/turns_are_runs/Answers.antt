use Rattle.race_model.proofs.TurnRuns.{turns_run}
use Rattle.race_model.proofs.laws.turns_are_runs.Goals as goal

pub returns : goal.returns
returns c = turns_run
