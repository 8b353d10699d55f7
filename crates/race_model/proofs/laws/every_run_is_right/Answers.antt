use Rattle.race_model.proofs.Runs.{every_run}
use Rattle.race_model.proofs.laws.every_run_is_right.Goals as goal

pub returns : goal.returns
returns c = every_run
