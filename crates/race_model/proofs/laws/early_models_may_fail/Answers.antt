use Rattle.race_model.proofs.Runs.{early_fails}
use Rattle.race_model.proofs.laws.early_models_may_fail.Goals as goal

pub returns : goal.returns
returns c = early_fails
