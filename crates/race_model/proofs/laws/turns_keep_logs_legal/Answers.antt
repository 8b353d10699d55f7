use Rattle.race_model.specs.TurnLaws.{turn_is_legal}
use Rattle.race_model.proofs.laws.turns_keep_logs_legal.Goals as goal

pub returns : goal.returns
returns c = turn_is_legal
