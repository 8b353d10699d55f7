use Rattle.sync_laws.specs.StepLaws.{kept-IsInStep}
use Rattle.sync_laws.proofs.laws.a_state_stays_in_step_where_what_is_met_is_kept.Goals as goal

pub returns : goal.returns
returns c = kept-IsInStep
