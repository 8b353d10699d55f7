use Rattle.state_laws.specs.WidenLaws.{widened_confirm}
use Rattle.state_laws.proofs.laws.widened_assignments_confirm_the_state.Goals as goal

pub returns : goal.returns
returns c = widened_confirm
