use Rattle.state_laws.specs.WidenLaws.{refuted_has_no_model}
use Rattle.state_laws.proofs.laws.a_refuted_state_has_no_model.Goals as goal

pub returns : goal.returns
returns c = refuted_has_no_model
