use Rattle.state_laws.specs.RootTableLaws.{root_replaced, depth_replaced}
use Rattle.state_laws.proofs.laws.a_replaced_literal_goes_on_as_the_other.Goals as goal

pub returns-clause-comes_to : goal.returns-clause-comes_to
returns-clause-comes_to c = root_replaced

pub returns-clause-is_newer : goal.returns-clause-is_newer
returns-clause-is_newer c = depth_replaced
