use Rattle.state_laws.specs.KernelLearnLaws.{no_kernel-Standing}
use Rattle.state_laws.proofs.laws.a_new_state_stands.Goals as goal

pub returns : goal.returns
returns c = no_kernel-Standing.stands
