use Rattle.std.proofs.Common.{sym, ap, subst, ◌∙◌, List}
use Rattle.sat_lits.specs.declared.literal.Own.{Own}
use Rattle.state_laws.specs.Kernel.{state_of}
use Rattle.state_laws.specs.declared.definition.Definition.TheVariants.{Xor}
use Rattle.parity_forms.specs.Parities.{IsDefinable}
use Rattle.private_state.proofs.tests.define.Goals as goal

pub define_private-requires : goal.define_private-requires
define_private-requires c = subst (λ (z : List Own). IsDefinable (state_of c.args.state.now) (Xor z)) (sym (c.in_ok-vars.ensures {u = tt})) c.requires
