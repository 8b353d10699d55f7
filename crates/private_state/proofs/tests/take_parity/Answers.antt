use Rattle.std.proofs.Common.{sym, ap, subst, ◌∙◌, List}
use Rattle.sat_lits.specs.declared.literal.Var.{Var}
use Rattle.state_laws.specs.Kernel.{state_of}
use Rattle.parity_forms.specs.Parities.{ParityTakable}
use Rattle.private_state.proofs.tests.take_parity.Goals as goal

pub take_input-requires : goal.take_input-requires
take_input-requires c = subst (λ (z : List Var). ParityTakable (state_of c.args.state.now) z c.args.rhs) (sym (c.in_ok-vars.ensures {u = tt})) c.requires
