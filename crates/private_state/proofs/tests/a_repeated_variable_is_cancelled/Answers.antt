use Rattle.std.proofs.Common.{true, false, [], ◌∷◌, refl, sym, subst, lit≤}
use Rattle.state_laws.specs.State.{State}
use Rattle.parity_forms.specs.Parities.{ParityTakable}
use Rattle.private_state.proofs.Rows.{var}
use Rattle.private_state.proofs.tests.a_repeated_variable_is_cancelled.Goals as goal

pub take_parity-requires : goal.take_parity-requires
take_parity-requires g c = subst (λ (s : State). ParityTakable s (var 0 ∷ var 0 ∷ []) false) (sym c.in_ok-state.ensures) (record { there = refl; roots = refl; room = lit≤ tt })
