use Rattle.std.proofs.Common.{true, false, [], ◌∷◌, refl, sym, subst}
use Rattle.state_laws.specs.State.{State}
use Rattle.state_laws.specs.Conditions.{Takable}
use Rattle.private_state.proofs.Rows.{lit}
use Rattle.private_state.proofs.tests.a_tautology_is_not_held.Goals as goal

pub take-requires : goal.take-requires
take-requires g c = subst (λ (s : State). Takable s (lit 0 false ∷ lit 0 true ∷ [])) (sym c.in_ok-state.ensures) (record { there = refl; roots = refl })
