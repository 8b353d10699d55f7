use Rattle.std.proofs.Common.{[], ◌∷◌, refl, sym, subst, lit≤}
use Rattle.xor_cut.specs.Pieces.{own_var}
use Rattle.state_laws.specs.State.{State}
use Rattle.state_laws.specs.declared.definition.Definition.TheVariants.{Xor}
use Rattle.parity_forms.specs.Parities.{IsDefinable}
use Rattle.private_state.proofs.tests.a_private_variable_is_the_next_own_one.Goals as goal

pub define-requires : goal.define-requires
define-requires g c = subst (λ (s : State). IsDefinable s (Xor (own_var 0 ∷ own_var 1 ∷ []))) (sym c.in_ok-state.ensures) (record { active = refl; different = refl; some = lit≤ tt; few = lit≤ tt; room = lit≤ tt })
