use Rattle.std.proofs.Common.{true, false, [], ◌∷◌, ◌∙◌, refl, ap, sym, subst}
use Rattle.state_laws.specs.State.{State}
use Rattle.state_laws.specs.Conditions.{Takable}
use Rattle.state_laws.specs.Moves.{taken}
use Rattle.equiv_replace.proofs.TestLiterals.{lit}
use Rattle.equiv_replace.proofs.tests.a_cycle_with_an_opposite_is_refuted.Goals as goal

pub take-requires : goal.take-requires
take-requires g c = subst (λ (s : State). Takable s (lit 0 false ∷ lit 1 false ∷ [])) (sym (c.in_ok-state.ensures)) (record { there = refl; roots = refl })

pub take-requires-2 : goal.take-requires-2
take-requires-2 g c = subst (λ (s : State). Takable s (lit 0 true ∷ lit 1 true ∷ [])) (sym (c.in_ok-take.ensures ∙ ap (taken (lit 0 false ∷ lit 1 false ∷ [])) (c.in_ok-state.ensures))) (record { there = refl; roots = refl })

pub take-requires-3 : goal.take-requires-3
take-requires-3 g c = subst (λ (s : State). Takable s (lit 0 false ∷ lit 1 true ∷ [])) (sym (c.in_ok-take-2.ensures ∙ ap (taken (lit 0 true ∷ lit 1 true ∷ [])) (c.in_ok-take.ensures ∙ ap (taken (lit 0 false ∷ lit 1 false ∷ [])) (c.in_ok-state.ensures)))) (record { there = refl; roots = refl })

pub take-requires-4 : goal.take-requires-4
take-requires-4 g c = subst (λ (s : State). Takable s (lit 0 true ∷ lit 1 false ∷ [])) (sym (c.in_ok-take-3.ensures ∙ ap (taken (lit 0 false ∷ lit 1 true ∷ [])) (c.in_ok-take-2.ensures ∙ ap (taken (lit 0 true ∷ lit 1 true ∷ [])) (c.in_ok-take.ensures ∙ ap (taken (lit 0 false ∷ lit 1 false ∷ [])) (c.in_ok-state.ensures))))) (record { there = refl; roots = refl })
