use Rattle.std.proofs.Common.{true, false, [], ◌∷◌, ◌∙◌, refl, ap, sym, subst}
use Rattle.state_laws.specs.State.{State, is_active}
use Rattle.state_laws.specs.Conditions.{Takable}
use Rattle.state_laws.specs.Moves.{taken, eliminated}
use Rattle.private_state.specs.Restoring.{CanRestore}
use Rattle.private_state.proofs.Rows.{lit, own_lit}
use Rattle.private_state.proofs.tests.an_eliminated_variable_leaves_its_resolvents_and_comes_back.Goals as goal

pub take-requires : goal.take-requires
take-requires g c = subst (λ (s : State). Takable s (lit 0 false ∷ lit 1 false ∷ [])) (sym c.in_ok-state.ensures) (record { there = refl; roots = refl })

pub take-requires-2 : goal.take-requires-2
take-requires-2 g c = subst (λ (s : State). Takable s (lit 0 false ∷ lit 1 true ∷ [])) (sym (c.in_ok-take.ensures ∙ ap (taken (lit 0 false ∷ lit 1 false ∷ [])) c.in_ok-state.ensures)) (record { there = refl; roots = refl })

pub take-requires-3 : goal.take-requires-3
take-requires-3 g c = subst (λ (s : State). Takable s (lit 0 true ∷ lit 2 false ∷ [])) (sym (c.in_ok-take-2.ensures ∙ ap (taken (lit 0 false ∷ lit 1 true ∷ [])) (c.in_ok-take.ensures ∙ ap (taken (lit 0 false ∷ lit 1 false ∷ [])) c.in_ok-state.ensures))) (record { there = refl; roots = refl })

pub eliminate-requires : goal.eliminate-requires
eliminate-requires g c = ap (λ (s : State). is_active s 0) (c.in_ok-take-3.ensures ∙ ap (taken (lit 0 true ∷ lit 2 false ∷ [])) (c.in_ok-take-2.ensures ∙ ap (taken (lit 0 false ∷ lit 1 true ∷ [])) (c.in_ok-take.ensures ∙ ap (taken (lit 0 false ∷ lit 1 false ∷ [])) c.in_ok-state.ensures)))

pub restore_one-requires : goal.restore_one-requires
restore_one-requires g c =
    subst (λ (s : State). CanRestore s (record { 0 = 0 }))
    (sym (c.in_ok-eliminate.ensures.ok ∙ ap (eliminated (record { 0 = 0 })) (c.in_ok-take-3.ensures ∙ ap (taken (lit 0 true ∷ lit 2 false ∷ [])) (c.in_ok-take-2.ensures ∙ ap (taken (lit 0 false ∷ lit 1 true ∷ [])) (c.in_ok-take.ensures ∙ ap (taken (lit 0 false ∷ lit 1 false ∷ [])) c.in_ok-state.ensures)))))
    (record { place = 0; clauses = (own_lit 0 false ∷ own_lit 1 false ∷ []) ∷ (own_lit 0 false ∷ own_lit 1 true ∷ []) ∷ (own_lit 0 true ∷ own_lit 2 false ∷ []) ∷ []; restorable = record { entry = refl; roots = refl } })
