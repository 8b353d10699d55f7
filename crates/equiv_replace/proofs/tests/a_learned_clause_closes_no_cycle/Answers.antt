use Rattle.std.proofs.Common.{true, false, [], ◌∷◌, ◌∙◌, refl, ap, sym, subst}
use Rattle.state_laws.specs.State.{State}
use Rattle.state_laws.specs.Conditions.{Takable, Learnable}
use Rattle.state_laws.specs.Moves.{taken}
use Rattle.equiv_replace.proofs.TestLiterals.{lit, own_lit, without_third}
use Rattle.equiv_replace.proofs.tests.a_learned_clause_closes_no_cycle.Goals as goal

pub take-requires : goal.take-requires
take-requires g c = subst (λ (s : State). Takable s (lit 0 false ∷ lit 1 true ∷ [])) (sym (c.in_ok-state.ensures)) (record { there = refl; roots = refl })

pub take-requires-2 : goal.take-requires-2
take-requires-2 g c = subst (λ (s : State). Takable s (lit 0 true ∷ lit 1 false ∷ lit 2 false ∷ [])) (sym (c.in_ok-take.ensures ∙ ap (taken (lit 0 false ∷ lit 1 true ∷ [])) (c.in_ok-state.ensures))) (record { there = refl; roots = refl })

pub take-requires-3 : goal.take-requires-3
take-requires-3 g c = subst (λ (s : State). Takable s (lit 0 true ∷ lit 1 false ∷ lit 2 true ∷ [])) (sym (c.in_ok-take-2.ensures ∙ ap (taken (lit 0 true ∷ lit 1 false ∷ lit 2 false ∷ [])) (c.in_ok-take.ensures ∙ ap (taken (lit 0 false ∷ lit 1 true ∷ [])) (c.in_ok-state.ensures)))) (record { there = refl; roots = refl })

pub add_learned-requires : goal.add_learned-requires
add_learned-requires g c =
    subst (λ (s : State). Learnable s (own_lit 0 true ∷ own_lit 1 false ∷ [])) (sym (c.in_ok-take-3.ensures ∙ ap (taken (lit 0 true ∷ lit 1 false ∷ lit 2 true ∷ [])) (c.in_ok-take-2.ensures ∙ ap (taken (lit 0 true ∷ lit 1 false ∷ lit 2 false ∷ [])) (c.in_ok-take.ensures ∙ ap (taken (lit 0 false ∷ lit 1 true ∷ [])) (c.in_ok-state.ensures)))))
    (record { active = refl; clean = refl; follows = λ w h. without_third (w 0) (w 1) (w 2) h.hard })
