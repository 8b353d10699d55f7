use Rattle.std.proofs.Common.{true, false, [], ◌∷◌, ◌∙◌, refl, ap, sym, subst}
use Rattle.rebuild_stack.specs.declared.entry.Entry.TheVariants.{Fix}
use Rattle.state_laws.specs.State.{State, is_active}
use Rattle.state_laws.specs.Conditions.{Takable, EntryFollows}
use Rattle.state_laws.specs.Moves.{taken}
use Rattle.private_state.proofs.Rows.{lit, own_lit, second}
use Rattle.private_state.proofs.tests.a_fixed_literal_leaves_the_clauses.Goals as goal

pub take-requires : goal.take-requires
take-requires g c = subst (λ (s : State). Takable s (lit 0 false ∷ lit 1 false ∷ [])) (sym c.in_ok-state.ensures) (record { there = refl; roots = refl })

pub take-requires-2 : goal.take-requires-2
take-requires-2 g c = subst (λ (s : State). Takable s (lit 0 true ∷ [])) (sym (c.in_ok-take.ensures ∙ ap (taken (lit 0 false ∷ lit 1 false ∷ [])) c.in_ok-state.ensures)) (record { there = refl; roots = refl })

pub fix-requires-clause-active : goal.fix-requires-clause-active
fix-requires-clause-active g c = ap (λ (s : State). is_active s 0) (c.in_ok-take-2.ensures ∙ ap (taken (lit 0 true ∷ [])) (c.in_ok-take.ensures ∙ ap (taken (lit 0 false ∷ lit 1 false ∷ [])) c.in_ok-state.ensures))

pub fix-requires-clause-follows : goal.fix-requires-clause-follows
fix-requires-clause-follows g c =
    subst (λ (s : State). EntryFollows s (Fix (own_lit 0 true))) (sym (c.in_ok-take-2.ensures ∙ ap (taken (lit 0 true ∷ [])) (c.in_ok-take.ensures ∙ ap (taken (lit 0 false ∷ lit 1 false ∷ [])) c.in_ok-state.ensures)))
    (λ w h. second (w 0) (w 1) h.hard)
