use Rattle.std.proofs.Common.{true, false, [], ◌∷◌, ◌∙◌, refl, ap, sym, subst}
use Rattle.rebuild_stack.specs.declared.entry.Entry.TheVariants.{Equal}
use Rattle.state_laws.specs.State.{State}
use Rattle.state_laws.specs.Conditions.{Takable, Pushable, EntryFollows}
use Rattle.state_laws.specs.Moves.{taken}
use Rattle.equiv_replace.proofs.TestLiterals.{lit, own_lit, same_value}
use Rattle.equiv_replace.proofs.tests.a_variable_can_be_replaced_by_hand.Goals as goal

pub take-requires : goal.take-requires
take-requires g c = subst (λ (s : State). Takable s (lit 0 false ∷ lit 1 true ∷ [])) (sym (c.in_ok-state.ensures)) (record { there = refl; roots = refl })

pub take-requires-2 : goal.take-requires-2
take-requires-2 g c = subst (λ (s : State). Takable s (lit 0 true ∷ lit 1 false ∷ [])) (sym (c.in_ok-take.ensures ∙ ap (taken (lit 0 false ∷ lit 1 true ∷ [])) (c.in_ok-state.ensures))) (record { there = refl; roots = refl })

pub replace-requires-clause-pushable : goal.replace-requires-clause-pushable
replace-requires-clause-pushable g c =
    subst (λ (s : State). Pushable s (Equal (record { 0 = 1 }) (own_lit 0 false))) (sym (c.in_ok-take-2.ensures ∙ ap (taken (lit 0 true ∷ lit 1 false ∷ [])) (c.in_ok-take.ensures ∙ ap (taken (lit 0 false ∷ lit 1 true ∷ [])) (c.in_ok-state.ensures)))) (record { kept = refl; active = refl; others = refl })

pub replace-requires-clause-follows : goal.replace-requires-clause-follows
replace-requires-clause-follows g c =
    subst (λ (s : State). EntryFollows s (Equal (record { 0 = 1 }) (own_lit 0 false))) (sym (c.in_ok-take-2.ensures ∙ ap (taken (lit 0 true ∷ lit 1 false ∷ [])) (c.in_ok-take.ensures ∙ ap (taken (lit 0 false ∷ lit 1 true ∷ [])) (c.in_ok-state.ensures)))) (λ w h. same_value (w 0) (w 1) h.hard)
