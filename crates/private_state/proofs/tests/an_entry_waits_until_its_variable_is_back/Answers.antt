use Rattle.std.proofs.Common.{true, false, [], ◌∷◌, ◌∙◌, refl, ap, sym, subst}
use Rattle.state_laws.specs.State.{State, is_active, outer_count}
use Rattle.state_laws.specs.Conditions.{Takable}
use Rattle.state_laws.specs.Moves.{taken, eliminated}
use Rattle.private_state.proofs.Rows.{lit}
use Rattle.sat_lits.specs.Formulas.{names_known}
use Rattle.sat_lits.specs.declared.formula.Item.TheVariants.{Clause}
use Rattle.sat_lits.specs.declared.literal.Own.{Own}
use Rattle.sat_lits.specs.declared.shared.Shared.{Shared}
use Rattle.private_state.specs.Importing.{after_import}
use Rattle.private_state.specs.Restoring.{CanRestore}
use Rattle.private_state.proofs.Rows.{own_lit}
use Rattle.private_state.proofs.tests.an_entry_waits_until_its_variable_is_back.Goals as goal

pub take-requires : goal.take-requires
take-requires g c = subst (λ (s : State). Takable s (lit 0 false ∷ lit 1 false ∷ [])) (sym c.in_ok-state.ensures) (record { there = refl; roots = refl })

pub take-requires-2 : goal.take-requires-2
take-requires-2 g c = subst (λ (s : State). Takable s (lit 0 false ∷ lit 1 true ∷ [])) (sym (c.in_ok-take.ensures ∙ ap (taken (lit 0 false ∷ lit 1 false ∷ [])) c.in_ok-state.ensures)) (record { there = refl; roots = refl })

pub take-requires-3 : goal.take-requires-3
take-requires-3 g c = subst (λ (s : State). Takable s (lit 0 true ∷ lit 2 false ∷ [])) (sym (c.in_ok-take-2.ensures ∙ ap (taken (lit 0 false ∷ lit 1 true ∷ [])) (c.in_ok-take.ensures ∙ ap (taken (lit 0 false ∷ lit 1 false ∷ [])) c.in_ok-state.ensures))) (record { there = refl; roots = refl })

pub eliminate-requires : goal.eliminate-requires
eliminate-requires g c = ap (λ (s : State). is_active s 0) (c.in_ok-take-3.ensures ∙ ap (taken (lit 0 true ∷ lit 2 false ∷ [])) (c.in_ok-take-2.ensures ∙ ap (taken (lit 0 false ∷ lit 1 true ∷ [])) (c.in_ok-take.ensures ∙ ap (taken (lit 0 false ∷ lit 1 false ∷ [])) c.in_ok-state.ensures)))

abbrev first : Own
first = record { 0 = 0 }

abbrev entry : Shared
entry = record { solver = 1; after = 0; clause = lit 0 false ∷ [] }

pub import-requires : goal.import-requires
import-requires g c =
    ap (λ (s : State). names_known (outer_count s.definitions) (Clause (lit 0 false ∷ [])))
    (c.in_ok-eliminate.ensures.ok ∙ ap (λ (s : State). eliminated first s) (c.in_ok-take-3.ensures ∙ ap (taken (lit 0 true ∷ lit 2 false ∷ [])) (c.in_ok-take-2.ensures ∙ ap (taken (lit 0 false ∷ lit 1 true ∷ [])) (c.in_ok-take.ensures ∙ ap (taken (lit 0 false ∷ lit 1 false ∷ [])) c.in_ok-state.ensures))))

pub restore_one-requires : goal.restore_one-requires
restore_one-requires g c =
    subst (λ (s : State). CanRestore s first)
    (sym (c.in_ok-before.ensures
    ∙ ap (λ (s : State). after_import entry s)
    (c.in_ok-eliminate.ensures.ok ∙ ap (λ (s : State). eliminated first s) (c.in_ok-take-3.ensures ∙ ap (taken (lit 0 true ∷ lit 2 false ∷ [])) (c.in_ok-take-2.ensures ∙ ap (taken (lit 0 false ∷ lit 1 true ∷ [])) (c.in_ok-take.ensures ∙ ap (taken (lit 0 false ∷ lit 1 false ∷ [])) c.in_ok-state.ensures))))))
    (record {
      place = 0;
      clauses = (own_lit 0 false ∷ own_lit 1 false ∷ []) ∷ (own_lit 0 false ∷ own_lit 1 true ∷ []) ∷ (own_lit 0 true ∷ own_lit 2 false ∷ []) ∷ [];
      restorable = record { entry = refl; roots = refl };
    })

pub import-requires-2 : goal.import-requires-2
import-requires-2 g c =
    ap (λ (s : State). names_known (outer_count s.definitions) (Clause (lit 0 false ∷ [])))
    (c.in_ok-restore_one.ensures.ok.becomes)
    ∙ ap (λ (s : State). names_known (outer_count s.definitions) (Clause (lit 0 false ∷ [])))
    (c.in_ok-before.ensures
    ∙ ap (λ (s : State). after_import entry s)
    (c.in_ok-eliminate.ensures.ok ∙ ap (λ (s : State). eliminated first s) (c.in_ok-take-3.ensures ∙ ap (taken (lit 0 true ∷ lit 2 false ∷ [])) (c.in_ok-take-2.ensures ∙ ap (taken (lit 0 false ∷ lit 1 true ∷ [])) (c.in_ok-take.ensures ∙ ap (taken (lit 0 false ∷ lit 1 false ∷ [])) c.in_ok-state.ensures)))))
