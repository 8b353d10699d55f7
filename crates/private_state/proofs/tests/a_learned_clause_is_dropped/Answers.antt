use Rattle.std.proofs.Common.{[], ◌∷◌, ◌∙◌, List, true, refl, ap, sym, subst, option_map}
use Rattle.clause_store.specs.Store.{Store, Held, clause_at, rising, held_as}
use Rattle.state_laws.specs.State.{State}
use Rattle.state_laws.specs.Conditions.{Takable, Learnable}
use Rattle.state_laws.specs.Moves.{taken}
use Rattle.private_state.proofs.Rows.{lit, own_lit, only, last_found}
use Rattle.private_state.proofs.tests.a_learned_clause_is_dropped.Goals as goal

pub take-requires : goal.take-requires
take-requires g c = subst (λ (s : State). Takable s (lit 0 true ∷ [])) (sym c.in_ok-state.ensures) (record { there = refl; roots = refl })

pub add_learned-requires : goal.add_learned-requires
add_learned-requires g c =
    subst (λ (s : State). Learnable s (own_lit 0 true ∷ [])) (sym (c.in_ok-take.ensures ∙ ap (taken (lit 0 true ∷ [])) c.in_ok-state.ensures))
    (record { active = refl; clean = refl; follows = λ w h. only (w 0) h.hard })

pub drop_learned-requires : goal.drop_learned-requires
drop_learned-requires g c =
    let g = c.in_ok-id.ensures.stored in
    let rises = ap (λ (s : Store). rising s.held) (sym c.clauses-store.ensures.value) ∙ c.is_live.ensures.kept.rises in
    ap (λ (hs : List Held). option_map (λ h. h.learned) (clause_at hs c.in_ok-id.id.0)) g.held
    ∙ ap (option_map (λ (h : Held). h.learned)) (last_found _ (held_as c.in_ok-id.id.0 true g.lits) (ap rising (sym g.held) ∙ rises))
