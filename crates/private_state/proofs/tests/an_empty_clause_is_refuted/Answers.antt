use Rattle.std.proofs.Common.{[], ◌∙◌, refl, ap, sym, subst}
use Rattle.std.proofs.lemmas.Bool.{false≢true}
use Rattle.state_laws.specs.State.{State}
use Rattle.state_laws.specs.Conditions.{Takable, IsContradicted}
use Rattle.state_laws.specs.Moves.{taken}
use Rattle.private_state.proofs.tests.an_empty_clause_is_refuted.Goals as goal

pub take-requires : goal.take-requires
take-requires g c = subst (λ (s : State). Takable s []) (sym c.in_ok-state.ensures) (record { there = refl; roots = refl })

pub refute-requires : goal.refute-requires
refute-requires g c = subst (λ (s : State). IsContradicted s) (sym (c.in_ok-take.ensures ∙ ap (taken []) c.in_ok-state.ensures)) (λ w h. false≢true h.hard)
