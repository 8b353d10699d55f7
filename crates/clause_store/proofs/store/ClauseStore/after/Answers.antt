use Rattle.std.proofs.Common.{◌+◌, ◌∙◌, List, ap, sym, take}
use Rattle.sat_lits.specs.declared.literal.InLit.{InLit}
use Rattle.clause_store.specs.Store.{Store, before}
use Rattle.clause_store.specs.Words.{held_from, held_in, places_of}
use Rattle.clause_store.proofs.Blocks.{stored_walk_on, stored_kept}
use Rattle.clause_store.proofs.store.ClauseStore.after.Goals as goal

pub returns-clause-step : goal.returns-clause-step
returns-clause-step c =
    ap (λ (s : Store). before s.held c.first_from.result) (sym c.self.view_is)
    ∙ (ap (λ (ws : List InLit). before (held_in ws) c.first_from.result) (sym c.deref.ensures.value)
    ∙ (c.first_from.ensures.before
    ∙ (ap (λ (ws : List InLit). held_from 0 (take c.end_of.result (places_of ws))) (c.deref.ensures.value ∙ sym c.deref-2.ensures.value)
    ∙ (c.end_of.ensures.passed
    ∙ (ap (λ (ws : List InLit). held_from 0 (take (c.args.id.0 + 1) (places_of ws))) c.deref-2.ensures.value
    ∙ stored_walk_on c.self.inside.words.items c.args.self.now c.args.id c.self.view_is c.requires)))))

pub returns-clause-kept : goal.returns-clause-kept
returns-clause-kept c = stored_kept c.self.inside c.args.self.now c.self.view_is c.self.invariant
