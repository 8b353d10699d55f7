use Rattle.std.proofs.Common.{◌≤◌, ◌+◌, ◌∙◌, List, ap, sym, length, take, arith}
use Rattle.sat_lits.specs.declared.literal.InLit.{InLit}
use Rattle.clause_store.specs.Store.{Store, before}
use Rattle.clause_store.specs.Words.{held_from, held_in, places_of}
use Rattle.clause_store.specs.Laws.{before-none}
use Rattle.clause_store.proofs.Blocks.{stored_upto, stored_all, stored_kept}
use Rattle.clause_store.proofs.store.ClauseStore.next.Goals as goal

pub returns-then-place-len-clause-step : goal.returns-then-place-len-clause-step
returns-then-place-len-clause-step c =
    ap (λ (s : Store). before s.held c.first_from.result) (sym c.self.view_is)
    ∙ (ap (λ (ws : List InLit). before (held_in ws) c.first_from.result) (sym c.deref.ensures.value)
    ∙ (c.first_from.ensures.before
    ∙ (ap (λ (ws : List InLit). held_from 0 (take (c.args.id.0 + 1) (places_of ws))) c.deref.ensures.value
    ∙ stored_upto c.self.inside.words.items c.args.self.now c.args.id.0 c.self.view_is)))

pub returns-then-place-len-clause-kept : goal.returns-then-place-len-clause-kept
returns-then-place-len-clause-kept c = stored_kept c.self.inside c.args.self.now c.self.view_is c.self.invariant

pub returns-else-place-len-clause-step : goal.returns-else-place-len-clause-step
returns-else-place-len-clause-step c =
    let l : length c.self.inside.words.items ≤ c.args.id.0 = omega (arith, c.if-place-len.false, c.len.ensures, c.self.inside.words.ok.0) in
    before-none c.args.self.now.held ∙ stored_all c.self.inside.words.items c.args.self.now c.args.id.0 c.self.view_is l

pub returns-else-place-len-clause-kept : goal.returns-else-place-len-clause-kept
returns-else-place-len-clause-kept c = stored_kept c.self.inside c.args.self.now c.self.view_is c.self.invariant
