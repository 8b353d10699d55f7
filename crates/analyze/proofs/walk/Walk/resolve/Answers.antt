use Rattle.std.proofs.Common.{◌∙◌, sym}
use Rattle.analyze.specs.Walks.{MarkedAll, AtWalk}
use Rattle.analyze.proofs.Entailing.{on_ok}
use Rattle.analyze.proofs.Resolving.{taken_some, taken_live, taken_known, resolved}
use Rattle.analyze.proofs.walk.Walk.resolve.Goals as goal

pub lits-requires : goal.lits-requires
lits-requires c = taken_live c.args.store.now.held c.args.trail.now c.args.self.now c.args.lit c.in-Some.id c.requires.reasoned c.requires.taken (sym c.reason_of.ensures ∙ c.in-Some.is)

pub mark_all-requires-clause-known : goal.mark_all-requires-clause-known
mark_all-requires-clause-known c =
    taken_known c.args.store.now.held c.args.trail.now c.args.self.now c.args.lit c.in-Some.id c.lits.result.now c.requires.reasoned c.requires.taken (sym c.reason_of.ensures ∙ c.in-Some.is) c.lits.ensures.value

pub unreachable-requires : goal.unreachable-requires
unreachable-requires c = taken_some c.args.store.now.held c.args.trail.now c.args.self.now c.args.lit c.requires.reasoned c.requires.taken (sym c.reason_of.ensures ∙ c.in-None.is)

pub returns-clause-walk : goal.returns-clause-walk
returns-clause-walk c =
    on_ok c.mark_all.result (λ _. MarkedAll c.args.trail.now c.lits.result.now c.args.self.now c.mark_all.new.self) (λ _. AtWalk c.args.store.now.held c.args.trail.now c.mark_all.new.self)
    (λ _ m. resolved c.args.store.now.held c.args.trail.now c.args.self.now c.mark_all.new.self c.args.lit c.in-Some.id c.lits.result.now c.requires.reasoned c.requires.taken (sym c.reason_of.ensures ∙ c.in-Some.is) c.lits.ensures.value m)
    c.mark_all.ensures
