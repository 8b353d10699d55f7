use Rattle.std.proofs.Common.{◌≡◌, true, sym, subst, List}
use Rattle.sat_lits.specs.declared.literal.Inner.{Inner}
use Rattle.clause_store.specs.Store.{Store}
use Rattle.propagate.specs.Reasons.{names}
use Rattle.analyze.specs.Falsity.{has_present}
use Rattle.search.specs.InUse.{in_use}
use Rattle.search.specs.Ordering.{vars_ordered}
use Rattle.analyze.specs.QuietLaws.{conflict_present}
use Rattle.search.proofs.Orders.{set_in_order, steps_in_order, same_just}
use Rattle.search.proofs.Passing.{passed_as}
use Rattle.search.proofs.work.Work.analyze.Goals as goal

pub learn-requires-clause-present : goal.learn-requires-clause-present
learn-requires-clause-present c =
    subst (λ (s : Store). names s.held c.args.conflict (has_present c.args.self.now.trail.steps) ≡ true) (sym c.clauses-store.ensures.value)
    (conflict_present c.args.state.now.store.held c.args.self.now.trail.steps c.args.conflict c.requires.at.searching.sound c.requires.level c.requires.at.searching.quiet c.requires.conflict)

pub prefer-requires : goal.prefer-requires
prefer-requires c =
    subst (λ (vs : List Inner). vars_ordered c.args.self.now.order.known vs ≡ true) (sym c.met.ensures)
    (set_in_order c.args.self.now.order.known c.args.self.now.trail.steps c.learn.new.self
    (steps_in_order c.args.self.now.order.known (in_use c.args.state.now.maps) c.args.self.now.trail.steps c.requires.at.tables.order c.requires.at.searching.active)
    c.in_ok-learned.ensures.set)

pub let_go-requires-clause-steps : goal.let_go-requires-clause-steps
let_go-requires-clause-steps c =
    steps_in_order c.prefer.new.order.known (in_use c.args.state.now.maps) c.args.self.now.trail.steps
    (same_just c.args.self.now.order.known c.prefer.new.order.known (in_use c.args.state.now.maps) c.prefer.ensures.same c.requires.at.tables.order)
    c.requires.at.searching.active

pub let_go-requires-clause-passed : goal.let_go-requires-clause-passed
let_go-requires-clause-passed c = passed_as c.args.self.now.order c.prefer.new.order c.args.self.now.trail.steps c.prefer.ensures.passed c.requires.at.tables.passed
