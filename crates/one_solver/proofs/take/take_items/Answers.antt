use Rattle.std.proofs.Common.{◌≡◌, true, take, ap, ◌∙◌}
use Rattle.sat_lits.specs.ListLaws.{all_at}
use Rattle.sat_lits.specs.Formulas.{names_known}
use Rattle.state_laws.specs.State.{outer_count}
use Rattle.one_solver.specs.Roots.{is_free, lits_of}
use Rattle.one_solver.proofs.Taking.{can_take, same_count, taken_free, free_at, next_room, basic_taken, taken_next, taken_plain}
use Rattle.one_solver.proofs.take.take_items.Goals as goal

pub take_input-requires : goal.take_input-requires
take_input-requires c =
    let known : names_known (outer_count c.args.state.now.definitions) c.item-item.result ≡ true =
    ap (names_known (outer_count c.args.state.now.definitions)) c.item-item.is
    ∙ all_at (names_known (outer_count c.args.state.now.definitions)) c.args.items.now c.loop-item.item-index c.item-item.result c.loop-item-test.true c.requires.known in
    can_take c.loop-item.state c.item-item.result
    (ap (λ n. names_known n c.item-item.result) (same_count c.args.state.now c.loop-item.state (take c.loop-item.item-index c.args.items.now) c.loop-item.invariant.taken) ∙ known)
    (taken_free c.args.state.now c.loop-item.state (take c.loop-item.item-index c.args.items.now) (lits_of c.item-item.result) c.loop-item.invariant.taken
    (free_at (is_free c.args.state.now) c.args.items.now c.loop-item.item-index c.item-item.result c.loop-item-test.true c.item-item.is c.requires.free))
    (next_room c.args.state.now c.loop-item.state c.args.items.now c.loop-item.item-index c.item-item.result c.loop-item.invariant.basic c.loop-item.invariant.taken c.loop-item-test.true c.item-item.is c.requires.room)

pub loop-item-preserved : goal.loop-item-preserved
loop-item-preserved c = record {
  basic = basic_taken c.loop-item.state c.take_input.new.self c.item-item.result c.loop-item.invariant.basic c.in_ok-take_input.ensures.ok;
  taken = taken_next c.args.state.now c.loop-item.state c.take_input.new.self c.args.items.now c.loop-item.item-index c.item-item.result c.loop-item.invariant.taken c.loop-item-test.true c.item-item.is c.in_ok-take_input.ensures.ok;
}

pub returns-in_err-take_input-clause-some : goal.returns-in_err-take_input-clause-some
returns-in_err-take_input-clause-some c = (
  c.loop-item.item-index,
  taken_plain c.args.state.now c.loop-item.state c.take_input.new.self (take c.loop-item.item-index c.args.items.now) c.in_err-take_input.ensures.err c.loop-item.invariant.taken,
)
