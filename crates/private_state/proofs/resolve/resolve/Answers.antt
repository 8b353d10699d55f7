use Rattle.std.proofs.Common.{◌∙◌, ap, true, false}
use Rattle.rebuild_stack.specs.Values.{each_lit}
use Rattle.state_laws.specs.Held.{has_inner}
use Rattle.private_state.proofs.Resolving.{rests_active}
use Rattle.private_state.proofs.resolve.resolve.Goals as goal

pub join_all-requires-clause-lefts : goal.join_all-requires-clause-lefts
join_all-requires-clause-lefts c = ap (each_lit (has_inner c.args.maps.now)) (c.deref.ensures.value ∙ c.in_ok-lefts.ensures) ∙ rests_active c.args.maps.now c.args.var.0 false c.args.block.now c.requires

pub join_all-requires-clause-rights : goal.join_all-requires-clause-rights
join_all-requires-clause-rights c = ap (each_lit (has_inner c.args.maps.now)) (c.deref-2.ensures.value ∙ c.in_ok-rights.ensures) ∙ rests_active c.args.maps.now c.args.var.0 true c.args.block.now c.requires
