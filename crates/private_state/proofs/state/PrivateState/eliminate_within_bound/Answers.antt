use Rattle.std.proofs.Common.{◌∙◌, ap, List}
use Rattle.sat_lits.specs.ListLaws.{all_filter}
use Rattle.sat_lits.specs.declared.literal.OwnLit.{OwnLit}
use Rattle.rebuild_stack.specs.PutIn.{is_clean}
use Rattle.state_laws.specs.Resolution.{mentions}
use Rattle.state_laws.specs.Kernel.{state_of}
use Rattle.rebuild_stack.specs.Values.{each_lit}
use Rattle.state_laws.specs.Held.{has_inner}
use Rattle.private_state.specs.Kept.{kernel_of}
use Rattle.private_state.proofs.Resolving.{block_active}
use Rattle.private_state.proofs.state.PrivateState.eliminate_within_bound.Goals as goal

pub resolve_within_bound-requires : goal.resolve_within_bound-requires
resolve_within_bound-requires c = ap (each_lit (has_inner c.self.inside.maps)) c.in_ok-taken.ensures.taken.block ∙ block_active (kernel_of c.self.inside) c.args.var.0 c.self.invariant.standing

pub exceeds_bound-requires-clause-active : goal.exceeds_bound-requires-clause-active
exceeds_bound-requires-clause-active c = block_active (kernel_of c.self.inside) c.args.var.0 c.self.invariant.standing

pub exceeds_bound-requires-clause-clean : goal.exceeds_bound-requires-clause-clean
exceeds_bound-requires-clause-clean c =
    all_filter is_clean (mentions c.args.var.0) is_clean (λ (x : List OwnLit) a b. a) (state_of (kernel_of c.self.inside)).hard c.self.invariant.standing.stands.clean.hard
