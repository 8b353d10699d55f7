use Rattle.std.proofs.Common.{◌≡◌, ◌+◌, ◌∙◌, None, set, sym, arith}
use Rattle.std.specs.Option.{is_some}
use Rattle.std.specs.List.{count_by}
use Rattle.pick_order.proofs.Queueing.{first_within, fewer_left, placed_pass, lost_more, lost_none}
use Rattle.pick_order.proofs.order.pass_over.Goals as goal

pub first-init : goal.first-init
first-init c = record { placed = c.requires; lost = lost_none c.args.trail.now.steps c.args.tournament.now }

pub enter-requires : goal.enter-requires
enter-requires c = first_within c.first.tournament c.first.invariant.placed c.in-Some.first c.in-Some.ensures

pub first-preserved : goal.first-preserved
first-preserved c =
    record {
      placed = rw c.enter.ensures (placed_pass c.first.tournament c.first.invariant.placed c.in-Some.first c.in-Some.ensures);
      lost =
          rw c.enter.ensures
          (lost_more c.first.tournament c.first.invariant.placed c.in-Some.first c.in-Some.ensures c.args.trail.now.steps c.args.tournament.now c.first.invariant.lost
          (sym c.is_set.ensures ∙ c.if-not-is_set.false));
    }

pub first-smaller : goal.first-smaller
first-smaller c =
    let f : count_by is_some (set c.first.tournament c.in-Some.first.var.0 None) + 1 ≡ count_by is_some c.first.tournament =
    fewer_left c.first.tournament c.first.invariant.placed c.in-Some.first c.in-Some.ensures in
    rw c.enter.ensures (omega arith)
