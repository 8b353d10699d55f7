use Rattle.std.proofs.Common.{◌≤◌, ◌+◌, ◌-◌, None, ◌∙◌, arith}
use Rattle.std.proofs.lemmas.List.{get_or-set_other}
use Rattle.pick_order.proofs.Matches.{played_down}
use Rattle.pick_order.proofs.tournament.play_all.Goals as goal

pub down-preserved : goal.down-preserved
down-preserved c =
    record {
      within = omega arith;
      played =
          played_down c.down.places (c.down.place - 1) c.args.count c.winner.result (omega arith) (omega arith) c.winner.ensures
          (λ k (from : (c.down.place - 1) + 1 ≤ k) below. c.down.invariant.played k (omega arith) below);
      same = λ k from. get_or-set_other c.down.places (c.down.place - 1) k c.winner.result None (omega arith) ∙ c.down.invariant.same k from;
    }
