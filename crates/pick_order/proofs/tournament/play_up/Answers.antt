use Rattle.std.proofs.Common.{◌/◌, ◌∙◌, arith}
use Rattle.std.proofs.lemmas.List.{drop-set-lt}
use Rattle.pick_order.proofs.Matches.{played_up, played_end}
use Rattle.pick_order.proofs.tournament.play_up.Goals as goal

pub up-preserved : goal.up-preserved
up-preserved c =
    record {
      from = omega arith;
      within = omega arith;
      others = played_up c.up.places c.up.place c.args.count c.winner-won.result (omega arith) (omega arith) c.winner-won.ensures c.up.invariant.others;
      same = drop-set-lt c.args.count c.up.places (c.up.place / 2) c.winner-won.result (omega arith) ∙ c.up.invariant.same;
    }

pub returns-clause-played : goal.returns-clause-played
returns-clause-played c = played_end c.up.places c.up.place c.args.count c.up-test.false c.up.invariant.others
