use Rattle.std.proofs.Common.{inr}
use Rattle.std.specs.List.{list_any}
use Rattle.sat_lits.specs.InLits.{same_lit}
use Rattle.propagate.proofs.Walking.{named}
use Rattle.propagate.proofs.Settling.{true_named}
use Rattle.propagate.proofs.table.choose.Goals as goal

pub returns-in-Some-find_latest-clause-right : goal.returns-in-Some-find_latest-clause-right
returns-in-Some-find_latest-clause-right c =
    record {
      first = named c.args.store.now.held c.args.id c.lits-lits.result.now (λ z. list_any (same_lit c.in-Some.one) z) c.lits-lits.ensures.value c.in-Some.ensures.some.0;
      second = named c.args.store.now.held c.args.id c.lits-lits.result.now (λ z. list_any (same_lit c.in-Some-find_latest.two) z) c.lits-lits.ensures.value c.in-Some-find_latest.ensures.0;
      differ = c.in-Some-find_latest.ensures.1;
      able = c.in-Some.ensures.some.1;
      good = inr (true_named c.args.store.now.held c.hold.new.trail.steps c.args.id c.lits-lits.result.now c.in-Some.one c.lits-lits.ensures.value c.in-Some.ensures.some.0 c.hold.ensures.held);
    }

pub returns-in-None-clause-right : goal.returns-in-None-clause-right
returns-in-None-clause-right c = true_named c.args.store.now.held c.hold.new.trail.steps c.args.id c.lits-lits.result.now c.in-Some.one c.lits-lits.ensures.value c.in-Some.ensures.some.0 c.hold.ensures.held
