use Rattle.state_laws.specs.HeldLaws.{rolled_back}
use Rattle.removed_vars.specs.Fresh.{in_clauses}
use Rattle.parity_forms.proofs.made.add_made.Goals as goal

pub returns-in-Err-clause-err : goal.returns-in-Err-clause-err
returns-in-Err-clause-err c =
    record {
      maps = c.reserve.ensures.same;
      held = rw (c.drop_all.ensures, c.deref-in-Err.ensures.value) (rolled_back c.args.store.now c.add_all.new.store c.in_ok-ids.ids.items (in_clauses c.deref.result.now) c.store-clauses.ensures.kept c.in_ok-ids.ensures.ok);
      mark = rw (c.drop_all.ensures) c.in_ok-ids.ensures.mark;
      removed = c.in-Err.ensures.err;
      definitions = c.in_ok-reserve-2.ensures.items;
    }
