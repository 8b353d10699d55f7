use Rattle.state_laws.specs.HeldLaws.{rolled_back}
use Rattle.removed_vars.proofs.changes.add_all.Goals as goal

pub returns-in-Err-clause-err : goal.returns-in-Err-clause-err
returns-in-Err-clause-err c =
    rw (c.drop_all.ensures, c.deref.ensures.value) (rolled_back c.args.store.now c.add_some.new.store _ _ c.requires.kept c.in-Err.ensures.some.1)

pub returns-in-Err-clause-mark : goal.returns-in-Err-clause-mark
returns-in-Err-clause-mark c = rw (c.drop_all.ensures) c.in-Err.ensures.some.1.mark
