use Rattle.var_elim.proofs.Counting.{any_none}
use Rattle.var_elim.proofs.drop.drop_all_by_any.Goals as goal

pub returns-clause-none : goal.returns-clause-none
returns-clause-none c = λ z. any_none c.args.state.now.store.held c.args.id.0 (c.in_ok-dropped.ensures.none z)

pub returns-then-stands_alone-clause-none : goal.returns-then-stands_alone-clause-none
returns-then-stands_alone-clause-none c = λ z. any_none c.args.state.now.store.held c.args.id.0 (c.stands_alone.ensures c.if-stands_alone.true)
