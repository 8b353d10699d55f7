use Rattle.propagate.proofs.Opening.{open_behind, open_before, none_left}
use Rattle.propagate.proofs.table.find_open_from.Goals as goal

pub returns-in-Some-clause-some : goal.returns-in-Some-clause-some
returns-in-Some-clause-some c = open_behind c.args.trail.now.steps c.args.other c.args.lits.now c.args.start c.in-Some.lit c.in-Some.ensures.some

pub returns-clause-some : goal.returns-clause-some
returns-clause-some c = open_before c.args.trail.now.steps c.args.other c.args.lits.now c.args.start c.find_open-2.result c.find_open-2.ensures.some

pub returns-clause-none : goal.returns-clause-none
returns-clause-none c = none_left c.args.trail.now.steps c.args.other c.args.lits.now c.args.start c.find_open-2.result c.in_default.ensures.none c.find_open-2.ensures.none
