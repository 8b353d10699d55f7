use Rattle.std.proofs.Common.{◌-◌, ◌<◌, ◌≤◌, ◌∙◌, length, arith}
use Rattle.equiv_replace.proofs.Rowing.{inside_more, ends_are, rows_are}
use Rattle.equiv_replace.proofs.rows.fill_rows.Goals as goal

pub count-requires-clause-inside : goal.count-requires-clause-inside
count-requires-clause-inside c = inside_more (length c.args.starts.now - 1) (length c.args.starts.now) c.args.edges.now (omega arith) c.requires.inside

pub fill-requires-clause-inside : goal.fill-requires-clause-inside
fill-requires-clause-inside c = inside_more (length c.args.starts.now - 1) (length c.sum_up.new.numbers) c.args.edges.now (omega (arith, c.count.auto.counts, c.sum_up.auto.numbers)) c.requires.inside

pub returns : goal.returns
returns c =
    let l : 0 < length c.args.starts.now = c.requires.some in
    let m : length c.args.starts.now ≤ 4294967297 = c.requires.nodes in
    rows_are c.sum_up.new.numbers c.fill.new.starts c.fill.new.heads (length c.args.starts.now - 1) c.args.edges.now (omega arith) c.requires.inside
    (omega (arith, c.count.auto.counts, c.sum_up.auto.numbers)) (c.fill.auto.heads ∙ c.requires.room)
    (ends_are c.count.new.counts c.sum_up.new.numbers c.args.edges.now c.sum_up.auto.numbers c.count.ensures.each c.count.ensures.all c.sum_up.ensures) c.fill.ensures
