use Rattle.std.proofs.Common.{◌≡◌, ◌<◌, ◌≤◌, ◌+◌, length, arith}
use Rattle.equiv_replace.specs.Parts.{opened}
use Rattle.equiv_replace.specs.Walks.{news}
use Rattle.equiv_replace.proofs.Walking.{open_walking, news_left-set, knows_open, seen_open, news_some}
use Rattle.equiv_replace.proofs.components.Walk.open.Goals as goal

-- there are fewer nodes on the path than in the graph
pub overflow_cast-at : goal.overflow_cast-at
overflow_cast-at c =
    let f : length (opened c.args.self.now.path) + news c.args.self.now.marks.items ≤ length c.args.graph.now = c.requires.walk.fits in
    let e : length c.args.self.now.marks.items ≡ length c.args.graph.now = c.requires.walk.each in
    let t : c.args.node < length c.args.graph.now = c.requires.there in
    omega (arith, c.len-at.ensures, news_some c.args.self.now.marks.items c.args.node (omega arith) c.requires.new, c.requires.walk.few)

pub returns-clause-walk : goal.returns-clause-walk
returns-clause-walk c =
    rw (c.len-at.ensures, c.in_ok-open.ensures, c.heads.ensures)
    (open_walking c.args.graph.now c.args.node c.args.self.now.marks.items c.args.self.now.path c.args.self.now.closed c.requires.graph c.requires.there c.requires.new c.requires.leads c.requires.walk)

pub returns-clause-less : goal.returns-clause-less
returns-clause-less c =
    let h = news_left-set c.args.graph.now c.args.self.now.marks.items c.args.node (length (opened c.args.self.now.path)) c.requires.walk.each c.requires.there c.requires.new in
    rw (c.len-at.ensures, c.in_ok-open.ensures, c.heads.ensures) (omega arith)

pub returns-clause-knows : goal.returns-clause-knows
returns-clause-knows c = knows_open c.args.self.now.marks.items c.args.node c.len-at.result (let e : length c.args.self.now.marks.items ≡ length c.args.graph.now = c.requires.walk.each in let h : c.args.node < length c.args.graph.now = c.requires.there in omega arith)

pub returns-clause-seen : goal.returns-clause-seen
returns-clause-seen c = seen_open c.args.self.now.marks.items c.args.node c.len-at.result (let e : length c.args.self.now.marks.items ≡ length c.args.graph.now = c.requires.walk.each in let h : c.args.node < length c.args.graph.now = c.requires.there in omega arith)
