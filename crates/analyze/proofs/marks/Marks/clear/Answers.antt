use Rattle.analyze.proofs.Unmarking.{unmark_first}
use Rattle.analyze.proofs.marks.Marks.clear.Goals as goal

pub unmark-init : goal.unmark-init
unmark-init c = unmark_first c.self.inside.table.items c.self.inside.marked.items c.self.invariant
