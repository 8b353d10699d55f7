use Rattle.std.proofs.Common.{length, vec_len}
use Rattle.analyze.proofs.Unmarking.{Unmarks}
use Rattle.analyze.proofs.marks.Marks.clear.Given as goal

abbrev pub invariant-unmark : goal.invariant-unmark
invariant-unmark l = Unmarks l.self-inside.table.items l.self-inside.marked.items (length l.initial.self-inside.table.items)

abbrev pub decreases-unmark : goal.decreases-unmark
decreases-unmark l = vec_len l.self-inside.marked
