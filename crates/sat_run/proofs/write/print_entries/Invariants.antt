use Rattle.std.proofs.Common.{◌≡◌, ◌++◌, take}
use Rattle.sat_run.specs.Reports.{entries_text}
use Rattle.sat_run.proofs.write.print_entries.Given as goal

abbrev pub invariant-loop-entry : goal.invariant-loop-entry
invariant-loop-entry l = l.to ≡ l.initial.to ++ entries_text (take l.entry-index l.entries)
