use Rattle.std.proofs.Common.{length}
use Rattle.dimacs_text.proofs.reader.tests.read.Given as goal

abbrev pub decreases-loop-command : goal.decreases-loop-command
decreases-loop-command l = length l.commands
