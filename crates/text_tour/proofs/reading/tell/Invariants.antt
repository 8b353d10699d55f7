use Rattle.std.proofs.Common.{length}
use Rattle.text_tour.proofs.reading.tell.Given as goal

abbrev pub decreases-loop-command : goal.decreases-loop-command
decreases-loop-command l = length l.commands
