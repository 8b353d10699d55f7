use Rattle.std.proofs.Common.{take}
use Rattle.dimacs_text.specs.Reads.{Gives}
use Rattle.dimacs_text.proofs.reader.Reader.take_piece.Given as goal

abbrev pub invariant-loop-byte : goal.invariant-loop-byte
invariant-loop-byte l = Gives l.initial.self l.self (take l.byte-index l.piece) l.initial.to l.to
