use Rattle.dimacs_text.proofs.Calls.{has_read_nothing}
use Rattle.dimacs_text.proofs.reader.Reader.new.Goals as goal

pub returns : goal.returns
returns c = has_read_nothing _ _ c.new.ensures
