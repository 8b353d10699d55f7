use Rattle.dimacs_text.proofs.Calls.{concludes_nothing}
use Rattle.dimacs_text.proofs.reader.Reader.finish.Goals as goal

pub returns-in-Ended-clause-ok : goal.returns-in-Ended-clause-ok
returns-in-Ended-clause-ok c = concludes_nothing _ _ c.in-Ended.is
