use Rattle.dimacs_text.proofs.Calls.{gives_nothing}
use Rattle.dimacs_text.proofs.reader.Reader.feed.Goals as goal

pub returns-in-Ended-clause-ok : goal.returns-in-Ended-clause-ok
returns-in-Ended-clause-ok c = gives_nothing _ _ _ c.in-Ended.is
