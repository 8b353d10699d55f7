use Rattle.dimacs_text.proofs.Tellings.{tells_verdict}
use Rattle.dimacs_text.proofs.laws.the_text_of_a_verdict_tells_it.Goals as goal

pub returns : goal.returns
returns c = tells_verdict
