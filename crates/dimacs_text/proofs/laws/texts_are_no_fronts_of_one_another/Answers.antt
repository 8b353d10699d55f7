use Rattle.dimacs_text.proofs.Tellings.{no_proper_front}
use Rattle.dimacs_text.proofs.laws.texts_are_no_fronts_of_one_another.Goals as goal

pub returns : goal.returns
returns c = no_proper_front
