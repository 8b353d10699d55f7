use Rattle.dimacs_text.proofs.Tellings.{tells_each}
use Rattle.dimacs_text.proofs.laws.texts_in_a_row_are_told_apart.Goals as goal

pub returns : goal.returns
returns c = tells_each
