use Rattle.propagate.specs.Laws.{back_reasoned}
use Rattle.analyze.proofs.laws.the_way_back_keeps_a_trail_reasoned.Goals as goal

pub returns : goal.returns
returns c = back_reasoned
