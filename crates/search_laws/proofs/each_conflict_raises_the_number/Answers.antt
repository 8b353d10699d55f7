use Rattle.search_laws.specs.NumberLaws.{conflict_raises}
use Rattle.search_laws.proofs.each_conflict_raises_the_number.Goals as goal

pub returns : goal.returns
returns c = conflict_raises
