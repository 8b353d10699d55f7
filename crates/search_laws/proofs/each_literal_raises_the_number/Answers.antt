use Rattle.search_laws.specs.NumberLaws.{more_raises}
use Rattle.search_laws.proofs.each_literal_raises_the_number.Goals as goal

pub returns : goal.returns
returns c = more_raises
