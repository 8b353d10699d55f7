use Rattle.search_laws.specs.NumberLaws.{runs_end}
use Rattle.search_laws.proofs.every_search_ends.Goals as goal

pub returns : goal.returns
returns c = runs_end
