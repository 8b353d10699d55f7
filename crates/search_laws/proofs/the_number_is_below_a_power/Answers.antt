use Rattle.search_laws.specs.NumberLaws.{number_bound}
use Rattle.search_laws.proofs.the_number_is_below_a_power.Goals as goal

pub returns : goal.returns
returns c = number_bound
