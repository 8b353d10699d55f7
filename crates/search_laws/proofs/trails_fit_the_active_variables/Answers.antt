use Rattle.search_laws.specs.FitLaws.{trail_fits}
use Rattle.search_laws.proofs.trails_fit_the_active_variables.Goals as goal

pub returns : goal.returns
returns c = trail_fits
