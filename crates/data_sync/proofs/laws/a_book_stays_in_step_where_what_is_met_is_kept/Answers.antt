use Rattle.data_sync.specs.StepLaws.{kept-InStepWith}
use Rattle.data_sync.proofs.laws.a_book_stays_in_step_where_what_is_met_is_kept.Goals as goal

pub returns : goal.returns
returns c = kept-InStepWith
