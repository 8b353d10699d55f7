use Rattle.data_sync.specs.StepLaws.{longer-InStepWith}
use Rattle.data_sync.proofs.laws.a_book_stays_in_step_with_a_longer_log.Goals as goal

pub returns : goal.returns
returns c = longer-InStepWith
