use Rattle.data_sync.specs.StepLaws.{first-InStepWith}
use Rattle.data_sync.proofs.laws.a_new_book_is_in_step.Goals as goal

pub returns : goal.returns
returns c = first-InStepWith
