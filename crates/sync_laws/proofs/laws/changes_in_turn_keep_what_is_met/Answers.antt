use Rattle.sync_laws.specs.KeepLaws.{keeps_refl, keeps_trans}
use Rattle.sync_laws.proofs.laws.changes_in_turn_keep_what_is_met.Goals as goal

pub returns-clause-none : goal.returns-clause-none
returns-clause-none c = keeps_refl

pub returns-clause-two : goal.returns-clause-two
returns-clause-two c = keeps_trans
