use Rattle.share_turn.proofs.Means.{means}
use Rattle.share_turn.proofs.laws.rule_means.Goals as goal

pub returns : goal.returns
returns c = λ asked s kept. means _ s kept
