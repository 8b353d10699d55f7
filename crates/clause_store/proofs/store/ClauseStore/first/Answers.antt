use Rattle.clause_store.proofs.Blocks.{stored_kept}
use Rattle.clause_store.proofs.store.ClauseStore.first.Goals as goal

pub returns-clause-kept : goal.returns-clause-kept
returns-clause-kept c = stored_kept c.self.inside c.args.self.now c.self.view_is c.self.invariant
