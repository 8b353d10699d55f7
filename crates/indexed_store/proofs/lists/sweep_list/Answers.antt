use Rattle.std.proofs.Common.{rules}
use Rattle.std.proofs.lemmas.Fn.{filter_same}
use Rattle.indexed_store.specs.declared.short_id.ShortId.{ShortId}
use Rattle.clause_store.specs.Store.{is_live}
use Rattle.indexed_store.proofs.lists.sweep_list.Goals as goal

pub returns-clause-items : goal.returns-clause-items
returns-clause-items c = filter_same _ (λ (id : ShortId). is_live c.args.store.now.held id.0) _ (λ x b q r. search rules) _ _ c.retain.ensures.filtered
