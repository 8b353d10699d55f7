use Rattle.std.proofs.Common.{rules, ap, map, ◌∙◌}
use Rattle.std.proofs.lemmas.Fn.{filter_same}
use Rattle.sat_lits.specs.declared.literal.ClauseId.{ClauseId}
use Rattle.clause_store.specs.Store.{is_live}
use Rattle.one_solver.proofs.Noting.{numbers_filter}
use Rattle.one_solver.proofs.tidy.live_of.Goals as goal

pub returns-clause-ids : goal.returns-clause-ids
returns-clause-ids c =
    ap (map (λ (id : ClauseId). id.0)) (filter_same _ (λ (id : ClauseId). is_live c.args.store.now.held id.0) _ (λ x b q r. search rules) _ _ c.retain.ensures.filtered)
    ∙ numbers_filter (is_live c.args.store.now.held) c.args.ids.items
