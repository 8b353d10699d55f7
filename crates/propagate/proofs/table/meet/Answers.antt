use Rattle.std.proofs.Common.{◌≡◌, true, sym, subst}
use Rattle.std.specs.List.{list_any}
use Rattle.sat_lits.specs.InLits.{same_lit}
use Rattle.sat_lits.specs.declared.literal.ClauseId.{ClauseId}
use Rattle.clause_store.specs.Store.{is_live}
use Rattle.propagate.specs.Reasons.{names}
use Rattle.propagate.specs.Visits.{VisitsRight}
use Rattle.propagate.proofs.table.meet.Goals as goal

pub settle-requires-clause-within : goal.settle-requires-clause-within
settle-requires-clause-within c = subst (λ (i : ClauseId). is_live c.args.store.now.held i.0 ≡ true → names c.args.store.now.held i (λ lits. list_any (same_lit c.args.other) lits) ≡ true) (sym c.id_at.ensures) c.requires.within

pub returns-clause-right : goal.returns-clause-right
returns-clause-right c = subst (λ (i : ClauseId). VisitsRight c.args.store.now.held i c.args.other c.args.trail.now.steps c.settle.new.trail.steps c.settle.result) c.id_at.ensures c.settle.ensures.right
