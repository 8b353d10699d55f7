use Rattle.std.proofs.Common.{◌∙◌, ap, map, filter, subst, List, Option, None}
use Rattle.std.specs.Global.{Vec}
use Rattle.sat_lits.specs.declared.literal.ClauseId.{ClauseId}
use Rattle.clause_store.specs.Store.{Held}
use Rattle.clause_store.specs.Laws.{before-none}
use Rattle.one_solver.specs.Learned.{is_long, HasNoted, NotesLong}
use Rattle.one_solver.proofs.tidy.long_of.Goals as goal

pub returns-in-Some-clause-ids : goal.returns-in-Some-clause-ids
returns-in-Some-clause-ids c =
    let notes : HasNoted c.args.store.now None (map (λ (id : ClauseId). id.0) c.in-Some.ids.items) = subst (λ (o : Option (Vec ClauseId)). NotesLong c.args.store.now None o) c.in-Some.is c.requires in
    c.live_of.ensures.ids ∙ (notes.live ∙ ap (λ (hs : List Held). map (λ (h : Held). h.id) (filter is_long hs)) (before-none c.args.store.now.held))
