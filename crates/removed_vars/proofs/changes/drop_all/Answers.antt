use Rattle.std.proofs.Common.{◌≡◌, ◌∙◌, ◌+◌, ap, sym, List, take, get_or, false}
use Rattle.sat_lits.specs.declared.literal.ClauseId.{ClauseId}
use Rattle.clause_store.specs.Store.{Store, Held, is_live, without}
use Rattle.state_laws.specs.Held.{without_ids, numbers}
use Rattle.state_laws.specs.HeldLaws.{without_none, not_live}
use Rattle.removed_vars.specs.CollectLaws.{dropping}
use Rattle.removed_vars.proofs.changes.drop_all.Goals.{then-is_live, else-is_live}
use Rattle.removed_vars.proofs.changes.drop_all.Goals as goal

pub loop-id-init : goal.loop-id-init
loop-id-init c = ap (λ (hs : List Held). let t : Store = record { held = hs; given = c.args.store.now.given; mark = c.args.store.now.mark } in t) (sym (without_none c.args.store.now.held))

abbrev dropped : ClauseId → Store → Store
dropped i s = record s { held = without i.0 s.held }

-- nothing is dropped where the id is not live
stays : (s : Store) (i : ClauseId) → is_live s.held i.0 ≡ false → s ≡ dropped i s
stays s i e = ap (λ (hs : List Held). let t : Store = record { held = hs; given = s.given; mark = s.mark } in t) (sym (not_live s.held i.0 e))

pub loop-id-preserved : goal.loop-id-preserved
loop-id-preserved c =
    let d : ClauseId = record { 0 = 0 } in
    let step : dropped (get_or c.args.ids.now c.loop-id.id-index d) c.loop-id.store ≡ without_ids (numbers (take (c.loop-id.id-index + 1) c.args.ids.now)) c.args.store.now =
    ap (dropped (get_or c.args.ids.now c.loop-id.id-index d)) c.loop-id.invariant ∙ sym (dropping c.args.store.now c.args.ids.now c.loop-id.id-index d c.loop-id-test.true) in
    elim c.if-is_live.branch [
      | then-is_live w ↦ w.store-is ∙ (w.drop_clause.ensures.rest ∙ step)
      | else-is_live w ↦ w.store-is ∙ (stays c.loop-id.store (get_or c.args.ids.now c.loop-id.id-index d) (ap (λ (z : Store). is_live z.held (get_or c.args.ids.now c.loop-id.id-index d).0) (sym c.store.ensures.value) ∙ (sym c.is_live.ensures.value ∙ w.if-is_live.false)) ∙ step)
    ]
