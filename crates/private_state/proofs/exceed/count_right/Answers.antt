use Rattle.std.proofs.Common.{◌≡◌, ◌∙◌, ◌+◌, ap, arith, filter, length, get_or, take}
use Rattle.std.specs.Prelude.{if◌then◌else◌}
use Rattle.clause_store.specs.Store.{hard_of}
use Rattle.indexed_store.specs.declared.short_id.ShortId.{ShortId}
use Rattle.indexed_store.specs.Occurrences.{clauses_at}
use Rattle.private_state.specs.Pairs.{hard_at, joins_right}
use Rattle.private_state.proofs.Exceeding.{count_more}
use Rattle.private_state.proofs.exceed.count_right.Goals.{then-joins_at, else-joins_at}
use Rattle.private_state.proofs.exceed.count_right.Goals as goal

abbrev first : ShortId
first = record { 0 = 0 }

pub each-preserved : goal.each-preserved
each-preserved c =
    let more : length (filter (joins_right c.args.var.0 c.args.left.now) (hard_of (clauses_at c.args.store.now.held (take (c.each.id-index + 1) c.args.ids.now))))
    ≡ length (filter (joins_right c.args.var.0 c.args.left.now) (hard_of (clauses_at c.args.store.now.held (take c.each.id-index c.args.ids.now)))) + length (filter (joins_right c.args.var.0 c.args.left.now) (hard_at c.args.store.now.held (get_or c.args.ids.now c.each.id-index first).0)) =
    count_more (joins_right c.args.var.0 c.args.left.now) c.args.store.now.held c.args.ids.now c.each.id-index first c.each-test.true in
    let here : length (filter (joins_right c.args.var.0 c.args.left.now) (hard_at c.args.store.now.held (get_or c.args.ids.now c.each.id-index first).0)) ≡ (if c.joins_at.result then 1 else 0) = rw c.whole.ensures at c.joins_at.ensures in
    elim c.if-joins_at.branch [
      | then-joins_at w ↦
          let one : length (filter (joins_right c.args.var.0 c.args.left.now) (hard_at c.args.store.now.held (get_or c.args.ids.now c.each.id-index first).0)) ≡ 1 = here ∙ ap (λ b. if b then 1 else 0) w.if-joins_at.true in
          record { counted = omega (arith, w.count-is, c.each.invariant.counted); below = omega (arith, w.count-is, c.each.invariant.below) }
      | else-joins_at w ↦
          let none : length (filter (joins_right c.args.var.0 c.args.left.now) (hard_at c.args.store.now.held (get_or c.args.ids.now c.each.id-index first).0)) ≡ 0 = here ∙ ap (λ b. if b then 1 else 0) w.if-joins_at.false in
          record { counted = omega (arith, w.count-is, c.each.invariant.counted); below = omega (arith, w.count-is, c.each.invariant.below) }
    ]
