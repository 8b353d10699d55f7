use Rattle.std.proofs.Common.{◌≡◌, ◌∙◌, ◌+◌, ap, arith, length, length-append, get_or, take}
use Rattle.std.specs.Prelude.{if◌then◌else◌}
use Rattle.clause_store.specs.Store.{hard_of}
use Rattle.indexed_store.specs.declared.short_id.ShortId.{ShortId}
use Rattle.indexed_store.specs.Occurrences.{clauses_at}
use Rattle.private_state.specs.Pairs.{hard_at}
use Rattle.private_state.proofs.Exceeding.{hard_more}
use Rattle.private_state.proofs.exceed.count_hard.Goals.{then-is_hard, else-is_hard}
use Rattle.private_state.proofs.exceed.count_hard.Goals as goal

abbrev first : ShortId
first = record { 0 = 0 }

pub each-preserved : goal.each-preserved
each-preserved c =
    let more : length (hard_of (clauses_at c.args.store.now.held (take (c.each.id-index + 1) c.args.ids.now)))
    ≡ length (hard_of (clauses_at c.args.store.now.held (take c.each.id-index c.args.ids.now))) + length (hard_at c.args.store.now.held (get_or c.args.ids.now c.each.id-index first).0) =
    ap length (hard_more c.args.store.now.held c.args.ids.now c.each.id-index first c.each-test.true)
    ∙ length-append (hard_of (clauses_at c.args.store.now.held (take c.each.id-index c.args.ids.now))) (hard_at c.args.store.now.held (get_or c.args.ids.now c.each.id-index first).0) in
    let here : length (hard_at c.args.store.now.held (get_or c.args.ids.now c.each.id-index first).0) ≡ (if c.is_hard.result then 1 else 0) = rw c.whole.ensures at c.is_hard.ensures in
    elim c.if-is_hard.branch [
      | then-is_hard w ↦
          let one : length (hard_at c.args.store.now.held (get_or c.args.ids.now c.each.id-index first).0) ≡ 1 = here ∙ ap (λ b. if b then 1 else 0) w.if-is_hard.true in
          record { counted = omega (arith, w.count-is, c.each.invariant.counted); below = omega (arith, w.count-is, c.each.invariant.below) }
      | else-is_hard w ↦
          let none : length (hard_at c.args.store.now.held (get_or c.args.ids.now c.each.id-index first).0) ≡ 0 = here ∙ ap (λ b. if b then 1 else 0) w.if-is_hard.false in
          record { counted = omega (arith, w.count-is, c.each.invariant.counted); below = omega (arith, w.count-is, c.each.invariant.below) }
    ]
