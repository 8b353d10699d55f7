use Rattle.std.proofs.Common.{◌≡◌, ℕ, ◌<◌, true}
use Rattle.trail.specs.Trail.{set_in}
use Rattle.pick_order.specs.Orders.{is_passed}
use Rattle.pick_order.proofs.order.tests.sets_passed.Given as goal

abbrev pub invariant-loop-number : goal.invariant-loop-number
invariant-loop-number l = (v : ℕ) → v < l.number → is_passed l.order v ≡ true → set_in l.trail.steps v ≡ true
