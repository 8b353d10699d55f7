use Rattle.std.proofs.Common.{◌≡◌, ℕ, ◌<◌, ◌≤◌, ◌&&◌}
use Rattle.trail.specs.Trail.{set_in}
use Rattle.pick_order.specs.Orders.{is_passed}
use Rattle.pick_order.proofs.order.PickOrder.put_back_unset.Given as goal

abbrev pub invariant-loop-number : goal.invariant-loop-number
invariant-loop-number l = record {
  same : l.self ≡ record l.initial.self { candidates = l.self.candidates };
  below : (v : ℕ) → v < l.number → is_passed l.self v ≡ (is_passed l.initial.self v && set_in l.trail.steps v);
  above : (v : ℕ) → l.number ≤ v → is_passed l.self v ≡ is_passed l.initial.self v;
}
