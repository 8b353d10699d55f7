use Rattle.std.proofs.Common.{◌≡◌, ◌≤◌, ◌^◌, length, take, ltb, true}
use Rattle.std.specs.List.{list_all}
use Rattle.pick_order.proofs.Taking.{TakenSoFar}
use Rattle.pick_order.proofs.order.take_over.Given as goal

abbrev pub invariant-loop-var : goal.invariant-loop-var
invariant-loop-var l = record {
  taken : TakenSoFar (take l.var-index l.active) l.phase l.known l.taken.items;
  limit : length l.taken.items ≤ 2 ^ 32;
  room : list_all (λ a. ltb a.0 (length l.taken.items)) l.active ≡ true;
}
