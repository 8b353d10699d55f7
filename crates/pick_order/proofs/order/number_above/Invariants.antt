use Rattle.std.proofs.Common.{◌≡◌, ◌^◌, ◌≤◌, ltb, true, take}
use Rattle.std.specs.List.{list_all}
use Rattle.pick_order.proofs.order.number_above.Given as goal

abbrev pub invariant-loop-var : goal.invariant-loop-var
invariant-loop-var l = record {
  above : list_all (λ a. ltb a.0 l.above) (take l.var-index l.vars) ≡ true;
  limit : l.above ≤ 2 ^ 32;
}
