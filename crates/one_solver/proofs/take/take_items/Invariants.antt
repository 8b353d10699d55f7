use Rattle.std.proofs.Common.{take}
use Rattle.one_solver.specs.Basic.{IsBasic}
use Rattle.one_solver.specs.Taken.{HasTaken}
use Rattle.one_solver.proofs.take.take_items.Given as goal

abbrev pub invariant-loop-item : goal.invariant-loop-item
invariant-loop-item l = record {
  basic : IsBasic l.state;
  taken : HasTaken l.initial.state l.state (take l.item-index l.items);
}
