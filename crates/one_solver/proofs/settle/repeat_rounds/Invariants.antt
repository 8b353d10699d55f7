use Rattle.std.proofs.Common.{◌≡◌, true, count_by}
use Rattle.std.specs.List.{list_all}
use Rattle.state_laws.specs.Kernel.{state_of, TookSame}
use Rattle.sync_laws.specs.Met.{KeepsMet}
use Rattle.one_solver.specs.Basic.{IsBasic}
use Rattle.one_solver.specs.Roots.{is_free}
use Rattle.one_solver.specs.Units.{HasNoUnits, StayFixed}
use Rattle.one_solver.proofs.settle.repeat_rounds.Given as goal

abbrev pub invariant-rounds : goal.invariant-rounds
invariant-rounds l = record {
  basic : IsBasic l.state;
  same : TookSame l.fn.state l.state;
  met : KeepsMet (state_of l.fn.state) (state_of l.state);
  free : list_all (is_free l.state) l.assumptions ≡ true;
  stays : StayFixed l.fn.state l.state;
  left : l.state.okay ≡ true → HasNoUnits l.state;
}

abbrev pub decreases-rounds : goal.decreases-rounds
decreases-rounds l = count_by (λ b. b) (state_of l.state).active
