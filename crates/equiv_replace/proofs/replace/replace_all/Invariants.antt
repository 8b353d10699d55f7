use Rattle.equiv_replace.specs.Replaced.{IsReplacing, Replaced, OnlyReplaced}
use Rattle.state_laws.specs.Kernel.{state_of, TookSame}
use Rattle.sync_laws.specs.Met.{KeepsMet}
use Rattle.std.proofs.Common.{◌≤◌}
use Rattle.equiv_replace.proofs.replace.replace_all.Given as goal

abbrev pub invariant-each : goal.invariant-each
invariant-each l = record {
  replacing : IsReplacing l.roots l.var l.state;
  replaced : Replaced l.initial.state l.state l.count;
  taken : TookSame l.initial.state l.state;
  pushed : OnlyReplaced l.initial.state l.state;
  kept : KeepsMet (state_of l.initial.state) (state_of l.state);
  few : l.count ≤ l.var;
}
