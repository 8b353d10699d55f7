use Rattle.std.proofs.Common.{◌≡◌, ◌≤◌, count_by, take, nat_eq}
use Rattle.std.specs.HashSet.{contains}
use Rattle.var_elim.specs.Marks.{code}
use Rattle.var_elim.proofs.marks.count_marked.Given as goal

abbrev pub invariant-each : goal.invariant-each
invariant-each l =
    record {
      counted : l.count ≡ count_by (λ k. contains nat_eq l.marks (code k)) (take l.lit-index l.lits);
      below : l.count ≤ l.lit-index;
    }
