use Rattle.std.proofs.Common.{◌≡◌, take, map, [], ◌∷◌}
use Rattle.rebuild_stack.specs.Roots.{root}
use Rattle.removed_vars.proofs.roots.put_in_entry.Given as goal

abbrev pub invariant-loop-lit : goal.invariant-loop-lit
invariant-loop-lit l = l.roots.items ≡ map (root (l.entry ∷ [])) (take l.lit-index l.lits)
