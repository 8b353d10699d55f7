use Rattle.std.proofs.Common.{◌≡◌, take, map}
use Rattle.rebuild_stack.specs.Roots.{root}
use Rattle.state_laws.specs.Held.{own_outer}
use Rattle.removed_vars.proofs.taking.own_form.Given as goal

abbrev pub invariant-loop-lit : goal.invariant-loop-lit
invariant-loop-lit l = l.roots.items ≡ map (λ k. root l.removed.entries (own_outer l.maps k)) (take l.lit-index l.lits)
