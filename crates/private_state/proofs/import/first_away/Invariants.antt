use Rattle.std.proofs.Common.{◌≡◌, take, find, None}
use Rattle.rebuild_stack.specs.Roots.{root, is_lost}
use Rattle.state_laws.specs.Held.{own_outer}
use Rattle.private_state.proofs.import.first_away.Given as goal

abbrev pub invariant-loop-lit : goal.invariant-loop-lit
invariant-loop-lit l = find (λ k. is_lost (root l.removed.entries (own_outer l.maps k))) (take l.lit-index l.lits) ≡ None
