use Rattle.std.proofs.Common.{◌≡◌, ◌<◌, ℕ, false, get_or}
use Rattle.sat_lits.specs.InLits.{opposite}
use Rattle.propagate.specs.Watched.{no_lit}
use Rattle.propagate.proofs.table.walked_before.Given as goal

abbrev pub invariant-loop-place : goal.invariant-loop-place
invariant-loop-place l = (p : ℕ) → p < l.place → opposite (get_or l.done p no_lit) l.lit ≡ false
