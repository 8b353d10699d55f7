use Rattle.std.proofs.Common.{◌≡◌, ◌<◌, ℕ, length, get_or, vec_capacity}
use Rattle.propagate.proofs.watches.count_to.Given as goal

abbrev pub invariant-loop-number : goal.invariant-loop-number
invariant-loop-number l = (length l.numbers.items ≡ l.number) × ((i : ℕ) → i < l.number → get_or l.numbers.items i 0 ≡ i) × (vec_capacity l.numbers ≡ l.end)
