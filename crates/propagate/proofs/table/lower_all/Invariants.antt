use Rattle.std.proofs.Common.{◌≡◌, ◌<◌, ◌≤◌, ℕ, length, min, get_or, vec_capacity}
use Rattle.propagate.proofs.table.lower_all.Given as goal

abbrev pub invariant-lower : goal.invariant-lower
invariant-lower l =
    (length l.starts.items ≡ length l.fn.starts.items) × (l.place ≤ length l.fn.starts.items) × ((q : ℕ) → q < l.place → get_or l.starts.items q 0 ≡ get_or l.fn.starts.items q 0)
    × ((q : ℕ) → l.place ≤ q → q < length l.fn.starts.items → get_or l.starts.items q 0 ≡ min (get_or l.fn.starts.items q 0) l.most) × (vec_capacity l.starts ≡ vec_capacity l.fn.starts)

abbrev pub decreases-lower : goal.decreases-lower
decreases-lower l = l.place
