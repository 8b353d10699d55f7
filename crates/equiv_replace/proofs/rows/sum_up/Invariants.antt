use Rattle.std.proofs.Common.{◌≡◌, ◌≤◌, ◌<◌, ◌+◌, ℕ, length, get_or, take, sum}
use Rattle.equiv_replace.proofs.rows.sum_up.Given as goal

abbrev pub invariant-loop-at : goal.invariant-loop-at
invariant-loop-at l = record {
  done : (a : ℕ) → a < l.at → a < length l.numbers → get_or l.numbers a 0 ≡ sum (take (a + 1) l.initial.numbers);
  left : (a : ℕ) → l.at ≤ a → get_or l.numbers a 0 ≡ get_or l.initial.numbers a 0;
}
