-- Counts that stay at their last value.
use Rattle.std.specs.Prelude.{ℕ, ◌+◌, min}

-- the sum of two counts, or the last value where it is greater
abbrev pub saturated : ℕ → ℕ → ℕ
saturated count more = min (count + more) 18446744073709551615
