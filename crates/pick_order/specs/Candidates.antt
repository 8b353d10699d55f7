-- The order in which candidates come.
use Rattle.std.specs.Prelude.{◌==◌, nat_lt, nat_le, Bool, true, false, ◌&&◌, ◌||◌, if◌then◌else◌, Option, Some, None}
use Rattle.pick_order.specs.declared.preference.Candidate.{Candidate}

-- whether a candidate comes before another: it has a greater activity, or the same and a lesser number
abbrev pub comes_first : Candidate → Candidate → Bool
comes_first a b = nat_lt b.activity a.activity || ((a.activity == b.activity) && nat_le a.var.0 b.var.0)

-- the first of two candidates, where they are there
abbrev pub first_of : Option Candidate → Option Candidate → Option Candidate
first_of None b = b
first_of (Some a) None = Some a
first_of (Some a) (Some b) = if comes_first a b then Some a else Some b

-- whether nothing comes before a candidate
abbrev pub is_ahead : Option Candidate → Option Candidate → Bool
is_ahead a None = true
is_ahead None (Some b) = false
is_ahead (Some a) (Some b) = comes_first a b
