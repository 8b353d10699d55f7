-- A comment that comes byte by byte.
use Rattle.std.specs.Prelude.{ℕ, suc, Bool, true, false, List, None, nat_lt, nat_eq, length, drop, get_or, codes}
use Rattle.dimacs_text.specs.Walk.{is_blank}
use Rattle.dimacs_text.specs.Comments.{Kind, NoCommand, SolveWith, GrowBy, behind, behind_bracket, skip_blanks, kind_by, kind_fronted, kind_named, kind_behind}
use Rattle.dimacs_text.specs.declared.comment.Match.{Match}
use Rattle.dimacs_text.specs.declared.comment.Match.TheVariants.{Named, Opened, Lost}
use Rattle.dimacs_text.specs.declared.comment.Comment.{Comment}
use Rattle.dimacs_text.specs.declared.comment.Comment.TheVariants.{Absent, First, Gap, Front, SolveName, GrowthName, Solving, Growing, Skipped}

-- a name with one byte more
abbrev pub matched : List ℕ → ℕ → ℕ → Match
matched name count b = elim (nat_lt count (length name)) [
  | true ↦ elim (nat_eq b (get_or name count 0)) [ true ↦ Named (suc count) | false ↦ Lost ]
  | false ↦ elim (is_blank b) [ true ↦ Named count | false ↦ elim (nat_eq b 40) [ true ↦ Opened | false ↦ Lost ] ]
]

-- the front of both names with one byte more
abbrev pub fronted : ℕ → ℕ → Comment
fronted count b = elim (nat_lt count 8) [
  | true ↦ elim (nat_eq b (get_or (codes "Solver::") count 0)) [ true ↦ Front (suc count) | false ↦ Skipped ]
  | false ↦ elim (nat_eq b 115) [ true ↦ SolveName 1 | false ↦ elim (nat_eq b 110) [ true ↦ GrowthName 1 | false ↦ Skipped ] ]
]

-- the name of a solve has come so far
abbrev pub solve_named : Match → Comment
solve_named (Named count) = SolveName count
solve_named Opened = Solving
solve_named Lost = Skipped

-- the name of a growth has come so far
abbrev pub growth_named : Match → Comment
growth_named (Named count) = GrowthName count
growth_named Opened = Growing
growth_named Lost = Skipped

-- a comment with one byte more, which does not end its line
abbrev pub comment_next : Comment → ℕ → Comment
comment_next Absent b = Absent
comment_next First b = elim (is_blank b) [ true ↦ Gap | false ↦ Skipped ]
comment_next Gap b = elim (is_blank b) [ true ↦ Gap | false ↦ fronted 0 b ]
comment_next (Front count) b = fronted count b
comment_next (SolveName count) b = solve_named (matched (codes "solve") count b)
comment_next (GrowthName count) b = growth_named (matched (codes "new_vars") count b)
comment_next Solving b = Solving
comment_next Growing b = Growing
comment_next Skipped b = Skipped

-- whether the bracket of a command has come
abbrev pub is_opened : Comment → Bool
is_opened Absent = false
is_opened First = false
is_opened Gap = false
is_opened (Front count) = false
is_opened (SolveName count) = false
is_opened (GrowthName count) = false
is_opened Solving = true
is_opened Growing = true
is_opened Skipped = false

-- whether a comment has begun
abbrev pub in_comment : Comment → Bool
in_comment Absent = false
in_comment First = true
in_comment Gap = true
in_comment (Front count) = true
in_comment (SolveName count) = true
in_comment (GrowthName count) = true
in_comment Solving = true
in_comment Growing = true
in_comment Skipped = true

-- which command a comment is, by what follows in its line
abbrev pub kind_of : Comment → List ℕ → Kind
kind_of Absent rest = NoCommand
kind_of First rest = kind_behind rest
kind_of Gap rest = kind_named (skip_blanks rest)
kind_of (Front count) rest = kind_fronted (behind (drop count (codes "Solver::")) rest)
kind_of (SolveName count) rest = kind_by (behind_bracket (drop count (codes "solve")) rest) None
kind_of (GrowthName count) rest = kind_by None (behind_bracket (drop count (codes "new_vars")) rest)
kind_of Solving rest = SolveWith rest
kind_of Growing rest = GrowBy rest
kind_of Skipped rest = NoCommand
