-- Literals of packed variables, one beside another.
use Rattle.std.specs.Prelude.{◌==◌, Bool, true, not, ◌&&◌, List, [], ◌∷◌}
use Rattle.std.specs.Bool.{beq}
use Rattle.std.specs.List.{list_any}
use Rattle.sat_lits.specs.declared.literal.InLit.{InLit}

-- whether two literals are one
abbrev pub same_lit : InLit → InLit → Bool
same_lit k l = (k.var.0 == l.var.0) && beq k.negative l.negative

-- whether one literal is the negation of the other
abbrev pub opposite : InLit → InLit → Bool
opposite k l = (k.var.0 == l.var.0) && not (beq k.negative l.negative)

-- whether no literal stands twice
abbrev pub is_distinct : List InLit → Bool
is_distinct [] = true
is_distinct (l ∷ ls) = not (list_any (same_lit l) ls) && is_distinct ls
