-- Resolvents of clauses on a variable.
use Rattle.std.specs.Prelude.{ℕ, ◌==◌, Bool, true, false, not, ◌&&◌, List, ◌++◌, map, filter, flat_map}
use Rattle.std.specs.Bool.{beq}
use Rattle.std.specs.List.{list_any}
use Rattle.sat_lits.specs.declared.literal.OwnLit.{OwnLit}
use Rattle.rebuild_stack.specs.PutIn.{put_in_all}
use Rattle.rebuild_stack.specs.declared.entry.Root.TheVariants.{Last}

-- whether a literal is of the variable
abbrev pub is_of : ℕ → OwnLit → Bool
is_of v l = l.var.0 == v

-- whether a clause holds a literal of the variable
abbrev pub mentions : ℕ → List OwnLit → Bool
mentions v c = list_any (is_of v) c

-- whether a clause holds the literal of the variable that is negative, or positive
abbrev pub has_sign : ℕ → Bool → List OwnLit → Bool
has_sign v negative c = list_any (λ l. is_of v l && beq negative l.negative) c

-- a clause without the literals of the variable
abbrev pub without_var : ℕ → List OwnLit → List OwnLit
without_var v c = filter (λ l. not (is_of v l)) c

-- what is left of clauses where the variable gets this value: those that its literal makes true go, the others lose its literals
abbrev pub rests : ℕ → Bool → List (List OwnLit) → List (List OwnLit)
rests v value cs = map (without_var v) (filter (λ c. not (has_sign v (not value) c)) cs)

-- each clause of one list joined with each of another, repeats merged, tautologies left out
abbrev pub joins : List (List OwnLit) → List (List OwnLit) → List (List OwnLit)
joins cs ds = flat_map (λ c. put_in_all Last (map (λ d. c ++ d) ds)) cs

-- the resolvents of clauses on a variable
abbrev pub resolvents : ℕ → List (List OwnLit) → List (List OwnLit)
resolvents v cs = joins (rests v false cs) (rests v true cs)
