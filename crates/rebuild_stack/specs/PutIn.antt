-- Fixed and replaced literals put into clauses.
use Rattle.std.specs.Prelude.{ℕ, ◌==◌, Bool, true, not, cond, ◌&&◌, List, [], ◌∷◌, ◌++◌, Some, None, filter_map, fold}
use Rattle.std.specs.declared.option.Option.{Option}
use Rattle.std.specs.Bool.{beq}
use Rattle.std.specs.List.{list_all, list_any}
use Rattle.sat_lits.specs.Truth.{clause_value}
use Rattle.sat_lits.specs.declared.literal.OwnLit.{OwnLit}
use Rattle.rebuild_stack.specs.Values.{own_value}
use Rattle.rebuild_stack.specs.Roots.{turned}
use Rattle.rebuild_stack.specs.declared.entry.Root.{Root}
use Rattle.rebuild_stack.specs.declared.entry.Root.TheVariants.{Known, Last, Lost}

-- whether two literals are the same
abbrev pub same_lit : OwnLit → OwnLit → Bool
same_lit k l = (k.var.0 == l.var.0) && beq k.negative l.negative

-- the clause with one more literal: nothing where its negation stands there, and no repeat
abbrev pub add_lit : OwnLit → List OwnLit → Option (List OwnLit)
add_lit k c = cond (list_any (same_lit (turned true k)) c) None (cond (list_any (same_lit k) c) (Some c) (Some (c ++ k ∷ [])))

-- the same of a clause that may be settled already
abbrev pub add_to : OwnLit → Option (List OwnLit) → Option (List OwnLit)
add_to k None = None
add_to k (Some c) = add_lit k c

-- the clause with what a literal came to: a true one settles it, a false or lost one is left out
abbrev pub add_root : Root → Option (List OwnLit) → Option (List OwnLit)
add_root (Known x) c = cond x None c
add_root (Last k) c = add_to k c
add_root (Lost v) c = c

-- the clause of what its literals come to, and nothing where it is satisfied or a tautology
abbrev pub put_in : {L : Type 0} → (L → Root) → List L → Option (List OwnLit)
put_in r c = fold (λ o l. add_root (r l) o) (Some []) c

-- all the clauses, but for those of which nothing is left
abbrev pub put_in_all : {L : Type 0} → (L → Root) → List (List L) → List (List OwnLit)
put_in_all r cs = filter_map (put_in r) cs

-- the value of a clause that may be settled: then it is true
abbrev pub option_value : (ℕ → Bool) → Option (List OwnLit) → Bool
option_value w None = true
option_value w (Some c) = clause_value (own_value w) c

-- whether each literal of such a clause passes
abbrev pub option_passes : (OwnLit → Bool) → Option (List OwnLit) → Bool
option_passes p None = true
option_passes p (Some c) = list_all p c

-- no literal twice, and none beside its negation
abbrev pub is_clean : List OwnLit → Bool
is_clean [] = true
is_clean (l ∷ c) = (not (list_any (same_lit l) c) && not (list_any (same_lit (turned true l)) c)) && is_clean c

-- whether such a clause is clean
abbrev pub option_clean : Option (List OwnLit) → Bool
option_clean None = true
option_clean (Some c) = is_clean c
