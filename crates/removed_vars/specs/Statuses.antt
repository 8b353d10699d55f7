-- What a stack says of a variable.
use Rattle.std.specs.Prelude.{ℕ, Bool, not, ◌&&◌, cond, List, Some, None}
use Rattle.std.specs.declared.option.Option.{Option}
use Rattle.std.specs.List.{list_any}
use Rattle.rebuild_stack.specs.Entries.{names}
use Rattle.rebuild_stack.specs.declared.entry.Entry.{Entry}
use Rattle.rebuild_stack.specs.declared.entry.Entry.TheVariants.{Fix, Equal, Gone}
use Rattle.removed_vars.specs.Restoring.{stays}
use Rattle.removed_vars.specs.declared.removed.Status.{Status}
use Rattle.removed_vars.specs.declared.removed.Status.TheVariants.{Kept, Fixed, Replaced, Eliminated}

-- what the entry of a variable, if it has one, says of it
abbrev pub status_of : Option Entry → Status
status_of None = Kept
status_of (Some (Fix l)) = Fixed (not l.negative)
status_of (Some (Equal v l)) = Replaced l
status_of (Some (Gone v cs)) = Eliminated

-- what is said of a variable once the `Gone` entries of variables that pass went, where this was said before
abbrev pub status_without : (ℕ → Bool) → ℕ → List Entry → Status → Status
status_without m k s x = cond (list_any (λ e. names k e && not (stays m e)) s) Kept x

-- no replacement goes on
abbrev pub IsEnd : Status → Type 0
IsEnd Kept = Unit {0}
IsEnd (Fixed value) = Unit {0}
IsEnd (Replaced l) = ⊥
IsEnd Eliminated = Unit {0}
