-- What a walk through assumptions knows.
use Rattle.std.specs.Prelude.{◌≡◌, ℕ, ◌<◌, ◌+◌, Bool, true, List, [], ◌∷◌, ◌++◌, Some, None, is_some, slice_index_or, slice_set}
use Rattle.std.specs.declared.option.Option.{Option}
use Rattle.sat_lits.specs.declared.literal.OwnLit.{OwnLit}
use Rattle.sat_lits.specs.declared.literal.InLit.{InLit}
use Rattle.rebuild_stack.specs.declared.entry.Root.{Root}
use Rattle.rebuild_stack.specs.declared.entry.Root.TheVariants.{Last}
use Rattle.var_maps.specs.Maps.{Maps, owner_at}
use Rattle.state_laws.specs.Held.{own_of}
use Rattle.assume_map.specs.Roots.{root_at, IsFirst, Agree}
use Rattle.assume_map.specs.Mapping.{HasKept, IsClash}
use Rattle.assume_map.specs.declared.walk.Mark.{Mark}
use Rattle.assume_map.specs.declared.walk.Walk.{Walk}

-- a literal of an own variable
abbrev pub own : ℕ → Bool → OwnLit
own v negative = record { var = record { 0 = v }; negative = negative }

-- a variable is marked with the first position that comes to a literal of it, where there is one
abbrev pub IsMarked : List Root → ℕ → ℕ → Option Mark → Type 0
IsMarked rs n v None = (p : ℕ) (negative : Bool) → p < n → root_at rs p ≡ Last (own v negative) → ⊥
IsMarked rs n v (Some mark) = (mark.position < n) × IsFirst rs mark.position (own v mark.negative)

-- the first so many were met, without a clash
pub record HasWalked (m : Maps) (rs : List Root) (n : ℕ) (marks : List (Option Mark)) (lits : List InLit) (positions : List ℕ) : Type 0 where
  pub agree : Agree rs n
  pub kept : HasKept m rs n lits positions
  pub marked : (v : ℕ) → IsMarked rs n v (slice_index_or marks v None)

abbrev pub Walked : Maps → List Root → ℕ → Walk → Type 0
Walked m rs n w = HasWalked m rs n w.marks.items w.lits w.positions

-- the next one was met: there is a clash, or the walk goes on
abbrev pub IsMet : Maps → List Root → ℕ → Walk → Option (List ℕ) → Type 0
IsMet m rs n w None = Walked m rs (n + 1) w
IsMet m rs n w (Some positions) = IsClash rs positions

-- a literal was kept, and its variable marked with the position
pub record HasLit (m : Maps) (l : OwnLit) (p : ℕ) (old new : Walk) : Type 0 where
  pub stored : InLit
  pub owner : is_some (owner_at m stored.var.0) ≡ true
  pub same : own_of m stored ≡ l
  pub lits : new.lits ≡ old.lits ++ stored ∷ []
  pub positions : new.positions ≡ old.positions ++ p ∷ []
  pub marks : new.marks.items ≡ slice_set old.marks.items l.var.0 (Some (record { position = p; negative = l.negative }))
