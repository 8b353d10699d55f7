-- What assumptions are mapped to.
use Rattle.std.specs.Prelude.{◌≡◌, ℕ, ◌<◌, true, false, List, [], ◌∷◌, length, slice_index, slice_index_or, is_some}
use Rattle.std.specs.List.{list_all}
use Rattle.sat_lits.specs.declared.literal.Lit.{Lit}
use Rattle.sat_lits.specs.declared.literal.OwnLit.{OwnLit}
use Rattle.sat_lits.specs.declared.literal.InLit.{InLit}
use Rattle.rebuild_stack.specs.Roots.{turned}
use Rattle.rebuild_stack.specs.declared.entry.Root.{Root}
use Rattle.rebuild_stack.specs.declared.entry.Root.TheVariants.{Known, Last}
use Rattle.var_maps.specs.Maps.{Maps, owner_at}
use Rattle.state_laws.specs.Held.{own_of}
use Rattle.state_laws.specs.Kernel.{Kernel, state_of}
use Rattle.assume_map.specs.Roots.{roots, root_at, IsFirst, Agree}
use Rattle.assume_map.specs.declared.mapped.Mapped.{Mapped}
use Rattle.assume_map.specs.declared.mapped.Mapped.TheVariants.{Ready, Clash}

-- the literal at a place
abbrev pub lit_at : List InLit → ℕ → InLit
lit_at lits i = slice_index_or lits i (record { var = record { 0 = 0 }; negative = false })

-- of the first so many, each that comes to a literal comes to one of these, and each of these comes from the first that does, at a rising position
pub record HasKept (m : Maps) (rs : List Root) (n : ℕ) (lits : List InLit) (positions : List ℕ) : Type 0 where
  pub long : length positions ≡ length lits
  pub rising : (i j : ℕ) → i < j → j < length positions → slice_index positions i < slice_index positions j
  pub below : (i : ℕ) → i < length positions → slice_index positions i < n
  pub owned : list_all (λ l. is_some (owner_at m l.var.0)) lits ≡ true
  pub first : (i : ℕ) → i < length lits → IsFirst rs (slice_index positions i) (own_of m (lit_at lits i))
  pub all : (p : ℕ) (l : OwnLit) → p < n → root_at rs p ≡ Last l → (i : ℕ) × (i < length lits) × (own_of m (lit_at lits i) ≡ l)

-- no two assumptions clash, and those that are not true already are mapped to these literals
pub record IsReady (m : Maps) (rs : List Root) (lits : List InLit) (positions : List ℕ) : Type 0 where
  pub agree : Agree rs (length rs)
  pub kept : HasKept m rs (length rs) lits positions

-- the assumption at the position is the first that is false already, and none clashes before it
pub record IsFalseFirst (rs : List Root) (p : ℕ) : Type 0 where
  pub agree : Agree rs p
  pub known : root_at rs p ≡ Known false

-- the assumption at the second position is the first that comes to the negation of what one before it comes to, the one at the first position
pub record IsOpposite (rs : List Root) (q p : ℕ) : Type 0 where
  pub agree : Agree rs p
  pub lit : OwnLit
  pub before : q < p
  pub first : IsFirst rs q lit
  pub opposite : root_at rs p ≡ Last (turned true lit)

-- a walk through the assumptions meets a clash first at these positions
abbrev pub IsClash : List Root → List ℕ → Type 0
IsClash rs [] = ⊥
IsClash rs (p ∷ []) = IsFalseFirst rs p
IsClash rs (q ∷ p ∷ []) = IsOpposite rs q p
IsClash rs (q ∷ p ∷ r ∷ more) = ⊥

-- assumptions are mapped to literals, or they clash
abbrev pub IsMapped : Kernel → List Lit → Mapped → Type 0
IsMapped k assumptions (Ready lits positions) = IsReady k.maps (roots (state_of k) assumptions) lits positions
IsMapped k assumptions (Clash positions) = IsClash (roots (state_of k) assumptions) positions
