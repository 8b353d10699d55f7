-- What assumptions come to.
use Rattle.std.specs.Prelude.{◌≡◌, ℕ, ◌<◌, true, false, List, map, slice_index_or}
use Rattle.sat_lits.specs.declared.literal.Lit.{Lit}
use Rattle.sat_lits.specs.declared.literal.OwnLit.{OwnLit}
use Rattle.rebuild_stack.specs.Roots.{root, turned}
use Rattle.rebuild_stack.specs.declared.entry.Root.{Root}
use Rattle.rebuild_stack.specs.declared.entry.Root.TheVariants.{Known, Last}
use Rattle.state_laws.specs.State.{State, to_own}

-- what each assumption comes to along the entries
abbrev pub roots : State → List Lit → List Root
roots s assumptions = map (λ l. root s.stack (to_own s.definitions l)) assumptions

-- what the one at a position comes to, and true past the end
abbrev pub root_at : List Root → ℕ → Root
root_at rs p = slice_index_or rs p (Known true)

-- a position comes to the literal, and no earlier one does
pub record IsFirst (rs : List Root) (p : ℕ) (l : OwnLit) : Type 0 where
  pub there : root_at rs p ≡ Last l
  pub first : (q : ℕ) → q < p → root_at rs q ≡ Last l → ⊥

-- of the first so many none comes to false, and no two come to a literal and its negation
pub record Agree (rs : List Root) (n : ℕ) : Type 0 where
  pub none_false : (p : ℕ) → p < n → root_at rs p ≡ Known false → ⊥
  pub none_opposite : (p q : ℕ) (l : OwnLit) → p < n → q < n → root_at rs p ≡ Last l → root_at rs q ≡ Last (turned true l) → ⊥
