-- Lists of entries that are chained through a table: a word is 0 at the end of a chain, and else the next entry plus one.
use Rattle.std.specs.Prelude.{◌≡◌, ◌≢◌, ◌<◌, ◌+◌, ◌==◌, ℕ, if◌then◌else◌, List, [], ◌∷◌, length, slice_index}

-- a chain that begins with a word has these entries
abbrev pub Linked : List ℕ → ℕ → List ℕ → Type 0
Linked next p [] = p ≡ 0
Linked next p (e ∷ es) = (p ≡ e + 1) × (e < length next) × Linked next (slice_index next e) es

-- no entry of a list is this one
abbrev pub Lacks : ℕ → List ℕ → Type 0
Lacks e [] = Unit {0}
Lacks e (d ∷ ds) = (d ≢ e) × Lacks e ds

-- no entry stands twice
abbrev pub Once : List ℕ → Type 0
Once [] = Unit {0}
Once (e ∷ es) = Lacks e es × Once es

-- all entries have a key
abbrev pub Keyed : (ℕ → ℕ) → ℕ → List ℕ → Type 0
Keyed key k [] = Unit {0}
Keyed key k (e ∷ es) = (key e ≡ k) × Keyed key k es

-- for each key the chain that its head begins
pub record AreChains (heads next : List ℕ) (key : ℕ → ℕ) (lists : ℕ → List ℕ) : Type 0 where
  pub linked : (k : ℕ) → Linked next (slice_index heads k) (lists k)
  pub once : (k : ℕ) → Once (lists k)
  pub keyed : (k : ℕ) → Keyed key k (lists k)

-- the same lists but at one key
abbrev pub with_list : ℕ → List ℕ → (ℕ → List ℕ) → ℕ → List ℕ
with_list k xs lists j = if j == k then xs else lists j
