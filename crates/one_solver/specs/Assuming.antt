-- The assumptions of a call, and the literals that they were mapped to.
use Rattle.std.specs.Prelude.{◌≡◌, ℕ, Bool, false, List}
use Rattle.sat_lits.specs.Meaning.{Problem, IsModel}
use Rattle.sat_lits.specs.declared.literal.Lit.{Lit}
use Rattle.sat_lits.specs.declared.literal.InLit.{InLit}
use Rattle.state_laws.specs.Kernel.{state_of}
use Rattle.assume_map.specs.Roots.{roots}
use Rattle.assume_map.specs.Mapping.{IsReady}
use Rattle.assume_map.specs.Theorems.{makes_true_at}
use Rattle.one_solver.specs.Parts.{Parts}

-- the assumptions are mapped to these literals, from these positions
abbrev pub IsMappedTo : Parts → List InLit → List ℕ → Type 0
IsMappedTo s lits positions = IsReady s.kernel.maps (roots (state_of s.kernel) s.assumptions) lits positions

-- no model makes the assumptions at these positions true
abbrev pub AreContradicted : Problem → List Lit → List ℕ → Type 0
AreContradicted f assumptions positions = (values : List Bool) → IsModel f values → makes_true_at values assumptions positions ≡ false
