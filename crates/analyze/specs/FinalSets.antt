-- The decisions that make a literal false.
use Rattle.std.specs.Prelude.{◌≡◌, ℕ, ◌==◌, nat_le, Bool, true, false, not, ◌&&◌, ◌||◌, List}
use Rattle.std.specs.List.{list_any, list_all}
use Rattle.std.specs.List.Sorted.{IsStrictlyIncreasing}
use Rattle.sat_lits.specs.declared.literal.InLit.{InLit}
use Rattle.trail.specs.declared.trail.Step.{Step}
use Rattle.trail.specs.Trail.{level_of, decided}
use Rattle.clause_store.specs.Store.{Held}
use Rattle.propagate.specs.Reasons.{lit_value, held_value}

-- whether each decision at a level that passes a test is true where variables have these values
abbrev pub decisions_value : (ℕ → Bool) → (ℕ → Bool) → List Step → Bool
decisions_value values named steps = list_all (λ s. not (decided s.reason && named s.level) || lit_value values s.lit) steps

-- where all clauses and the decisions at these levels are true, the literal is false
abbrev pub Contradicts : List Held → List Step → (ℕ → Bool) → InLit → Type 0
Contradicts held steps named l = (values : ℕ → Bool) → held_value values held ≡ true → decisions_value values named steps ≡ true → lit_value values l ≡ false

-- whether a level is one from 1 to the present one, and a decision stands at it
abbrev pub has_decision : List Step → ℕ → Bool
has_decision steps level = (nat_le 1 level && nat_le level (level_of steps)) && list_any (λ s. decided s.reason && s.level == level) steps

-- levels, rising, of decisions that make a literal false by the clauses
pub record IsFinalSet (held : List Held) (steps : List Step) (l : InLit) (levels : List ℕ) : Type 0 where
  pub rising : IsStrictlyIncreasing levels
  pub decisions : list_all (has_decision steps) levels ≡ true
  pub derived : Contradicts held steps (λ level. list_any (λ named. named == level) levels) l
