-- Trails whose literals have clauses as their reasons.
use Rattle.std.specs.Prelude.{◌≡◌, ℕ, ◌==◌, nat_lt, Bool, true, false, ◌&&◌, List, [], ◌∷◌, ◌++◌, Option, Some, None}
use Rattle.std.specs.List.{list_all}
use Rattle.sat_lits.specs.Truth.{signed, clause_value}
use Rattle.sat_lits.specs.declared.literal.InLit.{InLit}
use Rattle.sat_lits.specs.declared.literal.ClauseId.{ClauseId}
use Rattle.trail.specs.declared.trail.Step.{Step}
use Rattle.trail.specs.Trail.{level_of}
use Rattle.clause_store.specs.Store.{Held, clause_at}
use Rattle.propagate.specs.Units.{gives, unit_by}

-- whether there is a clause, and its literals pass a test
abbrev pub passes : (List InLit → Bool) → Option Held → Bool
passes test None = false
passes test (Some clause) = test clause.lits

-- whether an id names a live clause whose literals pass a test
abbrev pub names : List Held → ClauseId → (List InLit → Bool) → Bool
names held id test = passes test (clause_at held id.0)

-- whether a step is the first of its level, or its reason is a live clause that holds it, with all others false before it
abbrev pub has_reason : List Held → List Step → Step → Option ClauseId → Bool
has_reason held older s None = nat_lt (level_of older) s.level
has_reason held older s (Some id) = names held id (gives older s.lit)

-- whether every step is
abbrev pub reasoned : List Held → List Step → Bool
reasoned held [] = true
reasoned held (s ∷ older) = has_reason held older s s.reason && reasoned held older

-- whether the reason is a live clause that is unit by the literal
abbrev pub unit_reason : List Held → List Step → InLit → Option ClauseId → Bool
unit_reason held steps l None = false
unit_reason held steps l (Some id) = names held id (unit_by steps l)

-- whether each newer step stands at the level of the older ones and had a unit clause as its reason
abbrev pub derives : List Held → List Step → List Step → Bool
derives held [] older = true
derives held (s ∷ newer) older = (unit_reason held (newer ++ older) s.lit s.reason && (s.level == level_of older)) && derives held newer older

-- a trail goes on from another by literals that clauses gave, at the same level
pub record Extends (held : List Held) (from to : List Step) : Type 0 where
  pub newer : List Step
  pub parts : to ≡ newer ++ from
  pub derived : derives held newer from ≡ true

-- the value of a literal where variables have these values
abbrev pub lit_value : (ℕ → Bool) → InLit → Bool
lit_value values l = signed l.negative (values l.var.0)

-- whether every literal of a trail is true where variables have these values
abbrev pub steps_value : (ℕ → Bool) → List Step → Bool
steps_value values steps = list_all (λ s. lit_value values s.lit) steps

-- whether every clause is
abbrev pub held_value : (ℕ → Bool) → List Held → Bool
held_value values held = list_all (λ clause. clause_value (lit_value values) clause.lits) held

-- a trail follows from clauses and another trail, for every valuation
abbrev pub Follows : List Held → List Step → List Step → Type 0
Follows held from to = (values : ℕ → Bool) → held_value values held ≡ true → steps_value values from ≡ true → steps_value values to ≡ true
