-- Clauses that are dropped one after another, each since another hard clause stands within it.
use Rattle.std.specs.Prelude.{◌≡◌, ℕ, Bool, true, false, not, ◌||◌, ◌&&◌, List, [], ◌∷◌, Some, None, length}
use Rattle.std.specs.declared.option.Option.{Option}
use Rattle.std.specs.List.{list_all, list_any}
use Rattle.clause_store.specs.Store.{Held, clause_at, without}
use Rattle.var_elim.specs.Subsumption.{is_within, subsumes, subsumes_at}

-- the id is that of a hard clause
pub record IsHard (held : List Held) (id : ℕ) : Type 0 where
  pub clause : Held
  pub found : clause_at held id ≡ Some clause
  pub hard : clause.learned ≡ false

-- the id is that of a hard clause that has all literals of another hard clause
pub record IsNeedless (held : List Held) (id : ℕ) : Type 0 where
  pub by : ℕ
  pub other : IsHard held by
  pub subsumed : subsumes_at other.clause (clause_at held id) ≡ true

-- the clauses without those of ids
abbrev pub without_each : List Held → List ℕ → List Held
without_each held [] = held
without_each held (i ∷ ids) = without_each (without i held) ids

-- each id is that of a needless clause when those before it are dropped
abbrev pub AreNeedless : List Held → List ℕ → Type 0
AreNeedless held [] = Unit {0}
AreNeedless held (i ∷ ids) = IsNeedless held i × AreNeedless (without i held) ids

-- this many clauses were dropped, each of them needless
pub record Drops (n : ℕ) (olds news : List Held) : Type 0 where
  pub ids : List ℕ
  pub count : length ids ≡ n
  pub left : news ≡ without_each olds ids
  pub needless : AreNeedless olds ids

-- all literals of a hard clause stand in no other hard clause
abbrev pub subsumes_none : List Held → Held → Bool
subsumes_none held h = h.learned || list_all (λ k. not (subsumes h k)) held

-- the same of a clause that may not be there
abbrev pub subsumes_none_at : List Held → Option Held → Bool
subsumes_none_at held None = true
subsumes_none_at held (Some h) = subsumes_none held h

-- no hard clause has all literals of another one
abbrev pub HasNoSubsumed : List Held → Type 0
HasNoSubsumed held = list_all (subsumes_none held) held ≡ true

-- whether all literals of a hard clause among these stand in a clause
abbrev pub is_covered : List Held → Held → Bool
is_covered held h = list_any (λ k. not k.learned && is_within k.lits h.lits) held

-- each hard clause has all literals of a hard clause that is left
abbrev pub AreCovered : List Held → List Held → Type 0
AreCovered olds news = list_all (λ h. h.learned || is_covered news h) olds ≡ true
