-- When a state has what a shared clause says.
use Rattle.std.specs.Prelude.{◌≡◌, Bool, true, not, List, [], ◌∷◌, ◌++◌, Some, None, filter}
use Rattle.std.specs.declared.option.Option.{Option}
use Rattle.std.specs.List.{list_all, list_any}
use Rattle.sat_lits.specs.Formulas.{names_known}
use Rattle.sat_lits.specs.declared.literal.Lit.{Lit}
use Rattle.sat_lits.specs.declared.literal.OwnLit.{OwnLit}
use Rattle.sat_lits.specs.declared.shared.Shared.{Shared}
use Rattle.sat_lits.specs.declared.formula.Item.TheVariants.{Clause}
use Rattle.rebuild_stack.specs.Entries.{is_gone}
use Rattle.rebuild_stack.specs.Roots.{root}
use Rattle.rebuild_stack.specs.PutIn.{same_lit, put_in, put_in_all}
use Rattle.rebuild_stack.specs.declared.entry.Entry.{Entry}
use Rattle.rebuild_stack.specs.declared.entry.Entry.TheVariants.{Fix, Equal, Gone}
use Rattle.state_laws.specs.State.{State, to_own, outer_count}
use Rattle.state_laws.specs.Resolution.{mentions}
use Rattle.sync_laws.specs.Told.{IsTold}

-- the entries that fix or replace a variable
abbrev pub bindings : List Entry → List Entry
bindings s = filter (λ e. not (is_gone e)) s

-- an outer clause in own literals with fixed and replaced ones put in, where eliminated variables stay
abbrev pub kept_form : State → List Lit → Option (List OwnLit)
kept_form s c = put_in (λ l. root (bindings s.stack) (to_own s.definitions l)) c

-- the clauses of the `Gone` entries that hold the entry's variable, into each of which the newer entries that fix or replace are put
abbrev pub gone_clauses : List Entry → List (List OwnLit)
gone_clauses [] = []
gone_clauses (Fix l ∷ newer) = gone_clauses newer
gone_clauses (Equal v l ∷ newer) = gone_clauses newer
gone_clauses (Gone v cs ∷ newer) = put_in_all (root (bindings newer)) (filter (mentions v.0) cs) ++ gone_clauses newer

-- whether each literal of a clause stands in another
abbrev pub is_within : List OwnLit → List OwnLit → Bool
is_within d c = list_all (λ l. list_any (same_lit l) c) d

-- whether each clause has all literals of one of these
abbrev pub are_subsumed : List (List OwnLit) → List (List OwnLit) → Bool
are_subsumed cs ds = list_all (λ c. list_any (λ d. is_within d c) ds) cs

-- whether nothing is left of a clause, or it has all literals of one of these
abbrev pub is_covered : List (List OwnLit) → Option (List OwnLit) → Bool
is_covered cs None = true
is_covered cs (Some d) = list_any (λ c. is_within c d) cs

-- the outer clause, with fixed and replaced literals put in, is satisfied or a tautology, or has all literals of a hard clause, or of a clause of a `Gone` entry into which the newer entries that fix or replace are put
abbrev pub Covers : State → List Lit → Type 0
Covers s c = is_covered (s.hard ++ gone_clauses s.stack) (kept_form s c) ≡ true

-- the variables of an outer clause are there, and the state has what it says
pub record IsMet (s : State) (c : List Lit) : Type 0 where
  pub there : names_known (outer_count s.definitions) (Clause c) ≡ true
  pub covers : Covers s c

-- what a change of a state keeps for the exchange: each clause that was met is met, the shared entries taken are the same, a refuted state stays so, and where what is marked was told to a log, it is told to that still
pub record KeepsMet (s t : State) : Type 0 where
  pub met : (c : List Lit) → IsMet s c → IsMet t c
  pub entries : t.entries ≡ s.entries
  pub okay : t.okay ≡ true → s.okay ≡ true
  pub told : (log : List Shared) → IsTold s log → IsTold t log
