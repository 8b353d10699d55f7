-- What a look at a whole clause comes to.
use Rattle.std.specs.Prelude.{◌≡◌, ◌≢◌, ◌⊎◌, ◌+◌, ◌*◌, ◌/◌, ℕ, Bool, true, false, List, Option, Some, None, slice_set, slice_index, slice_index_or, length, ◌<◌}
use Rattle.std.specs.List.{list_any}
use Rattle.sat_lits.specs.InLits.{same_lit}
use Rattle.sat_lits.specs.declared.literal.InLit.{InLit}
use Rattle.sat_lits.specs.declared.literal.ClauseId.{ClauseId}
use Rattle.trail.specs.declared.trail.Step.{Step}
use Rattle.trail.specs.Trail.{true_in, false_in}
use Rattle.clause_store.specs.Store.{Held, is_live}
use Rattle.propagate.specs.declared.watches.Taken.{Taken}
use Rattle.propagate.specs.declared.table.Table.{Table}
use Rattle.propagate.specs.declared.table.Choice.{Choice}
use Rattle.propagate.specs.declared.table.Choice.TheVariants as choice
use Rattle.propagate.specs.declared.table.Start.{Start}
use Rattle.propagate.specs.declared.table.Start.TheVariants as start
use Rattle.propagate.specs.Units.{false_clause}
use Rattle.propagate.specs.Reasons.{names}
use Rattle.propagate.specs.Watched.{watch_at, clause_of, id_of}

-- two literals of a clause that can be watched: the first is not false, and where the second is false, a literal of the clause is true
pub record ArePair (held : List Held) (id : ClauseId) (old new : List Step) (one two : InLit) : Type 0 where
  pub first : names held id (λ c. list_any (same_lit one) c) ≡ true
  pub second : names held id (λ c. list_any (same_lit two) c) ≡ true
  pub differ : same_lit one two ≡ false
  pub able : false_in old one ≡ false
  pub good : (false_in old two ≡ false) ⊎ (names held id (λ c. list_any (true_in new) c) ≡ true)

-- what each choice of two literals says
abbrev pub ChoosesRight : List Held → ClauseId → List Step → List Step → Choice → Type 0
ChoosesRight held id old new choice.Lost = is_live held id.0 ≡ false
ChoosesRight held id old new choice.NoneOpen = (new ≡ old) × (names held id (false_clause old) ≡ true)
ChoosesRight held id old new choice.Single = names held id (λ c. list_any (true_in new) c) ≡ true
ChoosesRight held id old new (choice.Pair one two) = ArePair held id old new one two

-- a clause is watched from now on: one literal was not false, and where the second was, a literal is true
pub record IsStarted (taken : List Taken) (n : ℕ) (from to : List Step) (old new : Table) (two : InLit) : Type 0 where
  pub whole : new.whole.items ≡ slice_set old.whole.items n false
  pub others : (e : ℕ) → e / 2 ≢ n → watch_at new.watched.items e ≡ watch_at old.watched.items e
  pub first : false_in from (watch_at new.watched.items (2 * n)) ≡ false
  pub second : watch_at new.watched.items (2 * n + 1) ≡ two
  pub good : (false_in from two ≡ false) ⊎ (list_any (true_in to) (clause_of taken (2 * n)) ≡ true)

-- a clause that is looked at whole has a true literal, or is not there any more
abbrev pub IsSeen : List Held → List Taken → List Step → ℕ → Type 0
IsSeen held taken steps n = (list_any (true_in steps) (clause_of taken (2 * n)) ≡ true) ⊎ (is_live held (id_of taken (2 * n)).0 ≡ false)

-- what each answer of a look at one whole clause says
abbrev pub StartsRight : List Held → List Taken → ℕ → List Step → List Step → Table → Table → Start → Type 0
StartsRight held taken n from to old new start.Stays = (new ≡ old) × IsSeen held taken to n
StartsRight held taken n from to old new (start.Watched two) = IsStarted taken n from to old new two
StartsRight held taken n from to old new (start.Conflict id) = (new ≡ old) × (names held id (false_clause to) ≡ true)

-- what came of looks at all clauses that are not watched: where there is no conflict, each of them has a true literal or is not there any more
abbrev pub LooksRight : List Held → List Taken → List Step → List Bool → Option ClauseId → Type 0
LooksRight held taken steps whole None = (n : ℕ) → n < length taken → slice_index_or whole n true ≡ true → IsSeen held taken steps n
LooksRight held taken steps whole (Some id) = names held id (false_clause steps) ≡ true

-- the nth clause stands in a list
pub record IsListed (fresh : List ℕ) (n : ℕ) : Type 0 where
  pub at : ℕ
  pub below : at < length fresh
  pub is : slice_index fresh at ≡ n

-- each clause that is looked at whole does, and the list names clauses alone
abbrev pub AreListed : List Taken → List Bool → List ℕ → Type 0
AreListed taken whole fresh = ((n : ℕ) → n < length taken → slice_index_or whole n true ≡ true → IsListed fresh n) × ((i : ℕ) → i < length fresh → slice_index fresh i < length taken)
