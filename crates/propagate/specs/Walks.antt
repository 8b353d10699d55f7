-- What a walk over the chain of a false literal comes to.
use Rattle.std.specs.Prelude.{◌≡◌, ◌⊎◌, ◌<◌, ◌*◌, ℕ, Bool, true, false, List, length}
use Rattle.std.specs.List.{list_any}
use Rattle.sat_lits.specs.declared.literal.InLit.{InLit}
use Rattle.trail.specs.declared.trail.Step.{Step}
use Rattle.trail.specs.Trail.{true_in, false_in, lits_of}
use Rattle.sat_lits.specs.InLits.{opposite}
use Rattle.clause_store.specs.Store.{Held, is_live}
use Rattle.propagate.specs.declared.watches.Taken.{Taken}
use Rattle.propagate.specs.declared.table.Walk.{Walk}
use Rattle.propagate.specs.declared.table.Walk.TheVariants.{Done, Missed, Conflict}
use Rattle.propagate.specs.Units.{false_clause}
use Rattle.propagate.specs.Reasons.{names}
use Rattle.propagate.specs.Watched.{watch_at, clause_of, id_of, is_whole}

-- the clause of an entry has a true literal, or it was missed since it is not there any more
abbrev pub IsSettled : List Held → List Taken → List Step → Bool → ℕ → Type 0
IsSettled held taken steps missed e = (list_any (true_in steps) (clause_of taken e) ≡ true) ⊎ ((missed ≡ true) × (is_live held (id_of taken e).0 ≡ false))

-- each entry keeps its literal, or gets one that was not false
abbrev pub Keeps : List Step → List InLit → List InLit → Type 0
Keeps steps old new = (e : ℕ) → (watch_at new e ≡ watch_at old e) ⊎ (false_in steps (watch_at new e) ≡ false)

-- the clauses that watch a literal still are settled
abbrev pub AllSettled : List Held → List Taken → List Step → List Bool → List InLit → InLit → Bool → Type 0
AllSettled held taken steps whole watched lit missed = (e : ℕ) → e < 2 * length taken → is_whole whole e ≡ false → watch_at watched e ≡ lit → IsSettled held taken steps missed e

-- what each answer of a walk over the chain of one literal says
abbrev pub WalksRight : List Held → List Taken → List Step → List Bool → List InLit → InLit → Walk → Type 0
WalksRight held taken steps whole watched lit Done = AllSettled held taken steps whole watched lit false
WalksRight held taken steps whole watched lit Missed = AllSettled held taken steps whole watched lit true
WalksRight held taken steps whole watched lit (Conflict id) = names held id (false_clause steps) ≡ true

-- the clauses that watch a literal which some front of a trail makes false are settled
abbrev pub AllGood : List Held → List Taken → List InLit → List Step → List Bool → List InLit → Bool → Type 0
AllGood held taken front steps whole watched missed = (e : ℕ) → e < 2 * length taken → is_whole whole e ≡ false → list_any (λ f. opposite f (watch_at watched e)) front ≡ true → IsSettled held taken steps missed e

-- what each answer of the walks over the chains of all literals of a trail says
abbrev pub PassRight : List Held → List Taken → List Step → List Bool → List InLit → Walk → Type 0
PassRight held taken steps whole watched Done = AllGood held taken (lits_of steps) steps whole watched false
PassRight held taken steps whole watched Missed = AllGood held taken (lits_of steps) steps whole watched true
PassRight held taken steps whole watched (Conflict id) = names held id (false_clause steps) ≡ true
