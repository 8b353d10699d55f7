-- What contracts see of one solver.
use Rattle.std.specs.Prelude.{◌≡◌, ◌<◌, ◌^◌, ℕ, true, List, length}
use Rattle.std.specs.List.{list_all}
use Rattle.sat_lits.specs.Formulas.{names_known}
use Rattle.sat_lits.specs.Meaning.{Problem}
use Rattle.sat_lits.specs.declared.literal.Lit.{Lit}
use Rattle.sat_lits.specs.declared.formula.Item.TheVariants.{Clause}
use Rattle.state_laws.specs.State.{problem_of}
use Rattle.state_laws.specs.Kernel.{Kernel, state_of}
use Rattle.data_sync.specs.Books.{Book}
use Rattle.one_solver.specs.Roots.{is_free}

-- its number, its private state, its book of a log of shared clauses, how many entries of other solvers its last exchange took, the conflicts of the call, the number of the next interval, and the assumptions of the call
pub record Parts : Type 0 where
  pub number : ℕ
  pub kernel : Kernel
  pub book : Book
  pub took : ℕ
  pub conflicts : ℕ
  pub interval : ℕ
  pub assumptions : List Lit

-- the formula of the items that it took
abbrev pub problem_in : Parts → Problem
problem_in s = problem_of (state_of s.kernel)

-- the number and the call are as before
pub record SameCall (old new : Parts) : Type 0 where
  pub number : new.number ≡ old.number
  pub conflicts : new.conflicts ≡ old.conflicts
  pub interval : new.interval ≡ old.interval
  pub assumptions : new.assumptions ≡ old.assumptions

-- nothing was exchanged: the shared entries taken, the book, and what the last exchange took are as before
pub record NoExchange (old new : Parts) : Type 0 where
  pub entries : new.kernel.entries ≡ old.kernel.entries
  pub book : new.book ≡ old.book
  pub took : new.took ≡ old.took

-- the variables of the assumptions are there, and their positions have 32 bits
pub record AssumesKnown (s : Parts) : Type 0 where
  pub known : names_known (problem_in s).vars (Clause s.assumptions) ≡ true
  pub few : length s.assumptions < 2 ^ 32

-- and no assumption comes to an eliminated variable
pub record CanAssume (s : Parts) : Type 0 where
  pub assumed : AssumesKnown s
  pub free : list_all (is_free s.kernel) s.assumptions ≡ true
