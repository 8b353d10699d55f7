-- When a solver is in step or settled with a log of shared clauses. Callers need no bodies of these, but the laws.
use Rattle.std.specs.Prelude.{◌≡◌, ℕ, List, [], ◌++◌, Some, All, length, slice_get}
use Rattle.std.proofs.Common.{sym, subst, refl}
use Rattle.std.proofs.lemmas.List.Elements.{All-map, All-nil}
use Rattle.std.proofs.lemmas.Option.{slice_get_within, get_or_from_slice_get, slice_get-get_or}
use Rattle.sat_lits.specs.Meaning.{Problem, Follows}
use Rattle.sat_lits.specs.Logs.{IsLegalLog}
use Rattle.sat_lits.specs.LogLaws.{each_follows}
use Rattle.sat_lits.specs.declared.shared.Shared.{Shared}
use Rattle.share_store.specs.Log.{StartsWith, entry_of}
use Rattle.state_laws.specs.State.{State, no_state}
use Rattle.state_laws.specs.Kernel.{state_of}
use Rattle.sync_laws.specs.Met.{KeepsMet}
use Rattle.sync_laws.specs.Steps as steps
use Rattle.data_sync.specs.Books.{Book, no_book}
use Rattle.data_sync.specs.Syncs.{InStepWith}
use Rattle.data_sync.specs.StepLaws.{first-InStepWith, longer-InStepWith, kept-InStepWith}
use Rattle.one_solver.specs.Parts.{Parts, problem_in}

-- the private state and the book are in step with a log
pub IsInStep : Parts → List Shared → Type 0
IsInStep s log = InStepWith (state_of s.kernel) s.book log

-- the private state is settled with a log
pub IsSettled : Parts → List Shared → Type 0
IsSettled s log = steps.IsSettled (state_of s.kernel) log

-- the clause of each shared entry that the solver took follows from the items that it took
pub EntriesFollow : Parts → Type 0
EntriesFollow s = All (λ e. Follows (problem_in s) e.clause) s.kernel.entries

-- a log goes on by entries that the solver of this number gave
pub record GoesOn (number : ℕ) (old new : List Shared) : Type 0 where
  pub more : List Shared
  pub is : new ≡ old ++ more
  pub own : All (λ e. e.solver ≡ number) more

-- a solver in step with a log stays so when the log grows
pub in_step_grows : (s : Parts) (log more : List Shared) → StartsWith more log → IsInStep s log → IsInStep s more
unfolding IsInStep
in_step_grows s log more starts h = subst (InStepWith (state_of s.kernel) s.book) (sym starts.is) (longer-InStepWith (state_of s.kernel) s.book log starts.rest h)

-- and where its state keeps what was met, and nothing was exchanged
pub in_step_kept : (s t : Parts) → KeepsMet (state_of s.kernel) (state_of t.kernel) → t.book ≡ s.book → (log : List Shared) → IsInStep s log → IsInStep t log
unfolding IsInStep
in_step_kept s t k b log h = subst (λ (x : Book). InStepWith (state_of t.kernel) x log) (sym b) (kept-InStepWith (state_of s.kernel) (state_of t.kernel) s.book log k h)

-- a solver that took nothing is in step with each log
pub none_in_step : (s : Parts) → state_of s.kernel ≡ no_state → s.book ≡ no_book → (log : List Shared) → IsInStep s log
unfolding IsInStep
none_in_step s k b log = subst (λ (x : State). InStepWith x s.book log) (sym k) (subst (λ (x : Book). InStepWith no_state x log) (sym b) (first-InStepWith log))

-- what this says of the state and of the book
pub in_step_with : (s : Parts) (log : List Shared) → IsInStep s log → InStepWith (state_of s.kernel) s.book log
unfolding IsInStep
in_step_with s log h = h

pub with_in_step : (s : Parts) (log : List Shared) → InStepWith (state_of s.kernel) s.book log → IsInStep s log
unfolding IsInStep
with_in_step s log h = h

pub settled_in : (s : Parts) (log : List Shared) → steps.IsSettled (state_of s.kernel) log → IsSettled s log
unfolding IsSettled
settled_in s log h = h

-- where the log is legal for the items taken, the entries taken follow from them
pub in_step_follows : (s : Parts) (log : List Shared) → IsLegalLog (problem_in s) log → IsInStep s log → EntriesFollow s
unfolding IsInStep EntriesFollow
in_step_follows s log legal h k d within =
    let (at, e, b, g, q) = h.step.took k d within in
    subst (λ (x : Shared). Follows (problem_in s) x.clause) q (each_follows (problem_in s) log legal at e (subst (λ (x : Shared). slice_get log at ≡ Some x) g (slice_get-get_or log at e b)))

-- where no entry was taken, each follows
pub none_follow : (s : Parts) → s.kernel.entries ≡ [] → EntriesFollow s
unfolding EntriesFollow
none_follow s e = subst (All (λ (x : Shared). Follows (problem_in s) x.clause)) (sym e) (All-nil (λ (x : Shared). Follows (problem_in s) x.clause))

-- each follows where the same was taken
pub follow_same : (s t : Parts) → problem_in t ≡ problem_in s → t.kernel.entries ≡ s.kernel.entries → EntriesFollow s → EntriesFollow t
unfolding EntriesFollow
follow_same s t p e h = subst (All (λ (x : Shared). Follows (problem_in t) x.clause)) (sym e) (subst (λ (f : Problem). All (λ (x : Shared). Follows f x.clause) s.kernel.entries) (sym p) h)

-- the entry at a place follows
pub entry_follows : (s : Parts) → EntriesFollow s → (at : ℕ) (e : Shared) → slice_get s.kernel.entries at ≡ Some e → Follows (problem_in s) e.clause
unfolding EntriesFollow
entry_follows s h at e g = subst (λ (x : Shared). Follows (problem_in s) x.clause) (get_or_from_slice_get s.kernel.entries at e e g) (h at e (slice_get_within s.kernel.entries at e g))

-- a turn goes on a log by entries of its solver
pub turn_goes_on : (f : Problem) (number : ℕ) (had log have now : List Shared) → steps.IsTurn f number had log have now → GoesOn number log now
turn_goes_on f number had log have now t =
    record {
      more = _;
      is = t.gave;
      own = All-map (λ (e : Shared). e.solver ≡ number) (entry_of number (length log)) t.given (λ k d w. refl);
    }
