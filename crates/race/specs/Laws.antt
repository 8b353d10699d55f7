-- Facts on the solvers of a race that callers may cite.
use Rattle.std.proofs.Common.{◌≡◌, ◌<◌, ⊎_elim, ℕ, List, [], ◌∷◌, ◌++◌, length, get_or, refl, sym, subst, arith, length-append}
use Rattle.std.proofs.lemmas.List.{get_or_append_left}
use Rattle.std.proofs.lemmas.Bool.{cases_eq}
use Rattle.std.proofs.Math.Seq.{get_or-append_seam}
use Rattle.std.specs.declared.option.Option.{Option}
use Rattle.sat_lits.specs.Meaning.{Problem}
use Rattle.sat_lits.specs.Formulas.{Extends, no_problem}
use Rattle.sat_lits.specs.FollowLaws.{Extends_itself}
use Rattle.sat_lits.specs.declared.shared.Shared.{Shared}
use Rattle.one_solver.specs.Parts.{Parts, problem_in}
use Rattle.race.specs.Homes.{EachPlace, IsEntrant, IsNew, IsSettledHome}

-- a fact on each element with its place, after one more was pushed
pub each_pushed : {X : Type 0} (P : ℕ → X → Type 0) (xs : List X) (x : X) → ((k : ℕ) (d : X) → k < length xs → P k (get_or xs k d)) → P (length xs) x
    → (k : ℕ) (d : X) → k < length (xs ++ x ∷ []) → P k (get_or (xs ++ x ∷ []) k d)
each_pushed P xs x each last k d within =
    ⊎_elim
    (λ (e : k ≡ length xs). subst (λ n. P n (get_or (xs ++ x ∷ []) n d)) (sym e) (subst (P (length xs)) (sym (get_or-append_seam xs x [] d)) last))
    (λ (ne : k ≡ length xs → ⊥).
    let inside : k < length xs = omega (arith, length-append xs (x ∷ []), within, ne) in
    subst (P k) (sym (get_or_append_left xs (x ∷ []) d k inside)) (each k d inside))
    (cases_eq k (length xs))

-- every formula goes on from the one without variables and items
extends_none : (f : Problem) → Extends no_problem f
extends_none f = record { vars = omega arith; more = f.items; items = refl }

-- a new solver may enter a race at the place of its number, over any log
pub new_enters : (f : Problem) (log : List Shared) (k : ℕ) (s : Parts) → s.number ≡ k → IsNew s → IsEntrant f log k s
new_enters f log k s number new = record {
  number = number;
  front = subst (λ (p : Problem). Extends p f) (sym new.problem) (extends_none f);
  conflicts = new.conflicts;
  in_step = new.in_step log;
}

-- solvers that may enter, and a new one with the number of the next place
pub entrants_pushed : (f : Problem) (log : List Shared) (solvers : List Parts) (s : Parts) → EachPlace (IsEntrant f log) solvers → s.number ≡ length solvers → IsNew s
    → EachPlace (IsEntrant f log) (solvers ++ s ∷ [])
entrants_pushed f log solvers s each number new = each_pushed (IsEntrant f log) solvers s each (new_enters f log (length solvers) s number new)

-- after a race each solver took a front of the formula
pub home_front : (limit : Option ℕ) (f : Problem) (log : List Shared) (k : ℕ) (s : Parts) → IsSettledHome limit f log k s → Extends (problem_in s) f
home_front limit f log k s home =
    ⊎_elim (λ whole. subst (λ (p : Problem). Extends p f) (sym whole.0) (Extends_itself f)) (λ new. subst (λ (p : Problem). Extends p f) (sym new.problem) (extends_none f)) home.took
