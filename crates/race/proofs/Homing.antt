-- Why the rounds after a race settle the solvers.
use Rattle.std.proofs.Common.{◌≡◌, ◌≢◌, ◌⊎◌, ⊎_elim, inl, inr, Some, None, ℕ, ◌+◌, ◌<◌, ◌≤◌, Bool, true, false, true≢false}
use Rattle.std.proofs.Common.{List, [], ◌∷◌, ◌++◌, All, length, get_or, set, refl, sym, ap, subst, ◌∙◌, arith, append-nil, length-append, length-set, get_or-set_same, get_or-set_other}
use Rattle.std.proofs.lemmas.List.Elements.{All-append}
use Rattle.std.proofs.lemmas.Bool.{cases_eq}
use Rattle.std.proofs.lemmas.List.{get_or_default}
use Rattle.sat_lits.specs.Meaning.{Problem}
use Rattle.sat_lits.specs.Logs.{IsLegalLog}
use Rattle.sat_lits.specs.declared.formula.Item.{Item}
use Rattle.sat_lits.specs.declared.shared.Shared.{Shared}
use Rattle.share_store.specs.Log.{StartsWith}
use Rattle.share_store.specs.Laws.{starts_trans}
use Rattle.std.specs.declared.option.Option.{Option}
use Rattle.sat_lits.specs.Formulas.{no_problem}
use Rattle.one_solver.specs.Parts.{Parts, problem_in}
use Rattle.one_solver.specs.InStep.{IsInStep, EntriesFollow, GoesOn, in_step_grows, in_step_follows}
use Rattle.one_solver.specs.Steps.{HasNoModel}
use Rattle.race.specs.Running.{IsWithin}
use Rattle.race.specs.Seating.{ComesHome}
use Rattle.race.specs.Homes.{EachPlace, IsNew, IsHome, IsSettledHome, InRound}
use Rattle.race.proofs.Turns.{goes_on_starts}

no_items : (items : List Item) → length items ≡ 0 → items ≡ []
no_items [] e = refl
no_items (x ∷ xs) e = absurd (omega (arith, e))

-- a formula without variables and items
pub is_no_problem : (f : Problem) → f.vars ≡ 0 → length f.items ≡ 0 → no_problem ≡ f
is_no_problem f vars items = λ i. record { vars = sym vars i; items = sym (no_items f.items items) i }

no_more : (xs : List Shared) → length xs ≡ 0 → xs ≡ []
no_more [] e = refl
no_more (x ∷ xs) e = absurd (omega (arith, e))

-- a log that starts with another and is no longer is the other
pub starts_same : (log first : List Shared) → StartsWith log first → length log ≡ length first → log ≡ first
starts_same log first s same =
    let n : length log ≡ length first + length s.rest = ap length s.is ∙ length-append first s.rest in
    let none : s.rest ≡ [] = no_more s.rest (omega (arith, n, same)) in
    s.is ∙ (ap (λ r. first ++ r) none ∙ append-nil first)

-- and it is never shorter
pub starts_length : (log first : List Shared) → StartsWith log first → length first ≤ length log
starts_length log first s = let n : length log ≡ length first + length s.rest = ap length s.is ∙ length-append first s.rest in omega (arith, n)

-- a solver stays at home when the log grows
pub home_grows : (limit : Option ℕ) (f : Problem) (log more : List Shared) (k : ℕ) (s : Parts) → StartsWith more log → IsHome limit f log k s → IsHome limit f more k s
home_grows limit f log more k s starts h = record { number = h.number; within = h.within; in_step = in_step_grows s log more starts h.in_step; took = h.took }

-- a settled solver is at home
pub settled_is_home : (limit : Option ℕ) (f : Problem) (log : List Shared) (k : ℕ) (s : Parts) → IsSettledHome limit f log k s → IsHome limit f log k s
settled_is_home limit f log k s h = record { number = h.number; within = h.within; in_step = h.in_step; took = ⊎_elim (λ t. inl t.0) (λ n. inr n) h.took }

-- no conflicts are within each limit
pub none_within : (limit : Option ℕ) (conflicts : ℕ) → conflicts ≡ 0 → IsWithin limit conflicts
none_within None conflicts none = tt
none_within (Some most) conflicts none = omega (arith, none)

-- a new solver is at home
pub new_is_home : (limit : Option ℕ) (f : Problem) (log : List Shared) (k : ℕ) (s : Parts) → s.number ≡ k → IsNew s → IsHome limit f log k s
new_is_home limit f log k s number new = record { number = number; within = none_within limit s.conflicts new.conflicts; in_step = new.in_step log; took = inr new }

-- and it is settled
pub new_is_settled : (limit : Option ℕ) (f : Problem) (log : List Shared) (k : ℕ) (s : Parts) → s.number ≡ k → IsNew s → IsSettledHome limit f log k s
new_is_settled limit f log k s number new =
    record { number = number; within = none_within limit s.conflicts new.conflicts; in_step = new.in_step log; took = inr new }

-- a solver that comes home, or the one that stays in its place, is at home
pub comes_home : (limit : Option ℕ) (f : Problem) (seen log : List Shared) (s old new : Parts) → StartsWith log seen → IsInStep s seen → IsWithin limit s.conflicts → IsHome limit f log s.number old
    → ComesHome f s old new → ((log : List Shared) → IsInStep s log → IsInStep old log → IsInStep new log) → IsHome limit f log s.number new
comes_home limit f seen log s old new starts step within home comes in_step = record {
  number = ⊎_elim (λ same. ap (λ (p : Parts). p.number) same ∙ home.number) (λ t. t.0) comes;
  within = ⊎_elim (λ same. subst (λ (p : Parts). IsWithin limit p.conflicts) (sym same) home.within) (λ t. subst (IsWithin limit) (sym t.2) within) comes;
  in_step = in_step log (in_step_grows s seen log starts step) home.in_step;
  took = ⊎_elim (λ same. subst (λ (p : Parts). (problem_in p ≡ f) ⊎ IsNew p) (sym same) home.took) (λ t. inl t.1) comes;
}

-- what holds of the solvers in their places, after the one at some place changed
module _ (xs : List Parts) (i : ℕ) (s : Parts) (inside : i < length xs) where
  pub length_at : length (set xs i s) ≡ length xs
  length_at = length-set xs i s

  pub at_place : (P : ℕ → Parts → Type 0) → P i s → ((k : ℕ) (d : Parts) → k ≢ i → k < length xs → P k (get_or xs k d)) → EachPlace P (set xs i s)
  at_place P here others k d within =
      let w : k < length xs = omega (arith, length_at) in
      ⊎_elim
      (λ (same : k ≡ i). subst (λ n. P n (get_or (set xs i s) n d)) (sym same) (subst (P i) (sym (get_or-set_same xs i s d inside)) here))
      (λ (ne : k ≡ i → ⊥). subst (P k) (sym (get_or-set_other xs i k s d ne)) (others k d ne w))
      (cases_eq k i)

-- the entries of a log that goes on are of the solvers
pub known_on : (n number : ℕ) (log more : List Shared) → number < n → All (λ e. e.solver < n) log → GoesOn number log more → All (λ e. e.solver < n) more
known_on n number log more below known goes =
    subst (All (λ (e : Shared). e.solver < n)) (sym goes.is) (All-append (λ (e : Shared). e.solver < n) log goes.more known (λ k d within. subst (λ m. m < n) (sym (goes.own k d within)) below))

-- a round goes on by one solver
pub round_on : (limit : Option ℕ) (f : Problem) (first : List Shared) (before : List Parts) (i : ℕ) (stay still : Bool) (log more : List Shared) (xs : List Parts) (t s : Parts)
    → t ≡ get_or xs i t → i < length xs → InRound limit f first before i stay log xs → IsSettledHome limit f more t.number s → IsLegalLog f more → GoesOn t.number log more
    → (still ≡ true → (stay ≡ true) × (s.conflicts ≡ t.conflicts)) → InRound limit f first before (i + 1) still more (set xs i s)
round_on limit f first before i stay still log more xs t s is inside h settled legal goes kept =
    let starts : StartsWith more log = goes_on_starts t.number log more goes in
    let number : t.number ≡ i = ap (λ (p : Parts). p.number) is ∙ (h.homes i t inside).number in
    let here : IsSettledHome limit f more i s = subst (λ n. IsSettledHome limit f more n s) number settled in
    let all : length (set xs i s) ≡ length xs = length_at xs i s inside in
    let a : length first ≤ length log = starts_length log first h.starts in
    let b : length log ≤ length more = starts_length more log starts in
    record {
      homes = at_place xs i s inside (IsHome limit f more) (settled_is_home limit f more i s here) (λ k d ne w. home_grows limit f log more k (get_or xs k d) starts (h.homes k d w));
      done = λ same k d' below w.
          let equal : more ≡ log = starts_same more log starts (omega (arith, a, b, same)) in
          at_place xs i s inside (λ n u. n < i + 1 → IsSettledHome limit f more n u) (λ _. here)
          (λ n d ne w' lt. subst (λ (l : List Shared). IsSettledHome limit f l n (get_or xs n d)) (sym equal) (h.done (omega (arith, a, b, same)) n d (omega (arith, ne, lt)) w')) k d' w below;
      legal = legal;
      known = subst (λ n. All (λ (e : Shared). e.solver < n) more) (sym all) (known_on (length xs) t.number log more (omega (arith, number, inside)) h.known goes);
      starts = starts_trans more log first starts h.starts;
      kept = λ on k d' w.
          let now = kept on in
          at_place xs i s inside (λ n u. u.conflicts ≡ (get_or before n d').conflicts)
          (now.1 ∙ (ap (λ (p : Parts). p.conflicts) (is ∙ get_or_default xs i t d' inside) ∙ h.kept now.0 i d' inside))
          (λ n d ne w'. ap (λ (p : Parts). p.conflicts) (get_or_default xs n d d' w') ∙ h.kept now.0 n d' w') k d' w;
    }

-- a solver at home that is not okay shows that the formula has no model
pub home_refutes : (limit : Option ℕ) (f : Problem) (log : List Shared) (k : ℕ) (s : Parts) → IsLegalLog f log → IsHome limit f log k s → s.kernel.okay ≡ false
    → (EntriesFollow s → HasNoModel (problem_in s)) → HasNoModel f
home_refutes limit f log k s legal h bad right =
    ⊎_elim
    (λ (whole : problem_in s ≡ f). subst HasNoModel whole (right (in_step_follows s log (subst (λ (g : Problem). IsLegalLog g log) (sym whole) legal) h.in_step)))
    (λ (new : IsNew s). absurd (true≢false (sym new.okay ∙ bad)))
    h.took
