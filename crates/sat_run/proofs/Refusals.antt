-- What a solver does not refuse.
use Rattle.std.proofs.Common.{◌≡◌, ◌↔◌, ◌⊎◌, ℕ, ◌<◌, ◌≤◌, true, false, List, length, Some, None, Result, Ok, Err, IfErr, nat_lt, refl, sym, ap, ◌∙◌, inl, inr, arith}
use Rattle.std.specs.List.{list_all}
use Rattle.std.specs.Result.{is_ok}
use Rattle.std.specs.declared.option.Option.{Option}
use Rattle.std.proofs.lemmas.Bool.{true≢false}
use Rattle.sat_lits.specs.Formulas.{first_unknown, no_problem}
use Rattle.sat_lits.specs.Limits.{standard_limits}
use Rattle.sat_lits.specs.Meaning.{Problem}
use Rattle.sat_api.specs.State.{SolverState, new_solver, IsCount, HasBegun}
use Rattle.sat_api.specs.declared.error.ApiError.{ApiError}
use Rattle.sat_api.specs.declared.error.ApiError.TheVariants.{NoSuchVar, TooManyLits, Memory, BadCount, TooLate}
use Rattle.sat_lits.specs.Laws.{none_where_known}

-- a clause for which there is room is refused for want of memory alone
pub only_memory : (error : ApiError) (result : Result (Unit {0}) ApiError) (vars count limit : ℕ) (numbers : List ℕ) → result ≡ Err error → list_all (λ n. nat_lt n vars) numbers ≡ true → count ≤ limit
    → ((n : ℕ) → (result ≡ Err (NoSuchVar n)) ↔ (first_unknown vars numbers ≡ Some n)) → (result ≡ Err TooManyLits) ↔ ((first_unknown vars numbers ≡ None) × (limit < count))
    → (error ≡ Memory) ⊎ (error ≡ TooManyLits) ⊎ ((n : ℕ) × (error ≡ NoSuchVar n)) → error ≡ Memory
only_memory error result vars count limit numbers e known few no_such too_many (inl memory) = memory
only_memory error result vars count limit numbers e known few no_such too_many (inr (inl many)) = let over = (too_many.0 (e ∙ ap Err many)).1 in absurd (omega (arith, over, few))
only_memory error result vars count limit numbers e known few no_such too_many (inr (inr other)) =
    let some = (no_such other.0).0 (e ∙ ap Err other.1) in let none = none_where_known vars numbers known in absurd cc

-- a question whose variables are there is refused for want of memory alone
pub only_memory_asked : {X : Type 0} (error : ApiError) (result : Result X ApiError) (vars : ℕ) (numbers : List ℕ) → result ≡ Err error → list_all (λ n. nat_lt n vars) numbers ≡ true
    → ((n : ℕ) → (result ≡ Err (NoSuchVar n)) ↔ (first_unknown vars numbers ≡ Some n)) → (error ≡ Memory) ⊎ ((n : ℕ) × (error ≡ NoSuchVar n)) → error ≡ Memory
only_memory_asked error result vars numbers e known no_such (inl memory) = memory
only_memory_asked error result vars numbers e known no_such (inr other) =
    let some = (no_such other.0).0 (e ∙ ap Err other.1) in let none = none_where_known vars numbers known in absurd cc

not_begun : (s : SolverState) → s.problem ≡ no_problem → s.begun ≡ false → HasBegun s → ⊥
not_begun s e f (inl some) = omega (arith, some, ap (λ (p : Problem). p.vars) e)
not_begun s e f (inr (inl some)) = omega (arith, some, ap (λ (p : Problem). length p.items) e)
not_begun s e f (inr (inr asked)) = true≢false (sym asked ∙ f)

-- a solver that took nothing takes each number of threads that the standard limits allow
pub takes_threads : (result : Result (Unit {0}) ApiError) (old s : SolverState) (limit : Option ℕ) (threads : ℕ) → old ≡ new_solver standard_limits → s ≡ record old { max_conflicts = limit }
    → 0 < threads → threads ≤ standard_limits.threads → (result ≡ Err BadCount) ↔ ((threads ≡ 0) ⊎ (s.limits.threads < threads)) → (result ≡ Err TooLate) ↔ (IsCount s.limits threads × HasBegun s)
    → IfErr result (λ e. (e ≡ BadCount) ⊎ (e ≡ TooLate)) → is_ok result ≡ true
takes_threads (Ok done) old s limit threads new same some few bad late only = refl
takes_threads (Err error) old s limit threads new same some few bad late (inl e) = absurd (not_bad (bad.0 (ap Err e)))
  where
    most : s.limits.threads ≡ 64
    most = ap (λ (x : SolverState). x.limits.threads) same ∙ ap (λ (x : SolverState). x.limits.threads) new

    not_bad : (threads ≡ 0) ⊎ (s.limits.threads < threads) → ⊥
    not_bad (inl none) = omega (arith, none, some)
    not_bad (inr many) = omega (arith, many, few, most)
takes_threads (Err error) old s limit threads new same some few bad late (inr e) =
    absurd (not_begun s (ap (λ (x : SolverState). x.problem) same ∙ ap (λ (x : SolverState). x.problem) new) (ap (λ (x : SolverState). x.begun) same ∙ ap (λ (x : SolverState). x.begun) new) (late.0 (ap Err e)).1)
