-- A formula that has room refuses an item of its own variables for want of memory alone.
use Rattle.std.proofs.Common.{◌≡◌, ◌≢◌, ◌↔◌, ℕ, ◌<◌, ◌≤◌, Bool, true, false, cond, List, [], ◌∷◌, Some, None, Result, Err, nat_lt, nat_le, refl, arith}
use Rattle.std.specs.List.{list_all}
use Rattle.std.specs.Result.{ForErr}
use Rattle.std.proofs.lemmas.Bool.{and_parts, ltb-true, leb-true}
use Rattle.sat_lits.specs.Formulas.{first_unknown}
use Rattle.sat_lits.specs.declared.formula.FormulaError.{FormulaError}
use Rattle.sat_lits.specs.declared.formula.FormulaError.TheVariants.{NoSuchVar, TooManyVars, TooManyLits, Memory}
use Rattle.sat_lits.specs.Laws.{none_where_known}

-- no other error comes
memory_alone : (error : FormulaError) (answer : Result (Unit {0}) FormulaError) (vars count limit : ℕ) (numbers : List ℕ) → answer ≡ Err error → list_all (λ n. nat_lt n vars) numbers ≡ true → count ≤ limit
    → ((n : ℕ) → (answer ≡ Err (NoSuchVar n)) ↔ (first_unknown vars numbers ≡ Some n)) → (answer ≡ Err TooManyLits) ↔ ((first_unknown vars numbers ≡ None) × (limit < count)) → answer ≢ Err TooManyVars
    → error ≡ Memory
memory_alone (NoSuchVar n) answer vars count limit numbers e known few no_such too_many no_other =
    let some = (no_such n).0 e in let none = none_where_known vars numbers known in absurd cc
memory_alone TooManyVars answer vars count limit numbers e known few no_such too_many no_other = absurd (no_other e)
memory_alone TooManyLits answer vars count limit numbers e known few no_such too_many no_other = let over = (too_many.0 e).1 in absurd (omega arith)
memory_alone Memory answer vars count limit numbers e known few no_such too_many no_other = refl

pub only_memory : (answer : Result (Unit {0}) FormulaError) (vars count limit : ℕ) (numbers : List ℕ) → list_all (λ n. nat_lt n vars) numbers ≡ true → count ≤ limit
    → ((n : ℕ) → (answer ≡ Err (NoSuchVar n)) ↔ (first_unknown vars numbers ≡ Some n)) → (answer ≡ Err TooManyLits) ↔ ((first_unknown vars numbers ≡ None) × (limit < count)) → answer ≢ Err TooManyVars
    → ForErr answer (λ error. error ≡ Memory)
only_memory answer vars count limit numbers known few no_such too_many no_other = λ error e. memory_alone error answer vars count limit numbers e known few no_such too_many no_other
