-- What the error of a formula's call becomes.
use Rattle.std.proofs.Common.{◌≡◌, ℕ}
use Rattle.sat_lits.specs.declared.formula.FormulaError.{FormulaError}
use Rattle.sat_lits.specs.declared.formula.FormulaError.TheVariants as formula
use Rattle.sat_api.specs.declared.error.ApiError.TheVariants.{NoSuchVar}
use Rattle.sat_api.specs.Errors.{api_error}

-- a variable that is missed was missed by the formula
pub api_error-NoSuchVar : (refused : FormulaError) (n : ℕ) → api_error refused ≡ NoSuchVar n → refused ≡ formula.NoSuchVar n
api_error-NoSuchVar (formula.NoSuchVar var) n e = cc
api_error-NoSuchVar formula.TooManyVars n e = absurd cc
api_error-NoSuchVar formula.TooManyLits n e = absurd cc
api_error-NoSuchVar formula.Memory n e = absurd cc
