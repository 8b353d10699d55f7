-- Refusals.
use Rattle.sat_lits.specs.declared.formula.FormulaError.{FormulaError}
use Rattle.sat_lits.specs.declared.formula.FormulaError.TheVariants as formula
use Rattle.sat_api.specs.declared.error.ApiError.{ApiError}
use Rattle.sat_api.specs.declared.error.ApiError.TheVariants.{NoSuchVar, TooManyVars, TooManyLits, Memory}

-- a solver refuses what its formula refuses
abbrev pub api_error : FormulaError → ApiError
api_error (formula.NoSuchVar var) = NoSuchVar var
api_error formula.TooManyVars = TooManyVars
api_error formula.TooManyLits = TooManyLits
api_error formula.Memory = Memory
