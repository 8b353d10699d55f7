-- Facts on logs that begin with others, and on clauses that may be offered.
use Rattle.std.proofs.Common.{ℕ, List, [], ◌++◌, refl, sym, ap, ◌∙◌, append_assoc, append-nil}
use Rattle.sat_lits.specs.declared.shared.Shared.{Shared}
use Rattle.sat_lits.specs.declared.literal.Lit.{Lit}
use Rattle.sat_lits.specs.Logs.{IsShareable}
use Rattle.share_store.specs.Log.{CanBeShared, StartsWith}

-- a log begins with itself
pub starts_refl : (log : List Shared) → StartsWith log log
starts_refl log = record { rest = []; is = sym (append-nil log) }

-- what begins with a log begins with what that one begins with
pub starts_trans : (log front start : List Shared) → StartsWith log front → StartsWith front start → StartsWith log start
starts_trans log front start a b = record { rest = b.rest ++ a.rest; is = a.is ∙ ap (λ l. l ++ a.rest) b.is ∙ append_assoc start b.rest a.rest }

-- each log begins with the empty one
pub starts_none : (log : List Shared) → StartsWith log []
starts_none log = record { rest = log; is = refl }

-- a clause that may be shared for a formula may be offered
pub shareable_can_be_shared : (vars : ℕ) (clause : List Lit) → IsShareable vars clause → CanBeShared clause
shareable_can_be_shared vars clause s = record { some = s.some; few = s.few; rising = s.rising }
