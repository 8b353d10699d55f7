-- What a visit of a clause came to.
use Rattle.std.specs.Prelude.{◌≡◌, true, false, List}
use Rattle.sat_lits.specs.declared.literal.InLit.{InLit}
use Rattle.sat_lits.specs.declared.literal.ClauseId.{ClauseId}
use Rattle.trail.specs.declared.trail.Step.{Step}
use Rattle.trail.specs.Trail.{true_in}
use Rattle.clause_store.specs.Store.{Held, is_live}
use Rattle.propagate.specs.declared.table.Visit.{Visit}
use Rattle.propagate.specs.declared.table.Visit.TheVariants.{Kept, Moved, Lost, AllFalse}
use Rattle.propagate.specs.Units.{false_clause}
use Rattle.propagate.specs.Reasons.{names}
use Rattle.propagate.specs.Watched.{open_but}

-- what each answer says of the trail before and after it
abbrev pub VisitsRight : List Held → ClauseId → InLit → List Step → List Step → Visit → Type 0
VisitsRight held id other old new Kept = true_in new other ≡ true
VisitsRight held id other old new (Moved l at) = (new ≡ old) × (names held id (λ lits. open_but old other lits l) ≡ true)
VisitsRight held id other old new Lost = (new ≡ old) × (is_live held id.0 ≡ false)
VisitsRight held id other old new AllFalse = (new ≡ old) × (names held id (false_clause old) ≡ true)
