-- What the fields of removed variables mean, and what they keep.
use Rattle.std.specs.Prelude.{◌≡◌, ℕ, length, slice_index_or}
use Rattle.state_laws.specs.RootTableLaws.{entry_of}
use Rattle.removed_vars.specs.Removed.{Removed}
use Rattle.removed_vars.specs.Statuses.{status_of}
use Rattle.removed_vars.specs.declared.removed.Status.TheVariants.{Kept}
use Rattle.removed_vars.specs.declared.removed.RemovedVars.TheInside.{Inside}

abbrev pub removed_of : Inside → Removed
removed_of p = record { entries = p.stack; vars = length p.statuses.items }

-- the table says of each variable what its entry says
pub record TellsEntries (p : Inside) : Type 0 where
  pub each : (k : ℕ) → slice_index_or p.statuses.items k Kept ≡ status_of (entry_of k p.stack)
