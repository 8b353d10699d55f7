use Rattle.std.proofs.Common.{◌≡◌, ℕ, ◌&&◌, not, take}
use Rattle.std.specs.List.{list_any}
use Rattle.indexed_store.specs.Lists.{is_in}
use Rattle.indexed_store.specs.Flags.{is_flagged}
use Rattle.indexed_store.proofs.flags.clear_flags.Given as goal

abbrev pub invariant-each : goal.invariant-each
invariant-each l = record { cleared : (v : ℕ) → is_flagged l.flags.items v ≡ (not (list_any (is_in v) (take l.lit-index l.lits)) && is_flagged l.initial.flags.items v) }
