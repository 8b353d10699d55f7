use Rattle.std.proofs.Common.{◌≡◌, ℕ}
use Rattle.indexed_store.specs.Flags.{is_flagged}
use Rattle.indexed_store.proofs.flags.make_flags.Given as goal

abbrev pub invariant-each : goal.invariant-each
invariant-each l = record { same : (v : ℕ) → is_flagged l.flags.items v ≡ is_flagged l.initial.flags.items v }
