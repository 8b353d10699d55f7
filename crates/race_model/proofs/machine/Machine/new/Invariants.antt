use Rattle.std.proofs.Common.{◌≡◌, replicate}
use Rattle.race_model.specs.States.{nothing}
use Rattle.race_model.proofs.machine.Machine.new.Given as goal

abbrev pub invariant-each : goal.invariant-each
invariant-each l = l.taken.items ≡ replicate l.counter nothing
