use Rattle.std.proofs.Common.{◌≡◌, take}
use Rattle.state_laws.specs.Held.{without_ids, numbers}
use Rattle.removed_vars.proofs.changes.drop_all.Given as goal

abbrev pub invariant-loop-id : goal.invariant-loop-id
invariant-loop-id l = l.store ≡ without_ids (numbers (take l.id-index l.ids)) l.initial.store
