use Rattle.std.proofs.Common.{get_or, subst, IfSome, List}
use Rattle.std.specs.declared.option.Option.{Option}
use Rattle.sat_lits.specs.declared.shared.Shared.{Shared}
use Rattle.share_store.specs.Log.{StartsWith}
use Rattle.share_turn.specs.Views.{IsLegalFor}
use Rattle.race.proofs.Homing.{home_grows}
use Rattle.race.proofs.contest.compete.Goals as goal

pub returns-in-Ok-clause-homes : goal.returns-in-Ok-clause-homes
returns-in-Ok-clause-homes g c k d within =
    let task = c.args.task.now in
    let last = c.run_field-pass.result.pass.view in
    let told = subst (λ (s : Option (List Shared)). IfSome s (λ log. IsLegalFor last.question log × StartsWith log last.seen)) c.unwrap.ensures c.close-closed.ensures.store in
    home_grows task.limit task.formula.now.problem last.seen c.unwrap.result k (get_or c.run_field-pass.new.solvers k d) told.1 (c.run_field-pass.ensures.homes k d within)
