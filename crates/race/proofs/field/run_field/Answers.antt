use Rattle.std.proofs.Common.{get_or, sym, subst}
use Rattle.share_turn.specs.declared.view.Question.{Question}
use Rattle.race.specs.Seating.{IsSeatOf}
use Rattle.race.proofs.field.run_field.Goals as goal

pub run_seated-requires-clause-seats : goal.run_seated-requires-clause-seats
run_seated-requires-clause-seats g c κs within k d below =
    let limit = c.args.task.now.limit in
    let r = get_or c.in-Ok.others.items k d in
    subst (λ (q : Question). IsSeatOf limit q c.args.exchange.now k r.solver r.watch.pass) (sym c.in-Ok.ensures.first.question) (c.in-Ok.ensures.seats limit k d below)
