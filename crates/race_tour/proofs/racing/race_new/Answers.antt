use Rattle.std.proofs.Common.{List, sym, subst}
use Rattle.one_solver.specs.Parts.{Parts}
use Rattle.race.specs.Homes.{EachPlace, IsEntrant}
use Rattle.race_tour.proofs.racing.race_new.Goals as goal

pub race-answer-requires-clause-entrants : goal.race-answer-requires-clause-entrants
race-answer-requires-clause-entrants g c κs within =
    let f = c.args.formula.now.problem in
    let log = c.new-store.result in
    subst (λ (xs : List Parts). EachPlace (IsEntrant f log) xs) (sym c.deref_mut.ensures.value) (c.in_ok-solvers.ensures.entrants f log)
