use Rattle.std.proofs.Common.{◌≡◌, ◌∙◌, List, length, sym, subst, arith}
use Rattle.one_solver.specs.Parts.{Parts}
use Rattle.race.specs.Homes.{EachPlace, IsEntrant}
use Rattle.race.specs.Laws.{entrants_pushed}
use Rattle.race_tour.proofs.racing.new_solvers.Goals as goal

pub solvers-preserved : goal.solvers-preserved
solvers-preserved c =
    let n = c.new.ensures in
    let place : c.new.result.number ≡ length c.solvers.solvers.items = n.number ∙ (sym c.solvers.invariant.many ∙ c.solvers.solvers.ok.0) in
    record {
      many = omega (arith, c.solvers.invariant.many, c.in_ok-push.ensures.len);
      entrants = λ f log.
          subst (λ (xs : List Parts). EachPlace (IsEntrant f log) xs) (sym c.in_ok-push.ensures.items)
          (entrants_pushed f log c.solvers.solvers.items c.new.result (c.solvers.invariant.entrants f log) place (record { problem = n.problem; okay = n.okay; conflicts = n.conflicts; in_step = n.in_step }));
    }
