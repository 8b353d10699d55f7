use Rattle.std.proofs.Common.{◌≡◌, ◌∙◌, ◌++◌, [], ◌∷◌, List, length, sym, subst, arith, vec_len}
use Rattle.one_solver.specs.Parts.{Parts}
use Rattle.race.specs.Homes.{EachPlace, IsEntrant}
use Rattle.race.specs.Laws.{entrants_pushed}
use Rattle.sat_api.proofs.solvers.new_solvers.Goals as goal

pub numbers-preserved : goal.numbers-preserved
numbers-preserved c =
    let n = c.new.ensures in
    let place : c.new.result.number ≡ length c.numbers.solvers.items = n.number ∙ (sym c.numbers.invariant.many ∙ c.numbers.solvers.ok.0) in
    record {
      many = c.push_reserved.ensures.len ∙ (omega (arith, c.numbers.invariant.many));
      room = c.push_reserved.ensures.capacity ∙ c.numbers.invariant.room;
      entrants = λ f log.
          subst (λ (xs : List Parts). EachPlace (IsEntrant f log) xs) (sym c.push_reserved.ensures.items)
          (entrants_pushed f log c.numbers.solvers.items c.new.result (c.numbers.invariant.entrants f log) place (record { problem = n.problem; okay = n.okay; conflicts = n.conflicts; in_step = n.in_step }));
    }
