use Rattle.one_solver.specs.Steps.{IsUnderWay}
use Rattle.exchange_tour.specs.Pairs.{AreInStep}
use Rattle.exchange_tour.proofs.turns.search_in_turn.Given as goal

abbrev pub invariant-turns : goal.invariant-turns
invariant-turns l =
    record {
      first : IsUnderWay l.first;
      second : IsUnderWay l.second;
      pair : AreInStep l.first l.second l.store;
    }
