use Rattle.exchange_tour.proofs.Pairing.{entered}
use Rattle.exchange_tour.proofs.turns.show_search.Goals as goal

pub search_in_turn-requires-clause-pair : goal.search_in_turn-requires-clause-pair
search_in_turn-requires-clause-pair g c =
    entered c.args.formula.now.problem c.args.first.now c.args.second.now c.enter.new.solver c.enter-2.new.solver c.args.store.now c.requires c.in_ok-enter.ensures.problem c.in_ok-enter-2.ensures.problem
    (c.enter.ensures.in_step c.args.store.now) (c.enter-2.ensures.in_step c.args.store.now)
