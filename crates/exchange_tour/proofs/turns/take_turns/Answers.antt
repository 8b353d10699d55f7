use Rattle.exchange_tour.proofs.Pairing.{first_exchanged, second_exchanged, second_legal}
use Rattle.exchange_tour.proofs.turns.take_turns.Goals as goal

pub take_turn-requires-clause-legal : goal.take_turn-requires-clause-legal
take_turn-requires-clause-legal c = c.requires.pair.legal

pub take_turn-requires-clause-in_step : goal.take_turn-requires-clause-in_step
take_turn-requires-clause-in_step c = c.requires.pair.first_step

pub take_turn-requires-2-clause-legal : goal.take_turn-requires-2-clause-legal
take_turn-requires-2-clause-legal c =
    second_legal c.take_turn.new.solver c.args.second.now c.take_turn.new.store
    (first_exchanged c.args.first.now c.take_turn.new.solver c.args.second.now c.args.store.now c.take_turn.new.store c.requires.pair c.take_turn.ensures.exchanged)

pub take_turn-requires-2-clause-in_step : goal.take_turn-requires-2-clause-in_step
take_turn-requires-2-clause-in_step c =
    (first_exchanged c.args.first.now c.take_turn.new.solver c.args.second.now c.args.store.now c.take_turn.new.store c.requires.pair c.take_turn.ensures.exchanged).second_step

pub returns-clause-pair : goal.returns-clause-pair
returns-clause-pair c =
    second_exchanged c.take_turn.new.solver c.args.second.now c.take_turn-2.new.solver c.take_turn.new.store c.take_turn-2.new.store
    (first_exchanged c.args.first.now c.take_turn.new.solver c.args.second.now c.args.store.now c.take_turn.new.store c.requires.pair c.take_turn.ensures.exchanged) c.take_turn-2.ensures.exchanged

pub returns-in_err-verdict-clause-pair : goal.returns-in_err-verdict-clause-pair
returns-in_err-verdict-clause-pair c =
    first_exchanged c.args.first.now c.take_turn.new.solver c.args.second.now c.args.store.now c.take_turn.new.store c.requires.pair c.take_turn.ensures.exchanged

pub returns-in-Some-clause-pair : goal.returns-in-Some-clause-pair
returns-in-Some-clause-pair c =
    first_exchanged c.args.first.now c.take_turn.new.solver c.args.second.now c.args.store.now c.take_turn.new.store c.requires.pair c.take_turn.ensures.exchanged
