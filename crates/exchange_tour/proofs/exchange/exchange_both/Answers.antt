use Rattle.exchange_tour.proofs.Pairing.{first_exchanged, second_exchanged, second_legal}
use Rattle.exchange_tour.proofs.exchange.exchange_both.Goals as goal

pub exchange-requires-clause-legal : goal.exchange-requires-clause-legal
exchange-requires-clause-legal g c = c.requires.legal

pub exchange-requires-clause-in_step : goal.exchange-requires-clause-in_step
exchange-requires-clause-in_step g c = c.requires.first_step

pub returns-in_err-exchange : goal.returns-in_err-exchange
returns-in_err-exchange g c =
    first_exchanged c.args.first.now c.exchange.new.solver c.args.second.now c.args.store.now c.exchange.new.store c.requires c.exchange.ensures

pub exchange-requires-2-clause-legal : goal.exchange-requires-2-clause-legal
exchange-requires-2-clause-legal g c =
    second_legal c.exchange.new.solver c.args.second.now c.exchange.new.store
    (first_exchanged c.args.first.now c.exchange.new.solver c.args.second.now c.args.store.now c.exchange.new.store c.requires c.exchange.ensures)

pub exchange-requires-2-clause-in_step : goal.exchange-requires-2-clause-in_step
exchange-requires-2-clause-in_step g c =
    (first_exchanged c.args.first.now c.exchange.new.solver c.args.second.now c.args.store.now c.exchange.new.store c.requires c.exchange.ensures).second_step

pub returns-in_err-exchange-2 : goal.returns-in_err-exchange-2
returns-in_err-exchange-2 g c =
    second_exchanged c.exchange.new.solver c.args.second.now c.exchange-2.new.solver c.exchange.new.store c.exchange-2.new.store
    (first_exchanged c.args.first.now c.exchange.new.solver c.args.second.now c.args.store.now c.exchange.new.store c.requires c.exchange.ensures) c.exchange-2.ensures

pub exchange-requires-3-clause-legal : goal.exchange-requires-3-clause-legal
exchange-requires-3-clause-legal g c =
    (second_exchanged c.exchange.new.solver c.args.second.now c.exchange-2.new.solver c.exchange.new.store c.exchange-2.new.store
    (first_exchanged c.args.first.now c.exchange.new.solver c.args.second.now c.args.store.now c.exchange.new.store c.requires c.exchange.ensures) c.exchange-2.ensures).legal

pub exchange-requires-3-clause-in_step : goal.exchange-requires-3-clause-in_step
exchange-requires-3-clause-in_step g c =
    (second_exchanged c.exchange.new.solver c.args.second.now c.exchange-2.new.solver c.exchange.new.store c.exchange-2.new.store
    (first_exchanged c.args.first.now c.exchange.new.solver c.args.second.now c.args.store.now c.exchange.new.store c.requires c.exchange.ensures) c.exchange-2.ensures).first_step

pub returns : goal.returns
returns g c =
    first_exchanged c.exchange.new.solver c.exchange-3.new.solver c.exchange-2.new.solver c.exchange-2.new.store c.exchange-3.new.store
    (second_exchanged c.exchange.new.solver c.args.second.now c.exchange-2.new.solver c.exchange.new.store c.exchange-2.new.store
    (first_exchanged c.args.first.now c.exchange.new.solver c.args.second.now c.args.store.now c.exchange.new.store c.requires c.exchange.ensures) c.exchange-2.ensures) c.exchange-3.ensures
