use Rattle.exchange_tour.specs.Pairs.{AreInStep}
use Rattle.exchange_tour.proofs.Pairing.{begins, entered, first_asked, second_legal}
use Rattle.exchange_tour.proofs.exchange.show_exchange.Goals as goal

pub absorb-requires : goal.absorb-requires
absorb-requires g c = record { front = begins c.args.first.now c.args.formula.now.problem c.requires.first_took }

pub absorb-requires-2 : goal.absorb-requires-2
absorb-requires-2 g c = record { front = begins c.args.second.now c.args.formula.now.problem c.requires.second_took }

pub ask-requires-clause-legal : goal.ask-requires-clause-legal
ask-requires-clause-legal g c =
    let both : AreInStep c.absorb.new.self c.absorb-2.new.self c.args.store.now =
    entered c.args.formula.now.problem c.args.first.now c.args.second.now c.absorb.new.self c.absorb-2.new.self c.args.store.now c.requires c.in_ok-absorb.ensures.ok c.in_ok-absorb-2.ensures.ok
    (c.absorb.ensures.in_step c.args.store.now) (c.absorb-2.ensures.in_step c.args.store.now) in
    both.legal

pub ask-requires-clause-in_step : goal.ask-requires-clause-in_step
ask-requires-clause-in_step g c =
    let both : AreInStep c.absorb.new.self c.absorb-2.new.self c.args.store.now =
    entered c.args.formula.now.problem c.args.first.now c.args.second.now c.absorb.new.self c.absorb-2.new.self c.args.store.now c.requires c.in_ok-absorb.ensures.ok c.in_ok-absorb-2.ensures.ok
    (c.absorb.ensures.in_step c.args.store.now) (c.absorb-2.ensures.in_step c.args.store.now) in
    both.first_step

pub exchange_both-requires : goal.exchange_both-requires
exchange_both-requires g c =
    let both : AreInStep c.absorb.new.self c.absorb-2.new.self c.args.store.now =
    entered c.args.formula.now.problem c.args.first.now c.args.second.now c.absorb.new.self c.absorb-2.new.self c.args.store.now c.requires c.in_ok-absorb.ensures.ok c.in_ok-absorb-2.ensures.ok
    (c.absorb.ensures.in_step c.args.store.now) (c.absorb-2.ensures.in_step c.args.store.now) in
    let asked : AreInStep c.ask.new.solver c.absorb-2.new.self c.args.store.now = first_asked c.absorb.new.self c.ask.new.solver c.absorb-2.new.self c.args.store.now both c.ask.ensures.problem c.ask.ensures.in_step in
    asked

pub ask-requires-2-clause-legal : goal.ask-requires-2-clause-legal
ask-requires-2-clause-legal g c = second_legal c.exchange_both.new.first c.exchange_both.new.second c.exchange_both.new.store c.exchange_both.ensures

pub ask-requires-2-clause-in_step : goal.ask-requires-2-clause-in_step
ask-requires-2-clause-in_step g c = c.exchange_both.ensures.second_step
