use Rattle.std.proofs.Common.{◌∙◌}
use Rattle.one_solver.specs.InStep.{none_follow}
use Rattle.one_solver.specs.Parts.{problem_in}
use Rattle.one_solver.proofs.Taking.{nothing_front}
use Rattle.one_solver.proofs.tests.start_under.Goals as goal

pub absorb-requires : goal.absorb-requires
absorb-requires g c = record { front = nothing_front (problem_in c.new-solver.result) c.args.formula.now.problem c.new-solver.ensures.problem }

pub returns-clause-follow : goal.returns-clause-follow
returns-clause-follow g c = none_follow c.begin_call.new.self (c.begin_call.ensures.exchange.entries ∙ (c.absorb.ensures.exchange.entries ∙ c.new-solver.ensures.entries))
