use Rattle.std.proofs.Common.{◌∙◌}
use Rattle.state_laws.specs.Kernel.{state_of}
use Rattle.sync_laws.specs.Met.{KeepsMet}
use Rattle.sync_laws.specs.KeepLaws.{keeps_trans}
use Rattle.one_solver.proofs.Settling.{stay_both}
use Rattle.one_solver.proofs.settle.repeat_rounds.Goals as goal
use Rattle.one_solver.proofs.settle.repeat_rounds.Goals.{After-make_round}

-- what was met before a round stays so
round_met : (c : After-make_round) → KeepsMet (state_of c.args.state.now) (state_of c.make_round.new.state)
round_met c = keeps_trans (state_of c.args.state.now) (state_of c.rounds.state) (state_of c.make_round.new.state) c.rounds.invariant.met c.make_round.ensures.met

pub returns-in_err-make_round-clause-met : goal.returns-in_err-make_round-clause-met
returns-in_err-make_round-clause-met c = round_met ((goal.at.returns-in_err-make_round-clause-met c).After-make_round)

pub returns-then-not-branch-clause-met : goal.returns-then-not-branch-clause-met
returns-then-not-branch-clause-met c = round_met ((goal.at.returns-then-not-branch-clause-met c).After-make_round)

pub rounds-preserved : goal.rounds-preserved
rounds-preserved c = record {
  basic = c.make_round.ensures.basic;
  same = record {
    items = c.make_round.ensures.same.items ∙ c.rounds.invariant.same.items;
    entries = c.make_round.ensures.same.entries ∙ c.rounds.invariant.same.entries;
    definitions = c.make_round.ensures.same.definitions ∙ c.rounds.invariant.same.definitions;
    okay = λ o. c.rounds.invariant.same.okay (c.make_round.ensures.same.okay o);
  };
  met = round_met ((goal.at.rounds-preserved c).After-make_round);
  free = c.in_ok-make_round.ensures.free;
  stays = stay_both c.args.state.now c.rounds.state c.make_round.new.state c.rounds.invariant.stays c.make_round.ensures.stays;
  left = c.in_ok-make_round.ensures.left;
}
