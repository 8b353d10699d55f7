use Rattle.race.proofs.Turns.{searching_follows}
use Rattle.race.proofs.runner.Runner.interval.Goals as goal

pub step-requires-clause-entries : goal.step-requires-clause-entries
step-requires-clause-entries g c = searching_follows c.args.limit c.args.self.now.solver c.args.self.now.watch.pass.view c.requires.searching

pub returns-in-Verdict-clause-advances : goal.returns-in-Verdict-clause-advances
returns-in-Verdict-clause-advances g c = c.decide.ensures.ended c.args.limit
