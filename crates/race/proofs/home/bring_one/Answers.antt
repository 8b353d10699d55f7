use Rattle.race.proofs.Homing.{home_grows, comes_home}
use Rattle.race.proofs.home.bring_one.Goals as goal

pub returns-clause-home : goal.returns-clause-home
returns-clause-home g c =
    let t = c.args.task.now in
    let r = c.args.runner in
    let e = c.come_home.ensures in
    let seen = c.join.new.first.view.seen in
    comes_home t.limit t.formula.now.problem r.watch.pass.view.seen seen r.solver c.args.home.now c.come_home.new.home c.join.ensures.both.1 c.requires.seated.in_step c.requires.seated.within
    (home_grows t.limit t.formula.now.problem c.args.first.now.view.seen seen r.solver.number c.args.home.now c.join.ensures.both.0 c.requires.home) e.home e.in_step
