use Rattle.std.proofs.Common.{◌<◌, ◌≤◌, subst, sym, arith}
use Rattle.trail.specs.Trail.{Assignment, level_of}
use Rattle.trail.proofs.Ways.{IsOnWay, way_on, way_end}
use Rattle.trail.proofs.trail.Trail.back_to.Goals as goal

pub loop-self-preserved : goal.loop-self-preserved
loop-self-preserved c =
    let l : c.args.level < level_of c.loop-self.self.steps = omega (arith, c.loop-self-test.true, c.level.ensures.value) in
    subst (λ (a : Assignment). IsOnWay c.args.level c.args.self.now a) (sym c.take_back.ensures) (way_on c.args.level c.args.self.now c.loop-self.self c.loop-self.invariant c.level.ensures.kept l)

pub returns-clause-steps : goal.returns-clause-steps
returns-clause-steps c =
    let l : level_of c.loop-self.self.steps ≤ c.args.level = omega (arith, c.loop-self-test.false, c.level.ensures.value) in
    way_end c.args.level c.args.self.now c.loop-self.self c.loop-self.invariant c.level.ensures.kept l

pub returns-clause-level : goal.returns-clause-level
returns-clause-level c =
    let l : level_of c.loop-self.self.steps ≤ c.args.level = omega (arith, c.loop-self-test.false, c.level.ensures.value) in
    omega (arith, c.loop-self.invariant.lower)

pub returns-clause-same : goal.returns-clause-same
returns-clause-same c = c.loop-self.invariant.same
