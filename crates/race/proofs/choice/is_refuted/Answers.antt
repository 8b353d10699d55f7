use Rattle.std.proofs.Common.{sym, subst, ◌∙◌}
use Rattle.race.specs.Homes.{IsHome}
use Rattle.race.proofs.Homing.{home_refutes}
use Rattle.race.proofs.choice.is_refuted.Goals as goal

pub returns-then-not-okay-clause-yes : goal.returns-then-not-okay-clause-yes
returns-then-not-okay-clause-yes c =
    let f = c.args.formula.now.problem in
    let r = c.requires in
    let s = c.solver-item.result in
    let i = c.solvers.solver-index in
    λ _. home_refutes r.1 f r.0 i s r.2 (subst (IsHome r.1 f r.0 i) (sym c.solver-item.is) (r.3 i s c.solvers-test.true)) (sym c.okay.ensures.value ∙ c.if-not-okay.true)
    (c.okay.ensures.right c.if-not-okay.true)
