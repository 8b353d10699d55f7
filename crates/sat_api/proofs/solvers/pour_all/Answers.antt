use Rattle.std.proofs.Common.{◌≡◌, ◌<◌, length, get_or, sym, ap, ◌∙◌, arith}
use Rattle.sat_api.proofs.Pouring.{poured_none, poured_next, poured_all}
use Rattle.sat_api.proofs.solvers.pour_all.Goals as goal

pub solvers-init : goal.solvers-init
solvers-init c = poured_none c.args.solvers.now c.args.tally.now (omega (arith, c.count-count.ensures))

pub solvers-preserved : goal.solvers-preserved
solvers-preserved c =
    let within : c.solvers.place < length c.args.solvers.now = omega arith in
    poured_next c.args.solvers.now c.solvers.solvers c.solvers.place c.args.tally.now c.solvers.tally c.pour.new.into c.index-solvers-place.result c.pour.new.self within c.pour.ensures.emptied c.pour.ensures.sum c.solvers.invariant
