use Rattle.std.proofs.Common.{◌<◌, length, get_or, arith}
use Rattle.std.proofs.lemmas.Bool.{and_parts}
use Rattle.std.proofs.lemmas.List.{get_or_default}
use Rattle.race.proofs.Homing.{round_on}
use Rattle.race.proofs.rounds.round.Goals as goal

pub solvers-preserved : goal.solvers-preserved
solvers-preserved g c =
    let e = c.attend-stays.ensures in
    let xs = c.solvers.solvers in
    let i = c.solvers.place in
    let d = c.index-solvers-place.result in
    let inside : i < length xs = omega arith in
    round_on c.args.task.now.limit c.args.task.now.formula.now.problem c.args.store.now c.args.solvers.now i c.solvers.stay _ c.solvers.store
    c.attend-stays.new.store xs (get_or xs i d) c.attend-stays.new.solver
    (get_or_default xs i d (get_or xs i d) inside) inside c.solvers.invariant e.settled e.legal e.grows
    (λ on. let p = and_parts c.solvers.stay c.attend-stays.result on in (p.0, e.conflicts p.1))
