use Rattle.std.proofs.Common.{◌≡◌, [], ◌∷◌, List, refl, sym, ap, ◌∙◌}
use Rattle.std.proofs.lemmas.Result.{err_from_is_err_and}
use Rattle.sat_lits.specs.declared.literal.Lit.{Lit}
use Rattle.sat_lits.specs.declared.literal.Var.{Var}
use Rattle.dimacs_text.specs.declared.command.Command.TheVariants.{Clause, Parity, Grow}
use Rattle.sat_run.specs.Questions.{questions_from}
use Rattle.sat_api.specs.State.{SolverState}
use Rattle.sat_run.specs.World.{world}
use Rattle.sat_run.specs.declared.failures.Halt.TheVariants.{Memory}
use Rattle.sat_run.proofs.Made.{carries_named, grown, stops_quiet, named_halt}
use Rattle.sat_run.proofs.carry.carry_out.Goals as goal

pub returns-in_err-take_clause-in-Clause-clause-err : goal.returns-in_err-take_clause-in-Clause-clause-err
returns-in_err-take_clause-in-Clause-clause-err g c =
    let p = err_from_is_err_and c.from_residual.result c.from_residual.ensures.1 in
    let made = λ (solver : SolverState). world c.args.shares solver (g.A.Alarm.raises c.args.alarm.now) (g.K.Sink.written c.args.sink.now) (g.K.Sink.faults c.args.sink.now) in
    let qs = questions_from c.args.solver.now.problem (c.args.command ∷ []) in
    rw p.1 (named_halt p.0 Memory qs (made c.args.solver.now) (made c.take_clause.new.solver) p.2 (stops_quiet qs (made c.args.solver.now) (made c.take_clause.new.solver) c.take_clause.ensures.kept refl refl refl))

pub returns-in_err-take_parity-in-Parity-clause-err : goal.returns-in_err-take_parity-in-Parity-clause-err
returns-in_err-take_parity-in-Parity-clause-err g c =
    let p = err_from_is_err_and c.from_residual-in_err-take_parity-in-Parity.result c.from_residual-in_err-take_parity-in-Parity.ensures.1 in
    let made = λ (solver : SolverState). world c.args.shares solver (g.A.Alarm.raises c.args.alarm.now) (g.K.Sink.written c.args.sink.now) (g.K.Sink.faults c.args.sink.now) in
    let qs = questions_from c.args.solver.now.problem (c.args.command ∷ []) in
    rw p.1 (named_halt p.0 Memory qs (made c.args.solver.now) (made c.take_parity.new.solver) p.2 (stops_quiet qs (made c.args.solver.now) (made c.take_parity.new.solver) c.take_parity.ensures.kept refl refl refl))

pub returns-in_ok-take_clause-in-Clause-clause-ok : goal.returns-in_ok-take_clause-in-Clause-clause-ok
returns-in_ok-take_clause-in-Clause-clause-ok g c =
    let made = λ (solver : SolverState). world c.args.shares solver (g.A.Alarm.raises c.args.alarm.now) (g.K.Sink.written c.args.sink.now) (g.K.Sink.faults c.args.sink.now) in
    let is : c.args.command ≡ Clause c.as_slice.result.now = c.in-Clause.is ∙ ap (λ (lits : List Lit). Clause lits) (sym c.as_slice.ensures) in
    carries_named c.args.command (Clause c.as_slice.result.now) (made c.args.solver.now) (made c.take_clause.new.solver) is refl c.in_ok-take_clause-in-Clause.ensures.ok c.take_clause.ensures.kept refl refl refl

pub returns-in_ok-take_parity-in-Parity-clause-ok : goal.returns-in_ok-take_parity-in-Parity-clause-ok
returns-in_ok-take_parity-in-Parity-clause-ok g c =
    let made = λ (solver : SolverState). world c.args.shares solver (g.A.Alarm.raises c.args.alarm.now) (g.K.Sink.written c.args.sink.now) (g.K.Sink.faults c.args.sink.now) in
    let is : c.args.command ≡ Parity c.as_slice-in-Parity.result.now c.in-Parity.rhs = c.in-Parity.is ∙ ap (λ (vars : List Var). Parity vars c.in-Parity.rhs) (sym c.as_slice-in-Parity.ensures) in
    carries_named c.args.command (Parity c.as_slice-in-Parity.result.now c.in-Parity.rhs) (made c.args.solver.now) (made c.take_parity.new.solver) is refl c.in_ok-take_parity-in-Parity.ensures.ok c.take_parity.ensures.kept refl refl refl

pub returns-in-Grow-clause-ok : goal.returns-in-Grow-clause-ok
returns-in-Grow-clause-ok g c =
    let made = λ (solver : SolverState). world c.args.shares solver (g.A.Alarm.raises c.args.alarm.now) (g.K.Sink.written c.args.sink.now) (g.K.Sink.faults c.args.sink.now) in
    carries_named c.args.command (Grow c.in-Grow.to) (made c.args.solver.now) (made c.make_room.new.solver) c.in-Grow.is refl
    (grown c.args.solver.now.problem c.make_room.new.solver.problem (Grow c.in-Grow.to) c.in-Grow.to refl refl c.make_room.ensures.vars) c.make_room.ensures.kept refl refl refl
