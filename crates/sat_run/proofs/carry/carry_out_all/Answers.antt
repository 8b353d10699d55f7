use Rattle.std.proofs.Common.{◌≡◌, [], ◌∷◌, List, subst}
use Rattle.std.proofs.lemmas.Result.{err_from_is_err_and}
use Rattle.dimacs_text.specs.declared.command.Command.{Command}
use Rattle.sat_run.specs.Progress.{HasRoomFor}
use Rattle.sat_run.specs.Questions.{questions_from}
use Rattle.sat_run.specs.World.{World, world, Carries}
use Rattle.sat_run.proofs.Done.{HasDone, done_none, done_more, done_stops}
use Rattle.sat_run.proofs.Made.{named_halt}
use Rattle.sat_run.proofs.Room.{room_rest}
use Rattle.sat_run.proofs.carry.carry_out_all.Goals as goal

-- a command more was carried out
record HasMore (all rest : List Command) (start now : World) : Type 0 where
  pub done : HasDone all rest start now
  pub room : HasRoomFor rest now.solver

more : (all commands rest : List Command) (c : Command) (start a b : World) → commands ≡ c ∷ rest → HasDone all commands start a → HasRoomFor commands a.solver → Carries (c ∷ []) a b → HasMore all rest start b
more all commands rest c start a b e done room p =
    record {
      done = done_more all rest c start a b (subst (λ (cs : List Command). HasDone all cs start a) e done) p;
      room = room_rest c rest a.solver b.solver (subst (λ (cs : List Command). HasRoomFor cs a.solver) e room) p.problem p.tells.settings.limits;
    }

pub loop-command-init : goal.loop-command-init
loop-command-init g c = record { done = done_none c.args.commands.now _; room = c.requires.room }

pub returns-in_err-carry_out-clause-err : goal.returns-in_err-carry_out-clause-err
returns-in_err-carry_out-clause-err g c =
    let p = err_from_is_err_and c.from_residual.result c.from_residual.ensures.1 in
    let start = world c.args.shares c.args.solver.now (g.A.Alarm.raises c.args.alarm.now) (g.K.Sink.written c.args.sink.now) (g.K.Sink.faults c.args.sink.now) in
    let a = world c.args.shares c.loop-command.solver (g.A.Alarm.raises c.loop-command.alarm) (g.K.Sink.written c.loop-command.sink) (g.K.Sink.faults c.loop-command.sink) in
    let b = world c.args.shares c.carry_out.new.solver (g.A.Alarm.raises c.carry_out.new.alarm) (g.K.Sink.written c.carry_out.new.sink) (g.K.Sink.faults c.carry_out.new.sink) in
    let all = c.args.commands.now in
    let rest = c.take_first.new.self in
    let halt = c.in_err-carry_out.field-0.0 in
    rw p.1 (named_halt p.0 halt (questions_from c.args.solver.now.problem all) start b p.2
    (done_stops halt all rest c.in-Some.command start a b (subst (λ (cs : List Command). HasDone all cs start a) c.in-Some.ensures.first c.loop-command.invariant.done) c.in_err-carry_out.ensures.err))

pub loop-command-preserved : goal.loop-command-preserved
loop-command-preserved g c =
    let start = world c.args.shares c.args.solver.now (g.A.Alarm.raises c.args.alarm.now) (g.K.Sink.written c.args.sink.now) (g.K.Sink.faults c.args.sink.now) in
    let a = world c.args.shares c.loop-command.solver (g.A.Alarm.raises c.loop-command.alarm) (g.K.Sink.written c.loop-command.sink) (g.K.Sink.faults c.loop-command.sink) in
    let b = world c.args.shares c.carry_out.new.solver (g.A.Alarm.raises c.carry_out.new.alarm) (g.K.Sink.written c.carry_out.new.sink) (g.K.Sink.faults c.carry_out.new.sink) in
    let m = more c.args.commands.now c.loop-command.commands c.take_first.new.self c.in-Some.command start a b c.in-Some.ensures.first c.loop-command.invariant.done c.loop-command.invariant.room c.in_ok-carry_out.ensures.ok in
    record { done = m.done; room = m.room }
