use Rattle.std.proofs.Common.{◌<◌, ◌+◌, ◌^◌, ℕ, Option, Some, None, subst, arith}
use Rattle.analyze.specs.Marking.{MarksNew}
use Rattle.analyze.proofs.Marked.{marked_before, marked_present, marked_lower, pending_room}
use Rattle.analyze.proofs.walk.Walk.mark.Goals as goal

pub overflow_add-self : goal.overflow_add-self
overflow_add-self c =
    let m : MarksNew c.args.trail.now.steps c.args.lit.var c.args.self.now.marks c.mark.new.self (Some c.in-Some.level) =
    subst (λ (o : Option ℕ). MarksNew c.args.trail.now.steps c.args.lit.var c.args.self.now.marks c.mark.new.self o) c.in-Some.is c.in_ok-level.ensures in
    let r : c.args.self.now.pending + 1 < 2 ^ 32 = pending_room c.args.trail.now c.args.lit c.args.self.now c.in-Some.level c.requires.stands c.requires.known m.1 m.2 c.if-level-self.true in
    omega arith

pub returns-then-level-self : goal.returns-then-level-self
returns-then-level-self c =
    let m : MarksNew c.args.trail.now.steps c.args.lit.var c.args.self.now.marks c.mark.new.self (Some c.in-Some.level) =
    subst (λ (o : Option ℕ). MarksNew c.args.trail.now.steps c.args.lit.var c.args.self.now.marks c.mark.new.self o) c.in-Some.is c.in_ok-level.ensures in
    marked_present c.args.trail.now c.args.lit c.args.self.now c.mark.new.self c.in-Some.level c.requires.stands c.requires.known m.0 m.1 m.2 c.if-level-self.true

pub returns-in_ok-push : goal.returns-in_ok-push
returns-in_ok-push c =
    let m : MarksNew c.args.trail.now.steps c.args.lit.var c.args.self.now.marks c.mark.new.self (Some c.in-Some.level) =
    subst (λ (o : Option ℕ). MarksNew c.args.trail.now.steps c.args.lit.var c.args.self.now.marks c.mark.new.self o) c.in-Some.is c.in_ok-level.ensures in
    marked_lower c.args.trail.now c.args.lit c.args.self.now c.mark.new.self c.push.new.self c.in-Some.level c.requires.stands c.requires.known m.0 m.1 m.2 c.if-level-self.false c.in_ok-push.ensures.ok

pub returns-in_default : goal.returns-in_default
returns-in_default c =
    let m : MarksNew c.args.trail.now.steps c.args.lit.var c.args.self.now.marks c.mark.new.self None =
    subst (λ (o : Option ℕ). MarksNew c.args.trail.now.steps c.args.lit.var c.args.self.now.marks c.mark.new.self o) c.in_default.is c.in_ok-level.ensures in
    marked_before c.args.trail.now c.args.lit c.args.self.now c.mark.new.self c.requires.stands m.0 m.1
