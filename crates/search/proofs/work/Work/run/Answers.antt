use Rattle.std.proofs.Common.{◌≡◌, ◌<◌, ◌≤◌, ◌+◌, ◌^◌, ℕ, length, List, sym, ap, subst, ◌∙◌, refl, arith}
use Rattle.search_laws.specs.TrailNumber.{trail_number}
use Rattle.trail.specs.Trail.{level_of}
use Rattle.search.specs.declared.work.Work.{Work}
use Rattle.search.specs.InUse.{in_use}
use Rattle.search.specs.Learning.{HasLearned}
use Rattle.search.specs.Answers.{AreFailed}
use Rattle.search.proofs.Running.{first_turn, turn_learned, turn_smaller, turn_few, same_use, short_learned, short_few, count_learned, root_failed, learned_both}
use Rattle.search.proofs.work.Work.run.Goals as goal
use Rattle.search.proofs.work.Work.run.Goals.{In_default}
use Rattle.search.proofs.work.Work.run.Given.{Over}

-- one conflict more was counted
one_more : (g : Over) (c : In_default g) → c.learn_from.new.self.conflicts ≡ c.moves.self.conflicts + 1
one_more g c = c.in_default.ensures.counted ∙ ap (λ (w : Work). w.conflicts + 1) c.propagate.ensures.same

-- and its clause was learned
learned_more : (g : Over) (c : In_default g) → HasLearned c.args.state.now c.learn_from.new.state c.learn_from.new.self.conflicts
learned_more g c =
    subst (HasLearned c.args.state.now c.learn_from.new.state) (sym (one_more g c)) (learned_both c.args.state.now c.moves.state c.learn_from.new.state c.moves.self.conflicts 1 c.moves.invariant.0.learned c.in_default.ensures.learned)

pub moves-init : goal.moves-init
moves-init g c = (first_turn c.args.state.now c.args.self.now c.args.ends.own c.args.ends.left c.args.tally.now (g.S.Alarm.raises c.args.stop.now) c.requires.at c.requires.start c.requires.own c.requires.left c.requires.tally, g.met.S.Alarm.kept_by_none c.args.stop.now)

pub returns-then-level-eq0-clause-right : goal.returns-then-level-eq0-clause-right
returns-then-level-eq0-clause-right g c =
    subst (AreFailed c.moves.state.store.held c.args.self.now.assumptions) (sym c.new.ensures)
    (root_failed c.moves.state c.propagate.new.self c.in-Conflict.id c.args.self.now.assumptions c.propagate.ensures.at (sym c.level.ensures.value ∙ c.if-level-eq0.true) c.in-Conflict.ensures.found)

pub returns-then-level-eq0-clause-few : goal.returns-then-level-eq0-clause-few
returns-then-level-eq0-clause-few g c = turn_few c.args.state.now c.moves.state c.propagate.new.self c.moves.self.conflicts c.propagate.ensures.at c.moves.invariant.0.learned

pub returns-in-Err-clause-learned : goal.returns-in-Err-clause-learned
returns-in-Err-clause-learned g c =
    short_learned c.args.state.now c.moves.state c.learn_from.new.state c.propagate.new.self.conflicts c.learn_from.new.self.conflicts c.moves.tally c.learn_from.new.tally
    (subst (HasLearned c.args.state.now c.moves.state) (sym (ap (λ (w : Work). w.conflicts) c.propagate.ensures.same)) c.moves.invariant.0.learned) c.in-Err.ensures.err

pub returns-in-Err-clause-few : goal.returns-in-Err-clause-few
returns-in-Err-clause-few g c =
    let l : c.level.result ≡ level_of c.propagate.new.self.trail.steps = c.level.ensures.value in
    let h : 0 < level_of c.propagate.new.self.trail.steps = omega (arith, c.if-level-eq0.false) in
    subst (λ (ns : List ℕ). c.learn_from.new.self.conflicts < 3 ^ length ns) (same_use c.args.state.now c.moves.state c.moves.self.conflicts c.moves.invariant.0.learned)
    (short_few c.moves.state c.learn_from.new.state c.propagate.new.self c.learn_from.new.self.conflicts c.moves.tally c.learn_from.new.tally c.propagate.ensures.at h c.in-Err.ensures.err)

pub returns-in-Some-clause-learned : goal.returns-in-Some-clause-learned
returns-in-Some-clause-learned g c =
    count_learned c.args.state.now c.learn_from.new.state c.learn_from.new.self.conflicts c.in-Some.answer c.in-Some.ensures.count (learned_more g (goal.at.returns-in-Some-clause-learned g c).In_default)

pub returns-in-Some-clause-few : goal.returns-in-Some-clause-few
returns-in-Some-clause-few g c =
    turn_few c.args.state.now c.learn_from.new.state c.learn_from.new.self c.learn_from.new.self.conflicts c.in_default.ensures.at (learned_more g (goal.at.returns-in-Some-clause-few g c).In_default)

pub moves-smaller-in_default-reached : goal.moves-smaller-in_default-reached
moves-smaller-in_default-reached g c =
    let a : trail_number (length (in_use c.moves.state.maps)) c.moves.self.trail.steps ≤ trail_number (length (in_use c.moves.state.maps)) c.propagate.new.self.trail.steps = c.propagate.ensures.rises in
    let b : trail_number (length (in_use c.moves.state.maps)) c.propagate.new.self.trail.steps < trail_number (length (in_use c.moves.state.maps)) c.learn_from.new.self.trail.steps = c.in_default.ensures.rises in
    turn_smaller c.moves.state c.learn_from.new.state c.moves.self c.learn_from.new.self c.in_default.ensures.at (same_use c.moves.state c.learn_from.new.state 1 c.in_default.ensures.learned) (omega arith)

pub moves-preserved-in_default-reached : goal.moves-preserved-in_default-reached
moves-preserved-in_default-reached g c = (
  turn_learned c.args.state.now c.moves.state c.learn_from.new.state c.args.self.now c.moves.self c.learn_from.new.self c.args.ends.own c.args.ends.left c.args.tally.now c.moves.tally c.learn_from.new.tally (g.S.Alarm.raises c.args.stop.now) (g.S.Alarm.raises c.moves.stop)
      c.moves.invariant.0 c.in_default.ensures.at c.in_default.ensures.learned (c.in_default.ensures.assumptions ∙ ap (λ (w : Work). w.assumptions) c.propagate.ensures.same) (one_more g (goal.at.moves-preserved-in_default-reached g c).In_default)
      c.in_default.ensures.tallied c.in_default-reached.ensures.own c.in_default-reached.ensures.left,
  c.moves.invariant.1,
)

pub returns-then-poll-clause-few : goal.returns-then-poll-clause-few
returns-then-poll-clause-few g c = turn_few c.args.state.now c.moves.state c.propagate.new.self c.moves.self.conflicts c.propagate.ensures.at c.moves.invariant.0.learned

pub returns-in-Some-advance-clause-few : goal.returns-in-Some-advance-clause-few
returns-in-Some-advance-clause-few g c =
    subst (λ (n : ℕ). n < 3 ^ length (in_use c.args.state.now.maps)) (sym c.advance.ensures.conflicts) (turn_few c.args.state.now c.moves.state c.propagate.new.self c.moves.self.conflicts c.propagate.ensures.at c.moves.invariant.0.learned)

pub moves-smaller : goal.moves-smaller
moves-smaller g c =
    let a : trail_number (length (in_use c.moves.state.maps)) c.moves.self.trail.steps ≤ trail_number (length (in_use c.moves.state.maps)) c.propagate.new.self.trail.steps = c.propagate.ensures.rises in
    let b : trail_number (length (in_use c.moves.state.maps)) c.propagate.new.self.trail.steps < trail_number (length (in_use c.moves.state.maps)) c.advance.new.self.trail.steps = c.in_default-advance.ensures.rises in
    turn_smaller c.moves.state c.moves.state c.moves.self c.advance.new.self c.in_default-advance.ensures.at refl (omega arith)
