use Rattle.std.proofs.Common.{◌≡◌, ◌≤◌, ◌/◌, ℕ, List, true, false, length, take, sym, ap, subst, ◌∙◌, arith}
use Rattle.sat_lits.specs.declared.literal.InLit.{InLit}
use Rattle.trail.specs.Trail.{lits_of}
use Rattle.propagate.specs.declared.watches.Taken.{Taken}
use Rattle.propagate.specs.Watching.{Watching, IsFront, HasTakenOver, steps_below}
use Rattle.propagate.specs.Laws.{extends_reasoned, extends_follows}
use Rattle.propagate.specs.Walks.{AllGood}
use Rattle.propagate.specs.Fine.{IsLater}
use Rattle.propagate.specs.Inside.{AreKept}
use Rattle.propagate.proofs.Room.{lits_within}
use Rattle.propagate.proofs.Turning.{extends_more}
use Rattle.propagate.proofs.Passing.{extends_below}
use Rattle.propagate.proofs.Fining.{good_first}
use Rattle.propagate.proofs.Keeping.{looked_kept, passed_kept, keeps_marked, keeps_walked, front_extends, passed_quiet}
use Rattle.propagate.proofs.watches.Watches.propagate.Goals as goal

pub look_fresh-requires-clause-good : goal.look_fresh-requires-clause-good
look_fresh-requires-clause-good c =
    subst (λ (z : List Taken). AllGood c.args.store.now.held z (take c.self.inside.walked (lits_of c.args.trail.now.steps)) c.args.trail.now.steps c.self.inside.table.whole.items c.self.inside.table.watched.items false) (sym c.deref-2.ensures.value)
    (good_first c.args.store.now.held c.self.inside.taken.items c.self.inside.done.items c.self.inside.starts.items c.self.inside.walked c.args.trail.now.steps c.self.inside.table.whole.items c.self.inside.table.watched.items (subst (λ (z : List InLit). IsFront z (lits_of c.args.trail.now.steps)) (sym (ap (λ (z : Watching). z.done) c.self.view_is)) c.requires.done) c.self.invariant.kept.marked.within c.self.invariant.kept.fine)

pub invariant_of-self : goal.invariant_of-self
invariant_of-self c =
    record {
      kept = looked_kept c.self.inside.taken.items c.deref-2.result.now c.self.inside.done.items c.deref.result.now c.self.inside.starts.items c.self.inside.walked c.look_fresh.new.walked c.self.inside.variables c.self.inside.table c.look_fresh.new.self c.self.inside.fresh.items c.look_fresh.new.fresh.items c.deref-2.ensures.value c.deref.ensures.value c.self.invariant.kept c.look_fresh.ensures.watched c.look_fresh.ensures.listed c.look_fresh.ensures.heads c.look_fresh.ensures.less c.look_fresh.ensures.fine;
      room = c.self.invariant.room;
      marks = c.self.invariant.marks;
      few = c.self.invariant.few;
    }

pub returns-in-Some-clause-reasoned : goal.returns-in-Some-clause-reasoned
returns-in-Some-clause-reasoned c =
    extends_reasoned c.args.store.now.held c.args.trail.now.steps c.look_fresh.new.trail.steps c.look_fresh.ensures.extends

pub returns-in-Some-clause-follows : goal.returns-in-Some-clause-follows
returns-in-Some-clause-follows c =
    extends_follows c.args.store.now.held c.args.trail.now.steps c.look_fresh.new.trail.steps c.look_fresh.ensures.extends

pub pass-requires-clause-steps : goal.pass-requires-clause-steps
pass-requires-clause-steps c =
    let v : c.self.inside.variables ≡ c.args.self.now.variables = ap (λ (z : Watching). z.variables) c.self.view_is in
    let n : c.args.self.now.variables ≡ length c.look_fresh.new.self.heads.items / 2 = omega (arith, v, c.look_fresh.ensures.heads, c.self.invariant.kept.heads) in
    subst (λ (z : ℕ). steps_below z c.look_fresh.new.trail.steps ≡ true) n (extends_below c.args.self.now.variables c.args.store.now.held c.args.trail.now.steps c.look_fresh.new.trail.steps c.requires.clauses c.requires.steps c.look_fresh.ensures.extends)

pub invariant_of-self-in-Conflict : goal.invariant_of-self-in-Conflict
invariant_of-self-in-Conflict c =
    record {
      kept = passed_kept c.self.inside.taken.items c.deref-3.result.now c.self.inside.done.items c.self.inside.starts.items c.look_fresh.new.walked c.self.inside.variables c.look_fresh.new.self c.pass.new.self c.look_fresh.new.fresh.items c.look_fresh.new.trail.steps c.deref-3.ensures.value
          (looked_kept c.self.inside.taken.items c.deref-2.result.now c.self.inside.done.items c.deref.result.now c.self.inside.starts.items c.self.inside.walked c.look_fresh.new.walked c.self.inside.variables c.self.inside.table c.look_fresh.new.self c.self.inside.fresh.items c.look_fresh.new.fresh.items c.deref-2.ensures.value c.deref.ensures.value c.self.invariant.kept c.look_fresh.ensures.watched c.look_fresh.ensures.listed c.look_fresh.ensures.heads c.look_fresh.ensures.less c.look_fresh.ensures.fine)
          (front_extends c.args.store.now.held c.self.inside.done.items c.args.trail.now.steps c.look_fresh.new.trail.steps c.look_fresh.ensures.extends (subst (λ (z : List InLit). IsFront z (lits_of c.args.trail.now.steps)) (sym (ap (λ (z : Watching). z.done) c.self.view_is)) c.requires.done)) c.pass.ensures.watched c.pass.ensures.keeps c.pass.ensures.heads c.pass.ensures.whole;
      room = c.self.invariant.room;
      marks = c.self.invariant.marks;
      few = c.self.invariant.few;
    }

pub mark_all-requires-clause-done_room : goal.mark_all-requires-clause-done_room
mark_all-requires-clause-done_room c =
    let v : c.self.inside.variables ≡ c.args.self.now.variables = ap (λ (z : Watching). z.variables) c.self.view_is in
    let w : length (lits_of c.pass.new.trail.steps) ≤ c.args.self.now.variables = lits_within c.pass.new.trail c.args.self.now.variables c.lits.ensures.kept (extends_below c.args.self.now.variables c.args.store.now.held c.args.trail.now.steps c.pass.new.trail.steps c.requires.clauses c.requires.steps (extends_more c.args.store.now.held c.args.trail.now.steps c.look_fresh.new.trail.steps c.pass.new.trail.steps c.look_fresh.ensures.extends c.pass.ensures.extends)) in
    let l : length c.lits.result.now ≡ length (lits_of c.pass.new.trail.steps) = ap length c.lits.ensures.value in
    omega (arith, v, w, l, c.self.invariant.room)

pub mark_all-requires-clause-starts_room : goal.mark_all-requires-clause-starts_room
mark_all-requires-clause-starts_room c =
    let v : c.self.inside.variables ≡ c.args.self.now.variables = ap (λ (z : Watching). z.variables) c.self.view_is in
    let w : length (lits_of c.pass.new.trail.steps) ≤ c.args.self.now.variables = lits_within c.pass.new.trail c.args.self.now.variables c.lits.ensures.kept (extends_below c.args.self.now.variables c.args.store.now.held c.args.trail.now.steps c.pass.new.trail.steps c.requires.clauses c.requires.steps (extends_more c.args.store.now.held c.args.trail.now.steps c.look_fresh.new.trail.steps c.pass.new.trail.steps c.look_fresh.ensures.extends c.pass.ensures.extends)) in
    let l : length c.lits.result.now ≡ length (lits_of c.pass.new.trail.steps) = ap length c.lits.ensures.value in
    omega (arith, v, w, l, c.self.invariant.marks)

pub mark_all-requires-in-Done-clause-done_room : goal.mark_all-requires-in-Done-clause-done_room
mark_all-requires-in-Done-clause-done_room c =
    let v : c.self.inside.variables ≡ c.args.self.now.variables = ap (λ (z : Watching). z.variables) c.self.view_is in
    let w : length (lits_of c.pass.new.trail.steps) ≤ c.args.self.now.variables = lits_within c.pass.new.trail c.args.self.now.variables c.lits-in-Done.ensures.kept (extends_below c.args.self.now.variables c.args.store.now.held c.args.trail.now.steps c.pass.new.trail.steps c.requires.clauses c.requires.steps (extends_more c.args.store.now.held c.args.trail.now.steps c.look_fresh.new.trail.steps c.pass.new.trail.steps c.look_fresh.ensures.extends c.pass.ensures.extends)) in
    let l : length c.lits-in-Done.result.now ≡ length (lits_of c.pass.new.trail.steps) = ap length c.lits-in-Done.ensures.value in
    omega (arith, v, w, l, c.self.invariant.room)

pub mark_all-requires-in-Done-clause-starts_room : goal.mark_all-requires-in-Done-clause-starts_room
mark_all-requires-in-Done-clause-starts_room c =
    let v : c.self.inside.variables ≡ c.args.self.now.variables = ap (λ (z : Watching). z.variables) c.self.view_is in
    let w : length (lits_of c.pass.new.trail.steps) ≤ c.args.self.now.variables = lits_within c.pass.new.trail c.args.self.now.variables c.lits-in-Done.ensures.kept (extends_below c.args.self.now.variables c.args.store.now.held c.args.trail.now.steps c.pass.new.trail.steps c.requires.clauses c.requires.steps (extends_more c.args.store.now.held c.args.trail.now.steps c.look_fresh.new.trail.steps c.pass.new.trail.steps c.look_fresh.ensures.extends c.pass.ensures.extends)) in
    let l : length c.lits-in-Done.result.now ≡ length (lits_of c.pass.new.trail.steps) = ap length c.lits-in-Done.ensures.value in
    omega (arith, v, w, l, c.self.invariant.marks)

pub invariant_of-self-in-Missed : goal.invariant_of-self-in-Missed
invariant_of-self-in-Missed c =
    record {
      kept =
          subst (λ (z : List InLit). AreKept c.self.inside.taken.items z c.mark_all.new.starts.items c.look_fresh.new.walked c.pass.new.self c.look_fresh.new.fresh.items c.self.inside.variables) (sym (c.mark_all.ensures.done ∙ c.lits.ensures.value))
          (keeps_marked c.self.inside.taken.items c.self.inside.done.items (lits_of c.pass.new.trail.steps) c.self.inside.starts.items c.mark_all.new.starts.items c.look_fresh.new.walked c.self.inside.variables c.pass.new.self c.look_fresh.new.fresh.items
          (passed_kept c.self.inside.taken.items c.deref-3.result.now c.self.inside.done.items c.self.inside.starts.items c.look_fresh.new.walked c.self.inside.variables c.look_fresh.new.self c.pass.new.self c.look_fresh.new.fresh.items c.look_fresh.new.trail.steps c.deref-3.ensures.value
          (looked_kept c.self.inside.taken.items c.deref-2.result.now c.self.inside.done.items c.deref.result.now c.self.inside.starts.items c.self.inside.walked c.look_fresh.new.walked c.self.inside.variables c.self.inside.table c.look_fresh.new.self c.self.inside.fresh.items c.look_fresh.new.fresh.items c.deref-2.ensures.value c.deref.ensures.value c.self.invariant.kept c.look_fresh.ensures.watched c.look_fresh.ensures.listed c.look_fresh.ensures.heads c.look_fresh.ensures.less c.look_fresh.ensures.fine)
          (front_extends c.args.store.now.held c.self.inside.done.items c.args.trail.now.steps c.look_fresh.new.trail.steps c.look_fresh.ensures.extends (subst (λ (z : List InLit). IsFront z (lits_of c.args.trail.now.steps)) (sym (ap (λ (z : Watching). z.done) c.self.view_is)) c.requires.done)) c.pass.ensures.watched c.pass.ensures.keeps c.pass.ensures.heads c.pass.ensures.whole)
          (front_extends c.args.store.now.held c.self.inside.done.items c.look_fresh.new.trail.steps c.pass.new.trail.steps c.pass.ensures.extends (front_extends c.args.store.now.held c.self.inside.done.items c.args.trail.now.steps c.look_fresh.new.trail.steps c.look_fresh.ensures.extends (subst (λ (z : List InLit). IsFront z (lits_of c.args.trail.now.steps)) (sym (ap (λ (z : Watching). z.done) c.self.view_is)) c.requires.done)))
          (subst (λ (z : List InLit). IsLater c.self.inside.starts.items c.mark_all.new.starts.items c.look_fresh.new.walked (length z)) c.lits.ensures.value c.mark_all.ensures.starts));
      room = omega (arith, c.self.invariant.room, c.mark_all.ensures.done_kept);
      marks = omega (arith, c.self.invariant.marks, c.mark_all.ensures.starts_kept);
      few = c.self.invariant.few;
    }

pub invariant_of-self-in-Done : goal.invariant_of-self-in-Done
invariant_of-self-in-Done c =
    let n : length (lits_of c.pass.new.trail.steps) ≡ c.len-self-inside.result = omega (arith, c.len-self-inside.ensures, c.mark_all-in-Done.new.done.ok.0, ap length (c.mark_all-in-Done.ensures.done ∙ c.lits-in-Done.ensures.value)) in
    record {
      kept =
          subst (λ (z : List InLit). AreKept c.self.inside.taken.items z c.mark_all-in-Done.new.starts.items c.len-self-inside.result c.pass.new.self c.look_fresh.new.fresh.items c.self.inside.variables) (sym (c.mark_all-in-Done.ensures.done ∙ c.lits-in-Done.ensures.value))
          (subst (λ (z : ℕ). AreKept c.self.inside.taken.items (lits_of c.pass.new.trail.steps) c.mark_all-in-Done.new.starts.items z c.pass.new.self c.look_fresh.new.fresh.items c.self.inside.variables) n
          (keeps_walked c.args.store.now.held c.self.inside.taken.items c.self.inside.done.items c.self.inside.starts.items c.mark_all-in-Done.new.starts.items c.look_fresh.new.walked c.self.inside.variables c.pass.new.self c.look_fresh.new.fresh.items c.pass.new.trail.steps
          (passed_kept c.self.inside.taken.items c.deref-3.result.now c.self.inside.done.items c.self.inside.starts.items c.look_fresh.new.walked c.self.inside.variables c.look_fresh.new.self c.pass.new.self c.look_fresh.new.fresh.items c.look_fresh.new.trail.steps c.deref-3.ensures.value
          (looked_kept c.self.inside.taken.items c.deref-2.result.now c.self.inside.done.items c.deref.result.now c.self.inside.starts.items c.self.inside.walked c.look_fresh.new.walked c.self.inside.variables c.self.inside.table c.look_fresh.new.self c.self.inside.fresh.items c.look_fresh.new.fresh.items c.deref-2.ensures.value c.deref.ensures.value c.self.invariant.kept c.look_fresh.ensures.watched c.look_fresh.ensures.listed c.look_fresh.ensures.heads c.look_fresh.ensures.less c.look_fresh.ensures.fine)
          (front_extends c.args.store.now.held c.self.inside.done.items c.args.trail.now.steps c.look_fresh.new.trail.steps c.look_fresh.ensures.extends (subst (λ (z : List InLit). IsFront z (lits_of c.args.trail.now.steps)) (sym (ap (λ (z : Watching). z.done) c.self.view_is)) c.requires.done)) c.pass.ensures.watched c.pass.ensures.keeps c.pass.ensures.heads c.pass.ensures.whole)
          (front_extends c.args.store.now.held c.self.inside.done.items c.look_fresh.new.trail.steps c.pass.new.trail.steps c.pass.ensures.extends (front_extends c.args.store.now.held c.self.inside.done.items c.args.trail.now.steps c.look_fresh.new.trail.steps c.look_fresh.ensures.extends (subst (λ (z : List InLit). IsFront z (lits_of c.args.trail.now.steps)) (sym (ap (λ (z : Watching). z.done) c.self.view_is)) c.requires.done)))
          (subst (λ (z : List InLit). IsLater c.self.inside.starts.items c.mark_all-in-Done.new.starts.items c.look_fresh.new.walked (length z)) c.lits-in-Done.ensures.value c.mark_all-in-Done.ensures.starts)
          (subst (λ (z : List Taken). AllGood c.args.store.now.held z (lits_of c.pass.new.trail.steps) c.pass.new.trail.steps c.pass.new.self.whole.items c.pass.new.self.watched.items false) c.deref-3.ensures.value c.in-Done.ensures.right)));
      room = omega (arith, c.self.invariant.room, c.mark_all-in-Done.ensures.done_kept);
      marks = omega (arith, c.self.invariant.marks, c.mark_all-in-Done.ensures.starts_kept);
      few = c.self.invariant.few;
    }

pub returns-in-Conflict-clause-extends : goal.returns-in-Conflict-clause-extends
returns-in-Conflict-clause-extends c =
    extends_more c.args.store.now.held c.args.trail.now.steps c.look_fresh.new.trail.steps c.pass.new.trail.steps c.look_fresh.ensures.extends c.pass.ensures.extends

pub returns-in-Conflict-clause-reasoned : goal.returns-in-Conflict-clause-reasoned
returns-in-Conflict-clause-reasoned c =
    extends_reasoned c.args.store.now.held c.args.trail.now.steps c.pass.new.trail.steps (extends_more c.args.store.now.held c.args.trail.now.steps c.look_fresh.new.trail.steps c.pass.new.trail.steps c.look_fresh.ensures.extends c.pass.ensures.extends)

pub returns-in-Conflict-clause-follows : goal.returns-in-Conflict-clause-follows
returns-in-Conflict-clause-follows c =
    extends_follows c.args.store.now.held c.args.trail.now.steps c.pass.new.trail.steps (extends_more c.args.store.now.held c.args.trail.now.steps c.look_fresh.new.trail.steps c.pass.new.trail.steps c.look_fresh.ensures.extends c.pass.ensures.extends)

pub returns-in-Missed-clause-found : goal.returns-in-Missed-clause-found
returns-in-Missed-clause-found c =
    passed_quiet c.args.store.now.held c.self.inside.taken.items c.deref-2.result.now c.deref-3.result.now c.look_fresh.new.trail.steps c.pass.new.trail.steps c.look_fresh.new.self c.pass.new.self true c.is_live-live.ensures.kept.rises
    (subst (λ (z : List Taken). HasTakenOver z c.args.store.now.held) (sym (ap (λ (z : Watching). z.taken) c.self.view_is)) c.requires.taken) c.deref-2.ensures.value c.deref-3.ensures.value c.pass.ensures.watched c.in-Missed.ensures.right c.in_default.ensures.right c.pass.ensures.whole c.pass.ensures.extends

pub returns-in-Missed-clause-extends : goal.returns-in-Missed-clause-extends
returns-in-Missed-clause-extends c =
    extends_more c.args.store.now.held c.args.trail.now.steps c.look_fresh.new.trail.steps c.pass.new.trail.steps c.look_fresh.ensures.extends c.pass.ensures.extends

pub returns-in-Missed-clause-reasoned : goal.returns-in-Missed-clause-reasoned
returns-in-Missed-clause-reasoned c =
    extends_reasoned c.args.store.now.held c.args.trail.now.steps c.pass.new.trail.steps (extends_more c.args.store.now.held c.args.trail.now.steps c.look_fresh.new.trail.steps c.pass.new.trail.steps c.look_fresh.ensures.extends c.pass.ensures.extends)

pub returns-in-Missed-clause-follows : goal.returns-in-Missed-clause-follows
returns-in-Missed-clause-follows c =
    extends_follows c.args.store.now.held c.args.trail.now.steps c.pass.new.trail.steps (extends_more c.args.store.now.held c.args.trail.now.steps c.look_fresh.new.trail.steps c.pass.new.trail.steps c.look_fresh.ensures.extends c.pass.ensures.extends)

pub returns-in-Done-clause-found : goal.returns-in-Done-clause-found
returns-in-Done-clause-found c =
    passed_quiet c.args.store.now.held c.self.inside.taken.items c.deref-2.result.now c.deref-3.result.now c.look_fresh.new.trail.steps c.pass.new.trail.steps c.look_fresh.new.self c.pass.new.self false c.is_live-live.ensures.kept.rises
    (subst (λ (z : List Taken). HasTakenOver z c.args.store.now.held) (sym (ap (λ (z : Watching). z.taken) c.self.view_is)) c.requires.taken) c.deref-2.ensures.value c.deref-3.ensures.value c.pass.ensures.watched c.in-Done.ensures.right c.in_default.ensures.right c.pass.ensures.whole c.pass.ensures.extends

pub returns-in-Done-clause-extends : goal.returns-in-Done-clause-extends
returns-in-Done-clause-extends c =
    extends_more c.args.store.now.held c.args.trail.now.steps c.look_fresh.new.trail.steps c.pass.new.trail.steps c.look_fresh.ensures.extends c.pass.ensures.extends

pub returns-in-Done-clause-reasoned : goal.returns-in-Done-clause-reasoned
returns-in-Done-clause-reasoned c =
    extends_reasoned c.args.store.now.held c.args.trail.now.steps c.pass.new.trail.steps (extends_more c.args.store.now.held c.args.trail.now.steps c.look_fresh.new.trail.steps c.pass.new.trail.steps c.look_fresh.ensures.extends c.pass.ensures.extends)

pub returns-in-Done-clause-follows : goal.returns-in-Done-clause-follows
returns-in-Done-clause-follows c =
    extends_follows c.args.store.now.held c.args.trail.now.steps c.pass.new.trail.steps (extends_more c.args.store.now.held c.args.trail.now.steps c.look_fresh.new.trail.steps c.pass.new.trail.steps c.look_fresh.ensures.extends c.pass.ensures.extends)
