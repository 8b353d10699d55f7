use Rattle.std.proofs.Common.{◌≡◌, ◌∙◌, arith, ℕ, List, Result, length, refl, sym, ap, ap₂, subst}
use Rattle.std.specs.Prelude.{OnErr}
use Rattle.sat_lits.specs.declared.literal.Own.{Own}
use Rattle.sat_lits.specs.declared.list.NoMemory.{NoMemory}
use Rattle.rebuild_stack.specs.declared.entry.Entry.{Entry}
use Rattle.state_laws.specs.State.{State}
use Rattle.state_laws.specs.Kernel.{Kernel, Standing, state_of}
use Rattle.removed_vars.specs.Removed.{Removed}
use Rattle.private_state.specs.declared.state.PrivateState.TheInside.{Inside}
use Rattle.private_state.specs.Kept.{kernel_of}
use Rattle.private_state.specs.Restoring.{RestoresFew}
use Rattle.private_state.proofs.Thinning.{thinned}
use Rattle.private_state.proofs.Walking.{AreOver, begun, next_back, went_on, stopped, all_back, came_through, came_ok}
use Rattle.private_state.proofs.state.PrivateState.restore_all.Goals as goal
use Rattle.private_state.proofs.state.PrivateState.restore_all.Goals.{else-each-test, then-each-test+then-is_err}

pub each-init : goal.each-init
each-init c = record { ok = refl; under_way = begun c.args.vars.now (kernel_of c.self.inside) c.args.self.now c.self.view_is c.self.invariant.standing c.requires; vars = c.self.invariant.vars }

pub bring_back-done-requires-clause-back : goal.bring_back-done-requires-clause-back
bring_back-done-requires-clause-back c = next_back c.args.vars.now c.each.var-index (record { 0 = 0 }) (state_of c.args.self.now) (kernel_of c.each.self-inside) c.each-test.true c.each.invariant.under_way

pub each-preserved : goal.each-preserved
each-preserved c =
    record {
      ok = came_ok c.bring_back-done.result c.if-is_err.ensures.value;
      under_way = went_on c.args.vars.now c.each.var-index (record { 0 = 0 }) (state_of c.args.self.now) (kernel_of c.each.self-inside) c.each-test.true c.each.invariant.under_way c.bring_back-done.new.maps c.bring_back-done.new.store
          (came_through _ c.bring_back-done.result c.if-is_err.ensures.value c.bring_back-done.ensures.ok);
      vars = c.each.invariant.vars;
    }

-- what was done in all, before the stack is walked over
record IsLeft (vars : List Own) (s : State) (p : Inside) (r : Result (Unit {0}) NoMemory) : Type 0 where
  over : AreOver vars s (kernel_of p) r
  count : p.removed.vars ≡ length p.definitions.items

left_as : (vars : List Own) (s : State) (p q : Inside) (r t : Result (Unit {0}) NoMemory) → p ≡ q → r ≡ t → IsLeft vars s q t → IsLeft vars s p r
left_as vars s p q r t e f h = subst (λ (x : Inside). IsLeft vars s x r) (sym e) (subst (λ (x : Result (Unit {0}) NoMemory). IsLeft vars s q x) (sym f) h)

left : (c : goal.After-take_out_active) → IsLeft c.args.vars.now (state_of c.args.self.now) c.each-test.self-inside c.each-test.done
left c = elim c.each-test.branch [
  | else-each-test w ↦ left_as c.args.vars.now (state_of c.args.self.now) c.each-test.self-inside c.each.self-inside c.each-test.done c.each.done w.self-inside-is w.done-is
      (record {
        over = all_back c.args.vars.now c.each.var-index (state_of c.args.self.now) (kernel_of c.each.self-inside) c.each.done (omega (arith, w.each-test.false, c.each.auto.var-index-end)) c.each.invariant.ok c.each.invariant.under_way;
        count = c.each.invariant.vars;
      })
  | then-each-test+then-is_err w ↦ left_as c.args.vars.now (state_of c.args.self.now) c.each-test.self-inside (record c.each.self-inside { maps = w.bring_back-done.new.maps; store = w.bring_back-done.new.store }) c.each-test.done w.bring_back-done.result
      w.self-inside-is w.done-is
      (record {
        over = stopped c.args.vars.now c.each.var-index (record { 0 = 0 }) (state_of c.args.self.now) (kernel_of c.each.self-inside) w.each-test.true c.each.invariant.under_way w.bring_back-done.new.maps w.bring_back-done.new.store
            w.bring_back-done.result w.if-is_err.ensures.value w.bring_back-done.ensures.err w.bring_back-done.ensures.held w.bring_back-done.ensures.mark;
        count = c.each.invariant.vars;
      })
]

-- the entries of those that came back are out of the stack
swept : (c : goal.After-take_out_active) → kernel_of (record c.each-test.self-inside { removed = c.take_out_active.new.self; stack_mark = c.count_left-self-inside.result }) ≡ thinned (kernel_of c.each-test.self-inside)
swept c = ap₂ {C = Kernel} (λ (s : List Entry) (m : ℕ). record (kernel_of c.each-test.self-inside) { stack = s; stack_mark = m }) (ap (λ (r : Removed). r.entries) c.take_out_active.ensures) c.count_left-self-inside.ensures

pub invariant_of-self : goal.invariant_of-self
invariant_of-self c =
    record {
      standing = subst (λ (k : Kernel). Standing k) (sym (swept c)) (left c).over.standing;
      vars = ap (λ (r : Removed). r.vars) c.take_out_active.ensures ∙ (left c).count;
    }

pub returns-clause-err : goal.returns-clause-err
returns-clause-err c = subst (λ (k : Kernel). OnErr c.each-test.done (RestoresFew c.args.vars.now (state_of c.args.self.now) (state_of k))) (sym (swept c)) (left c).over.err
