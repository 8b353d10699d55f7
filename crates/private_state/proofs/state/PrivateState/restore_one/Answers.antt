use Rattle.std.proofs.Common.{◌≡◌, ◌∙◌, ℕ, List, Result, Ok, Err, sym, ap, ap₂, subst}
use Rattle.std.specs.Prelude.{OnErr}
use Rattle.sat_lits.specs.declared.list.NoMemory.{NoMemory}
use Rattle.rebuild_stack.specs.declared.entry.Entry.{Entry}
use Rattle.state_laws.specs.Kernel.{Kernel, Standing, state_of}
use Rattle.state_laws.specs.ViewLaws.{same_state-Standing}
use Rattle.removed_vars.specs.Removed.{Removed}
use Rattle.private_state.specs.Kept.{kernel_of}
use Rattle.private_state.specs.MovingLaws.{in_order}
use Rattle.private_state.specs.Restoring.{CanRestore, Restores}
use Rattle.private_state.proofs.Reviving.{same_state}
use Rattle.private_state.proofs.Thinning.{thinned, standing_thinned, can_back, came_back, back_stands}
use Rattle.private_state.proofs.state.PrivateState.restore_one.Goals as goal

-- the kernel as it was is one in whose stack no such entry stands
was : (k n : Kernel) → k ≡ n → Standing k → thinned k ≡ n
was k n e h = standing_thinned k h ∙ e

stands : (k : Kernel) → Standing k → Standing (thinned k)
stands k h = subst (λ (z : Kernel). Standing z) (sym (standing_thinned k h)) h

pub bring_back-requires-clause-back : goal.bring_back-requires-clause-back
bring_back-requires-clause-back c =
    let k : Kernel = kernel_of c.self.inside in
    can_back k c.args.var (in_order k c.self.invariant.standing) (stands k c.self.invariant.standing)
    (subst (λ (z : Kernel). CanRestore (state_of z) c.args.var) (sym (was k c.args.self.now c.self.view_is c.self.invariant.standing)) c.requires)

pub invariant_of-self : goal.invariant_of-self
invariant_of-self c =
    let k : Kernel = kernel_of c.self.inside in
    record {
      standing = same_state-Standing k (record k { maps = c.bring_back.new.maps; store = c.bring_back.new.store }) (same_state k c.bring_back.new.maps c.bring_back.new.store c.in_err-bring_back.ensures.err c.in_err-bring_back.ensures.held c.bring_back.ensures.mark)
          c.in_err-bring_back.ensures.err.outers c.in_err-bring_back.ensures.err.outer_numbers c.self.invariant.standing.within c.self.invariant.standing;
      vars = c.self.invariant.vars;
    }

-- what holds wherever there is an error
in_err : {P : Type 0} (r : Result (Unit {0}) NoMemory) → P → OnErr r P
in_err (Ok u) p = tt
in_err (Err x) p = p

pub returns-in_err-bring_back-clause-err : goal.returns-in_err-bring_back-clause-err
returns-in_err-bring_back-clause-err c =
    in_err c.from_residual.result
    (same_state (kernel_of c.self.inside) c.bring_back.new.maps c.bring_back.new.store c.in_err-bring_back.ensures.err c.in_err-bring_back.ensures.held c.bring_back.ensures.mark
    ∙ ap (λ (k : Kernel). state_of k) c.self.view_is)

-- its entry is out of the stack
swept : (c : goal.After-take_out_active) → kernel_of (record c.self.inside { maps = c.bring_back.new.maps; store = c.bring_back.new.store; removed = c.take_out_active.new.self; stack_mark = c.count_left-self-inside.result }) ≡ thinned (record (kernel_of c.self.inside) { maps = c.bring_back.new.maps; store = c.bring_back.new.store })
swept c =
    ap₂ {C = Kernel} (λ (s : List Entry) (m : ℕ). record (kernel_of c.self.inside) { maps = c.bring_back.new.maps; store = c.bring_back.new.store; stack = s; stack_mark = m }) (ap (λ (r : Removed). r.entries) c.take_out_active.ensures)
    c.count_left-self-inside.ensures

pub invariant_of-self-2 : goal.invariant_of-self-2
invariant_of-self-2 c =
    let k : Kernel = kernel_of c.self.inside in
    let r : CanRestore (state_of (thinned k)) c.args.var = subst (λ (z : Kernel). CanRestore (state_of z) c.args.var) (sym (was k c.args.self.now c.self.view_is c.self.invariant.standing)) c.requires in
    record {
      standing = subst (λ (z : Kernel). Standing z) (sym (swept c))
          (back_stands k c.args.var (in_order k c.self.invariant.standing) (stands k c.self.invariant.standing) r c.bring_back.new.maps c.bring_back.new.store c.in_ok-bring_back.ensures.ok);
      vars = ap (λ (r : Removed). r.vars) c.take_out_active.ensures ∙ c.self.invariant.vars;
    }

pub returns-clause-ok : goal.returns-clause-ok
returns-clause-ok c =
    let k : Kernel = kernel_of c.self.inside in
    let r : CanRestore (state_of (thinned k)) c.args.var = subst (λ (z : Kernel). CanRestore (state_of z) c.args.var) (sym (was k c.args.self.now c.self.view_is c.self.invariant.standing)) c.requires in
    subst (λ (z : Kernel). Restores (state_of c.args.self.now) (state_of z) c.args.var) (sym (swept c))
    (subst (λ (z : Kernel). Restores (state_of z) (state_of (thinned (record k { maps = c.bring_back.new.maps; store = c.bring_back.new.store }))) c.args.var) (was k c.args.self.now c.self.view_is c.self.invariant.standing)
    (came_back k c.args.var (in_order k c.self.invariant.standing) (stands k c.self.invariant.standing) r c.bring_back.new.maps c.bring_back.new.store c.in_ok-bring_back.ensures.ok))
