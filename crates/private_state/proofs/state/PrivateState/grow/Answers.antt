use Rattle.std.proofs.Common.{◌≡◌, ◌+◌, ◌∙◌, refl, ap, sym, subst, List, ◌++◌, ◌∷◌, [], Option, Some, None, IfOk, Result, length, arith, length-append}
use Rattle.sat_lits.specs.declared.literal.Own.{Own}
use Rattle.sat_lits.specs.declared.literal.Var.{Var}
use Rattle.sat_lits.specs.declared.list.NoMemory.{NoMemory}
use Rattle.var_maps.specs.Maps.{Maps, Added}
use Rattle.state_laws.specs.declared.definition.Definition.{Definition}
use Rattle.state_laws.specs.State.{outers_from, outer_count}
use Rattle.state_laws.specs.Moves.{extended}
use Rattle.state_laws.specs.Kernel.{Kernel, Standing, state_of, plain_kernel}
use Rattle.state_laws.specs.KernelTakeLaws.{outers_len}
use Rattle.state_laws.specs.KernelExtendLaws.{with_outer, grown_state, grown-Standing}
use Rattle.state_laws.specs.ExtendLaws.{grown_none, grown_more}
use Rattle.removed_vars.specs.Removed.{Removed}
use Rattle.private_state.specs.Kept.{kernel_of}
use Rattle.private_state.specs.MovingLaws.{plain-Standing, plain_state, reserved_kernel}
use Rattle.sat_lits.specs.ListLaws.{pushed}
use Rattle.private_state.proofs.state.PrivateState.grow.Goals as goal

pub invariant_of-self : goal.invariant_of-self
invariant_of-self c =
    record {
      standing = plain-Standing (kernel_of c.self.inside) (kernel_of (record c.self.inside { maps = c.reserve.new.self })) (reserved_kernel (kernel_of c.self.inside) c.reserve.new.self c.self.inside.definitions.items c.self.inside.removed.entries c.reserve.ensures.same refl refl) c.self.invariant.standing;
      vars = c.self.invariant.vars;
    }

pub invariant_of-self-in_err-reserve-2 : goal.invariant_of-self-in_err-reserve-2
invariant_of-self-in_err-reserve-2 c =
    record {
      standing = plain-Standing (kernel_of c.self.inside) (kernel_of (record c.self.inside { maps = c.reserve.new.self; definitions = c.reserve-2.new.self }))
          (reserved_kernel (kernel_of c.self.inside) c.reserve.new.self c.reserve-2.new.self.items c.self.inside.removed.entries c.reserve.ensures.same c.in_err-reserve-2.ensures.items refl) c.self.invariant.standing;
      vars = c.self.invariant.vars ∙ ap length (sym c.in_err-reserve-2.ensures.items);
    }

pub invariant_of-self-in_err-add_vars : goal.invariant_of-self-in_err-add_vars
invariant_of-self-in_err-add_vars c =
    record {
      standing = plain-Standing (kernel_of c.self.inside) (kernel_of (record c.self.inside { maps = c.reserve.new.self; definitions = c.reserve-2.new.self; removed = c.add_vars.new.self }))
          (reserved_kernel (kernel_of c.self.inside) c.reserve.new.self c.reserve-2.new.self.items c.add_vars.new.self.entries c.reserve.ensures.same c.in_ok-reserve-2.ensures.items (ap (λ (r : Removed). r.entries) c.in_err-add_vars.ensures.err)) c.self.invariant.standing;
      vars = ap (λ (r : Removed). r.vars) c.in_err-add_vars.ensures.err ∙ (c.self.invariant.vars ∙ ap length (sym c.in_ok-reserve-2.ensures.items));
    }

pub each-init : goal.each-init
each-init c =
    let n : Kernel = kernel_of (record c.self.inside { maps = c.reserve.new.self; definitions = c.reserve-2.new.self; removed = c.add_vars.new.self }) in
    let e : plain_kernel n ≡ plain_kernel (kernel_of c.self.inside) =
    reserved_kernel (kernel_of c.self.inside) c.reserve.new.self c.reserve-2.new.self.items c.add_vars.new.self.entries c.reserve.ensures.same c.in_ok-reserve-2.ensures.items (ap (λ (r : Removed). r.entries) c.in_ok-add_vars.ensures.ok) in
    let d : length c.self.inside.definitions.items ≡ length c.args.self.now.definitions = ap (λ (k : Kernel). length k.definitions) c.self.view_is in
    let o : c.outer_count.result ≡ outer_count c.args.self.now.definitions =
    c.outer_count.ensures.value ∙ (outers_len (kernel_of c.self.inside) c.self.invariant.standing ∙ ap (λ (k : Kernel). length (outers_from 0 k.definitions)) c.self.view_is) in
    record {
      state = plain_state (kernel_of c.self.inside) n e ∙ (ap state_of c.self.view_is ∙ sym (grown_none (state_of c.args.self.now)));
      standing = plain-Standing (kernel_of c.self.inside) n e c.self.invariant.standing;
      store = ap (λ (k : Kernel). k.store) c.self.view_is;
      count = ap length c.in_ok-reserve-2.ensures.items ∙ omega (arith, d);
      fits = omega (arith, o, c.saturating_sub-more.ensures, c.requires);
      vars = ap (λ (r : Removed). r.vars) c.in_ok-add_vars.ensures.ok ∙ omega (arith, d, c.self.invariant.vars);
      room = omega (arith, c.in_ok-reserve.ensures.ok);
      capacity = omega (arith, c.in_ok-reserve-2.ensures.ok, c.in_ok-reserve-2.ensures.len);
    }

pub each-preserved : goal.each-preserved
each-preserved c =
    let k : Kernel = kernel_of c.each.self-inside in
    let m : Maps = c.add_outer.new.self in
    let o : Var = record { 0 = length k.maps.outers } in
    let a : Added (Some o) c.unwrap.result k.maps m = subst (λ (r : Result Own NoMemory). IfOk r (λ own. Added (Some o) own k.maps m)) c.unwrap.ensures c.add_outer.ensures.ok in
    let r : m.outers ≡ k.maps.outers ++ c.unwrap.result ∷ [] = subst (λ (r : Result Own NoMemory). IfOk r (λ own. m.outers ≡ k.maps.outers ++ own ∷ [])) c.unwrap.ensures c.add_outer.ensures.outers in
    let p : c.push.new.self.items ≡ k.definitions ++ None ∷ [] = pushed c.push.result c.unwrap-in-each.result k.definitions (k.definitions ++ None ∷ []) c.push.new.self.items c.push.ensures.items c.unwrap-in-each.ensures in
    let e : kernel_of (record c.each.self-inside { maps = m; definitions = c.push.new.self }) ≡ with_outer m k = ap (λ (z : List (Option Definition)). let y : Kernel = record k { maps = m; definitions = z } in y) p in
    let l : length c.push.new.self.items ≡ length k.definitions + 1 = ap length p ∙ length-append k.definitions (None ∷ []) in
    record {
      state = ap state_of e ∙ (grown_state k m c.unwrap.result o a c.each.invariant.standing.stands ∙ (ap (extended None []) c.each.invariant.state ∙ sym (grown_more c.each.counter (state_of c.args.self.now))));
      standing = subst (λ (z : Kernel). Standing z) (sym e) (grown-Standing k m c.unwrap.result o a r c.each.invariant.standing);
      store = c.each.invariant.store;
      count = omega (arith, l, c.each.invariant.count);
      fits = c.each.invariant.fits;
      vars = c.each.invariant.vars;
      room = omega (arith, c.each.invariant.room, c.add_outer.ensures.spare);
      capacity = omega (arith, c.each.invariant.capacity, c.push.ensures.len, c.push.ensures.capacity, l);
    }
