use Rattle.std.proofs.Common.{◌≡◌, ◌∙◌, ℕ, Bool, true, List, map, refl, sym, subst, ap, length}
use Rattle.sat_lits.specs.Truth.{clauses_value}
use Rattle.sat_lits.specs.Meaning.{IsModel}
use Rattle.clause_store.specs.Store.{hard_of}
use Rattle.sat_lits.specs.declared.literal.Own.{Own}
use Rattle.rebuild_stack.specs.Values.{values_of}
use Rattle.rebuild_stack.specs.Entries.{rebuild}
use Rattle.state_laws.specs.State.{outer_part, problem_of}
use Rattle.state_laws.specs.Held.{in_value, inner_value}
use Rattle.state_laws.specs.Kernel.{Kernel, Standing, state_of}
use Rattle.state_laws.specs.ViewLaws.{map_map}
use Rattle.state_laws.specs.KernelModelLaws.{own_within, outer_model_right}
use Rattle.private_state.specs.Kept.{kernel_of}
use Rattle.private_state.specs.Rebuilt.{rebuilt_values}
use Rattle.private_state.specs.MovingLaws.{written_back}
use Rattle.private_state.proofs.state.PrivateState.outer_model.Goals as goal

pub rebuild-requires : goal.rebuild-requires
rebuild-requires c = rw (c.deref_mut.ensures.value, c.stack.ensures) (own_within (kernel_of c.self.inside) c.args.inner.now c.in_ok-own.own.items c.self.invariant.standing c.in_ok-own.ensures.values)

pub returns-clause-model : goal.returns-clause-model
returns-clause-model c =
    let long : length c.rebuild.new.values ≡ length c.in_ok-own.own.items = c.rebuild.auto.values ∙ ap length c.deref_mut.ensures.value in
    subst (λ (k : Kernel). IsModel (problem_of (state_of k)) c.in_ok-outer.outer) c.self.view_is
    (outer_model_right (kernel_of c.self.inside) c.args.inner.now c.in_ok-own.own.items c.rebuild.new.values c.in_ok-outer.outer c.self.invariant.standing c.in_ok-own.ensures.matched
    (ap (λ (k : Kernel). k.okay) c.self.view_is ∙ c.requires.okay)
    (subst (λ (k : Kernel). clauses_value (in_value c.args.inner.now) (hard_of k.store.held) ≡ true) (sym c.self.view_is) c.requires.satisfied)
    c.in_ok-own.ensures.values
    (c.rebuild.ensures ∙ rw (c.stack.ensures, c.deref_mut.ensures.value) refl)
    (c.in_ok-outer.ensures ∙ rw (c.deref.ensures.value, written_back c.in_ok-own.own.len c.rebuild.new.values c.in_ok-own.own.items c.in_ok-own.own.ok.0 long) refl))

-- the outer values that were read are those of the rebuilt ones
rebuilt_part : (k : Kernel) (xs own new out : List Bool) → Standing k → own ≡ map (inner_value xs) k.maps.inners → values_of new ≡ rebuild k.stack (values_of own) → out ≡ map (λ v. values_of new v.0) k.maps.outers → out ≡ rebuilt_values k xs
rebuilt_part k xs own new out h e r f =
    f ∙ (sym (map_map (values_of new) (λ (v : Own). v.0) k.maps.outers)
    ∙ (ap (map (values_of new)) h.outers ∙ ap (λ (w : ℕ → Bool). outer_part k.definitions w) (r ∙ ap (λ (z : List Bool). rebuild k.stack (values_of z)) e)))

pub returns-clause-rebuilt : goal.returns-clause-rebuilt
returns-clause-rebuilt c =
    let long : length c.rebuild.new.values ≡ length c.in_ok-own.own.items = c.rebuild.auto.values ∙ ap length c.deref_mut.ensures.value in
    subst (λ (k : Kernel). c.in_ok-outer.outer ≡ rebuilt_values k c.args.inner.now) c.self.view_is
    (rebuilt_part (kernel_of c.self.inside) c.args.inner.now c.in_ok-own.own.items c.rebuild.new.values c.in_ok-outer.outer c.self.invariant.standing
    c.in_ok-own.ensures.values
    (c.rebuild.ensures ∙ rw (c.stack.ensures, c.deref_mut.ensures.value) refl)
    (c.in_ok-outer.ensures ∙ rw (c.deref.ensures.value, written_back c.in_ok-own.own.len c.rebuild.new.values c.in_ok-own.own.items c.in_ok-own.own.ok.0 long) refl))
