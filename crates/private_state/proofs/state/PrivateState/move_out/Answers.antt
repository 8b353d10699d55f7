use Rattle.std.proofs.Common.{◌≡◌, ◌∙◌, ◌++◌, ◌∷◌, [], refl, ap, sym, subst, List, true, filter}
use Rattle.rebuild_stack.specs.declared.entry.Entry.TheVariants.{Gone}
use Rattle.clause_store.specs.Store.{Store, IsKept as KeptStore}
use Rattle.var_maps.specs.Maps.{Matched}
use Rattle.state_laws.specs.State.{is_active}
use Rattle.state_laws.specs.Resolution.{mentions, resolvents}
use Rattle.state_laws.specs.Moves.{eliminated}
use Rattle.state_laws.specs.Held.{Adds, numbers, without_ids}
use Rattle.state_laws.specs.HeldLaws.{Adds-ExtendsBy, rolled_back}
use Rattle.state_laws.specs.Kernel.{Kernel, state_of, plain_kernel, Keeps}
use Rattle.state_laws.specs.EliminateLaws.{eliminated-Stands}
use Rattle.state_laws.specs.KernelEliminateLaws.{Elimination, eliminated_state, eliminated-Standing, eliminated_keeps}
use Rattle.removed_vars.specs.declared.changes.Fresh.{Fresh}
use Rattle.removed_vars.specs.Fresh.{in_clauses}
use Rattle.removed_vars.specs.Removed.{Removed}
use Rattle.removed_vars.specs.Fresh.{Stores}
use Rattle.private_state.specs.Resolving.{TakesOut}
use Rattle.private_state.specs.Kept.{kernel_of}
use Rattle.private_state.specs.MovingLaws.{plain-Standing, active_unnamed, rolled_kernel}
use Rattle.private_state.proofs.state.PrivateState.move_out.Goals as goal

pub push-requires-clause-unnamed : goal.push-requires-clause-unnamed
push-requires-clause-unnamed c = active_unnamed (kernel_of c.self.inside) c.args.var.0 c.self.invariant.standing (subst (λ (k : Kernel). is_active (state_of k) c.args.var.0 ≡ true) (sym c.self.view_is) c.requires.active)

-- the kernel after the entry was refused
refused : (c : goal.After-drop-fresh-in-Err) → plain_kernel (kernel_of (record c.self.inside { store = c.drop_all.new.store; removed = c.push.new.self })) ≡ plain_kernel (kernel_of c.self.inside)
refused c =
    rolled_kernel (kernel_of c.self.inside) c.drop_all.new.store c.push.new.self.entries
    (rw (c.drop_all.ensures, c.deref-in-Err.ensures.value) (rolled_back c.self.inside.store c.add_all.new.store c.in_ok-ids.ids.items (in_clauses c.deref.result.now) (subst (λ (k : Kernel). KeptStore k.store) (sym c.self.view_is) c.requires.kept) c.in_ok-ids.ensures.ok))
    (ap (λ (s : Store). s.mark) c.drop_all.ensures ∙ c.add_all.ensures.mark)
    (ap (λ (r : Removed). r.entries) c.in-Err.ensures.err)

pub invariant_of-self-in-Err : goal.invariant_of-self-in-Err
invariant_of-self-in-Err c =
    record {
      standing = plain-Standing (kernel_of c.self.inside) (kernel_of (record c.self.inside { store = c.drop_all.new.store; removed = c.push.new.self })) (refused c) c.self.invariant.standing;
      vars = ap (λ (r : Removed). r.vars) c.in-Err.ensures.err ∙ c.self.invariant.vars;
    }

pub returns-in-Err-clause-err : goal.returns-in-Err-clause-err
returns-in-Err-clause-err c = refused c ∙ ap plain_kernel c.self.view_is

abbrev after : goal.After-drop-fresh-2 → Kernel
after c = kernel_of (record c.self.inside { maps = c.retire.new.self; store = c.drop_all-2.new.store; removed = c.push.new.self })

active : (c : goal.After-drop-fresh-2) → is_active (state_of (kernel_of c.self.inside)) c.args.var.0 ≡ true
active c = subst (λ (k : Kernel). is_active (state_of k) c.args.var.0 ≡ true) (sym c.self.view_is) c.requires.active

-- what was done
done : (c : goal.After-drop-fresh-2) → Elimination (kernel_of c.self.inside) (after c) c.args.var (numbers c.args.taken.doomed.items) (in_clauses c.args.fresh.items) c.add_all.new.store
done c =
    record {
      items = refl;
      entries = refl;
      definitions = refl;
      maps = c.retire.ensures.retired;
      store = c.drop_all-2.ensures ∙ ap (λ z. without_ids (numbers z) c.add_all.new.store) c.deref-2.ensures.value;
      stack = ap (λ (r : Removed). r.entries) c.in_default.ensures.ok ∙ ap (λ z. c.self.inside.removed.entries ++ Gone c.args.var z ∷ []) (taken c).block;
      okay = refl;
      stack_mark = refl;
      within = c.self.invariant.standing.within;
      doomed = (taken c).doomed;
      become = (stores c).become;
      extends = Adds-ExtendsBy c.self.inside.store c.add_all.new.store c.in_ok-ids.ids.items (in_clauses c.args.fresh.items)
          (subst (λ (z : List Fresh). Adds c.self.inside.store c.add_all.new.store c.in_ok-ids.ids.items (in_clauses z)) c.deref.ensures.value c.in_ok-ids.ensures.ok);
      matched = subst (λ (k : Kernel). Matched k.maps) (sym c.self.view_is) c.requires.matched;
      kept = subst (λ (k : Kernel). KeptStore k.store) (sym c.self.view_is) c.requires.kept;
    }
  where
    taken : (c : goal.After-drop-fresh-2) → TakesOut c.self.inside.maps c.self.inside.store.held c.args.var.0 c.args.taken
    taken c = subst (λ (k : Kernel). TakesOut k.maps k.store.held c.args.var.0 c.args.taken) (sym c.self.view_is) c.requires.taken

    stores : (c : goal.After-drop-fresh-2) → Stores c.self.inside.maps c.args.fresh.items (resolvents c.args.var.0 (filter (mentions c.args.var.0) (state_of (kernel_of c.self.inside)).hard))
    stores c = subst (λ (k : Kernel). Stores k.maps c.args.fresh.items (resolvents c.args.var.0 (filter (mentions c.args.var.0) (state_of k).hard))) (sym c.self.view_is) c.requires.fresh

pub invariant_of-self-2 : goal.invariant_of-self-2
invariant_of-self-2 c =
    record {
      standing = eliminated-Standing (kernel_of c.self.inside) (after c) c.args.var (numbers c.args.taken.doomed.items) (in_clauses c.args.fresh.items) c.add_all.new.store (done c) (active c) c.self.invariant.standing;
      vars = ap (λ (r : Removed). r.vars) c.in_default.ensures.ok ∙ c.self.invariant.vars;
    }

pub returns-clause-ok : goal.returns-clause-ok
returns-clause-ok c =
    eliminated_state (kernel_of c.self.inside) (after c) c.args.var (numbers c.args.taken.doomed.items) (in_clauses c.args.fresh.items) c.add_all.new.store (done c) (active c)
    (eliminated-Stands c.args.var (state_of (kernel_of c.self.inside)) (active c) c.self.invariant.standing.stands)
    ∙ ap (λ (k : Kernel). eliminated c.args.var (state_of k)) c.self.view_is

pub returns-clause-ids : goal.returns-clause-ids
returns-clause-ids c =
    subst (λ (k : Kernel). Keeps k (after c) c.args.var.0) c.self.view_is
    (eliminated_keeps (kernel_of c.self.inside) (after c) c.args.var (numbers c.args.taken.doomed.items) (in_clauses c.args.fresh.items) c.add_all.new.store (done c))
