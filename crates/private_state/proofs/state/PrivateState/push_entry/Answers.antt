use Rattle.std.proofs.Common.{◌≡◌, ◌∙◌, ℕ, refl, ap, sym, subst, List}
use Rattle.rebuild_stack.specs.Entries.{named}
use Rattle.clause_store.specs.Store.{Store}
use Rattle.var_maps.specs.Maps.{plain, retired}
use Rattle.state_laws.specs.Conditions.{Pushable, EntryFollows}
use Rattle.state_laws.specs.Moves.{put_into}
use Rattle.state_laws.specs.Held.{Adds, numbers, without_ids}
use Rattle.state_laws.specs.HeldLaws.{Adds-ExtendsBy, rolled_back}
use Rattle.state_laws.specs.Kernel.{Kernel, state_of, plain_kernel, Keeps}
use Rattle.state_laws.specs.PutIntoLaws.{put_into-Stands}
use Rattle.state_laws.specs.KernelPutIntoLaws.{Pushed, pushed_ready, pushed_state, pushed-Standing, pushed_keeps}
use Rattle.removed_vars.specs.declared.changes.Fresh.{Fresh}
use Rattle.removed_vars.specs.Fresh.{in_clauses}
use Rattle.removed_vars.specs.Removed.{Removed}
use Rattle.private_state.specs.Kept.{kernel_of}
use Rattle.private_state.specs.MovingLaws.{plain-Standing, active_unnamed, rolled_kernel}
use Rattle.private_state.proofs.state.PrivateState.push_entry.Goals as goal

pub collect-requires-clause-ready : goal.collect-requires-clause-ready
collect-requires-clause-ready c = pushed_ready (kernel_of c.self.inside) c.args.entry (subst (λ (k : Kernel). Pushable (state_of k) c.args.entry) (sym c.self.view_is) c.requires.pushable) c.self.invariant.standing.stands

pub push-requires-clause-unnamed : goal.push-requires-clause-unnamed
push-requires-clause-unnamed c =
    let p : Pushable (state_of (kernel_of c.self.inside)) c.args.entry = subst (λ (k : Kernel). Pushable (state_of k) c.args.entry) (sym c.self.view_is) c.requires.pushable in
    active_unnamed (kernel_of c.self.inside) (named c.args.entry) c.self.invariant.standing p.active

-- the kernel after the entry was refused
refused : (c : goal.After-drop-changes-in-Err-2) → plain_kernel (kernel_of (record c.self.inside { store = c.drop_all.new.store; removed = c.push.new.self })) ≡ plain_kernel (kernel_of c.self.inside)
refused c =
    rolled_kernel (kernel_of c.self.inside) c.drop_all.new.store c.push.new.self.entries
    (rw (c.drop_all.ensures, c.deref-in-Err.ensures.value) (rolled_back c.self.inside.store c.add_all.new.store c.in_ok-ids.ids.items (in_clauses c.deref.result.now) c.in_ok-changes.ensures.kept c.in_ok-ids.ensures.ok))
    (ap (λ (s : Store). s.mark) c.drop_all.ensures ∙ c.add_all.ensures.mark)
    (ap (λ (r : Removed). r.entries) c.in-Err.ensures.err)

pub invariant_of-self-in-Err : goal.invariant_of-self-in-Err
invariant_of-self-in-Err c =
    record {
      standing = plain-Standing (kernel_of c.self.inside) (kernel_of (record c.self.inside { store = c.drop_all.new.store; removed = c.push.new.self })) (refused c) c.self.invariant.standing;
      vars = ap (λ (r : Removed). r.vars) c.in-Err.ensures.err ∙ c.self.invariant.vars;
    }

pub returns-in-Err-clause-err : goal.returns-in-Err-clause-err
returns-in-Err-clause-err c = refused c ∙ ap plain_kernel c.self.view_is

abbrev after : goal.After-drop-changes-3 → Kernel
after c = kernel_of (record c.self.inside { maps = c.retire.new.self; store = c.drop_all-2.new.store; removed = c.push.new.self })

-- what was done
done : (c : goal.After-drop-changes-3) → Pushed (kernel_of c.self.inside) (after c) c.args.entry (numbers c.in_ok-changes.changes.doomed.items) (in_clauses c.in_ok-changes.changes.fresh.items) c.add_all.new.store
done c =
    record {
      items = refl;
      entries = refl;
      definitions = refl;
      maps = c.retire.ensures.retired ∙ ap (λ (n : ℕ). plain (retired n c.self.inside.maps)) c.var_of-var.ensures;
      store = c.drop_all-2.ensures ∙ ap (λ z. without_ids (numbers z) c.add_all.new.store) c.deref-2.ensures.value;
      stack = ap (λ (r : Removed). r.entries) c.in_default.ensures.ok;
      okay = refl;
      stack_mark = refl;
      within = c.self.invariant.standing.within;
      collected = c.in_ok-changes.ensures.collected.collected;
      extends = Adds-ExtendsBy c.self.inside.store c.add_all.new.store c.in_ok-ids.ids.items (in_clauses c.in_ok-changes.changes.fresh.items)
          (subst (λ (z : List Fresh). Adds c.self.inside.store c.add_all.new.store c.in_ok-ids.ids.items (in_clauses z)) c.deref.ensures.value c.in_ok-ids.ensures.ok);
      matched = c.in_ok-changes.ensures.matched;
      kept = c.in_ok-changes.ensures.kept;
    }

pushable : (c : goal.After-drop-changes-3) → Pushable (state_of (kernel_of c.self.inside)) c.args.entry
pushable c = subst (λ (k : Kernel). Pushable (state_of k) c.args.entry) (sym c.self.view_is) c.requires.pushable

follows : (c : goal.After-drop-changes-3) → EntryFollows (state_of (kernel_of c.self.inside)) c.args.entry
follows c = subst (λ (k : Kernel). EntryFollows (state_of k) c.args.entry) (sym c.self.view_is) c.requires.follows

pub invariant_of-self-2 : goal.invariant_of-self-2
invariant_of-self-2 c =
    record {
      standing = pushed-Standing (kernel_of c.self.inside) (after c) c.args.entry (numbers c.in_ok-changes.changes.doomed.items) (in_clauses c.in_ok-changes.changes.fresh.items) c.add_all.new.store (done c) (pushable c) (follows c) c.self.invariant.standing;
      vars = ap (λ (r : Removed). r.vars) c.in_default.ensures.ok ∙ c.self.invariant.vars;
    }

pub returns-clause-ok : goal.returns-clause-ok
returns-clause-ok c =
    pushed_state (kernel_of c.self.inside) (after c) c.args.entry (numbers c.in_ok-changes.changes.doomed.items) (in_clauses c.in_ok-changes.changes.fresh.items) c.add_all.new.store (done c) (pushable c)
    (put_into-Stands c.args.entry (state_of (kernel_of c.self.inside)) (pushable c) (follows c) c.self.invariant.standing.stands)
    ∙ ap (λ (k : Kernel). put_into c.args.entry (state_of k)) c.self.view_is

pub returns-clause-ids : goal.returns-clause-ids
returns-clause-ids c =
    subst (λ (k : Kernel). Keeps k (after c) (named c.args.entry)) c.self.view_is
    (pushed_keeps (kernel_of c.self.inside) (after c) c.args.entry (numbers c.in_ok-changes.changes.doomed.items) (in_clauses c.in_ok-changes.changes.fresh.items) c.add_all.new.store (done c))
