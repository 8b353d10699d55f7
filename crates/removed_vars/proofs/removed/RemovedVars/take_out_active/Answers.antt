use Rattle.std.proofs.Common.{◌≡◌, ◌∙◌, ℕ, List, length, get_or, rules, sym, ap, subst}
use Rattle.std.proofs.lemmas.Fn.{filter_same}
use Rattle.std.proofs.lemmas.List.{with_items_is}
use Rattle.rebuild_stack.specs.declared.entry.Entry.{Entry}
use Rattle.state_laws.specs.RootTableLaws.{entry_of}
use Rattle.removed_vars.specs.Removed.{Removed, IsInOrder}
use Rattle.removed_vars.specs.Restoring.{stays, active_in, left_by}
use Rattle.removed_vars.specs.Statuses.{status_of, status_without}
use Rattle.removed_vars.specs.LeavingLaws.{left_status}
use Rattle.removed_vars.specs.declared.removed.Status.{Status}
use Rattle.removed_vars.specs.declared.removed.Status.TheVariants.{Kept}
use Rattle.removed_vars.proofs.removed.RemovedVars.take_out_active.Goals as goal

-- the entries that are left
now_left : (c : goal.After-number) → c.retain.new.self ≡ left_by c.args.maps.now c.self.inside.stack
now_left c = filter_same _ (stays (active_in c.args.maps.now)) _ (λ x b f' k. search rules) c.self.inside.stack _ c.retain.ensures

-- the table keeps its length
same_length : (c : goal.After-number) → length c.forget_all.new.statuses ≡ c.self.inside.statuses.len
same_length c = c.forget_all.auto.statuses ∙ (ap length c.deref_mut.ensures.value ∙ sym c.self.inside.statuses.ok.0)

pub returns : goal.returns
returns c =
    let e : left_by c.args.maps.now c.self.inside.stack ≡ left_by c.args.maps.now c.args.self.now.entries = ap (λ (r : Removed). left_by c.args.maps.now r.entries) c.self.view_is in
    rw (with_items_is c.self.inside.statuses c.forget_all.new.statuses (same_length c))
    (ap (λ (s : List Entry). let r : Removed = record { entries = s; vars = length c.forget_all.new.statuses } in r) (now_left c ∙ e)
    ∙ ap (λ (n : ℕ). let r : Removed = record { entries = left_by c.args.maps.now c.args.self.now.entries; vars = n } in r) (same_length c ∙ (c.self.inside.statuses.ok.0 ∙ ap (λ (r : Removed). r.vars) c.self.view_is)))

pub invariant_of-self : goal.invariant_of-self
invariant_of-self c =
    let o : IsInOrder c.self.inside.stack = subst (λ (r : Removed). IsInOrder r.entries) (sym c.self.view_is) c.requires in
    record {
      each = λ k. ap (λ (xs : List Status). get_or xs k Kept) (with_items_is c.self.inside.statuses c.forget_all.new.statuses (same_length c))
          ∙ (c.forget_all.ensures k
          ∙ (ap (λ (s : List Entry). status_without (active_in c.args.maps.now) k s (get_or c.deref_mut.result.now k Kept)) c.entries.ensures
          ∙ (ap (λ (xs : List Status). status_without (active_in c.args.maps.now) k c.self.inside.stack (get_or xs k Kept)) c.deref_mut.ensures.value
          ∙ (ap (λ (x : Status). status_without (active_in c.args.maps.now) k c.self.inside.stack x) (c.self.invariant.each k)
          ∙ (left_status o.active (active_in c.args.maps.now) c.self.inside.stack o.once k
          ∙ ap (λ (s : List Entry). status_of (entry_of k s)) (sym (now_left c)))))));
    }
