-- What holds when an interval begins.
use Rattle.std.proofs.Common.{◌≡◌, ◌<◌, ◌^◌, ℕ, eqb, Bool, true, false, cond, List, [], length, map, max, Option, Some, None, refl, sym, ap, subst, ◌∙◌, arith}
use Rattle.std.specs.Option.{is_some, unwrap_or}
use Rattle.std.specs.List.{list_any}
use Rattle.sat_lits.specs.ListLaws.{any_map}
use Rattle.sat_lits.specs.declared.literal.Inner.{Inner}
use Rattle.sat_lits.specs.declared.literal.InLit.{InLit}
use Rattle.clause_store.specs.Store.{Held}
use Rattle.trail.specs.Trail.{Assignment, lits_of}
use Rattle.propagate.specs.Watching.{Watching, IsFront, taken_as}
use Rattle.state_laws.specs.Kernel.{Kernel, Standing}
use Rattle.pick_order.specs.declared.preference.Preference.{Preference}
use Rattle.pick_order.specs.Preferences.{preference_in, prepared}
use Rattle.pick_order.specs.Orders.{HasPassedSet}
use Rattle.search.specs.InUse.{in_use, is_among, lits_among}
use Rattle.search.specs.Assumed.{HasAssumed}
use Rattle.search.specs.declared.work.Work.{Work}
use Rattle.search.specs.Ordering.{HasJust}
use Rattle.search.specs.Searching.{IsSearching, AtMove}
use Rattle.search.proofs.Assuming.{assumed_start}
use Rattle.search.proofs.Owning.{held_among}

chosen : (b : Bool) (p : Preference) → is_some (cond b (Some p) None) ≡ b
chosen true p = refl
chosen false p = refl

-- an order that was prepared has just the numbers in use
pub prepared_just : (active : List Inner) (phase : Bool) (old new : List (Option Preference)) (numbers : List ℕ) → ((v : ℕ) → preference_in new v ≡ prepared active phase old v) → map (λ (i : Inner). i.0) active ≡ numbers → HasJust new numbers
prepared_just active phase old new numbers h e v =
    ap is_some (h v) ∙ (chosen (list_any (λ (a : Inner). eqb a.0 v) active) (unwrap_or (preference_in old v) (record { activity = 0; phase = phase }))
    ∙ (sym (any_map (λ (n : ℕ). eqb n v) (λ (a : Inner). a.0) active) ∙ ap (λ (ns : List ℕ). is_among ns v) e))

-- nothing is assigned
pub searching_start : (held : List Held) (numbers : List ℕ) → IsSearching held numbers 0 []
searching_start held numbers = record {
  sound = refl;
  reasons = refl;
  active = refl;
  quiet = λ b h. absurd (omega arith);
  bound = record { fits = omega arith; few = omega arith };
}

-- all tables are made anew
pub begun : (k : Kernel) (w : Work) (given : List InLit) (n : ℕ) → n ≡ length k.maps.owners → w.trail ≡ record { steps = []; reserved = max 0 n } → w.watches ≡ record { taken = map taken_as k.store.held; done = []; variables = n }
    → HasJust w.order.known (in_use k.maps) → HasPassedSet w.order [] → w.assumptions ≡ given → w.positions ≡ [] → w.next ≡ 0 → w.conflicts ≡ 0 → Standing k → lits_among (in_use k.maps) given ≡ true → length given < 2 ^ 32 → AtMove k w
begun k w given n e t s o b a p x y z l f =
    let r : max 0 n ≡ n = omega arith in
    record {
      tables = record {
        reserved = ap (λ (v : Assignment). v.reserved) t ∙ (r ∙ e);
        variables = ap (λ (v : Watching). v.variables) s ∙ e;
        order = o;
        passed = subst (λ (v : Assignment). HasPassedSet w.order v.steps) (sym t) b;
        taken = ap (λ (v : Watching). v.taken) s;
        done = subst (λ (v : Watching). IsFront v.done (lits_of w.trail.steps)) (sym s) refl;
        clauses = held_among k z;
        assumptions = ap (lits_among (in_use k.maps)) a ∙ l;
        few = subst (λ (v : List InLit). length v < 2 ^ 32) (sym a) f;
      };
      searching = subst (λ (v : Assignment). IsSearching k.store.held (in_use k.maps) w.conflicts v.steps) (sym t)
          (subst (λ (v : ℕ). IsSearching k.store.held (in_use k.maps) v []) (sym y) (searching_start k.store.held (in_use k.maps)));
      assumes = subst (λ (v : Assignment). HasAssumed w.assumptions w.positions w.next v.steps) (sym t)
          (subst (λ (v : List ℕ). HasAssumed w.assumptions v w.next []) (sym p) (subst (λ (v : ℕ). HasAssumed w.assumptions [] v []) (sym x) (assumed_start w.assumptions)));
      fewer = λ h. omega arith;
    }
