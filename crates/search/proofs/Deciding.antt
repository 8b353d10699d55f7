-- A decision keeps what holds between two moves.
use Rattle.std.proofs.Common.{◌≡◌, ◌<◌, ◌≤◌, ◌+◌, ℕ, true, List, [], ◌∷◌, ◌++◌, length, take, None, refl, sym, ap, ap₂, subst, ◌∙◌, arith, lt-ltb}
use Rattle.std.proofs.lemmas.Bool.{and_from, not-true}
use Rattle.sat_lits.specs.declared.literal.InLit.{InLit}
use Rattle.trail.specs.declared.trail.Step.{Step}
use Rattle.trail.specs.Trail.{shaped_step, unset_in, level_of, lits_of}
use Rattle.trail.specs.Laws.{shaped_step-decide, lits_of-newest}
use Rattle.propagate.specs.Units.{all_quiet}
use Rattle.analyze.specs.QuietLaws.{decide_keeps}
use Rattle.pick_order.specs.Orders.{Order, HasPassedSet}
use Rattle.search_laws.specs.TrailNumber.{trail_number}
use Rattle.state_laws.specs.Kernel.{Kernel}
use Rattle.search.specs.declared.work.Work.{Work}
use Rattle.search.specs.InUse.{in_use, is_among}
use Rattle.search.specs.Ordering.{HasJust}
use Rattle.search.specs.Assumed.{HasAssumed, assumption_at}
use Rattle.search.specs.Searching.{AtMove, HasTables, IsSearching, with_step}
use Rattle.search.proofs.Assuming.{assumed_pick, assumed_decide}
use Rattle.search.proofs.Passing.{passed_more}
use Rattle.search.proofs.Going.{searching_more, number_more}

-- a front of a list is one of a longer list
front_longer : {X : Type 0} (front xs more : List X) → take (length front) xs ≡ front → take (length front) (xs ++ more) ≡ front
front_longer [] xs more f = refl
front_longer (d ∷ ds) [] more f = cc
front_longer {X = X} (d ∷ ds) (x ∷ xs) more f =
    let g : x ≡ d = cc in
    let h : take (length ds) xs ≡ ds = cc in
    ap₂ (λ (y : X) (ys : List X). y ∷ ys) g (front_longer ds xs more h)

-- the step of a decision
abbrev pub decision : InLit → List Step → Step
decision l t = record { lit = l; level = level_of t + 1; reason = None }

pub searching_decide : (k : Kernel) (w : Work) (l : InLit) → AtMove k w → all_quiet w.trail.steps k.store.held ≡ true → unset_in w.trail.steps l ≡ true → is_among (in_use k.maps) l.var.0 ≡ true
    → IsSearching k.store.held (in_use k.maps) w.conflicts (decision l w.trail.steps ∷ w.trail.steps)
searching_decide k w l m q u a =
    let e : shaped_step w.trail.steps (decision l w.trail.steps) ≡ true = shaped_step-decide w.trail.steps (decision l w.trail.steps) (not-true _ u) refl refl in
    searching_more k.store.held (in_use k.maps) w.conflicts w.trail.steps (decision l w.trail.steps) e (lt-ltb (level_of w.trail.steps) (level_of w.trail.steps + 1) (omega arith)) a
    (decide_keeps k.store.held w.trail.steps (decision l w.trail.steps) (and_from _ _ e m.searching.sound) refl q m.searching.quiet) m.searching

pub decide_rises : (k : Kernel) (w : Work) (l : InLit) → AtMove k w → all_quiet w.trail.steps k.store.held ≡ true → unset_in w.trail.steps l ≡ true → is_among (in_use k.maps) l.var.0 ≡ true
    → trail_number (length (in_use k.maps)) w.trail.steps < trail_number (length (in_use k.maps)) (decision l w.trail.steps ∷ w.trail.steps)
decide_rises k w l m q u a = number_more k.store.held (in_use k.maps) w.conflicts w.trail.steps (decision l w.trail.steps) (searching_decide k w l m q u a)

tables_step : (k : Kernel) (w : Work) (s : Step) → HasTables k w → HasTables k (with_step s w)
tables_step k w s t =
    record {
      reserved = t.reserved;
      variables = t.variables;
      order = t.order;
      passed = passed_more w.order s w.trail.steps t.passed;
      taken = t.taken;
      done = ap (take (length w.watches.done)) (lits_of-newest w.trail.steps s) ∙ front_longer w.watches.done (lits_of w.trail.steps) (s.lit ∷ []) t.done;
      clauses = t.clauses;
      assumptions = t.assumptions;
      few = t.few;
    }

-- a decision after all assumptions, of a variable that the order gave
pub picked : (k : Kernel) (w : Work) (l : InLit) (order : Order) → AtMove k w → all_quiet w.trail.steps k.store.held ≡ true → unset_in w.trail.steps l ≡ true → is_among (in_use k.maps) l.var.0 ≡ true → length w.assumptions ≤ w.next
    → order ≡ record w.order { candidates = order.candidates } → HasPassedSet order w.trail.steps → AtMove k (record (with_step (decision l w.trail.steps) w) { order = order })
picked k w l order m q u a h e p =
    let t : HasTables k (with_step (decision l w.trail.steps) w) = tables_step k w (decision l w.trail.steps) m.tables in
    record {
      tables = record {
        reserved = t.reserved;
        variables = t.variables;
        order = subst (λ (o : Order). HasJust o.known (in_use k.maps)) (sym e) t.order;
        passed = passed_more order (decision l w.trail.steps) w.trail.steps p;
        taken = t.taken;
        done = t.done;
        clauses = t.clauses;
        assumptions = t.assumptions;
        few = t.few;
      };
      searching = searching_decide k w l m q u a;
      assumes = assumed_pick w.assumptions w.positions w.next w.trail.steps (decision l w.trail.steps) refl h m.assumes;
      fewer = m.fewer;
    }

-- the decision of the next assumption
pub assumed_next : (k : Kernel) (w : Work) (l : InLit) → AtMove k w → all_quiet w.trail.steps k.store.held ≡ true → unset_in w.trail.steps l ≡ true → is_among (in_use k.maps) l.var.0 ≡ true → w.next < length w.assumptions → l ≡ assumption_at w.assumptions w.next
    → AtMove k (record (with_step (decision l w.trail.steps) w) { positions = w.positions ++ w.next ∷ []; next = w.next + 1 })
assumed_next k w l m q u a h e =
    let t : HasTables k (with_step (decision l w.trail.steps) w) = tables_step k w (decision l w.trail.steps) m.tables in
    record {
      tables = record { reserved = t.reserved; variables = t.variables; order = t.order; passed = t.passed; taken = t.taken; done = t.done; clauses = t.clauses; assumptions = t.assumptions; few = t.few };
      searching = searching_decide k w l m q u a;
      assumes = assumed_decide w.assumptions w.positions w.next w.trail.steps (decision l w.trail.steps) m.searching.sound refl e h m.assumes;
      fewer = m.fewer;
    }

-- what is passed of the assumptions changes nothing else
pub skipped : (k : Kernel) (w : Work) (next : ℕ) → AtMove k w → HasAssumed w.assumptions w.positions next w.trail.steps → AtMove k (record w { next = next })
skipped k w next m a =
    record {
      tables = record { reserved = m.tables.reserved; variables = m.tables.variables; order = m.tables.order; passed = m.tables.passed; taken = m.tables.taken; done = m.tables.done; clauses = m.tables.clauses; assumptions = m.tables.assumptions; few = m.tables.few };
      searching = m.searching;
      assumes = a;
      fewer = m.fewer;
    }

-- what holds after true assumptions were passed
pub passed : (k : Kernel) (old new : Work) → AtMove k old → HasAssumed new.assumptions new.positions new.next new.trail.steps → new ≡ record old { next = new.next } → AtMove k new
passed k old new m a e = subst (AtMove k) (sym e) (skipped k old new.next m (subst (λ (w : Work). HasAssumed w.assumptions w.positions new.next w.trail.steps) e a))
