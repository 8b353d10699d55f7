-- Propagation keeps what holds between two moves.
use Rattle.std.proofs.Common.{◌≡◌, List, sym, ap, subst, ◌∙◌}
use Rattle.sat_lits.specs.declared.literal.InLit.{InLit}
use Rattle.trail.specs.Trail.{Assignment, lits_of}
use Rattle.propagate.specs.Reasons.{Extends}
use Rattle.propagate.specs.Watching.{Watching, HasTakenOver, IsFront, IsDone}
use Rattle.propagate.specs.TakenLaws.{takes_all}
use Rattle.propagate.specs.declared.watches.Taken.{Taken}
use Rattle.propagate.specs.declared.watches.Found.{Found}
use Rattle.propagate.specs.declared.watches.Found.TheVariants.{Quiet, Conflict}
use Rattle.std.proofs.Math.Seq.{take-length}
use Rattle.pick_order.specs.Orders.{HasPassedSet}
use Rattle.state_laws.specs.Kernel.{Kernel}
use Rattle.search.specs.declared.work.Work.{Work}
use Rattle.search.specs.InUse.{in_use}
use Rattle.search.specs.Searching.{AtMove, HasTables}
use Rattle.search.proofs.Passing.{passed_longer}
use Rattle.search.proofs.Going.{IsReached, reached}

-- all clauses were taken over
pub has_taken : (k : Kernel) (w : Work) → HasTables k w → HasTakenOver w.watches.taken k.store.held
has_taken k w t = subst (λ (xs : List Taken). HasTakenOver xs k.store.held) (sym t.taken) (takes_all k.store.held)

done_front : (done lits : List InLit) (found : Found) → IsDone done lits found → IsFront done lits
done_front done lits Quiet e = subst (λ (xs : List InLit). IsFront xs lits) (sym e) (take-length lits)
done_front done lits (Conflict id) e = e

pub propagated : (k : Kernel) (w : Work) (trail : Assignment) (watches : Watching) (found : Found) → AtMove k w → Extends k.store.held w.trail.steps trail.steps → trail.reserved ≡ w.trail.reserved → watches ≡ record w.watches { done = watches.done } → IsDone watches.done (lits_of trail.steps) found
    → AtMove k (record w { trail = trail; watches = watches })
propagated k w trail watches found a x r s d =
    let i : IsReached k.store.held (in_use k.maps) w.conflicts w.assumptions w.positions w.next w.trail.steps trail.steps =
    reached k.store.held (in_use k.maps) w.conflicts w.assumptions w.positions w.next w.trail.steps trail.steps a.tables.clauses x a.searching a.assumes in
    record {
      tables = record {
        reserved = r ∙ a.tables.reserved;
        variables = ap (λ (v : Watching). v.variables) s ∙ a.tables.variables;
        order = a.tables.order;
        passed = subst (HasPassedSet w.order) (sym x.parts) (passed_longer w.order x.newer w.trail.steps a.tables.passed);
        taken = ap (λ (v : Watching). v.taken) s ∙ a.tables.taken;
        done = done_front watches.done (lits_of trail.steps) found d;
        clauses = a.tables.clauses;
        assumptions = a.tables.assumptions;
        few = a.tables.few;
      };
      searching = i.searching;
      assumes = i.assumes;
      fewer = a.fewer;
    }
