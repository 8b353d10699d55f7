use Rattle.std.proofs.Common.{◌∙◌, ◌+◌, ap, sym, arith, filter, take_all, List}
use Rattle.std.specs.Prelude.{if◌then◌else◌}
use Rattle.indexed_store.specs.declared.short_id.ShortId.{ShortId}
use Rattle.sat_lits.specs.declared.literal.ClauseId.{ClauseId}
use Rattle.clause_store.specs.Store.{clause_at}
use Rattle.indexed_store.specs.Occurrences.{clauses_at}
use Rattle.var_elim.specs.Subsumption.{subsumes}
use Rattle.var_elim.proofs.Counting.{drops_step, same_more, none_step}
use Rattle.var_elim.proofs.drop.drop_all_by.Goals.{then-drop_if_subsumed, else-drop_if_subsumed}
use Rattle.var_elim.proofs.drop.drop_all_by.Goals as goal

abbrev first : ShortId
first = record { 0 = 0 }

pub each-preserved : goal.each-preserved
each-preserved c =
    elim c.if-drop_if_subsumed.branch [
      | then-drop_if_subsumed w ↦
          record {
            drops = drops_step c.drop_if_subsumed.result c.each.dropped c.if-drop_if_subsumed.dropped c.args.state.now.store.held c.each.state.store.held c.drop_if_subsumed.new.state.store.held c.each.invariant.drops c.drop_if_subsumed.ensures.dropped
                (w.dropped-is ∙ ap (λ b. c.each.dropped + (if b then 1 else 0)) (sym w.if-drop_if_subsumed.true));
            same = same_more c.args.state.now c.each.state c.drop_if_subsumed.new.state c.each.invariant.same c.drop_if_subsumed.ensures.same;
            by = c.drop_if_subsumed.ensures.by;
            none = λ z. absurd (omega (arith, w.dropped-is));
            count = omega (arith, w.dropped-is, c.each.invariant.count);
          }
      | else-drop_if_subsumed w ↦
          record {
            drops = drops_step c.drop_if_subsumed.result c.each.dropped c.if-drop_if_subsumed.dropped c.args.state.now.store.held c.each.state.store.held c.drop_if_subsumed.new.state.store.held c.each.invariant.drops c.drop_if_subsumed.ensures.dropped
                (w.dropped-is ∙ (omega arith ∙ ap (λ b. c.each.dropped + (if b then 1 else 0)) (sym w.if-drop_if_subsumed.false)));
            same = same_more c.args.state.now c.each.state c.drop_if_subsumed.new.state c.each.invariant.same c.drop_if_subsumed.ensures.same;
            by = c.drop_if_subsumed.ensures.by;
            none = λ z. none_step c.args.state.now.store.held c.each.state.store.held c.deref-other-items.result.now c.each.other-index first c.in_ok-by.by.id.0 c.each.dropped c.each.invariant.drops (sym w.dropped-is ∙ z) c.each-test.true
                (c.each.invariant.none (sym w.dropped-is ∙ z)) (rw c.whole.ensures at (c.drop_if_subsumed.ensures.none w.if-drop_if_subsumed.false));
            count = omega (arith, w.dropped-is, c.each.invariant.count);
          }
    ]

pub returns-clause-none : goal.returns-clause-none
returns-clause-none c = λ z h e.
    sym (c.in_ok-ids.ensures h e)
    ∙ (ap (λ (xs : List ShortId). filter (subsumes h) (clauses_at c.args.state.now.store.held xs)) (sym c.deref-other-items.ensures.value ∙ sym (take_all c.each.other-index c.deref-other-items.result.now c.each-test.false)) ∙ c.each.invariant.none z h (ap (λ (i : ClauseId). clause_at c.args.state.now.store.held i.0) c.in_ok-by.ensures.id ∙ e))
