use Rattle.std.proofs.Common.{◌∙◌, ap, sym, filter, take_all}
use Rattle.std.specs.List.{list_any}
use Rattle.indexed_store.specs.Lists.{is_in}
use Rattle.indexed_store.specs.Occurrences.{clauses_at}
use Rattle.indexed_store.specs.declared.short_id.ShortId.{ShortId}
use Rattle.var_elim.specs.Subsumption.{subsumes}
use Rattle.var_elim.proofs.Counting.{none_more}
use Rattle.var_elim.proofs.Subsuming.{found_all, same_lits, none_at}
use Rattle.var_elim.proofs.subsume.stands_alone.Goals as goal

abbrev first : ShortId
first = record { 0 = 0 }

pub each-preserved : goal.each-preserved
each-preserved c = λ h e.
    none_more c.args.state.now.store.held h c.occurrences-ids.result.now c.each.id-index first c.each-test.true (c.each.invariant h e)
    (none_at h _ (sym ((rw (c.whole.ensures, c.clauses-store.ensures.value) at c.stands_in.ensures) h e) ∙ c.if-stands_in.false))

pub returns : goal.returns
returns c = λ t h e.
    sym (found_all c.args.state.now.store.held h c.rarest.result.0 c.occurrences-ids.result.now
    (ap (list_any (is_in c.rarest.result.0)) (same_lits c.args.state.now.store.held c.args.by.0 h c.lits-lits.result.now e (rw c.clauses-store.ensures.value at c.lits-lits.ensures.value)) ∙ c.rarest.ensures) c.occurrences-ids.ensures.value)
    ∙ (ap (λ z. filter (subsumes h) (clauses_at c.args.state.now.store.held z)) (sym (take_all c.each.id-index c.occurrences-ids.result.now c.each-test.false)) ∙ c.each.invariant h e)
