use Rattle.std.proofs.Common.{◌∙◌, ◌==◌, ap, sym, not, ◌&&◌, leb, length, count_by, nat_eq}
use Rattle.std.proofs.lemmas.Bool.{eqb-false}
use Rattle.std.specs.HashSet.{contains}
use Rattle.var_elim.specs.Marks.{code}
use Rattle.var_elim.proofs.Subsuming.{subsumed_other}
use Rattle.var_elim.proofs.subsume.is_subsumed.Goals as goal

pub returns-then-not-is_learned-clause-value : goal.returns-then-not-is_learned-clause-value
returns-then-not-is_learned-clause-value c = λ h e.
    c.has_marked.ensures
    ∙ (ap (λ b. not b && (leb c.args.by.now.len (length c.lits.result.now) && (count_by (λ l. contains nat_eq c.args.by.now.marks (code l)) c.lits.result.now == c.args.by.now.len))) (sym c.if-not-is_learned.true)
    ∙ sym (subsumed_other c.args.store.now c.args.by.now c.args.id.0 h c.is_learned.result c.lits.result.now c.lits.ensures.kept c.requires (eqb-false c.args.by.now.id.0 c.args.id.0 (sym c.eq.ensures ∙ c.if-eq.false)) e c.is_learned.ensures.value c.lits.ensures.value))
