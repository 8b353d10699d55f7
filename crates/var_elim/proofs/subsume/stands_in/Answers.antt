use Rattle.std.proofs.Common.{◌∙◌, ◌&&◌, ap, sym, not}
use Rattle.std.proofs.lemmas.Bool.{eqb-false}
use Rattle.var_elim.specs.Subsumption.{is_within}
use Rattle.var_elim.proofs.Subsuming.{subsumed_lits}
use Rattle.var_elim.proofs.subsume.stands_in.Goals as goal

pub returns-then-not-is_learned : goal.returns-then-not-is_learned
returns-then-not-is_learned c = λ h e.
    c.is_within.ensures
    ∙ (ap (λ b. not b && is_within c.args.lits.now c.lits.result.now) (sym c.if-not-is_learned.true)
    ∙ sym (subsumed_lits c.args.store.now c.args.by.0 c.args.id.0 h c.args.lits.now c.lits.result.now c.is_learned.result (eqb-false c.args.by.0 c.args.id.0 (sym c.eq.ensures ∙ c.if-eq.false)) e c.requires c.is_learned.ensures.value c.lits.ensures.value))
