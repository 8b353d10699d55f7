use Rattle.std.proofs.Common.{◌∙◌, List, ap, not, filter, subst}
use Rattle.sat_lits.specs.declared.literal.InLit.{InLit}
use Rattle.analyze.specs.Marking.{is_marked, IsGreatest}
use Rattle.analyze.proofs.Shortening.{learned, learned_met}
use Rattle.analyze.proofs.Chaining.{after_first}
use Rattle.analyze.proofs.chains.Chains.shorten.Goals as goal

pub returns-clause-learned : goal.returns-clause-learned
returns-clause-learned c =
    learned c.args.store.now.held c.args.trail.now c.args.walk.now (is_marked c.follow_all.new.self.implied) c.args.first c.in_ok-lits.lits (filter (λ l. not (is_marked c.follow_all.new.self.implied l.var.0)) c.as_slice-others.result.now) c.greatest_level-back.result
    c.requires.reasoned c.requires.end c.in_ok-follow_all.ensures.implied (ap (filter (λ (l : InLit). not (is_marked c.follow_all.new.self.implied l.var.0))) c.as_slice-others.ensures) c.in_ok-lits.ensures
    (subst (λ (z : List InLit). IsGreatest c.args.trail.now.steps z c.greatest_level-back.result)
    (after_first c.as_slice.result.now (filter (λ l. not (is_marked c.follow_all.new.self.implied l.var.0)) c.as_slice-others.result.now) c.args.first (c.as_slice.ensures ∙ c.in_ok-lits.ensures)) c.greatest_level-back.ensures)

pub returns-clause-met : goal.returns-clause-met
returns-clause-met c =
    learned_met c.args.store.now.held c.args.trail.now c.args.walk.now (is_marked c.follow_all.new.self.implied) c.args.first c.in_ok-lits.lits (filter (λ l. not (is_marked c.follow_all.new.self.implied l.var.0)) c.as_slice-others.result.now)
    c.requires.end (ap (filter (λ (l : InLit). not (is_marked c.follow_all.new.self.implied l.var.0))) c.as_slice-others.ensures) c.in_ok-lits.ensures
