use Rattle.std.proofs.Common.{◌∙◌, ℕ, Option, sym, refl, subst}
use Rattle.analyze.specs.Marking.{MarksNew}
use Rattle.analyze.proofs.Chaining.{linked}
use Rattle.analyze.proofs.chains.Chains.begin.Goals as goal

pub returns : goal.returns
returns c =
    linked c.args.trail.now c.args.var c.in-Some.reason c.args.self.now _ c.mark.new.self c.in-Some-2._level (sym c.reason_of.ensures ∙ c.in-Some.is)
    (subst (λ (o : Option ℕ). MarksNew c.args.trail.now.steps c.args.var c.args.self.now.looked c.mark.new.self o) c.in-Some-2.is c.in_ok-_level.ensures) refl refl c.in_ok-push.ensures.items
