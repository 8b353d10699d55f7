use Rattle.std.proofs.Common.{◌∙◌, ap, subst, refl, length}
use Rattle.analyze.specs.Marking.{IsFresh}
use Rattle.analyze.proofs.Resolving.{start_stands}
use Rattle.trail.specs.Laws.{length-lits_of}
use Rattle.analyze.proofs.walk.Walk.start.Goals as goal

pub returns : goal.returns
returns c =
    start_stands c.args.trail.now _ c.reserved.ensures.kept (subst (λ n. IsFresh n c.start.new.self) c.reserved.ensures.value c.in_ok-start.ensures) c.level-self.ensures.value (ap length c.lits.ensures.value ∙ length-lits_of c.args.trail.now.steps) refl c.clear.ensures.items
