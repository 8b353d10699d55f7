use Rattle.std.proofs.Common.{◌≡◌, ◌<◌, ◌∙◌, ℕ, true, sym, subst, arith, lt-ltb}
use Rattle.std.proofs.lemmas.Bool.{and_from, not_from_false}
use Rattle.trail.specs.Trail.{Assignment}
use Rattle.trail.specs.Laws.{value_in-none}
use Rattle.propagate.specs.Watching.{steps_below}
use Rattle.analyze.proofs.tests.decide.Goals as goal

pub decide-requires-clause-unset : goal.decide-requires-clause-unset
decide-requires-clause-unset c = not_from_false _ (value_in-none c.args.trail.now.steps c.args.lit c.reserved.ensures.kept.sound (sym c.value.ensures ∙ c.in-None.is))

pub propagate-requires-clause-steps : goal.propagate-requires-clause-steps
propagate-requires-clause-steps c =
    let below : c.args.lit.var.0 < c.args.watches.now.variables = omega (arith, c.if-lit-reserved.false, c.reserved.ensures.value, c.requires.variables) in
    subst (λ (z : Assignment). steps_below c.args.watches.now.variables z.steps ≡ true) (sym c.decide.ensures)
    (and_from _ _ (lt-ltb _ _ below) (subst (λ (n : ℕ). steps_below n c.args.trail.now.steps ≡ true) (sym c.requires.variables) c.reserved.ensures.kept.known))
