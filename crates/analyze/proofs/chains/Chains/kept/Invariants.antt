use Rattle.std.proofs.Common.{◌≡◌, ◌∷◌, take, filter, not}
use Rattle.analyze.specs.Marking.{is_marked}
use Rattle.analyze.proofs.chains.Chains.kept.Given as goal

abbrev pub invariant-loop-lit : goal.invariant-loop-lit
invariant-loop-lit l = l.kept ≡ l.fn.first ∷ filter (λ k. not (is_marked l.self.implied k.var.0)) (take l.lit-index l.others)
