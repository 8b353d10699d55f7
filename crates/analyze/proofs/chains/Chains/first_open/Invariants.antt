use Rattle.std.proofs.Common.{◌≡◌, take, true}
use Rattle.std.specs.List.{list_all}
use Rattle.analyze.specs.Marking.{is_marked}
use Rattle.analyze.specs.Chains.{either, own_or_settled}
use Rattle.analyze.proofs.chains.Chains.first_open.Given as goal

abbrev pub invariant-pass : goal.invariant-pass
invariant-pass l = list_all (λ k. own_or_settled (either (is_marked l.marks) (is_marked l.self.implied)) l.trail.steps l.link.var.0 k.var.0) (take l.place l.lits) ≡ true
