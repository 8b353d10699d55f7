use Rattle.std.proofs.Common.{◌≡◌}
use Rattle.share_turn.proofs.tests.threads.Solver.run.Given as goal

abbrev pub invariant-turns : goal.invariant-turns
invariant-turns l =
    (l.self.exchange.now ≡ l.fn.self.exchange.now) × (l.self.pass.view.first ≡ l.fn.self.pass.view.first) × (l.self.pass.view.splits ≡ l.fn.self.pass.view.splits)
    × (l.self.pass.view.joins ≡ l.fn.self.pass.view.joins)
