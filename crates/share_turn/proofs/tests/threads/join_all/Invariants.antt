use Rattle.std.proofs.Common.{◌≡◌, ◌+◌, true, false, All, vec_len}
use Rattle.share_turn.specs.declared.view.Phase.TheVariants.{Free}
use Rattle.share_turn.proofs.tests.threads.join_all.Given as goal

abbrev pub invariant-joins : goal.invariant-joins
invariant-joins l =
    (l.first.table ≡ l.exchange) × (l.first.view.turn ≡ Free) × (l.first.view.first ≡ true) × (l.first.view.splits ≡ l.fn.first.view.splits)
    × (l.first.view.joins + vec_len l.solvers ≡ l.fn.first.view.joins + vec_len l.fn.solvers) × All (λ s. (s.exchange.now ≡ l.exchange) × (s.pass.view.first ≡ false)) l.solvers.items

abbrev pub decreases-joins : goal.decreases-joins
decreases-joins l = vec_len l.solvers
