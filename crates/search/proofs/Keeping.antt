-- What was met stays so where clauses are learned.
use Rattle.std.proofs.Common.{◌≡◌, ℕ, List, ap, ap₂, ◌∙◌}
use Rattle.sat_lits.specs.declared.literal.InLit.{InLit}
use Rattle.sat_lits.specs.declared.literal.OwnLit.{OwnLit}
use Rattle.clause_store.specs.Store.{Held, learned_of}
use Rattle.state_laws.specs.Held.{own_clauses}
use Rattle.state_laws.specs.Kernel.{Kernel, state_of}
use Rattle.state_laws.specs.Moves.{with_hard, with_learned}
use Rattle.sync_laws.specs.Met.{KeepsMet}
use Rattle.sync_laws.specs.KeepLaws.{keeps_as, with_learned-KeepsMet}
use Rattle.search.specs.declared.answer.IntervalAnswer.{IntervalAnswer}
use Rattle.search.specs.declared.answer.IntervalAnswer.TheVariants.{Model, Failed, IntervalOver, Spent, Asked, Memory}
use Rattle.search.specs.Learning.{HasLearned}
use Rattle.search.specs.Answers.{LearnsRight}

-- learned clauses alone are others
learning_keeps : (k n : Kernel) (count : ℕ) → HasLearned k n count → KeepsMet (state_of k) (state_of n)
learning_keeps k n count l = keeps_as (state_of k) (with_learned learned (state_of k).marked_learned (state_of k)) (state_of n) becomes (with_learned-KeepsMet learned (state_of k).marked_learned (state_of k) (λ log h. h))
  where
    learned : List (List OwnLit)
    learned = own_clauses k.maps (learned_of n.store.held)

    becomes : state_of n ≡ with_learned learned (state_of k).marked_learned (state_of k)
    becomes =
        ap state_of l.same
        ∙ ap₂ (λ (hard : List (List InLit)) (hs : List Held). with_learned learned (own_clauses k.maps (learned_of hs)) (with_hard (own_clauses k.maps hard) (state_of k))) l.hard l.marked

-- so an interval keeps what is met, whatever it answers
pub interval_keeps : (k n : Kernel) (conflicts : ℕ) (answer : IntervalAnswer) → LearnsRight k n conflicts answer → KeepsMet (state_of k) (state_of n)
interval_keeps k n conflicts (Model values) l = learning_keeps k n conflicts l
interval_keeps k n conflicts (Failed positions) l = learning_keeps k n conflicts l
interval_keeps k n conflicts IntervalOver l = learning_keeps k n conflicts l
interval_keeps k n conflicts Spent l = learning_keeps k n conflicts l
interval_keeps k n conflicts Asked l = learning_keeps k n conflicts l
interval_keeps k n conflicts Memory l = learning_keeps k n l.0 l.2
