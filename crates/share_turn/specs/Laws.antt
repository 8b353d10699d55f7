-- Facts that callers may cite.
use Rattle.std.proofs.Common.{◌<◌, List, [], ◌∷◌, ◌++◌, length, arith}
use Rattle.std.proofs.lemmas.List.Elements.{All-push}
use Rattle.std.proofs.lemmas.Option.{none-some}
use Rattle.sat_lits.specs.Logs.{IsLegalAt}
use Rattle.sat_lits.specs.LogLaws.{push_is_legal}
use Rattle.sat_lits.specs.declared.shared.Shared.{Shared}
use Rattle.share_store.specs.Log.{LacksClause}
use Rattle.share_turn.specs.declared.view.Question.{Question}
use Rattle.share_turn.specs.Views.{IsLegalFor}

-- the empty log is legal
pub none_is_legal : (q : Question) → IsLegalFor q []
none_is_legal q = record {
  legal = record { each = λ place entry stands. absurd (none-some entry stands); once = λ i j d below within. absurd (omega arith) };
  solvers = λ k d within. absurd (omega arith);
}

-- a legal log stays legal with an entry at its end that may stand there and whose clause is new
pub added_is_legal : (q : Question) (log : List Shared) (entry : Shared) → IsLegalFor q log → IsLegalAt q.formula.problem log (length log) entry → entry.solver < q.solvers → LacksClause log entry.clause
    → IsLegalFor q (log ++ entry ∷ [])
added_is_legal q log entry legal at known fresh = record {
  legal = push_is_legal q.formula.problem log entry legal.legal at fresh;
  solvers = All-push (λ (e : Shared). e.solver < q.solvers) log entry legal.solvers known;
}
