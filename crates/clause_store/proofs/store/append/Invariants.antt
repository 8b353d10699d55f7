use Rattle.std.proofs.Common.{◌≡◌, ◌∷◌, ◌++◌, length, take, vec_capacity}
use Rattle.clause_store.specs.Words.{header_of}
use Rattle.clause_store.proofs.store.append.Given as goal

abbrev pub invariant-loop-lit : goal.invariant-loop-lit
invariant-loop-lit l = record {
  words : l.words.items ≡ l.fn.words.items ++ (header_of (length l.lits) l.fn.learned ∷ take l.lit-index l.lits);
  room : vec_capacity l.words ≡ vec_capacity l.fn.words;
}
