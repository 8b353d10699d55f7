use Rattle.std.proofs.Common.{arith}
use Rattle.dimacs_text.proofs.Calls.{goes_further, gives_rest, gives_more, refuses_at, runs_out_at}
use Rattle.dimacs_text.proofs.reader.Reader.take_piece.Goals as goal

pub returns-then-has_ended-clause-ok : goal.returns-then-has_ended-clause-ok
returns-then-has_ended-clause-ok c = gives_rest _ c.loop-byte.self _ c.loop-byte.byte-index _ _ (c.has_ended.ensures.0 c.if-has_ended.true) c.loop-byte.invariant

pub returns-in-Err-clause-refused : goal.returns-in-Err-clause-refused
returns-in-Err-clause-refused c =
    let none = goes_further c.loop-byte.self c.has_ended.result c.has_ended.ensures c.if-has_ended.false in
    λ why e. refuses_at _ c.loop-byte.self c.byte_step.new.self _ c.loop-byte.byte-index _ c.loop-byte.to _ c.in-Err.error why (omega arith) none c.loop-byte.invariant e c.in-Err.ensures

pub returns-in-Err-clause-memory : goal.returns-in-Err-clause-memory
returns-in-Err-clause-memory c = λ e. runs_out_at _ c.loop-byte.self c.byte_step.new.self _ c.loop-byte.byte-index _ c.loop-byte.to _ c.in-Err.error _ c.loop-byte.invariant e c.in-Err.ensures

pub loop-byte-preserved : goal.loop-byte-preserved
loop-byte-preserved c =
    let none = goes_further c.loop-byte.self c.has_ended.result c.has_ended.ensures c.if-has_ended.false in
    gives_more _ c.loop-byte.self _ _ c.loop-byte.byte-index _ c.loop-byte.to _ (omega arith) none c.loop-byte.invariant c.in_default.ensures
