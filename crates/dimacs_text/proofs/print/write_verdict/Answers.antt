use Rattle.std.proofs.Common.{codes}
use Rattle.dimacs_text.specs.Texts.{values_text, literals_text}
use Rattle.dimacs_text.proofs.Printed.{parts_written}
use Rattle.dimacs_text.proofs.print.write_verdict.Goals as goal

pub returns-in_ok-write_values-in-Sat : goal.returns-in_ok-write_values-in-Sat
returns-in_ok-write_values-in-Sat c =
    let values = rw c.as_slice.ensures at c.in_ok-write_values-in-Sat.ensures in
    rw c.in-Sat.is (parts_written _ _ _ _ _ (codes "s SATISFIABLE\nv") (values_text c.in-Sat.values) (codes " 0\n") c.in_ok-push_str-in-Sat.ensures.bytes values c.push_str-in-Sat.ensures.bytes)

pub returns-in_ok-write_literals-in-Unsat : goal.returns-in_ok-write_literals-in-Unsat
returns-in_ok-write_literals-in-Unsat c =
    let failed = rw c.as_slice-in-Unsat.ensures at c.in_ok-write_literals-in-Unsat.ensures in
    rw c.in-Unsat.is (parts_written _ _ _ _ _ (codes "s UNSATISFIABLE\nc failed") (literals_text c.in-Unsat.failed) (codes " 0\n") c.in_ok-push_str-in-Unsat.ensures.bytes failed c.push_str-in-Unsat-2.ensures.bytes)
