use Rattle.std.proofs.Common.{List, map, ap, sym, ◌∙◌}
use Rattle.std.specs.Option.{option_copied}
use Rattle.sat_lits.specs.Meaning.{negated}
use Rattle.sat_lits.specs.declared.literal.Lit.{Lit}
use Rattle.sat_run.proofs.Verdicts.{conflict_report}
use Rattle.sat_run.proofs.report.report_of.Goals as goal

pub returns-in_ok-failed-in-Unsat : goal.returns-in_ok-failed-in-Unsat
returns-in_ok-failed-in-Unsat c = λ before assumptions raised_before raised_now counted later told.
    conflict_report c.args.answer before c.args.solver.now assumptions c.unwrap-conflict.result.now c.negate.new.self raised_before raised_now c.in-Unsat.is counted later told
    (sym c.get_conflict.ensures.value ∙ ap option_copied c.unwrap-conflict.ensures)
    (c.negate.ensures ∙ ap (λ (ls : List Lit). map negated ls) c.in_ok-failed-in-Unsat.ensures)
