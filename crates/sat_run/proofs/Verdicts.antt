-- The report of what a solver tells.
use Rattle.std.proofs.Common.{◌≡◌, ◌≤◌, ℕ, Bool, true, false, not, List, [], ◌∷◌, map, Some, refl, sym, ap, ap₂, ◌∙◌, subst, arith}
use Rattle.std.specs.declared.option.Option.{Option}
use Rattle.sat_lits.specs.declared.literal.Lit.{Lit}
use Rattle.sat_lits.specs.declared.verdict.Verdict.TheVariants as verdict
use Rattle.sat_lits.specs.Meaning.{negated}
use Rattle.sat_lits.specs.Verdicts.{IsRight}
use Rattle.sat_api.specs.State.{SolverState}
use Rattle.sat_api.specs.Answers.{Answers}
use Rattle.sat_api.specs.declared.solver.Answer.{Answer}
use Rattle.sat_api.specs.declared.solver.Answer.TheVariants.{Sat, Unsat, Unknown}
use Rattle.sat_run.specs.Questions.{question}
use Rattle.sat_run.specs.Reports.{IsReportOn}
use Rattle.sat_run.specs.declared.report.Report.TheVariants as report

not_twice : (x : Bool) → not (not x) ≡ x
not_twice true = refl
not_twice false = refl

-- a sign that is turned twice is as before
negated_twice : (lits : List Lit) → map negated (map negated lits) ≡ lits
negated_twice [] = refl
negated_twice (l ∷ lits) =
    ap₂ (λ (x : Bool) (ls : List Lit). let m : Lit = record { var = l.var; negative = x } in m ∷ ls) (not_twice l.negative) (negated_twice lits)

same_some : {X : Type 0} (x y : X) (o : Option X) → o ≡ Some x → o ≡ Some y → x ≡ y
same_some x y o e f = cc

-- the literals of a conflict, turned back, are the failed assumptions
pub conflict_report : (answer : Answer) (before now : SolverState) (assumptions lits turned : List Lit) (raised_before raised_now : ℕ) → answer ≡ Unsat → before.counted ≤ now.counted → raised_before ≤ raised_now
    → Answers before now assumptions raised_before raised_now answer → now.conflict ≡ Some lits → turned ≡ map negated lits → IsReportOn (question before.problem assumptions) before now raised_before raised_now (report.Verdict (verdict.Unsat turned))
conflict_report Sat before now assumptions lits turned raised_before raised_now e counted later told conflict back = absurd cc
conflict_report (Unknown cause) before now assumptions lits turned raised_before raised_now e counted later told conflict back = absurd cc
conflict_report Unsat before now assumptions lits turned raised_before raised_now e counted later told conflict back =
    let same : lits ≡ map negated told.failed = same_some lits (map negated told.failed) now.conflict conflict told.conflict in
    let failed : told.failed ≡ turned = sym (negated_twice told.failed) ∙ ap (map negated) (sym same) ∙ sym back in
    record {
      right = λ shares. subst (λ (ls : List Lit). IsRight before.problem assumptions (verdict.Unsat ls)) failed told.right;
      told = told.conflict ∙ ap (λ (ls : List Lit). Some (map negated ls)) failed;
      counted = omega arith;
      raised = omega arith;
    }
