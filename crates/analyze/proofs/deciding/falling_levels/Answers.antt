use Rattle.std.proofs.Common.{◌∙◌, ap, sym, unwrap_or, false}
use Rattle.analyze.proofs.Shortening.{reason_live}
use Rattle.analyze.proofs.Decisions.{decisions_pass, decisions_resolve, decisions_name}
use Rattle.analyze.proofs.deciding.falling_levels.Goals as goal

pub lits-requires : goal.lits-requires
lits-requires c = reason_live c.args.store.now.held c.args.trail.now.steps _ c.in-Some.id c.requires.reasoned (sym c.reason_of.ensures ∙ c.in-Some.is)

pub back-preserved-in-Continue-1 : goal.back-preserved-in-Continue-1
back-preserved-in-Continue-1 c =
    decisions_resolve c.args.store.now.held c.args.trail.now c.args.lit c.back.marks c.mark_all.new.marks c.back.left c.back.levels.items c.lits-lits.result.now c.lits.result.now (record { var = record { 0 = 0 }; negative = false }) c.in-Some.id c.back-test.true
    c.requires.reasoned c.lits-lits.ensures.value (sym c.reason_of.ensures ∙ c.in-Some.is) c.lits.ensures.value c.in_ok-mark_all-in-Some.ensures c.back.invariant

pub back-preserved-in-Continue-branch-2 : goal.back-preserved-in-Continue-branch-2
back-preserved-in-Continue-branch-2 c =
    decisions_name c.args.store.now.held c.args.trail.now c.args.lit c.back.marks c.back.left c.unwrap_or.result c.back.levels.items c.push.new.self.items c.lits-lits.result.now (record { var = record { 0 = 0 }; negative = false }) c.back-test.true c.requires.reasoned
    c.lits-lits.ensures.value (sym c.reason_of.ensures ∙ c.in-None.is) (c.unwrap_or.ensures ∙ ap (λ o. unwrap_or o 0) c.level_of.ensures) c.in_ok-push-in-None.ensures.ok c.back.invariant

pub back-preserved : goal.back-preserved
back-preserved c =
    decisions_pass c.args.store.now.held c.args.trail.now c.args.lit c.back.marks c.back.left c.back.levels.items c.lits-lits.result.now (record { var = record { 0 = 0 }; negative = false }) c.back-test.true c.requires.reasoned c.lits-lits.ensures.value
    (sym c.contains.ensures ∙ c.if-contains.false) c.back.invariant
