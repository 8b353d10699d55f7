use Rattle.std.proofs.Common.{◌∙◌, sym, false}
use Rattle.analyze.proofs.Resolving.{walk_passed, walk_taken, walk_end}
use Rattle.analyze.proofs.walk.Walk.first_uip.Goals as goal

pub returns-then-self-eq0 : goal.returns-then-self-eq0
returns-then-self-eq0 c =
    walk_end c.args.store.now.held c.args.trail.now c.back.self c.lits-lits.result.now (record { var = record { 0 = 0 }; negative = false }) c.requires.reasoned c.back.invariant c.lits-lits.ensures.value (sym c.contains.ensures ∙ c.if-contains.true) c.if-self-eq0.true c.requires.level

pub resolve-requires-clause-taken : goal.resolve-requires-clause-taken
resolve-requires-clause-taken c =
    walk_taken c.args.store.now.held c.args.trail.now c.back.self c.lits-lits.result.now (record { var = record { 0 = 0 }; negative = false }) c.requires.reasoned c.back.invariant c.lits-lits.ensures.value (sym c.contains.ensures ∙ c.if-contains.true) c.if-self-eq0.false

pub back-preserved : goal.back-preserved
back-preserved c =
    walk_passed c.args.store.now.held c.args.trail.now c.back.self c.lits-lits.result.now (record { var = record { 0 = 0 }; negative = false }) c.requires.reasoned c.back.invariant c.lits-lits.ensures.value (sym c.contains.ensures ∙ c.if-contains.false)
