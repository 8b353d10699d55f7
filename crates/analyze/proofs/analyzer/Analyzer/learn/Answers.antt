use Rattle.analyze.specs.QuietLaws.{once_distinct, learned_unit_by_first}
use Rattle.propagate.specs.Units.{false_clause}
use Rattle.analyze.specs.Falsity.{has_present}
use Rattle.analyze.proofs.Entailing.{names_lits}
use Rattle.analyze.proofs.Resolving.{start_known, start_walk}
use Rattle.analyze.proofs.analyzer.Analyzer.learn.Goals as goal

pub mark_all-requires-clause-known : goal.mark_all-requires-clause-known
mark_all-requires-clause-known c =
    start_known c.args.trail.now c.start.new.self c.lits.result.now c.in_ok-start.ensures (names_lits c.args.store.now.held c.args.conflict (false_clause c.args.trail.now.steps) c.lits.result.now c.lits.ensures.value c.requires.all_false)

pub first_uip-requires-clause-walk : goal.first_uip-requires-clause-walk
first_uip-requires-clause-walk c =
    start_walk c.args.store.now.held c.args.trail.now c.start.new.self c.mark_all.new.self c.args.conflict c.lits.result.now c.in_ok-start.ensures c.lits.ensures.value c.requires.reasoned
    (names_lits c.args.store.now.held c.args.conflict (false_clause c.args.trail.now.steps) c.lits.result.now c.lits.ensures.value c.requires.all_false)
    (names_lits c.args.store.now.held c.args.conflict (has_present c.args.trail.now.steps) c.lits.result.now c.lits.ensures.value c.requires.present)
    c.requires.level c.in_ok-mark_all.ensures

pub returns-clause-distinct : goal.returns-clause-distinct
returns-clause-distinct c = once_distinct c.in_ok-learned.learned.lits c.in_ok-learned.ensures.learned.once

pub returns-clause-unit : goal.returns-clause-unit
returns-clause-unit c = learned_unit_by_first c.args.store.now.held c.args.trail.now.steps c.in_ok-learned.learned.lits c.in_ok-learned.learned.back c.in_ok-start.ensures.stands.kept.sound c.in_ok-learned.ensures.learned
