use Rattle.std.proofs.Common.{◌∙◌, sym}
use Rattle.propagate.specs.Laws.{unit_named}
use Rattle.propagate.proofs.Room.{unit_reserved}
use Rattle.propagate.proofs.Settling.{unit_left, extends_one}
use Rattle.propagate.proofs.table.settle.Goals as goal

pub assign-requires-clause-reserved : goal.assign-requires-clause-reserved
assign-requires-clause-reserved c =
    unit_reserved c.args.trail.now.reserved c.args.store.now.held c.args.trail.now.steps c.args.other c.args.id c.requires.reserved
    (unit_left c.args.store.now.held c.args.trail.now.steps c.args.id c.lits-lits.result.now c.args.other c.lits-lits.ensures.value c.reserved-reserved.ensures.kept.sound (sym c.value-value.ensures ∙ c.in-None.is)
    (c.requires.within (sym c.is_live.ensures.value ∙ c.if-not-is_live.false)) c.in_default.ensures.none)

pub assign-requires-clause-unset : goal.assign-requires-clause-unset
assign-requires-clause-unset c =
    (unit_named c.args.store.now.held c.args.trail.now.steps c.args.other c.args.id
    (unit_left c.args.store.now.held c.args.trail.now.steps c.args.id c.lits-lits.result.now c.args.other c.lits-lits.ensures.value c.reserved-reserved.ensures.kept.sound (sym c.value-value.ensures ∙ c.in-None.is)
    (c.requires.within (sym c.is_live.ensures.value ∙ c.if-not-is_live.false)) c.in_default.ensures.none)).0

pub returns-in-None-clause-extends : goal.returns-in-None-clause-extends
returns-in-None-clause-extends c =
    extends_one c.args.store.now.held c.args.trail.now c.assign.new.self c.args.other c.args.id
    (unit_left c.args.store.now.held c.args.trail.now.steps c.args.id c.lits-lits.result.now c.args.other c.lits-lits.ensures.value c.reserved-reserved.ensures.kept.sound (sym c.value-value.ensures ∙ c.in-None.is)
    (c.requires.within (sym c.is_live.ensures.value ∙ c.if-not-is_live.false)) c.in_default.ensures.none)
    c.assign.ensures
