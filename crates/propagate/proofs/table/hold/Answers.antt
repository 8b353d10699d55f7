use Rattle.std.proofs.Common.{◌∙◌, sym}
use Rattle.propagate.proofs.Room.{unit_reserved}
use Rattle.propagate.proofs.Settling.{unit_given, unset_none, extends_one}
use Rattle.propagate.proofs.table.hold.Goals as goal

pub assign-requires-clause-reserved : goal.assign-requires-clause-reserved
assign-requires-clause-reserved c =
    unit_reserved c.args.trail.now.reserved c.args.store.now.held c.args.trail.now.steps c.args.lit c.args.id c.requires.reserved
    (unit_given c.args.store.now.held c.args.trail.now.steps c.args.id c.args.lit (unset_none c.args.trail.now.steps c.args.lit c.requires.sound (sym c.value.ensures ∙ c.in-None.is)) c.requires.gives)

pub assign-requires-clause-unset : goal.assign-requires-clause-unset
assign-requires-clause-unset c = unset_none c.args.trail.now.steps c.args.lit c.requires.sound (sym c.value.ensures ∙ c.in-None.is)

pub returns-in-None-clause-extends : goal.returns-in-None-clause-extends
returns-in-None-clause-extends c =
    extends_one c.args.store.now.held c.args.trail.now c.assign.new.self c.args.lit c.args.id
    (unit_given c.args.store.now.held c.args.trail.now.steps c.args.id c.args.lit (unset_none c.args.trail.now.steps c.args.lit c.requires.sound (sym c.value.ensures ∙ c.in-None.is)) c.requires.gives)
    c.assign.ensures
