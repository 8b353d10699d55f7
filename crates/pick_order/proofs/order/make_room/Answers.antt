use Rattle.pick_order.specs.Preferences.{fits_in}
use Rattle.pick_order.proofs.Raising.{no_room, rescaled_order}
use Rattle.pick_order.proofs.order.make_room.Goals as goal

pub returns-clause-order : goal.returns-clause-order
returns-clause-order c =
    rescaled_order c.args.preferences.now c.rescale_all.new.preferences (fits_in c.args.preferences.now c.args.var.0 c.args.increment)
    (no_room c.args.preferences.now c.args.var.0 c.args.increment c.unwrap-activity.result c.unwrap-activity.ensures c.if-activity-increment-le-LIMIT.false) c.rescale_all.auto.preferences c.rescale_all.ensures
