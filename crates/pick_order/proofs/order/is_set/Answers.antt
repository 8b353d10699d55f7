use Rattle.std.proofs.Common.{◌≡◌, ◌∙◌, Option, Some, None, option_map, refl, ap, sym}
use Rattle.std.specs.Option.{is_some}
use Rattle.trail.specs.Laws.{set_in-step_in}
use Rattle.pick_order.proofs.order.is_set.Goals as goal

is_some-option_map : {X Y : Type 0} (f : X → Y) (o : Option X) → is_some (option_map f o) ≡ is_some o
is_some-option_map f None = refl
is_some-option_map f (Some x) = refl

pub returns : goal.returns
returns c = c.is_some.ensures ∙ (ap is_some c.level_of.ensures ∙ (is_some-option_map _ _ ∙ sym (set_in-step_in c.args.trail.now.steps c.args.var.0)))
