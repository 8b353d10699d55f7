-- What the fields of the order mean, and what they keep.
use Rattle.std.specs.Prelude.{◌^◌, ◌≤◌, length}
use Rattle.pick_order.specs.declared.order.PickOrder.TheInside.{Inside}
use Rattle.pick_order.specs.Preferences.{IsLimited}
use Rattle.pick_order.specs.Orders.{Order}
use Rattle.pick_order.specs.Queues.{IsQueued}

-- what is known of each active variable, the candidates, and the increment
abbrev pub order_of : Inside → Order
order_of o = record { known = o.preferences.items; candidates = o.tournament; increment = o.increment }

-- each candidate is an active variable as it is known now, a variable has 32 bits, and no activity is above 2 ^ 62
pub record IsOrdered (o : Inside) : Type 0 where
  pub queued : IsQueued o.preferences.items o.tournament
  pub numbers : length o.preferences.items ≤ 2 ^ 32
  pub limit : IsLimited o.preferences.items
  pub grows : 1024 ≤ o.increment
  pub within : o.increment ≤ 2 ^ 62
