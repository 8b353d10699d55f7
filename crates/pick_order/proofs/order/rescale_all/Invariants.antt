use Rattle.std.proofs.Common.{◌≡◌, ℕ, ◌<◌, ◌≤◌, option_map}
use Rattle.pick_order.specs.Preferences.{preference_in, rescaled_preference}
use Rattle.pick_order.proofs.order.rescale_all.Given as goal

abbrev pub invariant-loop-preference : goal.invariant-loop-preference
invariant-loop-preference l = record {
  rescaled : (v : ℕ) → v < l.preference-index → preference_in l.preferences v ≡ option_map rescaled_preference (preference_in l.initial.preferences v);
  same : (v : ℕ) → l.preference-index ≤ v → preference_in l.preferences v ≡ preference_in l.initial.preferences v;
}
