-- The signs of a clause's literals, by the numbers of their variables.
use Rattle.std.specs.Prelude.{◌≡◌, ℕ, Bool, false, List, Some, None, nat_eq}
use Rattle.std.specs.declared.option.Option.{Option}
use Rattle.std.specs.declared.hash.FoldHasher.{FoldHasher}
use Rattle.std.specs.declared.hash.BuildHasherDefault.{BuildHasherDefault}
use Rattle.std.specs.HashMap.{HashMap, get}
use Rattle.std.specs.Bool.{beq}
use Rattle.std.specs.List.{list_any}
use Rattle.sat_lits.specs.declared.literal.OwnLit.{OwnLit}
use Rattle.rebuild_stack.specs.PutIn.{same_lit}

-- signs by the number of a variable
abbrev pub Signs : Type 0
Signs = HashMap ℕ Bool (BuildHasherDefault FoldHasher)

-- whether this sign was kept
abbrev pub has_sign : Option Bool → Bool → Bool
has_sign None negative = false
has_sign (Some kept) negative = beq kept negative

-- the signs kept are those of the clause's literals
pub record TellsSigns (signs : Signs) (lits : List OwnLit) : Type 0 where
  pub each : (k : OwnLit) → list_any (same_lit k) lits ≡ has_sign (get nat_eq signs k.var.0) k.negative
