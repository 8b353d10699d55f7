-- What tests need of the states that they make.
use Rattle.std.proofs.Common.{◌≡◌, ℕ, Bool, true, false, not, ◌&&◌, ◌||◌, refl}
use Rattle.std.specs.Bool.{beq}
use Rattle.std.proofs.lemmas.Bool.{false≢true}
use Rattle.sat_lits.specs.declared.literal.Lit.{Lit}
use Rattle.sat_lits.specs.declared.literal.OwnLit.{OwnLit}

-- literals by the number of the variable and the sign
abbrev pub lit : ℕ → Bool → Lit
lit n negative = record { var = record { 0 = n }; negative = negative }

abbrev pub own_lit : ℕ → Bool → OwnLit
own_lit n negative = record { var = record { 0 = n }; negative = negative }

-- what is implied with a third variable and with its negation is implied
pub without_third : (a b c : Bool) → ((a || (not b || false)) && ((not a || (b || (c || false))) && ((not a || (b || (not c || false))) && true))) ≡ true → (not a || (b || false)) ≡ true
without_third true true c e = refl
without_third true false true e = e
without_third true false false e = e
without_third false b c e = refl

-- two variables that imply each other have one value
pub same_value : (a b : Bool) → ((a || (not b || false)) && ((not a || (b || false)) && true)) ≡ true → beq b a ≡ true
same_value true true e = refl
same_value true false e = absurd (false≢true e)
same_value false true e = absurd (false≢true e)
same_value false false e = refl
