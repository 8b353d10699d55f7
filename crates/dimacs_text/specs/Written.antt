-- The texts that are written, side by side.
use Rattle.std.specs.Prelude.{ℕ, suc, ◌≡◌, ◌^◌, ◌<◌, List, [], ◌++◌, length}
use Rattle.std.specs.List.{AllByRecursion, flat_map}
use Rattle.sat_lits.specs.declared.literal.Lit.{Lit}
use Rattle.sat_lits.specs.declared.shared.Shared.{Shared}
use Rattle.sat_lits.specs.declared.verdict.Verdict.{Verdict}
use Rattle.sat_lits.specs.declared.verdict.Verdict.TheVariants.{Sat, Unsat}
use Rattle.dimacs_text.specs.Texts.{text_of_verdict, text_of_limit, text_of_alarm, text_of_shared, text_of_refusal, place_of}
use Rattle.dimacs_text.specs.declared.refusal.Refusal.{Refusal}

-- what a text is written for: one case for each kind of text
pub data Written : Type 0 where
  OfVerdict : Verdict → Written
  OfLimit : List ℕ → Written
  OfAlarm : Written
  OfShared : Shared → Written
  OfRefusal : Refusal → Written

-- its text
abbrev pub text_of : Written → List ℕ
text_of (OfVerdict verdict) = text_of_verdict verdict
text_of (OfLimit counts) = text_of_limit counts
text_of OfAlarm = text_of_alarm
text_of (OfShared entry) = text_of_shared entry
text_of (OfRefusal refusal) = text_of_refusal refusal

-- the number of each literal's variable has 64 bits
abbrev pub LiteralsFit : List Lit → Type 0
LiteralsFit lits = AllByRecursion (λ lit. suc lit.var.0 < 2 ^ 64) lits

-- the numbers of variables in a verdict's text have 64 bits
abbrev pub NumbersFit : Verdict → Type 0
NumbersFit (Sat values) = length values < 2 ^ 64
NumbersFit (Unsat failed) = LiteralsFit failed

-- each number in a text has 64 bits
abbrev pub EachFits : Written → Type 0
EachFits (OfVerdict verdict) = NumbersFit verdict
EachFits (OfLimit counts) = AllByRecursion (λ count. count < 2 ^ 64) counts
EachFits OfAlarm = Unit {0}
EachFits (OfShared entry) = (entry.solver < 2 ^ 64) × (entry.after < 2 ^ 64) × LiteralsFit entry.clause
EachFits (OfRefusal refusal) = place_of refusal < 2 ^ 64

-- a text that another begins with is that other, and was written for the same
abbrev pub NoProperFront : Type 0
NoProperFront = (a b : Written) (rest : List ℕ) → EachFits a → EachFits b → text_of b ≡ text_of a ++ rest → (a ≡ b) × (rest ≡ [])

-- the text of a verdict says which verdict it is
abbrev pub TellsVerdict : Type 0
TellsVerdict = (v w : Verdict) → NumbersFit v → NumbersFit w → text_of_verdict v ≡ text_of_verdict w → v ≡ w

-- texts that are written one after another say what they were written for, in order
abbrev pub TellsEach : Type 0
TellsEach = (ws vs : List Written) → AllByRecursion EachFits ws → AllByRecursion EachFits vs → flat_map text_of ws ≡ flat_map text_of vs → ws ≡ vs
