-- The text that is written.
use Rattle.std.specs.Prelude.{ℕ, suc, Bool, not, List, [], ◌++◌, codes, if◌then◌else◌}
use Rattle.std.specs.Fmt.{decimal}
use Rattle.std.specs.List.{enumerate_from, flat_map}
use Rattle.sat_lits.specs.declared.literal.Lit.{Lit}
use Rattle.sat_lits.specs.declared.shared.Shared.{Shared}
use Rattle.sat_lits.specs.declared.verdict.Verdict.{Verdict}
use Rattle.sat_lits.specs.declared.verdict.Verdict.TheVariants.{Sat, Unsat}
use Rattle.dimacs_text.specs.declared.refusal.Refusal.{Refusal}
use Rattle.dimacs_text.specs.declared.refusal.Refusal.TheVariants.{BadToken, VarTooLarge, TooManyLits, Truncated, TooLong}

-- a blank and a literal: the number of its variable, counted from 1, behind a minus where it is negative
abbrev pub literal_text : Bool → ℕ → List ℕ
literal_text negative var = codes " " ++ (if negative then codes "-" else []) ++ decimal (suc var)

-- for each variable in order the literal that its value makes true
abbrev pub values_text : List Bool → List ℕ
values_text values = flat_map (λ entry. literal_text (not entry.1) entry.0) (enumerate_from 0 values)

-- literals in order
abbrev pub literals_text : List Lit → List ℕ
literals_text lits = flat_map (λ lit. literal_text lit.negative lit.var.0) lits

-- counts in order, each behind a blank
abbrev pub counts_text : List ℕ → List ℕ
counts_text counts = flat_map (λ count. codes " " ++ decimal count) counts

-- the lines that report a verdict
abbrev pub text_of_verdict : Verdict → List ℕ
text_of_verdict (Sat values) = codes "s SATISFIABLE\nv" ++ values_text values ++ codes " 0\n"
text_of_verdict (Unsat failed) = codes "s UNSATISFIABLE\nc failed" ++ literals_text failed ++ codes " 0\n"

-- the lines that report a spent conflict limit, with these counts
abbrev pub text_of_limit : List ℕ → List ℕ
text_of_limit counts = codes "s INDETERMINATE\nc limit" ++ counts_text counts ++ codes "\n"

-- the lines that report an alarm
abbrev pub text_of_alarm : List ℕ
text_of_alarm = codes "s INDETERMINATE\nc alarm\n"

-- the front of the line of a clause that solvers share: who gave it, and behind how many entries
abbrev pub giver_text : ℕ → ℕ → List ℕ
giver_text solver after = codes "c shared " ++ decimal solver ++ codes " " ++ decimal after

-- the line of a clause that solvers share
abbrev pub text_of_shared : Shared → List ℕ
text_of_shared entry = giver_text entry.solver entry.after ++ literals_text entry.clause ++ codes " 0\n"

-- the word for a refusal
abbrev pub word_of : Refusal → List ℕ
word_of (BadToken place) = codes "bad-token"
word_of (VarTooLarge place) = codes "var-too-large"
word_of (TooManyLits place) = codes "too-many-lits"
word_of (Truncated place) = codes "truncated"
word_of (TooLong place) = codes "too-long"

-- the place of a refusal, in bytes from the start of the text
abbrev pub place_of : Refusal → ℕ
place_of (BadToken place) = place
place_of (VarTooLarge place) = place
place_of (TooManyLits place) = place
place_of (Truncated place) = place
place_of (TooLong place) = place

-- the line that reports a refusal
abbrev pub text_of_refusal : Refusal → List ℕ
text_of_refusal why = codes "c refused " ++ word_of why ++ codes " " ++ decimal (place_of why) ++ codes "\n"
