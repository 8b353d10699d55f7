-- Headers.
use Rattle.std.specs.Prelude.{ℕ, ◌+◌, Bool, true, false, List, [], ◌∷◌, Option, Some, None, nat_le, length, codes}
use Rattle.sat_lits.specs.Limits.{LimitNumbers}
use Rattle.dimacs_text.specs.Walk.{Turn, Next, Stop, walk, word}
use Rattle.dimacs_text.specs.Tokens.{is_judged, number}
use Rattle.dimacs_text.specs.Comments.{behind}
use Rattle.dimacs_text.specs.Lists.{End, Refused, Open, cut_short}
use Rattle.dimacs_text.specs.declared.phrase.Wanted.{Wanted}
use Rattle.dimacs_text.specs.declared.phrase.Wanted.TheVariants.{Format, Variables, Clauses}
use Rattle.dimacs_text.specs.declared.refusal.Refusal.TheVariants.{BadToken, VarTooLarge}

-- the number of variables of a header and the place after it, or what comes instead
pub data Header : Type 0 where
  Headed : ℕ → ℕ → Header
  NoHeader : End → Header

-- the word `cnf`, with what follows it in its token
unfoldable pub format_met : ℕ → ℕ → Option (List ℕ) → Turn Wanted Header
format_met place after (Some []) = Next after Variables
format_met place after (Some (b ∷ bs)) = Stop (NoHeader (Refused (BadToken place)))
format_met place after None = Stop (NoHeader (Refused (BadToken place)))

-- the number of variables
unfoldable pub variables_met : LimitNumbers → ℕ → ℕ → Option ℕ → Turn Wanted Header
variables_met limits place after None = Stop (NoHeader (Refused (BadToken place)))
variables_met limits place after (Some vars) = elim (nat_le vars limits.vars) [ true ↦ Next after (Clauses vars) | false ↦ Stop (NoHeader (Refused (VarTooLarge place))) ]

-- the number of clauses
unfoldable pub clauses_met : ℕ → ℕ → ℕ → Option ℕ → Turn Wanted Header
clauses_met place after vars None = Stop (NoHeader (Refused (BadToken place)))
clauses_met place after vars (Some clauses) = Stop (Headed vars after)

-- a token of a header from one place to another
unfoldable pub header_met : LimitNumbers → ℕ → ℕ → Wanted → List ℕ → Turn Wanted Header
header_met limits place after Format token = format_met place after (behind (codes "cnf") token)
header_met limits place after Variables token = variables_met limits place after (number token)
header_met limits place after (Clauses vars) token = clauses_met place after vars (number token)

-- the token at the front of a text, where a header is open
unfoldable pub header_turn : Bool → LimitNumbers → ℕ → Wanted → List ℕ → Turn Wanted Header
header_turn whole limits place wanted text = elim (is_judged whole text) [
  | true ↦ header_met limits place (place + length (word text)) wanted (word text)
  | false ↦ Stop (NoHeader Open)
]

-- the text ends where a header is open
unfoldable pub header_end : Bool → ℕ → Wanted → Header
header_end whole place wanted = NoHeader (cut_short whole place)

-- an open header, from the place `next` on, in a text that begins at another place
unfoldable pub header : Bool → LimitNumbers → ℕ → ℕ → Wanted → List ℕ → Header
header whole limits next place wanted text = walk (header_turn whole limits) (header_end whole) next place wanted text
