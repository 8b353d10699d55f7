-- Two watched literals per clause. Entry 2n and entry 2n+1 are those of the nth clause that was taken over.
use Rattle.std.specs.Prelude.{◌≡◌, ◌<◌, ◌+◌, ◌-◌, ◌*◌, ◌/◌, ◌%◌, ◌==◌, ◌⊎◌, ℕ, Bool, true, false, not, ◌&&◌, if◌then◌else◌, List, [], ◌∷◌, ◌++◌, length, slice_index, slice_index_or, slice_set, Option, Some, None}
use Rattle.std.specs.List.{list_any}
use Rattle.sat_lits.specs.InLits.{same_lit}
use Rattle.sat_lits.specs.declared.literal.InLit.{InLit}
use Rattle.sat_lits.specs.declared.literal.ClauseId.{ClauseId}
use Rattle.trail.specs.declared.trail.Step.{Step}
use Rattle.trail.specs.Trail.{false_in}
use Rattle.propagate.specs.declared.watches.Taken.{Taken}
use Rattle.propagate.specs.Watching.{taken_at}
use Rattle.propagate.specs.Chains.{AreChains}

-- whether an entry stands in a list
abbrev pub Has : ℕ → List ℕ → Type 0
Has e [] = ⊥
Has e (d ∷ ds) = (d ≡ e) ⊎ Has e ds

-- what is read where no literal is watched, and where no clause was taken over
abbrev pub no_lit : InLit
no_lit = record { var = record { 0 = 0 }; negative = false }

abbrev pub no_taken : Taken
no_taken = record { id = record { 0 = 0 }; lits = [] }

-- a number for each literal
abbrev pub code_of : InLit → ℕ
code_of l = 2 * l.var.0 + (if l.negative then 1 else 0)

-- the literal of an entry
abbrev pub watch_at : List InLit → ℕ → InLit
watch_at watched e = slice_index_or watched e no_lit

-- the number of that literal, which is the entry's key
abbrev pub key_in : List InLit → ℕ → ℕ
key_in watched e = code_of (watch_at watched e)

-- the other entry of the same clause
abbrev pub other_of : ℕ → ℕ
other_of e = if e % 2 == 0 then e + 1 else e - 1

-- the literals of a clause that was taken over, if there is one
abbrev pub lits_in : Option Taken → List InLit
lits_in None = []
lits_in (Some t) = t.lits

-- the id of the clause of an entry
abbrev pub id_of : List Taken → ℕ → ClauseId
id_of taken e = (slice_index_or taken (e / 2) no_taken).id

-- its literals
abbrev pub clause_of : List Taken → ℕ → List InLit
clause_of taken e = lits_in (taken_at taken (id_of taken e).0)

-- whether the clause of an entry is looked at whole
abbrev pub is_whole : List Bool → ℕ → Bool
is_whole whole e = slice_index_or whole (e / 2) true

-- what is watched, in chains by literal: each clause that is not looked at whole has two different literals watched, and each of the two entries stands in the chain of its literal
pub record AreWatched (heads next : List ℕ) (watched : List InLit) (taken : List Taken) (whole : List Bool) : Type 0 where
  pub lists : ℕ → List ℕ
  pub chains : AreChains heads next (key_in watched) lists
  pub long : length next ≡ 2 * length taken
  pub same : length watched ≡ 2 * length taken
  pub flags : length whole ≡ length taken
  pub there : (e : ℕ) → e < 2 * length taken → is_whole whole e ≡ false → Has e (lists (key_in watched e))
  pub within : (e : ℕ) → e < 2 * length taken → is_whole whole e ≡ false → list_any (same_lit (watch_at watched e)) (clause_of taken e) ≡ true
  pub apart : (e : ℕ) → e < 2 * length taken → is_whole whole e ≡ false → same_lit (watch_at watched e) (watch_at watched (other_of e)) ≡ false
  pub only : (k e : ℕ) → Has e (lists k) → is_whole whole e ≡ false

-- a word is 0 before the first entry of a list, and else the last one of a front plus one
pub record EndsWith (before : ℕ) (front : List ℕ) : Type 0 where
  pub init : List ℕ
  pub last : ℕ
  pub parts : front ≡ init ++ last ∷ []
  pub word : before ≡ last + 1

-- or no front comes before it
abbrev pub EndsAt : ℕ → List ℕ → Type 0
EndsAt before front = ((before ≡ 0) × (front ≡ [])) ⊎ EndsWith before front

-- the words after an entry was cut out of its chain
abbrev pub cut_heads : List ℕ → List ℕ → ℕ → ℕ → ℕ → List ℕ
cut_heads heads next key before place = if before == 0 then slice_set heads key (slice_index next place) else heads

abbrev pub cut_next : List ℕ → ℕ → ℕ → List ℕ
cut_next next before place = if before == 0 then next else slice_set next (before - 1) (slice_index next place)

-- whether a literal is one of a list, is not false, and is not a given one
abbrev pub open_but : List Step → InLit → List InLit → InLit → Bool
open_but steps other lits l = list_any (same_lit l) lits && (not (false_in steps l) && not (same_lit other l))

-- the negation of a literal
abbrev pub negated : InLit → InLit
negated l = record { var = l.var; negative = not l.negative }
