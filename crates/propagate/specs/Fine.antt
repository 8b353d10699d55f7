-- What watches keep of a trail that may go back at any place.
use Rattle.std.specs.Prelude.{◌≡◌, ◌<◌, ◌≤◌, ◌*◌, ℕ, Bool, true, false, List, length, min, slice_index, slice_index_or}
use Rattle.std.specs.List.{list_any}
use Rattle.sat_lits.specs.InLits.{same_lit, opposite}
use Rattle.sat_lits.specs.declared.literal.InLit.{InLit}
use Rattle.propagate.specs.declared.watches.Taken.{Taken}
use Rattle.propagate.specs.Watched.{no_lit, watch_at, clause_of, is_whole}

-- for each literal that is done with there is a place, up to it and not falling, from which literals are walked again where the trail goes back to it; the literals before a place are walked
pub record IsMarked (done : List InLit) (starts : List ℕ) (walked : ℕ) : Type 0 where
  pub same : length starts ≡ length done
  pub low : (q : ℕ) → q < length starts → slice_index starts q ≤ q
  pub rise : (q r : ℕ) → q ≤ r → r < length starts → slice_index starts q ≤ slice_index starts r
  pub within : walked ≤ length done

-- a literal that is done with makes a clause true, and stays as long as the literal at a place is walked
pub record IsTold (done : List InLit) (starts : List ℕ) (clause : List InLit) (p : ℕ) : Type 0 where
  pub at : ℕ
  pub below : at < length done
  pub early : slice_index starts at ≤ p
  pub holds : list_any (same_lit (slice_index_or done at no_lit)) clause ≡ true

-- where a walked literal makes a watched one false, its clause is told to be true
abbrev pub IsFine : List InLit → List ℕ → ℕ → List InLit → InLit → Type 0
IsFine done starts walked clause watch = (p : ℕ) → p < walked → opposite (slice_index_or done p no_lit) watch ≡ true → IsTold done starts clause p

-- so for each watched literal
abbrev pub AllFine : List InLit → List ℕ → ℕ → List Taken → List Bool → List InLit → Type 0
AllFine done starts walked taken whole watched = (e : ℕ) → e < 2 * length taken → is_whole whole e ≡ false → IsFine done starts walked (clause_of taken e) (watch_at watched e)

-- the places from which literals are walked again, after all of a number are done with
pub record IsLater (starts more : List ℕ) (walked n : ℕ) : Type 0 where
  pub len : length more ≡ n
  pub old : (q : ℕ) → q < length starts → slice_index more q ≡ min (slice_index starts q) walked
  pub new : (q : ℕ) → length starts ≤ q → q < n → slice_index more q ≡ walked
