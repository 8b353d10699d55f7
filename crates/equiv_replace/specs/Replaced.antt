-- What replacing variables does to a state, and what it keeps on the way.
use Rattle.std.specs.Prelude.{◌≡◌, ◌<◌, ◌≤◌, ℕ, ◌+◌, ◌*◌, ◌/◌, Bool, true, false, List, ◌++◌, Some, length, slice_index, count_by}
use Rattle.std.specs.List.{list_all}
use Rattle.sat_lits.specs.declared.literal.Own.{Own}
use Rattle.rebuild_stack.specs.Values.{own_value}
use Rattle.rebuild_stack.specs.declared.entry.Entry.{Entry}
use Rattle.rebuild_stack.specs.declared.entry.Entry.TheVariants.{Fix, Equal, Gone}
use Rattle.var_maps.specs.Maps.{Maps, Matched, owner_at}
use Rattle.state_laws.specs.Conditions.{Satisfies}
use Rattle.state_laws.specs.Held.{own_of}
use Rattle.state_laws.specs.Kernel.{Kernel, state_of, Standing}
use Rattle.equiv_replace.specs.Graphs.{HasEdge, Leads, AreOnCycle, AreRoots}
use Rattle.equiv_replace.specs.Nodes.{lit_of, flipped, TellsClauses}

-- whether the entry replaces its variable
abbrev pub is_equal : Entry → Bool
is_equal (Fix l) = false
is_equal (Equal v l) = true
is_equal (Gone v cs) = false

-- this many variables were replaced, each by an entry of its own, and are not active any more; where there is none and the state is okay, it is the same
pub record Replaced (old new : Kernel) (count : ℕ) : Type 0 where
  pub entries : List Entry
  pub stack : new.stack ≡ old.stack ++ entries
  pub equal : list_all is_equal entries ≡ true
  pub number : length entries ≡ count
  pub fewer : count_by (λ b. b) (state_of new).active + count ≡ count_by (λ b. b) (state_of old).active
  pub same : count ≡ 0 → new.okay ≡ true → new ≡ old

-- only replacements were pushed, and no variable came back
pub record OnlyReplaced (old new : Kernel) : Type 0 where
  pub entries : List Entry
  pub stack : new.stack ≡ old.stack ++ entries
  pub equal : list_all is_equal entries ≡ true
  pub fewer : count_by (λ b. b) (state_of new).active ≤ count_by (λ b. b) (state_of old).active

-- the graph of a state's binary clauses, and what is known of the state
pub record IsGraphOf (k : Kernel) (g : List (List ℕ)) : Type 0 where
  pub standing : Standing k
  pub matched : Matched k.maps
  pub tells : TellsClauses g k.store.held
  pub long : length g ≡ 2 * length k.maps.owners

-- an inner number is in use
abbrev pub IsUsed : Maps → ℕ → Type 0
IsUsed m i = (v : Own) × (owner_at m i ≡ Some v)

-- the variable of a variable's root
abbrev pub root_var : List ℕ → ℕ → ℕ
root_var roots i = slice_index roots (2 * i) / 2

-- a variable and its opposite have one root
abbrev pub HasOpposites : List ℕ → Type 0
HasOpposites roots = (v : ℕ) × (2 * v + 1 < length roots) × (slice_index roots (2 * v) ≡ slice_index roots (2 * v + 1))

-- what is kept while the variables below a number were replaced by their roots
pub record IsReplacing (roots : List ℕ) (var : ℕ) (k : Kernel) : Type 0 where
  pub graph : List (List ℕ)
  pub rooted : AreRoots graph roots
  pub mirrored : (a b : ℕ) → Leads graph a b → Leads graph (flipped b) (flipped a)
  pub ends : (a b : ℕ) → HasEdge graph a b → root_var roots (b / 2) ≡ b / 2 → IsUsed k.maps (b / 2)
  pub same : (w : ℕ → Bool) → Satisfies (state_of k) w → (a b : ℕ) → IsUsed k.maps (a / 2) → IsUsed k.maps (b / 2) → AreOnCycle graph a b → own_value w (own_of k.maps (lit_of a)) ≡ own_value w (own_of k.maps (lit_of b))
  pub done : (i : ℕ) → i < var → IsUsed k.maps i → root_var roots i ≡ i
