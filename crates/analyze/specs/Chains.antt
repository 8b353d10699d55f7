-- Which variables marked ones imply along chains of reasons.
use Rattle.std.specs.Prelude.{◌≡◌, ◌≤◌, ◌<◌, ◌+◌, ◌*◌, ℕ, ◌==◌, Bool, true, false, not, ◌||◌, List, [], ◌∷◌, ◌++◌, length, take, filter, All, Option, Some, None}
use Rattle.std.specs.List.{list_all}
use Rattle.sat_lits.specs.declared.literal.Inner.{Inner}
use Rattle.sat_lits.specs.declared.literal.InLit.{InLit}
use Rattle.sat_lits.specs.declared.literal.ClauseId.{ClauseId}
use Rattle.trail.specs.declared.trail.Step.{Step}
use Rattle.trail.specs.Trail.{Assignment, IsKept, reason_in}
use Rattle.clause_store.specs.Store.{Held}
use Rattle.propagate.specs.Reasons.{names}
use Rattle.analyze.specs.declared.chains.Chains.{Chains}
use Rattle.analyze.specs.declared.chains.Link.{Link}
use Rattle.analyze.specs.Marking.{Marking, is_marked, is_root}

-- whether a variable is marked or implied
abbrev pub either : (ℕ → Bool) → (ℕ → Bool) → ℕ → Bool
either seen implied v = seen v || implied v

-- whether the variable of a literal is settled, or of level 0
abbrev pub is_settled : (ℕ → Bool) → List Step → InLit → Bool
is_settled settled steps l = settled l.var.0 || is_root steps l.var.0

-- whether there is a reason that has no literal that is neither
abbrev pub leaves_settled : List Held → List Step → (ℕ → Bool) → Option ClauseId → Bool
leaves_settled held steps settled None = false
leaves_settled held steps settled (Some id) = names held id (list_all (is_settled settled steps))

-- each implied variable has a reason all of whose literals are marked, implied or of level 0; since reasons name older steps, this goes round in no circle
abbrev pub AreImplied : List Held → List Step → (ℕ → Bool) → (ℕ → Bool) → Type 0
AreImplied held steps seen implied = (v : ℕ) → implied v ≡ true → leaves_settled held steps (either seen implied) (reason_in steps v) ≡ true

-- what stands between two chains
pub record AtChains (held : List Held) (trail : Assignment) (seen : ℕ → Bool) (chains : Chains) : Type 0 where
  pub kept : IsKept trail
  pub room : trail.reserved ≤ chains.implied.room
  pub looked_room : trail.reserved ≤ chains.looked.room
  pub implied : AreImplied held trail.steps seen (is_marked chains.implied)

-- whether a variable is a link's own, settled, or of level 0
abbrev pub own_or_settled : (ℕ → Bool) → List Step → ℕ → ℕ → Bool
own_or_settled settled steps own v = v == own || (settled v || is_root steps v)

-- a link has the reason of its variable, and passed literals that are its own or settled
pub record Fits (held : List Held) (steps : List Step) (settled : ℕ → Bool) (link : Link) : Type 0 where
  pub has_reason : reason_in steps link.var.0 ≡ Some link.reason
  pub passed : names held link.reason (λ c. list_all (λ l. own_or_settled settled steps link.var.0 l.var.0) (take link.passed c)) ≡ true

-- all literals of a link's reason are its own or settled
abbrev pub IsPassedWhole : List Held → List Step → (ℕ → Bool) → Link → Type 0
IsPassedWhole held steps settled link = names held link.reason (list_all (λ l. own_or_settled settled steps link.var.0 l.var.0)) ≡ true

-- what stands within a chain
pub record InChain (held : List Held) (trail : Assignment) (seen : ℕ → Bool) (chains : Chains) : Type 0 where
  pub at : AtChains held trail seen chains
  pub fit : All (Fits held trail.steps (either seen (is_marked chains.implied))) chains.links.items

-- how many steps have a variable whose reason was not looked at
abbrev pub unlooked : List Step → Marking → ℕ
unlooked steps looked = length (filter (λ s. not (is_marked looked s.lit.var.0)) steps)

-- so many moves are left in a chain at most
abbrev pub left_over : List Step → Chains → ℕ
left_over steps chains = 2 * unlooked steps chains.looked + length chains.links.items

-- a new link stands at the end, of a variable that was not looked at
pub record HasLinked (steps : List Step) (var : Inner) (old new : Chains) : Type 0 where
  pub link : Link
  pub links : new.links.items ≡ old.links.items ++ link ∷ []
  pub has_reason : reason_in steps link.var.0 ≡ Some link.reason
  pub from_front : link.passed ≡ 0
  pub implied : new.implied ≡ old.implied
  pub room : new.looked.room ≡ old.looked.room
  pub fewer : unlooked steps new.looked < unlooked steps old.looked

-- a link was begun, or nothing changed
abbrev pub HasBegun : List Step → Inner → Chains → Chains → Bool → Type 0
HasBegun steps var old new true = HasLinked steps var old new
HasBegun steps var old new false = new ≡ old
