-- What the clauses of eliminated variables need.
use Rattle.std.specs.Prelude.{◌≡◌, ℕ, ◌==◌, Bool, true, false, not, ◌||◌, List, Some, None, cond}
use Rattle.std.specs.declared.option.Option.{Option}
use Rattle.std.specs.List.{list_all, list_any}
use Rattle.sat_lits.specs.declared.literal.Own.{Own}
use Rattle.sat_lits.specs.declared.literal.OwnLit.{OwnLit}
use Rattle.rebuild_stack.specs.Entries.{is_block_of}
use Rattle.rebuild_stack.specs.Roots.{root, is_lost}
use Rattle.rebuild_stack.specs.declared.entry.Entry.{Entry}
use Rattle.rebuild_stack.specs.declared.entry.Entry.TheVariants.{Fix, Equal, Gone}
use Rattle.rebuild_stack.specs.declared.entry.Root.{Root}
use Rattle.rebuild_stack.specs.declared.entry.Root.TheVariants.{Known, Last, Lost}

-- whether a variable is one of these
abbrev pub is_among : List Own → ℕ → Bool
is_among vars k = list_any (λ v. v.0 == k) vars

-- whether all these variables pass
abbrev pub all_pass : (ℕ → Bool) → List Own → Bool
all_pass p vars = list_all (λ v. p v.0) vars

-- whether none of these variables is eliminated
abbrev pub none_gone : List Entry → List Own → Bool
none_gone s vars = list_all (λ v. not (list_any (is_block_of v) s)) vars

-- whether a literal came to no eliminated variable but one that passes
abbrev pub leads_to : (ℕ → Bool) → Root → Bool
leads_to p (Known x) = true
leads_to p (Last l) = true
leads_to p (Lost v) = p v.0

-- whether all literals of a clause do
abbrev pub clause_leads : List Entry → List OwnLit → (ℕ → Bool) → Bool
clause_leads s c p = list_all (λ l. leads_to p (root s l)) c

-- and those of all clauses
abbrev pub block_leads : List Entry → List (List OwnLit) → (ℕ → Bool) → Bool
block_leads s cs p = list_all (λ c. clause_leads s c p) cs

-- whether what the clauses of an entry need passes, where the entry's variable does
abbrev pub hands_on : (ℕ → Bool) → List Entry → Entry → Bool
hands_on p s (Fix l) = true
hands_on p s (Equal v l) = true
hands_on p s (Gone v cs) = not (p v.0) || block_leads s cs p

-- the same of each entry
abbrev pub is_closed : (ℕ → Bool) → List Entry → Bool
is_closed p s = list_all (hands_on p s) s

-- the variables that must come back so that these can: all of these, with each also what its clauses need, and no more
pub record AreNeeded (vars : List Own) (s : List Entry) (m : ℕ → Bool) : Type 0 where
  pub all : all_pass m vars ≡ true
  pub closed : is_closed m s ≡ true
  pub least : (p : ℕ → Bool) → all_pass p vars ≡ true → is_closed p s ≡ true → (k : ℕ) → m k ≡ true → p k ≡ true

-- marks grew by what is needed so that a test passes them, and by no more
pub record GrowsFor (needs : (ℕ → Bool) → Bool) (from to : ℕ → Bool) : Type 0 where
  pub grows : (k : ℕ) → from k ≡ true → to k ≡ true
  pub met : needs to ≡ true
  pub least : (p : ℕ → Bool) → ((k : ℕ) → from k ≡ true → p k ≡ true) → needs p ≡ true → (k : ℕ) → to k ≡ true → p k ≡ true

-- the variable of an entry, where the entry does not stay
abbrev pub marked_block : (ℕ → Bool) → Entry → Option Own
marked_block m (Fix l) = None
marked_block m (Equal v l) = None
marked_block m (Gone v cs) = cond (m v.0) (Some v) None

-- a literal that came to no eliminated variable but one of these comes to none now
abbrev pub AreFree : List Own → List Entry → List Entry → Type 0
AreFree vars s t = (l : OwnLit) → leads_to (is_among vars) (root s l) ≡ true → is_lost (root t l) ≡ false
