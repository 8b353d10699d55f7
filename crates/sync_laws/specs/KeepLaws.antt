-- Each move keeps what is met, and so do changes one after another.
use Rattle.std.proofs.Common.{◌≡◌, ℕ, true, false, List, Option, refl, sym, ap, subst, ◌∙◌, not, All, ◌∷◌, replicate, [], None}
use Rattle.std.proofs.lemmas.Bool.{false≢true}
use Rattle.std.specs.List.{list_all}
use Rattle.sat_lits.specs.declared.literal.Lit.{Lit}
use Rattle.sat_lits.specs.declared.literal.Own.{Own}
use Rattle.sat_lits.specs.declared.literal.OwnLit.{OwnLit}
use Rattle.sat_lits.specs.declared.formula.Item.{Item}
use Rattle.sat_lits.specs.declared.shared.Shared.{Shared}
use Rattle.rebuild_stack.specs.Entries.{is_gone, named}
use Rattle.rebuild_stack.specs.PutIn.{is_clean}
use Rattle.rebuild_stack.specs.declared.entry.Entry.{Entry}
use Rattle.state_laws.specs.declared.definition.Definition.{Definition}
use Rattle.state_laws.specs.State.{State}
use Rattle.state_laws.specs.Resolution.{mentions}
use Rattle.state_laws.specs.Stands.{IsPlaced}
use Rattle.state_laws.specs.Moves.{put_into, eliminated, restored, taking, taken, learning, with_learned, with_hard, extended, grown, refuted}
use Rattle.state_laws.specs.Conditions.{Restorable}
use Rattle.state_laws.specs.Kernel.{Kernel, state_of, plain_kernel}
use Rattle.sync_laws.specs.Met.{KeepsMet, are_subsumed}
use Rattle.sync_laws.specs.Told.{IsToldClause}
use Rattle.sync_laws.specs.ToldLaws.{told_from, told_fewer, told_filter, told_remove}
use Rattle.sync_laws.specs.MetLaws.{put_into-IsMet, eliminated-IsMet, restored-IsMet, taking-IsMet, taken-IsMet, learning-IsMet, with_learned-IsMet, with_hard-IsMet, extended-IsMet, grown-IsMet, refuted-IsMet}

-- where nothing changes
pub keeps_refl : (s : State) → KeepsMet s s
keeps_refl s = record { met = λ c m. m; entries = refl; okay = λ o. o; told = λ log h. h }

-- one change after another
pub keeps_trans : (s t u : State) → KeepsMet s t → KeepsMet t u → KeepsMet s u
keeps_trans s t u a b = record { met = λ c m. b.met c (a.met c m); entries = b.entries ∙ a.entries; okay = λ o. a.okay (b.okay o); told = λ log h. b.told log (a.told log h) }

-- where the new state is one to which a change keeps
pub keeps_as : (s t u : State) → u ≡ t → KeepsMet s t → KeepsMet s u
keeps_as s t u e k = subst (λ (z : State). KeepsMet s z) (sym e) k

-- where it is the old one
pub keeps_same : (s t : State) → t ≡ s → KeepsMet s t
keeps_same s t e = keeps_as s s t e (keeps_refl s)

-- or where the room alone is another
pub plain-KeepsMet : (k n : Kernel) → plain_kernel n ≡ plain_kernel k → KeepsMet (state_of k) (state_of n)
plain-KeepsMet k n e = keeps_same (state_of k) (state_of n) (ap state_of e)

-- an entry that fixes or replaces a variable is put in
pub put_into-KeepsMet : (e : Entry) (s : State) → is_gone e ≡ false → KeepsMet s (put_into e s)
put_into-KeepsMet e s g = record { met = λ c m. put_into-IsMet e s c g m; entries = refl; okay = λ o. o; told = λ log. told_fewer s (put_into e s) refl log (told_filter s log (λ c. not (mentions (named e) c))) (λ h. h) }

-- a variable is eliminated
pub eliminated-KeepsMet : (v : Own) (s : State) → list_all is_clean s.hard ≡ true → KeepsMet s (eliminated v s)
eliminated-KeepsMet v s h = record { met = λ c m. eliminated-IsMet v s c h m; entries = refl; okay = λ o. o; told = λ log. told_fewer s (eliminated v s) refl log (told_filter s log (λ c. not (mentions v.0 c))) (λ a. a) }

-- a variable is restored
pub restored-KeepsMet : (at : ℕ) (v : Own) (cs : List (List OwnLit)) (s : State) → Restorable s at v cs → IsPlaced s → KeepsMet s (restored at v cs s)
restored-KeepsMet at v cs s r p = record { met = λ c m. restored-IsMet at v cs s c r p m; entries = refl; okay = λ o. o; told = λ log. told_fewer s (restored at v cs s) refl log (λ a. a) (told_remove s log at) }

-- an item is taken with clauses that stand for it
pub taking-KeepsMet : (item : Item) (cs : List (List OwnLit)) (s : State) → KeepsMet s (taking item cs s)
taking-KeepsMet item cs s = record { met = λ c m. taking-IsMet item cs s c m; entries = refl; okay = λ o. o; told = λ log. told_fewer s (taking item cs s) refl log (λ a. a) (λ a. a) }

-- a clause is taken as an item
pub taken-KeepsMet : (d : List Lit) (s : State) → KeepsMet s (taken d s)
taken-KeepsMet d s = record { met = λ c m. taken-IsMet d s c m; entries = refl; okay = λ o. o; told = λ log. told_fewer s (taken d s) refl log (λ a. a) (λ a. a) }

-- a clause is learned
pub learning-KeepsMet : (d : List OwnLit) (s : State) → KeepsMet s (learning d s)
learning-KeepsMet d s = record { met = λ c m. learning-IsMet d s c m; entries = refl; okay = λ o. o; told = λ log. told_fewer s (learning d s) refl log (λ a. a) (λ a. a) }

-- the learned clauses become others
pub with_learned-KeepsMet : (cs ms : List (List OwnLit)) (s : State) → ((log : List Shared) → All (IsToldClause s log) s.marked_learned → All (IsToldClause s log) ms) → KeepsMet s (with_learned cs ms s)
with_learned-KeepsMet cs ms s f = record { met = λ c m. with_learned-IsMet cs ms s c m; entries = refl; okay = λ o. o; told = λ log. told_fewer s (with_learned cs ms s) refl log (f log) (λ a. a) }

-- the hard clauses become others, of which each old one has all literals of one
pub with_hard-KeepsMet : (cs : List (List OwnLit)) (s : State) → are_subsumed s.hard cs ≡ true → KeepsMet s (with_hard cs s)
with_hard-KeepsMet cs s h = record { met = λ c m. with_hard-IsMet cs s c h m; entries = refl; okay = λ o. o; told = λ log. told_fewer s (with_hard cs s) refl log (λ a. a) (λ a. a) }

-- an own variable is made
pub extended-KeepsMet : (d : Option Definition) (cs : List (List OwnLit)) (s : State) → KeepsMet s (extended d cs s)
extended-KeepsMet d cs s = record { met = λ c m. extended-IsMet d cs s c m; entries = refl; okay = λ o. o; told = λ log. told_from s (extended d cs s) (d ∷ []) refl log (λ a. a) (λ a. a) }

-- outer variables are made
pub grown-KeepsMet : (more : ℕ) (s : State) → KeepsMet s (grown more s)
grown-KeepsMet more s = record { met = λ c m. grown-IsMet more s c m; entries = refl; okay = λ o. o; told = λ log. told_from s (grown more s) (replicate more None) refl log (λ a. a) (λ a. a) }

-- the state is refuted
pub refuted-KeepsMet : (s : State) → KeepsMet s (refuted s)
refuted-KeepsMet s = record { met = λ c m. refuted-IsMet s c m; entries = refl; okay = λ o. absurd (false≢true o); told = λ log. told_fewer s (refuted s) refl log (λ a. a) (λ a. a) }

-- the same of a kernel in which an entry is put that fixes or replaces a variable
pub pushed-KeepsMet : (k n : Kernel) (e : Entry) → is_gone e ≡ false → state_of n ≡ put_into e (state_of k) → KeepsMet (state_of k) (state_of n)
pushed-KeepsMet k n e g h = keeps_as (state_of k) (put_into e (state_of k)) (state_of n) h (put_into-KeepsMet e (state_of k) g)

-- and of one that is refuted
pub refuting-KeepsMet : (k n : Kernel) → n ≡ record k { okay = false } → KeepsMet (state_of k) (state_of n)
refuting-KeepsMet k n e = keeps_as (state_of k) (refuted (state_of k)) (state_of n) (ap state_of e) (refuted-KeepsMet (state_of k))
