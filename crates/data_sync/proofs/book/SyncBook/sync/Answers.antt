use Rattle.std.proofs.Common.{◌≡◌, ◌∙◌, ℕ, ap, sym, subst, List, length}
use Rattle.std.proofs.lemmas.List.Elements.{All-weaker}
use Rattle.std.specs.List.{All}
use Rattle.sat_lits.specs.declared.shared.Shared.{Shared}
use Rattle.state_laws.specs.State.{State}
use Rattle.state_laws.specs.Kernel.{state_of}
use Rattle.sync_laws.specs.Told.{IsToldEntry}
use Rattle.sync_laws.specs.ToldLaws.{entry_grows, told_grows}
use Rattle.data_sync.specs.Books.{Book}
use Rattle.data_sync.specs.Taking.{AreKnown, AreAway, Reads, HasTried, HasRead}
use Rattle.data_sync.specs.Syncs.{Synced}
use Rattle.data_sync.specs.Giving.{KeepsTurns}
use Rattle.data_sync.specs.GivingLaws.{stays_turns, turns_through}
use Rattle.data_sync.specs.SyncLaws.{known_legal, read_again, reads_through, synced, synced_marked, settled_after}
use Rattle.data_sync.proofs.book.SyncBook.sync.Goals as goal
use Rattle.data_sync.proofs.book.SyncBook.sync.Goals.{After-retry, After-read, After-offer_fixed, After-offer_binaries, In_ok-offer_binaries}

from_end : (s : State) (solver after : ℕ) (old new : List Shared) → after ≡ length old → KeepsTurns s solver after old new → KeepsTurns s solver (length old) old new
from_end s solver after old new e k = subst (λ (n : ℕ). KeepsTurns s solver n old new) e k

-- the entries that waited were tried
tried : (c : After-retry) → HasTried (state_of c.args.state.now) (state_of c.retry.new.state) c.args.store.now c.retry.new.self.cursor c.retry.new.self.waiting 0
tried c = subst (λ (z : List Shared). HasTried (state_of c.args.state.now) (state_of c.retry.new.state) z c.retry.new.self.cursor c.retry.new.self.waiting 0) c.from.ensures.value c.retry.ensures.tried

pub retry-requires-clause-known : goal.retry-requires-clause-known
retry-requires-clause-known c = subst (AreKnown (state_of c.args.state.now)) (sym c.from.ensures.value) (known_legal (state_of c.args.state.now) c.args.store.now c.requires.legal)

pub returns-in_err-again-clause-synced : goal.returns-in_err-again-clause-synced
returns-in_err-again-clause-synced c =
    let s : State = state_of c.args.state.now in
    let t : State = state_of c.retry.new.state in
    let h : HasTried s t c.args.store.now c.retry.new.self.cursor c.retry.new.self.waiting 0 = tried ((goal.at.returns-in_err-again-clause-synced c).After-retry) in
    synced s t c.args.solver c.args.store.now c.args.store.now c.retry.new.self c.requires.legal h.reads h.step (stays_turns t c.args.solver (length c.args.store.now) c.args.store.now) c.requires.step.told

pub read-requires-clause-start : goal.read-requires-clause-start
read-requires-clause-start c =
    let t : State = state_of c.retry.new.state in
    let b : Book = c.retry.new.self in
    subst (λ (z : List Shared). HasRead t t z b.cursor b.waiting) (sym c.from-2.ensures.value)
    (read_again (state_of c.args.state.now) t c.args.store.now b.cursor b.waiting (tried ((goal.at.read-requires-clause-start c).After-retry)) (subst (λ (z : List Shared). AreAway t z b.waiting) c.from.ensures.value c.in_ok-again.ensures.away))

-- and the log was read
walked : (c : After-read) → HasRead (state_of c.retry.new.state) (state_of c.read.new.state) c.args.store.now c.read.new.self.cursor c.read.new.self.waiting
walked c = subst (λ (z : List Shared). HasRead (state_of c.retry.new.state) (state_of c.read.new.state) z c.read.new.self.cursor c.read.new.self.waiting) c.from-2.ensures.value c.read.ensures.walked

taken : (c : After-read) → Reads (state_of c.args.state.now) (state_of c.read.new.state) c.args.store.now
taken c =
    let h : HasTried (state_of c.args.state.now) (state_of c.retry.new.state) c.args.store.now c.retry.new.self.cursor c.retry.new.self.waiting 0 =
    subst (λ (z : List Shared). HasTried (state_of c.args.state.now) (state_of c.retry.new.state) z c.retry.new.self.cursor c.retry.new.self.waiting 0) c.from.ensures.value c.retry.ensures.tried in
    reads_through (state_of c.args.state.now) (state_of c.retry.new.state) (state_of c.read.new.state) c.args.store.now h.reads (walked c).reads

-- so what is given then makes a turn
made : (c : After-read) (new : List Shared) → KeepsTurns (state_of c.read.new.state) c.args.solver (length c.args.store.now) c.args.store.now new
    → Synced (state_of c.args.state.now) (state_of c.read.new.state) c.args.solver c.args.store.now new c.read.new.self
made c new k = synced (state_of c.args.state.now) (state_of c.read.new.state) c.args.solver c.args.store.now new c.read.new.self c.requires.legal (taken c) (walked c).step k c.requires.step.told

-- what the fixed literals gave
fixed_turns : (c : After-offer_fixed) → KeepsTurns (state_of c.read.new.state) c.args.solver (length c.args.store.now) c.args.store.now c.offer_fixed.new.store
fixed_turns c = from_end (state_of c.read.new.state) c.args.solver c.len-after.result c.args.store.now c.offer_fixed.new.store c.len-after.ensures.value c.offer_fixed.ensures.turns

-- and the learned clauses after them
all_turns : (c : After-offer_binaries) → KeepsTurns (state_of c.read.new.state) c.args.solver (length c.args.store.now) c.args.store.now c.offer_binaries.new.store
all_turns c =
    from_end (state_of c.read.new.state) c.args.solver c.len-after.result c.args.store.now c.offer_binaries.new.store c.len-after.ensures.value
    (turns_through (state_of c.read.new.state) c.args.solver c.len-after.result c.args.store.now c.offer_fixed.new.store c.offer_binaries.new.store c.offer_fixed.ensures.turns c.offer_binaries.ensures.turns)

pub returns-in_err-first-clause-synced : goal.returns-in_err-first-clause-synced
returns-in_err-first-clause-synced c = made ((goal.at.returns-in_err-first-clause-synced c).After-read) c.args.store.now (stays_turns (state_of c.read.new.state) c.args.solver (length c.args.store.now) c.args.store.now)

pub offer_fixed-requires-clause-told : goal.offer_fixed-requires-clause-told
offer_fixed-requires-clause-told c = (taken ((goal.at.offer_fixed-requires-clause-told c).After-read)).told c.args.store.now c.requires.step.told

pub returns-in_err-offer_fixed-clause-synced : goal.returns-in_err-offer_fixed-clause-synced
returns-in_err-offer_fixed-clause-synced c =
    made ((goal.at.returns-in_err-offer_fixed-clause-synced c).After-read) c.offer_fixed.new.store (fixed_turns ((goal.at.returns-in_err-offer_fixed-clause-synced c).After-offer_fixed))

pub offer_binaries-requires-clause-told : goal.offer_binaries-requires-clause-told
offer_binaries-requires-clause-told c =
    told_grows (state_of c.read.new.state) c.args.store.now c.offer_fixed.new.store c.offer_fixed.ensures.turns.keeps
    ((taken ((goal.at.offer_binaries-requires-clause-told c).After-read)).told c.args.store.now c.requires.step.told)

pub returns-in_err-offer_binaries-clause-synced : goal.returns-in_err-offer_binaries-clause-synced
returns-in_err-offer_binaries-clause-synced c =
    made ((goal.at.returns-in_err-offer_binaries-clause-synced c).After-read) c.offer_binaries.new.store (all_turns ((goal.at.returns-in_err-offer_binaries-clause-synced c).After-offer_binaries))

-- what the entries fix is told still after the learned clauses are
entries_told : (c : In_ok-offer_binaries) → All (IsToldEntry (state_of c.read.new.state) c.offer_binaries.new.store) c.read.new.state.stack
entries_told c =
    All-weaker (IsToldEntry (state_of c.read.new.state) c.offer_fixed.new.store) (IsToldEntry (state_of c.read.new.state) c.offer_binaries.new.store)
    (entry_grows (state_of c.read.new.state) c.offer_fixed.new.store c.offer_binaries.new.store c.in_ok-offer_binaries.ensures.turns.keeps) c.read.new.state.stack c.in_ok-offer_fixed.ensures.told

pub returns-clause-synced : goal.returns-clause-synced
returns-clause-synced c =
    let b : In_ok-offer_binaries = (goal.at.returns-clause-synced c).In_ok-offer_binaries in
    synced_marked (state_of c.args.state.now) (state_of c.read.new.state) (state_of c.set_mark.new.self) c.args.solver c.args.store.now c.offer_binaries.new.store c.read.new.self c.set_mark.ensures.state c.in_ok-offer_binaries.ensures.told (entries_told b)
    (made ((goal.at.returns-clause-synced c).After-read) c.offer_binaries.new.store (all_turns ((goal.at.returns-clause-synced c).After-offer_binaries)))

pub returns-clause-settled : goal.returns-clause-settled
returns-clause-settled c =
    let t : State = state_of c.retry.new.state in
    let u : State = state_of c.read.new.state in
    let r : HasRead t u c.args.store.now c.read.new.self.cursor c.read.new.self.waiting = walked ((goal.at.returns-clause-settled c).After-read) in
    let e : c.read.new.self.cursor ≡ length c.args.store.now = c.in_ok-first.ensures.end ∙ ap length c.from-2.ensures.value in
    settled_after t u (state_of c.set_mark.new.self) c.args.solver c.args.store.now c.offer_binaries.new.store c.read.new.self.waiting c.set_mark.ensures.state c.in_ok-offer_binaries.ensures.standing.stands
    (subst (λ (n : ℕ). HasRead t u c.args.store.now n c.read.new.self.waiting) e r) (all_turns ((goal.at.returns-clause-settled c).After-offer_binaries))
    c.in_ok-offer_binaries.ensures.told (entries_told ((goal.at.returns-clause-settled c).In_ok-offer_binaries))

pub returns-clause-marked : goal.returns-clause-marked
returns-clause-marked c = record { learned = ap (λ (s : State). s.marked_learned) c.set_mark.ensures.state ∙ sym (ap (λ (s : State). s.learned) c.set_mark.ensures.state); stack = ap (λ (s : State). s.marked_stack) c.set_mark.ensures.state ∙ sym (ap (λ (s : State). s.stack) c.set_mark.ensures.state) }
