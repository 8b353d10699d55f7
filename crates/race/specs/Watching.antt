-- What a look at the exchange leaves as it was, and what a stop test counts.
use Rattle.std.specs.Prelude.{◌≡◌, ◌⊎◌, ℕ, ◌-◌, ◌^◌, ◌≤◌, min, Bool, true, false, if◌then◌else◌, refl}
use Rattle.std.proofs.Common.{◌∙◌, arith}
use Rattle.sat_ports.specs.Causes.{Rose}
use Rattle.share_turn.specs.Views.{Known}
use Rattle.share_turn.specs.declared.view.View.{View}

-- a pass belongs where it did, and knows of the same question
pub record KeepsSeat (old new : Known) : Type 0 where
  pub table : new.table ≡ old.table
  pub question : new.view.question ≡ old.view.question
  pub first : new.view.first ≡ old.view.first
  pub alarmed : new.view.alarmed ≡ old.view.alarmed
  pub splits : new.view.splits ≡ old.view.splits
  pub joins : new.view.joins ≡ old.view.joins

-- and it has seen the same log, and has of the turn what it had
pub record KeepsPass (old new : Known) : Type 0 where
  pub seat : KeepsSeat old new
  pub seen : new.view.seen ≡ old.view.seen
  pub turn : new.view.turn ≡ old.view.turn

-- a pass knows that an outcome was posted, or that another pass was first with one
abbrev pub KnowsOutcome : View → Type 0
KnowsOutcome v = (v.posted ≡ true) ⊎ (v.late ≡ true)

pub kept_seat : (k : Known) → KeepsSeat k k
kept_seat k = record { table = refl; question = refl; first = refl; alarmed = refl; splits = refl; joins = refl }

pub kept_seat_on : (a b c : Known) → KeepsSeat a b → KeepsSeat b c → KeepsSeat a c
kept_seat_on a b c f g =
    record {
      table = g.table ∙ f.table;
      question = g.question ∙ f.question;
      first = g.first ∙ f.first;
      alarmed = g.alarmed ∙ f.alarmed;
      splits = g.splits ∙ f.splits;
      joins = g.joins ∙ f.joins;
    }

pub kept_pass : (k : Known) → KeepsPass k k
kept_pass k = record { seat = kept_seat k; seen = refl; turn = refl }

pub kept_pass_on : (a b c : Known) → KeepsPass a b → KeepsPass b c → KeepsPass a c
kept_pass_on a b c f g = record { seat = kept_seat_on a b c f.seat g.seat; seen = g.seen ∙ f.seen; turn = g.turn ∙ f.turn }

-- the count of a stop test: that of its alarm, up to the last value, and the last value once it knows of an outcome
abbrev pub count_of : Bool → ℕ → ℕ
count_of stopped raises = if stopped then 2 ^ 64 - 1 else min raises (2 ^ 64 - 1)

-- where the stop test's count rose though it knows of no outcome, the alarm's count rose
pub alarm_rose : (before now : Bool) (a b : ℕ) → now ≡ false → Rose (count_of before a) (count_of now b) → Rose a b
alarm_rose true true a b quiet rose = absurd (let k : ⊥ = cc in k)
alarm_rose false true a b quiet rose = absurd (let k : ⊥ = cc in k)
alarm_rose true false a b quiet rose = omega (arith, rose)
alarm_rose false false a b quiet rose = omega (arith, rose)

-- a rise stays one from an earlier count on, and up to a later one
pub rose_between : (a b c d : ℕ) → a ≤ b → Rose b c → c ≤ d → Rose a d
rose_between a b c d ab rose cd = omega (arith, ab, rose, cd)

-- what a stop test leaves as it was: its pass, and what its alarm leaves
pub record KeepsWatch (old new : Known) (before now : ℕ) (Kept : Type 0) : Type 0 where
  pub pass : KeepsPass old new
  pub later : before ≤ now
  pub alarm : Kept

pub kept_watch : (k : Known) (n : ℕ) {Kept : Type 0} → Kept → KeepsWatch k k n n Kept
kept_watch k n same = record { pass = kept_pass k; later = omega arith; alarm = same }

pub kept_watch_on : (a b c : Known) (k m n : ℕ) {One Other Both : Type 0} → KeepsWatch a b k m One → KeepsWatch b c m n Other → Both → KeepsWatch a c k n Both
kept_watch_on a b c k m n f g both = record { pass = kept_pass_on a b c f.pass g.pass; later = omega (arith, f.later, g.later); alarm = both }
