-- What contracts see of the forms in memory.
use Rattle.std.specs.Prelude.{ℕ, ◌==◌, ◌-◌, Bool, ◌||◌, ◌&&◌, if◌then◌else◌, List, ◌++◌, length, take, drop, min, nat_lt, refl}
use Rattle.std.specs.List.{list_any}
use Rattle.std.specs.Coded.{Coded, code_by, coded×, coded_ℕ}
use Rattle.sat_ports.specs.Causes.{one_more}

-- bytes that are read in pieces of one size; the calls with these numbers fail
pub record Pieces : Type 0 where
  pub left : List ℕ
  pub piece : ℕ
  pub failing : List ℕ
  pub calls : ℕ
  pub faults : ℕ

-- bytes that are written up to some room; the calls with these numbers fail
pub record Shelf : Type 0 where
  pub written : List ℕ
  pub room : ℕ
  pub failing : List ℕ
  pub calls : ℕ
  pub faults : ℕ

-- after a read that gave so many bytes: they are gone, and the call is counted
abbrev pub after_read : ℕ → Pieces → Pieces
after_read count s = record s { left = drop count s.left; calls = one_more s.calls }

-- after a read that failed: the call and the failure are counted
abbrev pub after_failed_read : Pieces → Pieces
after_failed_read s = record s { calls = one_more s.calls; faults = one_more s.faults }

-- after a write that took so many bytes of some: they stand at the end, and the call is counted
abbrev pub after_write : ℕ → List ℕ → Shelf → Shelf
after_write count piece s = record s { written = s.written ++ take count piece; calls = one_more s.calls }

-- after a write that failed: the call and the failure are counted
abbrev pub after_failed_write : Shelf → Shelf
after_failed_write s = record s { calls = one_more s.calls; faults = one_more s.faults }

-- whether a call is among those that are to fail
abbrev pub is_listed : ℕ → List ℕ → Bool
is_listed call failing = list_any (λ listed. listed == call) failing

-- how many of some bytes have room
abbrev pub fitting : Shelf → List ℕ → ℕ
fitting s piece = min (length piece) (s.room - length s.written)

-- whether a write fails: its call is listed, or some bytes come where no room is left
abbrev pub is_refused : Shelf → List ℕ → Bool
is_refused s piece = is_listed s.calls s.failing || (nat_lt 0 (length piece) && (fitting s piece == 0))

-- a reader or a writer, and how often it failed
pub record Counted (T : Type 0) : Type 0 where
  pub inner : T
  pub faults : ℕ

abbrev pub counted_code : {T : Type 0} → Coded T → Coded (Counted T)
counted_code {T} code = code_by (T × ℕ) (coded× code coded_ℕ) (λ c. (c.inner, c.faults)) (λ p. record { inner = p.0; faults = p.1 }) (λ _. refl)

-- an alarm that asks at the polls with these numbers
pub record Polled : Type 0 where
  pub polls : List ℕ
  pub calls : ℕ
  pub raises : ℕ

-- after a poll that asked for a stop or did not: the call is counted, and so is a raise
abbrev pub after_poll : Bool → Polled → Polled
after_poll asked a = record a { calls = one_more a.calls; raises = if asked then one_more a.raises else a.raises }
