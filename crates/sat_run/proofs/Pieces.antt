-- How a piece of a text is taken, and its end.
use Rattle.std.proofs.Common.{◌≡◌, ℕ, List, [], ◌++◌, sym, ap, ◌∙◌, subst, append_assoc, append-nil, arith}
use Rattle.sat_lits.specs.Formulas.{no_problem}
use Rattle.dimacs_text.specs.Commands.{AreWithin}
use Rattle.dimacs_text.specs.Grammar.{Reading, reading_of}
use Rattle.dimacs_text.specs.Lists.{End, Refused}
use Rattle.dimacs_text.specs.Reads.{Gives, Refuses, Concludes}
use Rattle.dimacs_text.specs.declared.command.Command.{Command}
use Rattle.dimacs_text.specs.declared.reader.Reader.{Reader}
use Rattle.dimacs_text.specs.declared.refusal.Refusal.{Refusal}
use Rattle.sat_run.specs.Questions.{questions_from}
use Rattle.sat_run.specs.Errors.{halted}
use Rattle.sat_run.specs.Progress.{limits_of, HasRoomFor, HasCarried}
use Rattle.sat_run.specs.World.{World, Carries, StopsAmong, ForRun}
use Rattle.sat_run.specs.Runs.{StopsRight}
use Rattle.sat_run.specs.declared.failures.Halt.{Halt}
use Rattle.sat_run.specs.declared.failures.Halt.TheVariants.{Memory}
use Rattle.sat_run.specs.declared.failures.Stop.{Stop}
use Rattle.sat_run.specs.declared.failures.Stop.TheVariants as stop
use Rattle.sat_run.proofs.Joins.{carries_then, stops_done}
use Rattle.sat_run.proofs.Room.{room_behind}
use Rattle.sat_run.proofs.Closing.{reading, stop_front, stop_behind, run_problem}

-- what was appended to no commands
appended : (before now cs : List Command) → before ≡ [] → now ≡ before ++ cs → now ≡ cs
appended before now cs none added = added ∙ ap (λ (xs : List Command). xs ++ cs) none

-- what the reader hands on has room
room_at : (input : ℕ) (text : List ℕ) (reader : Reader) (commands now : List Command) (start a : World) → now ≡ commands → (h : HasCarried input text reader start a) → AreWithin (limits_of input) (h.given ++ commands)
    → HasRoomFor now a.solver
room_at input text reader commands now start a e h within =
    subst (λ (cs : List Command). HasRoomFor cs a.solver) (sym e)
    (room_behind (limits_of input) h.given commands a.solver (omega arith) (omega arith) (run_problem h.given start a h.began h.carries) (h.carries.tells.settings.limits ∙ h.limits) within)

pub piece_room : (input : ℕ) (text : List ℕ) (reader new : Reader) (piece : List ℕ) (before now : List Command) (start a : World) → before ≡ [] → HasCarried input text reader start a → Gives reader new piece before now
    → HasRoomFor now a.solver
piece_room input text reader new piece before now start a none h g =
    room_at input text reader g.commands now start a (appended before now g.commands none g.added) h (g.has_read (limits_of input) text h.given h.read).within

pub refusal_room : (input : ℕ) (text : List ℕ) (reader : Reader) (piece : List ℕ) (before now : List Command) (why : Refusal) (start a : World) → before ≡ [] → HasCarried input text reader start a → Refuses reader piece before now why
    → HasRoomFor now a.solver
refusal_room input text reader piece before now why start a none h g =
    room_at input text reader g.commands now start a (appended before now g.commands none g.added) h (g.within (limits_of input) text h.given h.read)

pub end_room : (input : ℕ) (text : List ℕ) (reader : Reader) (before now : List Command) (end : End) (start a : World) → before ≡ [] → HasCarried input text reader start a → Concludes reader before now end
    → HasRoomFor now a.solver
end_room input text reader before now end start a none h g =
    room_at input text reader g.commands now start a (appended before now g.commands none g.added) h (g.within (limits_of input) text h.given h.read)

-- a piece was taken, and its commands were carried out
pub piece_carried : (input : ℕ) (text : List ℕ) (reader new : Reader) (piece : List ℕ) (before now : List Command) (start a b : World) → before ≡ [] → HasCarried input text reader start a → Gives reader new piece before now
    → Carries now a b → HasCarried input (text ++ piece) new start b
piece_carried input text reader new piece before now start a b none h g p =
    record {
      given = h.given ++ g.commands;
      read = g.has_read (limits_of input) text h.given h.read;
      carries = carries_then h.given g.commands start a b h.carries (subst (λ (cs : List Command). Carries cs a b) (appended before now g.commands none g.added) p);
      began = h.began;
      limits = h.limits;
    }

-- a stop among commands of the text so far is one of the text, however it goes on
stop_on : (halt : Halt) (given commands : List Command) (r : Reading) (more : List Command) (start a b : World) → r.commands ≡ (given ++ commands) ++ more → start.solver.problem ≡ no_problem → Carries given start a
    → StopsAmong halt (questions_from a.solver.problem commands) a b → StopsRight (halted halt) r start b
stop_on halt given commands r more start a b e began p s =
    subst (λ (cs : List Command). StopsRight (halted halt) (reading cs r.end) start b) (sym e) (stop_behind halt given commands more r.end start a b began p s)

-- the run stopped among the commands of a piece
pub piece_stops : (halt : Halt) (input : ℕ) (text : List ℕ) (reader new : Reader) (piece : List ℕ) (before now : List Command) (start a b : World) → before ≡ [] → HasCarried input text reader start a → Gives reader new piece before now
    → StopsAmong halt (questions_from a.solver.problem now) a b → (rest : List ℕ) → StopsRight (halted halt) (reading_of (limits_of input) ((text ++ piece) ++ rest)) start b
piece_stops halt input text reader new piece before now start a b none h g s rest =
    let more = (g.has_read (limits_of input) text h.given h.read).begins rest in
    stop_on halt h.given g.commands (reading_of (limits_of input) ((text ++ piece) ++ rest)) more.0 start a b more.1 h.began h.carries
    (subst (λ (cs : List Command). StopsAmong halt (questions_from a.solver.problem cs) a b) (appended before now g.commands none g.added) s)

-- what is known of the reading of all commands is known of the text that has this reading
reads_as : (P : Reading → Type 0) (given commands now : List Command) (end : End) (r : Reading) → now ≡ commands → r ≡ reading (given ++ commands) end → P (reading (given ++ now) end) → P r
reads_as P given commands now end r e f h = subst P (sym f) (subst (λ (cs : List Command). P (reading (given ++ cs) end)) e h)

-- the text is refused in a piece
pub piece_refused : (s : Stop) (input : ℕ) (text : List ℕ) (reader : Reader) (piece : List ℕ) (before now : List Command) (why : Refusal) (start a b : World) → before ≡ [] → HasCarried input text reader start a
    → Refuses reader piece before now why → ForRun a (λ from given. StopsRight s (reading (given ++ now) (Refused why)) from b) → (rest : List ℕ) → StopsRight s (reading_of (limits_of input) ((text ++ piece) ++ rest)) start b
piece_refused s input text reader piece before now why start a b none h g all rest =
    reads_as (λ r. StopsRight s r start b) h.given g.commands now (Refused why) (reading_of (limits_of input) ((text ++ piece) ++ rest)) (appended before now g.commands none g.added)
    (g.final (limits_of input) text h.given h.read rest) (all start h.given h.carries h.began)

-- memory ran out before anything was done with a piece
pub piece_lost : (input : ℕ) (text : List ℕ) (reader : Reader) (start a : World) → HasCarried input text reader start a → (rest : List ℕ) → StopsRight stop.Memory (reading_of (limits_of input) (text ++ rest)) start a
piece_lost input text reader start a h rest =
    let more = h.read.begins rest in
    let r = reading_of (limits_of input) (text ++ rest) in
    subst (λ (cs : List Command). StopsRight stop.Memory (reading cs r.end) start a) (sym more.1) (stop_front Memory h.given more.0 r.end start a h.began (stops_done h.given start a h.carries))

-- the text's end was carried out
pub end_on : (P : World → Reading → Type 0) (input : ℕ) (text : List ℕ) (reader : Reader) (before now : List Command) (end : End) (start a : World) → before ≡ [] → HasCarried input text reader start a → Concludes reader before now end
    → ForRun a (λ from given. P from (reading (given ++ now) end)) → P start (reading_of (limits_of input) text)
end_on P input text reader before now end start a none h g all =
    reads_as (P start) h.given g.commands now end (reading_of (limits_of input) text) (appended before now g.commands none g.added) (g.whole (limits_of input) text h.given h.read) (all start h.given h.carries h.began)

pub end_lost : (input : ℕ) (text : List ℕ) (reader : Reader) (start a : World) → HasCarried input text reader start a → StopsRight stop.Memory (reading_of (limits_of input) text) start a
end_lost input text reader start a h =
    subst (λ (xs : List ℕ). StopsRight stop.Memory (reading_of (limits_of input) xs) start a) (append-nil text) (piece_lost input text reader start a h [])

pub piece_lost_in : (input : ℕ) (text : List ℕ) (reader : Reader) (piece : List ℕ) (start a : World) → HasCarried input text reader start a → (rest : List ℕ)
    → StopsRight stop.Memory (reading_of (limits_of input) ((text ++ piece) ++ rest)) start a
piece_lost_in input text reader piece start a h rest =
    subst (λ (xs : List ℕ). StopsRight stop.Memory (reading_of (limits_of input) xs) start a) (sym (append_assoc text piece rest)) (piece_lost input text reader start a h (piece ++ rest))
