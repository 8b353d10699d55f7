-- When a run is right.
use Rattle.std.specs.Prelude.{◌≡◌, ◌≢◌, ◌↔◌, ◌⊎◌, ℕ, ◌+◌, ◌≤◌, List, [], ◌∷◌, ◌++◌, take, Some, None}
use Rattle.std.specs.List.{AllByRecursion}
use Rattle.std.specs.Io.KnownBytes.{Appends, Consumes, IsAtEnd}
use Rattle.std.specs.Option.{ForSome}
use Rattle.std.specs.declared.option.Option.{Option}
use Rattle.sat_ports.specs.Causes.{Rose}
use Rattle.sat_lits.specs.Conflicts.{own_count, enough}
use Rattle.sat_lits.specs.declared.shared.Shared.{Shared}
use Rattle.dimacs_text.specs.Grammar.{Reading, reading_of, decided_of}
use Rattle.dimacs_text.specs.Lists.{Ended, Refused}
use Rattle.dimacs_text.specs.Texts.{text_of_refusal}
use Rattle.dimacs_text.specs.declared.refusal.Refusal.{Refusal}
use Rattle.sat_run.specs.Questions.{Question, questions_of, problem_of}
use Rattle.sat_run.specs.Reports.{Block, block, IsTold, AreDecided, entries_of, blocks_text, status_of}
use Rattle.sat_run.specs.World.{World, listed_in, KeepsSettings, Tells, Carries, StopsAmong}
use Rattle.sat_run.specs.Progress.{limits_of, ReadsNoMore}
use Rattle.sat_run.specs.Words.{options_of, with_options, input_of, threads_of}
use Rattle.sat_run.specs.Writing.{Port}
use Rattle.sat_run.specs.declared.report.Report.{Report}
use Rattle.sat_run.specs.declared.failures.Halt.TheVariants as halt
use Rattle.sat_run.specs.declared.failures.Stop.{Stop}
use Rattle.sat_run.specs.declared.failures.Stop.TheVariants as stop
use Rattle.sat_run.specs.declared.words.Options.{Options}

-- All questions of a text that is not refused were answered by whole blocks, the last one by this report. The blocks list all that
-- is shared, where they list it. The solver has the text's formula, and tells of the last question.
pub record AnswersAll (r : Reading) (last : Report) (old new : World) : Type 0 where
  pub ended : r.end ≡ Ended
  pub earlier : List Block
  pub entries : List Shared
  pub tells : Tells (questions_of r) (earlier ++ block last entries ∷ []) old new
  pub listed : listed_in new ≡ listed_in old ++ entries_of (earlier ++ block last entries ∷ [])
  pub written : Appends old.sink.bytes new.sink.bytes (blocks_text (earlier ++ block last entries ∷ []))
  pub kept : new.sink.faults ≡ old.sink.faults
  pub problem : new.solver.problem ≡ problem_of r.commands
  pub told : IsTold last new.solver

-- all questions before the refusal were answered by whole blocks, and then its text was written
pub record AnswersRefusal (r : Reading) (old new : World) : Type 0 where
  pub why : Refusal
  pub refused : r.end ≡ Refused why
  pub blocks : List Block
  pub tells : Tells (questions_of r) blocks old new
  pub written : Appends old.sink.bytes new.sink.bytes (blocks_text blocks ++ text_of_refusal why)
  pub kept : new.sink.faults ≡ old.sink.faults

-- the same, but of the refusal's text a front, since a write failed
pub record CutsRefusal (r : Reading) (old new : World) : Type 0 where
  pub why : Refusal
  pub refused : r.end ≡ Refused why
  pub blocks : List Block
  pub tells : Tells (questions_of r) blocks old new
  pub count : ℕ
  pub written : Appends old.sink.bytes new.sink.bytes (blocks_text blocks ++ take count (text_of_refusal why))
  pub fault : Rose old.sink.faults new.sink.faults

-- what was done of the text where the run stopped before its end
abbrev pub StopsRight : Stop → Reading → World → World → Type 0
StopsRight stop.Refused r old new = AnswersRefusal r old new
StopsRight stop.Write r old new = StopsAmong halt.Write (questions_of r) old new ⊎ CutsRefusal r old new
StopsRight stop.Memory r old new = StopsAmong halt.Memory (questions_of r) old new
StopsRight stop.Read r old new = ⊥

-- The text was read to the end of the source, which did not fail, or up to where its formula ends, so that what follows
-- changes nothing. All its questions were answered.
pub record AnswersText (input : ℕ) (last : Report) (source_before source_now : Port) (old new : World) : Type 0 where
  pub text : List ℕ
  pub consumed : Consumes source_before.bytes source_now.bytes text
  pub whole : IsAtEnd source_now.bytes ⊎ ((rest : List ℕ) → reading_of (limits_of input) (text ++ rest) ≡ reading_of (limits_of input) text)
  pub kept : source_now.faults ≡ source_before.faults
  pub answered : AnswersAll (reading_of (limits_of input) text) last old new

-- the source failed where a read did, and else it did not
abbrev pub IsSourceAt : Stop → Port → Port → Type 0
IsSourceAt stop.Refused before now = now.faults ≡ before.faults
IsSourceAt stop.Read before now = Rose before.faults now.faults
IsSourceAt stop.Write before now = now.faults ≡ before.faults
IsSourceAt stop.Memory before now = now.faults ≡ before.faults

-- the sink failed where a write did, and else it did not
abbrev pub IsSinkAt : Stop → Port → Port → Type 0
IsSinkAt stop.Refused before now = now.faults ≡ before.faults
IsSinkAt stop.Read before now = now.faults ≡ before.faults
IsSinkAt stop.Write before now = Rose before.faults now.faults
IsSinkAt stop.Memory before now = now.faults ≡ before.faults

-- the run stopped when so much of the source was read: whatever follows, what was done is right for the text
pub record StopsText (input : ℕ) (why : Stop) (source_before source_now : Port) (old new : World) : Type 0 where
  pub text : List ℕ
  pub consumed : Consumes source_before.bytes source_now.bytes text
  pub stopped : why ≢ stop.Read → (rest : List ℕ) → source_now.bytes ≡ Some rest → StopsRight why (reading_of (limits_of input) (text ++ rest)) old new
  pub decided : why ≡ stop.Read → Carries (decided_of (limits_of input) text) old new
  pub source : IsSourceAt why source_before source_now
  pub sink : IsSinkAt why old.sink new.sink
  pub later : old.raised ≤ new.raised
  pub settings : KeepsSettings old.solver new.solver

-- so much of the source was read, and the questions were answered that it decides, before a read failed
pub record AnswersDecided (input : ℕ) (source_before source_now : Port) (old new : World) : Type 0 where
  pub text : List ℕ
  pub consumed : Consumes source_before.bytes source_now.bytes text
  pub carries : Carries (decided_of (limits_of input) text) old new

abbrev pub status_at : Stop → ℕ
status_at stop.Refused = 2
status_at stop.Read = 3
status_at stop.Write = 4
status_at stop.Memory = 5

abbrev pub IsAmong : List ℕ → ℕ → Type 0
IsAmong [] n = ⊥
IsAmong (m ∷ ms) n = (n ≡ m) ⊎ IsAmong ms n

-- no conflict limit, or one that is enough to decide every question
abbrev pub LeavesEnough : Option ℕ → List Question → Type 0
LeavesEnough limit questions = ForSome limit (λ m. AllByRecursion (λ q. enough (own_count q.problem) ≤ m) questions)

-- every question was answered by a verdict that says whether there is a model
pub record DecidesAll (questions : List Question) (old new : World) : Type 0 where
  pub blocks : List Block
  pub decided : AreDecided questions blocks
  pub written : Appends old.sink.bytes new.sink.bytes (blocks_text blocks)

-- a run's world with the options set
abbrev pub set_world : Options → World → World
set_world options w = record w { shares = options.print_shared; solver = with_options options w.solver }

-- a run's world at its end, where the options said whether shared clauses are listed
abbrev pub end_world : Options → World → World
end_world options w = record w { shares = options.print_shared }

-- what the text of the source says, with these options
abbrev pub reading_with : Options → List ℕ → Reading
reading_with options text = reading_of (limits_of (input_of options)) text

-- the most bytes that are read: as many as a text may have, and one piece of 65536
abbrev pub most_read : Options → ℕ
most_read options = input_of options + 65536

-- a whole run of the program with these words
pub record RunsRight (words : List (List ℕ)) (status : ℕ) (source_before source_now : Port) (old new : World) : Type 0 where
  pub statuses : IsAmong (1 ∷ 2 ∷ 3 ∷ 4 ∷ 5 ∷ 10 ∷ 15 ∷ 20 ∷ []) status
  -- the words are not taken, and then nothing is read or written, and the solver is as it was
  pub words_refused : (status ≡ 1) ↔ (options_of words ≡ None)
  pub untouched : status ≡ 1 → (source_now ≡ source_before) × (new ≡ old)
  -- the solver has the conflict limit and the number of threads that the words set
  pub limited : (options : Options) → options_of words ≡ Some options → new.solver.max_conflicts ≡ options.max_conflicts
  pub threaded : (options : Options) → options_of words ≡ Some options → new.solver.threads ≡ threads_of options
  -- every question of the text was answered by a right block, and the status is that of the last one
  pub answered : (options : Options) → options_of words ≡ Some options → IsAmong (10 ∷ 15 ∷ 20 ∷ []) status
      → (last : Report) × (status ≡ status_of last) × AnswersText (input_of options) last source_before source_now (set_world options old) (end_world options new)
  -- the text is refused: the questions before its refusal were answered, and then the refusal was written
  pub refused : (options : Options) → options_of words ≡ Some options → (text : List ℕ) → source_before.bytes ≡ Some text → status ≡ 2
      → AnswersRefusal (reading_with options text) (set_world options old) (end_world options new)
  pub refused_exactly : (options : Options) → options_of words ≡ Some options → (text : List ℕ) → source_before.bytes ≡ Some text → status ≢ 3 → status ≢ 4 → status ≢ 5
      → (status ≡ 2) ↔ ((reading_with options text).end ≢ Ended)
  -- a read failed: the questions that the bytes read decide were answered
  pub read_fault : status ≡ 3 → Rose source_before.faults source_now.faults
  pub read_failed : (options : Options) → options_of words ≡ Some options → status ≡ 3 → AnswersDecided (input_of options) source_before source_now (set_world options old) (end_world options new)
  -- a write failed: whole right blocks were written, and then a front of the next one or of the refusal
  pub write_fault : status ≡ 4 → Rose old.sink.faults new.sink.faults
  pub write_failed : (options : Options) → options_of words ≡ Some options → (text : List ℕ) → source_before.bytes ≡ Some text → status ≡ 4
      → StopsRight stop.Write (reading_with options text) (set_world options old) (end_world options new)
  -- so a failed read has no other status, and no more has a failed write
  pub reads_kept : status ≢ 3 → source_now.faults ≡ source_before.faults
  pub writes_kept : status ≢ 4 → new.sink.faults ≡ old.sink.faults
  -- memory ran out: whole right blocks were written
  pub out_of_memory : (options : Options) → options_of words ≡ Some options → (text : List ℕ) → source_before.bytes ≡ Some text → status ≡ 5
      → StopsRight stop.Memory (reading_with options text) (set_world options old) (end_world options new)
  -- whatever the status, no more is read than a text may have, but for the rest of a piece, and the alarm's count does not fall
  pub reads_little : (options : Options) → options_of words ≡ Some options → ReadsNoMore (most_read options) source_before.bytes source_now.bytes
  pub later : old.raised ≤ new.raised
  -- where no failure, no raise of the alarm and no limit stands in the way, every question is decided
  pub complete : (options : Options) → options_of words ≡ Some options → (text : List ℕ) → source_before.bytes ≡ Some text → (reading_with options text).end ≡ Ended
      → (Rose source_before.faults source_now.faults → ⊥) → (Rose old.sink.faults new.sink.faults → ⊥) → (Rose old.raised new.raised → ⊥) → LeavesEnough options.max_conflicts (questions_of (reading_with options text))
      → (status ≡ 5) ⊎ (IsAmong (10 ∷ 20 ∷ []) status × DecidesAll (questions_of (reading_with options text)) old new)
