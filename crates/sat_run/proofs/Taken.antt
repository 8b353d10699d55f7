-- How far the source was read.
use Rattle.std.proofs.Common.{◌≡◌, ◌≢◌, ℕ, ◌+◌, ◌≤◌, Bool, false, List, [], ◌∷◌, ◌++◌, length, take, Some, None, refl, sym, ap, ◌∙◌, subst, inl, inr, append-nil, length-append, arith}
use Rattle.std.specs.declared.option.Option.{Option}
use Rattle.std.specs.Io.KnownBytes.{Consumes, Keeps, IsAtEnd}
use Rattle.std.proofs.KnownBytes.{Consumes-nil, Consumes-trans, Consumes-kept}
use Rattle.sat_lits.specs.Limits.{standard_limits}
use Rattle.sat_lits.specs.Formulas.{no_problem}
use Rattle.sat_ports.specs.Causes.{Rose}
use Rattle.dimacs_text.specs.Grammar.{Reading, reading_of, ends_within}
use Rattle.dimacs_text.specs.Lists.{Ended}
use Rattle.dimacs_text.specs.Reads.{HasRead}
use Rattle.dimacs_text.specs.declared.command.Command.{Command}
use Rattle.dimacs_text.specs.declared.reader.Reader.{Reader}
use Rattle.sat_run.specs.Writing.{Port}
use Rattle.sat_run.specs.Progress.{limits_of, HasCarried, Reads, ReadsNoMore, ForText}
use Rattle.sat_run.specs.World.{World, KeepsSettings, Carries, ForRun}
use Rattle.sat_run.specs.Runs.{AnswersAll, AnswersText, StopsRight, StopsText, IsSourceAt, IsSinkAt}
use Rattle.sat_run.specs.declared.report.Report.{Report}
use Rattle.sat_run.specs.declared.failures.Stop.{Stop}
use Rattle.sat_run.specs.declared.failures.Stop.TheVariants as stop
use Rattle.sat_run.proofs.Joins.{carries_none}
use Rattle.sat_run.proofs.Closing.{reading}

-- nothing was read
pub reads_none : (input : ℕ) (reader : Reader) (left : Option (List ℕ)) (faults : ℕ) (start : World) → HasRead (limits_of input) [] [] reader → start.solver.problem ≡ no_problem → start.solver.limits ≡ standard_limits
    → Reads input 0 reader left left faults faults start start
reads_none input reader left faults start read began limits =
    record {
      text = [];
      consumed = Consumes-nil left;
      carried = record { given = []; read = read; carries = carries_none start; began = began; limits = limits };
      counted = refl;
      fits = omega arith;
      kept = refl;
    }

-- a piece more was read, and no `%` has ended the formula
pub reads_more : (input taken count : ℕ) (reader new : Reader) (left_before left left_now : Option (List ℕ)) (faults_before faults faults_now : ℕ) (start a b : World) (piece : List ℕ) (ended : Bool)
    → Reads input taken reader left_before left faults_before faults start a → Consumes left left_now piece → count ≡ length piece → faults_now ≡ faults
    → ForText reader a (λ limit text from. HasCarried limit (text ++ piece) new from b) → ended ≡ false → ((text : List ℕ) (given : List Command) → HasRead (limits_of input) text given new → ended ≡ ends_within (limits_of input) text)
    → Reads input (taken + count) new left_before left_now faults_before faults_now start b
reads_more input taken count reader new left_before left left_now faults_before faults faults_now start a b piece ended r c n k on goes_on told =
    let carried = on input r.text start r.carried in
    record {
      text = r.text ++ piece;
      consumed = Consumes-trans left_before left left_now r.text piece r.consumed c;
      carried = carried;
      counted = omega (arith, r.counted, n, length-append r.text piece);
      fits = carried.read.fits (sym (told (r.text ++ piece) carried.given carried.read) ∙ goes_on);
      kept = k ∙ r.kept;
    }

-- what was read, and a piece more, is little
pub reads_little : (input taken most : ℕ) (reader : Reader) (left_before left left_now : Option (List ℕ)) (faults_before faults : ℕ) (start a : World) (piece : List ℕ) → Reads input taken reader left_before left faults_before faults start a
    → Consumes left left_now piece → length piece ≤ most → ReadsNoMore (input + most) left_before left_now
reads_little input taken most reader left_before left left_now faults_before faults start a piece r c h =
    record {
      text = r.text ++ piece;
      consumed = Consumes-trans left_before left left_now r.text piece r.consumed c;
      few = omega (arith, r.fits, length-append r.text piece);
    }

-- a read that fails takes nothing
pub reads_nothing : (input taken most : ℕ) (reader : Reader) (left_before left left_now : Option (List ℕ)) (faults_before faults : ℕ) (start a : World) → Reads input taken reader left_before left faults_before faults start a → Keeps left left_now
    → ReadsNoMore (input + most) left_before left_now
reads_nothing input taken most reader left_before left left_now faults_before faults start a r k =
    record {
      text = r.text;
      consumed = Consumes-kept left_before left left_now r.text r.consumed k;
      few = omega (arith, r.fits);
    }

-- the source has ended: what was read is all there is
end_of_text : (left : Option (List ℕ)) (rest text : List ℕ) → IsAtEnd left → left ≡ Some rest → text ++ rest ≡ text
end_of_text None rest text end e = absurd cc
end_of_text (Some bytes) rest text end e = let same : bytes ≡ rest = cc in ap (λ (xs : List ℕ). text ++ xs) (sym same ∙ end) ∙ append-nil text

take_none : (xs : List ℕ) → take 0 xs ≡ []
take_none [] = refl
take_none (x ∷ xs) = refl

nothing_taken : (left now : Option (List ℕ)) (count : ℕ) (into : List ℕ) → count ≡ 0 → Consumes left now (take count into) → Consumes left now []
nothing_taken left now count into e c = subst (Consumes left now) (ap (λ (n : ℕ). take n into) e ∙ take_none into) c

read_to_end : (left_before left left_now : Option (List ℕ)) (text : List ℕ) (count : ℕ) (into : List ℕ) → Consumes left_before left text → count ≡ 0 → Consumes left left_now (take count into) → Consumes left_before left_now text
read_to_end left_before left left_now text count into p e c =
    subst (Consumes left_before left_now) (append-nil text) (Consumes-trans left_before left left_now text [] p (nothing_taken left left_now count into e c))

-- the text was read to the end of the source, and answered
pub answers_end : (input taken : ℕ) (reader : Reader) (report : Report) (before between now : Port) (start a b : World) (count : ℕ) (into : List ℕ) → Reads input taken reader before.bytes between.bytes before.faults between.faults start a
    → count ≡ 0 → Consumes between.bytes now.bytes (take count into) → IsAtEnd now.bytes → now.faults ≡ between.faults → ForText reader a (λ limit text from. AnswersAll (reading_of (limits_of limit) text) report from b)
    → AnswersText input report before now start b
answers_end input taken reader report before between now start a b count into r e c end kept on =
    record {
      text = r.text;
      consumed = read_to_end before.bytes between.bytes now.bytes r.text count into r.consumed e c;
      whole = inl end;
      kept = kept ∙ r.kept;
      answered = on input r.text start r.carried;
    }

-- what a stop leaves of the alarm, the settings and the sink
record Leaves (why : Stop) (a b : World) : Type 0 where
  pub sink : IsSinkAt why a.sink b.sink
  pub later : a.raised ≤ b.raised
  pub settings : KeepsSettings a.solver b.solver
  pub other : why ≢ stop.Read

leaves : (why : Stop) (r : Reading) (a b : World) → StopsRight why r a b → Leaves why a b
leaves stop.Refused r a b s = record { sink = s.kept; later = s.tells.later; settings = s.tells.settings; other = λ e. cc }
leaves stop.Read r a b s = absurd s
leaves stop.Write r a b (inl s) = record { sink = s.cause; later = s.tells.later; settings = s.tells.settings; other = λ e. cc }
leaves stop.Write r a b (inr s) = record { sink = s.fault; later = s.tells.later; settings = s.tells.settings; other = λ e. cc }
leaves stop.Memory r a b s = record { sink = s.cause; later = s.tells.later; settings = s.tells.settings; other = λ e. cc }

-- a source that did not fail, where no read stopped the run
kept_source : (why : Stop) (before now : Port) → why ≢ stop.Read → now.faults ≡ before.faults → IsSourceAt why before now
kept_source stop.Refused before now other kept = kept
kept_source stop.Read before now other kept = absurd (other refl)
kept_source stop.Write before now other kept = kept
kept_source stop.Memory before now other kept = kept

-- a stop that is right for the text however it goes on
stops_text : (input : ℕ) (why : Stop) (before now : Port) (text : List ℕ) (start b : World) → Consumes before.bytes now.bytes text → now.faults ≡ before.faults → StopsRight why (reading_of (limits_of input) (text ++ [])) start b
    → ((rest : List ℕ) → now.bytes ≡ Some rest → StopsRight why (reading_of (limits_of input) (text ++ rest)) start b) → StopsText input why before now start b
stops_text input why before now text start b c kept s all =
    let l = leaves why (reading_of (limits_of input) (text ++ [])) start b s in
    record {
      text = text;
      consumed = c;
      stopped = λ _ rest e. all rest e;
      decided = λ e. absurd (l.other e);
      source = kept_source why before now l.other kept;
      sink = l.sink;
      later = l.later;
      settings = l.settings;
    }

-- the run stopped at the end of the source
pub stops_end : (input taken : ℕ) (reader : Reader) (why : Stop) (before between now : Port) (start a b : World) (count : ℕ) (into : List ℕ) → Reads input taken reader before.bytes between.bytes before.faults between.faults start a
    → count ≡ 0 → Consumes between.bytes now.bytes (take count into) → IsAtEnd now.bytes → now.faults ≡ between.faults → ForText reader a (λ limit text from. StopsRight why (reading_of (limits_of limit) text) from b)
    → StopsText input why before now start b
stops_end input taken reader why before between now start a b count into r e c end kept on =
    let s = on input r.text start r.carried in
    let P : List ℕ → Type 0 = λ xs. StopsRight why (reading_of (limits_of input) xs) start b in
    stops_text input why before now r.text start b (read_to_end before.bytes between.bytes now.bytes r.text count into r.consumed e c) (kept ∙ r.kept)
    (subst P (sym (append-nil r.text)) s) (λ rest f. subst P (sym (end_of_text now.bytes rest r.text end f)) s)

-- the run stopped in a piece
pub stops_piece : (input taken : ℕ) (reader : Reader) (why : Stop) (before between now : Port) (start a b : World) (piece : List ℕ) → Reads input taken reader before.bytes between.bytes before.faults between.faults start a
    → Consumes between.bytes now.bytes piece → now.faults ≡ between.faults → ForText reader a (λ limit text from. (rest : List ℕ) → StopsRight why (reading_of (limits_of limit) ((text ++ piece) ++ rest)) from b)
    → StopsText input why before now start b
stops_piece input taken reader why before between now start a b piece r c kept on =
    let s = on input r.text start r.carried in
    stops_text input why before now (r.text ++ piece) start b (Consumes-trans before.bytes between.bytes now.bytes r.text piece r.consumed c) (kept ∙ r.kept) (s []) (λ rest _. s rest)

-- a read failed
pub stops_read : (input taken : ℕ) (reader : Reader) (before between now : Port) (start a : World) → Reads input taken reader before.bytes between.bytes before.faults between.faults start a
    → Keeps between.bytes now.bytes → Rose between.faults now.faults → StopsText input stop.Read before now start a
stops_read input taken reader before between now start a r k rose =
    record {
      text = r.text;
      consumed = Consumes-kept before.bytes between.bytes now.bytes r.text r.consumed k;
      stopped = λ other. absurd (other refl);
      decided = λ _. subst (λ (cs : List Command). Carries cs start a) (sym r.carried.read.decides) r.carried.carries;
      source = subst (λ (n : ℕ). Rose n now.faults) r.kept rose;
      sink = r.carried.carries.kept;
      later = r.carried.carries.tells.later;
      settings = r.carried.carries.tells.settings;
    }

-- the formula ended in a piece, and its last question was answered
pub answers_piece : (input taken : ℕ) (reader new : Reader) (report : Report) (before between now : Port) (start a b c : World) (piece : List ℕ) → Reads input taken reader before.bytes between.bytes before.faults between.faults start a
    → Consumes between.bytes now.bytes piece → now.faults ≡ between.faults → ForText reader a (λ limit text from. HasCarried limit (text ++ piece) new from b)
    → ((text : List ℕ) (given : List Command) → HasRead (limits_of input) text given new → (rest : List ℕ) → reading_of (limits_of input) (text ++ rest) ≡ reading given Ended)
    → ForRun b (λ from given. AnswersAll (reading given Ended) report from c) → AnswersText input report before now start c
answers_piece input taken reader new report before between now start a b c piece r p kept on settled last =
    let h = on input r.text start r.carried in
    let text = r.text ++ piece in
    let all = settled text h.given h.read in
    let whole : reading_of (limits_of input) text ≡ reading h.given Ended = ap (reading_of (limits_of input)) (sym (append-nil text)) ∙ all [] in
    record {
      text = text;
      consumed = Consumes-trans before.bytes between.bytes now.bytes r.text piece r.consumed p;
      whole = inr (λ rest. all rest ∙ sym whole);
      kept = kept ∙ r.kept;
      answered = subst (λ (x : Reading). AnswersAll x report start c) (sym whole) (last start h.given h.carries h.began);
    }

-- the formula ended in a piece, and its last question was not answered by a whole block
pub stops_last : (input taken : ℕ) (reader new : Reader) (why : Stop) (before between now : Port) (start a b c : World) (piece : List ℕ) → Reads input taken reader before.bytes between.bytes before.faults between.faults start a
    → Consumes between.bytes now.bytes piece → now.faults ≡ between.faults → ForText reader a (λ limit text from. HasCarried limit (text ++ piece) new from b)
    → ((text : List ℕ) (given : List Command) → HasRead (limits_of input) text given new → (rest : List ℕ) → reading_of (limits_of input) (text ++ rest) ≡ reading given Ended)
    → ForRun b (λ from given. StopsRight why (reading given Ended) from c) → StopsText input why before now start c
stops_last input taken reader new why before between now start a b c piece r p kept on settled last =
    let h = on input r.text start r.carried in
    let text = r.text ++ piece in
    let all = settled text h.given h.read in
    let s : (rest : List ℕ) → StopsRight why (reading_of (limits_of input) (text ++ rest)) start c = λ rest.
    subst (λ (x : Reading). StopsRight why x start c) (sym (all rest)) (last start h.given h.carries h.began) in
    stops_text input why before now text start c (Consumes-trans before.bytes between.bytes now.bytes r.text piece r.consumed p) (kept ∙ r.kept) (s []) (λ rest _. s rest)

-- a stop whose name is known
pub named_text : (x y : Stop) (input : ℕ) (before now : Port) (a b : World) → x ≡ y → StopsText input y before now a b → StopsText input x before now a b
named_text x y input before now a b e s = subst (λ (z : Stop). StopsText input z before now a b) (sym e) s
