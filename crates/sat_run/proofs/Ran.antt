-- What a run comes to.
use Rattle.std.proofs.Common.{◌≡◌, ◌≢◌, ◌⊎◌, ℕ, zero, suc, ◌+◌, ◌<◌, ◌≤◌, List, [], ◌∷◌, ◌++◌, Some, None, refl, sym, ap, ◌∙◌, subst, inl, inr, append-nil, arith}
use Rattle.std.specs.declared.option.Option.{Option}
use Rattle.std.specs.Option.{ForSome}
use Rattle.std.specs.Io.KnownBytes.{Consumes, IsAtEnd}
use Rattle.std.proofs.lemmas.Bool.{true≢false}
use Rattle.sat_lits.specs.Limits.{LimitNumbers}
use Rattle.sat_ports.specs.Causes.{Rose, RoseBy}
use Rattle.sat_lits.specs.Conflicts.{own_count, enough}
use Rattle.sat_lits.specs.declared.shared.Shared.{Shared}
use Rattle.sat_lits.specs.declared.verdict.Verdict.TheVariants as verdict
use Rattle.sat_api.specs.Laws.{makes_true-StandAt}
use Rattle.dimacs_text.specs.Grammar.{Reading, reading_of}
use Rattle.dimacs_text.specs.Lists.{Ended}
use Rattle.sat_run.specs.Questions.{Question, questions_of}
use Rattle.sat_run.specs.Reports.{Block, block, Rules, IsRightReport, IsDecided, AreRight, AreDecided, raises_of, raises_of_all, status_of}
use Rattle.sat_run.specs.Words.{options_of, input_of, threads_of}
use Rattle.sat_run.specs.Writing.{Port}
use Rattle.sat_run.specs.Progress.{limits_of, ReadsNoMore}
use Rattle.sat_run.specs.World.{World, rules_of, listed_in}
use Rattle.sat_run.specs.Runs.{AnswersRefusal, StopsRight, AnswersText, StopsText, AnswersDecided, IsSourceAt, IsSinkAt, IsAmong, LeavesEnough, DecidesAll, set_world, end_world, reading_with, most_read, status_at, RunsRight}
use Rattle.sat_run.specs.declared.report.Report.{Report}
use Rattle.sat_run.specs.declared.report.Report.TheVariants as report
use Rattle.sat_run.specs.declared.failures.Stop.{Stop}
use Rattle.sat_run.specs.declared.failures.Stop.TheVariants as stop
use Rattle.sat_run.specs.declared.words.Options.{Options}

-- what was read and what is left are the whole text
left_text : (before now : Option (List ℕ)) (read text : List ℕ) → before ≡ Some text → Consumes before now read → (rest : List ℕ) × (now ≡ Some rest) × (read ++ rest ≡ text)
left_text None now read text e c = absurd cc
left_text (Some bytes) None read text e c = absurd c
left_text (Some bytes) (Some rest) read text e c = let same : bytes ≡ text = cc in (rest, refl, sym c ∙ same)

-- nothing is left at the end
none_left : (now : Option (List ℕ)) (rest : List ℕ) → now ≡ Some rest → IsAtEnd now → rest ≡ []
none_left None rest e end = absurd cc
none_left (Some bytes) rest e end = let same : bytes ≡ rest = cc in sym same ∙ end

-- the reading of the whole text is that of what was read of it
whole_reading : (input : ℕ) (last : Report) (before now : Port) (old new : World) (text : List ℕ) → before.bytes ≡ Some text → (h : AnswersText input last before now old new) → reading_of (limits_of input) text ≡ reading_of (limits_of input) h.text
whole_reading input last before now old new text e h = go h.whole
  where
    l : (rest : List ℕ) × (now.bytes ≡ Some rest) × (h.text ++ rest ≡ text)
    l = left_text before.bytes now.bytes h.text text e h.consumed

    go : IsAtEnd now.bytes ⊎ ((rest : List ℕ) → reading_of (limits_of input) (h.text ++ rest) ≡ reading_of (limits_of input) h.text) → reading_of (limits_of input) text ≡ reading_of (limits_of input) h.text
    go (inl end) = ap (reading_of (limits_of input)) (sym l.2 ∙ ap (λ (xs : List ℕ). h.text ++ xs) (none_left now.bytes l.0 l.1 end) ∙ append-nil h.text)
    go (inr all) = ap (reading_of (limits_of input)) (sym l.2) ∙ all l.0

same_options : (words : List (List ℕ)) (a b : Options) → options_of words ≡ Some a → options_of words ≡ Some b → a ≡ b
same_options words a b e f = let g : Some a ≡ Some b = sym e ∙ f in cc

not_refused : (words : List (List ℕ)) (options : Options) → options_of words ≡ Some options → options_of words ≡ None → ⊥
not_refused words options e f = let g : Some options ≡ None = sym e ∙ f in cc

too_few : (m n : ℕ) → m < n → n ≤ m → ⊥
too_few m n h k = omega arith

-- where the alarm was not raised, no report tells of a raise
no_raises : (count before now : ℕ) → RoseBy count before now → (Rose before now → ⊥) → count ≡ 0
no_raises zero before now rose quiet = refl
no_raises (suc count) before now rose quiet = absurd (quiet (omega (arith, rose)))

-- where the limit is enough, a right report that tells of no raise decides
decided_one : (rules : Rules) (q : Question) (r : Report) → IsRightReport rules q r → ForSome rules.max_conflicts (λ m. enough (own_count q.problem) ≤ m) → raises_of r ≡ 0 → IsDecided q r
decided_one rules q (report.Verdict (verdict.Sat values)) right leaves none = (values, right.0, right.1)
decided_one rules q (report.Verdict (verdict.Unsat failed)) right leaves none =
    λ (values, model, made). true≢false (sym (makes_true-StandAt values q.assumptions right.positions failed right.places made) ∙ right.contradict values model)
decided_one rules q report.Alarm right leaves none = absurd (omega (arith, none))
decided_one rules q (report.Limit counts) right leaves none = too_few right.limit (enough (own_count q.problem)) right.few (leaves right.limit right.is_given)

all_decided : (rules : Rules) (listed : List Shared) (qs : List Question) (bs : List Block) → AreRight rules listed qs bs → LeavesEnough rules.max_conflicts qs → raises_of_all bs ≡ 0 → AreDecided qs bs
all_decided rules listed [] [] right leaves none = tt
all_decided rules listed [] (b ∷ bs) right leaves none = absurd right
all_decided rules listed (q ∷ qs) [] right leaves none = absurd right
all_decided rules listed (q ∷ qs) (b ∷ bs) right leaves none = (
  decided_one rules q b.told right.0 (λ m e. (leaves m e).0) (omega (arith, none)),
  all_decided rules (listed ++ b.entries) qs bs right.2 (λ m e. (leaves m e).1) (omega (arith, none)),
)

-- the last of decided blocks is a verdict
last_decided : (qs : List Question) (bs : List Block) (last : Block) → AreDecided qs (bs ++ last ∷ []) → (q : Question) × IsDecided q last.told
last_decided [] [] last d = absurd d
last_decided [] (b ∷ bs) last d = absurd d
last_decided (q ∷ qs) [] last d = (q, d.0)
last_decided (q ∷ qs) (b ∷ bs) last d = last_decided qs bs last d.1

decided_status : (q : Question) (last : Report) (status : ℕ) → status ≡ status_of last → IsDecided q last → IsAmong (10 ∷ 20 ∷ []) status
decided_status q (report.Verdict (verdict.Sat values)) status e d = inl e
decided_status q (report.Verdict (verdict.Unsat failed)) status e d = inr (inl e)
decided_status q (report.Limit counts) status e d = absurd d
decided_status q report.Alarm status e d = absurd d

report_status : (r : Report) (status : ℕ) → status ≡ status_of r → IsAmong (10 ∷ 15 ∷ 20 ∷ []) status
report_status (report.Verdict (verdict.Sat values)) status e = inl e
report_status (report.Limit counts) status e = inr (inl e)
report_status report.Alarm status e = inr (inl e)
report_status (report.Verdict (verdict.Unsat failed)) status e = inr (inr (inl e))

-- no report has a low status
not_low : (status low : ℕ) → IsAmong (10 ∷ 15 ∷ 20 ∷ []) status → low < 10 → status ≡ low → ⊥
not_low status low (inl e) h f = omega arith
not_low status low (inr (inl e)) h f = omega arith
not_low status low (inr (inr (inl e))) h f = omega arith
not_low status low (inr (inr (inr e))) h f = e

-- every question was answered
answered_run : (words : List (List ℕ)) (options : Options) (last : Report) (status : ℕ) (before now : Port) (old new : World) → options_of words ≡ Some options → status ≡ status_of last
    → AnswersText (input_of options) last before now (set_world options old) (end_world options new) → ReadsNoMore (most_read options) before.bytes now.bytes → RunsRight words status before now old new
answered_run words options last status before now old new taken e h little =
    let high = report_status last status e in
    let same : (other : Options) → options_of words ≡ Some other → options ≡ other = λ other f. same_options words options other taken f in
    let tells = h.answered.tells in
    record {
      statuses = inr (inr (inr (inr (inr high))));
      words_refused = (λ one. absurd (not_low status 1 high (omega arith) one), λ none. absurd (not_refused words options taken none));
      untouched = λ one. absurd (not_low status 1 high (omega arith) one);
      limited = λ other f. tells.settings.max_conflicts ∙ ap (λ (o : Options). o.max_conflicts) (same other f);
      threaded = λ other f. tells.settings.threads ∙ ap threads_of (same other f);
      answered = λ other f among. subst (λ (o : Options). (r : Report) × (status ≡ status_of r) × AnswersText (input_of o) r before now (set_world o old) (end_world o new)) (same other f) (last, e, h);
      refused = λ other f text told two. absurd (not_low status 2 high (omega arith) two);
      refused_exactly = λ other f text told three four five. (
        λ two. absurd (not_low status 2 high (omega arith) two),
        λ unended. absurd (unended (subst (λ (o : Options). (reading_with o text).end ≡ Ended) (same other f) (ap (λ (r : Reading). r.end) (whole_reading (input_of options) last before now (set_world options old) (end_world options new) text told h) ∙ h.answered.ended))),
      );
      read_fault = λ three. absurd (not_low status 3 high (omega arith) three);
      read_failed = λ other f three. absurd (not_low status 3 high (omega arith) three);
      write_fault = λ four. absurd (not_low status 4 high (omega arith) four);
      write_failed = λ other f text told four. absurd (not_low status 4 high (omega arith) four);
      reads_kept = λ _. h.kept;
      writes_kept = λ _. h.answered.kept;
      out_of_memory = λ other f text told five. absurd (not_low status 5 high (omega arith) five);
      reads_little = λ other f. subst (λ (o : Options). ReadsNoMore (most_read o) before.bytes now.bytes) (same other f) little;
      later = tells.later;
      complete = λ other f text told ended no_read no_write no_raise leaves. inr (
          let P = λ (o : Options). LeavesEnough o.max_conflicts (questions_of (reading_with o text)) in
          let whole = whole_reading (input_of options) last before now (set_world options old) (end_world options new) text told h in
          let left : LeavesEnough options.max_conflicts (questions_of (reading_of (limits_of (input_of options)) h.text)) =
          subst (λ (r : Reading). LeavesEnough options.max_conflicts (questions_of r)) whole (subst P (sym (same other f)) leaves) in
          let decided = all_decided (rules_of (set_world options old)) (listed_in (set_world options old)) (questions_of (reading_of (limits_of (input_of options)) h.text)) (h.answered.earlier ++ block last h.answered.entries ∷ []) tells.right left (no_raises _ old.raised new.raised tells.raised no_raise) in
          let one = last_decided (questions_of (reading_of (limits_of (input_of options)) h.text)) h.answered.earlier (block last h.answered.entries) decided in (
            decided_status one.0 last status e one.1,
            subst (λ (o : Options). DecidesAll (questions_of (reading_with o text)) old new) (same other f)
                (subst (λ (r : Reading). DecidesAll (questions_of r) old new) (sym whole) (record { blocks = h.answered.earlier ++ block last h.answered.entries ∷ []; decided = decided; written = h.answered.written })),
          )
          );
    }

-- which stop a status tells of
is_refused : (s : Stop) → status_at s ≡ 2 → s ≡ stop.Refused
is_refused stop.Refused e = refl
is_refused stop.Read e = absurd (omega arith)
is_refused stop.Write e = absurd (omega arith)
is_refused stop.Memory e = absurd (omega arith)

is_read : (s : Stop) → status_at s ≡ 3 → s ≡ stop.Read
is_read stop.Refused e = absurd (omega arith)
is_read stop.Read e = refl
is_read stop.Write e = absurd (omega arith)
is_read stop.Memory e = absurd (omega arith)

is_write : (s : Stop) → status_at s ≡ 4 → s ≡ stop.Write
is_write stop.Refused e = absurd (omega arith)
is_write stop.Read e = absurd (omega arith)
is_write stop.Write e = refl
is_write stop.Memory e = absurd (omega arith)

is_memory : (s : Stop) → status_at s ≡ 5 → s ≡ stop.Memory
is_memory stop.Refused e = absurd (omega arith)
is_memory stop.Read e = absurd (omega arith)
is_memory stop.Write e = absurd (omega arith)
is_memory stop.Memory e = refl

stop_status : (s : Stop) → IsAmong (1 ∷ 2 ∷ 3 ∷ 4 ∷ 5 ∷ 10 ∷ 15 ∷ 20 ∷ []) (status_at s) × (1 < status_at s) × (status_at s < 6)
stop_status stop.Refused = (inr (inl refl), omega arith, omega arith)
stop_status stop.Read = (inr (inr (inl refl)), omega arith, omega arith)
stop_status stop.Write = (inr (inr (inr (inl refl))), omega arith, omega arith)
stop_status stop.Memory = (inr (inr (inr (inr (inl refl)))), omega arith, omega arith)

only_two : (s : Stop) → status_at s ≢ 3 → status_at s ≢ 4 → status_at s ≢ 5 → status_at s ≡ 2
only_two stop.Refused three four five = refl
only_two stop.Read three four five = absurd (three refl)
only_two stop.Write three four five = absurd (four refl)
only_two stop.Memory three four five = absurd (five refl)

only_five : (s : Stop) → status_at s ≢ 2 → status_at s ≢ 3 → status_at s ≢ 4 → status_at s ≡ 5
only_five stop.Refused two three four = absurd (two refl)
only_five stop.Read two three four = absurd (three refl)
only_five stop.Write two three four = absurd (four refl)
only_five stop.Memory two three four = refl

source_kept : (s : Stop) (before now : Port) → status_at s ≢ 3 → IsSourceAt s before now → now.faults ≡ before.faults
source_kept stop.Refused before now three h = h
source_kept stop.Read before now three h = absurd (three refl)
source_kept stop.Write before now three h = h
source_kept stop.Memory before now three h = h

sink_kept : (s : Stop) (before now : Port) → status_at s ≢ 4 → IsSinkAt s before now → now.faults ≡ before.faults
sink_kept stop.Refused before now four h = h
sink_kept stop.Read before now four h = h
sink_kept stop.Write before now four h = absurd (four refl)
sink_kept stop.Memory before now four h = h

-- what was done is right for the whole text
stopped_right : (input : ℕ) (s : Stop) (before now : Port) (old new : World) (text : List ℕ) → s ≢ stop.Read → before.bytes ≡ Some text → StopsText input s before now old new → StopsRight s (reading_of (limits_of input) text) old new
stopped_right input s before now old new text other e h =
    let l = left_text before.bytes now.bytes h.text text e h.consumed in
    subst (λ (xs : List ℕ). StopsRight s (reading_of (limits_of input) xs) old new) l.2 (h.stopped other l.0 l.1)

-- what was done is right, where the status tells which stop it was
right_at : (input : ℕ) (s t : Stop) (before now : Port) (old new : World) (text : List ℕ) → s ≡ t → t ≢ stop.Read → before.bytes ≡ Some text → StopsText input s before now old new → StopsRight t (reading_of (limits_of input) text) old new
right_at input s t before now old new text same other e h =
    stopped_right input t before now old new text other e (subst (λ (x : Stop). StopsText input x before now old new) same h)

refused_end : (r : Reading) (old new : World) → AnswersRefusal r old new → r.end ≢ Ended
refused_end r old new h e = let why = h.refused in cc

-- the run stopped before all questions were answered
stopped_run : (words : List (List ℕ)) (options : Options) (s : Stop) (status : ℕ) (before now : Port) (old new : World) → options_of words ≡ Some options → status ≡ status_at s
    → StopsText (input_of options) s before now (set_world options old) (end_world options new) → ReadsNoMore (most_read options) before.bytes now.bytes → RunsRight words status before now old new
stopped_run words options s status before now old new taken e h little = subst (λ (n : ℕ). RunsRight words n before now old new) (sym e) (record {
  statuses = bounds.0;
  words_refused = (λ one. absurd (omega (arith, bounds.1)), λ none. absurd (not_refused words options taken none));
  untouched = λ one. absurd (omega (arith, bounds.1));
  limited = λ other f. h.settings.max_conflicts ∙ ap (λ (o : Options). o.max_conflicts) (same other f);
  threaded = λ other f. h.settings.threads ∙ ap threads_of (same other f);
  answered = λ other f among. absurd (not_low (status_at s) (status_at s) among (omega (arith, bounds.2)) refl);
  refused = refusal;
  refused_exactly = λ other f text told three four five. (λ two. refused_end (reading_with other text) (set_world other old) (end_world other new) (refusal other f text told two), λ unended. only_two s three four five);
  read_fault = λ three. subst (λ (x : Stop). IsSourceAt x before now) (is_read s three) h.source;
  read_failed = λ other f three. subst (λ (o : Options). AnswersDecided (input_of o) before now (set_world o old) (end_world o new)) (same other f) (record { text = h.text; consumed = h.consumed; carries = h.decided (is_read s three) });
  write_fault = λ four. subst (λ (x : Stop). IsSinkAt x old.sink new.sink) (is_write s four) h.sink;
  write_failed = λ other f text told four. subst (λ (o : Options). StopsRight stop.Write (reading_with o text) (set_world o old) (end_world o new)) (same other f)
      (right_at (input_of options) s stop.Write before now (set_world options old) (end_world options new) text (is_write s four) (λ x. cc) told h);
  reads_kept = λ three. source_kept s before now three h.source;
  writes_kept = λ four. sink_kept s old.sink new.sink four h.sink;
  out_of_memory = λ other f text told five. subst (λ (o : Options). StopsRight stop.Memory (reading_with o text) (set_world o old) (end_world o new)) (same other f)
      (right_at (input_of options) s stop.Memory before now (set_world options old) (end_world options new) text (is_memory s five) (λ x. cc) told h);
  reads_little = λ other f. subst (λ (o : Options). ReadsNoMore (most_read o) before.bytes now.bytes) (same other f) little;
  later = h.later;
  complete = λ other f text told ended no_read no_write no_raise leaves. inl (only_five s
      (λ two. refused_end (reading_with other text) (set_world other old) (end_world other new) (refusal other f text told two) ended)
      (λ three. no_read (subst (λ (x : Stop). IsSourceAt x before now) (is_read s three) h.source))
      (λ four. no_write (subst (λ (x : Stop). IsSinkAt x old.sink new.sink) (is_write s four) h.sink)));
})
  where
    bounds : IsAmong (1 ∷ 2 ∷ 3 ∷ 4 ∷ 5 ∷ 10 ∷ 15 ∷ 20 ∷ []) (status_at s) × (1 < status_at s) × (status_at s < 6)
    bounds = stop_status s

    same : (other : Options) → options_of words ≡ Some other → options ≡ other
    same other f = same_options words options other taken f

    refusal : (other : Options) → options_of words ≡ Some other → (text : List ℕ) → before.bytes ≡ Some text → status_at s ≡ 2 → AnswersRefusal (reading_with other text) (set_world other old) (end_world other new)
    refusal other f text told two = subst (λ (o : Options). AnswersRefusal (reading_with o text) (set_world o old) (end_world o new)) (same other f)
        (right_at (input_of options) s stop.Refused before now (set_world options old) (end_world options new) text (is_refused s two) (λ x. cc) told h)

-- the words are not taken
pub ran_not : (words : List (List ℕ)) (before : Port) (old : World) → options_of words ≡ None → RunsRight words 1 before before old old
ran_not words before old e =
    record {
      statuses = inl refl;
      words_refused = (λ _. e, λ _. refl);
      untouched = λ _. (refl, refl);
      limited = λ o f. absurd (not_refused words o f e);
      threaded = λ o f. absurd (not_refused words o f e);
      answered = λ o f among. absurd (not_refused words o f e);
      refused = λ o f text told two. absurd (not_refused words o f e);
      refused_exactly = λ o f text told three four five. absurd (not_refused words o f e);
      read_fault = λ three. absurd (omega arith);
      read_failed = λ o f three. absurd (not_refused words o f e);
      write_fault = λ four. absurd (omega arith);
      write_failed = λ o f text told four. absurd (not_refused words o f e);
      reads_kept = λ _. refl;
      writes_kept = λ _. refl;
      out_of_memory = λ o f text told five. absurd (not_refused words o f e);
      reads_little = λ o f. absurd (not_refused words o f e);
      later = omega arith;
      complete = λ o f text told ended no_read no_write no_raise leaves. absurd (not_refused words o f e);
    }

-- the same, from the solver whose limit and threads the words set
pub ran_answer : (words : List (List ℕ)) (options : Options) (limits : LimitNumbers) (last : Report) (status : ℕ) (before now : Port) (old between new : World) → options_of words ≡ Some options → limits.input ≡ input_of options → between ≡ set_world options old
    → status ≡ status_of last → AnswersText limits.input last before now between (end_world options new) → ReadsNoMore (limits.input + 65536) before.bytes now.bytes → RunsRight words status before now old new
ran_answer words options limits last status before now old between new taken same set e h little =
    answered_run words options last status before now old new taken e
    (subst (λ (n : ℕ). AnswersText n last before now (set_world options old) (end_world options new)) same (subst (λ (w : World). AnswersText limits.input last before now w (end_world options new)) set h))
    (subst (λ (n : ℕ). ReadsNoMore (n + 65536) before.bytes now.bytes) same little)

pub ran_stop : (words : List (List ℕ)) (options : Options) (limits : LimitNumbers) (s : Stop) (status : ℕ) (before now : Port) (old between new : World) → options_of words ≡ Some options → limits.input ≡ input_of options → between ≡ set_world options old
    → status ≡ status_at s → StopsText limits.input s before now between (end_world options new) → ReadsNoMore (limits.input + 65536) before.bytes now.bytes → RunsRight words status before now old new
ran_stop words options limits s status before now old between new taken same set e h little =
    stopped_run words options s status before now old new taken e
    (subst (λ (n : ℕ). StopsText n s before now (set_world options old) (end_world options new)) same (subst (λ (w : World). StopsText limits.input s before now w (end_world options new)) set h))
    (subst (λ (n : ℕ). ReadsNoMore (n + 65536) before.bytes now.bytes) same little)
