-- How the reading of a text is answered, from its start on.
use Rattle.std.proofs.Common.{◌≡◌, ◌≤◌, ℕ, List, [], ◌∷◌, ◌++◌, Result, Err, refl, sym, ap, ◌∙◌, subst, inl, inr, append-nil, arith}
use Rattle.std.specs.Io.KnownBytes.{Appends}
use Rattle.std.proofs.KnownBytes.{Appends-trans}
use Rattle.sat_lits.specs.Meaning.{Problem}
use Rattle.sat_lits.specs.Formulas.{no_problem}
use Rattle.sat_lits.specs.declared.shared.Shared.{Shared}
use Rattle.sat_ports.specs.Causes.{Rose, RoseBy}
use Rattle.sat_ports.specs.Writes.{AppendsFront}
use Rattle.sat_api.specs.State.{SolverState}
use Rattle.dimacs_text.specs.Grammar.{Reading}
use Rattle.dimacs_text.specs.Lists.{End, Ended, Refused}
use Rattle.dimacs_text.specs.Texts.{text_of_refusal}
use Rattle.dimacs_text.specs.declared.command.Command.{Command}
use Rattle.dimacs_text.specs.declared.refusal.Refusal.{Refusal}
use Rattle.sat_run.specs.Questions.{Question, question, questions_from, questions_of, closing, after_all, problem_of}
use Rattle.sat_run.specs.Reports.{Block, block, text_of_block, blocks_text, conflicts_of_all, raises_of_all}
use Rattle.sat_run.specs.Writing.{WritesText}
use Rattle.sat_run.specs.Errors.{halted}
use Rattle.sat_run.specs.World.{World, listed_in, KeepsSettings, Tells, Carries, AnswersOne, StopsAmong}
use Rattle.sat_run.specs.Runs.{AnswersAll, AnswersRefusal, StopsRight}
use Rattle.sat_run.specs.declared.report.Report.{Report}
use Rattle.sat_run.specs.declared.failures.Halt.{Halt}
use Rattle.sat_run.specs.declared.failures.Halt.TheVariants.{Memory, Write}
use Rattle.sat_run.specs.declared.failures.Stop.{Stop}
use Rattle.sat_run.proofs.Joins.{carries_then, tells_then, listed_then, stops_after, stops_more, stops_commands, stops_here, questions_from-append, blocks_text-append}

abbrev pub reading : List Command → End → Reading
reading commands end = record { commands = commands; end = end }

-- a block that was not written whole stops a run
stop_right : (h : Halt) (r : Reading) (a b : World) → StopsAmong h (questions_of r) a b → StopsRight (halted h) r a b
stop_right Memory r a b s = s
stop_right Write r a b s = inl s

-- a stop among the questions of commands is one of each reading that begins with them
pub stop_front : (h : Halt) (commands more : List Command) (end : End) (a b : World) → a.solver.problem ≡ no_problem → StopsAmong h (questions_from a.solver.problem commands) a b
    → StopsRight (halted h) (reading (commands ++ more) end) a b
stop_front h commands more end a b began s =
    let all = commands ++ more in
    stop_right h (reading all end) a b
    (stops_more h (questions_from no_problem all) (closing end (problem_of all)) a b
    (subst (λ (qs : List Question). StopsAmong h qs a b) (sym (questions_from-append no_problem commands more))
    (stops_more h (questions_from no_problem commands) (questions_from (problem_of commands) more) a b
    (subst (λ (f : Problem). StopsAmong h (questions_from f commands) a b) began s))))

-- a stop among commands behind those that were given
pub stop_behind : (h : Halt) (given commands more : List Command) (end : End) (a b c : World) → a.solver.problem ≡ no_problem → Carries given a b → StopsAmong h (questions_from b.solver.problem commands) b c
    → StopsRight (halted h) (reading ((given ++ commands) ++ more) end) a c
stop_behind h given commands more end a b c began p s = stop_front h (given ++ commands) more end a c began (stops_commands h given commands a b c p s)

-- the same where the reading has no more commands
pub stop_last : (h : Halt) (given commands : List Command) (end : End) (a b c : World) → a.solver.problem ≡ no_problem → Carries given a b → StopsAmong h (questions_from b.solver.problem commands) b c
    → StopsRight (halted h) (reading (given ++ commands) end) a c
stop_last h given commands end a b c began p s =
    subst (λ (cs : List Command). StopsRight (halted h) (reading cs end) a c) (append-nil (given ++ commands)) (stop_behind h given commands [] end a b c began p s)

-- what was told of the commands is told of the questions of a text that is refused behind them
refused_tells : (commands : List Command) (why : Refusal) (blocks : List Block) (a b : World) → a.solver.problem ≡ no_problem → Tells (questions_from a.solver.problem commands) blocks a b
    → Tells (questions_of (reading commands (Refused why))) blocks a b
refused_tells commands why blocks a b began t =
    subst (λ (qs : List Question). Tells qs blocks a b) (sym (append-nil (questions_from no_problem commands))) (subst (λ (f : Problem). Tells (questions_from f commands) blocks a b) began t)

-- only the sink differs
record SameBut (a b : World) : Type 0 where
  pub solver : b.solver ≡ a.solver
  pub raised : b.raised ≡ a.raised
  pub shares : b.shares ≡ a.shares

tells_but : (qs : List Question) (blocks : List Block) (a b c : World) → SameBut b c → Tells qs blocks a b → Tells qs blocks a c
tells_but qs blocks a b c same t =
    record {
      right = t.right;
      counted = subst (λ (s : SolverState). RoseBy (conflicts_of_all blocks) a.solver.counted s.counted) (sym same.solver) t.counted;
      raised = subst (RoseBy (raises_of_all blocks) a.raised) (sym same.raised) t.raised;
      later = subst (λ (n : ℕ). a.raised ≤ n) (sym same.raised) t.later;
      settings = subst (λ (s : SolverState). KeepsSettings a.solver s) (sym same.solver) t.settings;
      shares = same.shares ∙ t.shares;
    }

-- the refusal's text was written, or not whole
pub refusal_written : (given commands : List Command) (why : Refusal) (a b c d : World) → a.solver.problem ≡ no_problem → Carries given a b → Carries commands b c → d.solver ≡ c.solver → d.raised ≡ c.raised → d.shares ≡ c.shares
    → Appends c.sink.bytes d.sink.bytes (text_of_refusal why) → d.sink.faults ≡ c.sink.faults → AnswersRefusal (reading (given ++ commands) (Refused why)) a d
refusal_written given commands why a b c d began p q solver raised shares written kept =
    let k = carries_then given commands a b c p q in
    record {
      why = why;
      refused = refl;
      blocks = k.blocks;
      tells = tells_but _ k.blocks a c d (record { solver = solver; raised = raised; shares = shares }) (refused_tells (given ++ commands) why k.blocks a c began k.tells);
      written = Appends-trans a.sink.bytes c.sink.bytes d.sink.bytes _ _ k.written written;
      kept = kept ∙ k.kept;
    }

pub refusal_stops : {X : Type 0} (h : Halt) (given commands : List Command) (why : Refusal) (result : Result X Halt) (a b c d : World) → result ≡ Err h → a.solver.problem ≡ no_problem → Carries given a b → Carries commands b c
    → d.solver ≡ c.solver → d.raised ≡ c.raised → d.shares ≡ c.shares → WritesText (text_of_refusal why) result c.sink d.sink → StopsRight (halted h) (reading (given ++ commands) (Refused why)) a d
refusal_stops Memory given commands why result a b c d e began p q solver raised shares written =
    stop_last Memory given commands (Refused why) a b d began p
    (let s = stops_commands Memory commands [] b c d q (stops_here [] c d (let x = ap (λ (t : SolverState). t.counted) solver in omega arith) (omega (arith, raised))
    (record { limits = ap (λ (t : SolverState). t.limits) solver; threads = ap (λ (t : SolverState). t.threads) solver; max_conflicts = ap (λ (t : SolverState). t.max_conflicts) solver }) shares (written.none e)) in
    subst (λ (cs : List Command). StopsAmong Memory (questions_from b.solver.problem cs) b d) (append-nil commands) s)
refusal_stops Write given commands why result a b c d e began p q solver raised shares written =
    let k = carries_then given commands a b c p q in
    let front : AppendsFront c.sink.bytes d.sink.bytes (text_of_refusal why) = written.front e in
    inr (record {
      why = why;
      refused = refl;
      blocks = k.blocks;
      tells = tells_but _ k.blocks a c d (record { solver = solver; raised = raised; shares = shares }) (refused_tells (given ++ commands) why k.blocks a c began k.tells);
      count = front.0;
      written = Appends-trans a.sink.bytes c.sink.bytes d.sink.bytes _ _ k.written front.2;
      fault = subst (λ (n : ℕ). Rose n d.sink.faults) k.kept (written.fault e);
    })

-- the formula of a run whose commands are these
pub run_problem : (given : List Command) (a b : World) → a.solver.problem ≡ no_problem → Carries given a b → b.solver.problem ≡ problem_of given
run_problem given a b began p = p.problem ∙ ap (λ (f : Problem). after_all f given) began

-- the question at the end was answered
pub all_answered : (given : List Command) (report : Report) (a b c : World) → a.solver.problem ≡ no_problem → Carries given a b → AnswersOne (question b.solver.problem []) report b c
    → AnswersAll (reading given Ended) report a c
all_answered given report a b c began p h =
    let e = run_problem given a b began p in
    let last = block report h.entries in
    record {
      ended = refl;
      earlier = p.blocks;
      entries = h.entries;
      tells =
          subst (λ (f : Problem). Tells (questions_from no_problem given ++ question f [] ∷ []) (p.blocks ++ last ∷ []) a c) e
          (subst (λ (f : Problem). Tells (questions_from f given ++ question b.solver.problem [] ∷ []) (p.blocks ++ last ∷ []) a c) began
          (tells_then (questions_from a.solver.problem given) (question b.solver.problem [] ∷ []) p.blocks (last ∷ []) a b c p.tells p.listed h.tells));
      listed = listed_then p.blocks (last ∷ []) a b c p.listed (h.listed ∙ ap (λ (es : List Shared). listed_in b ++ es) (sym (append-nil h.entries)));
      written =
          subst (Appends a.sink.bytes c.sink.bytes) (ap (λ (xs : List ℕ). blocks_text p.blocks ++ xs) (sym (append-nil (text_of_block last))) ∙ sym (blocks_text-append p.blocks (last ∷ [])))
          (Appends-trans a.sink.bytes b.sink.bytes c.sink.bytes _ _ p.written h.written);
      kept = h.kept ∙ p.kept;
      problem = h.problem ∙ e;
      told = h.told;
    }

-- the question at the end was not answered by a whole block
pub last_stopped : (h : Halt) (given : List Command) (a b c : World) → a.solver.problem ≡ no_problem → Carries given a b → StopsAmong h (question b.solver.problem [] ∷ []) b c
    → StopsRight (halted h) (reading given Ended) a c
last_stopped h given a b c began p s =
    stop_right h (reading given Ended) a c
    (subst (λ (f : Problem). StopsAmong h (questions_from no_problem given ++ question f [] ∷ []) a c) (run_problem given a b began p)
    (subst (λ (f : Problem). StopsAmong h (questions_from f given ++ question b.solver.problem [] ∷ []) a c) began
    (stops_after h (questions_from a.solver.problem given) (question b.solver.problem [] ∷ []) p.blocks a b c p.tells p.listed p.written p.kept s)))

-- a stop whose name is known
pub named_stop : (x y : Stop) (r : Reading) (a b : World) → x ≡ y → StopsRight y r a b → StopsRight x r a b
named_stop x y r a b e s = subst (λ (z : Stop). StopsRight z r a b) (sym e) s
