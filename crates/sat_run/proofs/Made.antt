-- How a question is answered, and a command carried out.
use Rattle.std.proofs.Common.{◌≡◌, ◌<◌, ◌≤◌, ℕ, max, Bool, true, false, if◌then◌else◌, List, [], ◌∷◌, ◌++◌, All, length, take, drop, Result, Err, refl, sym, ap, ◌∙◌, subst, append-nil, length-append, arith}
use Rattle.std.proofs.Math.Seq.{take-append_seam}
use Rattle.std.proofs.lemmas.Bool.{true≢false}
use Rattle.std.proofs.lemmas.List.{take-append-drop}
use Rattle.std.specs.Io.KnownBytes.{Appends}
use Rattle.std.proofs.KnownBytes.{Appends-nil}
use Rattle.sat_lits.specs.Meaning.{Problem}
use Rattle.sat_lits.specs.declared.formula.Item.{Item}
use Rattle.sat_lits.specs.Logs.{IsLegalLog}
use Rattle.sat_lits.specs.declared.literal.Lit.{Lit}
use Rattle.sat_lits.specs.declared.shared.Shared.{Shared}
use Rattle.sat_ports.specs.Causes.{RoseBy}
use Rattle.sat_ports.specs.Writes.{AppendsFront}
use Rattle.sat_api.specs.State.{SolverState, Keeps}
use Rattle.dimacs_text.specs.Commands.{items_of, named_by}
use Rattle.dimacs_text.specs.declared.command.Command.{Command}
use Rattle.dimacs_text.specs.declared.command.Command.TheVariants.{Solve}
use Rattle.sat_run.specs.Questions.{Question, question, questions_from, after, asked}
use Rattle.sat_run.specs.Reports.{Block, block, Rules, rules_with, AreRight, ListsRight, IsReportOn, text_of_block, conflicts_of_all, raises_of_all}
use Rattle.sat_run.specs.Writing.{Port, WritesText}
use Rattle.sat_run.specs.Progress.{settings_of}
use Rattle.sat_run.specs.World.{World, rules_of, listed_in, KeepsSettings, Tells, Carries, AnswersOne, StopsAmong}
use Rattle.sat_run.specs.declared.report.Report.{Report}
use Rattle.sat_run.specs.declared.failures.Halt.{Halt}
use Rattle.sat_run.specs.declared.failures.Halt.TheVariants.{Memory, Write}
use Rattle.sat_run.proofs.Joins.{same_rules, tells_none, stops_here, stops_after}

keeps_settings : (s t : SolverState) → Keeps s t → KeepsSettings s t
keeps_settings s t k = record { limits = k.limits; threads = k.threads; max_conflicts = k.max_conflicts }

-- what is shared is what was shared before, and what stands behind it
shared_more : (old new rest : List Shared) → new ≡ old ++ rest → new ≡ old ++ drop (length old) new
shared_more old new rest is =
    let front : take (length old) new ≡ old = ap (take (length old)) is ∙ take-append_seam old rest in
    sym (take-append-drop (length old) new) ∙ ap (λ (es : List Shared). es ++ drop (length old) new) front

-- a world of these parts
abbrev pub at : Bool → SolverState → ℕ → Port → World
at shares solver raised sink = record { shares = shares; solver = solver; raised = raised; sink = sink }

-- what is to be listed behind a question
abbrev pub listed_behind : Bool → SolverState → SolverState → List Shared
listed_behind shares s t = if shares then drop (length s.shared) t.shared else []

listed_more : (shares : Bool) (s t : SolverState) → Keeps s t → (if shares then t.shared else []) ≡ (if shares then s.shared else []) ++ listed_behind shares s t
listed_more true s t k = shared_more s.shared t.shared k.grows.rest k.grows.is
listed_more false s t k = refl

-- what is shared is not fewer than before
pub shared_within : (s t : SolverState) (before : ℕ) → Keeps s t → before ≡ length s.shared → before ≤ length t.shared
shared_within s t before k e = omega (arith, length-append s.shared k.grows.rest, ap (λ (es : List Shared). length es) k.grows.is, e)

-- the text of a block, where what is listed is what stands behind so many shared clauses
pub block_is : (report : Report) (shares : Bool) (s t : SolverState) (before : ℕ) (entries : List Shared) → before ≡ length s.shared → entries ≡ (if shares then drop before t.shared else [])
    → text_of_block (block report entries) ≡ text_of_block (block report (listed_behind shares s t))
block_is report shares s t before entries e is =
    ap (λ (es : List Shared). text_of_block (block report es)) (is ∙ ap (λ (n : ℕ). if shares then drop n t.shared else []) e)

lists_right : (shares : Bool) (s t : SolverState) → Keeps s t → ListsRight (rules_with shares s) s.problem ((if shares then s.shared else []) ++ listed_behind shares s t) (listed_behind shares s t)
lists_right true s t k =
    record {
      legal = λ _. subst (IsLegalLog s.problem) (shared_more s.shared t.shared k.grows.rest k.grows.is) k.legal;
      given = λ _. subst (All (λ (e : Shared). e.solver < s.threads)) (shared_more s.shared t.shared k.grows.rest k.grows.is) k.given;
      none = λ e. absurd (true≢false e);
    }
lists_right false s t k = record { legal = λ e. absurd (true≢false (sym e)); given = λ e. absurd (true≢false (sym e)); none = λ _. refl }

-- a report on a question tells of it
tells_one : (assumptions : List Lit) (report : Report) (shares : Bool) (s t : SolverState) (m n : ℕ) (x y : Port) → IsReportOn (question s.problem assumptions) s t m n report → Keeps s t → m ≤ n
    → Tells (question s.problem assumptions ∷ []) (block report (listed_behind shares s t) ∷ []) (at shares s m x) (at shares t n y)
tells_one assumptions report shares s t m n x y on keeps later =
    record {
      right = (on.right shares, lists_right shares s t keeps, tt);
      counted = omega (arith, on.counted);
      raised = omega (arith, on.raised);
      later = later;
      settings = keeps_settings s t keeps;
      shares = refl;
    }

-- a question was answered, and its block was written
pub answers_one : (assumptions : List Lit) (report : Report) (shares : Bool) (s t : SolverState) (m n : ℕ) (x y : Port) (text : List ℕ) → IsReportOn (question s.problem assumptions) s t m n report → Keeps s t → m ≤ n
    → text ≡ text_of_block (block report (listed_behind shares s t)) → Appends x.bytes y.bytes text → y.faults ≡ x.faults → AnswersOne (question s.problem assumptions) report (at shares s m x) (at shares t n y)
answers_one assumptions report shares s t m n x y text on keeps later is written kept =
    record {
      entries = listed_behind shares s t;
      tells = tells_one assumptions report shares s t m n x y on keeps later;
      listed = listed_more shares s t keeps;
      written = subst (Appends x.bytes y.bytes) is written;
      kept = kept;
      problem = keeps.problem;
      told = on.told;
    }

-- memory ran out before a block was made
pub stops_asking : (q : Question) (shares : Bool) (s t : SolverState) (m n : ℕ) (x : Port) → Keeps s t → m ≤ n → StopsAmong Memory (q ∷ []) (at shares s m x) (at shares t n x)
stops_asking q shares s t m n x keeps later = stops_here (q ∷ []) (at shares s m x) (at shares t n x) keeps.counted later (keeps_settings s t keeps) refl refl

-- a question was answered, and its block was not written whole
pub stops_block : {X : Type 0} (h : Halt) (assumptions : List Lit) (report : Report) (shares : Bool) (s t : SolverState) (m n : ℕ) (x y : Port) (text : List ℕ) (result : Result X Halt) → result ≡ Err h
    → IsReportOn (question s.problem assumptions) s t m n report → Keeps s t → m ≤ n → text ≡ text_of_block (block report (listed_behind shares s t)) → WritesText text result x y
    → StopsAmong h (question s.problem assumptions ∷ []) (at shares s m x) (at shares t n y)
stops_block Memory assumptions report shares s t m n x y text result e on keeps later is written =
    stops_here (question s.problem assumptions ∷ []) (at shares s m x) (at shares t n y) keeps.counted later (keeps_settings s t keeps) refl (written.none e)
stops_block Write assumptions report shares s t m n x y text result e on keeps later is written =
    let b = block report (listed_behind shares s t) in
    let front : AppendsFront x.bytes y.bytes (text_of_block b) = subst (AppendsFront x.bytes y.bytes) is (written.front e) in
    record {
      answered = question s.problem assumptions ∷ [];
      rest = [];
      all = refl;
      blocks = b ∷ [];
      tells = tells_one assumptions report shares s t m n x y on keeps later;
      text = take front.0 (text_of_block b);
      cut = ([], b, front.0, refl, refl);
      written = front.2;
      cause = written.fault e;
    }

-- a halt whose name is known
pub named_halt : (h k : Halt) (qs : List Question) (a b : World) → h ≡ k → StopsAmong k qs a b → StopsAmong h qs a b
named_halt h k qs a b e s = subst (λ (x : Halt). StopsAmong x qs a b) (sym e) s

-- what a solver is set to stays where its settings are as they were
set_as : (s t : SolverState) → settings_of t ≡ settings_of s → KeepsSettings s t
set_as s t e = record { limits = ap (λ (x : SolverState). x.limits) e; threads = ap (λ (x : SolverState). x.threads) e; max_conflicts = ap (λ (x : SolverState). x.max_conflicts) e }

counted_as : (s t : SolverState) → settings_of t ≡ settings_of s → t.counted ≡ s.counted
counted_as s t e = ap (λ (x : SolverState). x.counted) e

-- what is listed stays where nothing more is shared
listed_as : (a b : World) → settings_of b.solver ≡ settings_of a.solver → b.shares ≡ a.shares → listed_in b ≡ listed_in a
listed_as a b e same = let shared = ap (λ (x : SolverState). x.shared) e in λ i. if same i then shared i else []

listed_none : (a b : World) → settings_of b.solver ≡ settings_of a.solver → b.shares ≡ a.shares → listed_in b ≡ listed_in a ++ []
listed_none a b e same = listed_as a b e same ∙ sym (append-nil (listed_in a))

-- a formula that grew to what a command without items names
pub grown : (f g : Problem) (c : Command) (n : ℕ) → items_of c ≡ [] → n ≡ named_by c → g ≡ record { vars = max f.vars n; items = f.items } → g ≡ after f c
grown f g c n none e h =
    let made : ℕ → List Item → Problem = λ m xs. record { vars = max f.vars m; items = xs } in
    h ∙ ap (λ m. made m f.items) e ∙ ap (made (named_by c)) (sym (append-nil f.items) ∙ ap (λ xs. f.items ++ xs) (sym none))

-- memory ran out in a command that asks nothing
pub stops_quiet : (qs : List Question) (a b : World) → settings_of b.solver ≡ settings_of a.solver → b.shares ≡ a.shares → b.raised ≡ a.raised → b.sink ≡ a.sink → StopsAmong Memory qs a b
stops_quiet qs a b settings shares quiet same = stops_here qs a b (let e = counted_as a.solver b.solver settings in omega arith) (omega (arith, quiet)) (set_as a.solver b.solver settings) shares same

-- a command that asks nothing was carried out
pub carries_quiet : (c : Command) (a b : World) → asked a.solver.problem c ≡ [] → b.solver.problem ≡ after a.solver.problem c → settings_of b.solver ≡ settings_of a.solver → b.shares ≡ a.shares → b.raised ≡ a.raised → b.sink ≡ a.sink
    → Carries (c ∷ []) a b
carries_quiet c a b none problem settings shares quiet same =
    record {
      blocks = [];
      tells =
          subst (λ (qs : List Question). Tells (qs ++ []) [] a b) (sym none)
          (tells_none a b (let e = counted_as a.solver b.solver settings in omega arith) (omega (arith, quiet)) (set_as a.solver b.solver settings) shares);
      listed = listed_none a b settings shares;
      written = subst (λ (x : Port). Appends a.sink.bytes x.bytes []) (sym same) (Appends-nil a.sink.bytes);
      kept = ap (λ (x : Port). x.faults) same;
      problem = problem;
    }

-- the same for a command whose name is known
pub carries_named : (x c : Command) (a b : World) → x ≡ c → asked a.solver.problem c ≡ [] → b.solver.problem ≡ after a.solver.problem c → settings_of b.solver ≡ settings_of a.solver → b.shares ≡ a.shares → b.raised ≡ a.raised → b.sink ≡ a.sink
    → Carries (x ∷ []) a b
carries_named x c a b e none problem settings shares quiet same =
    subst (λ (y : Command). Carries (y ∷ []) a b) (sym e) (carries_quiet c a b none problem settings shares quiet same)

-- the question of a command was answered, after its variables were added
pub carries_question : (assumptions : List Lit) (report : Report) (a b c : World) → b.solver.problem ≡ after a.solver.problem (Solve assumptions) → settings_of b.solver ≡ settings_of a.solver → b.shares ≡ a.shares → b.raised ≡ a.raised → b.sink ≡ a.sink
    → AnswersOne (question b.solver.problem assumptions) report b c → Carries (Solve assumptions ∷ []) a c
carries_question assumptions report a b c problem settings shares quiet same h =
    let counted = counted_as a.solver b.solver settings in
    let set = set_as a.solver b.solver settings in
    let listed = listed_as a b settings shares in
    let made = block report h.entries in
    record {
      blocks = made ∷ [];
      tells = record {
        right =
            subst (λ (f : Problem). AreRight (rules_of a) (listed_in a) (question f assumptions ∷ []) (made ∷ [])) problem
            (subst (λ (rules : Rules). AreRight rules (listed_in a) (question b.solver.problem assumptions ∷ []) (made ∷ [])) (same_rules a b set shares)
            (subst (λ (es : List Shared). AreRight (rules_of b) es (question b.solver.problem assumptions ∷ []) (made ∷ [])) listed h.tells.right));
        counted = subst (λ (n : ℕ). RoseBy (conflicts_of_all (made ∷ [])) n c.solver.counted) counted h.tells.counted;
        raised = subst (λ (n : ℕ). RoseBy (raises_of_all (made ∷ [])) n c.raised) quiet h.tells.raised;
        later = omega (arith, h.tells.later, quiet);
        settings = record { limits = h.tells.settings.limits ∙ set.limits; threads = h.tells.settings.threads ∙ set.threads; max_conflicts = h.tells.settings.max_conflicts ∙ set.max_conflicts };
        shares = h.tells.shares ∙ shares;
      };
      listed = h.listed ∙ ap (λ (es : List Shared). es ++ h.entries) listed ∙ ap (λ (es : List Shared). listed_in a ++ es) (sym (append-nil h.entries));
      written = subst (λ (x : Port). Appends x.bytes c.sink.bytes (text_of_block made ++ [])) same (subst (Appends b.sink.bytes c.sink.bytes) (sym (append-nil (text_of_block made))) h.written);
      kept = h.kept ∙ ap (λ (x : Port). x.faults) same;
      problem = h.problem ∙ problem;
    }

-- the question of a command was not answered by a whole block
pub stops_question : (h : Halt) (assumptions : List Lit) (a b c : World) → b.solver.problem ≡ after a.solver.problem (Solve assumptions) → settings_of b.solver ≡ settings_of a.solver → b.shares ≡ a.shares → b.raised ≡ a.raised → b.sink ≡ a.sink
    → StopsAmong h (question b.solver.problem assumptions ∷ []) b c → StopsAmong h (questions_from a.solver.problem (Solve assumptions ∷ [])) a c
stops_question h assumptions a b c problem settings shares quiet same s =
    subst (λ (f : Problem). StopsAmong h (question f assumptions ∷ []) a c) problem
    (stops_after h [] (question b.solver.problem assumptions ∷ []) [] a b c
    (tells_none a b (let e = counted_as a.solver b.solver settings in omega arith) (omega (arith, quiet)) (set_as a.solver b.solver settings) shares) (listed_none a b settings shares)
    (subst (λ (x : Port). Appends a.sink.bytes x.bytes []) (sym same) (Appends-nil a.sink.bytes)) (ap (λ (x : Port). x.faults) same) s)
