-- How parts of a run join.
use Rattle.std.proofs.Common.{◌≡◌, ℕ, ◌+◌, ◌≤◌, List, [], ◌∷◌, ◌++◌, take, refl, sym, ap, ◌∙◌, subst, append_assoc, append-nil, arith}
use Rattle.std.specs.Io.KnownBytes.{Appends}
use Rattle.std.proofs.KnownBytes.{Appends-nil, Appends-trans}
use Rattle.sat_lits.specs.Meaning.{Problem}
use Rattle.sat_lits.specs.declared.shared.Shared.{Shared}
use Rattle.sat_ports.specs.Causes.{Rose, RoseBy}
use Rattle.sat_api.specs.State.{SolverState}
use Rattle.dimacs_text.specs.declared.command.Command.{Command}
use Rattle.sat_run.specs.Questions.{Question, questions_from, after, after_all, asked}
use Rattle.sat_run.specs.Reports.{Block, Rules, AreRight, blocks_text, text_of_block, entries_of, conflicts_of_all, raises_of_all}
use Rattle.sat_run.specs.Writing.{Port}
use Rattle.sat_run.specs.World.{World, rules_of, listed_in, KeepsSettings, Tells, Carries, StopsAmong, IsCut, IsHaltOf}
use Rattle.sat_run.specs.declared.failures.Halt.{Halt}
use Rattle.sat_run.specs.declared.failures.Halt.TheVariants.{Memory, Write}

rose_then : (m n a b c : ℕ) → RoseBy m a b → RoseBy n b c → RoseBy (m + n) a c
rose_then m n a b c p q = omega arith

rose_once : (a b c : ℕ) → b ≡ a → Rose b c → Rose a c
rose_once a b c e p = omega arith

pub questions_from-append : (f : Problem) (cs ds : List Command) → questions_from f (cs ++ ds) ≡ questions_from f cs ++ questions_from (after_all f cs) ds
questions_from-append f [] ds = refl
questions_from-append f (c ∷ cs) ds =
    ap (λ (qs : List Question). asked f c ++ qs) (questions_from-append (after f c) cs ds) ∙ sym (append_assoc (asked f c) (questions_from (after f c) cs) (questions_from (after_all (after f c) cs) ds))

pub after_all-append : (f : Problem) (cs ds : List Command) → after_all f (cs ++ ds) ≡ after_all (after_all f cs) ds
after_all-append f [] ds = refl
after_all-append f (c ∷ cs) ds = after_all-append (after f c) cs ds

pub blocks_text-append : (rs ss : List Block) → blocks_text (rs ++ ss) ≡ blocks_text rs ++ blocks_text ss
blocks_text-append [] ss = refl
blocks_text-append (r ∷ rs) ss = ap (λ (xs : List ℕ). text_of_block r ++ xs) (blocks_text-append rs ss) ∙ sym (append_assoc (text_of_block r) (blocks_text rs) (blocks_text ss))

conflicts_of_all-append : (rs ss : List Block) → conflicts_of_all (rs ++ ss) ≡ conflicts_of_all rs + conflicts_of_all ss
conflicts_of_all-append [] ss = omega arith
conflicts_of_all-append (r ∷ rs) ss = let e = conflicts_of_all-append rs ss in omega arith

raises_of_all-append : (rs ss : List Block) → raises_of_all (rs ++ ss) ≡ raises_of_all rs + raises_of_all ss
raises_of_all-append [] ss = omega arith
raises_of_all-append (r ∷ rs) ss = let e = raises_of_all-append rs ss in omega arith

entries_of-append : (rs ss : List Block) → entries_of (rs ++ ss) ≡ entries_of rs ++ entries_of ss
entries_of-append [] ss = refl
entries_of-append (r ∷ rs) ss = ap (λ (es : List Shared). r.entries ++ es) (entries_of-append rs ss) ∙ sym (append_assoc r.entries (entries_of rs) (entries_of ss))

right-append : (rules : Rules) (listed : List Shared) (qs ps : List Question) (rs ss : List Block) → AreRight rules listed qs rs → AreRight rules (listed ++ entries_of rs) ps ss → AreRight rules listed (qs ++ ps) (rs ++ ss)
right-append rules listed [] ps [] ss p q = subst (λ (es : List Shared). AreRight rules es ps ss) (append-nil listed) q
right-append rules listed [] ps (r ∷ rs) ss p q = absurd p
right-append rules listed (x ∷ qs) ps [] ss p q = absurd p
right-append rules listed (x ∷ qs) ps (r ∷ rs) ss p q = (
  p.0,
  p.1,
  right-append rules (listed ++ r.entries) qs ps rs ss p.2 (subst (λ (es : List Shared). AreRight rules es ps ss) (sym (append_assoc listed r.entries (entries_of rs))) q),
)

settings_then : (s t u : SolverState) → KeepsSettings s t → KeepsSettings t u → KeepsSettings s u
settings_then s t u p q = record { limits = q.limits ∙ p.limits; threads = q.threads ∙ p.threads; max_conflicts = q.max_conflicts ∙ p.max_conflicts }

-- what is set is as before
pub same_rules : (a b : World) → KeepsSettings a.solver b.solver → b.shares ≡ a.shares → rules_of b ≡ rules_of a
same_rules a b k s = λ i. record { threads = k.threads i; max_conflicts = k.max_conflicts i; shares = s i }

-- what is listed behind what was listed before
pub listed_then : (rs ss : List Block) (a b c : World) → listed_in b ≡ listed_in a ++ entries_of rs → listed_in c ≡ listed_in b ++ entries_of ss → listed_in c ≡ listed_in a ++ entries_of (rs ++ ss)
listed_then rs ss a b c p q =
    q ∙ ap (λ (es : List Shared). es ++ entries_of ss) p ∙ append_assoc (listed_in a) (entries_of rs) (entries_of ss) ∙ ap (λ (es : List Shared). listed_in a ++ es) (sym (entries_of-append rs ss))

-- nothing is told of no question
pub tells_none : (a b : World) → a.solver.counted ≤ b.solver.counted → a.raised ≤ b.raised → KeepsSettings a.solver b.solver → b.shares ≡ a.shares → Tells [] [] a b
tells_none a b counted later settings shares = record { right = tt; counted = omega arith; raised = omega arith; later = later; settings = settings; shares = shares }

-- two parts that tell of their questions, one after the other
pub tells_then : (qs ps : List Question) (rs ss : List Block) (a b c : World) → Tells qs rs a b → listed_in b ≡ listed_in a ++ entries_of rs → Tells ps ss b c → Tells (qs ++ ps) (rs ++ ss) a c
tells_then qs ps rs ss a b c p listed q =
    record {
      right =
          right-append (rules_of a) (listed_in a) qs ps rs ss p.right
          (subst (λ (rules : Rules). AreRight rules (listed_in a ++ entries_of rs) ps ss) (same_rules a b p.settings p.shares) (subst (λ (es : List Shared). AreRight (rules_of b) es ps ss) listed q.right));
      counted = subst (λ (n : ℕ). RoseBy n a.solver.counted c.solver.counted) (sym (conflicts_of_all-append rs ss)) (rose_then _ _ a.solver.counted b.solver.counted c.solver.counted p.counted q.counted);
      raised = subst (λ (n : ℕ). RoseBy n a.raised c.raised) (sym (raises_of_all-append rs ss)) (rose_then _ _ a.raised b.raised c.raised p.raised q.raised);
      later = omega (arith, p.later, q.later);
      settings = settings_then a.solver b.solver c.solver p.settings q.settings;
      shares = q.shares ∙ p.shares;
    }

-- where no command was carried out, nothing is written
pub carries_none : (a : World) → Carries [] a a
carries_none a = record {
  blocks = [];
  tells = tells_none a a (omega arith) (omega arith) (record { limits = refl; threads = refl; max_conflicts = refl }) refl;
  listed = sym (append-nil (listed_in a));
  written = Appends-nil a.sink.bytes;
  kept = refl;
  problem = refl;
}

-- commands that were carried out behind others
pub carries_then : (cs ds : List Command) (a b c : World) → Carries cs a b → Carries ds b c → Carries (cs ++ ds) a c
carries_then cs ds a b c p q =
    record {
      blocks = p.blocks ++ q.blocks;
      tells =
          subst (λ (qs : List Question). Tells qs (p.blocks ++ q.blocks) a c)
          (ap (λ (f : Problem). questions_from a.solver.problem cs ++ questions_from f ds) p.problem ∙ sym (questions_from-append a.solver.problem cs ds))
          (tells_then (questions_from a.solver.problem cs) (questions_from b.solver.problem ds) p.blocks q.blocks a b c p.tells p.listed q.tells);
      listed = listed_then p.blocks q.blocks a b c p.listed q.listed;
      written =
          subst (Appends a.sink.bytes c.sink.bytes) (sym (blocks_text-append p.blocks q.blocks))
          (Appends-trans a.sink.bytes b.sink.bytes c.sink.bytes _ _ p.written q.written);
      kept = q.kept ∙ p.kept;
      problem = q.problem ∙ ap (λ (f : Problem). after_all f ds) p.problem ∙ sym (after_all-append a.solver.problem cs ds);
    }

cut_after : (h : Halt) (before blocks : List Block) (text : List ℕ) → IsCut h blocks text → IsCut h (before ++ blocks) (blocks_text before ++ text)
cut_after Memory before blocks text e = ap (λ (xs : List ℕ). blocks_text before ++ xs) e ∙ sym (blocks_text-append before blocks)
cut_after Write before blocks text c = (
  before ++ c.0,
  c.1,
  c.2,
  ap (λ (rs : List Block). before ++ rs) c.3 ∙ sym (append_assoc before c.0 (c.1 ∷ [])),
  ap (λ (xs : List ℕ). blocks_text before ++ xs) c.4 ∙ sym (append_assoc (blocks_text before) (blocks_text c.0) (take c.2 (text_of_block c.1)))
      ∙ ap (λ (xs : List ℕ). xs ++ take c.2 (text_of_block c.1)) (sym (blocks_text-append before c.0)),
)

halt_after : (h : Halt) (a b c : Port) → b.faults ≡ a.faults → IsHaltOf h b c → IsHaltOf h a c
halt_after Memory a b c e h = h ∙ e
halt_after Write a b c e h = rose_once a.faults b.faults c.faults e h

-- a stop behind questions that were all answered
pub stops_after : (h : Halt) (qs ps : List Question) (rs : List Block) (a b c : World) → Tells qs rs a b → listed_in b ≡ listed_in a ++ entries_of rs → Appends a.sink.bytes b.sink.bytes (blocks_text rs) → b.sink.faults ≡ a.sink.faults → StopsAmong h ps b c
    → StopsAmong h (qs ++ ps) a c
stops_after h qs ps rs a b c tells listed written kept s =
    record {
      answered = qs ++ s.answered;
      rest = s.rest;
      all = ap (λ (xs : List Question). qs ++ xs) s.all ∙ sym (append_assoc qs s.answered s.rest);
      blocks = rs ++ s.blocks;
      tells = tells_then qs s.answered rs s.blocks a b c tells listed s.tells;
      text = blocks_text rs ++ s.text;
      cut = cut_after h rs s.blocks s.text s.cut;
      written = Appends-trans a.sink.bytes b.sink.bytes c.sink.bytes _ _ written s.written;
      cause = halt_after h a.sink b.sink c.sink kept s.cause;
    }

-- a stop stays one where more was to be asked
pub stops_more : (h : Halt) (qs ps : List Question) (a b : World) → StopsAmong h qs a b → StopsAmong h (qs ++ ps) a b
stops_more h qs ps a b s =
    record {
      answered = s.answered;
      rest = s.rest ++ ps;
      all = ap (λ (xs : List Question). xs ++ ps) s.all ∙ append_assoc s.answered s.rest ps;
      blocks = s.blocks;
      tells = s.tells;
      text = s.text;
      cut = s.cut;
      written = s.written;
      cause = s.cause;
    }

-- memory ran out before anything was asked
pub stops_here : (qs : List Question) (a b : World) → a.solver.counted ≤ b.solver.counted → a.raised ≤ b.raised → KeepsSettings a.solver b.solver → b.shares ≡ a.shares → b.sink ≡ a.sink → StopsAmong Memory qs a b
stops_here qs a b counted later settings shares same =
    record {
      answered = [];
      rest = qs;
      all = refl;
      blocks = [];
      tells = tells_none a b counted later settings shares;
      text = [];
      cut = refl;
      written = subst (λ (x : Port). Appends a.sink.bytes x.bytes []) (sym same) (Appends-nil a.sink.bytes);
      cause = ap (λ (x : Port). x.faults) same;
    }

-- a stop among commands behind others that were carried out
pub stops_commands : (h : Halt) (cs ds : List Command) (a b c : World) → Carries cs a b → StopsAmong h (questions_from b.solver.problem ds) b c → StopsAmong h (questions_from a.solver.problem (cs ++ ds)) a c
stops_commands h cs ds a b c p s =
    subst (λ (qs : List Question). StopsAmong h qs a c)
    (ap (λ (f : Problem). questions_from a.solver.problem cs ++ questions_from f ds) p.problem ∙ sym (questions_from-append a.solver.problem cs ds))
    (stops_after h (questions_from a.solver.problem cs) (questions_from b.solver.problem ds) p.blocks a b c p.tells p.listed p.written p.kept s)

-- memory ran out behind commands that were carried out
pub stops_done : (cs : List Command) (a b : World) → Carries cs a b → StopsAmong Memory (questions_from a.solver.problem cs) a b
stops_done cs a b p =
    record {
      answered = questions_from a.solver.problem cs;
      rest = [];
      all = sym (append-nil (questions_from a.solver.problem cs));
      blocks = p.blocks;
      tells = p.tells;
      text = blocks_text p.blocks;
      cut = refl;
      written = p.written;
      cause = p.kept;
    }
