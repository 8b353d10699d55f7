-- What the walks of an exchange come to.
use Rattle.std.proofs.Common.{◌≡◌, ℕ, ◌+◌, ◌==◌, not, List, [], ◌∷◌, ◌++◌, length, map, get_or, refl, sym, ap, subst, ◌∙◌, ⊎_elim, arith, append_assoc, count_by, slice_get, append-nil, Some}
use Rattle.std.proofs.lemmas.List.Elements.{All-append, All-weaker}
use Rattle.std.proofs.lemmas.Option.{slice_get-get_or, slice_get_within, get_or_from_slice_get}
use Rattle.std.specs.List.{All}
use Rattle.sat_lits.specs.Meaning.{Problem}
use Rattle.sat_lits.specs.Logs.{IsLegalLog}
use Rattle.sat_lits.specs.LogLaws.{shareable_known}
use Rattle.sat_lits.specs.declared.shared.Shared.{Shared}
use Rattle.share_store.specs.Log.{entry_of}
use Rattle.state_laws.specs.State.{State, problem_of, outer_count}
use Rattle.state_laws.specs.Stands.{Stands}
use Rattle.sync_laws.specs.Steps.{StandsIn, IsInStep, IsTurn, IsSettled}
use Rattle.sync_laws.specs.StepLaws.{longer-IsInStep}
use Rattle.sync_laws.specs.TurnLaws.{turn_taken, turn_legal}
use Rattle.data_sync.specs.Taking.{AreKnown, AreAway, Reads, HasTried, HasRead, others}
use Rattle.data_sync.specs.TakingLaws.{read_none, others_taken, count_more}
use Rattle.data_sync.specs.Giving.{KeepsTurns}
use Rattle.data_sync.specs.HeardLaws.{read_heard}
use Rattle.data_sync.specs.Books.{Book}
use Rattle.data_sync.specs.Syncs.{Synced}
use Rattle.sync_laws.specs.Told.{IsToldClause, IsToldEntry, IsTold}
use Rattle.sync_laws.specs.ToldLaws.{told_grows, clause_told, entry_told}
use Rattle.sync_laws.specs.Met.{IsMet}
use Rattle.rebuild_stack.specs.declared.entry.Entry.TheVariants.{Fix}

-- the variables of a legal log are there
pub known_legal : (s : State) (log : List Shared) → IsLegalLog (problem_of s) log → AreKnown s log
known_legal s log h = λ k d w. shareable_known (outer_count s.definitions) (get_or log k d).clause (h.each k (get_or log k d) (slice_get-get_or log k d w)).shareable

-- a walk along the log begins where the waiting entries were tried
pub read_again : (s t : State) (log : List Shared) (cursor : ℕ) (waiting : List ℕ) → HasTried s t log cursor waiting 0 → AreAway t log waiting → HasRead t t log cursor waiting
read_again s t log cursor waiting h a = record { known = h.known; reads = read_none t log; step = h.step; away = a }

-- two walks one after another
pub reads_through : (s t u : State) (log : List Shared) → Reads s t log → Reads t u log → Reads s u log
reads_through s t u log x y =
    record {
      taken = x.taken ++ y.taken;
      took = y.took ∙ (ap (λ (z : List Shared). z ++ y.taken) x.took ∙ append_assoc s.entries x.taken y.taken);
      stand = All-append (StandsIn log) x.taken y.taken x.stand y.stand;
      items = y.items ∙ x.items;
      definitions = y.definitions ∙ x.definitions;
      told = λ l h. y.told l (x.told l h);
    }

-- and their counts
pub others_through : (solver : ℕ) (s t u : State) (log : List Shared) → Reads s t log → Reads t u log → others solver s u ≡ others solver s t + others solver t u
others_through solver s t u log x y =
    let r : Reads s u log = reads_through s t u log x y in
    let a : others solver s u ≡ count_by (λ (z : Shared). not (z.solver == solver)) (x.taken ++ y.taken) = others_taken solver s u (x.taken ++ y.taken) (y.took ∙ (ap (λ (z : List Shared). z ++ y.taken) x.took ∙ append_assoc s.entries x.taken y.taken)) in
    let b : others solver s t ≡ count_by (λ (z : Shared). not (z.solver == solver)) x.taken = others_taken solver s t x.taken x.took in
    let c : others solver t u ≡ count_by (λ (z : Shared). not (z.solver == solver)) y.taken = others_taken solver t u y.taken y.took in
    let d : count_by (λ (z : Shared). not (z.solver == solver)) (x.taken ++ y.taken) ≡ count_by (λ (z : Shared). not (z.solver == solver)) x.taken + count_by (λ (z : Shared). not (z.solver == solver)) y.taken = count_more (λ (z : Shared). not (z.solver == solver)) x.taken y.taken in
    omega (arith, a, b, c, d)

-- what stands at a place of a list that all pass passes
pub all_get_told : {X : Type 0} (P : X → Type 0) (xs : List X) (at : ℕ) (x : X) → All P xs → slice_get xs at ≡ Some x → P x
all_get_told P xs at x a g = subst P (get_or_from_slice_get xs at x x g) (a at x (slice_get_within xs at x g))

-- what was read and then given is a turn
pub synced : (s t : State) (solver : ℕ) (old new : List Shared) (book : Book) → IsLegalLog (problem_of s) old → Reads s t old → IsInStep t book.cursor book.waiting old
    → KeepsTurns t solver (length old) old new → IsTold s old → Synced s t solver old new book
synced s t solver old new book legal r step k told =
    record {
      turn = turn;
      legal = subst (λ (f : Problem). IsLegalLog f new) (sym same) (turn_legal (problem_of s) solver s.entries old t.entries new legal step.took turn);
      step = record {
        step = subst (IsInStep t book.cursor book.waiting) (sym turn.gave) (longer-IsInStep t book.cursor book.waiting old (map (entry_of solver (length old)) turn.given) step);
        told = told_grows t old new k.keeps (r.told old told);
      };
      items = r.items;
      definitions = r.definitions;
    }
  where
    same : problem_of t ≡ problem_of s
    same = λ i. record { vars = outer_count (r.definitions i); items = r.items i }

    turn : IsTurn (problem_of s) solver s.entries old t.entries new
    turn =
        subst (λ (f : Problem). IsTurn f solver s.entries old t.entries new) same
        (k.turn s.entries old refl (turn_taken (problem_of t) solver s.entries old t.entries r.taken r.took r.stand))

-- a state in which all is told and marked
abbrev pub all_marked : State → State
all_marked s = record s { marked_learned = s.learned; marked_stack = s.stack }

-- is in step still
pub marked_told : (s : State) (log : List Shared) → All (IsToldClause s log) s.learned → All (IsToldEntry s log) s.stack → IsTold (all_marked s) log
marked_told s log a b =
    record {
      learned = All-weaker (IsToldClause s log) (IsToldClause (all_marked s) log) (λ c. clause_told s (all_marked s) [] (sym (append-nil s.definitions)) log c) s.learned a;
      stack = All-weaker (IsToldEntry s log) (IsToldEntry (all_marked s) log) (λ e. entry_told s (all_marked s) [] (sym (append-nil s.definitions)) log e) s.stack b;
    }

-- what was synced, once all is told and marked
pub synced_marked : (s t u : State) (solver : ℕ) (old new : List Shared) (book : Book) → u ≡ all_marked t → All (IsToldClause t new) t.learned → All (IsToldEntry t new) t.stack → Synced s t solver old new book → Synced s u solver old new book
synced_marked s t u solver old new book e a b h =
    subst (λ (z : State). Synced s z solver old new book) (sym e)
    (record {
      turn = h.turn;
      legal = h.legal;
      step = record {
        step = record { took = h.step.step.took; within = h.step.step.within; below = h.step.step.below; met = λ o place x w g n. let m : IsMet t x.clause = h.step.step.met o place x w g n in record { there = m.there; covers = m.covers } };
        told = marked_told t new a b;
      };
      items = h.items;
      definitions = h.definitions;
    })

-- and the state is settled then
pub settled_after : (s t u : State) (solver : ℕ) (old new : List Shared) (waiting : List ℕ) → u ≡ all_marked t → Stands t → HasRead s t old (length old) waiting → KeepsTurns t solver (length old) old new
    → All (IsToldClause t new) t.learned → All (IsToldEntry t new) t.stack → IsSettled u new
settled_after s t u solver old new waiting q st h k a b =
    subst (λ (z : State). IsSettled z new) (sym q)
    (record {
      heard = λ e. k.heard (read_heard s t old waiting h st e);
      fixed = λ e at l own g i. (all_get_told (IsToldEntry t new) t.stack at (Fix own) b g).fixed l own refl (record { there = i.there; own = i.own });
      binaries = λ e at x y first second g i j. (all_get_told (IsToldClause t new) t.learned at (first ∷ second ∷ []) a g).pair x y first second refl (record { there = i.there; own = i.own }) (record { there = j.there; own = j.own });
    })
