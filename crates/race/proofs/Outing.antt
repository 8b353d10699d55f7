-- How the list of solvers with their passes grows and shrinks.
use Rattle.std.proofs.Common.{◌≡◌, ◌⊎◌, ⊎_elim, inl, inr, nat_lt, Bool, true, false, if◌then◌else◌, ℕ, ◌+◌, ◌<◌, List, [], ◌∷◌, ◌++◌, All, length, get_or, set, take, drop, refl, sym, ap, subst, ◌∙◌, arith, length-append, append-nil}
use Rattle.std.proofs.Math.Seq.{get_or-append_seam}
use Rattle.std.proofs.lemmas.List.{take_all, drop_all}
use Rattle.sat_lits.specs.Meaning.{Problem}
use Rattle.sat_lits.specs.declared.shared.Shared.{Shared}
use Rattle.share_turn.specs.Views.{Known, IsLegalFor, TableId, known_of, newcomer, longer}
use Rattle.share_turn.specs.declared.view.Question.{Question}
use Rattle.one_solver.specs.Parts.{Parts, problem_in}
use Rattle.sat_lits.specs.Formulas.{Extends}
use Rattle.share_turn.specs.declared.view.Phase.TheVariants.{Free}
use Rattle.std.specs.declared.option.Option.{Option}
use Rattle.sat_lits.specs.Verdicts.{IsRight}
use Rattle.share_turn.specs.declared.view.View.{View}
use Rattle.race.specs.declared.ending.Ending.{Ending}
use Rattle.race.specs.declared.ending.Ending.TheVariants as ending
use Rattle.race.specs.Watching.{KnowsOutcome}
use Rattle.race.specs.Running.{IsSpent, IsSeated, HasEnded, RunEnded, KeepsOther}
use Rattle.race.specs.Seating.{IsLeading, IsSeatOf, IsDone, SplitOff, JoinedOne}
use Rattle.race.specs.Homes.{IsEntrant}
use Rattle.race.proofs.Homing.{none_within, at_place}

-- a fact on each element with its place holds of the last one
pub popped : {X : Type 0} (P : ℕ → X → Type 0) (left : List X) (x : X) (all : List X) → all ≡ left ++ x ∷ [] → ((k : ℕ) (d : X) → k < length all → P k (get_or all k d))
    → P (length left) x
popped P left x all e each =
    let more : length all ≡ length (left ++ x ∷ []) = ap length e in
    subst (P (length left)) (ap (λ l. get_or l (length left) x) e ∙ get_or-append_seam left x [] x) (each (length left) x (omega (arith, more, length-append left (x ∷ []))))

-- a solver that may enter is seated with a pass that has no turn
pub enters : (limit : Option ℕ) (f : Problem) (k : ℕ) (s : Parts) (v : View) → v.question.formula.problem ≡ f → v.turn ≡ Free → k < v.question.solvers → IsLegalFor v.question v.seen
    → IsEntrant f v.seen k s → IsSeated limit s v
enters limit f k s v asked free known legal entrant = record {
  free = free;
  known = subst (λ n. n < v.question.solvers) (sym entrant.number) known;
  front = subst (Extends (problem_in s)) (sym asked) entrant.front;
  within = none_within limit s.conflicts entrant.conflicts;
  legal = legal;
  in_step = entrant.in_step;
}

-- a solver that may enter takes its seat with a pass that was split off
pub takes_seat : (limit : Option ℕ) (table : TableId) (k : ℕ) (s : Parts) (first : Known) → IsLeading first.view.question table first → s.number < first.view.question.solvers
    → IsEntrant first.view.question.formula.problem first.view.seen s.number s → s.number ≡ k + 1 → IsSeatOf limit first.view.question table k s (known_of first.table (newcomer first.view))
takes_seat limit table k s first leading known entrant number = record {
  number = number;
  table_is = leading.table_is;
  question_is = refl;
  first = refl;
  seated = record { free = refl; known = known; front = entrant.front; within = none_within limit s.conflicts entrant.conflicts; legal = leading.legal; in_step = entrant.in_step };
}

-- passes that were split off one after the other
pub split_more : (a b c : Known) (m n k : ℕ) → SplitOff a b m → SplitOff b c n → k ≡ m + n → SplitOff a c k
split_more a b c m n k f g e = record {
  table = g.table ∙ f.table;
  question = g.question ∙ f.question;
  seen = g.seen ∙ f.seen;
  turn = g.turn ∙ f.turn;
  first = g.first ∙ f.first;
  alarmed = g.alarmed ∙ f.alarmed;
  joins = g.joins ∙ f.joins;
  splits = omega (arith, f.splits, g.splits, e);
}

-- the longer of two logs is one of them
pub longer_one : (a b : List Shared) → (longer a b ≡ a) ⊎ (longer a b ≡ b)
longer_one a b = by_test (nat_lt (length a) (length b)) refl
  where
    by_test : (t : Bool) → nat_lt (length a) (length b) ≡ t → (longer a b ≡ a) ⊎ (longer a b ≡ b)
    by_test true e = inr (ap (λ (t : Bool). if t then b else a) e)
    by_test false e = inl (ap (λ (t : Bool). if t then b else a) e)

-- the first pass stays the leading one as another one is joined
pub leads_on : (q : Question) (t : TableId) (old new other : Known) → IsLeading q t old → IsLegalFor q other.view.seen → JoinedOne old new other → IsLeading q t new
leads_on q t old new other h legal j = record {
  table_is = j.table ∙ h.table_is;
  question_is = j.question ∙ h.question_is;
  first = j.first ∙ h.first;
  free = j.free ∙ h.free;
  legal = ⊎_elim (λ (e : new.view.seen ≡ old.view.seen). subst (IsLegalFor q) (sym e) h.legal) (λ (e : new.view.seen ≡ other.view.seen). subst (IsLegalFor q) (sym e) legal) j.one;
}

-- how two ended together is so where each is, and where what their passes knew is known
pub ends_together : (q : Question) (v u w : View) {A B C : Type 0} (a b c : Ending) → (c ≡ a) ⊎ (c ≡ b) → (c ≡ ending.Spent → (a ≡ ending.Spent) × (b ≡ ending.Spent))
    → HasEnded q v A a → HasEnded q u B b
    → (KnowsOutcome v → KnowsOutcome w) → (KnowsOutcome u → KnowsOutcome w) → (A → B → C) → HasEnded q w C c
ends_together q v u w {A} {B} a b ending.Over one spent h k from to both = ⊎_elim (λ e. from (subst (HasEnded q v A) (sym e) h)) (λ e. to (subst (HasEnded q u B) (sym e) k)) one
ends_together q v u w {A} {B} a b (ending.Late verdict) one spent h k from to both = ⊎_elim (λ e. subst (HasEnded q v A) (sym e) h) (λ e. subst (HasEnded q u B) (sym e) k) one
ends_together q v u w {A} {B} a b ending.Spent one spent h k from to both = let (p, r) = spent refl in both (subst (HasEnded q v A) p h) (subst (HasEnded q u B) r k)
ends_together q v u w {A} {B} a b ending.Memory one spent h k from to both = tt

-- how a run ended is so once its solver is home
pub ends_home : (limit : Option ℕ) (q : Question) (f : Problem) (v w : View) (s t : Parts) (e result : Ending) → v.question ≡ q → q.formula.problem ≡ f → RunEnded limit s v e
    → (result ≡ e) ⊎ (result ≡ ending.Memory)
    → (result ≡ ending.Spent → t.conflicts ≡ s.conflicts) → (KnowsOutcome v → KnowsOutcome w) → HasEnded q w (IsSpent limit f t.conflicts) result
ends_home limit q f v w s t e ending.Over asked is h one spent know = ⊎_elim (λ same. know (subst (RunEnded limit s v) (sym same) h)) (λ none. absurd (let k : ⊥ = cc in k)) one
ends_home limit q f v w s t e (ending.Late verdict) asked is h one spent know =
    ⊎_elim (λ same. subst (λ (x : Question). IsRight x.formula.problem x.assumptions verdict) asked (subst (RunEnded limit s v) (sym same) h)) (λ none. absurd (let k : ⊥ = cc in k)) one
ends_home limit q f v w s t e ending.Spent asked is h one spent know =
    ⊎_elim
    (λ same.
    let own : IsSpent limit v.question.formula.problem s.conflicts = subst (RunEnded limit s v) (sym same) h in
    let here : v.question.formula.problem ≡ f = ap (λ (x : Question). x.formula.problem) asked ∙ is in
    subst (IsSpent limit f) (sym (spent refl)) (subst (λ (p : Problem). IsSpent limit p s.conflicts) here own))
    (λ none. absurd (let k : ⊥ = cc in k)) one
ends_home limit q f v w s t e ending.Memory asked is h one spent know = tt

-- a run is over for a solver at its place that kept its number and its pass
pub done_after : (limit : Option ℕ) (q : Question) (table : TableId) (k : ℕ) (s t : Parts) (old new : Known) (e : Ending) → IsSeatOf limit q table k s old → KeepsOther s t old new
    → IsSeated limit t new.view → RunEnded limit t new.view e → IsDone limit q table k t new e
done_after limit q table k s t old new e seat kept seated ended = record {
  seat = record {
    number = kept.number ∙ seat.number;
    table_is = kept.seat.table ∙ seat.table_is;
    question_is = kept.seat.question ∙ seat.question_is;
    first = kept.seat.first ∙ seat.first;
    seated = seated;
  };
  ended = ended;
}

-- all spent the limit where the solver that comes to the first place did, and the others did
pub all_spent_at : (limit : Option ℕ) (f : Problem) (xs : List Parts) (s : Parts) → 0 < length xs → IsSpent limit f s.conflicts
    → ((k : ℕ) (d : Parts) → 0 < k → k < length xs → IsSpent limit f (get_or xs k d).conflicts) → All (λ p. IsSpent limit f p.conflicts) (set xs 0 s)
all_spent_at limit f xs s inside own others = at_place xs 0 s inside (λ n u. IsSpent limit f u.conflicts) own (λ n d ne b. others n d (omega (arith, ne)) b)

-- what is so of an element after a list was written through a slice of all of it
pub read_back : {X : Type 0} (n : ℕ) (now items : List X) (k : ℕ) (d : X) (P : X → Type 0) → n ≡ length items → length now ≡ length items → P (get_or now k d)
    → P (get_or (take n (now ++ drop (length now) items)) k d)
read_back {X} n now items k d P whole long h =
    let back : take n (now ++ drop (length now) items) ≡ now =
    ap (λ (xs : List X). take n (now ++ xs)) (drop_all (length now) items (omega (arith, long))) ∙ (ap (take n) (append-nil now) ∙ take_all n now (omega (arith, long, whole))) in
    subst (λ (xs : List X). P (get_or xs k d)) (sym back) h
