-- What a solver keeps over the race for a question.
use Rattle.std.proofs.Common.{◌≡◌, ◌∙◌, ◌<◌, ◌≤◌, ◌++◌, [], refl, ℕ, Bool, true, false, not, List, All, Option, length, take, drop, inr, sym, ap, subst, arith, append-nil}
use Rattle.std.specs.Prelude.{count_by}
use Rattle.std.specs.Option.{ForSome}
use Rattle.std.specs.Vec.{with_items}
use Rattle.std.proofs.lemmas.Bool.{true≢false}
use Rattle.std.proofs.lemmas.List.{take_all, drop_all}
use Rattle.sat_lits.specs.Meaning.{Problem, IsModel, Follows}
use Rattle.sat_lits.specs.declared.literal.Lit.{Lit}
use Rattle.sat_lits.specs.declared.shared.Shared.{Shared}
use Rattle.share_turn.specs.Views.{question, IsLegalFor}
use Rattle.one_solver.specs.Parts.{Parts}
use Rattle.race.specs.Homes.{EachPlace, IsEntrant}
use Rattle.sat_api.specs.State.{SolverState, unanswered}
use Rattle.sat_api.specs.Answers.{AreSettled, Settles, has_taken}
use Rattle.sat_api.specs.Kept.{state_of, IsKept}
use Rattle.sat_api.specs.declared.solver.SatSolver.TheInside.{Inside}

-- the solver after its solvers raced
abbrev pub after_race : Inside → List Parts → List Shared → ℕ → ℕ → Option (List Bool) → Option (List Lit) → Bool → Inside
after_race s solvers store lost tally model conflict okay = record s { solvers = with_items s.solvers solvers; store = store; given_up = lost; tally = tally; model = model; conflict = conflict; okay = okay }

-- a question was begun, and there is a solver for each thread
pub record IsFilled (first begun : SolverState) (s : Inside) : Type 0 where
  pub filled : SolverState
  pub begin : begun ≡ unanswered (record first { begun = true; given_up = 0 })
  pub same : filled ≡ record begun { solvers = filled.solvers }
  pub many : length filled.solvers ≡ begun.threads
  pub view : state_of s ≡ filled

-- the solvers raced
pub record HaveRaced (s : Inside) (assumptions : List Lit) (solvers : List Parts) (store : List Shared) : Type 0 where
  pub before : List Parts
  pub read : before ≡ s.solvers.items
  pub many : length solvers ≡ length before
  pub legal : IsLegalFor (question s.formula assumptions (length before)) store
  pub entrants : EachPlace (IsEntrant s.formula.problem store) solvers

-- a part of the solver's state that neither beginning nor filling changes
same_part : {X : Type 0} (part : SolverState → X) → ((x : SolverState) (solvers : List Parts) → part (record x { solvers = solvers }) ≡ part x)
    → ((x : SolverState) → part (unanswered (record x { begun = true; given_up = 0 })) ≡ part x)
    → (first begun : SolverState) (s : Inside) → IsFilled first begun s → part (state_of s) ≡ part first
same_part part over_solvers over_begin first begun s h =
    ap part h.view ∙ (ap part h.same ∙ (over_solvers begun h.filled.solvers ∙ (ap part h.begin ∙ over_begin first)))

pub problem_same : (first begun : SolverState) (s : Inside) → IsFilled first begun s → s.formula.problem ≡ first.problem
problem_same = same_part (λ x. x.problem) (λ x solvers. refl) (λ x. refl)

limit_same : (first begun : SolverState) (s : Inside) → IsFilled first begun s → s.max_conflicts ≡ first.max_conflicts
limit_same = same_part (λ x. x.max_conflicts) (λ x solvers. refl) (λ x. refl)

threads_same : (first begun : SolverState) (s : Inside) → IsFilled first begun s → s.threads ≡ first.threads
threads_same = same_part (λ x. x.threads) (λ x solvers. refl) (λ x. refl)

is_begun : (first begun : SolverState) (s : Inside) → IsFilled first begun s → s.begun ≡ true
is_begun first begun s h = ap (λ (x : SolverState). x.begun) h.view ∙ (ap (λ (x : SolverState). x.begun) h.same ∙ ap (λ (x : SolverState). x.begun) h.begin)

-- there were as many solvers as threads
were_many : (first begun : SolverState) (s : Inside) (assumptions : List Lit) (solvers : List Parts) (store : List Shared) → IsFilled first begun s → (r : HaveRaced s assumptions solvers store) → length r.before ≡ s.threads
were_many first begun s assumptions solvers store h r =
    ap length r.read ∙ (ap (λ (x : SolverState). length x.solvers) h.view ∙ (h.many ∙ sym (ap (λ (x : SolverState). x.threads) h.view ∙ ap (λ (x : SolverState). x.threads) h.same)))

-- the solvers that raced stand in their places again
written : (s : Inside) (solvers : List Parts) → length solvers ≡ length s.solvers.items → (with_items s.solvers solvers).items ≡ solvers
written s solvers long =
    ap (λ (xs : List Parts). take s.solvers.len (solvers ++ xs)) (drop_all (length solvers) s.solvers.items (omega (arith, long)))
    ∙ (ap (take s.solvers.len) (append-nil solvers) ∙ take_all s.solvers.len solvers (omega (arith, long, s.solvers.ok.0)))

-- what a solver keeps
pub kept : (first begun : SolverState) (s : Inside) (assumptions : List Lit) (solvers : List Parts) (store : List Shared) (lost tally : ℕ) (model : Option (List Bool)) (conflict : Option (List Lit)) (okay : Bool)
    → IsKept s → IsFilled first begun s → HaveRaced s assumptions solvers store
    → ForSome model (IsModel s.formula.problem) → ForSome conflict (Follows s.formula.problem) → (okay ≡ false → Follows s.formula.problem [])
    → IsKept (after_race s solvers store lost tally model conflict okay)
kept first begun s assumptions solvers store lost tally model conflict okay k h r right_model right_conflict refuted =
    let many : length r.before ≡ s.threads = were_many first begun s assumptions solvers store h r in
    let back : (with_items s.solvers solvers).items ≡ solvers = written s solvers (r.many ∙ ap length r.read) in
    record {
      backed = record {
        model = right_model;
        conflict = right_conflict;
        legal = r.legal.legal;
        given = subst (λ (n : ℕ). All (λ (e : Shared). e.solver < n) store) many r.legal.solvers;
      };
      limits = k.limits;
      some = k.some;
      many = inr (ap length back ∙ (r.many ∙ many));
      entrants = subst (λ (xs : List Parts). EachPlace (IsEntrant s.formula.problem store) xs) (sym back) r.entrants;
      fresh = λ e. absurd (true≢false (sym (is_begun first begun s h) ∙ e));
      refuted = refuted;
    }

-- the solvers are settled
pub settled : (first begun : SolverState) (s : Inside) (assumptions : List Lit) (solvers now : List Parts) (store : List Shared) (lost tally : ℕ) (model : Option (List Bool)) (conflict : Option (List Lit)) (okay : Bool)
    → IsFilled first begun s → HaveRaced s assumptions solvers store
    → AreSettled s.max_conflicts s.formula.problem store solvers
    → now ≡ (with_items s.solvers solvers).items → lost ≡ count_by (λ x. not (has_taken s.formula.problem x)) now
    → Settles first (state_of (after_race s solvers store lost tally model conflict okay))
settled first begun s assumptions solvers now store lost tally model conflict okay h r are counted_in counted =
    let many : length r.before ≡ s.threads = were_many first begun s assumptions solvers store h r in
    let back : (with_items s.solvers solvers).items ≡ solvers = written s solvers (r.many ∙ ap length r.read) in
    let problem : s.formula.problem ≡ first.problem = problem_same first begun s h in
    let here : AreSettled first.max_conflicts first.problem store solvers =
    subst (λ (f : Problem). AreSettled first.max_conflicts f store solvers) problem
    (subst (λ (limit : Option ℕ). AreSettled limit s.formula.problem store solvers) (limit_same first begun s h) are) in
    record {
      many = inr (ap length back ∙ (r.many ∙ (many ∙ threads_same first begun s h)));
      settled = subst (λ (xs : List Parts). AreSettled first.max_conflicts first.problem store xs) (sym back) here;
      given_up = counted ∙ (ap (λ (f : Problem). count_by (λ x. not (has_taken f x)) now) problem ∙ ap (count_by (λ x. not (has_taken first.problem x))) counted_in);
    }
