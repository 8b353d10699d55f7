-- Why a turn is a run of the machine.
use Rattle.std.proofs.Common.{◌≡◌, ℕ, zero, suc, ◌<◌, false, cond, List, [], ◌∷◌, ◌++◌, All, AllPairs, length, map, take, get_or, Option, Some, None, refl, sym, ap, ap₂, subst, ◌∙◌, arith, length-append, append_assoc, append-nil}
use Rattle.std.specs.List.{slice_get, cons_option, Contains}
use Rattle.std.specs.Option.{option_map}
use Rattle.std.proofs.lemmas.List.{take_all, map-append, length-set, get_or-set_same, get_or-set_other}
use Rattle.std.proofs.lemmas.List.Elements.{All-push, filter_map-append}
use Rattle.std.proofs.lemmas.List.Sums.{fold-append}
use Rattle.std.proofs.lemmas.Option.{slice_get-map, slice_get-get_or, slice_get_within, none-some, same_Some}
use Rattle.std.proofs.lemmas.Simd.{map-map}
use Rattle.sat_lits.specs.Meaning.{Problem, Follows}
use Rattle.sat_lits.specs.Logs.{IsShareable, with_clauses}
use Rattle.sat_lits.specs.declared.literal.Lit.{Lit}
use Rattle.sat_lits.specs.declared.formula.Item.{Item}
use Rattle.sat_lits.specs.declared.formula.Item.TheVariants.{Clause}
use Rattle.sat_lits.specs.declared.shared.Shared.{Shared}
use Rattle.race_model.specs.declared.taken.Taken.{Taken}
use Rattle.race_model.specs.declared.event.Event.{Event}
use Rattle.race_model.specs.declared.event.Event.TheVariants.{Give, Take}
use Rattle.race_model.specs.States.{State, nothing, taken_by, entries_at, entries_of, known_to}
use Rattle.race_model.specs.Events.{is_known, given_entry, after_event, after_events, IsRun}
use Rattle.race_model.specs.Turns.{solver_and_clause, SameButAfter, StandsFor, IsTurnRun, TurnsAreRuns}
use Rattle.race_model.specs.TurnLaws.{given_is_new}
use Rattle.race_model.proofs.Known.{unknown_lacks, known_alike}

-- the entry at a place of a log stands at that place of one that agrees with it
entry_alike : (log other : List Shared) → SameButAfter log other → (place : ℕ) (entry : Shared) → slice_get log place ≡ Some entry → option_map solver_and_clause (slice_get other place) ≡ Some (solver_and_clause entry)
entry_alike log other same place entry stands =
    sym (slice_get-map solver_and_clause other place)
    ∙ (ap (λ pairs. slice_get pairs place) (sym same) ∙ (slice_get-map solver_and_clause log place ∙ ap (option_map solver_and_clause) stands))

-- what is taken at such a place is that entry
one_alike : (other : List Shared) (place : ℕ) (entry : Shared) → option_map solver_and_clause (slice_get other place) ≡ Some (solver_and_clause entry) → SameButAfter (entry ∷ []) (entries_at other (place ∷ []))
one_alike other place entry = go (slice_get other place)
  where
    go : (o : Option Shared) → option_map solver_and_clause o ≡ Some (solver_and_clause entry) → SameButAfter (entry ∷ []) (cons_option o [])
    go None e = absurd (none-some _ e)
    go (Some x) e = ap (λ p. p ∷ []) (sym (same_Some _ _ e))

-- a place where an entry stands is below the length
within_alike : (other : List Shared) (place : ℕ) (entry : Shared) → option_map solver_and_clause (slice_get other place) ≡ Some (solver_and_clause entry) → place < length other
within_alike other place entry = go (slice_get other place) refl
  where
    go : (o : Option Shared) → slice_get other place ≡ o → option_map solver_and_clause o ≡ Some (solver_and_clause entry) → place < length other
    go None stands e = absurd (none-some _ e)
    go (Some x) stands e = slice_get_within other place x stands

-- entries that agree are clauses that agree
clauses_alike : (entries others : List Shared) → SameButAfter entries others → map (λ (e : Shared). Clause e.clause) entries ≡ map (λ (e : Shared). Clause e.clause) others
clauses_alike entries others same = sym (map-map of_pair solver_and_clause entries) ∙ (ap (map of_pair) same ∙ map-map of_pair solver_and_clause others)
  where
    of_pair : ℕ × List Lit → Item
    of_pair p = Clause p.1

-- a solver that stands for entries knows the formula with their clauses
known_is : (s : State) (solver : ℕ) (had log : List Shared) → StandsFor s solver had log → with_clauses s.formula had ≡ known_to s solver
known_is s solver had log stands =
    let front : take (taken_by s solver).items s.formula.items ≡ s.formula.items = take_all (taken_by s solver).items s.formula.items (omega (arith, stands.all_items)) in
    let clauses : map (λ (e : Shared). Clause e.clause) had ≡ map (λ (e : Shared). Clause e.clause) (entries_of s solver) = clauses_alike had (entries_of s solver) stands.same_entries in
    λ i. record { vars = s.formula.vars; items = sym front i ++ clauses i }

-- after a Take, a solver whose taken entries are these stands for them
stands_after_take : (s : State) (solver place who : ℕ) (had log : List Shared) (taken : Taken) → taken_by (after_event s (Take solver place)) who ≡ taken → who < length s.taken → taken.items ≡ length s.formula.items
    → All (λ p. p < length s.log) taken.places → SameButAfter log s.log → SameButAfter had (entries_at s.log taken.places) → StandsFor (after_event s (Take solver place)) who had log
stands_after_take s solver place who had log taken is there all within same_log same_entries =
    record {
      solver_there = subst (λ n. who < n) (sym (length-set s.taken solver _)) there;
      all_items = ap (λ (t : Taken). t.items) is ∙ all;
      places_there = subst (λ (t : Taken). All (λ p. p < length s.log) t.places) (sym is) within;
      same_log = same_log;
      same_entries = same_entries ∙ ap (λ (t : Taken). map solver_and_clause (entries_at s.log t.places)) (sym is);
    }

-- a solver takes one entry of the log
take_one : (s : State) (solver : ℕ) (had log : List Shared) → StandsFor s solver had log → (place : ℕ) (entry : Shared) → slice_get log place ≡ Some entry → IsTurnRun s solver log (had ++ entry ∷ []) log (Take solver place ∷ [])
take_one s solver had log stands place entry at =
    record {
      run = ((stands.solver_there, within, stands.all_items), tt);
      stands = stands_after_take s solver place solver (had ++ entry ∷ []) log _ (get_or-set_same s.taken solver _ nothing stands.solver_there) stands.solver_there stands.all_items
          (All-push (λ p. p < length s.log) (taken_by s solver).places place stands.places_there within) stands.same_log
          (map-append solver_and_clause had (entry ∷ [])
          ∙ (ap₂ ◌++◌ stands.same_entries (one_alike s.log place entry alike)
          ∙ (sym (map-append solver_and_clause (entries_of s solver) (entries_at s.log (place ∷ [])))
          ∙ ap (map solver_and_clause) (sym (filter_map-append (λ p. slice_get s.log p) (taken_by s solver).places (place ∷ []))))));
      formula = refl;
      others = λ other theirs differs was.
          stands_after_take s solver place other theirs log (taken_by s other) (get_or-set_other s.taken solver other _ nothing differs) was.solver_there was.all_items was.places_there was.same_log was.same_entries;
    }
  where
    alike : option_map solver_and_clause (slice_get s.log place) ≡ Some (solver_and_clause entry)
    alike = entry_alike log s.log stands.same_log place entry at

    within : place < length s.log
    within = within_alike s.log place entry alike

-- an entry of a log stands at its place in a longer one
slice_get-front : {X : Type 0} (xs ys : List X) (i : ℕ) → i < length xs → slice_get (xs ++ ys) i ≡ slice_get xs i
slice_get-front [] ys i h = absurd (omega (arith, h))
slice_get-front (x ∷ xs) ys zero h = refl
slice_get-front (x ∷ xs) ys (suc i) h = slice_get-front xs ys i (omega (arith, h))

-- the entries at places of a log are those of a longer one
entries_stay : (log more : List Shared) (places : List ℕ) → All (λ p. p < length log) places → entries_at (log ++ more) places ≡ entries_at log places
entries_stay log more [] h = refl
entries_stay log more (place ∷ places) h =
    ap₂ cons_option (slice_get-front log more place (h 0 place (omega arith))) (entries_stay log more places (λ k d l. h (suc k) d (omega (arith, l))))

-- after a Give of a new clause, each solver stands for what it stood for, with the log one entry longer
stands_after_give : (s : State) (solver who : ℕ) (had log : List Shared) (entry : Shared) → is_known s.log entry.clause ≡ false → entry.solver ≡ solver → StandsFor s who had log
    → StandsFor (after_event s (Give solver entry.clause)) who had (log ++ entry ∷ [])
stands_after_give s solver who had log entry unknown by was = subst (λ (l : List Shared). StandsFor (record s { log = l }) who had (log ++ entry ∷ [])) (sym longer) after
  where
    given : Shared
    given = given_entry s.log solver entry.clause

    longer : cond (is_known s.log entry.clause) s.log (s.log ++ given_entry s.log solver entry.clause ∷ []) ≡ s.log ++ given_entry s.log solver entry.clause ∷ []
    longer = ap (λ b. cond b s.log (s.log ++ given_entry s.log solver entry.clause ∷ [])) unknown

    after : StandsFor (record s { log = s.log ++ given_entry s.log solver entry.clause ∷ [] }) who had (log ++ entry ∷ [])
    after =
        record {
          solver_there = was.solver_there;
          all_items = was.all_items;
          places_there = λ k d l. let p : get_or (taken_by s who).places k d < length s.log = was.places_there k d l in omega (arith, p, length-append s.log (given_entry s.log solver entry.clause ∷ []));
          same_log = map-append solver_and_clause log (entry ∷ [])
              ∙ ((λ i. was.same_log i ++ (by i, entry.clause) ∷ []) ∙ sym (map-append solver_and_clause s.log (given_entry s.log solver entry.clause ∷ [])));
          same_entries = was.same_entries ∙ ap (map solver_and_clause) (sym (entries_stay s.log (given_entry s.log solver entry.clause ∷ []) (taken_by s who).places was.places_there));
        }

-- a solver gives one new clause
give_one : (s : State) (solver : ℕ) (has log : List Shared) → StandsFor s solver has log → (entry : Shared) → entry.solver ≡ solver → IsShareable s.formula.vars entry.clause → Follows (with_clauses s.formula has) entry.clause
    → All (λ (e : Shared). e.clause ≡ entry.clause → ⊥) log → IsTurnRun s solver log has (log ++ entry ∷ []) (Give solver entry.clause ∷ [])
give_one s solver has log stands entry by shareable follows fresh =
    record {
      run = ((stands.solver_there, shareable, subst (λ f. Follows f entry.clause) (known_is s solver has log stands) follows), tt);
      stands = stands_after_give s solver solver has log entry unknown by stands;
      formula = refl;
      others = λ other theirs differs was. stands_after_give s solver other theirs log entry unknown by was;
    }
  where
    unknown : is_known s.log entry.clause ≡ false
    unknown = sym (known_alike log s.log entry.clause stands.same_log) ∙ unknown_lacks log entry.clause fresh

-- runs in a row are a run
IsRun-append : (first rest : List Event) (s : State) → IsRun s first → IsRun (after_events s first) rest → IsRun s (first ++ rest)
IsRun-append [] rest s a b = b
IsRun-append (event ∷ first) rest s a b = (a.0, IsRun-append first rest (after_event s event) a.1 b)

-- and so are those of a turn
joined : (s : State) (solver : ℕ) (log has mid had next : List Shared) (first rest : List Event) → IsTurnRun s solver log had mid first → IsTurnRun (after_events s first) solver mid has next rest → IsTurnRun s solver log has next (first ++ rest)
joined s solver log has mid had next first rest a b =
    record {
      run = IsRun-append first rest s a.run b.run;
      stands = subst (λ (t : State). StandsFor t solver has next) along b.stands;
      formula = ap (λ (t : State). t.formula) (sym along) ∙ (b.formula ∙ a.formula);
      others = λ other theirs differs was. subst (λ (t : State). StandsFor t other theirs next) along (b.others other theirs differs (a.others other theirs differs was));
    }
  where
    along : after_events (after_events s first) rest ≡ after_events s (first ++ rest)
    along = sym (fold-append after_event s first rest)

-- a solver takes entries of the log, one after the other
takes : (more : List Shared) (s : State) (solver : ℕ) (had log : List Shared) → StandsFor s solver had log → All (λ e. Contains log e) more
    → (places : List ℕ) × (entries_at log places ≡ more) × IsTurnRun s solver log (had ++ more) log (map (λ place. Take solver place) places)
takes [] s solver had log stands there =
    ([], refl, record { run = tt; stands = subst (λ (l : List Shared). StandsFor s solver l log) (sym (append-nil had)) stands; formula = refl; others = λ other theirs differs was. was })
takes (entry ∷ more) s solver had log stands there =
    step (there 0 entry (omega arith)) (λ t had' stands'. takes more t solver had' log stands' (λ k d l. there (suc k) d (omega (arith, l))))
  where
    step : Contains log entry
        → ((t : State) (had' : List Shared) → StandsFor t solver had' log → (places : List ℕ) × (entries_at log places ≡ more) × IsTurnRun t solver log (had' ++ more) log (map (λ place. Take solver place) places))
        → (places : List ℕ) × (entries_at log places ≡ entry ∷ more) × IsTurnRun s solver log (had ++ entry ∷ more) log (map (λ place. Take solver place) places)
    step (place, within, is) further =
        let at : slice_get log place ≡ Some entry = slice_get-get_or log place entry within ∙ ap Some is in
        let first : IsTurnRun s solver log (had ++ entry ∷ []) log (Take solver place ∷ []) = take_one s solver had log stands place entry at in
        let rest = further (after_event s (Take solver place)) (had ++ entry ∷ []) first.stands in (
          place ∷ rest.0,
          ap₂ cons_option at rest.1,
          subst (λ (l : List Shared). IsTurnRun s solver log l log (Take solver place ∷ map (λ p. Take solver p) rest.0)) (append_assoc had (entry ∷ []) more)
              (joined s solver log ((had ++ entry ∷ []) ++ more) log (had ++ entry ∷ []) log (Take solver place ∷ []) (map (λ p. Take solver p) rest.0) first rest.2),
        )

-- a solver gives new clauses, one after the other
gives : (clauses : List (List Lit)) (s : State) (solver : ℕ) (has log found : List Shared) → StandsFor s solver has log → All (IsShareable s.formula.vars) clauses → All (Follows (with_clauses s.formula has)) clauses
    → AllPairs (λ (d e : Shared). d.clause ≡ e.clause → ⊥) (log ++ map (given_entry found solver) clauses)
    → IsTurnRun s solver log has (log ++ map (given_entry found solver) clauses) (map (λ clause. Give solver clause) clauses)
gives [] s solver has log found stands shareable follow once =
    record {
      run = tt;
      stands = subst (λ (l : List Shared). StandsFor s solver has l) (sym (append-nil log)) stands;
      formula = refl;
      others = λ other theirs differs was. subst (λ (l : List Shared). StandsFor s other theirs l) (sym (append-nil log)) was;
    }
gives (clause ∷ clauses) s solver has log found stands shareable follow once =
    subst (λ (l : List Shared). IsTurnRun s solver log has l (map (λ c. Give solver c) (clause ∷ clauses))) along
    (joined s solver log has (log ++ entry ∷ []) has ((log ++ entry ∷ []) ++ map (given_entry found solver) clauses) (Give solver clause ∷ []) (map (λ c. Give solver c) clauses) first
    (gives clauses (after_event s (Give solver clause)) solver has (log ++ entry ∷ []) found first.stands (λ k d l. shareable (suc k) d (omega (arith, l))) (λ k d l. follow (suc k) d (omega (arith, l)))
    (subst (AllPairs (λ (d e : Shared). d.clause ≡ e.clause → ⊥)) (sym along) once)))
  where
    entry : Shared
    entry = given_entry found solver clause

    along : (log ++ entry ∷ []) ++ map (given_entry found solver) clauses ≡ log ++ map (given_entry found solver) (clause ∷ clauses)
    along = append_assoc log (entry ∷ []) (map (given_entry found solver) clauses)

    first : IsTurnRun s solver log has (log ++ entry ∷ []) (Give solver clause ∷ [])
    first = give_one s solver has log stands entry refl (shareable 0 clause (omega arith)) (follow 0 clause (omega arith)) (given_is_new log found solver clause clauses once)

pub turns_run : TurnsAreRuns
turns_run s solver had log has next turn stands =
    let taking = takes turn.more s solver had log stands turn.there in
    let taken : IsTurnRun s solver log has log (map (λ place. Take solver place) taking.0) =
    subst (λ (l : List Shared). IsTurnRun s solver log l log (map (λ place. Take solver place) taking.0)) (sym turn.taken) taking.2 in
    let after : State = after_events s (map (λ place. Take solver place) taking.0) in
    let giving : IsTurnRun after solver log has next (map (λ clause. Give solver clause) turn.given) =
    subst (λ (l : List Shared). IsTurnRun after solver log has l (map (λ clause. Give solver clause) turn.given)) (sym turn.added)
    (gives turn.given after solver has log log taken.stands
    (subst (λ (f : Problem). All (IsShareable f.vars) turn.given) (sym taken.formula) turn.shareable)
    (subst (λ (f : Problem). All (Follows (with_clauses f has)) turn.given) (sym taken.formula) turn.follow)
    (subst (AllPairs (λ (d e : Shared). d.clause ≡ e.clause → ⊥)) turn.added turn.once)) in
    (taking.0, taking.1, joined s solver log has log has next (map (λ place. Take solver place) taking.0) (map (λ clause. Give solver clause) turn.given) taken giving)
