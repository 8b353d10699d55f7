-- Why every run is right.
use Rattle.std.proofs.Common.{◌≡◌, ⊎_elim, ℕ, zero, suc, Bool, true, false, cond, List, [], ◌∷◌, ◌++◌, length, map, take, Option, Some, None, refl, sym, ap, subst, ◌∙◌, arith, true≢false}
use Rattle.std.specs.List.{list_all, slice_get, cons_option}
use Rattle.std.proofs.lemmas.Bool.{and_from}
use Rattle.std.proofs.lemmas.List.{take_all}
use Rattle.std.proofs.lemmas.List.Folds.{list_all-append, list_all-map}
use Rattle.std.proofs.lemmas.Option.{none-some, same_Some}
use Rattle.sat_lits.specs.ListLaws.{all_push, all_front, all_get}
use Rattle.sat_lits.specs.FollowLaws.{Follows_items, with_item-Extends}
use Rattle.sat_lits.specs.LogLaws.{slice_get-push, front_holds, each_follows, stays_legal, push_is_legal}
use Rattle.sat_lits.specs.Meaning.{IsModel, Follows, satisfies, satisfies_clause}
use Rattle.sat_lits.specs.Formulas.{names_known, with_item}
use Rattle.sat_lits.specs.Logs.{IsShareable, IsLegalAt, IsLegalLog}
use Rattle.sat_lits.specs.Verdicts.{IsRight}
use Rattle.sat_lits.specs.declared.literal.Lit.{Lit}
use Rattle.sat_lits.specs.declared.formula.Item.TheVariants.{Clause}
use Rattle.sat_lits.specs.declared.shared.Shared.{Shared}
use Rattle.sat_lits.specs.declared.verdict.Verdict.{Verdict}
use Rattle.sat_lits.specs.declared.verdict.Verdict.TheVariants.{Sat, Unsat}
use Rattle.race_model.specs.declared.event.Event.{Event}
use Rattle.race_model.specs.declared.event.Event.TheVariants.{Add, Absorb, Give, Take, Say}
use Rattle.race_model.specs.States.{State, start, taken_by, entries_at, entries_of, known_to}
use Rattle.race_model.specs.Events.{is_known, given_entry, MaySay, IsAllowed, after_event, after_events, IsRun, EveryRunIsRight, EachGivenFollows, EachNamesAllBefore, EarlyModelsMayFail}
use Rattle.race_model.proofs.Known.{lacks_unknown}

-- what every run keeps: the items name variables that are there, the log is legal, and each entry names all before it
pub record IsSound (s : State) : Type 0 where
  pub known : list_all (names_known s.formula.vars) s.formula.items ≡ true
  pub legal : IsLegalLog s.formula s.log
  pub all_before : (place : ℕ) (entry : Shared) → slice_get s.log place ≡ Some entry → entry.after ≡ place

-- the entries at places of a log pass what all of its entries pass
entries_pass : (p : Shared → Bool) (log : List Shared) (places : List ℕ) → list_all p log ≡ true → list_all p (entries_at log places) ≡ true
entries_pass p log [] all = refl
entries_pass p log (place ∷ places) all = step (slice_get log place) refl (entries_pass p log places all)
  where
    step : (o : Option Shared) → slice_get log place ≡ o → list_all p (entries_at log places) ≡ true → list_all p (cons_option o (entries_at log places)) ≡ true
    step None e rest = rest
    step (Some entry) e rest = and_from _ _ (all_get p log place entry e all) rest

-- a model of the formula is a model of what a solver knows
pub knows_true : (s : State) (solver : ℕ) → IsLegalLog s.formula s.log → (values : List Bool) → IsModel s.formula values → IsModel (known_to s solver) values
knows_true s solver legal values m =
    record {
      whole = m.whole;
      holds = list_all-append (satisfies values) (take (taken_by s solver).items s.formula.items) (map (λ (e : Shared). Clause e.clause) (entries_of s solver))
          ∙ and_from _ _ (all_front (satisfies values) (taken_by s solver).items s.formula.items m.holds)
          (list_all-map (satisfies values) (λ (e : Shared). Clause e.clause) (entries_of s solver) ∙ entries_pass (λ (e : Shared). satisfies_clause values e.clause) s.log (taken_by s solver).places all);
    }
  where
    all : list_all (λ (e : Shared). satisfies_clause values e.clause) s.log ≡ true
    all =
        ap (list_all (λ (e : Shared). satisfies_clause values e.clause)) (sym (take_all (length s.log) s.log (omega arith)))
        ∙ front_holds s.formula s.log legal values m (length s.log)

-- a sound state stays sound where a solver gives a clause that follows from what it knows
given_sound : (s : State) (solver : ℕ) (clause : List Lit) → IsSound s → IsShareable s.formula.vars clause → Follows (known_to s solver) clause → IsSound (after_event s (Give solver clause))
given_sound s solver clause sound shareable follows = step (is_known s.log clause) refl
  where
    at_end : IsLegalAt s.formula s.log (length s.log) (given_entry s.log solver clause)
    at_end =
        record {
          earlier = omega arith;
          follows = Follows_items s.formula (map (λ (e : Shared). Clause e.clause) (take (length s.log) s.log)) clause (λ values m. follows values (knows_true s solver sound.legal values m));
          shareable = shareable;
        }

    step : (b : Bool) → is_known s.log clause ≡ b → IsSound (record s { log = cond b s.log (s.log ++ given_entry s.log solver clause ∷ []) })
    step true known = sound
    step false known =
        record {
          known = sound.known;
          legal = push_is_legal s.formula s.log (given_entry s.log solver clause) sound.legal at_end (lacks_unknown s.log clause known);
          all_before = λ place entry stands.
              ⊎_elim (λ (h : slice_get s.log place ≡ Some entry). sound.all_before place entry h)
              (λ (h : (place ≡ length s.log) × (given_entry s.log solver clause ≡ entry)). ap (λ (e : Shared). e.after) (sym h.1) ∙ sym h.0)
              (slice_get-push s.log (given_entry s.log solver clause) place entry stands);
        }

-- an allowed event keeps a state sound
event_sound : (s : State) (event : Event) → IsSound s → IsAllowed s event → IsSound (after_event s event)
event_sound s (Add item) sound allowed =
    record {
      known = all_push (names_known s.formula.vars) s.formula.items item sound.known allowed;
      legal = stays_legal s.formula (with_item item s.formula) s.log sound.known (with_item-Extends item s.formula) sound.legal;
      all_before = sound.all_before;
    }
event_sound s (Absorb solver) sound allowed = record { known = sound.known; legal = sound.legal; all_before = sound.all_before }
event_sound s (Give solver clause) sound allowed = given_sound s solver clause sound allowed.1 allowed.2
event_sound s (Take solver place) sound allowed = record { known = sound.known; legal = sound.legal; all_before = sound.all_before }
event_sound s (Say solver assumptions verdict) sound allowed = sound

-- a verdict that may be said is right
said_right : (s : State) (solver : ℕ) (assumptions : List Lit) (verdict : Verdict) → IsSound s → MaySay s solver assumptions verdict → IsRight s.formula assumptions verdict
said_right s solver assumptions (Sat values) sound (all, model, meets) =
    (record { whole = model.whole; holds = ap (list_all (satisfies values)) (sym (take_all (taken_by s solver).items s.formula.items (omega arith))) ∙ model.holds }, meets)
said_right s solver assumptions (Unsat failed) sound fails =
    record {
      positions = fails.positions;
      rising = fails.rising;
      places = fails.places;
      distinct = fails.distinct;
      contradict = λ values m. fails.contradict values (knows_true s solver sound.legal values m);
    }

-- each front of a run from a sound state leaves a sound state
front_sound : (events : List Event) (s : State) → IsSound s → IsRun s events → (count : ℕ) → IsSound (after_events s (take count events))
front_sound events s sound run zero = sound
front_sound [] s sound run (suc count) = sound
front_sound (event ∷ events) s sound run (suc count) = front_sound events (after_event s event) (event_sound s event sound run.0) run.1 count

-- and each verdict said in it is right
says_right : (events : List Event) (s : State) → IsSound s → IsRun s events → (place solver : ℕ) (assumptions : List Lit) (verdict : Verdict) → slice_get events place ≡ Some (Say solver assumptions verdict)
    → IsRight (after_events s (take place events)).formula assumptions verdict
says_right [] s sound run place solver assumptions verdict stands = absurd (none-some _ stands)
says_right (event ∷ events) s sound run zero solver assumptions verdict stands =
    let allowed : IsAllowed s (Say solver assumptions verdict) = subst (IsAllowed s) (same_Some event (Say solver assumptions verdict) stands) run.0 in
    said_right s solver assumptions verdict sound allowed.1
says_right (event ∷ events) s sound run (suc place) solver assumptions verdict stands =
    says_right events (after_event s event) (event_sound s event sound run.0) run.1 place solver assumptions verdict stands

-- the start is sound
start_sound : (solvers vars : ℕ) → IsSound (start solvers vars)
start_sound solvers vars =
    record {
      known = refl;
      legal = record { each = λ place entry stands. absurd (none-some entry stands); once = λ i j d below within. absurd (omega arith) };
      all_before = λ place entry stands. absurd (none-some entry stands);
    }

pub every_run : EveryRunIsRight
every_run solvers vars events run =
    record {
      legal = λ count. (front_sound events (start solvers vars) (start_sound solvers vars) run count).legal;
      right = says_right events (start solvers vars) (start_sound solvers vars) run;
    }

-- a run from the start leaves a sound state
run_sound : (solvers vars : ℕ) (events : List Event) → IsRun (start solvers vars) events → IsSound (after_events (start solvers vars) events)
run_sound solvers vars events run =
    subst (λ es. IsSound (after_events (start solvers vars) es)) (take_all (length events) events (omega arith))
    (front_sound events (start solvers vars) (start_sound solvers vars) run (length events))

pub each_given : EachGivenFollows
each_given solvers vars events run =
    each_follows (after_events (start solvers vars) events).formula (after_events (start solvers vars) events).log (run_sound solvers vars events run).legal

pub each_names : EachNamesAllBefore
each_names solvers vars events run = (run_sound solvers vars events run).all_before

-- the formula says that its variable is false, and no solver has taken that
pub early_fails : EarlyModelsMayFail
early_fails =
    let negative : Lit = record { var = record { 0 = 0 }; negative = true } in
    (Add (Clause (negative ∷ [])) ∷ [], true ∷ [], (refl, tt), (record { whole = refl; holds = refl }, λ m. true≢false (sym m.holds)))
