-- Facts on turns that callers may cite.
use Rattle.std.proofs.Common.{◌≡◌, ℕ, ◌≤◌, suc, Bool, true, List, [], ◌∷◌, ◌++◌, All, AllPairs, length, map, take, get_or, sym, ap, subst, ◌∙◌, arith, length-append, append_assoc, append-nil}
use Rattle.std.specs.List.{list_all, Contains}
use Rattle.std.proofs.lemmas.List.{take_all, map-append}
use Rattle.std.proofs.lemmas.List.Elements.{All-append, All-push, All-contains, Contains-append_left}
use Rattle.std.proofs.lemmas.List.Quantifiers.{all_pairs_push}
use Rattle.std.proofs.lemmas.List.Folds.{list_all-map}
use Rattle.std.proofs.lemmas.List.Sums.{list_all-from_AllPass, AllPass-from_list_all}
use Rattle.std.proofs.Math.ListN.{get_or-append}
use Rattle.std.proofs.Math.Seq.{get_or-append_seam}
use Rattle.sat_lits.specs.FollowLaws.{Follows_items, Follows_through}
use Rattle.sat_lits.specs.LogLaws.{front_holds, push_is_legal}
use Rattle.sat_lits.specs.Meaning.{Problem, IsModel, Follows, satisfies, satisfies_clause}
use Rattle.sat_lits.specs.Logs.{IsShareable, IsLegalLog, with_clauses}
use Rattle.sat_lits.specs.declared.literal.Lit.{Lit}
use Rattle.sat_lits.specs.declared.formula.Item.{Item}
use Rattle.sat_lits.specs.declared.formula.Item.TheVariants.{Clause}
use Rattle.sat_lits.specs.declared.shared.Shared.{Shared}
use Rattle.race_model.specs.Events.{given_entry}
use Rattle.race_model.specs.Turns.{IsTurn, TurnsKeepLogsLegal}

-- a turn may take nothing and give nothing
pub turn_none : (f : Problem) (solver : ℕ) (had log : List Shared)
    → AllPairs (λ (d e : Shared). d.clause ≡ e.clause → ⊥) log → IsTurn f solver had log had log
turn_none f solver had log once =
    record {
      more = [];
      taken = sym (append-nil had);
      there = λ k d within. absurd (omega (arith, within));
      given = [];
      added = sym (append-nil log);
      shareable = λ k d within. absurd (omega (arith, within));
      follow = λ k d within. absurd (omega (arith, within));
      once = once;
    }

-- what follows from the formula with some entries follows with one more
follows_with : (f : Problem) (has : List Shared) (entry : Shared) (clause : List Lit)
    → Follows (with_clauses f has) clause → Follows (with_clauses f (has ++ entry ∷ [])) clause
follows_with f has entry clause follows =
    subst (λ (items : List Item). Follows (record { vars = f.vars; items = items }) clause) along
    (Follows_items (with_clauses f has) (Clause entry.clause ∷ []) clause follows)
  where
    along : (f.items ++ map (λ (e : Shared). Clause e.clause) has) ++ Clause entry.clause ∷ []
        ≡ f.items ++ map (λ (e : Shared). Clause e.clause) (has ++ entry ∷ [])
    along =
        append_assoc f.items (map (λ (e : Shared). Clause e.clause) has) (Clause entry.clause ∷ [])
        ∙ ap (λ items. f.items ++ items) (sym (map-append (λ (e : Shared). Clause e.clause) has (entry ∷ [])))

-- a turn may take one entry more, also after it gave
pub turn_takes : (f : Problem) (solver : ℕ) (had log has next : List Shared) (entry : Shared)
    → IsTurn f solver had log has next → Contains log entry
    → IsTurn f solver had log (has ++ entry ∷ []) next
turn_takes f solver had log has next entry turn there =
    record {
      more = turn.more ++ entry ∷ [];
      taken = ap (λ l. l ++ entry ∷ []) turn.taken ∙ append_assoc had turn.more (entry ∷ []);
      there = All-push (λ e. Contains log e) turn.more entry turn.there there;
      given = turn.given;
      added = turn.added;
      shareable = turn.shareable;
      follow = λ k d within. follows_with f has entry (get_or turn.given k d) (turn.follow k d within);
      once = turn.once;
    }

-- and give one clause more
pub turn_gives : (f : Problem) (solver : ℕ) (had log has next : List Shared) (clause : List Lit)
    → IsTurn f solver had log has next → IsShareable f.vars clause
    → Follows (with_clauses f has) clause → All (λ (e : Shared). e.clause ≡ clause → ⊥) next
    → IsTurn f solver had log has (next ++ given_entry log solver clause ∷ [])
turn_gives f solver had log has next clause turn shareable follows fresh =
    record {
      more = turn.more;
      taken = turn.taken;
      there = turn.there;
      given = turn.given ++ clause ∷ [];
      added = ap (λ l. l ++ given_entry log solver clause ∷ []) turn.added
          ∙ (append_assoc log (map (given_entry log solver) turn.given) (given_entry log solver clause ∷ [])
          ∙ ap (λ l. log ++ l) (sym (map-append (given_entry log solver) turn.given (clause ∷ []))));
      shareable = All-push (IsShareable f.vars) turn.given clause turn.shareable shareable;
      follow = All-push (Follows (with_clauses f has)) turn.given clause turn.follow follows;
      once = all_pairs_push (λ (d e : Shared). d.clause ≡ e.clause → ⊥) next (given_entry log solver clause) turn.once fresh;
    }

-- the entries of a solver are entries of the log after its turn
pub turn_entries : (f : Problem) (solver : ℕ) (had log has next : List Shared)
    → IsTurn f solver had log has next → All (λ e. Contains log e) had → All (λ e. Contains next e) has
turn_entries f solver had log has next turn there k d within =
    subst (λ (l : List Shared). Contains l (get_or has k d)) (sym turn.added)
    (Contains-append_left log (map (given_entry log solver) turn.given) (get_or has k d)
    (subst (λ (l : List Shared). All (λ e. Contains log e) l) (sym turn.taken) (All-append (λ e. Contains log e) had turn.more there turn.there) k d within))

-- where no clause stands twice, the first of the clauses given stands nowhere before
pub given_is_new : (front log : List Shared) (solver : ℕ) (clause : List Lit) (clauses : List (List Lit))
    → AllPairs (λ (d e : Shared). d.clause ≡ e.clause → ⊥) (front ++ map (given_entry log solver) (clause ∷ clauses))
    → All (λ (e : Shared). e.clause ≡ clause → ⊥) front
given_is_new front log solver clause clauses once k d l same =
    once k (length front) d l (omega (arith, length-append front (map (given_entry log solver) (clause ∷ clauses))))
    (ap (λ (e : Shared). e.clause) (get_or-append front (map (given_entry log solver) (clause ∷ clauses)) d k l)
    ∙ (same ∙ ap (λ (e : Shared). e.clause) (sym (get_or-append_seam front (given_entry log solver clause) (map (given_entry log solver) clauses) d))))

-- clauses that follow from the formula and are new may be added to a legal log, as entries that name a front of it
adds_legal : (f : Problem) (solver : ℕ) (log : List Shared) (clauses : List (List Lit)) (front : List Shared)
    → IsLegalLog f front → length log ≤ length front → All (IsShareable f.vars) clauses → All (Follows f) clauses
    → AllPairs (λ (d e : Shared). d.clause ≡ e.clause → ⊥) (front ++ map (given_entry log solver) clauses)
    → IsLegalLog f (front ++ map (given_entry log solver) clauses)
adds_legal f solver log [] front legal longer shareable follow once =
    subst (IsLegalLog f) (sym (append-nil front)) legal
adds_legal f solver log (clause ∷ clauses) front legal longer shareable follow once =
    subst (IsLegalLog f) along
    (adds_legal f solver log clauses (front ++ entry ∷ []) pushed (omega (arith, longer, length-append front (entry ∷ [])))
    (λ k d l. shareable (suc k) d (omega (arith, l))) (λ k d l. follow (suc k) d (omega (arith, l)))
    (subst (AllPairs (λ (d e : Shared). d.clause ≡ e.clause → ⊥)) (sym along) once))
  where
    entry : Shared
    entry = given_entry log solver clause

    along : (front ++ entry ∷ []) ++ map (given_entry log solver) clauses
        ≡ front ++ map (given_entry log solver) (clause ∷ clauses)
    along = append_assoc front (entry ∷ []) (map (given_entry log solver) clauses)

    pushed : IsLegalLog f (front ++ entry ∷ [])
    pushed =
        push_is_legal f front entry legal
        (record {
          earlier = longer;
          follows = Follows_items f (map (λ (e : Shared). Clause e.clause) (take (length log) front)) clause (follow 0 clause (omega arith));
          shareable = shareable 0 clause (omega arith);
        })
        (given_is_new front log solver clause clauses once)

-- a legal log is legal after a turn of a solver whose entries were its own
pub turn_is_legal : TurnsKeepLogsLegal
turn_is_legal f solver had log has next turn there legal =
    subst (IsLegalLog f) (sym turn.added)
    (adds_legal f solver log turn.given log legal (omega arith) turn.shareable (λ k d l. follows (get_or turn.given k d) (turn.follow k d l))
    (subst (AllPairs (λ (d e : Shared). d.clause ≡ e.clause → ⊥)) turn.added turn.once))
  where
    all_there : All (λ e. Contains log e) has
    all_there = subst (λ (l : List Shared). All (λ e. Contains log e) l) (sym turn.taken) (All-append (λ e. Contains log e) had turn.more there turn.there)

    hold : (values : List Bool) → IsModel f values → list_all (λ (e : Shared). satisfies_clause values e.clause) has ≡ true
    hold values m =
        list_all-from_AllPass (λ (e : Shared). satisfies_clause values e.clause) has
        (λ k d l. All-contains (λ (e : Shared). satisfies_clause values e.clause ≡ true) log (get_or has k d) (AllPass-from_list_all (λ (e : Shared). satisfies_clause values e.clause) log all) (all_there k d l))
      where
        all : list_all (λ (e : Shared). satisfies_clause values e.clause) log ≡ true
        all = ap (list_all (λ (e : Shared). satisfies_clause values e.clause)) (sym (take_all (length log) log (omega arith))) ∙ front_holds f log legal values m (length log)

    follows : (clause : List Lit) → Follows (with_clauses f has) clause → Follows f clause
    follows clause =
        Follows_through f (map (λ (e : Shared). Clause e.clause) has) clause
        (λ values m. list_all-map (satisfies values) (λ (e : Shared). Clause e.clause) has ∙ hold values m)
