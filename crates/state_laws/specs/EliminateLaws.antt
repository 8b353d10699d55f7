-- A state stands when a variable is eliminated.
use Rattle.std.proofs.Common.{◌≡◌, ℕ, ◌==◌, Bool, true, false, not, ◌||◌, List, [], ◌∷◌, ◌++◌, refl, sym, ap, subst, ◌∙◌, ⊎_elim, filter, length}
use Rattle.std.proofs.lemmas.Bool.{and_parts, and_from, or_cases, false≢true}
use Rattle.std.proofs.lemmas.List.Folds.{list_all-append}
use Rattle.std.specs.List.{list_all}
use Rattle.sat_lits.specs.Truth.{signed, clauses_value, with_value}
use Rattle.sat_lits.specs.ListLaws.{all_filter}
use Rattle.sat_lits.specs.ClauseLaws.{clauses_value-append, clauses_value-filter}
use Rattle.sat_lits.specs.Meaning.{IsModel}
use Rattle.sat_lits.specs.declared.literal.Own.{Own}
use Rattle.sat_lits.specs.declared.literal.OwnLit.{OwnLit}
use Rattle.rebuild_stack.specs.Values.{own_value, each_lit}
use Rattle.rebuild_stack.specs.Entries.{undo, entry_value}
use Rattle.rebuild_stack.specs.PutIn.{is_clean}
use Rattle.rebuild_stack.specs.CommonLaws.{each_mono, with_value_kept}
use Rattle.rebuild_stack.specs.RebuildLaws.{rebuild-append}
use Rattle.rebuild_stack.specs.declared.entry.Entry.TheVariants.{Gone}
use Rattle.state_laws.specs.State.{State, is_active, outer_part, problem_of}
use Rattle.state_laws.specs.Stands.{Stands, IsSound, IsComplete, IsPlaced, HasCleanClauses, is_clean_entry}
use Rattle.state_laws.specs.Resolution.{mentions, rests, resolvents}
use Rattle.state_laws.specs.Moves.{eliminated}
use Rattle.state_laws.specs.PlaceLaws.{placed_push, set_places, active_in, still_active, unmentioned_all}
use Rattle.state_laws.specs.PutIntoLaws.{clauses_elsewhere}
use Rattle.state_laws.specs.ResolutionLaws.{resolvents_value, resolvents_hold, joins_pass, rests_pass, joins_clean}

-- a flip where clauses are false makes them true, where one of both values does
flip_true : (f : Bool → Bool) (y t : Bool) → f y ≡ t → (f false || f true) ≡ true → f (signed (not t) y) ≡ true
flip_true f y true e h = e
flip_true f true false e h = ⊎_elim (λ p. p) (λ p. absurd (false≢true (sym e ∙ p))) (or_cases _ _ h)
flip_true f false false e h = ⊎_elim (λ p. absurd (false≢true (sym e ∙ p))) (λ p. p) (or_cases _ _ h)

flipped_holds : (w : ℕ → Bool) (v : Own) (cs : List (List OwnLit)) → clauses_value (own_value w) (resolvents v.0 cs) ≡ true → clauses_value (own_value (undo (Gone v cs) w)) cs ≡ true
flipped_holds w v cs h =
    flip_true (λ x. clauses_value (own_value (with_value w v.0 x)) cs) (w v.0) (clauses_value (own_value w) cs) (ap (λ (z : ℕ → Bool). clauses_value (own_value z) cs) (with_value_kept w v.0 (w v.0) refl)) (sym (resolvents_value w v.0 cs) ∙ h)

-- true clauses are true with the variable and without it
parts : (v : Own) (w : ℕ → Bool) (cs : List (List OwnLit)) → clauses_value (own_value w) cs ≡ true → (clauses_value (own_value w) (filter (mentions v.0) cs) ≡ true) × (clauses_value (own_value w) (filter (λ c. not (mentions v.0 c)) cs) ≡ true)
parts v w cs e = and_parts _ _ (sym (clauses_value-filter (own_value w) (mentions v.0) cs) ∙ e)

eliminated-IsSound : (v : Own) (s : State) → IsSound s → IsSound (eliminated v s)
eliminated-IsSound v s h =
    record {
      hard = λ w a.
          clauses_value-append (own_value w) (filter (λ c. not (mentions v.0 c)) s.hard) (resolvents v.0 (filter (mentions v.0) s.hard))
          ∙ and_from _ _ (parts v w s.hard (h.hard w a)).1 (resolvents_hold w v.0 (filter (mentions v.0) s.hard) (parts v w s.hard (h.hard w a)).0);
      learned = λ w a. (parts v w s.learned (h.learned w a)).1;
      stack = λ w a. list_all-append (entry_value w) s.stack (Gone v (filter (mentions v.0) s.hard) ∷ []) ∙ and_from _ _ (h.stack w a) (and_from _ _ (parts v w s.hard (h.hard w a)).0 refl);
      okay = h.okay;
    }

-- where the clauses that are left hold, the old ones hold of the values with the entry undone
eliminated_value : (v : Own) (w : ℕ → Bool) (cs : List (List OwnLit)) → clauses_value (own_value w) (filter (λ c. not (mentions v.0 c)) cs ++ resolvents v.0 (filter (mentions v.0) cs)) ≡ true
    → clauses_value (own_value (undo (Gone v (filter (mentions v.0) cs)) w)) cs ≡ true
eliminated_value v w cs e =
    let p : (clauses_value (own_value w) (filter (λ c. not (mentions v.0 c)) cs) ≡ true) × (clauses_value (own_value w) (resolvents v.0 (filter (mentions v.0) cs)) ≡ true) =
    and_parts _ _ (sym (clauses_value-append (own_value w) (filter (λ c. not (mentions v.0 c)) cs) (resolvents v.0 (filter (mentions v.0) cs))) ∙ e) in
    clauses_value-filter (own_value (undo (Gone v (filter (mentions v.0) cs)) w)) (mentions v.0) cs
    ∙ and_from _ _ (flipped_holds w v (filter (mentions v.0) cs) p.1) (clauses_elsewhere w v.0 _ cs ∙ p.0)

eliminated-IsComplete : (v : Own) (s : State) → IsComplete s → IsComplete (eliminated v s)
eliminated-IsComplete v s h =
    record {
      rebuilt = λ o w c. subst (λ (z : ℕ → Bool). IsModel (problem_of s) (outer_part s.definitions z)) (sym (rebuild-append s.stack (Gone v (filter (mentions v.0) s.hard) ∷ []) w))
          (h.rebuilt o (undo (Gone v (filter (mentions v.0) s.hard)) w) (eliminated_value v w s.hard c));
    }

eliminated-IsPlaced : (v : Own) (s : State) → is_active s v.0 ≡ true → IsPlaced s → IsPlaced (eliminated v s)
eliminated-IsPlaced v s a h =
    set_places s (eliminated v s) v.0 false (active_in s.active v.0 a) refl refl h.lengths
    (placed_push (is_active s) (length s.definitions) s.hard s.learned (filter (λ c. not (mentions v.0 c)) s.hard ++ resolvents v.0 gone) (filter (λ c. not (mentions v.0 c)) s.learned) s.stack (Gone v gone) a
    (each_mono (λ l. is_active s l.var.0) (λ l. (l.var.0 == v.0) || with_value (is_active s) v.0 false l.var.0) other gone gone_active)
    (list_all-append (list_all (λ l. with_value (is_active s) v.0 false l.var.0)) (filter (λ c. not (mentions v.0 c)) s.hard) (resolvents v.0 gone)
    ∙ and_from _ _ (unmentioned_all (is_active s) v.0 s.hard h.placed.hard)
    (joins_pass (λ l. with_value (is_active s) v.0 false l.var.0) (rests v.0 false gone) (rests v.0 true gone) (rests_pass (is_active s) v.0 false gone gone_active) (rests_pass (is_active s) v.0 true gone gone_active)))
    (unmentioned_all (is_active s) v.0 s.learned h.placed.learned) h.placed)
  where
    gone : List (List OwnLit)
    gone = filter (mentions v.0) s.hard

    gone_active : each_lit (λ l. is_active s l.var.0) gone ≡ true
    gone_active = all_filter (list_all (λ (l : OwnLit). is_active s l.var.0)) (mentions v.0) (list_all (λ (l : OwnLit). is_active s l.var.0)) (λ c b m. b) s.hard h.placed.hard

    other : (l : OwnLit) → is_active s l.var.0 ≡ true → ((l.var.0 == v.0) || with_value (is_active s) v.0 false l.var.0) ≡ true
    other l b = go (l.var.0 == v.0) refl
      where
        go : (d : Bool) → (l.var.0 == v.0) ≡ d → (d || with_value (is_active s) v.0 false l.var.0) ≡ true
        go true e = refl
        go false e = still_active (is_active s) v.0 l.var.0 b e

eliminated_clean : (v : Own) (s : State) → HasCleanClauses s → HasCleanClauses (eliminated v s)
eliminated_clean v s h =
    record {
      hard = list_all-append is_clean (filter (λ c. not (mentions v.0 c)) s.hard) (resolvents v.0 (filter (mentions v.0) s.hard))
          ∙ and_from _ _ (all_filter is_clean (λ c. not (mentions v.0 c)) is_clean (λ c b m. b) s.hard h.hard) (joins_clean (rests v.0 false (filter (mentions v.0) s.hard)) (rests v.0 true (filter (mentions v.0) s.hard)));
      learned = all_filter is_clean (λ c. not (mentions v.0 c)) is_clean (λ c b m. b) s.learned h.learned;
      stack = list_all-append is_clean_entry s.stack (Gone v (filter (mentions v.0) s.hard) ∷ []) ∙ and_from _ _ h.stack (and_from _ _ (all_filter is_clean (mentions v.0) is_clean (λ c b m. b) s.hard h.hard) refl);
    }

-- an active variable is eliminated
pub eliminated-Stands : (v : Own) (s : State) → is_active s v.0 ≡ true → Stands s → Stands (eliminated v s)
eliminated-Stands v s a h =
    record {
      sound = eliminated-IsSound v s h.sound;
      complete = eliminated-IsComplete v s h.complete;
      places = eliminated-IsPlaced v s a h.places;
      ranges = record { items = h.ranges.items; entries = h.ranges.entries; definitions = h.ranges.definitions };
      clean = eliminated_clean v s h.clean;
    }
