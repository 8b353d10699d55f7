-- Activities that are raised and rescaled.
use Rattle.std.proofs.Common.{◌≡◌, ◌<◌, ◌+◌, ◌^◌, ℕ, suc, zero, Bool, true, false, cond, List, [], ◌∷◌, length, map, Option, Some, None, option_map, unwrap_or, refl, sym, ap, ◌∙◌, ⊎_elim, inl, inr, arith}
use Rattle.std.proofs.lemmas.Bool.{lt-leb}
use Rattle.std.proofs.lemmas.List.{ext_get_or, length-map}
use Rattle.std.specs.Option.{is_some}
use Rattle.pick_order.specs.declared.preference.Preference.{Preference}
use Rattle.pick_order.specs.declared.preference.Candidate.{Candidate}
use Rattle.pick_order.specs.Tournaments.{entrant}
use Rattle.pick_order.specs.Preferences.{preference_in, candidate_of, candidate_in, activity_in, fits_in, rescaled_preference, rescaled_increment, raised, bumped}
use Rattle.pick_order.specs.Queues.{IsQueued, IsCarried}
use Rattle.pick_order.specs.Laws.{mapped_some}

-- an activity that would pass the limit does not fit
pub no_room : (order : List (Option Preference)) (v by : ℕ) (p : Preference) → preference_in order v ≡ Some p → 2 ^ 62 < p.activity + by → fits_in order v by ≡ false
no_room order v by p e l = lt-leb _ _ (let a : activity_in order v ≡ p.activity = ap (λ (o : Option Preference). unwrap_or (option_map (λ (q : Preference). q.activity) o) 0) e in omega arith)

-- where it does not fit, what is chosen is the other
pub rescaled_order : (order new : List (Option Preference)) (b : Bool) → b ≡ false → length new ≡ length order → ((v : ℕ) → preference_in new v ≡ option_map rescaled_preference (preference_in order v))
    → new ≡ cond b order (map (option_map rescaled_preference) order)
rescaled_order order new b e n h = rw e (ext_get_or None new (map (option_map rescaled_preference) order) (n ∙ sym (length-map order (option_map rescaled_preference))) (λ v l. h v ∙ rescaled_at order v))
  where
    rescaled_at : (xs : List (Option Preference)) (v : ℕ) → option_map rescaled_preference (preference_in xs v) ≡ preference_in (map (option_map rescaled_preference) xs) v
    rescaled_at [] v = refl
    rescaled_at (x ∷ xs) zero = refl
    rescaled_at (x ∷ xs) (suc v) = rescaled_at xs v

-- a bump is a raise once there is room
pub bumped_is : (order new : List (Option Preference)) (v by more : ℕ) (b : Bool) → fits_in order v by ≡ b → more ≡ cond b by (rescaled_increment by) → new ≡ cond b order (map (option_map rescaled_preference) order) → raised v more new ≡ bumped v by order
bumped_is order new v by more true e m n = rw (e, m, n) refl
bumped_is order new v by more false e m n = rw (e, m, n) refl

-- candidates stay candidates at each of two steps
pub carried_on : (a b c : List (Option Preference)) (x y z : List (Option Candidate)) → IsCarried a x b y → IsCarried b y c z → IsCarried a x c z
carried_on a b c x y z f g =
    record {
      sized = g.sized ∙ f.sized;
      places = g.places ∙ f.places;
      same = λ v e. g.same v (f.same v e);
      none = λ v e. g.none v (f.none v e);
    }

-- what was queued stays so
pub queued_carried : (known : List (Option Preference)) (entrants : List (Option Candidate)) (known' : List (Option Preference)) (entrants' : List (Option Candidate))
    → IsQueued known entrants → IsCarried known entrants known' entrants' → IsQueued known' entrants'
queued_carried known entrants known' entrants' q c =
    record {
      sized = c.places ∙ (q.sized ∙ sym c.sized);
      each =
          λ v.
          ⊎_elim (λ (e : entrant entrants v ≡ None). inl (c.none v e)) (λ (e : entrant entrants v ≡ candidate_in known v). inr (c.same v e)) (q.each v);
    }

-- and where the same variables are active, the same are candidates
pub candidates_carried : (known : List (Option Preference)) (entrants : List (Option Candidate)) (known' : List (Option Preference)) (entrants' : List (Option Candidate))
    → IsQueued known entrants → IsCarried known entrants known' entrants' → (v : ℕ) → is_some (preference_in known' v) ≡ is_some (preference_in known v) → is_some (entrant entrants' v) ≡ is_some (entrant entrants v)
candidates_carried known entrants known' entrants' q c v a =
    ⊎_elim (λ (e : entrant entrants v ≡ None). ap is_some (c.none v e) ∙ sym (ap is_some e))
    (λ (e : entrant entrants v ≡ candidate_in known v).
    ap is_some (c.same v e) ∙ (mapped_some (candidate_of v) (preference_in known' v) ∙ (a ∙ (sym (mapped_some (candidate_of v) (preference_in known v)) ∙ sym (ap is_some e))))) (q.each v)
