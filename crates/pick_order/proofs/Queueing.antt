-- The candidates and the variables that were passed over, step by step.
use Rattle.std.proofs.Common.{◌≡◌, ◌<◌, ◌≤◌, ◌+◌, ℕ, Bool, true, false, not, cond, ◌&&◌, List, length, set, Option, Some, None, option_map, refl, sym, ap, ◌∙◌, ⊎_elim, inl, inr, arith}
use Rattle.std.proofs.lemmas.Bool.{and_from, false≢true, cases_eq, cases_lt}
use Rattle.std.proofs.lemmas.List.{get_or-set_same, get_or-set_other, get_or_past, length-set}
use Rattle.std.proofs.lemmas.List.Sums.{sum_by-set}
use Rattle.std.specs.Option.{is_some}
use Rattle.std.specs.List.{count_by}
use Rattle.sat_lits.specs.declared.literal.Inner.{Inner}
use Rattle.sat_lits.specs.declared.literal.InLit.{InLit}
use Rattle.trail.specs.declared.trail.Step.{Step}
use Rattle.trail.specs.Trail.{set_in}
use Rattle.pick_order.specs.declared.preference.Preference.{Preference}
use Rattle.pick_order.specs.declared.preference.Candidate.{Candidate}
use Rattle.pick_order.specs.Candidates.{comes_first, is_ahead}
use Rattle.pick_order.specs.Tournaments.{entrant, IsFirst}
use Rattle.pick_order.specs.Preferences.{preference_in, candidate_of, candidate_in, IsPick, AllSet}
use Rattle.pick_order.specs.Orders.{Order, HasPassedSet}
use Rattle.pick_order.specs.Queues.{IsQueued, IsPlaced, HasLostSet}

-- a variable that is a candidate stands at its own place
candidate_place : (known : List (Option Preference)) (v : ℕ) (a : Candidate) → candidate_in known v ≡ Some a → (p : Preference) × (preference_in known v ≡ Some p) × (candidate_of v p ≡ a)
candidate_place known v a e = go (preference_in known v) refl e
  where
    go : (o : Option Preference) → preference_in known v ≡ o → option_map (candidate_of v) o ≡ Some a → (p : Preference) × (preference_in known v ≡ Some p) × (candidate_of v p ≡ a)
    go None f g = absurd (let k : ◌≡◌ {A = Option Candidate} None (Some a) = g in cc)
    go (Some p) f g = (p, f, cc)

-- an entrant is an active variable
entrant_active : (known : List (Option Preference)) (entrants : List (Option Candidate)) → IsQueued known entrants → (k : ℕ) (a : Candidate) → entrant entrants k ≡ Some a → (p : Preference) × (preference_in known k ≡ Some p) × (candidate_of k p ≡ a)
entrant_active known entrants h k a e =
    ⊎_elim (λ (s : entrant entrants k ≡ None). absurd (let n : ◌≡◌ {A = Option Candidate} None (Some a) = sym s ∙ e in cc))
    (λ (s : entrant entrants k ≡ candidate_in known k). candidate_place known k a (sym s ∙ e)) (h.each k)

-- and stands at its number
pub placed : (known : List (Option Preference)) (entrants : List (Option Candidate)) → IsQueued known entrants → IsPlaced entrants
placed known entrants h k a e =
    let q : (p : Preference) × (preference_in known k ≡ Some p) × (candidate_of k p ≡ a) = entrant_active known entrants h k a e in
    sym (ap (λ (z : Candidate). z.var.0) q.2)

module _ (entrants : List (Option Candidate)) (h : IsPlaced entrants) (a : Candidate) (f : IsFirst entrants (Some a)) where
  -- the first candidate is one
  pub first_there : entrant entrants a.var.0 ≡ Some a
  first_there = let q : (k : ℕ) × (entrant entrants k ≡ Some a) = f.among a refl in ap (entrant entrants) (h q.0 a q.1) ∙ q.1

  -- its place is one of the tournament
  pub first_within : a.var.0 < length entrants
  first_within =
      ⊎_elim (λ (l : a.var.0 < length entrants). l)
      (λ (l : length entrants ≤ a.var.0). absurd (let n : ◌≡◌ {A = Option Candidate} None (Some a) = sym (get_or_past entrants a.var.0 None l) ∙ first_there in cc)) (cases_lt a.var.0 (length entrants))

  -- without it there is one candidate less
  pub fewer_left : count_by is_some (set entrants a.var.0 None) + 1 ≡ count_by is_some entrants
  fewer_left =
      let s : count_by is_some (set entrants a.var.0 None) + cond (is_some (entrant entrants a.var.0)) 1 0 ≡ count_by is_some entrants + 0 =
      sum_by-set (λ (o : Option Candidate). cond (is_some o) 1 0) entrants a.var.0 None None first_within in
      let t : ◌≡◌ {A = ℕ} (cond (is_some (entrant entrants a.var.0)) 1 0) 1 = ap (λ (o : Option Candidate). cond {A = ℕ} (is_some o) 1 0) first_there in
      omega arith

  -- the others stay where they are
  pub placed_pass : IsPlaced (set entrants a.var.0 None)
  placed_pass v b e =
      ⊎_elim
      (λ (s : v ≡ a.var.0).
      absurd (let n : ◌≡◌ {A = Option Candidate} None (Some b) = sym (ap (entrant (set entrants a.var.0 None)) s ∙ get_or-set_same entrants a.var.0 None None first_within) ∙ e in cc))
      (λ (s : v ≡ a.var.0 → ⊥). h v b (sym (get_or-set_other entrants a.var.0 v None None s) ∙ e)) (cases_eq v a.var.0)

  -- where it is set, none but set ones are gone
  pub lost_more : (steps : List Step) (old : List (Option Candidate)) → HasLostSet steps old entrants → set_in steps a.var.0 ≡ true → HasLostSet steps old (set entrants a.var.0 None)
  lost_more steps old l u =
      record {
        places = length-set entrants a.var.0 None ∙ l.places;
        each =
            λ v.
            ⊎_elim
            (λ (s : v ≡ a.var.0). inr (ap (entrant (set entrants a.var.0 None)) s ∙ get_or-set_same entrants a.var.0 None None first_within, ap (set_in steps) s ∙ u))
            (λ (s : v ≡ a.var.0 → ⊥).
            let o : entrant (set entrants a.var.0 None) v ≡ entrant entrants v = get_or-set_other entrants a.var.0 v None None s in
            ⊎_elim (λ (e : entrant entrants v ≡ entrant old v). inl (o ∙ e)) (λ (e : (entrant entrants v ≡ None) × (set_in steps v ≡ true)). inr (o ∙ e.0, e.1)) (l.each v))
            (cases_eq v a.var.0);
      }

-- at first none is gone
pub lost_none : (steps : List Step) (entrants : List (Option Candidate)) → HasLostSet steps entrants entrants
lost_none steps entrants = record { places = refl; each = λ v. inl refl }

-- those that are left are queued
pub queued_lost : (known : List (Option Preference)) (steps : List Step) (old new : List (Option Candidate)) → IsQueued known old → HasLostSet steps old new → IsQueued known new
queued_lost known steps old new q l =
    record {
      sized = l.places ∙ q.sized;
      each =
          λ v.
          ⊎_elim
          (λ (e : entrant new v ≡ entrant old v).
          ⊎_elim (λ (n : entrant old v ≡ None). inl (e ∙ n)) (λ (n : entrant old v ≡ candidate_in known v). inr (e ∙ n)) (q.each v))
          (λ (e : (entrant new v ≡ None) × (set_in steps v ≡ true)). inl e.0) (l.each v);
    }

-- and those that are gone were passed over as set
pub passed_lost : (order : Order) (steps : List Step) (new : List (Option Candidate)) → HasPassedSet order steps → HasLostSet steps order.candidates new → HasPassedSet (record order { candidates = new }) steps
passed_lost order steps new h l v e =
    ⊎_elim
    (λ (s : entrant new v ≡ entrant order.candidates v).
    h v (ap (λ (o : Option Candidate). is_some (preference_in order.known v) && not (is_some o)) (sym s) ∙ e))
    (λ (s : (entrant new v ≡ None) × (set_in steps v ≡ true)). s.1) (l.each v)

module _ (order : Order) (q : IsQueued order.known order.candidates) (steps : List Step) (h : HasPassedSet order steps) where
  -- an active variable that is unset is a candidate
  unset_candidate : (v : ℕ) → set_in steps v ≡ false → entrant order.candidates v ≡ candidate_in order.known v
  unset_candidate v u =
      ⊎_elim (λ (s : entrant order.candidates v ≡ None). go (preference_in order.known v) refl s) (λ (s : entrant order.candidates v ≡ candidate_in order.known v). s) (q.each v)
    where
      go : (o : Option Preference) → preference_in order.known v ≡ o → entrant order.candidates v ≡ None → entrant order.candidates v ≡ candidate_in order.known v
      go None f s = s ∙ sym (ap (option_map (candidate_of v)) f)
      go (Some p) f s =
          absurd (false≢true (sym u ∙ h v (and_from (is_some (preference_in order.known v)) (not (is_some (entrant order.candidates v))) (ap is_some f) (ap (λ (o : Option Candidate). not (is_some o)) s))))

  -- where there is no candidate, all are set
  pub none_left : IsFirst order.candidates None → AllSet order.known steps
  none_left f v p e = go (set_in steps v) refl
    where
      go : (b : Bool) → set_in steps v ≡ b → b ≡ true
      go true u = refl
      go false u = absurd (let k : is_ahead None (candidate_in order.known v) ≡ true = ap (is_ahead None) (sym (unset_candidate v u)) ∙ f.ahead v in false≢true (ap (λ (o : Option Preference). is_ahead None (option_map (candidate_of v) o)) (sym e) ∙ k))

  -- the first candidate that is unset is the pick
  pub picked : (a : Candidate) (l : InLit) (p : Preference) → IsFirst order.candidates (Some a) → set_in steps a.var.0 ≡ false → preference_in order.known a.var.0 ≡ Some p → l.var ≡ a.var → l.negative ≡ not p.phase
      → IsPick order.known steps l p
  picked a l p f u e w n =
      record {
        active = ap (λ (z : Inner). preference_in order.known z.0) w ∙ e;
        phase = n;
        unset = ap (λ (z : Inner). set_in steps z.0) w ∙ u;
        first = first;
      }
    where
      first : (v : ℕ) (r : Preference) → preference_in order.known v ≡ Some r → set_in steps v ≡ false → comes_first (candidate_of l.var.0 p) (candidate_of v r) ≡ true
      first v r g k =
          let c : (s : Preference) × (preference_in order.known a.var.0 ≡ Some s) × (candidate_of a.var.0 s ≡ a) =
          entrant_active order.known order.candidates q a.var.0 a (first_there order.candidates (placed order.known order.candidates q) a f) in
          let s : p ≡ c.0 = let y : ◌≡◌ {A = Option Preference} (Some p) (Some c.0) = sym e ∙ c.1 in cc in
          let t : candidate_of l.var.0 p ≡ a = ap (λ (z : Inner). candidate_of z.0 p) w ∙ (ap (candidate_of a.var.0) s ∙ c.2) in
          let m : is_ahead (Some a) (option_map (candidate_of v) (Some r)) ≡ true = ap (λ (o : Option Preference). is_ahead (Some a) (option_map (candidate_of v) o)) (sym g) ∙ (ap (is_ahead (Some a)) (sym (unset_candidate v k)) ∙ f.ahead v) in
          ap (λ (z : Candidate). comes_first z (candidate_of v r)) t ∙ m
