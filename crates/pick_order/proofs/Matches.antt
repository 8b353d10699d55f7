-- The matches of a tournament, one after another.
use Rattle.std.proofs.Common.{◌≡◌, ◌≢◌, ◌<◌, ◌≤◌, ◌+◌, ◌-◌, ◌*◌, ◌/◌, ℕ, zero, suc, Bool, true, false, cond, eqb, leb, ltb, ◌&&◌, ◌⊎◌, List, length, drop, set, Option, Some, None, refl, sym, ap, subst, ◌∙◌, ⊎_elim, inl, inr, arith, ltb-true, leb-true, eq-eqb, lt-ltb, le-leb, option_map}
use Rattle.std.proofs.lemmas.Bool.{and_parts, and_from, or_left, or_right, or_cases, eqb-true, false≢true, true≢false, cases_eq, cases_lt}
use Rattle.std.proofs.lemmas.List.{get_or-set_same, get_or-set_other, get_or_past, get_or-drop, drop-set-add, length-drop}
use Rattle.pick_order.specs.declared.preference.Candidate.{Candidate}
use Rattle.pick_order.specs.declared.preference.Preference.{Preference}
use Rattle.pick_order.specs.Preferences.{candidate_of, candidate_in, rescaled_candidate}
use Rattle.pick_order.specs.Candidates.{comes_first, first_of, is_ahead}
use Rattle.pick_order.specs.Tournaments.{entrant, IsFirst, IsPlayed, IsPlayedAt, IsPlayedBut}

-- what coming first means in numbers
first_means : (a b : Candidate) → comes_first a b ≡ true → (b.activity < a.activity) ⊎ ((a.activity ≡ b.activity) × (a.var.0 ≤ b.var.0))
first_means a b e =
    ⊎_elim (λ (h : ltb b.activity a.activity ≡ true). inl (ltb-true _ _ h))
    (λ (h : (eqb a.activity b.activity && leb a.var.0 b.var.0) ≡ true).
    let p : (eqb a.activity b.activity ≡ true) × (leb a.var.0 b.var.0 ≡ true) = and_parts _ _ h in
    inr (eqb-true _ _ p.0, leb-true _ _ p.1)) (or_cases _ _ e)

first_from : (a b : Candidate) → (b.activity < a.activity) ⊎ ((a.activity ≡ b.activity) × (a.var.0 ≤ b.var.0)) → comes_first a b ≡ true
first_from a b h =
    ⊎_elim (λ (l : b.activity < a.activity). or_left _ _ (lt-ltb _ _ l))
    (λ (p : (a.activity ≡ b.activity) × (a.var.0 ≤ b.var.0)). or_right _ _ (and_from _ _ (eq-eqb _ _ p.0) (le-leb _ _ p.1))) h

-- of two candidates one comes first
first_total : (a b : Candidate) → comes_first a b ≡ false → comes_first b a ≡ true
first_total a b e =
    first_from b a
    (⊎_elim (λ (l : a.activity < b.activity). inl l)
    (λ (l : b.activity ≤ a.activity).
    ⊎_elim (λ (m : b.activity < a.activity). absurd (true≢false (sym (first_from a b (inl m)) ∙ e)))
    (λ (m : a.activity ≤ b.activity).
    let s : a.activity ≡ b.activity = omega arith in
    ⊎_elim (λ (k : b.var.0 < a.var.0). inr (sym s, omega arith))
    (λ (k : a.var.0 ≤ b.var.0). absurd (true≢false (sym (first_from a b (inr (s, k))) ∙ e))) (cases_lt b.var.0 a.var.0)) (cases_lt b.activity a.activity)) (cases_lt a.activity b.activity))

first_trans : (a b c : Candidate) → comes_first a b ≡ true → comes_first b c ≡ true → comes_first a c ≡ true
first_trans a b c e f =
    first_from a c
    (⊎_elim
    (λ (l : b.activity < a.activity).
    ⊎_elim (λ (m : c.activity < b.activity). inl (omega arith)) (λ (m : (b.activity ≡ c.activity) × (b.var.0 ≤ c.var.0)). inl (omega arith)) (first_means b c f))
    (λ (l : (a.activity ≡ b.activity) × (a.var.0 ≤ b.var.0)).
    ⊎_elim (λ (m : c.activity < b.activity). inl (omega arith)) (λ (m : (b.activity ≡ c.activity) × (b.var.0 ≤ c.var.0)). inr (omega arith, omega arith)) (first_means b c f))
    (first_means a b e))

-- no candidate comes before itself
ahead_refl : (a : Option Candidate) → is_ahead a a ≡ true
ahead_refl None = refl
ahead_refl (Some a) = first_from a a (inr (refl, omega arith))

ahead_trans : (a b c : Option Candidate) → is_ahead a b ≡ true → is_ahead b c ≡ true → is_ahead a c ≡ true
ahead_trans a b None e f = refl
ahead_trans a None (Some c) e f = absurd (false≢true f)
ahead_trans None (Some b) (Some c) e f = absurd (false≢true e)
ahead_trans (Some a) (Some b) (Some c) e f = first_trans a b c e f

-- the first of two is ahead of each
ahead_left : (a b : Option Candidate) → is_ahead (first_of a b) a ≡ true
ahead_left None b = refl
ahead_left (Some a) None = ahead_refl (Some a)
ahead_left (Some a) (Some b) = go (comes_first a b) refl
  where
    go : (t : Bool) → comes_first a b ≡ t → is_ahead (cond t (Some a) (Some b)) (Some a) ≡ true
    go true e = ahead_refl (Some a)
    go false e = first_total a b e

ahead_right : (a b : Option Candidate) → is_ahead (first_of a b) b ≡ true
ahead_right None b = ahead_refl b
ahead_right (Some a) None = refl
ahead_right (Some a) (Some b) = go (comes_first a b) refl
  where
    go : (t : Bool) → comes_first a b ≡ t → is_ahead (cond t (Some a) (Some b)) (Some b) ≡ true
    go true e = e
    go false e = ahead_refl (Some b)

-- and it is one of them
first_of-either : (a b : Option Candidate) → (first_of a b ≡ a) ⊎ (first_of a b ≡ b)
first_of-either None b = inr refl
first_of-either (Some a) None = inl refl
first_of-either (Some a) (Some b) = go (comes_first a b)
  where
    go : (t : Bool) → (cond t (Some a) (Some b) ≡ Some a) ⊎ (cond t (Some a) (Some b) ≡ Some b)
    go true = inl refl
    go false = inr refl

-- a match is played where its winner is put in, or where none of its places changes
pub played_after : (places : List (Option Candidate)) (p : ℕ) (w : Option Candidate) (k : ℕ) → p < length places → 2 * k ≢ p → 2 * k + 1 ≢ p
    → (k ≡ p → w ≡ first_of (entrant places (2 * k)) (entrant places (2 * k + 1))) → (k ≢ p → IsPlayedAt places k) → IsPlayedAt (set places p w) k
played_after places p w k l left right here there =
    let a : entrant (set places p w) (2 * k) ≡ entrant places (2 * k) = get_or-set_other places p (2 * k) w None left in
    let b : entrant (set places p w) (2 * k + 1) ≡ entrant places (2 * k + 1) = get_or-set_other places p (2 * k + 1) w None right in
    let e : first_of (entrant (set places p w) (2 * k)) (entrant (set places p w) (2 * k + 1)) ≡ first_of (entrant places (2 * k)) (entrant places (2 * k + 1)) =
    ap (λ (z : Option Candidate). first_of z (entrant (set places p w) (2 * k + 1))) a ∙ ap (first_of (entrant places (2 * k))) b in
    ⊎_elim
    (λ (s : k ≡ p). ap (entrant (set places p w)) s ∙ (get_or-set_same places p w None l ∙ (here s ∙ sym e)))
    (λ (s : k ≢ p). get_or-set_other places p k w None s ∙ (there s ∙ sym e)) (cases_eq k p)

-- one match more is played, from the last on
pub played_down : (places : List (Option Candidate)) (p count : ℕ) (w : Option Candidate) → 1 ≤ p → p < length places → w ≡ first_of (entrant places (2 * p)) (entrant places (2 * p + 1))
    → ((k : ℕ) → p + 1 ≤ k → k < count → IsPlayedAt places k) → (k : ℕ) → p ≤ k → k < count → IsPlayedAt (set places p w) k
played_down places p count w one l e rest k from below =
    played_after places p w k l (omega arith) (omega arith)
    (λ (s : k ≡ p). subst (λ (z : ℕ). w ≡ first_of (entrant places (2 * z)) (entrant places (2 * z + 1))) (sym s) e) (λ (s : k ≢ p). rest k (omega arith) below)

-- the match above a place is played, and its winner is in the next one
pub played_up : (places : List (Option Candidate)) (place count : ℕ) (w : Option Candidate) → 2 ≤ place → place / 2 < length places
    → w ≡ first_of (entrant places (2 * (place / 2))) (entrant places (2 * (place / 2) + 1)) → IsPlayedBut places count place → IsPlayedBut (set places (place / 2) w) count (place / 2)
played_up places place count w two l e h k one below other =
    played_after places (place / 2) w k l (omega arith) (omega arith)
    (λ (s : k ≡ place / 2). subst (λ (z : ℕ). w ≡ first_of (entrant places (2 * z)) (entrant places (2 * z + 1))) (sym s) e) (λ (s : k ≢ place / 2). h k one below s)

-- an entrant is put in: the matches of other places stay played
pub played_enter : (places : List (Option Candidate)) (place count : ℕ) (w : Option Candidate) → count ≤ place → place < length places → IsPlayed places count → IsPlayedBut (set places place w) count place
played_enter places place count w from l h k one below other =
    played_after places place w k l (omega arith) (omega arith) (λ (s : k ≡ place). absurd (omega arith)) (λ (s : k ≢ place). h k one below)

-- at the first place no match is left
pub played_end : (places : List (Option Candidate)) (place count : ℕ) → place ≤ 1 → IsPlayedBut places count place → IsPlayed places count
played_end places place count l h k one below = h k one below (let z : place / 2 ≡ 0 = omega arith in omega arith)

-- a winner is ahead of the places below its own
below_ahead : (places : List (Option Candidate)) (k : ℕ) → IsPlayedAt places (k / 2) → is_ahead (entrant places (k / 2)) (entrant places k) ≡ true
below_ahead places k e =
    rw e
    (⊎_elim
    (λ (s : k ≡ 2 * (k / 2)). subst (λ (z : ℕ). is_ahead (first_of (entrant places (2 * (k / 2))) (entrant places (2 * (k / 2) + 1))) (entrant places z) ≡ true) (sym s) (ahead_left (entrant places (2 * (k / 2))) (entrant places (2 * (k / 2) + 1))))
    (λ (s : k ≡ 2 * (k / 2) → ⊥).
    let o : k ≡ 2 * (k / 2) + 1 = omega arith in
    subst (λ (z : ℕ). is_ahead (first_of (entrant places (2 * (k / 2))) (entrant places (2 * (k / 2) + 1))) (entrant places z) ≡ true) (sym o) (ahead_right (entrant places (2 * (k / 2))) (entrant places (2 * (k / 2) + 1)))) (cases_eq k (2 * (k / 2))))

-- the winner of all is ahead of each place
root_ahead : (places : List (Option Candidate)) (count : ℕ) → IsPlayed places count → (fuel k : ℕ) → k ≤ fuel → 1 ≤ k → k < count + count → is_ahead (entrant places 1) (entrant places k) ≡ true
root_ahead places count h zero k f one below = absurd (omega arith)
root_ahead places count h (suc fuel) k f one below =
    ⊎_elim (λ (s : k ≡ 1). subst (λ (z : ℕ). is_ahead (entrant places 1) (entrant places z) ≡ true) (sym s) (ahead_refl (entrant places 1)))
    (λ (s : k ≡ 1 → ⊥).
    ahead_trans (entrant places 1) (entrant places (k / 2)) (entrant places k) (root_ahead places count h fuel (k / 2) (omega arith) (omega arith) (omega arith))
    (below_ahead places k (h (k / 2) (omega arith) (omega arith)))) (cases_eq k 1)

-- and each winner is an entrant
root_among : (places : List (Option Candidate)) (count : ℕ) → IsPlayed places count → (fuel k : ℕ) → count + count ≤ fuel + k → 1 ≤ k → k < count + count
    → (j : ℕ) × (count ≤ j) × (entrant places k ≡ entrant places j)
root_among places count h zero k f one below = absurd (omega arith)
root_among places count h (suc fuel) k f one below =
    ⊎_elim
    (λ (s : k < count).
    ⊎_elim
    (λ (a : first_of (entrant places (2 * k)) (entrant places (2 * k + 1)) ≡ entrant places (2 * k)).
    let (j, l, e) = root_among places count h fuel (2 * k) (omega arith) (omega arith) (omega arith) in (j, l, h k one s ∙ (a ∙ e)))
    (λ (a : first_of (entrant places (2 * k)) (entrant places (2 * k + 1)) ≡ entrant places (2 * k + 1)).
    let (j, l, e) = root_among places count h fuel (2 * k + 1) (omega arith) (omega arith) (omega arith) in (j, l, h k one s ∙ (a ∙ e)))
    (first_of-either (entrant places (2 * k)) (entrant places (2 * k + 1))))
    (λ (s : count ≤ k). (k, s, refl)) (cases_lt k count)

-- the winner of all, where there is one, is the first entrant
pub root_first : (places : List (Option Candidate)) (count : ℕ) → length places ≡ count + count → IsPlayed places count → IsFirst (drop count places) (entrant places 1)
root_first places count sized h = record { among = among; ahead = ahead }
  where
    among : (a : Candidate) → entrant places 1 ≡ Some a → (k : ℕ) × (entrant (drop count places) k ≡ Some a)
    among a e =
        ⊎_elim
        (λ (s : 1 ≤ count).
        let (j, l, f) = root_among places count h (count + count) 1 (omega arith) (omega arith) (omega arith) in
        (j - count, get_or-drop count places (j - count) None ∙ (ap (entrant places) (let q : count + (j - count) ≡ j = omega arith in q) ∙ (sym f ∙ e))))
        (λ (s : count ≡ 0). absurd (let n : entrant places 1 ≡ None = get_or_past places 1 None (omega arith) in cc)) (some_or_none count)
      where
        some_or_none : (n : ℕ) → (1 ≤ n) ⊎ (n ≡ 0)
        some_or_none zero = inr refl
        some_or_none (suc n) = inl (omega arith)

    ahead : (k : ℕ) → is_ahead (entrant places 1) (entrant (drop count places) k) ≡ true
    ahead k =
        ⊎_elim
        (λ (s : k < count). rw get_or-drop (root_ahead places count h (count + k) (count + k) (omega arith) (omega arith) (omega arith)))
        (λ (s : count ≤ k). let n : entrant (drop count places) k ≡ None = get_or_past (drop count places) k None (omega (arith, length-drop count places)) in rw n refl) (cases_lt k count)

-- there are as many entrants as winners
pub entrants_count : (places now : List (Option Candidate)) (count : ℕ) → length places ≡ count + count → drop count places ≡ now → length now ≡ count
entrants_count places now count sized e = omega (arith, ap length e, length-drop count places)

-- what was put in is seen
pub entered : (places new now : List (Option Candidate)) (count at : ℕ) (w : Option Candidate) → drop count places ≡ now → drop count new ≡ drop count (set places (count + at) w) → drop count new ≡ set now at w
entered places new now count at w e f = f ∙ (drop-set-add count places at w ∙ ap (λ (z : List (Option Candidate)). set z at w) e)

-- without entrants there is no first one
pub none_first : (places now : List (Option Candidate)) (count : ℕ) → length places ≡ count + count → count ≡ 0 → drop count places ≡ now → IsFirst now None
none_first places now count sized z e =
    record {
      among = λ a f. absurd (let n : ◌≡◌ {A = Option Candidate} None (Some a) = f in cc);
      ahead = λ k. let n : entrant now k ≡ None = get_or_past now k None (omega (arith, entrants_count places now count sized e)) in rw n refl;
    }

-- all activities are rescaled
pub rescaled_view : (places new now : List (Option Candidate)) (count : ℕ) → length places ≡ count + count → length new ≡ count + count → drop count places ≡ now
    → ((k : ℕ) → k < count → entrant new (count + k) ≡ option_map rescaled_candidate (entrant places (count + k))) → (k : ℕ) → entrant (drop count new) k ≡ option_map rescaled_candidate (entrant now k)
rescaled_view places new now count sized sized' e h k =
    ⊎_elim
    (λ (s : k < count).
    get_or-drop count new k None
    ∙ (h k s ∙ ap (option_map rescaled_candidate) (sym (get_or-drop count places k None) ∙ ap (λ (z : List (Option Candidate)). entrant z k) e)))
    (λ (s : count ≤ k).
    get_or_past (drop count new) k None (omega (arith, length-drop count new))
    ∙ ap (option_map rescaled_candidate) (sym (get_or_past now k None (omega (arith, entrants_count places now count sized e))))) (cases_lt k count)

-- all variables that have a preference are entrants
pub entered_view : (places : List (Option Candidate)) (order : List (Option Preference)) → length places ≡ length order + length order
    → ((v : ℕ) → v < length order → entrant places (length order + v) ≡ candidate_in order v) → (v : ℕ) → entrant (drop (length order) places) v ≡ candidate_in order v
entered_view places order sized h v =
    ⊎_elim (λ (s : v < length order). get_or-drop (length order) places v None ∙ h v s)
    (λ (s : length order ≤ v).
    get_or_past (drop (length order) places) v None (omega (arith, length-drop (length order) places))
    ∙ ap (option_map (candidate_of v)) (sym (get_or_past order v None s))) (cases_lt v (length order))
