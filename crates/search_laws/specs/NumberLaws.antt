-- The number of a trail rises at each move of a search.
use Rattle.std.proofs.Common.{◌≡◌, ◌<◌, ◌≤◌, ◌+◌, ◌*◌, ◌-◌, ◌^◌, ℕ, suc, zero, Bool, true, false, cond, List, [], ◌∷◌, ◌++◌, length, refl, sym, ap, subst, ◌∙◌, ⊎_elim, arith, append-nil, suc-mul}
use Rattle.std.proofs.Math.Nat.{pow-succ', mul_assoc, mul_comm, add-mul, mul-le-mul_right}
use Rattle.std.proofs.lemmas.Bool.{and_parts, cases_lt}
use Rattle.std.proofs.lemmas.List.{length-append}
use Rattle.trail.specs.declared.trail.Step.{Step}
use Rattle.trail.specs.Trail.{level_of, decided, shaped, shaped_step, back_to}
use Rattle.trail.specs.Laws.{step_level, back_nowhere, back_past}
use Rattle.search_laws.specs.TrailNumber.{digit, digits, trail_number, IsBounded, IsSearch, start, more, conflict, MoreRaises, ConflictRaises, NumberIsBelow, RunsEnd}

digit_high : (b : Bool) → cond {A = ℕ} b 1 2 ≤ 2
digit_high true = omega arith
digit_high false = omega arith

threes_pos : (k : ℕ) → 0 < 3 ^ k
threes_pos zero = omega arith
threes_pos (suc k) = let e : 3 ^ suc k ≡ 3 * 3 ^ k = pow-succ' 3 k in let i : 0 < 3 ^ k = threes_pos k in omega arith

power_step : (n k : ℕ) → k < n → 3 ^ (n - k) ≡ 3 * 3 ^ (n - suc k)
power_step n k h = let e : n - k ≡ suc (n - suc k) = omega arith in rw e (pow-succ' 3 (n - suc k))

-- a * (3 * p) is three times a * p
thrice : (a p : ℕ) → a * (3 * p) ≡ 3 * (a * p)
thrice a p = sym (mul_assoc a 3 p) ∙ (ap (λ (x : ℕ). x * p) (mul_comm a 3) ∙ mul_assoc 3 a p)

three_times : (d g p : ℕ) → (3 * d + g) * p ≡ 3 * (d * p) + g * p
three_times d g p = add-mul (3 * d) g p ∙ ap (λ (x : ℕ). x + g * p) (mul_assoc 3 d p)

-- a digit more to the right stays below the next number
step_within : (d g p : ℕ) → g ≤ 2 → suc (3 * d + g) * p ≤ suc d * (3 * p)
step_within d g p h =
    let le : suc (3 * d + g) ≤ 3 * suc d = omega arith in
    let a : suc (3 * d + g) * p ≤ (3 * suc d) * p = mul-le-mul_right p le in
    let b : (3 * suc d) * p ≡ 3 * (suc d * p) = mul_assoc 3 (suc d) p in
    let c : suc d * (3 * p) ≡ 3 * (suc d * p) = thrice (suc d) p in
    omega arith

-- whatever stands to the right of some digits stays below the next number
within : (n : ℕ) (gone older : List Step) → length (gone ++ older) ≤ n → suc (digits (gone ++ older)) * 3 ^ (n - length (gone ++ older)) ≤ suc (digits older) * 3 ^ (n - length older)
within n [] older h = omega arith
within n (s ∷ gone) older h =
    let t : List Step = gone ++ older in
    let l : length t < n = h in
    let i : suc (digits t) * 3 ^ (n - length t) ≤ suc (digits older) * 3 ^ (n - length older) = within n gone older (omega arith) in
    let e : 3 ^ (n - length t) ≡ 3 * 3 ^ (n - suc (length t)) = power_step n (length t) l in
    let j : suc (digits t) * (3 * 3 ^ (n - suc (length t))) ≤ suc (digits older) * 3 ^ (n - length older) = rw e at i in
    let k : suc (3 * digits t + digit s) * 3 ^ (n - suc (length t)) ≤ suc (digits t) * (3 * 3 ^ (n - suc (length t))) = step_within (digits t) (digit s) (3 ^ (n - suc (length t))) (digit_high (decided s.reason)) in
    omega arith

-- the number is below 3 ^ n
pub number_bound : NumberIsBelow
number_bound n t h =
    let e : t ++ [] ≡ t = append-nil t in
    let l : length (t ++ []) ≤ n = rw e h in
    let a = within n t [] l in
    let b : suc (digits t) * 3 ^ (n - length t) ≤ suc 0 * 3 ^ (n - 0) = rw e at a in
    let p : 0 < 3 ^ (n - length t) = threes_pos (n - length t) in
    let m : suc (digits t) * 3 ^ (n - length t) ≡ digits t * 3 ^ (n - length t) + 3 ^ (n - length t) = suc-mul (digits t) (3 ^ (n - length t)) in
    let z : n - 0 ≡ n = omega arith in
    let o : suc 0 * 3 ^ (n - 0) ≡ 3 ^ n = rw z (omega arith) in
    omega arith

-- one literal more raises it
pub more_raises : MoreRaises
more_raises n s t h =
    let q : 0 < 3 ^ (n - suc (length t)) = threes_pos (n - suc (length t)) in
    let e : 3 ^ (n - length t) ≡ 3 * 3 ^ (n - suc (length t)) = power_step n (length t) h in
    rw e (low (digits t) (decided s.reason) (3 ^ (n - suc (length t))) q)
  where
    low : (d : ℕ) (b : Bool) (p : ℕ) → 0 < p → d * (3 * p) < (3 * d + cond {A = ℕ} b 1 2) * p
    low d true p q = let a : d * (3 * p) ≡ 3 * (d * p) = thrice d p in let b : (3 * d + 1) * p ≡ 3 * (d * p) + 1 * p = three_times d 1 p in omega arith
    low d false p q = let a : d * (3 * p) ≡ 3 * (d * p) = thrice d p in let b : (3 * d + 2) * p ≡ 3 * (d * p) + 2 * p = three_times d 2 p in omega arith

-- more literals do not lower it
pub newer_raises : (n : ℕ) (newer t : List Step) → length (newer ++ t) ≤ n → trail_number n t ≤ trail_number n (newer ++ t)
newer_raises n [] t h = omega arith
newer_raises n (s ∷ newer) t h =
    let i : trail_number n t ≤ trail_number n (newer ++ t) = newer_raises n newer t (omega arith) in
    let j : trail_number n (newer ++ t) < trail_number n (s ∷ (newer ++ t)) = more_raises n s (newer ++ t) h in
    omega arith

-- the way back to before a decision, and a literal with a reason in its place, raise it
pub jump_raises : (n : ℕ) (gone : List Step) (d s : Step) (older : List Step) → length (gone ++ d ∷ older) ≤ n → decided d.reason ≡ true → decided s.reason ≡ false → trail_number n (gone ++ d ∷ older) < trail_number n (s ∷ older)
jump_raises n gone d s older h e f =
    let t : List Step = gone ++ d ∷ older in
    let w : suc (digits t) * 3 ^ (n - length t) ≤ suc (3 * digits older + digit d) * 3 ^ (n - suc (length older)) = within n gone (d ∷ older) h in
    let a : digit d ≡ 1 = rw e refl in
    let b : digit s ≡ 2 = rw f refl in
    let p : 0 < 3 ^ (n - length t) = threes_pos (n - length t) in
    let m : suc (digits t) * 3 ^ (n - length t) ≡ digits t * 3 ^ (n - length t) + 3 ^ (n - length t) = suc-mul (digits t) (3 ^ (n - length t)) in
    let x : suc (3 * digits older + digit d) ≡ 3 * digits older + digit s = omega arith in
    let y : suc (digits t) * 3 ^ (n - length t) ≤ (3 * digits older + digit s) * 3 ^ (n - suc (length older)) = rw x at w in
    omega arith

-- the way back to a lower level takes the steps from a decision on
pub record IsCut (k : ℕ) (t : List Step) : Type 0 where
  pub gone : List Step
  pub decision : Step
  pub is_decided : decided decision.reason ≡ true
  pub parts : t ≡ gone ++ decision ∷ back_to k t

pub cut : (t : List Step) (k : ℕ) → shaped t ≡ true → k < level_of t → IsCut k t
cut [] k e h = absurd (omega arith)
cut (s ∷ older) k e h =
    let p : (shaped_step older s ≡ true) × (shaped older ≡ true) = and_parts _ _ e in
    let b : back_to k (s ∷ older) ≡ back_to k older = back_past older s k h in
    ⊎_elim
    (λ (l : k < level_of older).
    let c : IsCut k older = cut older k p.1 l in
    record {
      gone = s ∷ c.gone;
      decision = c.decision;
      is_decided = c.is_decided;
      parts = ap (λ (z : List Step). s ∷ z) c.parts ∙ ap (λ (z : List Step). s ∷ (c.gone ++ c.decision ∷ z)) (sym b);
    })
    (λ (l : level_of older ≤ k).
    let w : back_to k older ≡ older = back_nowhere older k p.1 l in
    record {
      gone = [];
      decision = s;
      is_decided =
          ⊎_elim (λ (f : s.level ≡ level_of older). absurd (omega arith)) (λ (f : (s.level ≡ level_of older + 1) × (decided s.reason ≡ true)). f.1) (step_level older s p.0);
      parts = ap (λ (z : List Step). s ∷ z) (sym (b ∙ w));
    })
    (cases_lt k (level_of older))

-- so there is room for one step in their place
pub shorter_back : (t : List Step) (k : ℕ) → shaped t ≡ true → k < level_of t → suc (length (back_to k t)) ≤ length t
shorter_back t k e h =
    let c : IsCut k t = cut t k e h in
    omega (arith, ap length c.parts, length-append c.gone (c.decision ∷ back_to k t))

-- a conflict raises the number
pub conflict_raises : ConflictRaises
conflict_raises n k s t e h l f =
    let c : IsCut k t = cut t k e l in
    subst (λ (z : List Step). trail_number n z < trail_number n (s ∷ back_to k t)) (sym c.parts)
    (jump_raises n c.gone c.decision s (back_to k t) (subst (λ (z : List Step). length z ≤ n) c.parts h) c.is_decided f)

-- where the number rises, what it lacks to 3 ^ n falls
pub rises_falls : (n : ℕ) (t u : List Step) → length u ≤ n → trail_number n t < trail_number n u → 3 ^ n - trail_number n u < 3 ^ n - trail_number n t
rises_falls n t u h l = let b : trail_number n u < 3 ^ n = number_bound n u h in omega arith

-- a search keeps its bound: before any conflict,
pub bounded_start : (n : ℕ) (t : List Step) → length t ≤ n → IsBounded n t 0
bounded_start n t h = record { fits = h; few = omega arith }

-- with one literal more,
pub bounded_more : (n : ℕ) (s : Step) (t : List Step) (conflicts : ℕ) → length t < n → IsBounded n t conflicts → IsBounded n (s ∷ t) conflicts
bounded_more n s t conflicts h b =
    let f : conflicts ≤ trail_number n t = b.few in
    let r : trail_number n t < trail_number n (s ∷ t) = more_raises n s t h in
    record { fits = h; few = omega arith }

-- with more literals, as propagation adds them,
pub bounded_newer : (n : ℕ) (newer t : List Step) (conflicts : ℕ) → length (newer ++ t) ≤ n → IsBounded n t conflicts → IsBounded n (newer ++ t) conflicts
bounded_newer n newer t conflicts h b =
    let f : conflicts ≤ trail_number n t = b.few in
    let r : trail_number n t ≤ trail_number n (newer ++ t) = newer_raises n newer t h in
    record { fits = h; few = omega arith }

-- with a conflict, the way back and the literal that the learned clause gives,
pub bounded_conflict : (n k : ℕ) (s : Step) (t : List Step) (conflicts : ℕ) → shaped t ≡ true → k < level_of t → decided s.reason ≡ false → IsBounded n t conflicts → IsBounded n (s ∷ back_to k t) (conflicts + 1)
bounded_conflict n k s t conflicts e l d b =
    let f : conflicts ≤ trail_number n t = b.few in
    let r : trail_number n t < trail_number n (s ∷ back_to k t) = conflict_raises n k s t e b.fits l d in
    let w : suc (length (back_to k t)) ≤ length t = shorter_back t k e l in
    let g : length t ≤ n = b.fits in
    record { fits = omega arith; few = omega arith }

-- and where fewer conflicts are counted, as by a count that stays at its last value
pub bounded_fewer : (n : ℕ) (t : List Step) (counted conflicts : ℕ) → counted ≤ conflicts → IsBounded n t conflicts → IsBounded n t counted
bounded_fewer n t counted conflicts h b = let f : conflicts ≤ trail_number n t = b.few in record { fits = b.fits; few = omega arith }

-- so it has fewer than 3 ^ n conflicts
pub bounded_end : (n : ℕ) (t : List Step) (conflicts : ℕ) → IsBounded n t conflicts → conflicts < 3 ^ n
bounded_end n t conflicts b =
    let f : conflicts ≤ trail_number n t = b.few in
    let g : trail_number n t < 3 ^ n = number_bound n t b.fits in
    omega arith

record Counted (n : ℕ) (t : List Step) (moves conflicts : ℕ) : Type 0 where
  sound : shaped t ≡ true
  bounded : IsBounded n t moves
  less : conflicts ≤ moves

counted : {n : ℕ} {t : List Step} {moves conflicts : ℕ} → IsSearch n t moves conflicts → Counted n t moves conflicts
counted {n} start = record { sound = refl; bounded = record { fits = omega arith; few = omega arith }; less = omega arith }
counted {n} (more s t moves conflicts r e h) =
    let i : Counted n t moves conflicts = counted r in
    let f : moves ≤ trail_number n t = i.bounded.few in
    let g : trail_number n t < trail_number n (s ∷ t) = more_raises n s t h in
    let l : conflicts ≤ moves = i.less in
    record { sound = e; bounded = record { fits = h; few = omega arith }; less = omega arith }
counted {n} (conflict s t k moves conflicts r h d e) =
    let i : Counted n t moves conflicts = counted r in
    let l : conflicts ≤ moves = i.less in
    record { sound = e; bounded = bounded_conflict n k s t moves i.sound h d i.bounded; less = omega arith }

-- every search ends
pub runs_end : RunsEnd
runs_end n t moves conflicts r = let c : Counted n t moves conflicts = counted r in (bounded_end n t moves c.bounded, c.less)
