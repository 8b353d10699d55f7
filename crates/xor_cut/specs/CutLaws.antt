-- Facts on parities over own variables, and on the pieces that one is cut into.
use Rattle.std.proofs.Common.{◌≡◌, ◌≢◌, ◌⊎◌, ℕ, zero, suc, ◌+◌, ◌*◌, ◌<◌, ◌≤◌, ◌==◌, Bool, true, false, not, ltb, leb, ◌&&◌, ◌||◌, List, [], ◌∷◌, ◌++◌, refl, sym, ap, ap₂, ◌∙◌, ⊎_elim, arith, length, take, drop, ltb-true, lt-ltb, ne_eqb}
use Rattle.std.proofs.lemmas.Bool.{and_parts, and_from, or_parts, not-true, le-leb, cases_lt, cases_order, false≢true}
use Rattle.std.proofs.lemmas.List.{length-append, length-take, length-drop, take-append-drop}
use Rattle.std.proofs.lemmas.List.Folds.{list_all-append, list_any-append}
use Rattle.std.specs.Bool.{beq}
use Rattle.std.specs.Prelude.{filter_map}
use Rattle.std.specs.List.{list_all, list_any}
use Rattle.sat_lits.specs.Truth.{signed, with_value}
use Rattle.sat_lits.specs.ListLaws.{all_mono, all_front}
use Rattle.sat_lits.specs.ClauseLaws.{signed-signed, with_value_same, with_value_other}
use Rattle.sat_lits.specs.Conflicts.{cuts_of_count}
use Rattle.sat_lits.specs.declared.literal.Own.{Own}
use Rattle.xor_cut.specs.Pieces.{exclusive_or, is_parity, are_satisfied, are_different, own_var, own_vars, pieces_by, SameBut, ExtendsOnce}

-- equal values pass the test
pub same_beq : (a b : Bool) → a ≡ b → beq a b ≡ true
same_beq true true e = refl
same_beq true false e = sym e
same_beq false true e = e
same_beq false false e = refl

-- the exclusive or of two lists together is that of their exclusive ors
pub exclusive_or-append : (w : ℕ → Bool) (us vs : List Own) → exclusive_or w (us ++ vs) ≡ signed (exclusive_or w us) (exclusive_or w vs)
exclusive_or-append w [] vs = refl
exclusive_or-append w (u ∷ us) vs = ap (signed (w u.0)) (exclusive_or-append w us vs) ∙ sym (signed-signed (w u.0) (exclusive_or w us) (exclusive_or w vs))

-- of one variable more
pub exclusive_or-push : (w : ℕ → Bool) (us : List Own) (v : Own) → exclusive_or w (us ++ v ∷ []) ≡ signed (exclusive_or w us) (w v.0)
exclusive_or-push w us v = exclusive_or-append w us (v ∷ []) ∙ ap (signed (exclusive_or w us)) (alone (w v.0))
  where
    alone : (b : Bool) → signed b false ≡ b
    alone true = refl
    alone false = refl

-- and of a front and the rest
pub exclusive_or_split : (w : ℕ → Bool) (n : ℕ) (vars : List Own) → exclusive_or w vars ≡ signed (exclusive_or w (take n vars)) (exclusive_or w (drop n vars))
exclusive_or_split w n vars = ap (exclusive_or w) (sym (take-append-drop n vars)) ∙ exclusive_or-append w (take n vars) (drop n vars)

-- values that agree below a number give variables below it one exclusive or
pub exclusive_or_below : (w u : ℕ → Bool) (n : ℕ) → ((k : ℕ) → k < n → u k ≡ w k) → (vars : List Own) → list_all (λ v. ltb v.0 n) vars ≡ true → exclusive_or u vars ≡ exclusive_or w vars
exclusive_or_below w u n h [] e = refl
exclusive_or_below w u n h (v ∷ vars) e =
    let p : (ltb v.0 n ≡ true) × (list_all (λ (x : Own). ltb x.0 n) vars ≡ true) = and_parts _ _ e in
    ap₂ signed (h v.0 (ltb-true _ _ p.0)) (exclusive_or_below w u n h vars p.1)

-- what remains of a list passes what all pass
pub all_drop : {X : Type 0} (p : X → Bool) (n : ℕ) (xs : List X) → list_all p xs ≡ true → list_all p (drop n xs) ≡ true
all_drop p n xs e =
    let parts : (list_all p (take n xs) && list_all p (drop n xs)) ≡ true = sym (list_all-append p (take n xs) (drop n xs)) ∙ (ap (list_all p) (take-append-drop n xs) ∙ e) in
    (and_parts (list_all p (take n xs)) (list_all p (drop n xs)) parts).1

-- variables below a number are below the next
below_next : (n : ℕ) (vars : List Own) → list_all (λ v. ltb v.0 n) vars ≡ true → list_all (λ v. ltb v.0 (suc n)) vars ≡ true
below_next n vars e = all_mono (λ (v : Own). ltb v.0 n) (λ (v : Own). ltb v.0 (suc n)) (λ v l. let a : v.0 < n = ltb-true _ _ l in lt-ltb _ _ (let b : v.0 < suc n = omega arith in b)) vars e

-- what remains after a cut is below the number after the fresh one
pub rest_below : (next : ℕ) (vars : List Own) → list_all (λ v. ltb v.0 next) vars ≡ true → list_all (λ v. ltb v.0 (suc next)) (drop 3 vars ++ own_var next ∷ []) ≡ true
rest_below next vars e =
    list_all-append (λ (v : Own). ltb v.0 (suc next)) (drop 3 vars) (own_var next ∷ [])
    ∙ and_from _ _ (below_next next (drop 3 vars) (all_drop (λ (v : Own). ltb v.0 next) 3 vars e)) (and_from _ _ (lt-ltb next (suc next) (omega arith)) refl)

-- the fresh variable has the value of the three others, so it stands for them
stands_for : (t d f : Bool) → beq (signed t f) false ≡ true → signed d f ≡ signed t d
stands_for true true true e = refl
stands_for true true false e = absurd (false≢true e)
stands_for true false true e = refl
stands_for true false false e = absurd (false≢true e)
stands_for false true true e = absurd (false≢true e)
stands_for false true false e = refl
stands_for false false true e = absurd (false≢true e)
stands_for false false false e = refl

-- values that satisfy all pieces satisfy the parity
pub pieces_enough : (n : ℕ) (vars : List Own) (rhs : Bool) (next : ℕ) (w : ℕ → Bool) → are_satisfied w (pieces_by n vars rhs next) ≡ true → is_parity w vars rhs ≡ true
pieces_enough zero vars rhs next w e = (and_parts (is_parity w vars rhs) true e).0
pieces_enough (suc n) vars rhs next w e =
    let p : (is_parity w (take 3 vars ++ own_var next ∷ []) false ≡ true) × (are_satisfied w (pieces_by n (drop 3 vars ++ own_var next ∷ []) rhs (suc next)) ≡ true) = and_parts _ _ e in
    let first : beq (signed (exclusive_or w (take 3 vars)) (w next)) false ≡ true = sym (ap (λ b. beq b false) (exclusive_or-push w (take 3 vars) (own_var next))) ∙ p.0 in
    let rest : is_parity w (drop 3 vars ++ own_var next ∷ []) rhs ≡ true = pieces_enough n (drop 3 vars ++ own_var next ∷ []) rhs (suc next) w p.1 in
    ap (λ b. beq b rhs) (exclusive_or_split w 3 vars ∙ (sym (stands_for (exclusive_or w (take 3 vars)) (exclusive_or w (drop 3 vars)) (w next) first) ∙ sym (exclusive_or-push w (drop 3 vars) (own_var next)))) ∙ rest

-- where a fresh variable has the value of the first three, the exclusive or of what remains is that of all
pub rest_value : (w : ℕ → Bool) (vars : List Own) (next : ℕ) → w next ≡ exclusive_or w (take 3 vars) → exclusive_or w (drop 3 vars ++ own_var next ∷ []) ≡ exclusive_or w vars
rest_value w vars next e =
    exclusive_or-push w (drop 3 vars) (own_var next)
    ∙ (ap (signed (exclusive_or w (drop 3 vars))) e ∙ (swapped (exclusive_or w (drop 3 vars)) (exclusive_or w (take 3 vars)) ∙ sym (exclusive_or_split w 3 vars)))
  where
    swapped : (a b : Bool) → signed a b ≡ signed b a
    swapped true true = refl
    swapped true false = refl
    swapped false true = refl
    swapped false false = refl

-- and the first piece is satisfied
pub first_value : (w : ℕ → Bool) (vars : List Own) (next : ℕ) → w next ≡ exclusive_or w (take 3 vars) → is_parity w (take 3 vars ++ own_var next ∷ []) false ≡ true
first_value w vars next e = ap (λ b. beq b false) (exclusive_or-push w (take 3 vars) (own_var next) ∙ (ap (signed (exclusive_or w (take 3 vars))) e ∙ even (exclusive_or w (take 3 vars))))
  where
    even : (a : Bool) → signed a a ≡ false
    even true = refl
    even false = refl

-- where the first piece is satisfied, the fresh variable has the value of the three others
fresh_value : (t f : Bool) → beq (signed t f) false ≡ true → f ≡ t
fresh_value true true e = refl
fresh_value true false e = e
fresh_value false true e = sym e
fresh_value false false e = refl

pub first_gives : (w : ℕ → Bool) (vars : List Own) (next : ℕ) → is_parity w (take 3 vars ++ own_var next ∷ []) false ≡ true → w next ≡ exclusive_or w (take 3 vars)
first_gives w vars next e = fresh_value (exclusive_or w (take 3 vars)) (w next) (sym (ap (λ b. beq b false) (exclusive_or-push w (take 3 vars) (own_var next))) ∙ e)

-- a value changed above all variables is not seen
changed_above : (w : ℕ → Bool) (next : ℕ) (b : Bool) (vars : List Own) → list_all (λ v. ltb v.0 next) vars ≡ true → exclusive_or (with_value w next b) vars ≡ exclusive_or w vars
changed_above w next b vars e = exclusive_or_below w (with_value w next b) next (λ k l. with_value_other w next b k (ne_eqb k next (λ q. omega arith))) vars e

module _ (next n : ℕ) (w v : ℕ → Bool) (is : (k : ℕ) → k ≢ next → v k ≡ w k) where
  -- values that are the same but for later fresh variables, as those with the first one set, are the same but for all fresh ones
  wider : (u : ℕ → Bool) → SameBut (suc next) n v u → SameBut next (suc n) w u
  wider u s = record {
    below = λ k l. s.below k (omega arith) ∙ is k (λ q. omega arith);
    above = λ k l. s.above k (omega arith) ∙ is k (λ q. omega arith);
  }

  -- and the other way round, where the first one is as set
  narrower : (u : ℕ → Bool) → u next ≡ v next → SameBut next (suc n) w u → SameBut (suc next) n v u
  narrower u e s = record {
    below = λ k l. below k l (cases_order k next);
    above = λ k l. s.above k (omega arith) ∙ sym (is k (λ q. omega arith));
  }
    where
      below : (k : ℕ) → k < suc next → (k ≡ next) ⊎ ((k < next) ⊎ (next < k)) → u k ≡ v k
      below k l o =
          ⊎_elim
          (λ (q : k ≡ next). ap u q ∙ (e ∙ ap v (sym q)))
          (λ (p : (k < next) ⊎ (next < k)). ⊎_elim (λ (m : k < next). s.below k m ∙ sym (is k (λ q. omega arith))) (λ (m : next < k). absurd (omega arith)) p)
          o

module _ (n : ℕ) (vars : List Own) (rhs : Bool) (next : ℕ) (w : ℕ → Bool) (below : list_all (λ v. ltb v.0 next) vars ≡ true) where
  -- the values with the first fresh variable set
  abbrev set_first : ℕ → Bool
  set_first = with_value w next (exclusive_or w (take 3 vars))

  other : (k : ℕ) → k ≢ next → set_first k ≡ w k
  other k h = with_value_other w next (exclusive_or w (take 3 vars)) k (ne_eqb k next h)

  front_below : list_all (λ (x : Own). ltb x.0 next) (take 3 vars) ≡ true
  front_below = all_front (λ (x : Own). ltb x.0 next) 3 vars below

  -- what remains is a parity that they satisfy
  later_parity : is_parity w vars rhs ≡ true → is_parity set_first (drop 3 vars ++ own_var next ∷ []) rhs ≡ true
  later_parity e =
      ap (λ b. beq b rhs)
      (rest_value set_first vars next (with_value_same w next (exclusive_or w (take 3 vars)) ∙ sym (changed_above w next (exclusive_or w (take 3 vars)) (take 3 vars) front_below))
      ∙ changed_above w next (exclusive_or w (take 3 vars)) vars below)
      ∙ e

  front : (u : ℕ → Bool) → ((k : ℕ) → k < next → u k ≡ w k) → exclusive_or u (take 3 vars) ≡ exclusive_or w (take 3 vars)
  front u h = exclusive_or_below w u next h (take 3 vars) front_below

  parts : (u : ℕ → Bool) → are_satisfied u (pieces_by (suc n) vars rhs next) ≡ true
      → (is_parity u (take 3 vars ++ own_var next ∷ []) false ≡ true) × (are_satisfied u (pieces_by n (drop 3 vars ++ own_var next ∷ []) rhs (suc next)) ≡ true)
  parts u h = and_parts _ _ h

  ones : (u : ℕ → Bool) → SameBut next (suc n) w u → are_satisfied u (pieces_by (suc n) vars rhs next) ≡ true → u next ≡ set_first next
  ones u s h =
      fresh_value (exclusive_or u (take 3 vars)) (u next) (sym (ap (λ b. beq b false) (exclusive_or-push u (take 3 vars) (own_var next))) ∙ (parts u h).0)
      ∙ (front u s.below ∙ sym (with_value_same w next (exclusive_or w (take 3 vars))))

  -- one cut more
  once_more : ExtendsOnce (suc next) n (pieces_by n (drop 3 vars ++ own_var next ∷ []) rhs (suc next)) set_first → ExtendsOnce next (suc n) (pieces_by (suc n) vars rhs next) w
  once_more later =
      record {
        values = later.values;
        same = wider next n w set_first other later.values later.same;
        satisfied = and_from _ _
            (first_value later.values vars next
            (later.same.below next (omega arith) ∙ (with_value_same w next (exclusive_or w (take 3 vars)) ∙ sym (front later.values (λ k l. later.same.below k (omega arith) ∙ other k (λ q. omega arith))))))
            later.satisfied;
        only = λ u s h. later.only u (narrower next n w set_first other u (ones u s h) s) (parts u h).1;
      }

-- values that satisfy the parity extend in exactly one way to the fresh variables so that all pieces are satisfied
pub pieces_once : (n : ℕ) (vars : List Own) (rhs : Bool) (next : ℕ) (w : ℕ → Bool) → list_all (λ v. ltb v.0 next) vars ≡ true → is_parity w vars rhs ≡ true → ExtendsOnce next n (pieces_by n vars rhs next) w
pieces_once zero vars rhs next w below e =
    record {
      values = w;
      same = record { below = λ k l. refl; above = λ k l. refl };
      satisfied = and_from _ _ e refl;
      only = λ u s h k. ⊎_elim (λ (l : k < next). s.below k l) (λ (l : next ≤ k). s.above k (omega arith)) (cases_lt k next);
    }
pieces_once (suc n) vars rhs next w below e =
    once_more n vars rhs next w below
    (pieces_once n (drop 3 vars ++ own_var next ∷ []) rhs (suc next) (with_value w next (exclusive_or w (take 3 vars))) (rest_below next vars below) (later_parity n vars rhs next w below e))

-- one piece more than cuts
pub length-pieces_by : (n : ℕ) (vars : List Own) (rhs : Bool) (next : ℕ) → length (pieces_by n vars rhs next) ≡ n + 1
length-pieces_by zero vars rhs next = refl
length-pieces_by (suc n) vars rhs next = ap suc (length-pieces_by n (drop 3 vars ++ own_var next ∷ []) rhs (suc next)) ∙ omega arith

-- the fresh variables are those from a number on
pub fresh-pieces_by : (n : ℕ) (vars : List Own) (rhs : Bool) (next : ℕ) → filter_map (λ p. p.fresh) (pieces_by n vars rhs next) ≡ own_vars next n
fresh-pieces_by zero vars rhs next = refl
fresh-pieces_by (suc n) vars rhs next = ap (λ z. own_var next ∷ z) (fresh-pieces_by n (drop 3 vars ++ own_var next ∷ []) rhs (suc next))

-- each piece has at most four variables
pub short-pieces_by : (n : ℕ) (vars : List Own) (rhs : Bool) (next : ℕ) → length vars ≤ 4 + 2 * n → list_all (λ p. leb (length p.vars) 4) (pieces_by n vars rhs next) ≡ true
short-pieces_by zero vars rhs next h = and_from _ _ (le-leb (length vars) 4 (omega arith)) refl
short-pieces_by (suc n) vars rhs next h =
    let a : length (take 3 vars ++ own_var next ∷ []) ≡ length (take 3 vars) + 1 = length-append (take 3 vars) (own_var next ∷ []) in
    let b : length (take 3 vars) ≤ 3 = omega (arith, length-take 3 vars) in
    let c : length (drop 3 vars ++ own_var next ∷ []) ≡ length (drop 3 vars) + 1 = length-append (drop 3 vars) (own_var next ∷ []) in
    and_from _ _ (le-leb (length (take 3 vars ++ own_var next ∷ [])) 4 (omega (arith, a, b)))
    (short-pieces_by n (drop 3 vars ++ own_var next ∷ []) rhs (suc next) (omega (arith, c, length-drop 3 vars, h)))

-- a number that all variables are below stands for none of them
pub new_var : (next : ℕ) (vars : List Own) → list_all (λ v. ltb v.0 next) vars ≡ true → list_any (λ u. u.0 == next) vars ≡ false
new_var next [] e = refl
new_var next (v ∷ vars) e =
    let p : (ltb v.0 next ≡ true) × (list_all (λ (x : Own). ltb x.0 next) vars ≡ true) = and_parts _ _ e in
    let l : v.0 < next = ltb-true _ _ p.0 in
    ap₂ ◌||◌ (ne_eqb v.0 next (λ q. omega arith)) (new_var next vars p.1)

-- the parts of different variables are different
pub different_parts : (us vs : List Own) → are_different (us ++ vs) ≡ true → (are_different us ≡ true) × (are_different vs ≡ true)
different_parts [] vs e = (refl, e)
different_parts (u ∷ us) vs e =
    let p : (not (list_any (λ (x : Own). x.0 == u.0) (us ++ vs)) ≡ true) × (are_different (us ++ vs) ≡ true) = and_parts _ _ e in
    let q : (are_different us ≡ true) × (are_different vs ≡ true) = different_parts us vs p.1 in
    let r : (list_any (λ (x : Own). x.0 == u.0) us ≡ false) × (list_any (λ (x : Own). x.0 == u.0) vs ≡ false) = or_parts _ _ (sym (list_any-append (λ (x : Own). x.0 == u.0) us vs) ∙ not-true _ p.0) in
    (and_from _ _ (ap not r.0) q.0, q.1)

-- and so are they with a new one
pub different_push : (next : ℕ) (vars : List Own) → list_all (λ v. ltb v.0 next) vars ≡ true → are_different vars ≡ true → are_different (vars ++ own_var next ∷ []) ≡ true
different_push next [] b e = refl
different_push next (v ∷ vars) b e =
    let p : (ltb v.0 next ≡ true) × (list_all (λ (x : Own). ltb x.0 next) vars ≡ true) = and_parts _ _ b in
    let q : (not (list_any (λ (x : Own). x.0 == v.0) vars) ≡ true) × (are_different vars ≡ true) = and_parts _ _ e in
    let l : v.0 < next = ltb-true _ _ p.0 in
    and_from _ _
    (ap not (list_any-append (λ (x : Own). x.0 == v.0) vars (own_var next ∷ []) ∙ ap₂ ◌||◌ (not-true _ q.0) (ap (λ b. b || false) (ne_eqb next v.0 (λ z. omega arith)))))
    (different_push next vars p.1 q.1)

pub different_front : (n : ℕ) (vars : List Own) → are_different vars ≡ true → are_different (take n vars) ≡ true
different_front n vars e = (different_parts (take n vars) (drop n vars) (ap are_different (take-append-drop n vars) ∙ e)).0

pub different_rest : (n : ℕ) (vars : List Own) → are_different vars ≡ true → are_different (drop n vars) ≡ true
different_rest n vars e = (different_parts (take n vars) (drop n vars) (ap are_different (take-append-drop n vars) ∙ e)).1

-- no variable stands twice in a piece
pub different-pieces_by : (n : ℕ) (vars : List Own) (rhs : Bool) (next : ℕ) → are_different vars ≡ true → list_all (λ v. ltb v.0 next) vars ≡ true → list_all (λ p. are_different p.vars) (pieces_by n vars rhs next) ≡ true
different-pieces_by zero vars rhs next d b = and_from _ _ d refl
different-pieces_by (suc n) vars rhs next d b =
    and_from _ _
    (different_push next (take 3 vars) (all_front (λ (x : Own). ltb x.0 next) 3 vars b) (different_front 3 vars d))
    (different-pieces_by n (drop 3 vars ++ own_var next ∷ []) rhs (suc next)
    (different_push next (drop 3 vars) (all_drop (λ (x : Own). ltb x.0 next) 3 vars b) (different_rest 3 vars d)) (rest_below next vars b))

-- four variables and two for each cut
pub cuts_reach : (count : ℕ) → count ≤ 4 + 2 * cuts_of_count count
cuts_reach count = omega arith
