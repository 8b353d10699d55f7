-- Variables that are in too many clauses to be eliminated, or whose clauses have too many resolvents.
use Rattle.std.proofs.Common.{◌≡◌, ℕ, suc, ◌+◌, ◌<◌, ◌≤◌, ◌==◌, Bool, true, false, cond, not, ◌||◌, ◌&&◌, leb, List, [], ◌∷◌, ◌++◌, append_assoc, Option, Some, None, is_some, refl, sym, ap, ap₂, subst, ◌∙◌, arith, filter, map, flat_map, length, sum_by, length-append, take, drop, get_or, option_map, option_to_list, ne_eqb, ◌⊎◌, ⊎_elim}
use Rattle.std.proofs.Math.Bool.{and-false}
use Rattle.std.proofs.lemmas.Bool.{and_parts, and_from, or_left, or_right, false≢true, eqb-true, eqb-false, eq-eqb, leb-true, lt-leb}
use Rattle.std.proofs.lemmas.List.{length-map, map-append, take-append-drop}
use Rattle.std.proofs.lemmas.List.Elements.{filter-append, filter_map-append}
use Rattle.std.proofs.lemmas.List.Sums.{length-filter, sum_by-cons, sum_by-append}
use Rattle.std.proofs.lemmas.List.Folds.{list_all-append, list_any-append, list_all-map}
use Rattle.std.specs.Bool.{beq}
use Rattle.std.specs.List.{list_all, list_any, cons_option}
use Rattle.sat_lits.specs.Truth.{signed}
use Rattle.sat_lits.specs.ListLaws.{all_filter, any_map, any_same, both_all}
use Rattle.sat_lits.specs.declared.literal.Inner.{Inner}
use Rattle.sat_lits.specs.declared.literal.InLit.{InLit}
use Rattle.sat_lits.specs.declared.literal.OwnLit.{OwnLit}
use Rattle.rebuild_stack.specs.Values.{own_value, each_lit}
use Rattle.rebuild_stack.specs.CommonLaws.{or_false}
use Rattle.rebuild_stack.specs.PutIn.{same_lit, put_in, put_in_all, option_value, is_clean}
use Rattle.rebuild_stack.specs.Roots.{turned}
use Rattle.rebuild_stack.specs.PutInLaws.{put_in_value}
use Rattle.rebuild_stack.specs.declared.entry.Root.TheVariants.{Last}
use Rattle.clause_store.specs.Store.{Held, clause_at, is_live, hard_of}
use Rattle.indexed_store.specs.declared.short_id.ShortId.{ShortId}
use Rattle.indexed_store.specs.Occurrences.{occurrences, clauses_at}
use Rattle.var_maps.specs.Maps.{Maps, Matched, inner_at}
use Rattle.state_laws.specs.Held.{own_of, own_clause, own_clauses, has_inner}
use Rattle.state_laws.specs.Resolution.{is_of, mentions, has_sign, without_var, rests, joins, resolvents}
use Rattle.state_laws.specs.ViewLaws.{clauses_of-filter}
use Rattle.removed_vars.specs.CollectLaws.{touches_read, clauses_at-more}
use Rattle.indexed_store.specs.Bounds.{are_few, are_short, are_bounded}
use Rattle.private_state.specs.Pairs.{hard_at, holds_lit, is_apart, may_join, joins_right, count_right, count_pairs}
use Rattle.private_state.proofs.Resolving.{occurrences_touch}

-- what a filter leaves passes
filtered : {X : Type 0} (p : X → Bool) (xs : List X) → list_all p (filter p xs) ≡ true
filtered p [] = refl
filtered {X = X} p (x ∷ xs) = go (p x) refl (filtered p xs)
  where
    go : (b : Bool) → p x ≡ b → list_all p (filter p xs) ≡ true → list_all p (cond b (x ∷ filter p xs) (filter p xs)) ≡ true
    go true e r = and_from _ _ e r
    go false e r = r

-- a clause that holds a variable holds it with a sign
with_sign : (v : ℕ) (c : List OwnLit) → mentions v c ≡ true → (has_sign v false c || has_sign v true c) ≡ true
with_sign v [] e = absurd (false≢true e)
with_sign v (l ∷ c) e = go (is_of v l) l.negative e (with_sign v c)
  where
    go : (a b : Bool) → (a || mentions v c) ≡ true → (mentions v c ≡ true → (has_sign v false c || has_sign v true c) ≡ true)
        → (((a && beq false b) || has_sign v false c) || ((a && beq true b) || has_sign v true c)) ≡ true
    go true false e r = refl
    go true true e r = or_right (has_sign v false c) (true || has_sign v true c) refl
    go false b e r = r e

-- clauses that hold a variable are no more than those with each sign together
both_signs : (v : ℕ) (cs : List (List OwnLit)) → list_all (mentions v) cs ≡ true → length cs ≤ length (filter (has_sign v false) cs) + length (filter (has_sign v true) cs)
both_signs v [] e = omega arith
both_signs v (c ∷ cs) e =
    let p : (mentions v c ≡ true) × (list_all (mentions v) cs ≡ true) = and_parts _ _ e in
    go (has_sign v false c) (has_sign v true c) (with_sign v c p.0) (both_signs v cs p.1)
  where
    go : (a b : Bool) → (a || b) ≡ true → length cs ≤ length (filter (has_sign v false) cs) + length (filter (has_sign v true) cs)
        → suc (length cs) ≤ length (cond a (c ∷ filter (has_sign v false) cs) (filter (has_sign v false) cs)) + length (cond b (c ∷ filter (has_sign v true) cs) (filter (has_sign v true) cs))
    go true true f l = omega arith
    go true false f l = omega arith
    go false true f l = omega arith
    go false false f l = absurd (false≢true f)

-- more than 32 clauses do not meet the bound
too_many : (v : ℕ) (cs : List (List OwnLit)) → list_all (mentions v) cs ≡ true → 32 < length cs → are_bounded v cs ≡ false
too_many v cs e l = go (are_few v cs) refl
  where
    go : (b : Bool) → are_few v cs ≡ b → (b && (leb (length (resolvents v cs)) (length cs) && are_short (resolvents v cs))) ≡ false
    go false f = refl
    go true f =
        absurd (let p : (leb (length (filter (has_sign v false) cs)) 16 ≡ true) × (leb (length (filter (has_sign v true) cs)) 16 ≡ true) =
        and_parts _ _ (ap₂ (λ m n. leb m 16 && leb n 16) (length-filter (has_sign v false) cs) (length-filter (has_sign v true) cs) ∙ f) in
        let a : length (filter (has_sign v false) cs) ≤ 16 = leb-true _ _ p.0 in
        let b : length (filter (has_sign v true) cs) ≤ 16 = leb-true _ _ p.1 in
        let d : length cs ≤ length (filter (has_sign v false) cs) + length (filter (has_sign v true) cs) = both_signs v cs e in
        omega arith)

none_any : {X : Type 0} (p : X → Bool) (xs : List X) → list_all (λ x. not (p x)) xs ≡ true → list_any p xs ≡ false
none_any p [] e = refl
none_any p (x ∷ xs) e =
    let a : (not (p x) ≡ true) × (list_all (λ y. not (p y)) xs ≡ true) = and_parts _ _ e in
    go (p x) a.0 (none_any p xs a.1)
  where
    go : (b : Bool) → not b ≡ true → list_any p xs ≡ false → (b || list_any p xs) ≡ false
    go true f r = absurd (false≢true f)
    go false f r = r

fewer_any : {X : Type 0} (p q : X → Bool) (xs : List X) → not (list_any p xs) ≡ true → not (list_any p (filter q xs)) ≡ true
fewer_any p q [] e = refl
fewer_any p q (x ∷ xs) e = go (q x) (p x) refl e (fewer_any p q xs)
  where
    go : (a b : Bool) → p x ≡ b → not (b || list_any p xs) ≡ true → (not (list_any p xs) ≡ true → not (list_any p (filter q xs)) ≡ true) → not (list_any p (cond a (x ∷ filter q xs) (filter q xs))) ≡ true
    go a true f g r = absurd (false≢true g)
    go true false f g r = ap (λ z. not (z || list_any p (filter q xs))) f ∙ r g
    go false false f g r = r g

-- a negative literal stands where it stands
own_sign : (x : List OwnLit) → list_all (λ l. not l.negative || has_sign l.var.0 true x) x ≡ true
own_sign x = go [] x
  where
    here : (front : List OwnLit) (l : OwnLit) (ls : List OwnLit) → l.negative ≡ true → has_sign l.var.0 true (front ++ l ∷ ls) ≡ true
    here [] l ls e = or_left _ _ (and_from _ _ (eq-eqb l.var.0 l.var.0 refl) (ap (beq true) e))
    here (k ∷ front) l ls e = or_right (is_of l.var.0 k && beq true k.negative) (has_sign l.var.0 true (front ++ l ∷ ls)) (here front l ls e)

    one : (b s : Bool) → (b ≡ true → s ≡ true) → (not b || s) ≡ true
    one true s h = h refl
    one false s h = refl

    go : (front ls : List OwnLit) → list_all (λ l. not l.negative || has_sign l.var.0 true (front ++ ls)) ls ≡ true
    go front [] = refl
    go front (l ∷ ls) =
        and_from _ _ (one l.negative (has_sign l.var.0 true (front ++ l ∷ ls)) (here front l ls))
        (subst (λ (z : List OwnLit). list_all (λ k. not k.negative || has_sign k.var.0 true z) ls ≡ true) (append_assoc front (l ∷ []) ls) (go (front ++ l ∷ []) ls))

-- a clause without a positive literal beside its negation is no tautology
no_tautology : (x : List OwnLit) → list_all (λ l. l.negative || not (has_sign l.var.0 true x)) x ≡ true → is_some (put_in Last x) ≡ true
no_tautology x e =
    left (put_in Last x)
    (put_in_value w Last x ∙ none_any (own_value w) x (both_all (λ (l : OwnLit). l.negative || not (w l.var.0)) (λ l. not l.negative || w l.var.0) (λ l. not (own_value w l)) (λ l a b. point l.negative (w l.var.0) a b) x e (own_sign x)))
  where
    w : ℕ → Bool
    w k = has_sign k true x

    point : (n b : Bool) → (n || not b) ≡ true → (not n || b) ≡ true → not (signed n b) ≡ true
    point true true f g = refl
    point true false f g = absurd (false≢true g)
    point false true f g = absurd (false≢true f)
    point false false f g = refl

    left : (o : Option (List OwnLit)) → option_value w o ≡ false → is_some o ≡ true
    left None f = absurd (false≢true (sym f))
    left (Some c) f = refl

-- a stored literal is of the variable where it has the variable's inner number
pub same_var : (m : Maps) (v : ℕ) (i : Inner) → Matched m → inner_at m v ≡ Some i → (l : InLit) → is_of v (own_of m l) ≡ (l.var.0 == i.0)
same_var m v i d e l =
    sym (or_false (is_of v (own_of m l))) ∙ (touches_read m v i (record { id = 0; learned = false; lits = l ∷ [] }) (l ∷ []) ((l.var.0 == i.0) || false) d e refl refl ∙ or_false (l.var.0 == i.0))

some_inner : (o : Option Inner) → is_some o ≡ true → (j : Inner) × (o ≡ Some j)
some_inner None e = absurd (false≢true e)
some_inner (Some j) e = (j, refl)

-- stored literals of active variables are of one variable where they have one inner number
pub same_number : (m : Maps) → Matched m → (l : InLit) → has_inner m (own_of m l) ≡ true → (k : InLit) → is_of (own_of m l).var.0 (own_of m k) ≡ (k.var.0 == l.var.0)
same_number m d l a k =
    let j : (j : Inner) × (inner_at m (own_of m l).var.0 ≡ Some j) = some_inner (inner_at m (own_of m l).var.0) a in
    let n : l.var.0 ≡ j.0.0 = eqb-true _ _ (sym (same_var m (own_of m l).var.0 j.0 d j.1 l) ∙ eq-eqb (own_of m l).var.0 (own_of m l).var.0 refl) in
    same_var m (own_of m l).var.0 j.0 d j.1 k ∙ ap (λ z. k.var.0 == z) (sym n)

-- a stored clause holds a variable with a sign where it does in own literals
same_sign : (m : Maps) (v : ℕ) (i : ℕ) → ((k : InLit) → is_of v (own_of m k) ≡ (k.var.0 == i)) → (b : Bool) (c : List InLit) → has_sign v b (own_clause m c) ≡ holds_lit i b c
same_sign m v i h b c =
    any_map (λ (l : OwnLit). is_of v l && beq b l.negative) (own_of m) c
    ∙ any_same (λ (l : InLit). is_of v (own_of m l) && beq b l.negative) (λ l. (l.var.0 == i) && beq b l.negative) (λ l. ap (λ z. z && beq b l.negative) (h l)) c

-- what is left of clauses that are apart is apart in own literals
apart_own : (m : Maps) (v : ℕ) (i : Inner) → Matched m → inner_at m v ≡ Some i → (c d : List InLit) → list_all (has_inner m) (own_clause m c) ≡ true → is_apart i.0 c d ≡ true
    → list_all (λ l. l.negative || not (has_sign l.var.0 true (without_var v (own_clause m d)))) (without_var v (own_clause m c)) ≡ true
apart_own m v i h e c d a f =
    all_filter (λ (l : OwnLit). l.negative || (is_of v l || not (has_sign l.var.0 true (own_clause m d)))) (λ l. not (is_of v l)) (λ l. l.negative || not (has_sign l.var.0 true (without_var v (own_clause m d))))
    (λ l p q. rest l l.negative (is_of v l) p q) (own_clause m c)
    (list_all-map (λ (l : OwnLit). l.negative || (is_of v l || not (has_sign l.var.0 true (own_clause m d)))) (own_of m) c
    ∙ both_all (λ (l : InLit). has_inner m (own_of m l)) (λ l. l.negative || ((l.var.0 == i.0) || not (holds_lit l.var.0 true d)))
    (λ l. l.negative || (is_of v (own_of m l) || not (has_sign (own_of m l).var.0 true (own_clause m d))))
    (λ l p q. ap₂ (λ y z. l.negative || (y || not z)) (same_var m v i h e l) (same_sign m (own_of m l).var.0 l.var.0 (same_number m h l p) true d) ∙ q) c
    (sym (list_all-map (has_inner m) (own_of m) c) ∙ a) f)
  where
    rest : (l : OwnLit) (n b : Bool) → (n || (b || not (has_sign l.var.0 true (own_clause m d)))) ≡ true → not b ≡ true → (n || not (has_sign l.var.0 true (without_var v (own_clause m d)))) ≡ true
    rest l true b p q = refl
    rest l false true p q = absurd (false≢true q)
    rest l false false p q = fewer_any (λ (k : OwnLit). is_of l.var.0 k && beq true k.negative) (λ k. not (is_of v k)) (own_clause m d) p

both_apart : (a b x : List OwnLit) → list_all (λ l. l.negative || not (has_sign l.var.0 true a)) x ≡ true → list_all (λ l. l.negative || not (has_sign l.var.0 true b)) x ≡ true → list_all (λ l. l.negative || not (has_sign l.var.0 true (a ++ b))) x ≡ true
both_apart a b x e f =
    both_all (λ (l : OwnLit). l.negative || not (has_sign l.var.0 true a)) (λ l. l.negative || not (has_sign l.var.0 true b)) (λ l. l.negative || not (has_sign l.var.0 true (a ++ b)))
    (λ l p q. ap (λ z. l.negative || not z) (list_any-append (λ (k : OwnLit). is_of l.var.0 k && beq true k.negative) a b) ∙ point l.negative (has_sign l.var.0 true a) (has_sign l.var.0 true b) p q) x e f
  where
    point : (n y z : Bool) → (n || not y) ≡ true → (n || not z) ≡ true → (n || not (y || z)) ≡ true
    point true y z p q = refl
    point false true z p q = absurd (false≢true p)
    point false false z p q = q

eqb_swap : (m n : ℕ) → (m == n) ≡ (n == m)
eqb_swap m n = go (m == n) refl
  where
    go : (b : Bool) → (m == n) ≡ b → b ≡ (n == m)
    go true e = sym (eq-eqb n m (sym (eqb-true m n e)))
    go false e = sym (ne_eqb n m (λ z. eqb-false m n e (sym z)))

all_not : {X : Type 0} (p : X → Bool) (xs : List X) → not (list_any p xs) ≡ true → list_all (λ x. not (p x)) xs ≡ true
all_not p [] f = refl
all_not p (x ∷ xs) f = go (p x) refl f (all_not p xs)
  where
    go : (b : Bool) → p x ≡ b → not (b || list_any p xs) ≡ true → (not (list_any p xs) ≡ true → list_all (λ y. not (p y)) xs ≡ true) → list_all (λ y. not (p y)) (x ∷ xs) ≡ true
    go true g h r = absurd (false≢true h)
    go false g h r = and_from _ _ (ap not g) (r h)

-- a clean clause is apart from itself
clean_apart : (c : List OwnLit) → is_clean c ≡ true → list_all (λ l. l.negative || not (has_sign l.var.0 true c)) c ≡ true
clean_apart [] e = refl
clean_apart (l ∷ c) e =
    let p : ((not (list_any (same_lit l) c) && not (list_any (same_lit (turned true l)) c)) ≡ true) × (is_clean c ≡ true) = and_parts _ _ e in
    let q : (not (list_any (same_lit l) c) ≡ true) × (not (list_any (same_lit (turned true l)) c) ≡ true) = and_parts _ _ p.0 in
    and_from _ _ (head l.negative refl q.1)
    (both_all (λ (m : OwnLit). not (same_lit (turned true l) m)) (λ m. m.negative || not (has_sign m.var.0 true c)) (λ m. m.negative || not (has_sign m.var.0 true (l ∷ c)))
    (λ m a b. tail m (is_of m.var.0 l) refl l.negative refl m.negative refl a b) c (all_not (same_lit (turned true l)) c q.1) (clean_apart c p.1))
  where
    sign : l.negative ≡ false → (m : OwnLit) → (is_of l.var.0 m && beq true m.negative) ≡ same_lit (turned true l) m
    sign g m = ap₂ (λ (y z : Bool). y && beq (not z) m.negative) (eqb_swap m.var.0 l.var.0) (sym g)

    head : (b : Bool) → l.negative ≡ b → not (list_any (same_lit (turned true l)) c) ≡ true → (b || not ((is_of l.var.0 l && beq true b) || has_sign l.var.0 true c)) ≡ true
    head true g f = refl
    head false g f =
        ap (λ z. not ((z && false) || has_sign l.var.0 true c)) (eq-eqb l.var.0 l.var.0 refl)
        ∙ (ap not (any_same (λ (m : OwnLit). is_of l.var.0 m && beq true m.negative) (same_lit (turned true l)) (sign g) c) ∙ f)

    tail : (m : OwnLit) (a : Bool) → is_of m.var.0 l ≡ a → (b : Bool) → l.negative ≡ b → (n : Bool) → m.negative ≡ n → not (same_lit (turned true l) m) ≡ true → (n || not (has_sign m.var.0 true c)) ≡ true
        → (n || not ((a && beq true b) || has_sign m.var.0 true c)) ≡ true
    tail m a f b g true h p q = refl
    tail m false f b g false h p q = q
    tail m true f false g false h p q = q
    tail m true f true g false h p q = absurd (false≢true (sym (ap (λ z. not (z && beq (not l.negative) m.negative)) f ∙ ap₂ (λ (y z : Bool). not (beq (not y) z)) g h) ∙ p))

-- and so is what is left of it
clean_left : (v : ℕ) (c : List OwnLit) → is_clean c ≡ true → list_all (λ l. l.negative || not (has_sign l.var.0 true (without_var v c))) (without_var v c) ≡ true
clean_left v c e =
    all_filter (λ (l : OwnLit). l.negative || not (has_sign l.var.0 true c)) (λ l. not (is_of v l)) (λ l. l.negative || not (has_sign l.var.0 true (without_var v c))) (λ l p q. fewer l l.negative p) c (clean_apart c e)
  where
    fewer : (l : OwnLit) (n : Bool) → (n || not (has_sign l.var.0 true c)) ≡ true → (n || not (has_sign l.var.0 true (without_var v c))) ≡ true
    fewer l true p = refl
    fewer l false p = fewer_any (λ (k : OwnLit). is_of l.var.0 k && beq true k.negative) (λ k. not (is_of v k)) c p

-- clauses that may be joined have a resolvent
joined : (m : Maps) (v : ℕ) (i : Inner) → Matched m → inner_at m v ≡ Some i → (c d : List InLit) → list_all (has_inner m) (own_clause m c) ≡ true → list_all (has_inner m) (own_clause m d) ≡ true
    → is_clean (own_clause m c) ≡ true → is_clean (own_clause m d) ≡ true → may_join i.0 c d ≡ true
    → is_some (put_in Last (without_var v (own_clause m c) ++ without_var v (own_clause m d))) ≡ true
joined m v i h e c d a b j k f =
    let q : (is_apart i.0 c d ≡ true) × (is_apart i.0 d c ≡ true) = and_parts _ _ f in
    let x : List OwnLit = without_var v (own_clause m c) in
    let y : List OwnLit = without_var v (own_clause m d) in
    no_tautology (x ++ y)
    (list_all-append (λ (l : OwnLit). l.negative || not (has_sign l.var.0 true (x ++ y))) x y
    ∙ and_from _ _ (both_apart x y x (clean_left v (own_clause m c) j) (apart_own m v i h e c d a q.0)) (both_apart x y y (apart_own m v i h e d c b q.1) (clean_left v (own_clause m d) k)))

-- one clause is joined with no more others than it has resolvents with
right_joins : (m : Maps) (v : ℕ) (i : Inner) → Matched m → inner_at m v ≡ Some i → (c : List InLit) → list_all (has_inner m) (own_clause m c) ≡ true → is_clean (own_clause m c) ≡ true → (ds : List (List InLit)) → each_lit (has_inner m) (own_clauses m ds) ≡ true → list_all is_clean (own_clauses m ds) ≡ true
    → length (filter (joins_right i.0 c) ds) ≤ length (put_in_all Last (map (λ e. without_var v (own_clause m c) ++ e) (rests v true (own_clauses m ds))))
right_joins m v i h e c a n [] g o = omega arith
right_joins m v i h e c a n (d ∷ ds) g o =
    let q : (is_clean (own_clause m d) ≡ true) × (list_all is_clean (own_clauses m ds) ≡ true) = and_parts _ _ o in
    let p : (list_all (has_inner m) (own_clause m d) ≡ true) × (each_lit (has_inner m) (own_clauses m ds) ≡ true) = and_parts _ _ g in
    go (holds_lit i.0 false d) (has_sign v false (own_clause m d)) (may_join i.0 c d) (sym (same_sign m v i.0 (same_var m v i h e) false d)) (joined m v i h e c d a p.0 n q.0) (right_joins m v i h e c a n ds p.1 q.1)
  where
    more : List OwnLit → List OwnLit
    more x = without_var v (own_clause m c) ++ x

    others : List (List OwnLit)
    others = filter (λ x. not (has_sign v false x)) (own_clauses m ds)

    one : (o : Option (List OwnLit)) → is_some o ≡ true → length (filter (joins_right i.0 c) ds) ≤ length (put_in_all Last (map more (map (without_var v) others))) → suc (length (filter (joins_right i.0 c) ds)) ≤ length (cons_option o (put_in_all Last (map more (map (without_var v) others))))
    one None f l = absurd (false≢true f)
    one (Some x) f l = omega arith

    none : (o : Option (List OwnLit)) → length (filter (joins_right i.0 c) ds) ≤ length (put_in_all Last (map more (map (without_var v) others))) → length (filter (joins_right i.0 c) ds) ≤ length (cons_option o (put_in_all Last (map more (map (without_var v) others))))
    none None l = l
    none (Some x) l = omega arith

    go : (s t j : Bool) → s ≡ t → (j ≡ true → is_some (put_in Last (more (without_var v (own_clause m d)))) ≡ true) → length (filter (joins_right i.0 c) ds) ≤ length (put_in_all Last (map more (map (without_var v) others)))
        → length (cond (not s && j) (d ∷ filter (joins_right i.0 c) ds) (filter (joins_right i.0 c) ds)) ≤ length (put_in_all Last (map more (map (without_var v) (cond (not t) (own_clause m d ∷ others) others))))
    go true true j f k l = l
    go true false j f k l = absurd (false≢true (sym f))
    go false true j f k l = absurd (false≢true f)
    go false false true f k l = one (put_in Last (more (without_var v (own_clause m d)))) (k refl) l
    go false false false f k l = none (put_in Last (more (without_var v (own_clause m d)))) l

-- and so all of them
left_joins : (m : Maps) (v : ℕ) (i : Inner) → Matched m → inner_at m v ≡ Some i → (ds : List (List InLit)) → each_lit (has_inner m) (own_clauses m ds) ≡ true → list_all is_clean (own_clauses m ds) ≡ true
    → (cs : List (List InLit)) → each_lit (has_inner m) (own_clauses m cs) ≡ true → list_all is_clean (own_clauses m cs) ≡ true
    → sum_by (count_right i.0 ds) cs ≤ length (joins (rests v false (own_clauses m cs)) (rests v true (own_clauses m ds)))
left_joins m v i h e ds g o [] a b = omega arith
left_joins m v i h e ds g o (c ∷ cs) a b =
    let q : (is_clean (own_clause m c) ≡ true) × (list_all is_clean (own_clauses m cs) ≡ true) = and_parts _ _ b in
    let p : (list_all (has_inner m) (own_clause m c) ≡ true) × (each_lit (has_inner m) (own_clauses m cs) ≡ true) = and_parts _ _ a in
    subst (λ n. n ≤ length (joins (rests v false (own_clauses m (c ∷ cs))) (rests v true (own_clauses m ds)))) (sym (sum_by-cons (count_right i.0 ds) c cs))
    (go (holds_lit i.0 true c) (has_sign v true (own_clause m c)) (sym (same_sign m v i.0 (same_var m v i h e) true c)) (length (filter (joins_right i.0 c) ds)) (right_joins m v i h e c p.0 q.0 ds g o) (left_joins m v i h e ds g o cs p.1 q.1))
  where
    with_rights : List OwnLit → List (List OwnLit)
    with_rights x = put_in_all Last (map (λ y. x ++ y) (rests v true (own_clauses m ds)))

    others : List (List OwnLit)
    others = filter (λ x. not (has_sign v true x)) (own_clauses m cs)

    go : (s t : Bool) → s ≡ t → (n : ℕ) → n ≤ length (with_rights (without_var v (own_clause m c))) → sum_by (count_right i.0 ds) cs ≤ length (flat_map with_rights (map (without_var v) others))
        → cond s 0 n + sum_by (count_right i.0 ds) cs ≤ length (flat_map with_rights (map (without_var v) (cond (not t) (own_clause m c ∷ others) others)))
    go true true f n k l = omega arith
    go true false f n k l = absurd (false≢true (sym f))
    go false true f n k l = absurd (false≢true f)
    go false false f n k l =
        let q : length (with_rights (without_var v (own_clause m c)) ++ flat_map with_rights (map (without_var v) others)) ≡ length (with_rights (without_var v (own_clause m c))) + length (flat_map with_rights (map (without_var v) others)) =
        length-append (with_rights (without_var v (own_clause m c))) (flat_map with_rights (map (without_var v) others)) in
        omega arith

-- clauses with more resolvents than they are do not meet the bound
too_joined : (m : Maps) (v : ℕ) (i : Inner) → Matched m → inner_at m v ≡ Some i → (cs : List (List InLit)) → each_lit (has_inner m) (own_clauses m cs) ≡ true → list_all is_clean (own_clauses m cs) ≡ true → length cs < count_pairs i.0 cs → are_bounded v (own_clauses m cs) ≡ false
too_joined m v i h e cs a b l =
    let j : sum_by (count_right i.0 cs) cs ≤ length (resolvents v (own_clauses m cs)) = left_joins m v i h e cs a b cs a b in
    let n : length (own_clauses m cs) ≡ length cs = length-map cs (own_clause m) in
    ap (λ b. are_few v (own_clauses m cs) && (b && are_short (resolvents v (own_clauses m cs)))) (lt-leb (length (resolvents v (own_clauses m cs))) (length (own_clauses m cs)) (omega arith)) ∙ and-false (are_few v (own_clauses m cs))

-- the hard clauses in a variable's list are, in own literals, those that hold it
listed_hard : (m : Maps) (v : ℕ) (i : Inner) (hs : List Held) (ids : List ShortId) → Matched m → inner_at m v ≡ Some i → clauses_at hs ids ≡ occurrences i.0 hs → own_clauses m (hard_of (clauses_at hs ids)) ≡ filter (mentions v) (own_clauses m (hard_of hs))
listed_hard m v i hs ids d e f = ap (λ (z : List Held). own_clauses m (hard_of z)) (f ∙ occurrences_touch m v i hs d e) ∙ clauses_of-filter m not (mentions v) hs

-- the hard clauses in a variable's list are too many, or have too many resolvents
pub exceeding : (m : Maps) (v : ℕ) (i : Inner) (hs : List Held) (ids : List ShortId) → Matched m → inner_at m v ≡ Some i → clauses_at hs ids ≡ occurrences i.0 hs → each_lit (has_inner m) (filter (mentions v) (own_clauses m (hard_of hs))) ≡ true → list_all is_clean (filter (mentions v) (own_clauses m (hard_of hs))) ≡ true
    → (32 < length (hard_of (clauses_at hs ids))) ⊎ (length (hard_of (clauses_at hs ids)) < count_pairs i.0 (hard_of (clauses_at hs ids))) → are_bounded v (filter (mentions v) (own_clauses m (hard_of hs))) ≡ false
exceeding m v i hs ids d e f a o s =
    let b : own_clauses m (hard_of (clauses_at hs ids)) ≡ filter (mentions v) (own_clauses m (hard_of hs)) = listed_hard m v i hs ids d e f in
    ⊎_elim
    (λ (l : 32 < length (hard_of (clauses_at hs ids))).
    let n : length (own_clauses m (hard_of (clauses_at hs ids))) ≡ length (hard_of (clauses_at hs ids)) = length-map (hard_of (clauses_at hs ids)) (own_clause m) in
    let k : length (own_clauses m (hard_of (clauses_at hs ids))) ≡ length (filter (mentions v) (own_clauses m (hard_of hs))) = ap length b in
    too_many v (filter (mentions v) (own_clauses m (hard_of hs))) (filtered (mentions v) (own_clauses m (hard_of hs))) (omega arith))
    (λ (l : length (hard_of (clauses_at hs ids)) < count_pairs i.0 (hard_of (clauses_at hs ids))).
    ap (are_bounded v) (sym b) ∙ too_joined m v i d e (hard_of (clauses_at hs ids)) (ap (each_lit (has_inner m)) b ∙ a) (ap (list_all is_clean) b ∙ o) l)
    s

-- the hard clauses of one id more
pub hard_more : (hs : List Held) (ids : List ShortId) (k : ℕ) (d : ShortId) → k < length ids → hard_of (clauses_at hs (take (k + 1) ids)) ≡ hard_of (clauses_at hs (take k ids)) ++ hard_at hs (get_or ids k d).0
hard_more hs ids k d l =
    ap hard_of (clauses_at-more hs ids k d l)
    ∙ (ap (map (λ (h : Held). h.lits)) (filter-append (λ (h : Held). not h.learned) (clauses_at hs (take k ids)) (option_to_list (clause_at hs (get_or ids k d).0)))
    ∙ map-append (λ (h : Held). h.lits) (filter (λ (h : Held). not h.learned) (clauses_at hs (take k ids))) (filter (λ (h : Held). not h.learned) (option_to_list (clause_at hs (get_or ids k d).0))))

-- how many of them pass a test
pub count_more : (p : List InLit → Bool) (hs : List Held) (ids : List ShortId) (k : ℕ) (d : ShortId) → k < length ids
    → length (filter p (hard_of (clauses_at hs (take (k + 1) ids)))) ≡ length (filter p (hard_of (clauses_at hs (take k ids)))) + length (filter p (hard_at hs (get_or ids k d).0))
count_more p hs ids k d l =
    ap (λ z. length (filter p z)) (hard_more hs ids k d l)
    ∙ (ap length (filter-append p (hard_of (clauses_at hs (take k ids))) (hard_at hs (get_or ids k d).0)) ∙ length-append (filter p (hard_of (clauses_at hs (take k ids)))) (filter p (hard_at hs (get_or ids k d).0)))

-- with how many others they are joined
pub sum_more : (f : List InLit → ℕ) (hs : List Held) (ids : List ShortId) (k : ℕ) (d : ShortId) → k < length ids
    → sum_by f (hard_of (clauses_at hs (take (k + 1) ids))) ≡ sum_by f (hard_of (clauses_at hs (take k ids))) + sum_by f (hard_at hs (get_or ids k d).0)
sum_more f hs ids k d l = ap (sum_by f) (hard_more hs ids k d l) ∙ sum_by-append f (hard_of (clauses_at hs (take k ids))) (hard_at hs (get_or ids k d).0)

-- and no front of the list has more
pub sum_front : (f : List InLit → ℕ) (hs : List Held) (ids : List ShortId) (k : ℕ) → sum_by f (hard_of (clauses_at hs (take k ids))) ≤ sum_by f (hard_of (clauses_at hs ids))
sum_front f hs ids k =
    let e : hard_of (clauses_at hs ids) ≡ hard_of (clauses_at hs (take k ids)) ++ hard_of (clauses_at hs (drop k ids)) =
    ap (λ z. hard_of (clauses_at hs z)) (sym (take-append-drop k ids))
    ∙ (ap hard_of (filter_map-append (λ (i : ShortId). clause_at hs i.0) (take k ids) (drop k ids))
    ∙ (ap (map (λ (h : Held). h.lits)) (filter-append (λ (h : Held). not h.learned) (clauses_at hs (take k ids)) (clauses_at hs (drop k ids)))
    ∙ map-append (λ (h : Held). h.lits) (filter (λ (h : Held). not h.learned) (clauses_at hs (take k ids))) (filter (λ (h : Held). not h.learned) (clauses_at hs (drop k ids))))) in
    let n : sum_by f (hard_of (clauses_at hs ids)) ≡ sum_by f (hard_of (clauses_at hs (take k ids))) + sum_by f (hard_of (clauses_at hs (drop k ids))) =
    ap (sum_by f) e ∙ sum_by-append f (hard_of (clauses_at hs (take k ids))) (hard_of (clauses_at hs (drop k ids))) in
    omega arith

-- no hard clause has the id of none, nor that of a learned one
pub nothing_hard : (hs : List Held) (i : ℕ) → is_live hs i ≡ false → hard_at hs i ≡ []
nothing_hard hs i e = go (clause_at hs i) e
  where
    go : (o : Option Held) → is_some o ≡ false → hard_of (option_to_list o) ≡ []
    go None f = refl
    go (Some h) f = absurd (false≢true (sym f))

pub learned_hard : (hs : List Held) (i : ℕ) (b : Bool) → option_map (λ h. h.learned) (clause_at hs i) ≡ Some b → b ≡ true → hard_at hs i ≡ []
learned_hard hs i b e f = go (clause_at hs i) (e ∙ ap Some f)
  where
    go : (o : Option Held) → option_map (λ (h : Held). h.learned) o ≡ Some true → hard_of (option_to_list o) ≡ []
    go None q = cc
    go (Some h) q = let l : h.learned ≡ true = same h.learned true q in ap (λ b. map (λ (k : Held). k.lits) (cond (not b) (h ∷ []) [])) l
      where
        same : (x y : Bool) → Some x ≡ Some y → x ≡ y
        same x y r = cc

-- the hard clause of an id
pub one_hard : (hs : List Held) (i : ℕ) (b : Bool) (lits : List InLit) → option_map (λ h. h.learned) (clause_at hs i) ≡ Some b → b ≡ false → option_map (λ h. h.lits) (clause_at hs i) ≡ Some lits → hard_at hs i ≡ lits ∷ []
one_hard hs i b lits e f g = go (clause_at hs i) (e ∙ ap Some f) g
  where
    go : (o : Option Held) → option_map (λ (h : Held). h.learned) o ≡ Some false → option_map (λ (h : Held). h.lits) o ≡ Some lits → hard_of (option_to_list o) ≡ lits ∷ []
    go None q r = cc
    go (Some h) q r =
        let l : h.learned ≡ false = same h.learned false q in
        ap (λ b. map (λ (k : Held). k.lits) (cond (not b) (h ∷ []) [])) l ∙ ap (λ z. z ∷ []) (same_lits h.lits lits r)
      where
        same : (x y : Bool) → Some x ≡ Some y → x ≡ y
        same x y t = cc

        same_lits : (x y : List InLit) → Some x ≡ Some y → x ≡ y
        same_lits x y t = cc

-- the pairs that were counted with one id more
pub pairs_more : (f : List InLit → ℕ) (hs : List Held) (ids : List ShortId) (k : ℕ) (d : ShortId) (n m : ℕ) → k < length ids → n ≡ sum_by f (hard_of (clauses_at hs (take k ids))) → m ≡ sum_by f (hard_at hs (get_or ids k d).0)
    → n + m ≡ sum_by f (hard_of (clauses_at hs (take (k + 1) ids)))
pairs_more f hs ids k d n m l a b = ap₂ ◌+◌ a b ∙ sym (sum_more f hs ids k d l)

-- more than so many of them are more than so many of all
pub pairs_over : (f : List InLit → ℕ) (hs : List Held) (ids : List ShortId) (k n most : ℕ) → n ≡ sum_by f (hard_of (clauses_at hs (take k ids))) → most < n → most < sum_by f (hard_of (clauses_at hs ids))
pairs_over f hs ids k n most e l =
    let s : sum_by f (hard_of (clauses_at hs (take k ids))) ≤ sum_by f (hard_of (clauses_at hs ids)) = sum_front f hs ids k in
    omega arith
