-- The bound of elimination stays where variables are named otherwise, one-to-one in the clauses.
use Rattle.std.proofs.Common.{◌≡◌, ℕ, Bool, true, false, cond, not, ◌&&◌, leb, List, [], ◌∷◌, ◌++◌, Option, Some, None, refl, sym, ap, ap₂, ◌∙◌, filter, map, fold, length, option_map, count_by}
use Rattle.std.proofs.lemmas.Bool.{and_parts, and_from}
use Rattle.std.proofs.lemmas.List.{length-map, map-append}
use Rattle.std.proofs.lemmas.List.Sums.{length-filter}
use Rattle.std.proofs.lemmas.List.Folds.{list_all-append, list_all-map}
use Rattle.std.specs.Bool.{beq}
use Rattle.std.specs.List.{list_all, list_any, cons_option}
use Rattle.sat_lits.specs.Truth.{signed}
use Rattle.sat_lits.specs.ListLaws.{all_filter, all_push, all_same, any_map, any_same, any_agree}
use Rattle.sat_lits.specs.declared.literal.Inner.{Inner}
use Rattle.sat_lits.specs.declared.literal.InLit.{InLit}
use Rattle.sat_lits.specs.declared.literal.OwnLit.{OwnLit}
use Rattle.rebuild_stack.specs.Values.{each_lit}
use Rattle.rebuild_stack.specs.Roots.{turned}
use Rattle.rebuild_stack.specs.PutIn.{same_lit, add_root, put_in, put_in_all}
use Rattle.rebuild_stack.specs.declared.entry.Root.TheVariants.{Last}
use Rattle.clause_store.specs.Store.{Held, hard_of}
use Rattle.indexed_store.specs.Bounds.{are_short, are_bounded, as_own, is_bounded}
use Rattle.var_maps.specs.Maps.{Maps, Matched, inner_at}
use Rattle.state_laws.specs.Held.{own_of, own_clauses, has_inner}
use Rattle.state_laws.specs.Resolution.{is_of, mentions, has_sign, without_var, rests, joins, resolvents}
use Rattle.private_state.proofs.Exceeding.{same_var, same_number}

-- a filter may come before or after a function
filter_mapped : {X Y : Type 0} (p : Y → Bool) (h : X → Y) (xs : List X) → filter p (map h xs) ≡ map h (filter (λ x. p (h x)) xs)
filter_mapped p h [] = refl
filter_mapped p h (x ∷ xs) = go (p (h x)) (filter_mapped p h xs)
  where
    go : (b : Bool) → filter p (map h xs) ≡ map h (filter (λ y. p (h y)) xs) → cond b (h x ∷ filter p (map h xs)) (filter p (map h xs)) ≡ map h (cond b (x ∷ filter (λ y. p (h y)) xs) (filter (λ y. p (h y)) xs))
    go true r = ap (λ z. h x ∷ z) r
    go false r = r

filter_same : {X : Type 0} (p q : X → Bool) → ((x : X) → p x ≡ q x) → (xs : List X) → filter p xs ≡ filter q xs
filter_same p q h [] = refl
filter_same p q h (x ∷ xs) = ap₂ (λ b z. cond b (x ∷ z) z) (h x) (filter_same p q h xs)

-- two readings of stored literals have the same signs, and tell variables apart alike where a literal passes a test
record Alike (t : InLit → Bool) (f g : InLit → OwnLit) : Type 0 where
  pub signs : (l : InLit) → (f l).negative ≡ (g l).negative
  pub vars : (l k : InLit) → t l ≡ true → is_of (f l).var.0 (f k) ≡ is_of (g l).var.0 (g k)

same_any : (t : InLit → Bool) (f g : InLit → OwnLit) → Alike t f g → (b : Bool) (k : InLit) (c : List InLit) → list_all t c ≡ true → list_any (same_lit (turned b (f k))) (map f c) ≡ list_any (same_lit (turned b (g k))) (map g c)
same_any t f g h b k c e =
    any_map (same_lit (turned b (f k))) f c
    ∙ (any_agree t (λ (l : InLit). same_lit (turned b (f k)) (f l)) (λ l. same_lit (turned b (g k)) (g l)) (λ l a. ap₂ ◌&&◌ (h.vars l k a) (ap₂ (λ x y. beq (signed b x) y) (h.signs k) (h.signs l))) c e
    ∙ sym (any_map (same_lit (turned b (g k))) g c))

-- literals merged to one clause, from what was merged
abbrev merge : Option (List OwnLit) → List OwnLit → Option (List OwnLit)
merge o x = fold (λ o l. add_root (Last l) o) o x

merge_none : (x : List OwnLit) → merge None x ≡ None
merge_none [] = refl
merge_none (l ∷ x) = merge_none x

-- a clause that is merged in both readings has as many literals in both
merged_from : (t : InLit → Bool) (f g : InLit → OwnLit) → Alike t f g → (x c : List InLit) → list_all t x ≡ true → list_all t c ≡ true → option_map length (merge (Some (map f c)) (map f x)) ≡ option_map length (merge (Some (map g c)) (map g x))
merged_from t f g h [] c a b = ap Some (length-map c f ∙ sym (length-map c g))
merged_from t f g h (k ∷ x) c a b =
    let p : (t k ≡ true) × (list_all t x ≡ true) = and_parts _ _ a in
    ap₂ (λ y z. option_map length (merge (cond y None (cond z (Some (map f c)) (Some (map f c ++ f k ∷ [])))) (map f x))) (same_any t f g h true k c b) (same_any t f g h false k c b)
    ∙ go (list_any (same_lit (turned true (g k))) (map g c)) (list_any (same_lit (g k)) (map g c)) (merged_from t f g h x c p.1 b) (merged_from t f g h x (c ++ k ∷ []) p.1 (all_push t c k b p.0))
  where
    go : (y z : Bool) → option_map length (merge (Some (map f c)) (map f x)) ≡ option_map length (merge (Some (map g c)) (map g x))
        → option_map length (merge (Some (map f (c ++ k ∷ []))) (map f x)) ≡ option_map length (merge (Some (map g (c ++ k ∷ []))) (map g x))
        → option_map length (merge (cond y None (cond z (Some (map f c)) (Some (map f c ++ f k ∷ [])))) (map f x)) ≡ option_map length (merge (cond y None (cond z (Some (map g c)) (Some (map g c ++ g k ∷ [])))) (map g x))
    go true z r s = ap (option_map length) (merge_none (map f x) ∙ sym (merge_none (map g x)))
    go false true r s = r
    go false false r s =
        ap (λ d. option_map length (merge (Some d) (map f x))) (sym (map-append f c (k ∷ [])))
        ∙ (s ∙ ap (λ d. option_map length (merge (Some d) (map g x))) (map-append g c (k ∷ [])))

merged : (t : InLit → Bool) (f g : InLit → OwnLit) → Alike t f g → (x : List InLit) → list_all t x ≡ true → option_map length (put_in Last (map f x)) ≡ option_map length (put_in Last (map g x))
merged t f g h x e = merged_from t f g h x [] e refl

lengths_more : (o : Option (List OwnLit)) (cs : List (List OwnLit)) → map length (cons_option o cs) ≡ cons_option (option_map length o) (map length cs)
lengths_more None cs = refl
lengths_more (Some c) cs = refl

-- one clause joined with others
one_joined : (t : InLit → Bool) (f g : InLit → OwnLit) → Alike t f g → (x : List InLit) (ys : List (List InLit)) → list_all t x ≡ true → each_lit t ys ≡ true
    → map length (put_in_all Last (map (λ d. map f x ++ d) (map (map f) ys))) ≡ map length (put_in_all Last (map (λ d. map g x ++ d) (map (map g) ys)))
one_joined t f g h x [] a b = refl
one_joined t f g h x (y ∷ ys) a b =
    let p : (list_all t y ≡ true) × (each_lit t ys ≡ true) = and_parts _ _ b in
    lengths_more (put_in Last (map f x ++ map f y)) (put_in_all Last (map (λ d. map f x ++ d) (map (map f) ys)))
    ∙ (ap₂ (λ o z. cons_option o z)
    (ap (λ d. option_map length (put_in Last d)) (sym (map-append f x y)) ∙ (merged t f g h (x ++ y) (list_all-append t x y ∙ and_from _ _ a p.0) ∙ ap (λ d. option_map length (put_in Last d)) (map-append g x y)))
    (one_joined t f g h x ys a p.1)
    ∙ sym (lengths_more (put_in Last (map g x ++ map g y)) (put_in_all Last (map (λ d. map g x ++ d) (map (map g) ys)))))

all_joined : (t : InLit → Bool) (f g : InLit → OwnLit) → Alike t f g → (xs ys : List (List InLit)) → each_lit t xs ≡ true → each_lit t ys ≡ true
    → map length (joins (map (map f) xs) (map (map f) ys)) ≡ map length (joins (map (map g) xs) (map (map g) ys))
all_joined t f g h [] ys a b = refl
all_joined t f g h (x ∷ xs) ys a b =
    let p : (list_all t x ≡ true) × (each_lit t xs ≡ true) = and_parts _ _ a in
    map-append length (put_in_all Last (map (λ d. map f x ++ d) (map (map f) ys))) (joins (map (map f) xs) (map (map f) ys))
    ∙ (ap₂ {C = List ℕ} ◌++◌ (one_joined t f g h x ys p.0 b) (all_joined t f g h xs ys p.1 b)
    ∙ sym (map-append length (put_in_all Last (map (λ d. map g x ++ d) (map (map g) ys))) (joins (map (map g) xs) (map (map g) ys))))

-- two readings, and the same variable in both
record AlikeAt (f g : InLit → OwnLit) (v w : ℕ) : Type 0 where
  pub signs : (l : InLit) → (f l).negative ≡ (g l).negative
  pub var : (l : InLit) → is_of v (f l) ≡ is_of w (g l)

-- every reading is like itself
itself : (g : InLit → OwnLit) (w : ℕ) → AlikeAt g g w w
itself g w = record { signs = λ l. refl; var = λ l. refl }

sign_alike : (f g : InLit → OwnLit) (v w : ℕ) → AlikeAt f g v w → (b : Bool) (c : List InLit) → has_sign v b (map f c) ≡ has_sign w b (map g c)
sign_alike f g v w h b c =
    any_map (λ (l : OwnLit). is_of v l && beq b l.negative) f c
    ∙ (any_same (λ (l : InLit). is_of v (f l) && beq b (f l).negative) (λ l. is_of w (g l) && beq b (g l).negative) (λ l. ap₂ (λ x y. x && beq b y) (h.var l) (h.signs l)) c
    ∙ sym (any_map (λ (l : OwnLit). is_of w l && beq b l.negative) g c))

mentions_alike : (f g : InLit → OwnLit) (v w : ℕ) → AlikeAt f g v w → (c : List InLit) → mentions v (map f c) ≡ mentions w (map g c)
mentions_alike f g v w h c = any_map (is_of v) f c ∙ (any_same (λ (l : InLit). is_of v (f l)) (λ l. is_of w (g l)) h.var c ∙ sym (any_map (is_of w) g c))

-- a stored clause without the literals that are read as those of a variable
abbrev stored_without : (InLit → OwnLit) → ℕ → List InLit → List InLit
stored_without g w c = filter (λ l. not (is_of w (g l))) c

-- what is left of stored clauses where the variable gets a value
abbrev stored_rests : (InLit → OwnLit) → ℕ → Bool → List (List InLit) → List (List InLit)
stored_rests g w value cs = map (stored_without g w) (filter (λ c. not (has_sign w (not value) (map g c))) cs)

without_read : (f g : InLit → OwnLit) (v w : ℕ) → AlikeAt f g v w → (c : List InLit) → without_var v (map f c) ≡ map f (stored_without g w c)
without_read f g v w h c = filter_mapped (λ l. not (is_of v l)) f c ∙ ap (map f) (filter_same (λ (l : InLit). not (is_of v (f l))) (λ l. not (is_of w (g l))) (λ l. ap not (h.var l)) c)

rests_read : (f g : InLit → OwnLit) (v w : ℕ) → AlikeAt f g v w → (value : Bool) (cs : List (List InLit)) → rests v value (map (map f) cs) ≡ map (map f) (stored_rests g w value cs)
rests_read f g v w h value [] = refl
rests_read f g v w h value (c ∷ cs) =
    ap (λ b. map (without_var v) (cond (not b) (map f c ∷ others) others)) (sign_alike f g v w h (not value) c)
    ∙ go (has_sign w (not value) (map g c)) (rests_read f g v w h value cs)
  where
    others : List (List OwnLit)
    others = filter (λ d. not (has_sign v (not value) d)) (map (map f) cs)

    left : List (List InLit)
    left = filter (λ d. not (has_sign w (not value) (map g d))) cs

    go : (b : Bool) → map (without_var v) others ≡ map (map f) (map (stored_without g w) left) → map (without_var v) (cond (not b) (map f c ∷ others) others) ≡ map (map f) (map (stored_without g w) (cond (not b) (c ∷ left) left))
    go true r = r
    go false r = ap₂ {C = List (List OwnLit)} (λ x z. x ∷ z) (without_read f g v w h c) r

rests_pass : (t : InLit → Bool) (g : InLit → OwnLit) (w : ℕ) (value : Bool) (cs : List (List InLit)) → each_lit t cs ≡ true → each_lit t (stored_rests g w value cs) ≡ true
rests_pass t g w value [] e = refl
rests_pass t g w value (c ∷ cs) e =
    let p : (list_all t c ≡ true) × (each_lit t cs ≡ true) = and_parts _ _ e in
    go (has_sign w (not value) (map g c)) p.0 (rests_pass t g w value cs p.1)
  where
    left : List (List InLit)
    left = filter (λ d. not (has_sign w (not value) (map g d))) cs

    go : (b : Bool) → list_all t c ≡ true → each_lit t (map (stored_without g w) left) ≡ true → each_lit t (map (stored_without g w) (cond (not b) (c ∷ left) left)) ≡ true
    go true a r = r
    go false a r = and_from _ _ (all_filter t (λ l. not (is_of w (g l))) t (λ l x y. x) c a) r

resolvents_read : (f g : InLit → OwnLit) (v w : ℕ) → AlikeAt f g v w → (cs : List (List InLit)) → resolvents v (map (map f) cs) ≡ joins (map (map f) (stored_rests g w false cs)) (map (map f) (stored_rests g w true cs))
resolvents_read f g v w h cs = ap₂ {C = List (List OwnLit)} joins (rests_read f g v w h false cs) (rests_read f g v w h true cs)

-- resolvents are as many in both readings, and as long
resolvents_alike : (t : InLit → Bool) (f g : InLit → OwnLit) (v w : ℕ) → Alike t f g → AlikeAt f g v w → (cs : List (List InLit)) → each_lit t cs ≡ true → map length (resolvents v (map (map f) cs)) ≡ map length (resolvents w (map (map g) cs))
resolvents_alike t f g v w h a cs e =
    ap (map length) (resolvents_read f g v w a cs)
    ∙ (all_joined t f g h (stored_rests g w false cs) (stored_rests g w true cs) (rests_pass t g w false cs e) (rests_pass t g w true cs e)
    ∙ sym (ap (map length) (resolvents_read g g w w (itself g w) cs)))

count_read : (f g : InLit → OwnLit) (v w : ℕ) → AlikeAt f g v w → (b : Bool) (cs : List (List InLit)) → count_by (has_sign v b) (map (map f) cs) ≡ length (filter (λ c. has_sign w b (map g c)) cs)
count_read f g v w h b cs =
    sym (length-filter (has_sign v b) (map (map f) cs))
    ∙ (ap length (filter_mapped (has_sign v b) (map f) cs)
    ∙ (length-map (filter (λ c. has_sign v b (map f c)) cs) (map f)
    ∙ ap length (filter_same (λ (c : List InLit). has_sign v b (map f c)) (λ c. has_sign w b (map g c)) (λ c. sign_alike f g v w h b c) cs)))

count_alike : (f g : InLit → OwnLit) (v w : ℕ) → AlikeAt f g v w → (b : Bool) (cs : List (List InLit)) → count_by (has_sign v b) (map (map f) cs) ≡ count_by (has_sign w b) (map (map g) cs)
count_alike f g v w h b cs = count_read f g v w h b cs ∙ sym (count_read g g w w (itself g w) b cs)

short_lengths : (cs : List (List OwnLit)) → are_short cs ≡ list_all (λ n. leb n 32) (map length cs)
short_lengths cs = sym (list_all-map (λ n. leb n 32) length cs)

-- clauses meet the bound in one reading where they do in the other
bounded_alike : (t : InLit → Bool) (f g : InLit → OwnLit) (v w : ℕ) → Alike t f g → AlikeAt f g v w → (cs : List (List InLit)) → each_lit t cs ≡ true → are_bounded v (map (map f) cs) ≡ are_bounded w (map (map g) cs)
bounded_alike t f g v w h a cs e =
    let r : map length (resolvents v (map (map f) cs)) ≡ map length (resolvents w (map (map g) cs)) = resolvents_alike t f g v w h a cs e in
    ap₂ ◌&&◌ (ap₂ (λ m n. leb m 16 && leb n 16) (count_alike f g v w a false cs) (count_alike f g v w a true cs))
    (ap₂ ◌&&◌
    (ap₂ leb (sym (length-map (resolvents v (map (map f) cs)) length) ∙ (ap length r ∙ length-map (resolvents w (map (map g) cs)) length)) (length-map cs (map f) ∙ sym (length-map cs (map g))))
    (short_lengths (resolvents v (map (map f) cs)) ∙ (ap (list_all (λ n. leb n 32)) r ∙ sym (short_lengths (resolvents w (map (map g) cs))))))

mentions_read : (f g : InLit → OwnLit) (v w : ℕ) → AlikeAt f g v w → (cs : List (List InLit)) → filter (mentions v) (map (map f) cs) ≡ map (map f) (filter (λ c. mentions w (map g c)) cs)
mentions_read f g v w h cs = filter_mapped (mentions v) (map f) cs ∙ ap (map (map f)) (filter_same (λ (c : List InLit). mentions v (map f c)) (λ c. mentions w (map g c)) (λ c. mentions_alike f g v w h c) cs)

-- a variable's hard clauses meet the bound exactly where they do with inner numbers
pub bounded_read : (m : Maps) (v : ℕ) (i : Inner) (hs : List Held) → Matched m → inner_at m v ≡ Some i → each_lit (has_inner m) (filter (mentions v) (own_clauses m (hard_of hs))) ≡ true
    → are_bounded v (filter (mentions v) (own_clauses m (hard_of hs))) ≡ is_bounded i.0 hs
bounded_read m v i hs d e a =
    let h : AlikeAt (own_of m) as_own v i.0 = record { signs = λ l. refl; var = same_var m v i d e } in
    let k : Alike (λ l. has_inner m (own_of m l)) (own_of m) as_own = record { signs = λ l. refl; vars = λ l k p. same_number m d l p k } in
    let cs : List (List InLit) = filter (λ c. mentions i.0 (map as_own c)) (hard_of hs) in
    let r : filter (mentions v) (own_clauses m (hard_of hs)) ≡ own_clauses m cs = mentions_read (own_of m) as_own v i.0 h (hard_of hs) in
    ap (are_bounded v) r
    ∙ (bounded_alike (λ l. has_inner m (own_of m l)) (own_of m) as_own v i.0 k h cs (active cs (sym (ap (each_lit (has_inner m)) r) ∙ a))
    ∙ ap (are_bounded i.0) (sym (mentions_read as_own as_own i.0 i.0 (itself as_own i.0) (hard_of hs))))
  where
    active : (cs : List (List InLit)) → each_lit (has_inner m) (own_clauses m cs) ≡ true → each_lit (λ l. has_inner m (own_of m l)) cs ≡ true
    active cs f =
        sym (list_all-map (list_all (has_inner m)) (map (own_of m)) cs ∙ all_same (λ (c : List InLit). list_all (has_inner m) (map (own_of m) c)) (list_all (λ l. has_inner m (own_of m l))) (λ c. list_all-map (has_inner m) (own_of m) c) cs) ∙ f
