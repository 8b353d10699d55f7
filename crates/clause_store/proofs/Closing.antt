-- The words of dropped clauses, closed up.
use Rattle.std.proofs.Common.{◌≡◌, ℕ, zero, suc, ◌+◌, ◌-◌, ◌<◌, ◌≤◌, ltb, lt-ltb, filter, Bool, true, false, not, ◌&&◌, List, [], ◌∷◌, ◌++◌, length, get_or, take, drop, ◌⊎◌, inl, inr, Some, None, refl, sym, ap, ap₂, ◌∙◌, arith, cond, sum_by, zero-add, append_assoc, set}
use Rattle.std.proofs.Math.Seq.{take-suc-set}
use Rattle.std.proofs.lemmas.Bool.{true≢false}
use Rattle.std.proofs.lemmas.List.{length-take-le, drop_more, drop-set-lt}
use Rattle.std.proofs.lemmas.List.Folds.{list_all-map}
use Rattle.std.proofs.lemmas.List.Sums.{sum_by-cons}
use Rattle.std.specs.List.{list_all}
use Rattle.sat_lits.specs.InLits.{is_distinct}
use Rattle.sat_lits.specs.declared.literal.InLit.{InLit}
use Rattle.clause_store.specs.Store.{Held, contents}
use Rattle.clause_store.specs.Words.{is_header, length_in, learned_in, places_of, held_from, AreBlocks, stays_after, closed_up}
use Rattle.clause_store.proofs.Places.{seen, none-below}
use Rattle.clause_store.proofs.Blocks.{blocks_within}

-- what a word that is a header decides
stays_header : (stays : Bool) (w : InLit) → is_header w ≡ true → stays_after stays w ≡ not w.negative
stays_header stays w h = ap (λ b. cond b (not w.negative) stays) h

stays_plain : (stays : Bool) (w : InLit) → is_header w ≡ false → stays_after stays w ≡ stays
stays_plain stays w h = ap (λ b. cond b (not w.negative) stays) h

-- a word that stays, and one that does not
closed_stays : (stays : Bool) (w : InLit) (rest : List InLit) → stays_after stays w ≡ true → closed_up stays (w ∷ rest) ≡ w ∷ closed_up true rest
closed_stays stays w rest e = ap (λ b. cond b (w ∷ closed_up true rest) (closed_up false rest)) e

closed_goes : (stays : Bool) (w : InLit) (rest : List InLit) → stays_after stays w ≡ false → closed_up stays (w ∷ rest) ≡ closed_up false rest
closed_goes stays w rest e = ap (λ b. cond b (w ∷ closed_up true rest) (closed_up false rest)) e

-- the literals of a clause that stays are as they were
front_closed : (words : List InLit) (left : ℕ) → AreBlocks words left → take left (closed_up true words) ≡ take left words
front_closed words zero b = refl
front_closed [] (suc left) b = refl
front_closed (w ∷ words) (suc left) b =
    ap (take (suc left)) (closed_stays true w words (stays_plain true w b.0)) ∙ ap (λ z. w ∷ z) (front_closed words left b.1)

-- what stays is headers with their literals
pub blocks_closed : (words : List InLit) (left : ℕ) (stays : Bool) → AreBlocks words left → AreBlocks (closed_up stays words) (cond stays left 0)
blocks_closed [] left true b = b
blocks_closed [] left false b = refl
blocks_closed (w ∷ words) zero stays b = rw zero_left (go (not w.negative) refl (blocks_closed words (length_in w) true b.1) (blocks_closed words (length_in w) false b.1))
  where
    zero_left : cond {A = ℕ} stays 0 0 ≡ 0
    zero_left = elim stays as (λ s. cond {A = ℕ} s 0 0 ≡ 0) [ true ↦ refl | false ↦ refl ]

    go : (k : Bool) → not w.negative ≡ k → AreBlocks (closed_up true words) (length_in w) → AreBlocks (closed_up false words) 0 → AreBlocks (closed_up stays (w ∷ words)) 0
    go true e i j = rw (closed_stays stays w words (stays_header stays w b.0 ∙ e)) (b.0, i)
    go false e i j = rw (closed_goes stays w words (stays_header stays w b.0 ∙ e)) j
blocks_closed (w ∷ words) (suc left) true b = rw (closed_stays true w words (stays_plain true w b.0)) (b.0, blocks_closed words left true b.1)
blocks_closed (w ∷ words) (suc left) false b = rw (closed_goes false w words (stays_plain false w b.0)) (blocks_closed words left false b.1)

-- and holds the same clauses
pub contents_closed : (n m : ℕ) (words : List InLit) (left : ℕ) (stays : Bool) → AreBlocks words left → contents (held_from n (places_of (closed_up stays words))) ≡ contents (held_from m (places_of words))
contents_closed n m [] left stays b = refl
contents_closed n m (w ∷ words) zero stays b =
    go (not w.negative) refl (contents_closed (suc n) (suc m) words (length_in w) true b.1) (contents_closed n (suc m) words (length_in w) false b.1)
  where
    there : (h k : Bool) (i : ℕ) (rest : List InLit) → h ≡ true → k ≡ true
        → contents (held_from i (cond (h && k) (Some (record { learned = learned_in w; lits = take (length_in w) rest })) None ∷ places_of rest)) ≡ (learned_in w, take (length_in w) rest) ∷ contents (held_from (suc i) (places_of rest))
    there true true i rest e f = refl
    there true false i rest e f = absurd (true≢false (sym f))
    there false k i rest e f = absurd (true≢false (sym e))

    gone : (h k : Bool) (i : ℕ) (rest : List InLit) → k ≡ false
        → contents (held_from i (cond (h && k) (Some (record { learned = learned_in w; lits = take (length_in w) rest })) None ∷ places_of rest)) ≡ contents (held_from (suc i) (places_of rest))
    gone true false i rest f = refl
    gone false false i rest f = refl
    gone h true i rest f = absurd (true≢false f)

    go : (k : Bool) → not w.negative ≡ k → contents (held_from (suc n) (places_of (closed_up true words))) ≡ contents (held_from (suc m) (places_of words)) → contents (held_from n (places_of (closed_up false words))) ≡ contents (held_from (suc m) (places_of words))
        → contents (held_from n (places_of (closed_up stays (w ∷ words)))) ≡ contents (held_from m (places_of (w ∷ words)))
    go true e i j =
        ap (λ z. contents (held_from n (places_of z))) (closed_stays stays w words (stays_header stays w b.0 ∙ e))
        ∙ (there (is_header w) (not w.negative) n (closed_up true words) b.0 e
        ∙ (ap₂ {C = List (Bool × List InLit)} (λ (l : List InLit) (z : List (Bool × List InLit)). (learned_in w, l) ∷ z) (front_closed words (length_in w) b.1) i
        ∙ sym (there (is_header w) (not w.negative) m words b.0 e)))
    go false e i j =
        ap (λ z. contents (held_from n (places_of z))) (closed_goes stays w words (stays_header stays w b.0 ∙ e))
        ∙ (j ∙ sym (gone (is_header w) (not w.negative) m words e))
contents_closed n m (w ∷ words) (suc left) stays b = go stays (contents_closed (suc n) (suc m) words left true b.1) (contents_closed n (suc m) words left false b.1)
  where
    none : (h k : Bool) (i : ℕ) (rest : List InLit) → h ≡ false
        → contents (held_from i (cond (h && k) (Some (record { learned = learned_in w; lits = take (length_in w) rest })) None ∷ places_of rest)) ≡ contents (held_from (suc i) (places_of rest))
    none true k i rest e = absurd (true≢false e)
    none false k i rest e = refl

    go : (s : Bool) → contents (held_from (suc n) (places_of (closed_up true words))) ≡ contents (held_from (suc m) (places_of words)) → contents (held_from n (places_of (closed_up false words))) ≡ contents (held_from (suc m) (places_of words))
        → contents (held_from n (places_of (closed_up s (w ∷ words)))) ≡ contents (held_from m (places_of (w ∷ words)))
    go true i j =
        ap (λ z. contents (held_from n (places_of z))) (closed_stays true w words (stays_plain true w b.0))
        ∙ (none (is_header w) (not w.negative) n (closed_up true words) b.0
        ∙ (i ∙ sym (none (is_header w) (not w.negative) m words b.0)))
    go false i j =
        ap (λ z. contents (held_from n (places_of z))) (closed_goes false w words (stays_plain false w b.0))
        ∙ (j ∙ sym (none (is_header w) (not w.negative) m words b.0))

-- what the clauses are whose ids are below a number
abbrev pub contents_below : ℕ → List Held → List (Bool × List InLit)
contents_below bound held = contents (filter (λ h. ltb h.id bound) held)

-- and the same clauses come from the words before a mark
pub contents_marked : (n m p q k : ℕ) (words : List InLit) (left : ℕ) (stays : Bool) → AreBlocks words left → p ≡ n + length (closed_up stays (take k words)) → q ≡ m + k
    → contents_below p (held_from n (places_of (closed_up stays words))) ≡ contents_below q (held_from m (places_of words))
contents_marked n m p q k [] left stays b e f = refl
contents_marked n m p q zero (w ∷ words) left stays b e f =
    let g : p ≡ n + 0 = e in
    ap contents (none-below n p (places_of (closed_up stays (w ∷ words))) (omega arith)) ∙ sym (ap contents (none-below m q (places_of (w ∷ words)) (omega arith)))
contents_marked n m p q (suc k) (w ∷ words) zero stays b e f =
    go (not w.negative) refl (contents_marked (suc n) (suc m) p q k words (length_in w) true b.1) (contents_marked n (suc m) p q k words (length_in w) false b.1)
  where
    there : (h t : Bool) (i bound : ℕ) (rest : List InLit) → h ≡ true → t ≡ true → i < bound
        → contents_below bound (held_from i (cond (h && t) (Some (record { learned = learned_in w; lits = take (length_in w) rest })) None ∷ places_of rest)) ≡ (learned_in w, take (length_in w) rest) ∷ contents_below bound (held_from (suc i) (places_of rest))
    there true true i bound rest x y l = rw (lt-ltb i bound l) refl
    there true false i bound rest x y l = absurd (true≢false (sym y))
    there false t i bound rest x y l = absurd (true≢false (sym x))

    gone : (h t : Bool) (i bound : ℕ) (rest : List InLit) → t ≡ false
        → contents_below bound (held_from i (cond (h && t) (Some (record { learned = learned_in w; lits = take (length_in w) rest })) None ∷ places_of rest)) ≡ contents_below bound (held_from (suc i) (places_of rest))
    gone true false i bound rest y = refl
    gone false false i bound rest y = refl
    gone h true i bound rest y = absurd (true≢false y)

    go : (t : Bool) → not w.negative ≡ t
        → (p ≡ suc n + length (closed_up true (take k words)) → q ≡ suc m + k → contents_below p (held_from (suc n) (places_of (closed_up true words))) ≡ contents_below q (held_from (suc m) (places_of words)))
        → (p ≡ n + length (closed_up false (take k words)) → q ≡ suc m + k → contents_below p (held_from n (places_of (closed_up false words))) ≡ contents_below q (held_from (suc m) (places_of words)))
        → contents_below p (held_from n (places_of (closed_up stays (w ∷ words)))) ≡ contents_below q (held_from m (places_of (w ∷ words)))
    go true x i j =
        let s : stays_after stays w ≡ true = stays_header stays w b.0 ∙ x in
        let g : p ≡ n + suc (length (closed_up true (take k words))) = e ∙ ap (λ z. n + length z) (closed_stays stays w (take k words) s) in
        ap (λ z. contents_below p (held_from n (places_of z))) (closed_stays stays w words s)
        ∙ (there (is_header w) (not w.negative) n p (closed_up true words) b.0 x (omega arith)
        ∙ (ap₂ {C = List (Bool × List InLit)} (λ (l : List InLit) (z : List (Bool × List InLit)). (learned_in w, l) ∷ z) (front_closed words (length_in w) b.1) (i (omega arith) (omega arith))
        ∙ sym (there (is_header w) (not w.negative) m q words b.0 x (omega arith))))
    go false x i j =
        let s : stays_after stays w ≡ false = stays_header stays w b.0 ∙ x in
        ap (λ z. contents_below p (held_from n (places_of z))) (closed_goes stays w words s)
        ∙ (j (e ∙ ap (λ z. n + length z) (closed_goes stays w (take k words) s)) (omega arith) ∙ sym (gone (is_header w) (not w.negative) m q words x))
contents_marked n m p q (suc k) (w ∷ words) (suc left) stays b e f =
    go stays e (contents_marked (suc n) (suc m) p q k words left true b.1) (contents_marked n (suc m) p q k words left false b.1)
  where
    none : (h t : Bool) (i bound : ℕ) (rest : List InLit) → h ≡ false
        → contents_below bound (held_from i (cond (h && t) (Some (record { learned = learned_in w; lits = take (length_in w) rest })) None ∷ places_of rest)) ≡ contents_below bound (held_from (suc i) (places_of rest))
    none true t i bound rest x = absurd (true≢false x)
    none false t i bound rest x = refl

    go : (s : Bool) → p ≡ n + length (closed_up s (w ∷ take k words))
        → (p ≡ suc n + length (closed_up true (take k words)) → q ≡ suc m + k → contents_below p (held_from (suc n) (places_of (closed_up true words))) ≡ contents_below q (held_from (suc m) (places_of words)))
        → (p ≡ n + length (closed_up false (take k words)) → q ≡ suc m + k → contents_below p (held_from n (places_of (closed_up false words))) ≡ contents_below q (held_from (suc m) (places_of words)))
        → contents_below p (held_from n (places_of (closed_up s (w ∷ words)))) ≡ contents_below q (held_from m (places_of (w ∷ words)))
    go true x i j =
        let g : p ≡ n + suc (length (closed_up true (take k words))) = x ∙ ap (λ z. n + length z) (closed_stays true w (take k words) (stays_plain true w b.0)) in
        ap (λ z. contents_below p (held_from n (places_of z))) (closed_stays true w words (stays_plain true w b.0))
        ∙ (none (is_header w) (not w.negative) n p (closed_up true words) b.0
        ∙ (i (omega arith) (omega arith) ∙ sym (none (is_header w) (not w.negative) m q words b.0)))
    go false x i j =
        ap (λ z. contents_below p (held_from n (places_of z))) (closed_goes false w words (stays_plain false w b.0))
        ∙ (j (x ∙ ap (λ z. n + length z) (closed_goes false w (take k words) (stays_plain false w b.0))) (omega arith) ∙ sym (none (is_header w) (not w.negative) m q words b.0))

-- no more words stay of those before a mark than of all
pub closed_before : (k : ℕ) (words : List InLit) (stays : Bool) → length (closed_up stays (take k words)) ≤ length (closed_up stays words)
closed_before zero words stays = omega arith
closed_before (suc k) [] stays = omega arith
closed_before (suc k) (w ∷ words) stays = go (stays_after stays w) (closed_before k words true) (closed_before k words false)
  where
    go : (b : Bool) → length (closed_up true (take k words)) ≤ length (closed_up true words) → length (closed_up false (take k words)) ≤ length (closed_up false words)
        → length (cond b (w ∷ closed_up true (take k words)) (closed_up false (take k words))) ≤ length (cond b (w ∷ closed_up true words) (closed_up false words))
    go true i j = omega arith
    go false i j = omega arith

-- closing up makes no more words
pub closed_short : (words : List InLit) (stays : Bool) → length (closed_up stays words) ≤ length words
closed_short [] stays = omega arith
closed_short (w ∷ words) stays = go (stays_after stays w) (closed_short words true) (closed_short words false)
  where
    go : (b : Bool) → length (closed_up true words) ≤ length words → length (closed_up false words) ≤ length words → length (cond b (w ∷ closed_up true words) (closed_up false words)) ≤ suc (length words)
    go true i j = omega arith
    go false i j = omega arith

-- how many words the clauses take
pub length-closed : (n : ℕ) (words : List InLit) (left : ℕ) (stays : Bool) → AreBlocks words left → length (closed_up stays words) ≡ cond stays left 0 + sum_by (λ (h : Held). length h.lits + 1) (held_from n (places_of words))
length-closed n [] left true b = rw b refl
length-closed n [] left false b = refl
length-closed n (w ∷ words) zero stays b =
    go (not w.negative) refl (length-closed (suc n) words (length_in w) true b.1) (length-closed (suc n) words (length_in w) false b.1)
  where
    zero_left : cond {A = ℕ} stays 0 0 ≡ 0
    zero_left = elim stays as (λ s. cond {A = ℕ} s 0 0 ≡ 0) [ true ↦ refl | false ↦ refl ]

    there : (h k : Bool) → h ≡ true → k ≡ true
        → sum_by (λ (g : Held). length g.lits + 1) (held_from n (cond (h && k) (Some (record { learned = learned_in w; lits = take (length_in w) words })) None ∷ places_of words))
        ≡ length (take (length_in w) words) + 1 + sum_by (λ (g : Held). length g.lits + 1) (held_from (suc n) (places_of words))
    there true true e f = sum_by-cons (λ (g : Held). length g.lits + 1) (seen n (record { learned = learned_in w; lits = take (length_in w) words })) (held_from (suc n) (places_of words))
    there true false e f = absurd (true≢false (sym f))
    there false k e f = absurd (true≢false (sym e))

    gone : (h k : Bool) → k ≡ false
        → sum_by (λ (g : Held). length g.lits + 1) (held_from n (cond (h && k) (Some (record { learned = learned_in w; lits = take (length_in w) words })) None ∷ places_of words))
        ≡ sum_by (λ (g : Held). length g.lits + 1) (held_from (suc n) (places_of words))
    gone true false f = refl
    gone false false f = refl
    gone h true f = absurd (true≢false f)

    sums : (k l r c t : ℕ) → l ≡ k + r → t ≡ k → c ≡ 0 → suc l ≡ c + (t + 1 + r)
    sums k l r c t e f g = omega arith

    go : (k : Bool) → not w.negative ≡ k → length (closed_up true words) ≡ length_in w + sum_by (λ (h : Held). length h.lits + 1) (held_from (suc n) (places_of words))
        → length (closed_up false words) ≡ 0 + sum_by (λ (h : Held). length h.lits + 1) (held_from (suc n) (places_of words))
        → length (closed_up stays (w ∷ words)) ≡ cond stays 0 0 + sum_by (λ (h : Held). length h.lits + 1) (held_from n (places_of (w ∷ words)))
    go true e i j =
        ap length (closed_stays stays w words (stays_header stays w b.0 ∙ e))
        ∙ (sums (length_in w) (length (closed_up true words)) _ (cond stays 0 0) _ i (length-take-le (length_in w) words (blocks_within words (length_in w) b.1)) zero_left
        ∙ ap (λ z. cond stays 0 0 + z) (sym (there (is_header w) (not w.negative) b.0 e)))
    go false e i j =
        ap length (closed_goes stays w words (stays_header stays w b.0 ∙ e))
        ∙ (j
        ∙ (ap (λ z. z + sum_by (λ (h : Held). length h.lits + 1) (held_from (suc n) (places_of words))) (sym zero_left)
        ∙ ap (λ z. cond stays 0 0 + z) (sym (gone (is_header w) (not w.negative) e))))
length-closed n (w ∷ words) (suc left) stays b = go stays (length-closed (suc n) words left true b.1) (length-closed (suc n) words left false b.1)
  where
    none : (h k : Bool) → h ≡ false
        → sum_by (λ (g : Held). length g.lits + 1) (held_from n (cond (h && k) (Some (record { learned = learned_in w; lits = take (length_in w) words })) None ∷ places_of words))
        ≡ sum_by (λ (g : Held). length g.lits + 1) (held_from (suc n) (places_of words))
    none true k e = absurd (true≢false e)
    none false k e = refl

    more : (l k r : ℕ) → l ≡ k + r → suc l ≡ suc k + r
    more l k r e = omega arith

    go : (s : Bool) → length (closed_up true words) ≡ left + sum_by (λ (h : Held). length h.lits + 1) (held_from (suc n) (places_of words))
        → length (closed_up false words) ≡ 0 + sum_by (λ (h : Held). length h.lits + 1) (held_from (suc n) (places_of words))
        → length (closed_up s (w ∷ words)) ≡ cond s (suc left) 0 + sum_by (λ (h : Held). length h.lits + 1) (held_from n (places_of (w ∷ words)))
    go true i j =
        ap length (closed_stays true w words (stays_plain true w b.0))
        ∙ (more _ left _ i ∙ ap (λ z. suc left + z) (sym (none (is_header w) (not w.negative) b.0)))
    go false i j =
        ap length (closed_goes false w words (stays_plain false w b.0))
        ∙ (j ∙ ap (λ z. 0 + z) (sym (none (is_header w) (not w.negative) b.0)))

-- whether literals are distinct shows in the contents
pub all_distinct-contents : (xs ys : List Held) → contents xs ≡ contents ys → list_all (λ h. is_distinct h.lits) ys ≡ true → list_all (λ h. is_distinct h.lits) xs ≡ true
all_distinct-contents xs ys e h =
    sym (list_all-map (λ (c : Bool × List InLit). is_distinct c.1) (λ (k : Held). (k.learned, k.lits)) xs)
    ∙ (ap (list_all (λ (c : Bool × List InLit). is_distinct c.1)) e
    ∙ (list_all-map (λ (c : Bool × List InLit). is_distinct c.1) (λ (k : Held). (k.learned, k.lits)) ys ∙ h))

-- what closing up has come to before a place: the words that stay so far, and those to come
pub record AtClose (old words : List InLit) (end place : ℕ) (stays : Bool) (mark closed : ℕ) : Type 0 where
  pub done : take end words ++ closed_up stays (drop place words) ≡ closed_up false old
  pub within : end ≤ place
  pub marked : closed + length (closed_up stays (take (mark - place) (drop place words))) ≡ length (closed_up false (take mark old))
  pub last : place ≤ mark → closed ≡ end

-- a word that stays goes after those that did, and one that goes changes nothing
pub done_stays : (words after : List InLit) (end next place : ℕ) (stays b : Bool) (d : InLit) → place < length words → end ≤ place → b ≡ stays_after stays (get_or words place d)
    → b ≡ true → after ≡ set words end (get_or words place d) → next ≡ end + 1 → take next after ++ closed_up b (drop (place + 1) after) ≡ take end words ++ closed_up stays (drop place words)
done_stays words after end next place stays b d l within e f g h =
    let k : end + 1 ≡ suc end = omega arith in
    rw (f, g, h, drop-set-lt (place + 1) words end (get_or words place d) (omega arith), k, take-suc-set words end (get_or words place d) (omega arith), drop_more words place d l, closed_stays stays (get_or words place d) (drop (place + 1) words) (sym e ∙ f))
    (append_assoc (take end words) (get_or words place d ∷ []) (closed_up true (drop (place + 1) words)))

pub done_goes : (words after : List InLit) (end next place : ℕ) (stays b : Bool) (d : InLit) → place < length words → b ≡ stays_after stays (get_or words place d)
    → b ≡ false → after ≡ words → next ≡ end → take next after ++ closed_up b (drop (place + 1) after) ≡ take end words ++ closed_up stays (drop place words)
done_goes words after end next place stays b d l e f g h = rw (f, g, h, drop_more words place d l, closed_goes stays (get_or words place d) (drop (place + 1) words) (sym e ∙ f)) refl

-- a word more, where the mark is past it
count_ahead : (words : List InLit) (place mark : ℕ) (stays b : Bool) (d : InLit) → place < length words → place < mark → b ≡ stays_after stays (get_or words place d)
    → length (closed_up stays (take (mark - place) (drop place words))) ≡ cond b 1 0 + length (closed_up b (take (mark - (place + 1)) (drop (place + 1) words)))
count_ahead words place mark stays b d l m e =
    let k : mark - place ≡ suc (mark - (place + 1)) = omega arith in
    rw (k, drop_more words place d l) (go b e)
  where
    n : ℕ
    n = mark - (place + 1)

    rest : List InLit
    rest = drop (place + 1) words

    w : InLit
    w = get_or words place d

    more : (x : ℕ) → suc x ≡ 1 + x
    more x = omega arith

    go : (b : Bool) → b ≡ stays_after stays w → length (closed_up stays (w ∷ take n rest)) ≡ cond b 1 0 + length (closed_up b (take n rest))
    go true f = ap length (closed_stays stays w (take n rest) (sym f)) ∙ more (length (closed_up true (take n rest)))
    go false f = ap length (closed_goes stays w (take n rest) (sym f)) ∙ sym (zero-add (length (closed_up false (take n rest))))

-- how many of the words before the mark stay, a word on
pub marked_on : (words : List InLit) (place mark end next closed new total : ℕ) (stays b : Bool) (d : InLit) → place < length words → b ≡ stays_after stays (get_or words place d) → next ≡ end + cond b 1 0
    → ((place < mark) × (new ≡ next)) ⊎ ((mark ≤ place) × (new ≡ closed)) → (place ≤ mark → closed ≡ end) → closed + length (closed_up stays (take (mark - place) (drop place words))) ≡ total
    → new + length (closed_up b (take (mark - (place + 1)) (drop (place + 1) words))) ≡ total
marked_on words place mark end next closed new total stays b d l e f (inl (m, g)) i j =
    sum (length (closed_up stays (take (mark - place) (drop place words)))) (length (closed_up b (take (mark - (place + 1)) (drop (place + 1) words)))) (cond b 1 0) f (i (omega arith)) (count_ahead words place mark stays b d l m e) j
  where
    sum : (x y t : ℕ) → next ≡ end + t → closed ≡ end → x ≡ t + y → closed + x ≡ total → new + y ≡ total
    sum x y t p q r s = omega arith
marked_on words place mark end next closed new total stays b d l e f (inr (m, g)) i j =
    let k : mark - place ≡ 0 = omega arith in
    let h : mark - (place + 1) ≡ 0 = omega arith in
    let o : closed + 0 ≡ total = rw k at j in
    rw h (same o)
  where
    same : closed + 0 ≡ total → new + 0 ≡ total
    same o = omega arith
