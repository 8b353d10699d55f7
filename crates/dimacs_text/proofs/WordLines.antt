-- Lines of words are read in one way alone.
use Rattle.std.proofs.Common.{◌≡◌, ℕ, ◌+◌, ◌%◌, ◌^◌, ◌<◌, ◌≤◌, Bool, true, ◌&&◌, List, [], ◌∷◌, ◌++◌, length, nat_lt, nat_le, refl, sym, ◌∙◌, ap, ap₂, append_assoc, length-append, arith}
use Rattle.std.specs.List.{flat_map, list_all}
use Rattle.std.specs.Fmt.{decimal}
use Rattle.std.proofs.lemmas.Bool.{and_parts, and_from, ltb-true, lt-ltb, leb-true, le-leb}
use Rattle.std.proofs.lemmas.Fmt.{decimal_by_steps}
use Rattle.std.proofs.lemmas.List.Folds.{list_all-append}

-- a line: its first word, and those behind it
pub record Line : Type 0 where
  pub first : List ℕ
  pub others : List (List ℕ)

abbrev pub line : List ℕ → List (List ℕ) → Line
line first others = record { first = first; others = others }

-- words, each behind a blank
abbrev pub behind_blanks : List (List ℕ) → List ℕ
behind_blanks words = flat_map (λ word. 32 ∷ word) words

abbrev pub text_of_line : Line → List ℕ
text_of_line l = l.first ++ (behind_blanks l.others ++ 10 ∷ [])

abbrev pub text_of_lines : List Line → List ℕ
text_of_lines lines = flat_map text_of_line lines

-- no byte of it is a blank or the end of a line
abbrev pub is_word : List ℕ → Bool
is_word w = list_all (nat_lt 32) w

abbrev pub has_words : Line → Bool
has_words l = is_word l.first && list_all is_word l.others

-- a word and the byte behind it
word_read : (w v : List ℕ) (s t : ℕ) (x y : List ℕ) → is_word w ≡ true → is_word v ≡ true → s ≤ 32 → t ≤ 32 → w ++ s ∷ x ≡ v ++ t ∷ y → (w ≡ v) × (s ≡ t) × (x ≡ y)
word_read [] [] s t x y p q h k e = (refl, cc, cc)
word_read [] (b ∷ v) s t x y p q h k e =
    let a : (nat_lt 32 b ≡ true) × (is_word v ≡ true) = and_parts _ _ q in
    let same : s ≡ b = cc in
    absurd (omega (arith, ltb-true 32 b a.0))
word_read (a ∷ w) [] s t x y p q h k e =
    let b : (nat_lt 32 a ≡ true) × (is_word w ≡ true) = and_parts _ _ p in
    let same : a ≡ t = cc in
    absurd (omega (arith, ltb-true 32 a b.0))
word_read (a ∷ w) (b ∷ v) s t x y p q h k e =
    let p' : (nat_lt 32 a ≡ true) × (is_word w ≡ true) = and_parts _ _ p in
    let q' : (nat_lt 32 b ≡ true) × (is_word v ≡ true) = and_parts _ _ q in
    let same : a ≡ b = cc in
    let rest : w ++ s ∷ x ≡ v ++ t ∷ y = cc in
    let r = word_read w v s t x y p'.1 q'.1 h k rest in
    let whole : ◌≡◌ {A = List ℕ} (a ∷ w) (b ∷ v) = let r0 = r.0 in cc in
    (whole, r.1, r.2)

-- a word, the words behind it, and what follows the line
line_read : (w v : List ℕ) (ws vs : List (List ℕ)) (x y : List ℕ) → is_word w ≡ true → is_word v ≡ true → list_all is_word ws ≡ true → list_all is_word vs ≡ true
    → w ++ (behind_blanks ws ++ 10 ∷ x) ≡ v ++ (behind_blanks vs ++ 10 ∷ y) → (w ≡ v) × (ws ≡ vs) × (x ≡ y)
line_read w v [] [] x y p q ps qs e = let r = word_read w v 10 10 x y p q (omega arith) (omega arith) e in (r.0, refl, r.2)
line_read w v [] (v' ∷ vs) x y p q ps qs e = let r = word_read w v 10 32 x _ p q (omega arith) (omega arith) e in absurd (omega (arith, r.1))
line_read w v (w' ∷ ws) [] x y p q ps qs e = let r = word_read w v 32 10 _ y p q (omega arith) (omega arith) e in absurd (omega (arith, r.1))
line_read w v (w' ∷ ws) (v' ∷ vs) x y p q ps qs e =
    let ps' : (is_word w' ≡ true) × (list_all is_word ws ≡ true) = and_parts _ _ ps in
    let qs' : (is_word v' ≡ true) × (list_all is_word vs ≡ true) = and_parts _ _ qs in
    let r = word_read w v 32 32 _ _ p q (omega arith) (omega arith) e in
    let rest : w' ++ (behind_blanks ws ++ 10 ∷ x) ≡ v' ++ (behind_blanks vs ++ 10 ∷ y) =
    sym (append_assoc w' (behind_blanks ws) (10 ∷ x)) ∙ r.2 ∙ append_assoc v' (behind_blanks vs) (10 ∷ y) in
    let s = line_read w' v' ws vs x y ps'.0 qs'.0 ps'.1 qs'.1 rest in
    let whole : ◌≡◌ {A = List (List ℕ)} (w' ∷ ws) (v' ∷ vs) = let s0 = s.0 in let s1 = s.1 in cc in
    (r.0, whole, s.2)

-- a line's text and what follows it
line_then : (l : Line) (x : List ℕ) → text_of_line l ++ x ≡ l.first ++ (behind_blanks l.others ++ 10 ∷ x)
line_then l x = append_assoc l.first (behind_blanks l.others ++ 10 ∷ []) x ∙ ap (λ t. l.first ++ t) (append_assoc (behind_blanks l.others) (10 ∷ []) x)

-- a line has a byte
line_some : (l : Line) (x : List ℕ) → [] ≡ text_of_line l ++ x → ⊥
line_some l x e = let n = ap length (e ∙ line_then l x) in omega (arith, n, length-append l.first (behind_blanks l.others ++ 10 ∷ x), length-append (behind_blanks l.others) (10 ∷ x))

-- where the text of lines begins with that of others, those are the first of them
pub lines_read : (ls ms : List Line) (rest : List ℕ) → list_all has_words ls ≡ true → list_all has_words ms ≡ true → text_of_lines ms ≡ text_of_lines ls ++ rest
    → (more : List Line) × (ms ≡ ls ++ more) × (rest ≡ text_of_lines more)
lines_read [] ms rest ps qs e = (ms, refl, sym e)
lines_read (l ∷ ls) [] rest ps qs e = absurd (line_some l (text_of_lines ls ++ rest) (e ∙ append_assoc (text_of_line l) (text_of_lines ls) rest))
lines_read (l ∷ ls) (m ∷ ms) rest ps qs e =
    let ps' : (has_words l ≡ true) × (list_all has_words ls ≡ true) = and_parts _ _ ps in
    let qs' : (has_words m ≡ true) × (list_all has_words ms ≡ true) = and_parts _ _ qs in
    let p : (is_word l.first ≡ true) × (list_all is_word l.others ≡ true) = and_parts _ _ ps'.0 in
    let q : (is_word m.first ≡ true) × (list_all is_word m.others ≡ true) = and_parts _ _ qs'.0 in
    let same : l.first ++ (behind_blanks l.others ++ 10 ∷ (text_of_lines ls ++ rest)) ≡ m.first ++ (behind_blanks m.others ++ 10 ∷ text_of_lines ms) =
    sym (line_then l (text_of_lines ls ++ rest)) ∙ sym (append_assoc (text_of_line l) (text_of_lines ls) rest) ∙ sym e ∙ line_then m (text_of_lines ms) in
    let r = line_read l.first m.first l.others m.others (text_of_lines ls ++ rest) (text_of_lines ms) p.0 q.0 p.1 q.1 same in
    let s = lines_read ls ms rest ps'.1 qs'.1 (sym r.2) in
    let head : l ≡ m = let r0 = r.0 in let r1 = r.1 in same_line l m r0 r1 in
    (s.0, whole l m ls ms s.0 head s.1, s.2)
  where
    same_line : (l m : Line) → l.first ≡ m.first → l.others ≡ m.others → l ≡ m
    same_line l m a b = ap₂ (λ (w : List ℕ) (ws : List (List ℕ)). line w ws) a b

    whole : (l m : Line) (ls ms more : List Line) → l ≡ m → ms ≡ ls ++ more → m ∷ ms ≡ (l ∷ ls) ++ more
    whole l m ls ms more a b = cc

-- lines without a byte are none
pub lines_none : (ls : List Line) → [] ≡ text_of_lines ls → ls ≡ []
lines_none [] e = refl
lines_none (l ∷ ls) e = absurd (line_some l (text_of_lines ls) e)

-- digits, as a decimal number has them
abbrev pub is_digits : List ℕ → Bool
is_digits ds = list_all (nat_le 48) ds

digits_push : (ds : List ℕ) (d : ℕ) → is_digits ds ≡ true → is_digits (ds ++ (48 + d) ∷ []) ≡ true
digits_push ds d h = rw (list_all-append, h) (and_from _ _ (le-leb 48 (48 + d) (omega arith)) refl)

pub decimal_digits : (n : ℕ) → n < 2 ^ 64 → is_digits (decimal n) ≡ true
decimal_digits n h = decimal_by_steps (λ m ds. is_digits ds ≡ true) (λ m k. digits_push [] m refl) (λ m ds k e. digits_push ds (m % 10) e) n h

-- digits are a word
pub digits_word : (ds : List ℕ) → is_digits ds ≡ true → is_word ds ≡ true
digits_word [] e = refl
digits_word (d ∷ ds) e =
    let a : (nat_le 48 d ≡ true) × (is_digits ds ≡ true) = and_parts _ _ e in
    and_from _ _ (lt-ltb 32 d (omega (arith, leb-true 48 d a.0))) (digits_word ds a.1)
