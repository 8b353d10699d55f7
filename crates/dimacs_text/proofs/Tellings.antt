-- Each text that is written says what it was written for.
use Rattle.std.proofs.Common.{◌≡◌, ℕ, suc, ◌+◌, ◌-◌, ◌^◌, ◌<◌, Bool, true, false, not, List, [], ◌∷◌, ◌++◌, length, map, codes, nat_eq, nat_le, if◌then◌else◌, refl, sym, ◌∙◌, ap, ap₂, append_assoc, append-nil, arith}
use Rattle.std.specs.List.{flat_map, list_all, enumerate_from, AllByRecursion}
use Rattle.std.specs.Fmt.{decimal}
use Rattle.std.specs.Str.{bytes_eq}
use Rattle.std.specs.Str.Parse.{digits_value}
use Rattle.std.proofs.lemmas.Bool.{and_parts, and_from, leb-true, ne_eqb}
use Rattle.std.proofs.lemmas.Fmt.{decimal_is_IsNumeral}
use Rattle.std.proofs.lemmas.List.{append_cancel_left}
use Rattle.std.proofs.lemmas.List.Concat.{flat_map-append}
use Rattle.std.proofs.lemmas.List.Folds.{flat_map-map, list_all-append}
use Rattle.sat_lits.specs.declared.literal.Lit.{Lit}
use Rattle.sat_lits.specs.declared.shared.Shared.{Shared}
use Rattle.sat_lits.specs.declared.verdict.Verdict.{Verdict}
use Rattle.sat_lits.specs.declared.verdict.Verdict.TheVariants.{Sat, Unsat}
use Rattle.dimacs_text.specs.Texts.{values_text, literals_text, counts_text, text_of_verdict, word_of, place_of}
use Rattle.dimacs_text.specs.Written.{Written, OfVerdict, OfLimit, OfAlarm, OfShared, OfRefusal, text_of, EachFits, NoProperFront, TellsVerdict, TellsEach}
use Rattle.dimacs_text.specs.declared.refusal.Refusal.{Refusal}
use Rattle.dimacs_text.specs.declared.refusal.Refusal.TheVariants.{BadToken, VarTooLarge, TooManyLits, Truncated, TooLong}
use Rattle.dimacs_text.proofs.WordLines.{Line, line, behind_blanks, text_of_line, text_of_lines, is_word, has_words, lines_read, lines_none, is_digits, decimal_digits, digits_word}

-- a literal's word, and what it says

abbrev literal_word : Bool → ℕ → List ℕ
literal_word negative var = (if negative then codes "-" else []) ++ decimal (suc var)

abbrev is_signed : List ℕ → Bool
is_signed [] = false
is_signed (b ∷ bs) = nat_eq b 45

abbrev unsigned : List ℕ → List ℕ
unsigned [] = []
unsigned (b ∷ bs) = elim (nat_eq b 45) [ true ↦ bs | false ↦ b ∷ bs ]

abbrev said_literal : List ℕ → Lit
said_literal word = record { var = record { 0 = digits_value 10 (unsigned word) - 1 }; negative = is_signed word }

digits_unsigned : (ds : List ℕ) → is_digits ds ≡ true → (is_signed ds ≡ false) × (unsigned ds ≡ ds)
digits_unsigned [] e = (refl, refl)
digits_unsigned (d ∷ ds) e =
    let a : (nat_le 48 d ≡ true) × (is_digits ds ≡ true) = and_parts _ _ e in
    let no : nat_eq d 45 ≡ false = ne_eqb d 45 (λ same. omega (arith, leb-true 48 d a.0, same)) in
    (no, go (nat_eq d 45) no)
  where
    go : (v : Bool) → v ≡ false → ◌≡◌ {A = List ℕ} (elim v [ true ↦ ds | false ↦ d ∷ ds ]) (d ∷ ds)
    go true f = absurd cc
    go false f = refl

sign_said : (negative : Bool) (var : ℕ) → suc var < 2 ^ 64 → is_signed (literal_word negative var) ≡ negative
sign_said true var h = refl
sign_said false var h = (digits_unsigned (decimal (suc var)) (decimal_digits (suc var) h)).0

number_said : (negative : Bool) (var : ℕ) → suc var < 2 ^ 64 → unsigned (literal_word negative var) ≡ decimal (suc var)
number_said true var h = refl
number_said false var h = (digits_unsigned (decimal (suc var)) (decimal_digits (suc var) h)).1

literal_said : (lit : Lit) → suc lit.var.0 < 2 ^ 64 → said_literal (literal_word lit.negative lit.var.0) ≡ lit
literal_said lit h =
    let number : digits_value 10 (unsigned (literal_word lit.negative lit.var.0)) ≡ suc lit.var.0 =
    ap (digits_value 10) (number_said lit.negative lit.var.0 h) ∙ (decimal_is_IsNumeral (suc lit.var.0) h).1 in
    let var : digits_value 10 (unsigned (literal_word lit.negative lit.var.0)) - 1 ≡ lit.var.0 = omega (arith, number) in
    ap₂ (λ (n : ℕ) (s : Bool). let l : Lit = record { var = record { 0 = n }; negative = s } in l) var (sign_said lit.negative lit.var.0 h)

literal_is_word : (negative : Bool) (var : ℕ) → suc var < 2 ^ 64 → is_word (literal_word negative var) ≡ true
literal_is_word true var h = digits_word (decimal (suc var)) (decimal_digits (suc var) h)
literal_is_word false var h = digits_word (decimal (suc var)) (decimal_digits (suc var) h)

-- the words of values, of literals and of counts, and what they say

abbrev value_word : ℕ × Bool → List ℕ
value_word entry = literal_word (not entry.1) entry.0

values_said : (first : ℕ) (values : List Bool) → first + length values < 2 ^ 64 → map (λ w. not (is_signed w)) (map value_word (enumerate_from first values)) ≡ values
values_said first [] h = refl
values_said first (v ∷ vs) h =
    ap₂ (λ (x : Bool) (xs : List Bool). x ∷ xs) (ap not (sign_said (not v) first (omega arith)) ∙ twice v) (values_said (first + 1) vs (omega arith))
  where
    twice : (v : Bool) → not (not v) ≡ v
    twice true = refl
    twice false = refl

values_are_words : (first : ℕ) (values : List Bool) → first + length values < 2 ^ 64 → list_all is_word (map value_word (enumerate_from first values)) ≡ true
values_are_words first [] h = refl
values_are_words first (v ∷ vs) h = and_from _ _ (literal_is_word (not v) first (omega arith)) (values_are_words (first + 1) vs (omega arith))

abbrev lit_word : Lit → List ℕ
lit_word lit = literal_word lit.negative lit.var.0

literals_said : (lits : List Lit) → AllByRecursion (λ lit. suc lit.var.0 < 2 ^ 64) lits → map said_literal (map lit_word lits) ≡ lits
literals_said [] h = refl
literals_said (l ∷ ls) h = ap₂ (λ (x : Lit) (xs : List Lit). x ∷ xs) (literal_said l h.0) (literals_said ls h.1)

literals_are_words : (lits : List Lit) → AllByRecursion (λ lit. suc lit.var.0 < 2 ^ 64) lits → list_all is_word (map lit_word lits) ≡ true
literals_are_words [] h = refl
literals_are_words (l ∷ ls) h = and_from _ _ (literal_is_word l.negative l.var.0 h.0) (literals_are_words ls h.1)

counts_said : (counts : List ℕ) → AllByRecursion (λ count. count < 2 ^ 64) counts → map (digits_value 10) (map decimal counts) ≡ counts
counts_said [] h = refl
counts_said (n ∷ ns) h = ap₂ (λ (x : ℕ) (xs : List ℕ). x ∷ xs) (decimal_is_IsNumeral n h.0).1 (counts_said ns h.1)

counts_are_words : (counts : List ℕ) → AllByRecursion (λ count. count < 2 ^ 64) counts → list_all is_word (map decimal counts) ≡ true
counts_are_words [] h = refl
counts_are_words (n ∷ ns) h = and_from _ _ (digits_word (decimal n) (decimal_digits n h.0)) (counts_are_words ns h.1)

-- words, and a last one behind them

abbrev but_last : List (List ℕ) → List (List ℕ)
but_last [] = []
but_last (x ∷ []) = []
but_last (x ∷ y ∷ ys) = x ∷ but_last (y ∷ ys)

but_last-push : (xs : List (List ℕ)) (z : List ℕ) → but_last (xs ++ z ∷ []) ≡ xs
but_last-push [] z = refl
but_last-push (x ∷ []) z = refl
but_last-push (x ∷ y ∷ ys) z = ap (λ (t : List (List ℕ)). x ∷ t) (but_last-push (y ∷ ys) z)

words_push : (xs : List (List ℕ)) → list_all is_word xs ≡ true → list_all is_word (xs ++ codes "0" ∷ []) ≡ true
words_push xs h = rw (list_all-append, h) refl

-- the lines of a text, and what they say

abbrev lines_of_verdict : Verdict → List Line
lines_of_verdict (Sat values) =
    line (codes "s") (codes "SATISFIABLE" ∷ []) ∷ line (codes "v") (map value_word (enumerate_from 0 values) ++ codes "0" ∷ []) ∷ []
lines_of_verdict (Unsat failed) =
    line (codes "s") (codes "UNSATISFIABLE" ∷ []) ∷ line (codes "c") (codes "failed" ∷ (map lit_word failed ++ codes "0" ∷ [])) ∷ []

abbrev lines_of : Written → List Line
lines_of (OfVerdict verdict) = lines_of_verdict verdict
lines_of (OfLimit counts) = line (codes "s") (codes "INDETERMINATE" ∷ []) ∷ line (codes "c") (codes "limit" ∷ map decimal counts) ∷ []
lines_of OfAlarm = line (codes "s") (codes "INDETERMINATE" ∷ []) ∷ line (codes "c") (codes "alarm" ∷ []) ∷ []
lines_of (OfShared entry) = line (codes "c") (codes "shared" ∷ decimal entry.solver ∷ decimal entry.after ∷ (map lit_word entry.clause ++ codes "0" ∷ [])) ∷ []
lines_of (OfRefusal why) = line (codes "c") (codes "refused" ∷ word_of why ∷ decimal (place_of why) ∷ []) ∷ []

-- the words behind the first of the first line
abbrev words_in : List Line → List (List ℕ)
words_in [] = []
words_in (l ∷ ls) = l.others

abbrev but_first : List (List ℕ) → List (List ℕ)
but_first [] = []
but_first (w ∷ ws) = ws

abbrev begins : List (List ℕ) → List ℕ → Bool
begins [] word = false
begins (w ∷ ws) word = bytes_eq w word

-- the entry that words tell behind the word `shared`

abbrev said_shared : List (List ℕ) → Shared
said_shared [] = record { solver = 0; after = 0; clause = [] }
said_shared (solver ∷ []) = record { solver = 0; after = 0; clause = [] }
said_shared (solver ∷ after ∷ literals) = record { solver = digits_value 10 solver; after = digits_value 10 after; clause = map said_literal (but_last literals) }

-- the refusal that words tell behind the word `refused`

abbrev refusal_by : List ℕ → ℕ → Refusal
refusal_by word place = elim (bytes_eq word (codes "bad-token")) [
  | true ↦ BadToken place
  | false ↦ elim (bytes_eq word (codes "var-too-large")) [
    | true ↦ VarTooLarge place
    | false ↦ elim (bytes_eq word (codes "too-many-lits")) [
      | true ↦ TooManyLits place
      | false ↦ elim (bytes_eq word (codes "truncated")) [ true ↦ Truncated place | false ↦ TooLong place ]
    ]
  ]
]

abbrev said_refusal : List (List ℕ) → Refusal
said_refusal [] = TooLong 0
said_refusal (word ∷ []) = TooLong 0
said_refusal (word ∷ number ∷ more) = refusal_by word (digits_value 10 number)

refusal_named : (why : Refusal) → refusal_by (word_of why) (place_of why) ≡ why
refusal_named (BadToken place) = refl
refusal_named (VarTooLarge place) = refl
refusal_named (TooManyLits place) = refl
refusal_named (Truncated place) = refl
refusal_named (TooLong place) = refl

abbrev said : List Line → Written
said [] = OfAlarm
said (l ∷ ls) = elim (begins l.others (codes "SATISFIABLE")) [
  | true ↦ OfVerdict (Sat (map (λ w. not (is_signed w)) (but_last (words_in ls))))
  | false ↦ elim (begins l.others (codes "UNSATISFIABLE")) [
    | true ↦ OfVerdict (Unsat (map said_literal (but_last (but_first (words_in ls)))))
    | false ↦ elim (begins l.others (codes "INDETERMINATE")) [
      | true ↦ elim (begins (words_in ls) (codes "alarm")) [ true ↦ OfAlarm | false ↦ OfLimit (map (digits_value 10) (but_first (words_in ls))) ]
      | false ↦ elim (begins l.others (codes "shared")) [ true ↦ OfShared (said_shared (but_first l.others)) | false ↦ OfRefusal (said_refusal (but_first l.others)) ]
    ]
  ]
]

-- whatever follows, the lines say what they were written for
lines_say : (a : Written) (more : List Line) → EachFits a → said (lines_of a ++ more) ≡ a
lines_say (OfVerdict (Sat values)) more h =
    let e : map (λ w. not (is_signed w)) (but_last (map value_word (enumerate_from 0 values) ++ codes "0" ∷ [])) ≡ values =
    ap (map (λ w. not (is_signed w))) (but_last-push (map value_word (enumerate_from 0 values)) (codes "0")) ∙ values_said 0 values (omega arith) in
    ap (λ (vs : List Bool). OfVerdict (Sat vs)) e
lines_say (OfVerdict (Unsat failed)) more h =
    let e : map said_literal (but_last (map lit_word failed ++ codes "0" ∷ [])) ≡ failed =
    ap (map said_literal) (but_last-push (map lit_word failed) (codes "0")) ∙ literals_said failed h in
    ap (λ (ls : List Lit). OfVerdict (Unsat ls)) e
lines_say (OfLimit counts) more h = ap OfLimit (counts_said counts h)
lines_say OfAlarm more h = refl
lines_say (OfShared entry) more h =
    let solver = (decimal_is_IsNumeral entry.solver h.0).1 in
    let after = (decimal_is_IsNumeral entry.after h.1).1 in
    let clause : map said_literal (but_last (map lit_word entry.clause ++ codes "0" ∷ [])) ≡ entry.clause =
    ap (map said_literal) (but_last-push (map lit_word entry.clause) (codes "0")) ∙ literals_said entry.clause h.2 in
    let same : ◌≡◌ {A = Shared} (record { solver = digits_value 10 (decimal entry.solver); after = digits_value 10 (decimal entry.after); clause = map said_literal (but_last (map lit_word entry.clause ++ codes "0" ∷ [])) }) entry = rw (solver, after, clause) refl in
    ap OfShared same
lines_say (OfRefusal why) more h = ap OfRefusal (ap (refusal_by (word_of why)) (decimal_is_IsNumeral (place_of why) h).1 ∙ refusal_named why)

-- the word for a refusal is a word
refusal_is_word : (why : Refusal) → is_word (word_of why) ≡ true
refusal_is_word (BadToken place) = refl
refusal_is_word (VarTooLarge place) = refl
refusal_is_word (TooManyLits place) = refl
refusal_is_word (Truncated place) = refl
refusal_is_word (TooLong place) = refl

lines_have_words : (a : Written) → EachFits a → list_all has_words (lines_of a) ≡ true
lines_have_words (OfVerdict (Sat values)) h =
    let e = words_push (map value_word (enumerate_from 0 values)) (values_are_words 0 values (omega arith)) in rw e refl
lines_have_words (OfVerdict (Unsat failed)) h =
    let e = words_push (map lit_word failed) (literals_are_words failed h) in rw e refl
lines_have_words (OfLimit counts) h = let e = counts_are_words counts h in rw e refl
lines_have_words OfAlarm h = refl
lines_have_words (OfShared entry) h =
    let e = words_push (map lit_word entry.clause) (literals_are_words entry.clause h.2) in
    let solver = digits_word (decimal entry.solver) (decimal_digits entry.solver h.0) in
    let after = digits_word (decimal entry.after) (decimal_digits entry.after h.1) in
    rw (solver, after, e) refl
lines_have_words (OfRefusal why) h =
    let place = digits_word (decimal (place_of why)) (decimal_digits (place_of why) h) in
    let word = refusal_is_word why in
    rw (word, place) refl

-- words behind blanks, and a last one at the end of the line
line_end : (text : List ℕ) (words : List (List ℕ)) (last : List ℕ) → text ≡ behind_blanks words → text ++ 32 ∷ (last ++ 10 ∷ []) ≡ (behind_blanks (words ++ last ∷ []) ++ 10 ∷ []) ++ []
line_end text words last e =
    ap (λ t. t ++ 32 ∷ (last ++ 10 ∷ [])) e
    ∙ sym (append-nil _ ∙ ap (λ t. t ++ 10 ∷ []) (flat_map-append (λ word. 32 ∷ word) words (last ∷ [])) ∙ append_assoc (behind_blanks words) (behind_blanks (last ∷ [])) (10 ∷ [])
    ∙ ap (λ t. behind_blanks words ++ t) (ap (λ t. 32 ∷ (t ++ 10 ∷ [])) (append-nil last)))

-- two numbers with words behind them
shared_split : (solver after words : List ℕ) → ((solver ++ 32 ∷ []) ++ after) ++ ((words ++ 10 ∷ []) ++ []) ≡ ((solver ++ 32 ∷ (after ++ words)) ++ 10 ∷ []) ++ []
shared_split solver after words =
    let front : ((solver ++ 32 ∷ []) ++ after) ++ words ≡ solver ++ 32 ∷ (after ++ words) = ap (λ t. t ++ words) (append_assoc solver (32 ∷ []) after) ∙ append_assoc solver (32 ∷ after) words in
    ap (λ t. ((solver ++ 32 ∷ []) ++ after) ++ t) (append-nil (words ++ 10 ∷ []))
    ∙ sym (append_assoc ((solver ++ 32 ∷ []) ++ after) words (10 ∷ []))
    ∙ ap (λ t. t ++ 10 ∷ []) front
    ∙ sym (append-nil ((solver ++ 32 ∷ (after ++ words)) ++ 10 ∷ []))

-- a word and a number behind it
refusal_split : (word place : List ℕ) → ((word ++ 32 ∷ []) ++ place) ++ 10 ∷ [] ≡ ((word ++ 32 ∷ (place ++ [])) ++ 10 ∷ []) ++ []
refusal_split word place =
    ap (λ t. t ++ 10 ∷ []) (append_assoc word (32 ∷ []) place ∙ ap (λ t. word ++ 32 ∷ t) (sym (append-nil place))) ∙ sym (append-nil ((word ++ 32 ∷ (place ++ [])) ++ 10 ∷ []))

lines_text : (a : Written) → text_of a ≡ text_of_lines (lines_of a)
lines_text (OfVerdict (Sat values)) =
    let e = line_end (values_text values) (map value_word (enumerate_from 0 values)) (codes "0") (sym (flat_map-map (λ word. 32 ∷ word) value_word (enumerate_from 0 values))) in
    ap (λ t. codes "s SATISFIABLE\nv" ++ t) e
lines_text (OfVerdict (Unsat failed)) =
    let e = line_end (literals_text failed) (map lit_word failed) (codes "0") (sym (flat_map-map (λ word. 32 ∷ word) lit_word failed)) in
    ap (λ t. codes "s UNSATISFIABLE\nc failed" ++ t) e
lines_text (OfLimit counts) =
    let e : counts_text counts ≡ behind_blanks (map decimal counts) = sym (flat_map-map (λ word. 32 ∷ word) decimal counts) in
    ap (λ t. codes "s INDETERMINATE\nc limit" ++ t) (ap (λ t. t ++ 10 ∷ []) e ∙ sym (append-nil _))
lines_text OfAlarm = refl
lines_text (OfShared entry) =
    let e = line_end (literals_text entry.clause) (map lit_word entry.clause) (codes "0") (sym (flat_map-map (λ word. 32 ∷ word) lit_word entry.clause)) in
    let numbers : List ℕ = (decimal entry.solver ++ 32 ∷ []) ++ decimal entry.after in
    ap (λ t. codes "c shared " ++ t)
    (append_assoc numbers (literals_text entry.clause) (codes " 0\n") ∙ ap (λ t. numbers ++ t) e ∙ shared_split (decimal entry.solver) (decimal entry.after) (behind_blanks (map lit_word entry.clause ++ codes "0" ∷ [])))
lines_text (OfRefusal why) = ap (λ t. codes "c refused " ++ t) (refusal_split (word_of why) (decimal (place_of why)))

nothing_more : (xs more : List Line) → xs ≡ xs ++ more → more ≡ []
nothing_more xs more e = sym (append_cancel_left xs [] more (append-nil xs ∙ e))

pub no_proper_front : NoProperFront
no_proper_front a b rest fits_a fits_b e =
    let r = lines_read (lines_of a) (lines_of b) rest (lines_have_words a fits_a) (lines_have_words b fits_b) (sym (lines_text b) ∙ e ∙ ap (λ t. t ++ rest) (lines_text a)) in
    let same : a ≡ b = sym (lines_say a r.0 fits_a) ∙ ap said (sym r.1 ∙ sym (append-nil (lines_of b))) ∙ lines_say b [] fits_b in
    let none = nothing_more (lines_of a) r.0 (ap lines_of same ∙ r.1) in
    (same, r.2 ∙ ap text_of_lines none)

pub tells_verdict : TellsVerdict
tells_verdict v w fits_v fits_w e =
    let r = no_proper_front (OfVerdict v) (OfVerdict w) [] fits_v fits_w (sym e ∙ sym (append-nil (text_of_verdict v))) in
    let same = r.0 in cc

-- texts in a row

abbrev lines_of_all : List Written → List Line
lines_of_all ws = flat_map lines_of ws

lines_text_all : (ws : List Written) → flat_map text_of ws ≡ text_of_lines (lines_of_all ws)
lines_text_all [] = refl
lines_text_all (a ∷ ws) =
    ap₂ (λ (x : List ℕ) (y : List ℕ). x ++ y) (lines_text a) (lines_text_all ws) ∙ sym (flat_map-append text_of_line (lines_of a) (lines_of_all ws))

lines_have_words_all : (ws : List Written) → AllByRecursion EachFits ws → list_all has_words (lines_of_all ws) ≡ true
lines_have_words_all [] h = refl
lines_have_words_all (a ∷ ws) h = let e = lines_have_words a h.0 in let f = lines_have_words_all ws h.1 in rw (list_all-append, e, f) refl

lines_some : (a : Written) (more : List Line) → [] ≡ lines_of a ++ more → ⊥
lines_some (OfVerdict (Sat values)) more e = cc
lines_some (OfVerdict (Unsat failed)) more e = cc
lines_some (OfLimit counts) more e = cc
lines_some OfAlarm more e = cc
lines_some (OfShared entry) more e = cc
lines_some (OfRefusal why) more e = cc

told_apart : (ws vs : List Written) → AllByRecursion EachFits ws → AllByRecursion EachFits vs → lines_of_all ws ≡ lines_of_all vs → ws ≡ vs
told_apart [] [] h k e = refl
told_apart [] (b ∷ vs) h k e = absurd (lines_some b (lines_of_all vs) e)
told_apart (a ∷ ws) [] h k e = absurd (lines_some a (lines_of_all ws) (sym e))
told_apart (a ∷ ws) (b ∷ vs) h k e =
    let same : a ≡ b = sym (lines_say a (lines_of_all ws) h.0) ∙ ap said e ∙ lines_say b (lines_of_all vs) k.0 in
    let rest = append_cancel_left (lines_of a) (lines_of_all ws) (lines_of_all vs) (e ∙ ap (λ (w : Written). lines_of w ++ lines_of_all vs) (sym same)) in
    ap₂ (λ (x : Written) (xs : List Written). x ∷ xs) same (told_apart ws vs h.1 k.1 rest)

pub tells_each : TellsEach
tells_each ws vs h k e =
    let texts : text_of_lines (lines_of_all vs) ≡ text_of_lines (lines_of_all ws) ++ [] = sym (lines_text_all vs) ∙ sym e ∙ lines_text_all ws ∙ sym (append-nil (text_of_lines (lines_of_all ws))) in
    let r = lines_read (lines_of_all ws) (lines_of_all vs) [] (lines_have_words_all ws h) (lines_have_words_all vs k) texts in
    let whole : lines_of_all vs ≡ lines_of_all ws = r.1 ∙ ap (λ (ls : List Line). lines_of_all ws ++ ls) (lines_none r.0 r.2) ∙ append-nil (lines_of_all ws) in
    told_apart ws vs h k (sym whole)
