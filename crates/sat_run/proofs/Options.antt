-- What words say, one by one.
use Rattle.std.proofs.Common.{◌≡◌, ◌↔◌, ℕ, suc, zero, ◌<◌, ◌≤◌, ◌^◌, Bool, true, false, ◌&&◌, List, [], ◌∷◌, length, get_or, drop, codes, Result, Ok, Err, Some, None, nat_lt, nat_le, if◌then◌else◌, refl, sym, ap, subst, ◌∙◌, arith, nat_eq, IfSome}
use Rattle.std.specs.declared.option.Option.{Option}
use Rattle.std.specs.Char.{is_ascii_digit}
use Rattle.std.specs.List.{starts_with}
use Rattle.std.specs.Option.{option_and_then, option_map, unwrap_or}
use Rattle.std.specs.Result.{result_ok}
use Rattle.std.specs.Str.{bytes_eq, all_ascii_digits}
use Rattle.std.specs.Str.Parse.{digits_value, ParsesUnsigned}
use Rattle.std.proofs.lemmas.Bool.{and_parts, and_from, lt-ltb, le-leb, ltb-true, leb-true, true≢false}
use Rattle.std.proofs.lemmas.Str.Parse.{IsNumeralModel, numerals_by_value, tells_all_ascii_digits, parse_digits}
use Rattle.sat_lits.specs.Limits.{standard_limits}
use Rattle.sat_run.specs.Words.{is_number, number_of, number_behind, setting_of, with_limit, with_input, allows_threads, with_threads, with_shared, with_number, with_word, settled, chosen_with, options_after, no_options, options_of, input_of, threads_of}
use Rattle.sat_run.specs.declared.words.Options.{Options}
use Rattle.sat_run.specs.declared.words.Setting.{Setting}
use Rattle.sat_run.specs.declared.words.Setting.TheVariants.{MaxConflicts, MaxInput, ThreadCount}
use Rattle.sat_run.specs.declared.words.Chosen.{Chosen}

all_where_each : (ds : List ℕ) → ((k : ℕ) → k < length ds → is_ascii_digit (get_or ds k 0) ≡ true) → all_ascii_digits ds ≡ true
all_where_each [] h = refl
all_where_each (d ∷ ds) h = and_from _ _ (h 0 (omega arith)) (all_where_each ds (λ k l. h (suc k) (omega arith)))

each_where_all : (ds : List ℕ) (k : ℕ) → all_ascii_digits ds ≡ true → k < length ds → is_ascii_digit (get_or ds k 0) ≡ true
each_where_all [] k e l = absurd (omega arith)
each_where_all (d ∷ ds) zero e l = (and_parts _ _ e).0
each_where_all (d ∷ ds) (suc k) e l = each_where_all ds k (and_parts _ _ e).1 (omega arith)

same_test : (a b : Bool) → (a ≡ true → b ≡ true) → (b ≡ true → a ≡ true) → a ≡ b
same_test true b f g = sym (f refl)
same_test false true f g = g refl
same_test false false f g = refl

-- a test of each byte
pub digits_test : (r : Bool) (ds : List ℕ) → (r ≡ true) ↔ ((k : ℕ) → k < length ds → is_ascii_digit (get_or ds k 0) ≡ true) → r ≡ all_ascii_digits ds
digits_test r ds h = same_test r (all_ascii_digits ds) (λ e. all_where_each ds (h.0 e)) (λ e. h.1 (λ k l. each_where_all ds k e l))

numeral : IsNumeralModel (λ ds. all_ascii_digits ds ≡ true) (digits_value 10)
numeral = numerals_by_value _ tells_all_ascii_digits

false_last : (a b c d : Bool) → d ≡ false → (a && (b && (c && d))) ≡ false
false_last true true true d e = e
false_last true true false d e = refl
false_last true false c d e = refl
false_last false b c d e = refl

not_below : (n m : ℕ) (v : Bool) → nat_lt n m ≡ v → (n < m → ⊥) → v ≡ false
not_below n m true e h = absurd (h (ltb-true n m e))
not_below n m false e h = refl

pub not_empty : (n : ℕ) (r : Bool) → r ≡ nat_eq n 0 → r ≡ false → 0 < n
not_empty zero r e f = absurd (true≢false (sym e ∙ f))
not_empty (suc n) r e f = omega arith

-- what is parsed of one to twenty digits
pub number_parsed : {E : Type 0} (ds : List ℕ) (r : Result ℕ E) → all_ascii_digits ds ≡ true → 0 < length ds → length ds ≤ 20 → ParsesUnsigned 64 10 ds r → result_ok r ≡ number_of ds
number_parsed {E} ds (Ok x) all some few h =
    let p = parse_digits numeral {E = E} 64 ds (Ok x) h all in
    let within : digits_value 10 ds < 2 ^ 64 = p.0.1 in
    let yes : is_number ds ≡ true = and_from _ _ all (and_from _ _ (lt-ltb 0 (length ds) some) (and_from _ _ (le-leb (length ds) 20 few) (lt-ltb (digits_value 10 ds) (2 ^ 64) within))) in
    ap Some p.1 ∙ sym (ap (λ (b : Bool). if b then Some (digits_value 10 ds) else None) yes)
number_parsed {E} ds (Err error) all some few h =
    let no : is_number ds ≡ false
    = false_last (all_ascii_digits ds) (nat_lt 0 (length ds)) (nat_le (length ds) 20) (nat_lt (digits_value 10 ds) (2 ^ 64))
    (not_below (digits_value 10 ds) (2 ^ 64) (nat_lt (digits_value 10 ds) (2 ^ 64)) refl (λ l. parse_digits numeral {E = E} 64 ds (Err error) h all (some, l))) in
    sym (ap (λ (b : Bool). if b then Some (digits_value 10 ds) else None) no)

cond_false : {X : Type 0} (b : Bool) (x y : X) → b ≡ false → (if b then x else y) ≡ y
cond_false true x y e = absurd (true≢false e)
cond_false false x y e = refl

-- a word that is no option, and begins with no option's name and an equals sign
pub no_word : (o : Options) (word : List ℕ) → bytes_eq word (codes "--print-shared") ≡ false → starts_with nat_eq word (codes "--maxconfl=") ≡ false → starts_with nat_eq word (codes "--max-input=") ≡ false
    → starts_with nat_eq word (codes "--threads=") ≡ false → None ≡ with_word o word
no_word o word d e f g =
    sym (cond_false _ (with_shared o) _ d ∙ cond_false _ (option_and_then (with_limit o) (number_behind (codes "--maxconfl=") word)) _ e
    ∙ cond_false _ (option_and_then (with_input o) (number_behind (codes "--max-input=") word)) _ f
    ∙ ap (option_and_then (with_threads o)) (cond_false _ (number_of (drop (length (codes "--threads=")) word)) None g))

-- Whatever the words, no more bytes of input are allowed than the standard limit says, and the number of threads is one that it allows.
record IsStandard (options : Options) : Type 0 where
  pub few : input_of options ≤ standard_limits.input
  pub some_thread : 0 < threads_of options
  pub few_threads : threads_of options ≤ standard_limits.threads

then_standard : {X : Type 0} (f : X → Option Options) (x : Option X) → ((y : X) → IfSome (f y) IsStandard) → IfSome (option_and_then f x) IsStandard
then_standard f None h = tt
then_standard f (Some y) h = h y

limit_standard : (o : Options) (limit : ℕ) → IsStandard o → IfSome (with_limit o limit) IsStandard
limit_standard o limit h = go o.max_conflicts
  where
    go : (m : Option ℕ) → IfSome (elim m [ None ↦ Some (record o { max_conflicts = Some limit }) | Some earlier ↦ None ]) IsStandard
    go None = record { few = h.few; some_thread = h.some_thread; few_threads = h.few_threads }
    go (Some earlier) = tt

input_standard : (o : Options) (most : ℕ) → IsStandard o → IfSome (with_input o most) IsStandard
input_standard o most h = go o.max_input (nat_le most standard_limits.input) refl
  where
    go : (m : Option ℕ) (b : Bool) → nat_le most standard_limits.input ≡ b → IfSome (elim m [ None ↦ if b then Some (record o { max_input = Some most }) else None | Some earlier ↦ None ]) IsStandard
    go None true e = record { few = leb-true most standard_limits.input e; some_thread = h.some_thread; few_threads = h.few_threads }
    go None false e = tt
    go (Some earlier) b e = tt

threads_standard : (o : Options) (count : ℕ) → IsStandard o → IfSome (with_threads o count) IsStandard
threads_standard o count h = go o.threads (allows_threads count) refl
  where
    go : (m : Option ℕ) (b : Bool) → allows_threads count ≡ b → IfSome (elim m [ None ↦ if b then Some (record o { threads = Some count }) else None | Some earlier ↦ None ]) IsStandard
    go None true e =
        let parts : (nat_lt 0 count ≡ true) × (nat_le count standard_limits.threads ≡ true) = and_parts _ _ e in
        record { few = h.few; some_thread = ltb-true 0 count parts.0; few_threads = leb-true count standard_limits.threads parts.1 }
    go None false e = tt
    go (Some earlier) b e = tt

shared_standard : (o : Options) → IsStandard o → IfSome (with_shared o) IsStandard
shared_standard o h = go o.print_shared
  where
    go : (b : Bool) → IfSome (if b then None else Some (record o { print_shared = true })) IsStandard
    go true = tt
    go false = record { few = h.few; some_thread = h.some_thread; few_threads = h.few_threads }

number_standard : (o : Options) (s : Setting) (word : List ℕ) → IsStandard o → IfSome (with_number o s word) IsStandard
number_standard o MaxConflicts word h = then_standard (with_limit o) (number_of word) (λ n. limit_standard o n h)
number_standard o MaxInput word h = then_standard (with_input o) (number_of word) (λ n. input_standard o n h)
number_standard o ThreadCount word h = then_standard (with_threads o) (number_of word) (λ n. threads_standard o n h)

one_standard : (b : Bool) (x y : Option Options) → IfSome x IsStandard → IfSome y IsStandard → IfSome (if b then x else y) IsStandard
one_standard true x y h k = h
one_standard false x y h k = k

word_standard : (o : Options) (word : List ℕ) → IsStandard o → IfSome (with_word o word) IsStandard
word_standard o word h =
    one_standard (bytes_eq word (codes "--print-shared")) _ _ (shared_standard o h)
    (one_standard (starts_with nat_eq word (codes "--maxconfl=")) _ _ (then_standard (with_limit o) (number_behind (codes "--maxconfl=") word) (λ n. limit_standard o n h))
    (one_standard (starts_with nat_eq word (codes "--max-input=")) _ _ (then_standard (with_input o) (number_behind (codes "--max-input=") word) (λ n. input_standard o n h))
    (then_standard (with_threads o) (number_behind (codes "--threads=") word) (λ n. threads_standard o n h))))

settled_standard : (x : Option Options) → IfSome x IsStandard → IfSome (option_map settled x) (λ c. IsStandard c.options)
settled_standard None h = tt
settled_standard (Some o) h = h

chosen_standard : (c : Chosen) (word : List ℕ) → IsStandard c.options → IfSome (chosen_with c word) (λ d. IsStandard d.options)
chosen_standard c word h = go c.named (setting_of word)
  where
    go : (named found : Option Setting) → IfSome (elim named [
      | Some setting ↦ option_map settled (with_number c.options setting word)
      | None ↦ elim found [
        | Some setting ↦ Some (record c { named = Some setting })
        | None ↦ option_map settled (with_word c.options word)
      ]
    ]) (λ d. IsStandard d.options)
    go (Some setting) found = settled_standard (with_number c.options setting word) (number_standard c.options setting word h)
    go None (Some setting) = h
    go None None = settled_standard (with_word c.options word) (word_standard c.options word h)

after_standard : (c : Chosen) (words : List (List ℕ)) → IsStandard c.options → IfSome (options_after c words) IsStandard
after_standard c [] h = go c.named
  where
    go : (named : Option Setting) → IfSome (elim named [ None ↦ Some c.options | Some setting ↦ None ]) IsStandard
    go None = h
    go (Some setting) = tt
after_standard c (word ∷ words) h = go (λ d k. after_standard d words k) (chosen_with c word) (chosen_standard c word h)
  where
    go : ((d : Chosen) → IsStandard d.options → IfSome (options_after d words) IsStandard) → (x : Option Chosen) → IfSome x (λ d. IsStandard d.options) → IfSome (option_and_then (λ next. options_after next words) x) IsStandard
    go on None k = tt
    go on (Some d) k = on d k

all_standard : (words : List (List ℕ)) (o : Options) → options_of words ≡ Some o → IsStandard o
all_standard words o e =
    let P : Option Options → Type 0 = λ x. IfSome x IsStandard in
    subst P e (after_standard (settled no_options) words (record { few = omega arith; some_thread = omega arith; few_threads = omega arith }))

-- whatever the words, a text has at most as many bytes as the standard limit says
pub options_standard : (words : List (List ℕ)) (o : Options) → options_of words ≡ Some o → input_of o ≤ standard_limits.input
options_standard words o e = (all_standard words o e).few

-- and there is a thread, and no more than the standard limit says
pub options_threads : (words : List (List ℕ)) (o : Options) → options_of words ≡ Some o → (0 < threads_of o) × (threads_of o ≤ standard_limits.threads)
options_threads words o e = ((all_standard words o e).some_thread, (all_standard words o e).few_threads)

-- the number of threads that was chosen, or else one
pub threads_given : (o : Options) → unwrap_or o.threads 1 ≡ threads_of o
threads_given o = go o.threads
  where
    go : (threads : Option ℕ) → unwrap_or threads 1 ≡ elim threads [ None ↦ 1 | Some count ↦ count ]
    go None = refl
    go (Some count) = refl
