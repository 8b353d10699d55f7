-- Facts on clauses over any kind of literal `L` and any truth `L → Bool`.
use Rattle.std.proofs.Common.{◌≡◌, ℕ, Bool, true, false, not, cond, ◌&&◌, ◌||◌, ◌==◌, List, [], ◌∷◌, ◌++◌, map, filter, refl, sym, ap, ap₂, ◌∙◌}
use Rattle.std.specs.Bool.{beq}
use Rattle.std.specs.List.{list_all, list_any}
use Rattle.std.proofs.lemmas.Bool.{and_parts, and_from, or_left, or_right, not-true, false≢true, eq-eqb, eqb-true}
use Rattle.std.proofs.lemmas.List.Folds.{list_all-append, list_any-append}
use Rattle.sat_lits.specs.ListLaws.{any_mono, all_or_any, any_agree, all_agree, any_map, any_filter, all_filter}
use Rattle.sat_lits.specs.Truth.{signed, clause_value, clauses_value, with_value}

-- twice negated by two signs is once negated by their sum
pub signed-signed : (a b value : Bool) → signed (signed a b) value ≡ signed a (signed b value)
signed-signed true true true = refl
signed-signed true true false = refl
signed-signed true false value = refl
signed-signed false b value = refl

-- a sign taken twice is none
pub signed_twice : (negative value : Bool) → signed negative (signed negative value) ≡ value
signed_twice true true = refl
signed_twice true false = refl
signed_twice false value = refl

-- the opposite sign gives the opposite value
pub signed_not : (negative value : Bool) → signed (not negative) value ≡ not (signed negative value)
signed_not true true = refl
signed_not true false = refl
signed_not false value = refl

-- the opposite value has the opposite signed value
pub signed-not : (negative value : Bool) → signed negative (not value) ≡ not (signed negative value)
signed-not true value = refl
signed-not false value = refl

-- the order of two signs is free
pub signed_comm : (a b value : Bool) → signed a (signed b value) ≡ signed b (signed a value)
signed_comm true true value = refl
signed_comm true false value = refl
signed_comm false b value = refl

-- signs that the test calls equal are
pub beq_true : (a b : Bool) → beq a b ≡ true → a ≡ b
beq_true true true e = refl
beq_true true false e = sym e
beq_true false true e = e
beq_true false false e = refl

-- signs that it calls different are opposite
pub beq_false : (a b : Bool) → not (beq a b) ≡ true → b ≡ not a
beq_false true true e = sym e
beq_false true false e = refl
beq_false false true e = refl
beq_false false false e = e

-- two literals of one variable and one sign have one value
pub signed_same : {L : Type 0} (of : L → ℕ) (sign : L → Bool) (w : ℕ → Bool) (k l : L) → (of k == of l && beq (sign k) (sign l)) ≡ true → signed (sign k) (w (of k)) ≡ signed (sign l) (w (of l))
signed_same of sign w k l e =
    let p : ((of k == of l) ≡ true) × (beq (sign k) (sign l) ≡ true) = and_parts _ _ e in
    ap₂ signed (beq_true (sign k) (sign l) p.1) (ap w (eqb-true (of k) (of l) p.0))

-- two literals of one variable and opposite signs have opposite values
pub signed_opposite : {L : Type 0} (of : L → ℕ) (sign : L → Bool) (w : ℕ → Bool) (k l : L) → (of k == of l && not (beq (sign k) (sign l))) ≡ true
    → signed (sign l) (w (of l)) ≡ not (signed (sign k) (w (of k)))
signed_opposite of sign w k l e =
    let p : ((of k == of l) ≡ true) × (not (beq (sign k) (sign l)) ≡ true) = and_parts _ _ e in
    ap₂ signed (beq_false (sign k) (sign l) p.1) (ap w (sym (eqb-true (of k) (of l) p.0))) ∙ signed_not (sign k) (w (of k))

-- two clauses joined are true where one is
pub clause_value-append : {L : Type 0} (truth : L → Bool) (c d : List L) → clause_value truth (c ++ d) ≡ (clause_value truth c || clause_value truth d)
clause_value-append truth c d = list_any-append truth c d

-- a clause in other literals has the value of what they stand for
pub clause_value-map : {L K : Type 0} (truth : K → Bool) (f : L → K) (c : List L) → clause_value truth (map f c) ≡ clause_value (λ l. truth (f l)) c
clause_value-map truth f c = any_map truth f c

-- two truths that agree on the literals of a clause give it one value
pub clause_value_agree : {L : Type 0} (stands : L → Bool) (s t : L → Bool) → ((l : L) → stands l ≡ true → s l ≡ t l) → (c : List L) → list_all stands c ≡ true → clause_value s c ≡ clause_value t c
clause_value_agree stands s t h c e = any_agree stands s t h c e

-- a literal that the test finds in a clause makes it true where it is true
pub clause_value_found : {L : Type 0} (truth found : L → Bool) → ((l : L) → found l ≡ true → truth l ≡ true) → (c : List L) → list_any found c ≡ true → clause_value truth c ≡ true
clause_value_found truth found h c e = any_mono found truth h c e

-- a clause all of whose literals are false is false
pub clause_value_none : {L : Type 0} (truth : L → Bool) (c : List L) → list_all (λ l. not (truth l)) c ≡ true → clause_value truth c ≡ false
clause_value_none truth [] e = refl
clause_value_none truth (l ∷ c) e =
    let a : (not (truth l) ≡ true) × (list_all (λ k. not (truth k)) c ≡ true) = and_parts _ _ e in
    ap (λ b. b || clause_value truth c) (not-true (truth l) a.0) ∙ clause_value_none truth c a.1

module _ {L : Type 0} (same : L → L → Bool) (truth : L → Bool) (keeps : (k l : L) → same k l ≡ true → truth k ≡ truth l) where
  -- a literal that stands in a clause makes it true where it is true
  pub clause_value_stands : (k : L) (c : List L) → list_any (same k) c ≡ true → truth k ≡ true → clause_value truth c ≡ true
  clause_value_stands k c e t = clause_value_found truth (same k) (λ l f. sym (keeps k l f) ∙ t) c e

  -- a clause all of whose literals stand in another implies it
  pub clause_value_within : (c d : List L) → list_all (λ l. list_any (same l) d) c ≡ true → clause_value truth c ≡ true → clause_value truth d ≡ true
  clause_value_within c d e t = all_or_any (λ l. list_any (same l) d) truth (clause_value truth d ≡ true) c e t (λ l f g. clause_value_stands l d f g)

  -- two clauses of the same literals have one value, whichever repeats they have
  pub clause_value_merged : (c d : List L) → list_all (λ l. list_any (same l) d) c ≡ true → list_all (λ l. list_any (same l) c) d ≡ true → clause_value truth c ≡ clause_value truth d
  clause_value_merged c d e f = both (clause_value truth c) (clause_value truth d) (clause_value_within c d e) (clause_value_within d c f)
    where
      both : (a b : Bool) → (a ≡ true → b ≡ true) → (b ≡ true → a ≡ true) → a ≡ b
      both true b g h = sym (g refl)
      both false true g h = h refl
      both false false g h = refl

  -- a literal that stands in a clause adds nothing in front
  pub clause_value_repeat : (k : L) (c : List L) → list_any (same k) c ≡ true → clause_value truth (k ∷ c) ≡ clause_value truth c
  clause_value_repeat k c e = go (truth k) refl
    where
      go : (b : Bool) → truth k ≡ b → (b || clause_value truth c) ≡ clause_value truth c
      go true t = sym (clause_value_stands k c e t)
      go false t = refl

  -- and nothing at the end
  pub clause_value_repeat_push : (k : L) (c : List L) → list_any (same k) c ≡ true → clause_value truth (c ++ k ∷ []) ≡ clause_value truth c
  clause_value_repeat_push k c e = clause_value-append truth c (k ∷ []) ∙ go (truth k) (clause_value truth c) (clause_value_stands k c e)
    where
      go : (b v : Bool) → (b ≡ true → v ≡ true) → (v || (b || false)) ≡ v
      go b true h = refl
      go true false h = sym (h refl)
      go false false h = refl

-- clauses joined are true where both parts are
pub clauses_value-append : {L : Type 0} (truth : L → Bool) (cs ds : List (List L)) → clauses_value truth (cs ++ ds) ≡ (clauses_value truth cs && clauses_value truth ds)
clauses_value-append truth cs ds = list_all-append (clause_value truth) cs ds

-- clauses in other literals have the value of what those stand for
pub clauses_value-map : {L K : Type 0} (truth : K → Bool) (f : L → K) (cs : List (List L)) → clauses_value truth (map (map f) cs) ≡ clauses_value (λ l. truth (f l)) cs
clauses_value-map truth f [] = refl
clauses_value-map truth f (c ∷ cs) = ap₂ ◌&&◌ (clause_value-map truth f c) (clauses_value-map truth f cs)

-- two truths that agree on the literals of all clauses give them one value
pub clauses_value_agree : {L : Type 0} (stands : L → Bool) (s t : L → Bool) → ((l : L) → stands l ≡ true → s l ≡ t l) → (cs : List (List L)) → list_all (list_all stands) cs ≡ true → clauses_value s cs ≡ clauses_value t cs
clauses_value_agree stands s t h cs e = all_agree (list_all stands) (clause_value s) (clause_value t) (clause_value_agree stands s t h) cs e

-- some of the true clauses are true
pub clauses_value_filter : {L : Type 0} (truth : L → Bool) (keep : List L → Bool) (cs : List (List L)) → clauses_value truth cs ≡ true → clauses_value truth (filter keep cs) ≡ true
clauses_value_filter truth keep cs e = all_filter (clause_value truth) keep (clause_value truth) (λ c t k. t) cs e

-- a conjunction may be put into the first of two
and_left_in : (v a r : Bool) → (v && (a && r)) ≡ ((v && a) && r)
and_left_in true a r = refl
and_left_in false a r = refl

-- or into the second
and_right_in : (v a r : Bool) → (v && (a && r)) ≡ (a && (v && r))
and_right_in true a r = refl
and_right_in false true r = refl
and_right_in false false r = refl

-- clauses are true where those that pass a test and those that do not are
pub clauses_value-filter : {L : Type 0} (truth : L → Bool) (keep : List L → Bool) (cs : List (List L)) → clauses_value truth cs ≡ (clauses_value truth (filter keep cs) && clauses_value truth (filter (λ c. not (keep c)) cs))
clauses_value-filter truth keep [] = refl
clauses_value-filter {L = L} truth keep (c ∷ cs) = ap (λ b. clause_value truth c && b) (clauses_value-filter truth keep cs) ∙ go (keep c) (filter keep cs) (filter (λ d. not (keep d)) cs)
  where
    go : (b : Bool) (kept others : List (List L)) → (clause_value truth c && (clauses_value truth kept && clauses_value truth others)) ≡ (clauses_value truth (cond b (c ∷ kept) kept) && clauses_value truth (cond (not b) (c ∷ others) others))
    go true kept others = and_left_in (clause_value truth c) (clauses_value truth kept) (clauses_value truth others)
    go false kept others = and_right_in (clause_value truth c) (clauses_value truth kept) (clauses_value truth others)

-- a true clause stays true without literals that are false
pub clause_value_without : {L : Type 0} (truth : L → Bool) (gone : L → Bool) → ((l : L) → gone l ≡ true → truth l ≡ false) → (c : List L) → clause_value truth c ≡ true → clause_value truth (filter (λ l. not (gone l)) c) ≡ true
clause_value_without truth gone h c e =
    any_filter truth (λ l. not (gone l)) c (any_mono truth (λ l. truth l && not (gone l)) (λ l t. and_from (truth l) (not (gone l)) t (stays (gone l) (truth l) (h l) t)) c e)
  where
    stays : (g t : Bool) → (g ≡ true → t ≡ false) → t ≡ true → not g ≡ true
    stays true t h e = absurd (false≢true (sym (h refl) ∙ e))
    stays false t h e = refl

-- the resolvent of two true clauses is true: the literals left out have one value in the first clause and the opposite in the second
pub resolvent_value : {L : Type 0} (truth : L → Bool) (first second : L → Bool) (value : Bool) → ((l : L) → first l ≡ true → truth l ≡ value) → ((l : L) → second l ≡ true → truth l ≡ not value) → (c d : List L)
    → clause_value truth c ≡ true → clause_value truth d ≡ true → clause_value truth (filter (λ l. not (first l)) c ++ filter (λ l. not (second l)) d) ≡ true
resolvent_value truth first second true f s c d e g =
    clause_value-append truth (filter (λ l. not (first l)) c) (filter (λ l. not (second l)) d)
    ∙ or_right (clause_value truth (filter (λ l. not (first l)) c)) (clause_value truth (filter (λ l. not (second l)) d)) (clause_value_without truth second s d g)
resolvent_value truth first second false f s c d e g =
    clause_value-append truth (filter (λ l. not (first l)) c) (filter (λ l. not (second l)) d)
    ∙ or_left (clause_value truth (filter (λ l. not (first l)) c)) (clause_value truth (filter (λ l. not (second l)) d)) (clause_value_without truth first f c e)

-- a changed valuation has the new value at its variable
pub with_value_same : (w : ℕ → Bool) (var : ℕ) (value : Bool) → with_value w var value var ≡ value
with_value_same w var value = ap (λ b. cond b value (w var)) (eq-eqb var var refl)

-- and the old one at each other variable
pub with_value_other : (w : ℕ → Bool) (var : ℕ) (value : Bool) (n : ℕ) → (n == var) ≡ false → with_value w var value n ≡ w n
with_value_other w var value n e = ap (λ b. cond b value (w n)) e

-- a clause none of whose literals is of the changed variable keeps its value
pub clause_value_elsewhere : {L : Type 0} (of : L → ℕ) (sign : L → Bool) (w : ℕ → Bool) (var : ℕ) (value : Bool) (c : List L) → list_all (λ l. not (of l == var)) c ≡ true
    → clause_value (λ l. signed (sign l) (with_value w var value (of l))) c ≡ clause_value (λ l. signed (sign l) (w (of l))) c
clause_value_elsewhere of sign w var value c e =
    clause_value_agree (λ l. not (of l == var)) (λ l. signed (sign l) (with_value w var value (of l))) (λ l. signed (sign l) (w (of l)))
    (λ l h. ap (signed (sign l)) (with_value_other w var value (of l) (not-true (of l == var) h))) c e
