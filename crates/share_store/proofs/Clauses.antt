-- The set of clauses beside the log: what it tells, and what an insertion does.
use Rattle.std.proofs.Common.{◌≡◌, ◌≤◌, Bool, true, false, true≢false, ◌||◌, List, [], ◌∷◌, ◌++◌, length, get_or, Some, refl, sym, ap, ◌∙◌, ⊎_elim, arith}
use Rattle.std.specs.declared.cmp.Ordering.{Ordering}
use Rattle.std.specs.declared.cmp.Ordering.TheVariants.{Less, Equal, Greater}
use Rattle.std.specs.Ordering.{nat_cmp, bool_cmp, ordering_then, is_eq, match_ordering}
use Rattle.std.specs.Cmp.Lexicographic.{slice_cmp}
use Rattle.std.specs.BTreeSet.{insert_key}
use Rattle.std.specs.List.{list_any, slice_get}
use Rattle.std.proofs.lemmas.Cmp.{tied_itself, nat_cmp_total}
use Rattle.std.proofs.lemmas.Map.Lookups.{exact_unsigned}
use Rattle.std.proofs.lemmas.List.Folds.{Any-from_list_any, list_any_at, list_any-append}
use Rattle.std.proofs.lemmas.List.Elements.{All-push}
use Rattle.std.proofs.lemmas.List.Quantifiers.{all_pairs_push}
use Rattle.sat_lits.specs.LogLaws.{slice_get-push}
use Rattle.sat_lits.specs.declared.literal.Lit.{Lit}
use Rattle.sat_lits.specs.declared.shared.Shared.{Shared}
use Rattle.share_store.specs.Log.{CanBeShared, HasClause, LacksClause, IsKept}
use Rattle.share_store.specs.Inside.{lit_cmp, is_same}

both_equal : (o p : Ordering) → ordering_then o p ≡ Equal → (o ≡ Equal) × (p ≡ Equal)
both_equal Less p e = absurd (let h : Less ≡ Equal = e in let k : ⊥ = cc in k)
both_equal Equal p e = (refl, e)
both_equal Greater p e = absurd (let h : Greater ≡ Equal = e in let k : ⊥ = cc in k)

same_sign : (b c : Bool) → bool_cmp b c ≡ Equal → b ≡ c
same_sign true true e = refl
same_sign true false e = absurd (let k : ⊥ = cc in k)
same_sign false true e = absurd (let k : ⊥ = cc in k)
same_sign false false e = refl

sign_itself : (b : Bool) → bool_cmp b b ≡ Equal
sign_itself true = refl
sign_itself false = refl

-- literals that the order does not tell apart are one
lits_alike : (l m : Lit) → lit_cmp l m ≡ Equal → l ≡ m
lits_alike l m e =
    let parts : (nat_cmp l.var.0 m.var.0 ≡ Equal) × (bool_cmp l.negative m.negative ≡ Equal) = both_equal _ _ e in
    let number : l.var.0 ≡ m.var.0 = exact_unsigned _ _ parts.0 in
    let sign : l.negative ≡ m.negative = same_sign _ _ parts.1 in
    λ i. record { var = record { 0 = number i }; negative = sign i }

lit_itself : (l : Lit) → lit_cmp l l ≡ Equal
lit_itself l = ap (λ o. ordering_then o (bool_cmp l.negative l.negative)) (tied_itself nat_cmp_total l.var.0) ∙ sign_itself l.negative

-- and so are clauses
pub clauses_alike : (c d : List Lit) → slice_cmp lit_cmp c d ≡ Equal → c ≡ d
clauses_alike [] [] e = refl
clauses_alike [] (m ∷ ms) e = absurd (let k : ⊥ = cc in k)
clauses_alike (l ∷ ls) [] e = absurd (let k : ⊥ = cc in k)
clauses_alike (l ∷ ls) (m ∷ ms) e =
    let parts : (lit_cmp l m ≡ Equal) × (slice_cmp lit_cmp ls ms ≡ Equal) = both_equal _ _ e in
    let head : l ≡ m = lits_alike l m parts.0 in
    let tail : ls ≡ ms = clauses_alike ls ms parts.1 in
    λ i. head i ∷ tail i

clause_itself : (c : List Lit) → slice_cmp lit_cmp c c ≡ Equal
clause_itself [] = refl
clause_itself (l ∷ ls) = ap (λ o. ordering_then o (slice_cmp lit_cmp ls ls)) (lit_itself l) ∙ clause_itself ls

is_equal : (o : Ordering) → is_eq o ≡ true → o ≡ Equal
is_equal Less e = absurd (let k : ⊥ = cc in k)
is_equal Equal e = refl
is_equal Greater e = absurd (let k : ⊥ = cc in k)

-- the test of two clauses tells whether they are one
same_clause : (c d : List Lit) → is_same c d ≡ true → c ≡ d
same_clause c d e = clauses_alike c d (is_equal _ e)

same_itself : (c d : List Lit) → c ≡ d → is_same c d ≡ true
same_itself c d e = ap (λ x. is_same c x) (sym e) ∙ ap is_eq (clause_itself c)

-- where the test finds a clause, some entry has it
pub found : (log : List Shared) (clause : List Lit) → list_any (λ (e : Shared). is_same clause e.clause) log ≡ true → HasClause log clause
found log clause e =
    let any = Any-from_list_any (λ (s : Shared). is_same clause s.clause) log e in
    (any.0, any.1, any.2, any.3, sym (same_clause clause any.1.clause any.4))

-- and where it does not, none has
pub not_found : (log : List Shared) (clause : List Lit) → list_any (λ (e : Shared). is_same clause e.clause) log ≡ false → LacksClause log clause
not_found log clause e = λ k d within same.
    true≢false (sym (list_any_at (λ (s : Shared). is_same clause s.clause) log k d within (same_itself clause (get_or log k d).clause (sym same))) ∙ e)

-- no clause is both in the log and not
pub not_both : (log : List Shared) (clause : List Lit) → LacksClause log clause → HasClause log clause → ⊥
not_both log clause lacks has = lacks has.0 has.1 has.2 (ap (λ (s : Shared). s.clause) has.3 ∙ has.4)

swap : (a b c : Bool) → (a || (b || c)) ≡ (b || (a || c))
swap true true c = refl
swap true false c = refl
swap false true c = refl
swap false false c = refl

flip : (a b : Bool) → (a || b) ≡ (b || a)
flip true true = refl
flip true false = refl
flip false true = refl
flip false false = refl

-- an insertion adds its key to those that a test may find
module _ {K : Type 0} (f : K → List Lit) (R : K → K → Ordering) (exact : (x y : K) → R x y ≡ Equal → f x ≡ f y) (test : List Lit → Bool) where
  any_insert : (ks : List K) (k : K) → list_any (λ c. test (f c)) (insert_key R ks k) ≡ (test (f k) || list_any (λ c. test (f c)) ks)
  any_insert [] k = refl
  any_insert (x ∷ xs) k = step (any_insert xs k) (R k x) refl
    where
      again : (a b c : Bool) → a ≡ b → (b || c) ≡ (a || (b || c))
      again true b c same = ap (λ x. x || c) (sym same)
      again false b c same = refl

      step : list_any (λ c. test (f c)) (insert_key R xs k) ≡ (test (f k) || list_any (λ c. test (f c)) xs) → (o : Ordering) → R k x ≡ o
          → list_any (λ c. test (f c)) (match_ordering o (k ∷ x ∷ xs) (x ∷ xs) (x ∷ insert_key R xs k)) ≡ (test (f k) || (test (f x) || list_any (λ c. test (f c)) xs))
      step rest Less e = refl
      step rest Equal e = again (test (f k)) (test (f x)) (list_any (λ c. test (f c)) xs) (ap test (exact k x e))
      step rest Greater e = ap (λ b. test (f x) || b) rest ∙ swap (test (f x)) (test (f k)) (list_any (λ c. test (f c)) xs)

  -- where a log and a set agree on a test, they agree after both got one clause more
  pub still_indexed : (log : List Shared) (entry : Shared) (ks : List K) (k : K) → f k ≡ entry.clause
      → list_any (λ c. test (f c)) ks ≡ list_any (λ (e : Shared). test e.clause) log
      → list_any (λ c. test (f c)) (insert_key R ks k) ≡ list_any (λ (e : Shared). test e.clause) (log ++ entry ∷ [])
  still_indexed log entry ks k same agree =
      any_insert ks k ∙ (λ i. test (same i) || agree i) ∙ flip (test entry.clause) (list_any (λ (e : Shared). test e.clause) log)
      ∙ ap (λ b. list_any (λ (e : Shared). test e.clause) log || b) (flip false (test entry.clause))
      ∙ sym (list_any-append (λ (e : Shared). test e.clause) log (entry ∷ []))

-- what a log keeps it keeps with one entry more
pub still_kept : (log : List Shared) (entry : Shared) → IsKept log → CanBeShared entry.clause → entry.after ≤ length log → LacksClause log entry.clause → IsKept (log ++ entry ∷ [])
still_kept log entry kept form earlier fresh =
    record {
      form = All-push (λ (e : Shared). CanBeShared e.clause) log entry kept.form form;
      earlier = λ place e stands.
          ⊎_elim (λ (h : slice_get log place ≡ Some e). kept.earlier place e h)
          (λ (h : (place ≡ length log) × (entry ≡ e)). let same : e.after ≡ entry.after = ap (λ (s : Shared). s.after) (sym h.1) in omega (arith, h.0, same, earlier))
          (slice_get-push log entry place e stands);
      once = all_pairs_push (λ (d e : Shared). d.clause ≡ e.clause → ⊥) log entry kept.once fresh;
    }
