-- Facts on legal logs of shared clauses.
use Rattle.std.proofs.Common.{◌≡◌, ◌⊎◌, inl, inr, ℕ, zero, suc, ◌<◌, ◌≤◌, Bool, true, List, [], ◌∷◌, ◌++◌, length, map, take, get_or, nat_lt, min, Some, None, refl, sym, ap, subst, ◌∙◌, ⊎_elim, arith, add-one}
use Rattle.std.specs.List.{list_all, slice_get}
use Rattle.std.proofs.lemmas.Bool.{and_from, lt-ltb}
use Rattle.std.proofs.lemmas.List.{take_all, take-take, take_more, take-append-le, length-take, get_or-take}
use Rattle.std.proofs.lemmas.List.Folds.{list_all-append, list_all-map}
use Rattle.std.proofs.lemmas.List.Quantifiers.{all_pairs_push}
use Rattle.std.proofs.lemmas.List.Sums.{list_all-from_AllPass}
use Rattle.std.proofs.lemmas.Option.{slice_get_cases, slice_get_within, same_Some, none-some}
use Rattle.sat_lits.specs.ListLaws.{all_push, all_front}
use Rattle.sat_lits.specs.FollowLaws.{Follows_items, Follows_more}
use Rattle.sat_lits.specs.Meaning.{Problem, IsModel, Follows, satisfies, satisfies_clause}
use Rattle.sat_lits.specs.Formulas.{names_known}
use Rattle.sat_lits.specs.Logs.{IsShareable, IsLegalAt, IsLegalLog, with_clauses, EachFollows, StaysLegal, FrontIsLegal, PushIsLegal}
use Rattle.sat_lits.specs.declared.literal.Lit.{Lit}
use Rattle.sat_lits.specs.declared.shared.Shared.{Shared}
use Rattle.sat_lits.specs.declared.formula.Item.TheVariants.{Clause}

-- an entry of a front stands in the list
pub slice_get-take : {X : Type 0} (n : ℕ) (xs : List X) (i : ℕ) (x : X) → slice_get (take n xs) i ≡ Some x → (i < n) × (slice_get xs i ≡ Some x)
slice_get-take zero xs i x e = absurd (none-some x e)
slice_get-take (suc n) [] i x e = absurd (none-some x e)
slice_get-take (suc n) (y ∷ xs) zero x e = (omega arith, e)
slice_get-take (suc n) (y ∷ xs) (suc i) x e = let r : (i < n) × (slice_get xs i ≡ Some x) = slice_get-take n xs i x e in (omega (arith, r.0), r.1)

-- an entry of a list with one more at its end stands in the list, or is that one
pub slice_get-push : {X : Type 0} (xs : List X) (y : X) (i : ℕ) (x : X) → slice_get (xs ++ y ∷ []) i ≡ Some x → (slice_get xs i ≡ Some x) ⊎ ((i ≡ length xs) × (y ≡ x))
slice_get-push [] y zero x e = inr (refl, same_Some y x e)
slice_get-push [] y (suc i) x e = absurd (none-some x e)
slice_get-push (z ∷ xs) y zero x e = inl e
slice_get-push (z ∷ xs) y (suc i) x e = ⊎_elim (λ l. inl l) (λ (r : (i ≡ length xs) × (y ≡ x)). inr (ap suc r.0, r.1)) (slice_get-push xs y i x e)

-- an entry that may stand at a place is satisfied by each model that satisfies the entries before it
entry_holds : (f : Problem) (log : List Shared) (place : ℕ) (entry : Shared) → IsLegalAt f log place entry → (values : List Bool) → IsModel f values
    → list_all (λ (e : Shared). satisfies_clause values e.clause) (take place log) ≡ true → satisfies_clause values entry.clause ≡ true
entry_holds f log place entry legal values m before =
    legal.follows values
    (record {
      whole = m.whole;
      holds = list_all-append (satisfies values) f.items (map (λ (e : Shared). Clause e.clause) (take entry.after log))
          ∙ and_from _ _ m.holds (list_all-map (satisfies values) (λ (e : Shared). Clause e.clause) (take entry.after log) ∙ named);
    })
  where
    named : list_all (λ (e : Shared). satisfies_clause values e.clause) (take entry.after log) ≡ true
    named =
        ap (list_all (λ (e : Shared). satisfies_clause values e.clause)) (sym (take-take entry.after place log legal.earlier))
        ∙ all_front (λ (e : Shared). satisfies_clause values e.clause) entry.after (take place log) before

-- each model of the formula satisfies the clauses of each front of a legal log
pub front_holds : (f : Problem) (log : List Shared) → IsLegalLog f log → (values : List Bool) → IsModel f values → (count : ℕ) → list_all (λ (e : Shared). satisfies_clause values e.clause) (take count log) ≡ true
front_holds f log legal values m zero = refl
front_holds f log legal values m (suc count) = step (slice_get_cases log count).1 (front_holds f log legal values m count)
  where
    step : ((entry : Shared) × (count < length log) × (slice_get log count ≡ Some entry) × (get_or log count entry ≡ entry)) ⊎ ((length log ≤ count) × (slice_get log count ≡ None))
        → list_all (λ (e : Shared). satisfies_clause values e.clause) (take count log) ≡ true → list_all (λ (e : Shared). satisfies_clause values e.clause) (take (suc count) log) ≡ true
    step (inl (entry, within, stands, same)) before =
        ap (list_all (λ (e : Shared). satisfies_clause values e.clause)) (ap (λ n. take n log) (sym (add-one count)) ∙ (take_more log count entry within ∙ ap (λ e. take count log ++ e ∷ []) same))
        ∙ all_push (λ (e : Shared). satisfies_clause values e.clause) (take count log) entry before (entry_holds f log count entry (legal.each count entry stands) values m before)
    step (inr (past, none)) before =
        ap (list_all (λ (e : Shared). satisfies_clause values e.clause)) (take_all (suc count) log (omega arith) ∙ sym (take_all count log past)) ∙ before

-- each clause of a legal log follows from the formula alone, by induction on the places before it
pub each_follows : EachFollows
each_follows f log legal place entry stands values m = entry_holds f log place entry (legal.each place entry stands) values m (front_holds f log legal values m place)

-- a clause that may be shared names variables of the formula alone
pub shareable_known : (vars : ℕ) (lits : List Lit) → IsShareable vars lits → names_known vars (Clause lits) ≡ true
shareable_known vars lits s =
    list_all-map (λ n. nat_lt n vars) (λ (l : Lit). l.var.0) lits
    ∙ list_all-from_AllPass (λ (l : Lit). nat_lt l.var.0 vars) lits (λ k d h. lt-ltb _ _ (s.there k d h))

-- a clause may still be shared when there are more variables
pub shareable_more : (vars more : ℕ) (lits : List Lit) → vars ≤ more → IsShareable vars lits → IsShareable more lits
shareable_more vars more lits h s = record { some = s.some; few = s.few; there = λ k d l. omega (arith, s.there k d l, h); rising = s.rising }

-- each clause follows from the old formula alone, and so from the new one
pub stays_legal : StaysLegal
stays_legal old new log known extends legal =
    record {
      each = λ place entry stands.
          let at : IsLegalAt old log place entry = legal.each place entry stands in
          record {
            earlier = at.earlier;
            follows = Follows_items new (map (λ (e : Shared). Clause e.clause) (take entry.after log)) entry.clause
                (Follows_more old new entry.clause known extends (shareable_known old.vars entry.clause at.shareable) (each_follows old log legal place entry stands));
            shareable = shareable_more old.vars new.vars entry.clause extends.vars at.shareable;
          };
      once = legal.once;
    }

-- an entry that may stand at a place of one log may stand there in each log with the same entries before it
legal_along : (f : Problem) (log other : List Shared) (place : ℕ) (entry : Shared) → take entry.after log ≡ take entry.after other → IsLegalAt f log place entry → IsLegalAt f other place entry
legal_along f log other place entry same at = record { earlier = at.earlier; follows = subst (λ entries. Follows (with_clauses f entries) entry.clause) same at.follows; shareable = at.shareable }

-- an entry of the front names entries before it, which stand in the front
pub front_is_legal : FrontIsLegal
front_is_legal f log count legal =
    record {
      each = λ place entry stands.
          let was : (place < count) × (slice_get log place ≡ Some entry) = slice_get-take count log place entry stands in
          let at : IsLegalAt f log place entry = legal.each place entry was.1 in
          legal_along f log (take count log) place entry (sym (take-take entry.after count log (omega (arith, at.earlier, was.0)))) at;
      once = λ i j d below within.
          let short : j < min count (length log) = omega (arith, within, length-take count log) in
          let first : get_or (take count log) i d ≡ get_or log i d = get_or-take count log i d (omega arith) in
          let second : get_or (take count log) j d ≡ get_or log j d = get_or-take count log j d (omega arith) in
          λ e. legal.once i j d below (omega arith) (sym (ap (λ (s : Shared). s.clause) first) ∙ (e ∙ ap (λ (s : Shared). s.clause) second));
    }

-- the old entries see what they saw, and the new one stands at the end
pub push_is_legal : PushIsLegal
push_is_legal f log entry legal last fresh =
    record {
      each = λ place e stands. step place e (slice_get-push log entry place e stands);
      once = all_pairs_push (λ (d e : Shared). d.clause ≡ e.clause → ⊥) log entry legal.once fresh;
    }
  where
    earlier_same : (e : Shared) → e.after ≤ length log → take e.after log ≡ take e.after (log ++ entry ∷ [])
    earlier_same e h = sym (take-append-le e.after log (entry ∷ []) h)

    step : (place : ℕ) (e : Shared) → (slice_get log place ≡ Some e) ⊎ ((place ≡ length log) × (entry ≡ e)) → IsLegalAt f (log ++ entry ∷ []) place e
    step place e (inl stood) =
        let at : IsLegalAt f log place e = legal.each place e stood in
        let within : place < length log = slice_get_within log place e stood in
        legal_along f log (log ++ entry ∷ []) place e (earlier_same e (omega (arith, at.earlier))) at
    step place e (inr (here, same)) =
        let at : IsLegalAt f log (length log) e = subst (λ x. IsLegalAt f log (length log) x) same last in
        subst (λ p. IsLegalAt f (log ++ entry ∷ []) p e) (sym here) (legal_along f log (log ++ entry ∷ []) (length log) e (earlier_same e at.earlier) at)
