-- What a turn gives follows, and keeps the log legal.
use Rattle.std.proofs.Common.{◌≡◌, ℕ, suc, ◌+◌, ◌≤◌, nat_lt, Bool, true, false, cond, ◌||◌, List, [], ◌∷◌, ◌++◌, map, take, get_or, Some, length, refl, sym, ap, ap₂, subst, ◌∙◌, arith, length-append, append_assoc, append-nil, take_all}
use Rattle.std.proofs.lemmas.Bool.{and_parts, or_left, and_from, ltb-true, lt-ltb}
use Rattle.std.proofs.lemmas.List.{get_or_append_left, take-append-le, map-append}
use Rattle.std.proofs.lemmas.List.Folds.{list_all-append, list_all-map}
use Rattle.std.proofs.lemmas.List.Elements.{All-push, All-weaker, All-head, All-tail, All-nil, All-cons}
use Rattle.std.proofs.lemmas.List.Quantifiers.{all_pairs_push}
use Rattle.std.proofs.lemmas.Option.{slice_get_within, get_or_from_slice_get}
use Rattle.std.specs.List.{All, AllPairs, list_all, slice_get}
use Rattle.sat_lits.specs.Truth.{clause_value}
use Rattle.sat_lits.specs.ListLaws.{all_from_get, all_get, all_at, any_agree}
use Rattle.sat_lits.specs.LogLaws.{push_is_legal}
use Rattle.sat_lits.specs.Meaning.{Problem, Follows, IsModel, is_true, satisfies, satisfies_clause}
use Rattle.sat_lits.specs.Logs.{IsShareable, IsLegalLog, with_clauses}
use Rattle.sat_lits.specs.declared.literal.Lit.{Lit}
use Rattle.sat_lits.specs.declared.literal.OwnLit.{OwnLit}
use Rattle.sat_lits.specs.declared.formula.Item.TheVariants.{Clause}
use Rattle.sat_lits.specs.declared.shared.Shared.{Shared}
use Rattle.rebuild_stack.specs.Values.{values_of, own_value}
use Rattle.rebuild_stack.specs.declared.entry.Entry.TheVariants.{Fix}
use Rattle.share_store.specs.Log.{LacksClause, entry_of}
use Rattle.state_laws.specs.State.{State, outer_count, outer_part, to_own, problem_of, widen}
use Rattle.state_laws.specs.Stands.{Stands}
use Rattle.state_laws.specs.Theorems.{Fits, Confirms}
use Rattle.state_laws.specs.TakeLaws.{outer_own}
use Rattle.state_laws.specs.WidenLaws.{widened_outer, widened_confirm}
use Rattle.sync_laws.specs.Steps.{StandsIn, IsTurn, IsOuter, in_order}

-- a model of the formula with the log's clauses is one with the clauses of entries that stand in the log
fewer_clauses : (f : Problem) (log have : List Shared) → All (StandsIn log) have → (values : List Bool) → IsModel (with_clauses f log) values → IsModel (with_clauses f have) values
fewer_clauses f log have h values m =
    let p : (list_all (satisfies values) f.items ≡ true) × (list_all (satisfies values) (map (λ (e : Shared). Clause e.clause) log) ≡ true) =
    and_parts _ _ (sym (list_all-append (satisfies values) f.items (map (λ (e : Shared). Clause e.clause) log)) ∙ m.holds) in
    let q : list_all (λ (e : Shared). satisfies_clause values e.clause) log ≡ true = sym (list_all-map (satisfies values) (λ (e : Shared). Clause e.clause) log) ∙ p.1 in
    record {
      whole = m.whole;
      holds = list_all-append (satisfies values) f.items (map (λ (e : Shared). Clause e.clause) have)
          ∙ and_from _ _ p.0 (list_all-map (satisfies values) (λ (e : Shared). Clause e.clause) have
          ∙ all_from_get (λ (e : Shared). satisfies_clause values e.clause) have (λ i e g. one q e (subst (StandsIn log) (get_or_from_slice_get have i e e g) (h i e (slice_get_within have i e g)))));
    }
  where
    one : list_all (λ (e : Shared). satisfies_clause values e.clause) log ≡ true → (e : Shared) → StandsIn log e → satisfies_clause values e.clause ≡ true
    one q e (k, x, w, g, r) = ap (λ (z : Shared). satisfies_clause values z.clause) (sym (g ∙ r)) ∙ all_at (λ (z : Shared). satisfies_clause values z.clause) log k x w q

legal_given : (f : Problem) (solver n : ℕ) (log : List Shared) (given : List (List Lit)) → IsLegalLog f log → n ≤ length log → All (IsShareable f.vars) given → All (LacksClause log) given → AllPairs (λ c d. c ≡ d → ⊥) given
    → All (Follows (with_clauses f (take n log))) given → IsLegalLog f (log ++ map (entry_of solver n) given)
legal_given f solver n log [] h l s a p w = subst (IsLegalLog f) (sym (append-nil log)) h
legal_given f solver n log (c ∷ given) h l s a p w =
    let e : Shared = entry_of solver n c in
    let next : IsLegalLog f (log ++ e ∷ []) =
    push_is_legal f log e h (record { earlier = l; follows = All-head (Follows (with_clauses f (take n log))) c given w; shareable = All-head (IsShareable f.vars) c given s }) (All-head (LacksClause log) c given a) in
    subst (IsLegalLog f) (append_assoc log (e ∷ []) (map (entry_of solver n) given))
    (legal_given f solver n (log ++ e ∷ []) given next (let m : length (log ++ e ∷ []) ≡ length log + 1 = length-append log (e ∷ []) in omega arith) (All-tail (IsShareable f.vars) c given s)
    (λ k d i. All-push (λ (x : Shared). x.clause ≡ get_or given k d → ⊥) log e (All-tail (LacksClause log) c given a k d i) (p 0 (suc k) d (omega arith) (omega arith)))
    (λ i j d b i'. p (suc i) (suc j) d (omega arith) (omega arith))
    (subst (λ (z : List Shared). All (Follows (with_clauses f z)) given) (sym (take-append-le n log (e ∷ []) l)) (All-tail (Follows (with_clauses f (take n log))) c given w)))

-- a turn on a legal log leaves a legal log, where all that the solver has stands in the log
pub turn_legal : (f : Problem) (solver : ℕ) (had log have now : List Shared) → IsLegalLog f log → All (StandsIn log) have → IsTurn f solver had log have now → IsLegalLog f now
turn_legal f solver had log have now h a t =
    subst (IsLegalLog f) (sym t.gave)
    (legal_given f solver (length log) log t.given h (omega arith) t.shareable t.fresh t.once
    (All-weaker (Follows (with_clauses f have)) (Follows (with_clauses f (take (length log) log))) (λ c g values m. g values (fewer_clauses f log have a values (subst (λ (z : List Shared). IsModel (with_clauses f z) values) (take_all (length log) log (omega arith)) m))) t.given t.follow))

-- a turn that takes alone
pub turn_taken : (f : Problem) (solver : ℕ) (had log have taken : List Shared) → have ≡ had ++ taken → All (StandsIn log) taken → IsTurn f solver had log have log
turn_taken f solver had log have taken e a =
    record { taken = taken; given = []; took = e; stand = a; gave = sym (append-nil log); shareable = All-nil (IsShareable f.vars); fresh = All-nil (LacksClause log); once = λ i j d b h. absurd (omega arith); follow = All-nil (Follows (with_clauses f have)) }

lacks_front : (log more : List Shared) (c : List Lit) → LacksClause (log ++ more) c → LacksClause log c
lacks_front log more c h k d w = λ e. h k d (let l : length (log ++ more) ≡ length log + length more = length-append log more in omega arith) (ap (λ (x : Shared). x.clause) (get_or_append_left log more d k w) ∙ e)

lacks_given : (solver n : ℕ) (log : List Shared) (given : List (List Lit)) (c : List Lit) → LacksClause (log ++ map (entry_of solver n) given) c → All (λ g. g ≡ c → ⊥) given
lacks_given solver n log [] c h = All-nil (λ g. g ≡ c → ⊥)
lacks_given solver n log (g ∷ given) c h =
    All-cons (λ x. x ≡ c → ⊥) g given (last log (entry_of solver n g) (map (entry_of solver n) given) h)
    (lacks_given solver n (log ++ entry_of solver n g ∷ []) given c (subst (λ (z : List Shared). LacksClause z c) (sym (append_assoc log (entry_of solver n g ∷ []) (map (entry_of solver n) given))) h))
  where
    last : (xs : List Shared) (e : Shared) (ys : List Shared) → LacksClause (xs ++ e ∷ ys) c → e.clause ≡ c → ⊥
    last [] e ys q = All-head (λ (x : Shared). x.clause ≡ c → ⊥) e ys q
    last (x ∷ xs) e ys q = last xs e ys (All-tail (λ (z : Shared). z.clause ≡ c → ⊥) x (xs ++ e ∷ ys) q)

-- one more clause is given
pub turn_more : (f : Problem) (solver : ℕ) (had log have now : List Shared) (c : List Lit) → IsShareable f.vars c → Follows (with_clauses f have) c → LacksClause now c → IsTurn f solver had log have now
    → IsTurn f solver had log have (now ++ entry_of solver (length log) c ∷ [])
turn_more f solver had log have now c s w l t =
    let a : LacksClause (log ++ map (entry_of solver (length log)) t.given) c = subst (λ (z : List Shared). LacksClause z c) t.gave l in
    record {
      taken = t.taken;
      given = t.given ++ c ∷ [];
      took = t.took;
      stand = t.stand;
      gave = ap (λ (z : List Shared). z ++ entry_of solver (length log) c ∷ []) t.gave
          ∙ (append_assoc log (map (entry_of solver (length log)) t.given) (entry_of solver (length log) c ∷ []) ∙ ap (λ (z : List Shared). log ++ z) (sym (map-append (entry_of solver (length log)) t.given (c ∷ []))));
      shareable = All-push (IsShareable f.vars) t.given c t.shareable s;
      fresh = All-push (LacksClause log) t.given c t.fresh (lacks_front log (map (entry_of solver (length log)) t.given) c a);
      once = all_pairs_push (λ (g d : List Lit). g ≡ d → ⊥) t.given c t.once (lacks_given solver (length log) log t.given c a);
      follow = All-push (Follows (with_clauses f have)) t.given c t.follow w;
    }

-- an outer clause whose own literals are true wherever all holds that the state says follows from what it took
pub offered_follows : (s : State) (c : List Lit) → Stands s → list_all (λ l. nat_lt l.var.0 (outer_count s.definitions)) c ≡ true
    → ((w : ℕ → Bool) → Confirms s w → clause_value (λ l. own_value w (to_own s.definitions l)) c ≡ true) → Follows (with_clauses (problem_of s) s.entries) c
offered_follows s c h k own values m =
    let p : (list_all (satisfies values) s.items ≡ true) × (list_all (satisfies values) (map (λ (e : Shared). Clause e.clause) s.entries) ≡ true) =
    and_parts _ _ (sym (list_all-append (satisfies values) s.items (map (λ (e : Shared). Clause e.clause) s.entries)) ∙ m.holds) in
    let fits : Fits s values = record { model = record { whole = m.whole; holds = p.0 }; entries = sym (list_all-map (satisfies values) (λ (e : Shared). Clause e.clause) s.entries) ∙ p.1 } in
    let w : ℕ → Bool = values_of (widen values s.definitions) in
    let back : outer_part s.definitions w ≡ values = widened_outer values s.definitions m.whole in
    any_agree (λ (l : Lit). nat_lt l.var.0 (outer_count s.definitions)) (is_true values) (λ l. own_value w (to_own s.definitions l))
    (λ l e. ap (λ (z : List Bool). is_true z l) (sym back) ∙ outer_own s.definitions w l (ltb-true _ _ e)) c k
    ∙ own w (widened_confirm s h values fits)

-- a fixed literal of an outer variable follows
pub fixed_follows : (s : State) (at : ℕ) (l : Lit) (own : OwnLit) → Stands s → slice_get s.stack at ≡ Some (Fix own) → IsOuter s l own → Follows (with_clauses (problem_of s) s.entries) (l ∷ [])
fixed_follows s at l own h g o =
    offered_follows s (l ∷ []) h (and_from _ _ (lt-ltb _ _ o.there) refl) (λ w c. or_left _ _ (ap (own_value w) o.own ∙ c.fixed at own g))

-- a learned clause of two literals of outer variables follows, in the order of the variables
pub binary_follows : (s : State) (at : ℕ) (k l : Lit) (first second : OwnLit) → Stands s → slice_get s.learned at ≡ Some (first ∷ second ∷ []) → IsOuter s k first → IsOuter s l second → Follows (with_clauses (problem_of s) s.entries) (in_order k l)
binary_follows s at k l first second h g o p =
    offered_follows s (in_order k l) h (there (nat_lt k.var.0 l.var.0)) (λ w c. true_in w (nat_lt k.var.0 l.var.0) (all_get (clause_value (own_value w)) s.learned at (first ∷ second ∷ []) g c.learned))
  where
    there : (b : Bool) → list_all (λ (x : Lit). nat_lt x.var.0 (outer_count s.definitions)) (cond b (k ∷ l ∷ []) (l ∷ k ∷ [])) ≡ true
    there true = and_from _ _ (lt-ltb _ _ o.there) (and_from _ _ (lt-ltb _ _ p.there) refl)
    there false = and_from _ _ (lt-ltb _ _ p.there) (and_from _ _ (lt-ltb _ _ o.there) refl)

    swap : (a b : Bool) → (a || (b || false)) ≡ true → (b || (a || false)) ≡ true
    swap true true e = refl
    swap true false e = refl
    swap false true e = refl
    swap false false e = e

    true_in : (w : ℕ → Bool) (b : Bool) → (own_value w first || (own_value w second || false)) ≡ true → clause_value (λ x. own_value w (to_own s.definitions x)) (cond b (k ∷ l ∷ []) (l ∷ k ∷ [])) ≡ true
    true_in w true e = ap₂ (λ (x y : OwnLit). own_value w x || (own_value w y || false)) o.own p.own ∙ e
    true_in w false e = ap₂ (λ (x y : OwnLit). own_value w x || (own_value w y || false)) p.own o.own ∙ swap (own_value w first) (own_value w second) e
