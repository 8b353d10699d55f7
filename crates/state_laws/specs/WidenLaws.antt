-- An outer assignment widened to all own variables agrees with their definitions.
use Rattle.std.proofs.Common.{◌≡◌, ℕ, suc, ◌+◌, ◌<◌, Bool, true, false, ltb, List, [], ◌∷◌, ◌++◌, Option, Some, None, refl, sym, ap, ap₂, subst, ◌∙◌, arith, length, get_or, map, drop, ltb-true}
use Rattle.std.proofs.lemmas.Bool.{and_parts, and_from, false≢true}
use Rattle.std.proofs.lemmas.List.{length_push, get_or_append_left, get_or_push}
use Rattle.std.specs.Bool.{beq}
use Rattle.std.specs.List.{list_all}
use Rattle.sat_lits.specs.Truth.{signed}
use Rattle.sat_lits.specs.ListLaws.{all_agree, all_get, all_from_get}
use Rattle.sat_lits.specs.Meaning.{satisfies, satisfies_clause}
use Rattle.sat_lits.specs.declared.literal.Own.{Own}
use Rattle.sat_lits.specs.declared.literal.OwnLit.{OwnLit}
use Rattle.sat_lits.specs.declared.shared.Shared.{Shared}
use Rattle.sat_lits.specs.ClauseLaws.{beq_true}
use Rattle.rebuild_stack.specs.Values.{values_of, own_value}
use Rattle.rebuild_stack.specs.Entries.{entry_value}
use Rattle.rebuild_stack.specs.declared.entry.Entry.TheVariants.{Fix, Equal, Gone}
use Rattle.state_laws.specs.declared.definition.Definition.{Definition}
use Rattle.state_laws.specs.declared.definition.Definition.TheVariants.{Xor, And}
use Rattle.state_laws.specs.State.{State, exclusive_or, defined_value, are_as_defined, outers_from, outer_count, outer_part, satisfies_entries, is_over_earlier, are_over_earlier, widen_from, widen}
use Rattle.state_laws.specs.Stands.{Accords, IsInRange}
use Rattle.state_laws.specs.Theorems.{Fits, WidenedConfirm, RebuiltIsModel, RefutedHasNoModel}

longer : (own : List Bool) (x : Bool) (k : ℕ) → k < length own → k < length (own ++ x ∷ [])
longer own x k h = let e : length (own ++ x ∷ []) ≡ length own + 1 = length_push own x in omega arith

-- own values that stand already stay
widen_keeps : (own outer : List Bool) (ds : List (Option Definition)) (k : ℕ) → k < length own → values_of (widen_from own outer ds) k ≡ values_of own k
widen_keeps own outer [] k h = refl
widen_keeps own outer (None ∷ ds) k h = widen_keeps (own ++ get_or outer 0 false ∷ []) (drop 1 outer) ds k (longer own _ k h) ∙ get_or_append_left own (get_or outer 0 false ∷ []) false k h
widen_keeps own outer (Some d ∷ ds) k h = widen_keeps (own ++ defined_value (values_of own) d ∷ []) outer ds k (longer own _ k h) ∙ get_or_append_left own (defined_value (values_of own) d ∷ []) false k h

widen_next : (own outer : List Bool) (x : Bool) (ds : List (Option Definition)) → values_of (widen_from (own ++ x ∷ []) outer ds) (length own) ≡ x
widen_next own outer x ds =
    widen_keeps (own ++ x ∷ []) outer ds (length own) (let e : length (own ++ x ∷ []) ≡ length own + 1 = length_push own x in omega arith) ∙ get_or_push own x false (length own) refl

one_more : (own : List Bool) (x : Bool) → length (own ++ x ∷ []) ≡ suc (length own)
one_more own x = let e : length (own ++ x ∷ []) ≡ length own + 1 = length_push own x in omega arith

keeps : (own outer : List Bool) (x : Bool) (ds : List (Option Definition)) (k : ℕ) → ltb k (length own) ≡ true → values_of (widen_from (own ++ x ∷ []) outer ds) k ≡ values_of own k
keeps own outer x ds k h = widen_keeps (own ++ x ∷ []) outer ds k (longer own x k (ltb-true _ _ h)) ∙ get_or_append_left own (x ∷ []) false k (ltb-true _ _ h)

exclusive_or_agree : (w u : ℕ → Bool) (n : ℕ) → ((k : ℕ) → ltb k n ≡ true → w k ≡ u k) → (vars : List Own) → list_all (λ v. ltb v.0 n) vars ≡ true → exclusive_or w vars ≡ exclusive_or u vars
exclusive_or_agree w u n h [] e = refl
exclusive_or_agree w u n h (v ∷ vars) e =
    let p : (ltb v.0 n ≡ true) × (list_all (λ (x : Own). ltb x.0 n) vars ≡ true) = and_parts _ _ e in
    ap₂ signed (h v.0 p.0) (exclusive_or_agree w u n h vars p.1)

-- values that agree on earlier variables give a definition one value
defined_agree : (w u : ℕ → Bool) (n : ℕ) → ((k : ℕ) → ltb k n ≡ true → w k ≡ u k) → (d : Definition) → is_over_earlier n (Some d) ≡ true → defined_value w d ≡ defined_value u d
defined_agree w u n h (Xor vars) e = exclusive_or_agree w u n h vars e
defined_agree w u n h (And lits) e = all_agree (λ (l : OwnLit). ltb l.var.0 n) (own_value w) (own_value u) (λ l q. ap (signed l.negative) (h l.var.0 q)) lits e

equal_beq : (x y : Bool) → x ≡ y → beq x y ≡ true
equal_beq true true e = refl
equal_beq true false e = sym e
equal_beq false true e = e
equal_beq false false e = refl

-- the widening gives each private variable the value of its definition
widen_defined : (own outer : List Bool) (ds : List (Option Definition)) → are_over_earlier (length own) ds ≡ true → are_as_defined (values_of (widen_from own outer ds)) (length own) ds ≡ true
widen_defined own outer [] h = refl
widen_defined own outer (None ∷ ds) h = rest (get_or outer 0 false) (widen_defined (own ++ get_or outer 0 false ∷ []) (drop 1 outer) ds)
  where
    rest : (x : Bool) → (are_over_earlier (length (own ++ x ∷ [])) ds ≡ true → are_as_defined (values_of (widen_from (own ++ x ∷ []) (drop 1 outer) ds)) (length (own ++ x ∷ [])) ds ≡ true)
        → are_as_defined (values_of (widen_from (own ++ x ∷ []) (drop 1 outer) ds)) (suc (length own)) ds ≡ true
    rest x f =
        subst (λ n. are_as_defined (values_of (widen_from (own ++ x ∷ []) (drop 1 outer) ds)) n ds ≡ true) (one_more own x)
        (f (subst (λ n. are_over_earlier n ds ≡ true) (sym (one_more own x)) h))
widen_defined own outer (Some d ∷ ds) h =
    let p : (is_over_earlier (length own) (Some d) ≡ true) × (are_over_earlier (suc (length own)) ds ≡ true) = and_parts _ _ h in
    let x : Bool = defined_value (values_of own) d in
    and_from _ _
    (equal_beq _ _ (widen_next own outer x ds ∙ sym (defined_agree (values_of (widen_from (own ++ x ∷ []) outer ds)) (values_of own) (length own) (keeps own outer x ds) d p.0)))
    (subst (λ n. are_as_defined (values_of (widen_from (own ++ x ∷ []) outer ds)) n ds ≡ true) (one_more own x)
    (widen_defined (own ++ x ∷ []) outer ds (subst (λ n. are_over_earlier n ds ≡ true) (sym (one_more own x)) p.1)))

-- its outer part is the assignment
widen_outer : (own outer : List Bool) (ds : List (Option Definition)) → length outer ≡ length (outers_from (length own) ds) → map (values_of (widen_from own outer ds)) (outers_from (length own) ds) ≡ outer
widen_outer own [] [] h = refl
widen_outer own (x ∷ outer) [] h = absurd (omega arith)
widen_outer own [] (None ∷ ds) h = absurd (omega arith)
widen_outer own (x ∷ outer) (None ∷ ds) h =
    ap₂ ◌∷◌ (widen_next own outer x ds)
    (subst (λ n. map (values_of (widen_from (own ++ x ∷ []) outer ds)) (outers_from n ds) ≡ outer) (one_more own x)
    (widen_outer (own ++ x ∷ []) outer ds (subst (λ n. length outer ≡ length (outers_from n ds)) (sym (one_more own x)) (let e : length outer ≡ length (outers_from (suc (length own)) ds) = omega arith in e))))
widen_outer own outer (Some d ∷ ds) h =
    let x : Bool = defined_value (values_of own) d in
    subst (λ n. map (values_of (widen_from (own ++ x ∷ []) outer ds)) (outers_from n ds) ≡ outer) (one_more own x)
    (widen_outer (own ++ x ∷ []) outer ds (subst (λ n. length outer ≡ length (outers_from n ds)) (sym (one_more own x)) h))

-- the outer part of a widened assignment is the assignment
pub widened_outer : (values : List Bool) (ds : List (Option Definition)) → length values ≡ outer_count ds → outer_part ds (values_of (widen values ds)) ≡ values
widened_outer values ds h = widen_outer [] values ds h

-- and its private variables are as defined
pub widened_defined : (values : List Bool) (ds : List (Option Definition)) → are_over_earlier 0 ds ≡ true → are_as_defined (values_of (widen values ds)) 0 ds ≡ true
widened_defined values ds h = widen_defined [] values ds h

-- an outer assignment that fits agrees, widened, with what the state took
pub widened-Accords : (s : State) (values : List Bool) → IsInRange s → Fits s values → Accords s (values_of (widen values s.definitions))
widened-Accords s values r f =
    let o : outer_part s.definitions (values_of (widen values s.definitions)) ≡ values = widened_outer values s.definitions f.model.whole in
    record {
      defined = widened_defined values s.definitions r.definitions;
      items = subst (λ (z : List Bool). list_all (satisfies z) s.items ≡ true) (sym o) f.model.holds;
      entries = subst (λ (z : List Bool). satisfies_entries z s.entries ≡ true) (sym o) f.entries;
    }

-- so it confirms a state that stands
pub widened_confirm : WidenedConfirm
widened_confirm s h values f =
    record {
      hard = h.sound.hard w a;
      learned = h.sound.learned w a;
      fixed = λ at l e. all_get (entry_value w) s.stack at (Fix l) e (h.sound.stack w a);
      replaced = λ at v l e. beq_true (w v.0) (own_value w l) (all_get (entry_value w) s.stack at (Equal v l) e (h.sound.stack w a));
      gone = λ at v cs e. all_get (entry_value w) s.stack at (Gone v cs) e (h.sound.stack w a);
      okay = h.sound.okay w a;
    }
  where
    w : ℕ → Bool
    w = values_of (widen values s.definitions)

    a : Accords s w
    a = widened-Accords s values h.ranges f

-- own values that satisfy the hard clauses are rebuilt to a model
pub rebuilt_is_model : RebuiltIsModel
rebuilt_is_model s h o w c = h.complete.rebuilt o w c

-- a refuted state has no model where its shared entries follow from its items
pub refuted_has_no_model : RefutedHasNoModel
refuted_has_no_model s h o f values m =
    false≢true (sym o ∙ (widened_confirm s h values (record { model = m; entries = all_from_get (λ (e : Shared). satisfies_clause values e.clause) s.entries (λ at e q. f at e q values m) })).okay)
