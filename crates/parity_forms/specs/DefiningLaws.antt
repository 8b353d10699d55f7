-- A private variable is defined.
use Rattle.std.proofs.Common.{◌≡◌, ℕ, ◌+◌, ◌<◌, ◌==◌, Bool, true, false, not, nat_lt, nat_le, ltb, ◌&&◌, ◌||◌, List, [], ◌∷◌, ◌++◌, Option, Some, is_some, length, map, refl, sym, ap, ap₂, ◌∙◌, arith, ltb-true, lt-ltb, eq-eqb, ne_eqb}
use Rattle.std.proofs.lemmas.Bool.{and_parts, and_from, or_parts, or_left, or_right, not-true, eqb-false, le-leb}
use Rattle.std.proofs.lemmas.List.Folds.{list_all-map}
use Rattle.std.specs.Bool.{beq}
use Rattle.std.specs.List.{list_all, list_any}
use Rattle.sat_lits.specs.Truth.{clauses_value}
use Rattle.sat_lits.specs.ListLaws.{all_mono, all_push}
use Rattle.sat_lits.specs.ClauseLaws.{beq_true, signed_not}
use Rattle.sat_lits.specs.declared.literal.Own.{Own}
use Rattle.sat_lits.specs.declared.literal.OwnLit.{OwnLit}
use Rattle.rebuild_stack.specs.Values.{own_value, each_lit}
use Rattle.rebuild_stack.specs.Roots.{turned}
use Rattle.rebuild_stack.specs.PutIn.{is_clean, same_lit}
use Rattle.var_maps.specs.Maps.{Maps, Matched, inner_at}
use Rattle.xor_cut.specs.Pieces.{are_different, own_var, own_vars}
use Rattle.state_laws.specs.declared.definition.Definition.{Definition}
use Rattle.state_laws.specs.declared.definition.Definition.TheVariants.{Xor, And}
use Rattle.state_laws.specs.State.{State, is_active}
use Rattle.state_laws.specs.Stands.{IsPlaced}
use Rattle.state_laws.specs.Conditions.{Defines}
use Rattle.state_laws.specs.Kernel.{Kernel, state_of, Standing}
use Rattle.state_laws.specs.Held.{own_of, own_or, own_clause}
use Rattle.state_laws.specs.ViewLaws.{get_is_some}
use Rattle.parity_forms.specs.Parities.{lit_of, in_lit_of, number_of, defining_clauses, variables_of, IsDefinable}
use Rattle.parity_forms.specs.InMaps.{may_be_named, stored_lit, in_negated, next_number, stored_definition}
use Rattle.parity_forms.specs.PieceLaws.{are_active, active_below, xor_Defines}
use Rattle.parity_forms.specs.StoredLaws.{is_named, named_owner, stored_own, stored_distinct}
use Rattle.parity_forms.specs.KernelParityLaws.{inners_len, tables_made}
use Rattle.parity_forms.specs.KernelMadeLaws.{HasMade}
use Rattle.parity_forms.specs.MadeOf.{Tables, IsMade}
use Rattle.removed_vars.specs.Fresh.{in_clauses, hard_in, are_distinct}
use Rattle.removed_vars.specs.declared.changes.Fresh.{Fresh}
use Rattle.parity_forms.specs.declared.made.Made.{Made}

-- the clauses of the conjunction of literals of different variables define the next one
and_Defines : (s : State) (lits : List OwnLit) → IsPlaced s → are_active s (map (λ l. l.var) lits) ≡ true → are_different (map (λ l. l.var) lits) ≡ true
    → Defines s (Some (And lits)) (defining_clauses (length s.definitions) (And lits))
and_Defines s lits h a d =
    record {
      there = sym (list_all-map (λ (v : Own). ltb v.0 next) (λ (l : OwnLit). l.var) lits) ∙ active_below s (map (λ (l : OwnLit). l.var) lits) h a;
      active = and_from _ _ (and_from _ _ at_next (turned_active lits active)) (pairs_active lits active);
      clean = and_from _ _ (and_from _ _ (and_from _ _ (ap not (apart false lits below)) (ap not (apart true lits below))) (turned_clean lits d)) (pairs_clean lits below);
      follow = λ w e. and_from _ _ (ap (λ z. z || list_any (own_value w) (map (turned true) lits)) (beq_true (w next) (list_all (own_value w) lits) e) ∙ first w lits) (pairs w lits (λ t. sym (beq_true (w next) (list_all (own_value w) lits) e) ∙ t));
    }
  where
    next : ℕ
    next = length s.definitions

    passes : OwnLit → Bool
    passes l = (l.var.0 == length s.definitions) || is_active s l.var.0

    active : list_all (λ l. is_active s l.var.0) lits ≡ true
    active = sym (list_all-map (λ (v : Own). is_active s v.0) (λ (l : OwnLit). l.var) lits) ∙ a

    below : list_all (λ l. ltb l.var.0 (length s.definitions)) lits ≡ true
    below = sym (list_all-map (λ (v : Own). ltb v.0 (length s.definitions)) (λ (l : OwnLit). l.var) lits) ∙ active_below s (map (λ (l : OwnLit). l.var) lits) h a

    at_next : ((length s.definitions == length s.definitions) || is_active s (length s.definitions)) ≡ true
    at_next = or_left (length s.definitions == length s.definitions) (is_active s (length s.definitions)) (eq-eqb (length s.definitions) (length s.definitions) refl)

    turned_active : (ls : List OwnLit) → list_all (λ l. is_active s l.var.0) ls ≡ true → list_all (λ l. (l.var.0 == length s.definitions) || is_active s l.var.0) (map (turned true) ls) ≡ true
    turned_active [] e = refl
    turned_active (l ∷ ls) e =
        let p : (is_active s l.var.0 ≡ true) × (list_all (λ (k : OwnLit). is_active s k.var.0) ls ≡ true) = and_parts _ _ e in
        and_from _ _ (or_right (l.var.0 == length s.definitions) (is_active s l.var.0) p.0) (turned_active ls p.1)

    pairs_active : (ls : List OwnLit) → list_all (λ l. is_active s l.var.0) ls ≡ true → each_lit (λ l. (l.var.0 == length s.definitions) || is_active s l.var.0) (map (λ l. lit_of (own_var (length s.definitions)) true ∷ l ∷ []) ls) ≡ true
    pairs_active [] e = refl
    pairs_active (l ∷ ls) e =
        let p : (is_active s l.var.0 ≡ true) × (list_all (λ (k : OwnLit). is_active s k.var.0) ls ≡ true) = and_parts _ _ e in
        and_from _ _ (and_from _ _ (or_left (length s.definitions == length s.definitions) (is_active s (length s.definitions)) (eq-eqb (length s.definitions) (length s.definitions) refl)) (and_from _ _ (or_right (l.var.0 == length s.definitions) (is_active s l.var.0) p.0) refl)) (pairs_active ls p.1)

    apart : (b : Bool) (ls : List OwnLit) → list_all (λ l. ltb l.var.0 (length s.definitions)) ls ≡ true → list_any (same_lit (lit_of (own_var (length s.definitions)) b)) (map (turned true) ls) ≡ false
    apart b [] e = refl
    apart b (l ∷ ls) e =
        let p : (ltb l.var.0 (length s.definitions) ≡ true) × (list_all (λ (k : OwnLit). ltb k.var.0 (length s.definitions)) ls ≡ true) = and_parts _ _ e in
        let u : l.var.0 < length s.definitions = ltb-true _ _ p.0 in
        ap₂ ◌||◌ (ap (λ z. z && beq b (not l.negative)) (ne_eqb (length s.definitions) l.var.0 (λ q. absurd (omega arith)))) (apart b ls p.1)

    elsewhere : (v : ℕ) (b : Bool) (ls : List OwnLit) → list_any (λ (u : Own). u.0 == v) (map (λ (l : OwnLit). l.var) ls) ≡ false → list_any (same_lit (lit_of (own_var v) b)) (map (turned true) ls) ≡ false
    elsewhere v b [] e = refl
    elsewhere v b (l ∷ ls) e =
        let p : ((l.var.0 == v) ≡ false) × (list_any (λ (u : Own). u.0 == v) (map (λ (k : OwnLit). k.var) ls) ≡ false) = or_parts _ _ e in
        ap₂ ◌||◌ (ap (λ z. z && beq b (not l.negative)) (ne_eqb v l.var.0 (λ q. eqb-false l.var.0 v p.0 (sym q)))) (elsewhere v b ls p.1)

    turned_clean : (ls : List OwnLit) → are_different (map (λ (l : OwnLit). l.var) ls) ≡ true → is_clean (map (turned true) ls) ≡ true
    turned_clean [] e = refl
    turned_clean (l ∷ ls) e =
        let p : (not (list_any (λ (u : Own). u.0 == l.var.0) (map (λ (k : OwnLit). k.var) ls)) ≡ true) × (are_different (map (λ (k : OwnLit). k.var) ls) ≡ true) = and_parts _ _ e in
        and_from _ _ (and_from _ _ (ap not (elsewhere l.var.0 (not l.negative) ls (not-true _ p.0))) (ap not (elsewhere l.var.0 (not (not l.negative)) ls (not-true _ p.0)))) (turned_clean ls p.1)

    pairs_clean : (ls : List OwnLit) → list_all (λ l. ltb l.var.0 (length s.definitions)) ls ≡ true → list_all is_clean (map (λ l. lit_of (own_var (length s.definitions)) true ∷ l ∷ []) ls) ≡ true
    pairs_clean [] e = refl
    pairs_clean (l ∷ ls) e =
        let p : (ltb l.var.0 (length s.definitions) ≡ true) × (list_all (λ (k : OwnLit). ltb k.var.0 (length s.definitions)) ls ≡ true) = and_parts _ _ e in
        let u : l.var.0 < length s.definitions = ltb-true _ _ p.0 in
        let n : (length s.definitions == l.var.0) ≡ false = ne_eqb (length s.definitions) l.var.0 (λ q. absurd (omega arith)) in
        and_from _ _ (rw n refl) (pairs_clean ls p.1)

    first : (w : ℕ → Bool) (ls : List OwnLit) → (list_all (own_value w) ls || list_any (own_value w) (map (turned true) ls)) ≡ true
    first w [] = refl
    first w (l ∷ ls) =
        ap (λ z. (own_value w l && list_all (own_value w) ls) || (z || list_any (own_value w) (map (turned true) ls))) (signed_not l.negative (w l.var.0))
        ∙ either (own_value w l) (list_all (own_value w) ls) (list_any (own_value w) (map (turned true) ls)) (first w ls)
      where
        either : (v c n : Bool) → (c || n) ≡ true → ((v && c) || (not v || n)) ≡ true
        either true c n e = e
        either false c n e = refl

    pair : (x v : Bool) → (x ≡ true → v ≡ true) → (not x || (v || false)) ≡ true
    pair true v h = or_left v false (h refl)
    pair false v h = refl

    pairs : (w : ℕ → Bool) (ls : List OwnLit) → (w (length s.definitions) ≡ true → list_all (own_value w) ls ≡ true) → clauses_value (own_value w) (map (λ l. lit_of (own_var (length s.definitions)) true ∷ l ∷ []) ls) ≡ true
    pairs w [] h = refl
    pairs w (l ∷ ls) h =
        and_from _ _ (pair (w (length s.definitions)) (own_value w l) (λ t. (and_parts _ _ (h t)).0)) (pairs w ls (λ t. (and_parts _ _ (h t)).1))

-- the clauses of a definition define the next variable
pub definable-Defines : (s : State) (d : Definition) → IsPlaced s → IsDefinable s d → Defines s (Some d) (defining_clauses (length s.definitions) d)
definable-Defines s (Xor vars) h x = xor_Defines s vars h x.active x.different
definable-Defines s (And lits) h x = and_Defines s lits h x.active x.different

-- a variable of a definition may be named
pub definable_may : (k : Kernel) (d : Definition) → Standing k → IsDefinable (state_of k) d → list_all (may_be_named k.maps) (variables_of d) ≡ true
definable_may k d h x =
    all_mono (λ (v : Own). is_active (state_of k) v.0) (may_be_named k.maps) (λ v a. or_right (nat_le (length k.maps.inners) v.0) (is_some (inner_at k.maps v.0)) (sym (get_is_some k.maps.inners v.0) ∙ a)) (variables_of d) x.active

definable_named : (k : Kernel) (d : Definition) → Standing k → IsDefinable (state_of k) d → list_all (is_named 1 k.maps) (variables_of d) ≡ true
definable_named k d h x =
    all_mono (λ (v : Own). is_active (state_of k) v.0) (is_named 1 k.maps)
    (λ v a. or_left (is_some (inner_at k.maps v.0)) (nat_le (length k.maps.inners) v.0 && nat_lt v.0 (length k.maps.inners + 1)) (sym (get_is_some k.maps.inners v.0) ∙ a)) (variables_of d) x.active

next_named : (m : Maps) → is_named 1 m (own_var (length m.inners)) ≡ true
next_named m =
    or_right (is_some (inner_at m (length m.inners))) (nat_le (length m.inners) (length m.inners) && nat_lt (length m.inners) (length m.inners + 1))
    (and_from _ _ (le-leb (length m.inners) (length m.inners) (omega arith)) (lt-ltb (length m.inners) (length m.inners + 1) (omega arith)))

-- the clauses that are to be stored are those of the definition where the variable is made
stored_defining : (m n : Maps) (d : Definition) → n.owners ≡ m.owners ++ map Some (own_vars (length m.inners) 1) → Matched m → list_all (is_named 1 m) (variables_of d) ≡ true
    → map (own_clause n) (stored_definition m d) ≡ defining_clauses (length m.inners) d
stored_defining m n (Xor vars) o h e = stored_own 1 m n (vars ++ own_var (length m.inners) ∷ []) false o h (all_push (is_named 1 m) vars (own_var (length m.inners)) e (next_named m))
stored_defining m n (And lits) o h e =
    ap₂ {C = List (List OwnLit)} ◌∷◌
    (ap₂ {C = List OwnLit} ◌∷◌ (at_next false) (negated lits (sym (list_all-map (is_named 1 m) (λ (l : OwnLit). l.var) lits) ∙ e)))
    (pairs lits (sym (list_all-map (is_named 1 m) (λ (l : OwnLit). l.var) lits) ∙ e))
  where
    owner : (v : Own) (b : Bool) → is_named 1 m v ≡ true → own_of n (in_lit_of (number_of m v) b) ≡ lit_of v b
    owner v b q = ap (λ (z : Option Own). lit_of (own_or (length n.inners) z) b) (named_owner 1 m n v o h q)

    at_next : (b : Bool) → own_of n (in_lit_of (next_number m) b) ≡ lit_of (own_var (length m.inners)) b
    at_next b = owner (own_var (length m.inners)) b (next_named m)

    negated : (ls : List OwnLit) → list_all (λ (l : OwnLit). is_named 1 m l.var) ls ≡ true → own_clause n (map in_negated (map (stored_lit m) ls)) ≡ map (turned true) ls
    negated [] q = refl
    negated (l ∷ ls) q =
        let p : (is_named 1 m l.var ≡ true) × (list_all (λ (k : OwnLit). is_named 1 m k.var) ls ≡ true) = and_parts _ _ q in
        ap₂ {C = List OwnLit} ◌∷◌ (owner l.var (not l.negative) p.0) (negated ls p.1)

    pairs : (ls : List OwnLit) → list_all (λ (l : OwnLit). is_named 1 m l.var) ls ≡ true
        → map (own_clause n) (map (λ l. in_lit_of (next_number m) true ∷ l ∷ []) (map (stored_lit m) ls)) ≡ map (λ l. lit_of (own_var (length m.inners)) true ∷ l ∷ []) ls
    pairs [] q = refl
    pairs (l ∷ ls) q =
        let p : (is_named 1 m l.var ≡ true) × (list_all (λ (k : OwnLit). is_named 1 m k.var) ls ≡ true) = and_parts _ _ q in
        ap₂ {C = List (List OwnLit)} ◌∷◌ (ap₂ {C = List OwnLit} (λ x y. x ∷ y ∷ []) (at_next true) (owner l.var l.negative p.0)) (pairs ls p.1)

-- they have no literal twice
pub definable_distinct : (k : Kernel) (d : Definition) (fresh : List Fresh) → Standing k → IsDefinable (state_of k) d → Matched k.maps → in_clauses fresh ≡ map hard_in (stored_definition k.maps d) → are_distinct fresh ≡ true
definable_distinct k d fresh h x q e =
    let n : Maps = record k.maps { owners = k.maps.owners ++ map Some (own_vars (length k.maps.inners) 1) } in
    let f : Defines (state_of k) (Some d) (defining_clauses (length k.definitions) d) = definable-Defines (state_of k) d h.stands.places x in
    stored_distinct n (stored_definition k.maps d) (defining_clauses (length k.definitions) d) fresh e
    (stored_defining k.maps n d refl q (definable_named k d h x) ∙ ap (λ (j : ℕ). defining_clauses j d) (inners_len k h)) f.clean

-- the private variable and its clauses were made
pub definable_made : (k n : Kernel) (d : Definition) (made : Made) (from to : Tables) → Standing k → IsDefinable (state_of k) d → Matched k.maps
    → made.definitions.items ≡ d ∷ [] → in_clauses made.clauses.items ≡ map hard_in (stored_definition k.maps d) → IsMade made from to
    → from.maps ≡ k.maps → from.store ≡ k.store → from.removed.entries ≡ k.stack → from.definitions ≡ k.definitions → n.maps ≡ to.maps → n.store ≡ to.store → n.stack ≡ to.removed.entries → n.definitions ≡ to.definitions
    → n.entries ≡ k.entries → n.okay ≡ k.okay → n.stack_mark ≡ k.stack_mark → HasMade k n (d ∷ []) (in_clauses made.clauses.items) (defining_clauses (length k.definitions) d)
definable_made k n d made from to h x q ds cs y fm fs fr fd nm ns nr nd ne o sm =
    tables_made k n (d ∷ []) (stored_definition k.maps d) (defining_clauses (length k.definitions) d) made from to ds cs y fm fs fr fd nm ns nr nd ne o sm
    (λ m. stored_defining k.maps n.maps d m.owners q (definable_named k d h x) ∙ ap (λ (j : ℕ). defining_clauses j d) (inners_len k h))
