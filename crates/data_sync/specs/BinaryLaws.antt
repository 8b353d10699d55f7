-- What a learned clause of two literals gives.
use Rattle.std.proofs.Common.{◌≡◌, ◌⊎◌, inl, inr, ◌≢◌, ℕ, zero, suc, ◌<◌, ◌≤◌, ◌==◌, nat_lt, Bool, true, false, cond, not, ◌&&◌, ◌||◌, List, [], ◌∷◌, Option, Some, None, length, map, get_or, option_map, refl, sym, ap, ◌∙◌, arith, filter}
use Rattle.std.proofs.lemmas.Bool.{and_parts, false≢true, eq-eqb, lt-ltb, ltb-true, ltb-false}
use Rattle.std.proofs.lemmas.List.Elements.{All-cons, All-nil}
use Rattle.std.proofs.lemmas.Option.{same_Some, none-some}
use Rattle.std.specs.Bool.{beq}
use Rattle.std.specs.List.{AllPairs, slice_get}
use Rattle.sat_lits.specs.Truth.{signed}
use Rattle.sat_lits.specs.Logs.{IsShareable}
use Rattle.sat_lits.specs.declared.literal.Lit.{Lit}
use Rattle.sat_lits.specs.declared.literal.Own.{Own}
use Rattle.sat_lits.specs.declared.literal.OwnLit.{OwnLit}
use Rattle.sat_lits.specs.declared.literal.InLit.{InLit}
use Rattle.sat_lits.specs.declared.literal.Var.{Var}
use Rattle.rebuild_stack.specs.PutIn.{same_lit, is_clean}
use Rattle.rebuild_stack.specs.Roots.{turned}
use Rattle.clause_store.specs.Store.{Held, clause_at, learned_of}
use Rattle.var_maps.specs.Maps.{Maps, Matched, outer_at, owner_at}
use Rattle.state_laws.specs.State.{State, to_own, is_active}
use Rattle.private_state.specs.MovingLaws.{active_there}
use Rattle.std.proofs.lemmas.List.{length-map}
use Rattle.sat_lits.specs.declared.shared.Shared.{Shared}
use Rattle.share_store.specs.Log.{HasClause}
use Rattle.sat_lits.specs.ListLaws.{all_mono, all_get}
use Rattle.std.specs.List.{list_all}
use Rattle.state_laws.specs.Held.{own_of, own_or, own_clause, own_clauses}
use Rattle.state_laws.specs.Kernel.{Kernel, Standing, state_of}
use Rattle.sync_laws.specs.Steps.{IsOuter, in_order}
use Rattle.data_sync.specs.Giving.{outer_of, outer_where, stored_outer, IsToldAt}
use Rattle.data_sync.specs.GivingLaws.{outer_is, outer_only}

within_some : {X : Type 0} (xs : List (Option X)) (i : ℕ) (x : X) → get_or xs i None ≡ Some x → i < length xs
within_some [] i x e = absurd (none-some x e)
within_some (y ∷ xs) zero x e = omega arith
within_some (y ∷ xs) (suc i) x e = let h : i < length xs = within_some xs i x e in omega arith

-- the variable of an inner number has an own number
pub owner_there : (m : Maps) (i : ℕ) (v : Own) → Matched m → owner_at m i ≡ Some v → v.0 < length m.inners
owner_there m i v h e = within_some m.inners v.0 (record { 0 = i }) (h.owner_inner i v e)

-- the outer literal of a stored one is that of its own literal
pub stored_is : (k : Kernel) (x : InLit) (l : Lit) → Standing k → Matched k.maps → stored_outer k.maps x ≡ Some l → IsOuter (state_of k) l (own_of k.maps x)
stored_is k x l h m e = go (owner_at k.maps x.var.0) e
  where
    go : (o : Option Own) → outer_where k.maps x.negative o ≡ Some l → IsOuter (state_of k) l (let y : OwnLit = record { var = own_or (length k.maps.inners) o; negative = x.negative } in y)
    go None e = absurd (none-some l e)
    go (Some v) e = outer_is k (record { var = v; negative = x.negative }) l h m e

past_end : {X : Type 0} (xs : List (Option X)) → get_or xs (length xs) None ≡ None
past_end [] = refl
past_end (x ∷ xs) = past_end xs

-- and the only one
pub stored_only : (k : Kernel) (x : InLit) (l : Lit) → Standing k → Matched k.maps → IsOuter (state_of k) l (own_of k.maps x) → stored_outer k.maps x ≡ Some l
stored_only k x l h m i = go (owner_at k.maps x.var.0) i
  where
    go : (o : Option Own) → IsOuter (state_of k) l (let y : OwnLit = record { var = own_or (length k.maps.inners) o; negative = x.negative } in y) → outer_where k.maps x.negative o ≡ Some l
    go None i =
        let e : outer_of k.maps (record { var = record { 0 = length k.maps.inners }; negative = x.negative }) ≡ Some l = outer_only k (record { var = record { 0 = length k.maps.inners }; negative = x.negative }) l h m i in
        let n : outer_at k.maps (length k.maps.inners) ≡ None = ap (outer_at k.maps) (sym m.lengths) ∙ past_end k.maps.outer_numbers in
        absurd (none-some l (sym (ap (option_map (λ (v : Var). let y : Lit = record { var = v; negative = x.negative } in y)) n) ∙ e))
    go (Some v) i = outer_only k (record { var = v; negative = x.negative }) l h m i

some_cond : (x h : Held) (o : Option Held) (b : Bool) → cond b (Some x) o ≡ Some h → ((b ≡ true) × (x ≡ h)) ⊎ ((b ≡ false) × (o ≡ Some h))
some_cond x h o true e = inl (refl, same_Some x h e)
some_cond x h o false e = inr (refl, e)

-- a learned clause of the store stands at a place of the state's
pub learned_place : (m : Maps) (hs : List Held) (i : ℕ) (h : Held) → clause_at hs i ≡ Some h → h.learned ≡ true → (at : ℕ) × (slice_get (own_clauses m (learned_of hs)) at ≡ Some (own_clause m h.lits))
learned_place m [] i h e l = absurd (none-some h e)
learned_place m (x ∷ hs) i h e l = go (x.id == i) e (learned_place m hs i h)
  where
    here : (b : Bool) → b ≡ true → slice_get (map (own_clause m) (map (λ (c : Held). c.lits) (cond b (x ∷ filter (λ (c : Held). c.learned) hs) (filter (λ (c : Held). c.learned) hs)))) 0 ≡ Some (own_clause m x.lits)
    here true q = refl
    here false q = absurd (false≢true q)

    later : (b : Bool) → (at : ℕ) × (slice_get (own_clauses m (learned_of hs)) at ≡ Some (own_clause m h.lits))
        → (at : ℕ) × (slice_get (map (own_clause m) (map (λ (c : Held). c.lits) (cond b (x ∷ filter (λ (c : Held). c.learned) hs) (filter (λ (c : Held). c.learned) hs)))) at ≡ Some (own_clause m h.lits))
    later true (at, q) = (suc at, q)
    later false (at, q) = (at, q)

    go : (b : Bool) → cond b (Some x) (clause_at hs i) ≡ Some h → (clause_at hs i ≡ Some h → h.learned ≡ true → (at : ℕ) × (slice_get (own_clauses m (learned_of hs)) at ≡ Some (own_clause m h.lits)))
        → (at : ℕ) × (slice_get (own_clauses m (learned_of (x ∷ hs))) at ≡ Some (own_clause m h.lits))
    go true q r =
        let s : x ≡ h = same_Some x h q in
        (0, here x.learned (ap (λ (c : Held). c.learned) s ∙ l) ∙ ap (λ (c : Held). Some (own_clause m c.lits)) s)
    go false q r = later x.learned (r q l)

-- and its variables are there
pub learned_there : (k : Kernel) (id : ℕ) (h : Held) → Standing k → clause_at k.store.held id ≡ Some h → h.learned ≡ true → list_all (λ l. nat_lt l.var.0 (length k.definitions)) (own_clause k.maps h.lits) ≡ true
learned_there k id h s e l =
    let p : (at : ℕ) × (slice_get (own_clauses k.maps (learned_of k.store.held)) at ≡ Some (own_clause k.maps h.lits)) = learned_place k.maps k.store.held id h e l in
    all_mono (λ (x : OwnLit). is_active (state_of k) x.var.0) (λ (x : OwnLit). nat_lt x.var.0 (length k.definitions)) (λ x a. lt-ltb _ _ (active_there k x.var.0 s a)) (own_clause k.maps h.lits)
    (all_get (list_all (λ (x : OwnLit). is_active (state_of k) x.var.0)) (own_clauses k.maps (learned_of k.store.held)) p.0 (own_clause k.maps h.lits) p.1 s.stands.places.placed.learned)

-- a clause is told where that of its outer literals, if it has two, is in the log
pub told_at : (k : Kernel) (log : List Shared) (id : ℕ) → Standing k
    → ((h : Held) → clause_at k.store.held id ≡ Some h → h.learned ≡ true → (x y : Lit) (first second : OwnLit) → own_clause k.maps h.lits ≡ first ∷ second ∷ [] → IsOuter (state_of k) x first → IsOuter (state_of k) y second → HasClause log (in_order x y))
    → IsToldAt k log id
told_at k log id s f = λ h e l. record { there = learned_there k id h s e l; pair = f h e l }

-- a clause of another length has no two literals
pub not_two : (m : Maps) (o : Option Held) (h : Held) (lits : List InLit) (first second : OwnLit) → option_map (λ c. c.lits) o ≡ Some lits → o ≡ Some h → own_clause m h.lits ≡ first ∷ second ∷ [] → length lits ≡ 2
not_two m o h lits first second e f q =
    let a : h.lits ≡ lits = same_Some h.lits lits (sym (ap (option_map (λ (c : Held). c.lits)) f) ∙ e) in
    let b : length (own_clause m h.lits) ≡ length h.lits = length-map h.lits (own_of m) in
    let c : length (own_clause m h.lits) ≡ 2 = ap length q in
    let d : length h.lits ≡ length lits = ap length a in
    omega (arith, b, c, d)

apart : (first second : OwnLit) → is_clean (first ∷ second ∷ []) ≡ true → first.var.0 ≡ second.var.0 → ⊥
apart first second c e =
    let a : ((not (same_lit first second || false) && not (same_lit (turned true first) second || false)) ≡ true) × (is_clean (second ∷ []) ≡ true) = and_parts _ _ c in
    go (first.var.0 == second.var.0) (eq-eqb _ _ e) first.negative second.negative a.0
  where
    go : (b : Bool) → b ≡ true → (x y : Bool) → (not ((b && beq x y) || false) && not ((b && beq (signed true x) y) || false)) ≡ true → ⊥
    go false q x y h = false≢true q
    go true q true true h = false≢true h
    go true q true false h = false≢true h
    go true q false true h = false≢true h
    go true q false false h = false≢true h

-- the variables of a clean clause of two literals are different, for the caller too
pub outer_apart : (s : State) (k l : Lit) (first second : OwnLit) → is_clean (first ∷ second ∷ []) ≡ true → IsOuter s k first → IsOuter s l second → k.var.0 ≢ l.var.0
outer_apart s k l first second c o p e =
    apart first second c
    (sym (ap (λ (y : OwnLit). y.var.0) o.own) ∙ (ap (λ (n : ℕ). (to_own s.definitions (record { var = record { 0 = n }; negative = k.negative })).var.0) e ∙ ap (λ (y : OwnLit). y.var.0) p.own))

-- two literals of different variables can be shared in their order
pub pair_shareable : (vars : ℕ) (k l : Lit) → k.var.0 < vars → l.var.0 < vars → k.var.0 ≢ l.var.0 → IsShareable vars (in_order k l)
pair_shareable vars k l a b n = go (nat_lt k.var.0 l.var.0) refl
  where
    two : (x y : Lit) → x.var.0 < vars → y.var.0 < vars → x.var.0 < y.var.0 → IsShareable vars (x ∷ y ∷ [])
    two x y c d e =
        record {
          some = omega arith;
          few = omega arith;
          there = All-cons (λ (z : Lit). z.var.0 < vars) x (y ∷ []) c (All-cons (λ (z : Lit). z.var.0 < vars) y [] d (All-nil (λ (z : Lit). z.var.0 < vars)));
          rising = rise x y e;
        }
      where
        rise : (x y : Lit) → x.var.0 < y.var.0 → AllPairs (λ (v w : Lit). v.var.0 < w.var.0) (x ∷ y ∷ [])
        rise x y e zero zero d f g = absurd (omega arith)
        rise x y e zero (suc zero) d f g = e
        rise x y e zero (suc (suc j)) d f g = absurd (omega arith)
        rise x y e (suc i) zero d f g = absurd (omega arith)
        rise x y e (suc i) (suc zero) d f g = absurd (omega arith)
        rise x y e (suc i) (suc (suc j)) d f g = absurd (omega arith)

    go : (c : Bool) → nat_lt k.var.0 l.var.0 ≡ c → IsShareable vars (cond c (k ∷ l ∷ []) (l ∷ k ∷ []))
    go true e = two k l a b (ltb-true _ _ e)
    go false e = let f : l.var.0 ≤ k.var.0 = ltb-false _ _ e in two l k b a (omega (arith, f, n))

-- a stored clause of two literals
pub both_own : (m : Maps) (lits : List InLit) (d : InLit) → 2 ≤ length lits → length lits < 3 → own_clause m lits ≡ own_of m (get_or lits 0 d) ∷ own_of m (get_or lits 1 d) ∷ []
both_own m [] d h g = absurd (omega arith)
both_own m (x ∷ []) d h g = absurd (omega arith)
both_own m (x ∷ y ∷ []) d h g = refl
both_own m (x ∷ y ∷ z ∷ lits) d h g = absurd (omega arith)

-- two literals in order, where the first has the lesser variable
pub in_order-first : (k l : Lit) → k.var.0 < l.var.0 → in_order k l ≡ k ∷ l ∷ []
in_order-first k l h = ap (λ (b : Bool). cond b (k ∷ l ∷ []) (l ∷ k ∷ [])) (lt-ltb _ _ h)

-- and where it has not
pub in_order-second : (k l : Lit) → l.var.0 ≤ k.var.0 → in_order k l ≡ l ∷ k ∷ []
in_order-second k l h = go (nat_lt k.var.0 l.var.0) refl
  where
    go : (b : Bool) → nat_lt k.var.0 l.var.0 ≡ b → cond b (k ∷ l ∷ []) (l ∷ k ∷ []) ≡ l ∷ k ∷ []
    go true e = let g : k.var.0 < l.var.0 = ltb-true _ _ e in absurd (omega (arith, g, h))
    go false e = refl
