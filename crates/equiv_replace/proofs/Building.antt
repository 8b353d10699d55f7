-- The edges of stored clauses.
use Rattle.std.proofs.Common.{◌≡◌, ℕ, ◌+◌, ◌*◌, ◌^◌, ◌<◌, ◌≤◌, Bool, true, false, cond, List, [], ◌∷◌, ◌++◌, Some, None, Option, option_to_list, refl, sym, ap, ap₂, ◌∙◌, arith, append_assoc, append-nil, ltb-true, lt-ltb, ltb}
use Rattle.std.proofs.lemmas.Bool.{and_parts, and_from}
use Rattle.std.proofs.lemmas.List.Folds.{list_all-append}
use Rattle.std.specs.List.{list_all}
use Rattle.sat_lits.specs.ListLaws.{all_mono}
use Rattle.sat_lits.specs.declared.literal.InLit.{InLit}
use Rattle.clause_store.specs.Store.{Held, clause_at, is_live}
use Rattle.state_laws.specs.HeldLaws.{found, all_found}
use Rattle.equiv_replace.specs.declared.edges.Edge.{Edge}
use Rattle.equiv_replace.specs.Rows.{StartInside}
use Rattle.equiv_replace.specs.Nodes.{node_of, negated, is_below, are_below, two_of, binary_of, edges_in, edges_of}

-- a clause of two literals
pub two_lits : (lits : List InLit) (x y : InLit) → two_of lits ≡ Some (x, y) → lits ≡ x ∷ y ∷ []
two_lits [] x y e = cc
two_lits (a ∷ []) x y e = cc
two_lits (a ∷ b ∷ []) x y e = let f : ◌≡◌ {A = InLit × InLit} (a, b) (x, y) = cc in ap₂ (λ (s t : InLit). s ∷ t ∷ []) (ap (λ (p : InLit × InLit). p.0) f) (ap (λ (p : InLit × InLit). p.1) f)
two_lits (a ∷ b ∷ z ∷ lits) x y e = cc

pub binary_lits : (h : Held) (x y : InLit) → binary_of h ≡ Some (x, y) → (h.learned ≡ false) × (h.lits ≡ x ∷ y ∷ [])
binary_lits h x y e = go h.learned refl e
  where
    go : (c : Bool) → h.learned ≡ c → cond c None (two_of h.lits) ≡ Some (x, y) → (h.learned ≡ false) × (h.lits ≡ x ∷ y ∷ [])
    go true f g = absurd (no_pair g)
      where
        no_pair : ◌≡◌ {A = Option (InLit × InLit)} None (Some (x, y)) → ⊥
        no_pair g = cc
    go false f g = (f, two_lits h.lits x y g)

-- the literals of a clause that is below are below
pub both_below : (n : ℕ) (h : Held) (x y : InLit) → binary_of h ≡ Some (x, y) → are_below n h ≡ true → (is_below n x ≡ true) × (is_below n y ≡ true)
both_below n h x y e p =
    let b : (h.learned ≡ false) × (h.lits ≡ x ∷ y ∷ []) = binary_lits h x y e in
    let q : list_all (is_below n) (x ∷ y ∷ []) ≡ true = ap (list_all (is_below n)) (sym b.1) ∙ p in
    let r : (is_below n x ≡ true) × (list_all (is_below n) (y ∷ []) ≡ true) = and_parts _ _ q in
    (r.0, (and_parts _ _ r.1).0)

pub found_below : (n : ℕ) (held : List Held) (id : ℕ) (x y : InLit) → is_live held id ≡ true → list_all (are_below n) held ≡ true → ((h : Held) → clause_at held id ≡ Some h → Some (x, y) ≡ binary_of h) → (is_below n x ≡ true) × (is_below n y ≡ true)
found_below n held id x y l a f =
    let h : (h : Held) × (clause_at held id ≡ Some h) = found (clause_at held id) l in
    both_below n h.0 x y (sym (f h.0 h.1)) (all_found (are_below n) held id h.0 h.1 a)

-- a variable whose nodes have 32 bits has 31
pub var_fits : (l : InLit) → is_below (2 ^ 32) l ≡ true → l.var.0 < 2 ^ 31
var_fits l e = let h : 2 * l.var.0 + 1 < 2 ^ 32 = ltb-true _ _ e in omega arith

pub edges_of-append : (held more : List Held) → edges_of (held ++ more) ≡ edges_of held ++ edges_of more
edges_of-append [] more = refl
edges_of-append (h ∷ held) more = ap (λ (es : List Edge). edges_in (binary_of h) ++ es) (edges_of-append held more) ∙ sym (append_assoc (edges_in (binary_of h)) (edges_of held) (edges_of more))

-- the edges of the clause of an id
pub edges_at : (held : List Held) (id : ℕ) (o : Option (InLit × InLit)) → is_live held id ≡ true → ((h : Held) → clause_at held id ≡ Some h → o ≡ binary_of h) → edges_in o ≡ edges_of (option_to_list (clause_at held id))
edges_at held id o l f =
    let h : (h : Held) × (clause_at held id ≡ Some h) = found (clause_at held id) l in
    ap edges_in (f h.0 h.1) ∙ (sym (append-nil (edges_in (binary_of h.0))) ∙ ap (λ (c : Option Held). edges_of (option_to_list c)) (sym h.1))

-- the node of a literal that is below is
pub node_below : (n : ℕ) (l : InLit) → is_below n l ≡ true → node_of l < n
node_below n l e = go l.negative (ltb-true _ _ e)
  where
    go : (b : Bool) → 2 * l.var.0 + 1 < n → cond b (2 * l.var.0 + 1) (2 * l.var.0) < n
    go true h = h
    go false h = omega arith

-- the edges of clauses that are below lead from nodes below
pub edges_start : (n : ℕ) (held : List Held) → list_all (are_below n) held ≡ true → StartInside n (edges_of held)
edges_start n [] a = refl
edges_start n (h ∷ held) a =
    let p : (are_below n h ≡ true) × (list_all (are_below n) held ≡ true) = and_parts _ _ a in
    list_all-append (λ e. ltb e.from n) (edges_in (binary_of h)) (edges_of held) ∙ and_from _ _ (go (binary_of h) refl p.0) (edges_start n held p.1)
  where
    go : (o : Option (InLit × InLit)) → binary_of h ≡ o → are_below n h ≡ true → StartInside n (edges_in o)
    go None e b = refl
    go (Some (x, y)) e b =
        let q : (is_below n x ≡ true) × (is_below n y ≡ true) = both_below n h x y e b in
        and_from _ _ (lt-ltb _ _ (node_below n (negated x) q.0)) (and_from _ _ (lt-ltb _ _ (node_below n (negated y) q.1)) refl)

-- what is below a number is below a greater one
pub all_below : (n m : ℕ) (held : List Held) → n ≤ m → list_all (are_below n) held ≡ true → list_all (are_below m) held ≡ true
all_below n m held l a =
    all_mono (are_below n) (are_below m) (λ h. all_mono (is_below n) (is_below m) (λ x e. lt-ltb _ _ (let b : 2 * x.var.0 + 1 < n = ltb-true _ _ e in omega arith)) h.lits) held a
