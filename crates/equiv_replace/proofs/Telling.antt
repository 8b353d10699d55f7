-- The graph of the edges of clauses tells the clauses.
use Rattle.std.proofs.Common.{◌≡◌, ℕ, ◌⊎◌, Bool, true, false, cond, eqb, eqb-true, eq-eqb, List, [], ◌∷◌, Some, None, Option, map, filter, refl, sym, ap, subst, ◌∙◌, arith, inl, inr, ⊎_elim}
use Rattle.std.proofs.lemmas.Bool.{false≢true}
use Rattle.std.proofs.lemmas.List.Elements.{Contains-append_left, Contains-append_right, Contains-append_cases}
use Rattle.std.specs.List.{Contains}
use Rattle.sat_lits.specs.declared.literal.InLit.{InLit}
use Rattle.clause_store.specs.Store.{Held}
use Rattle.equiv_replace.specs.declared.edges.Edge.{Edge}
use Rattle.equiv_replace.specs.Graphs.{HasEdge}
use Rattle.equiv_replace.specs.Rows.{heads_from}
use Rattle.equiv_replace.specs.Nodes.{two_of, binary_of, edge_of, edges_in, edges_of, IsBinary, ComesFrom, TellsClauses, IsBinaryGraph}
use Rattle.equiv_replace.proofs.Walking.{nothing, only}
use Rattle.equiv_replace.proofs.Building.{binary_lits}

first_of : {X : Type 0} (x : X) (xs : List X) → Contains (x ∷ xs) x
first_of x xs = (0, omega arith, refl)

later_of : {X : Type 0} (y : X) (xs : List X) (x : X) → Contains xs x → Contains (y ∷ xs) x
later_of y xs x h = Contains-append_right (y ∷ []) xs x h

cases_of : {X : Type 0} (y : X) (xs : List X) (x : X) → Contains (y ∷ xs) x → (y ≡ x) ⊎ Contains xs x
cases_of {X = X} y xs x h = ⊎_elim (λ (k : Contains (y ∷ []) x). inl (only y x k)) (λ (k : Contains xs x). inr k) (Contains-append_cases (y ∷ []) xs x h)

-- the head of an edge is among those of its node
head_of : (edges : List Edge) (e : Edge) → Contains edges e → Contains (heads_from e.from edges) e.to
head_of [] e h = absurd (nothing e h)
head_of (d ∷ edges) e h = ⊎_elim (λ (k : d ≡ e). subst (λ (x : Edge). Contains (heads_from x.from (d ∷ edges)) x.to) k (here (eqb d.from d.from) (eq-eqb _ _ refl))) (λ (k : Contains edges e). later (eqb d.from e.from) (head_of edges e k)) (cases_of d edges e h)
  where
    here : (b : Bool) → b ≡ true → Contains (map (λ (x : Edge). x.to) (cond b (d ∷ filter (λ (x : Edge). eqb x.from d.from) edges) (filter (λ (x : Edge). eqb x.from d.from) edges))) d.to
    here true q = first_of d.to (heads_from d.from edges)
    here false q = absurd (false≢true q)

    later : (b : Bool) → Contains (heads_from e.from edges) e.to → Contains (map (λ (x : Edge). x.to) (cond b (d ∷ filter (λ (x : Edge). eqb x.from e.from) edges) (filter (λ (x : Edge). eqb x.from e.from) edges))) e.to
    later true q = later_of d.to (heads_from e.from edges) e.to q
    later false q = q

-- a head of a node comes from an edge
edge_from : (edges : List Edge) (a b : ℕ) → Contains (heads_from a edges) b → (e : Edge) × Contains edges e × (e.from ≡ a) × (e.to ≡ b)
edge_from [] a b h = absurd (nothing b h)
edge_from (d ∷ edges) a b h = go (eqb d.from a) refl (λ k. later (edge_from edges a b k)) h
  where
    later : (e : Edge) × Contains edges e × (e.from ≡ a) × (e.to ≡ b) → (e : Edge) × Contains (d ∷ edges) e × (e.from ≡ a) × (e.to ≡ b)
    later r = (r.0, later_of d edges r.0 r.1, r.2, r.3)

    go : (c : Bool) → eqb d.from a ≡ c → (Contains (heads_from a edges) b → (e : Edge) × Contains (d ∷ edges) e × (e.from ≡ a) × (e.to ≡ b))
        → Contains (map (λ (x : Edge). x.to) (cond c (d ∷ filter (λ (x : Edge). eqb x.from a) edges) (filter (λ (x : Edge). eqb x.from a) edges))) b → (e : Edge) × Contains (d ∷ edges) e × (e.from ≡ a) × (e.to ≡ b)
    go true q f k = ⊎_elim (λ (i : d.to ≡ b). (d, first_of d edges, eqb-true _ _ q, i)) (λ (i : Contains (heads_from a edges) b). f i) (cases_of d.to (heads_from a edges) b k)
    go false q f k = f k

-- both edges of a clause are among those of the clauses
clause_edges : (held : List Held) (h : Held) (e : Edge) → Contains held h → Contains (edges_in (binary_of h)) e → Contains (edges_of held) e
clause_edges [] h e c k = absurd (nothing h c)
clause_edges (x ∷ held) h e c k =
    ⊎_elim (λ (i : x ≡ h). Contains-append_left (edges_in (binary_of x)) (edges_of held) e (subst (λ (z : Held). Contains (edges_in (binary_of z)) e) (sym i) k))
    (λ (i : Contains held h). Contains-append_right (edges_in (binary_of x)) (edges_of held) e (clause_edges held h e i k)) (cases_of x held h c)

-- an edge comes from a clause
edge_clause : (held : List Held) (e : Edge) → Contains (edges_of held) e → (h : Held) × Contains held h × Contains (edges_in (binary_of h)) e
edge_clause [] e c = absurd (nothing e c)
edge_clause (x ∷ held) e c =
    ⊎_elim (λ (i : Contains (edges_in (binary_of x)) e). (x, first_of x held, i))
    (λ (i : Contains (edges_of held) e). let r : (h : Held) × Contains held h × Contains (edges_in (binary_of h)) e = edge_clause held e i in (r.0, later_of x held r.0 r.1, r.2))
    (Contains-append_cases (edges_in (binary_of x)) (edges_of held) e c)

pub binary_is : (held : List Held) (x y : InLit) (b : IsBinary held x y) → ◌≡◌ {A = Option (InLit × InLit)} (binary_of b.clause) (Some (x, y))
binary_is held x y b = ap (λ (c : Bool). cond c None (two_of b.clause.lits)) b.hard ∙ ap two_of b.lits

-- the edges of a clause of two literals
pub binary_edges : (held : List Held) (x y : InLit) → IsBinary held x y → Contains (edges_of held) (edge_of x y) × Contains (edges_of held) (edge_of y x)
binary_edges held x y b =
    let e : Contains (edges_in (binary_of b.clause)) (edge_of x y) = subst (λ (o : Option (InLit × InLit)). Contains (edges_in o) (edge_of x y)) (sym (binary_is held x y b)) (first_of (edge_of x y) (edge_of y x ∷ [])) in
    let f : Contains (edges_in (binary_of b.clause)) (edge_of y x) = subst (λ (o : Option (InLit × InLit)). Contains (edges_in o) (edge_of y x)) (sym (binary_is held x y b)) (later_of (edge_of x y) (edge_of y x ∷ []) (edge_of y x) (first_of (edge_of y x) [])) in
    (clause_edges held b.clause (edge_of x y) b.stands e, clause_edges held b.clause (edge_of y x) b.stands f)

comes_from : (held : List Held) (e : Edge) → Contains (edges_of held) e → ComesFrom held e.from e.to
comes_from held e c = let r : (h : Held) × Contains held h × Contains (edges_in (binary_of h)) e = edge_clause held e c in go r.0 r.1 (binary_of r.0) refl r.2
  where
    go : (h : Held) → Contains held h → (o : Option (InLit × InLit)) → binary_of h ≡ o → Contains (edges_in o) e → ComesFrom held e.from e.to
    go h s None f k = absurd (nothing e k)
    go h s (Some (x, y)) f k =
        let q : (h.learned ≡ false) × (h.lits ≡ x ∷ y ∷ []) = binary_lits h x y f in
        let b : IsBinary held x y = record { clause = h; stands = s; hard = q.0; lits = q.1 } in
        ⊎_elim (λ (i : edge_of x y ≡ e). record { first = x; second = y; clause = inl b; from = ap (λ (z : Edge). z.from) (sym i); to = ap (λ (z : Edge). z.to) (sym i) })
        (λ (i : Contains (edge_of y x ∷ []) e).
        let j : edge_of y x ≡ e = only (edge_of y x) e i in
        record { first = y; second = x; clause = inr b; from = ap (λ (z : Edge). z.from) (sym j); to = ap (λ (z : Edge). z.to) (sym j) })
        (cases_of (edge_of x y) (edge_of y x ∷ []) e k)

-- the whole graph tells all clauses
pub graph_tells : (held : List Held) (vars : ℕ) (g : List (List ℕ)) → IsBinaryGraph held vars g → TellsClauses g held
graph_tells held vars g t =
    record {
      each = λ x y b. let p : Contains (edges_of held) (edge_of x y) × Contains (edges_of held) (edge_of y x) = binary_edges held x y b in (edge (edge_of x y) p.0, edge (edge_of y x) p.1);
      only = λ a b h.
          let r : (e : Edge) × Contains (edges_of held) e × (e.from ≡ a) × (e.to ≡ b) = edge_from (edges_of held) a b (subst (λ (z : List ℕ). Contains z b) (t.heads a) h) in
          subst (λ (z : ℕ). ComesFrom held a z) r.3 (subst (λ (z : ℕ). ComesFrom held z r.0.to) r.2 (comes_from held r.0 r.1));
    }
  where
    edge : (e : Edge) → Contains (edges_of held) e → HasEdge g e.from e.to
    edge e c = subst (λ (z : List ℕ). Contains z e.to) (sym (t.heads e.from)) (head_of (edges_of held) e c)
