-- What the roots say of the cycles of binary clauses.
use Rattle.std.proofs.Common.{◌≡◌, ◌≢◌, ℕ, suc, ◌+◌, ◌*◌, ◌/◌, ◌<◌, ◌≤◌, ◌⊎◌, Bool, true, false, not, cond, List, [], ◌∷◌, Some, Option, length, get_or, map, filter, refl, sym, ap, ap₂, subst, ◌∙◌, arith, inl, inr, ⊎_elim}
use Rattle.std.proofs.lemmas.Bool.{false≢true}
use Rattle.std.proofs.lemmas.List.Elements.{Contains-append_right, Contains-append_cases}
use Rattle.std.specs.List.{Contains}
use Rattle.std.specs.Option.{is_some}
use Rattle.sat_lits.specs.declared.literal.Own.{Own}
use Rattle.sat_lits.specs.declared.literal.OwnLit.{OwnLit}
use Rattle.sat_lits.specs.declared.literal.Inner.{Inner}
use Rattle.sat_lits.specs.declared.literal.InLit.{InLit}
use Rattle.clause_store.specs.Store.{Held, hard_of}
use Rattle.var_maps.specs.Maps.{Maps, Matched, inner_at, owner_at, number_or}
use Rattle.state_laws.specs.Held.{own_of, own_clause, own_clauses}
use Rattle.state_laws.specs.Kernel.{Kernel, state_of, Standing}
use Rattle.equiv_replace.specs.Binary.{opposite, HasBinary, Implies, AreOnOneCycle, HasNoCycles}
use Rattle.equiv_replace.specs.Graphs.{HasEdge, Leads, AreOnCycle, AreRoots}
use Rattle.equiv_replace.specs.Nodes.{node_of, negated, lit_of, flipped, IsBinary, TellsClauses}
use Rattle.equiv_replace.specs.Replaced.{IsUsed, root_var, HasOpposites}
use Rattle.equiv_replace.proofs.Walking.{leads_on, leads_edge}
use Rattle.equiv_replace.proofs.Nodes.{lit_node, flipped_odd, flipped_near, mirrored}
use Rattle.equiv_replace.proofs.Replacing.{own_is}
use Rattle.equiv_replace.proofs.Starting.{only_one, binary_used, used_below}

-- a hard clause in own literals is that of a stored one
hard_contains : (m : Maps) (held : List Held) (c : List OwnLit) → Contains (own_clauses m (hard_of held)) c → (h : Held) × Contains held h × (h.learned ≡ false) × (own_clause m h.lits ≡ c)
hard_contains m [] c k = absurd (let l : k.0 < 0 = k.1 in omega arith)
hard_contains m (x ∷ held) c k = go x.learned refl k (λ i. later (hard_contains m held c i))
  where
    later : (h : Held) × Contains held h × (h.learned ≡ false) × (own_clause m h.lits ≡ c) → (h : Held) × Contains (x ∷ held) h × (h.learned ≡ false) × (own_clause m h.lits ≡ c)
    later (h, s, e, f) = (h, Contains-append_right (x ∷ []) held h s, e, f)

    go : (b : Bool) → x.learned ≡ b → Contains (own_clauses m (map (λ (y : Held). y.lits) (cond (not b) (x ∷ filter (λ y. not y.learned) held) (filter (λ y. not y.learned) held)))) c
        → (Contains (own_clauses m (hard_of held)) c → (h : Held) × Contains (x ∷ held) h × (h.learned ≡ false) × (own_clause m h.lits ≡ c))
        → (h : Held) × Contains (x ∷ held) h × (h.learned ≡ false) × (own_clause m h.lits ≡ c)
    go true e i r = r i
    go false e i r =
        ⊎_elim (λ (j : Contains (own_clause m x.lits ∷ []) c). (x, (0, omega arith, refl), e, only_one (own_clause m x.lits) c j)) (λ (j : Contains (own_clauses m (hard_of held)) c). r j)
        (Contains-append_cases (own_clause m x.lits ∷ []) (own_clauses m (hard_of held)) c i)

-- two stored literals of a clause
pub record Stored (m : Maps) (held : List Held) (a b : OwnLit) : Type 0 where
  pub first : InLit
  pub second : InLit
  pub clause : IsBinary held first second
  pub first_is : own_of m first ≡ a
  pub second_is : own_of m second ≡ b

stored_two : (m : Maps) (held : List Held) (a b : OwnLit) (h : Held) → Contains held h → h.learned ≡ false → (lits : List InLit) → h.lits ≡ lits → own_clause m lits ≡ a ∷ b ∷ [] → Stored m held a b
stored_two m held a b h s e [] f g = absurd (let l : 0 ≡ 2 = ap length g in omega arith)
stored_two m held a b h s e (x ∷ []) f g = absurd (let l : 1 ≡ 2 = ap length g in omega arith)
stored_two m held a b h s e (x ∷ y ∷ []) f g = record { first = x; second = y; clause = record { clause = h; stands = s; hard = e; lits = f }; first_is = first (own_of m x) (own_of m y) g; second_is = second (own_of m x) (own_of m y) g }
  where
    first : (s t : OwnLit) → s ∷ t ∷ [] ≡ a ∷ b ∷ [] → s ≡ a
    first s t g = cc

    second : (s t : OwnLit) → s ∷ t ∷ [] ≡ a ∷ b ∷ [] → t ≡ b
    second s t g = cc
stored_two m held a b h s e (x ∷ y ∷ z ∷ lits) f g = absurd (let l : suc (suc (suc (length (own_clause m lits)))) ≡ 2 = ap length g in omega arith)

pub stored : (m : Maps) (held : List Held) (a b : OwnLit) → Contains (own_clauses m (hard_of held)) (a ∷ b ∷ []) → Stored m held a b
stored m held a b c =
    let h : (h : Held) × Contains held h × (h.learned ≡ false) × (own_clause m h.lits ≡ a ∷ b ∷ []) = hard_contains m held (a ∷ b ∷ []) c in
    stored_two m held a b h.0 h.1 h.2 h.0.lits refl h.3

-- the node of an own literal
abbrev code : Maps → OwnLit → ℕ
code m a = node_of (record { var = record { 0 = number_or 0 (inner_at m a.var.0) }; negative = a.negative })

code_is : (m : Maps) (x : InLit) (a : OwnLit) → Matched m → IsUsed m x.var.0 → own_of m x ≡ a → code m a ≡ node_of x
code_is m x a h u e =
    let v : own_of m x ≡ record { var = u.0; negative = x.negative } = own_is m x u.0 u.1 in
    ap (code m) (sym e ∙ v) ∙ ap (λ (o : Option Inner). node_of (record { var = record { 0 = number_or 0 o }; negative = x.negative })) (h.owner_inner x.var.0 u.0 u.1)

not_not : (b : Bool) → not (not b) ≡ b
not_not true = refl
not_not false = refl

opposite_is : (m : Maps) (x : InLit) (a : OwnLit) → own_of m x ≡ opposite a → own_of m (negated x) ≡ a
opposite_is m x a e = ap opposite e ∙ ap (λ (b : Bool). record { var = a.var; negative = b }) (not_not a.negative)

-- the inner number of a literal's variable
abbrev IsIn : Maps → OwnLit → Type 0
IsIn m a = (i : ℕ) × (owner_at m i ≡ Some a.var)

in_is : (m : Maps) (x : InLit) (a : OwnLit) → IsUsed m x.var.0 → own_of m x ≡ a → IsIn m a
in_is m x a u e = (x.var.0, u.1 ∙ ap Some (ap (λ (l : OwnLit). l.var) (sym (own_is m x u.0 u.1) ∙ e)))

-- a step along a clause is an edge
step : (k : Kernel) (g : List (List ℕ)) → Standing k → Matched k.maps → TellsClauses g k.store.held → (a b : OwnLit) → HasBinary (state_of k).hard (opposite a) b → HasEdge g (code k.maps a) (code k.maps b) × IsIn k.maps a
step k g s h t a b c = ⊎_elim first second c
  where
    first : Contains (state_of k).hard (opposite a ∷ b ∷ []) → HasEdge g (code k.maps a) (code k.maps b) × IsIn k.maps a
    first i =
        let x : Stored k.maps k.store.held (opposite a) b = stored k.maps k.store.held (opposite a) b i in
        let u : IsUsed k.maps x.first.var.0 × IsUsed k.maps x.second.var.0 = binary_used k s x.first x.second x.clause in
        let o : own_of k.maps (negated x.first) ≡ a = opposite_is k.maps x.first a x.first_is in
        let e : HasEdge g (node_of (negated x.first)) (node_of x.second) = (t.each x.first x.second x.clause).0 in (
          subst (λ (z : ℕ). HasEdge g z (code k.maps b)) (sym (code_is k.maps (negated x.first) a h u.0 o)) (subst (λ (z : ℕ). HasEdge g (node_of (negated x.first)) z) (sym (code_is k.maps x.second b h u.1 x.second_is)) e),
          in_is k.maps (negated x.first) a u.0 o,
        )

    second : Contains (state_of k).hard (b ∷ opposite a ∷ []) → HasEdge g (code k.maps a) (code k.maps b) × IsIn k.maps a
    second i =
        let x : Stored k.maps k.store.held b (opposite a) = stored k.maps k.store.held b (opposite a) i in
        let u : IsUsed k.maps x.first.var.0 × IsUsed k.maps x.second.var.0 = binary_used k s x.first x.second x.clause in
        let o : own_of k.maps (negated x.second) ≡ a = opposite_is k.maps x.second a x.second_is in
        let e : HasEdge g (node_of (negated x.second)) (node_of x.first) = (t.each x.first x.second x.clause).1 in (
          subst (λ (z : ℕ). HasEdge g z (code k.maps b)) (sym (code_is k.maps (negated x.second) a h u.1 o)) (subst (λ (z : ℕ). HasEdge g (node_of (negated x.second)) z) (sym (code_is k.maps x.first b h u.0 x.first_is)) e),
          in_is k.maps (negated x.second) a u.1 o,
        )

implies_leads : (k : Kernel) (g : List (List ℕ)) → Standing k → Matched k.maps → TellsClauses g k.store.held → (a b : OwnLit) → Implies (state_of k).hard a b → Leads g (code k.maps a) (code k.maps b)
implies_leads k g s h t a b (Implies.itself x) = Leads.here (code k.maps a)
implies_leads k g s h t a b (Implies.onward x y z e p) = leads_on (code k.maps a) (code k.maps y) (code k.maps b) (leads_edge (code k.maps a) (code k.maps y) (step k g s h t a y e).0) (implies_leads k g s h t y b p)

implies_in : (k : Kernel) (g : List (List ℕ)) → Standing k → Matched k.maps → TellsClauses g k.store.held → (a b : OwnLit) → Implies (state_of k).hard a b → (a ≡ b) ⊎ IsIn k.maps a
implies_in k g s h t a b (Implies.itself x) = inl refl
implies_in k g s h t a b (Implies.onward x y z e p) = inr (step k g s h t a y e).1

cycle_leads : (k : Kernel) (g : List (List ℕ)) → Standing k → Matched k.maps → TellsClauses g k.store.held → (a b : OwnLit) → AreOnOneCycle (state_of k).hard a b → AreOnCycle g (code k.maps a) (code k.maps b)
cycle_leads k g s h t a b o = record { there = implies_leads k g s h t a b o.there; back = implies_leads k g s h t b a o.back }

code_of : (m : Maps) (a : OwnLit) → Matched m → (i : IsIn m a) → code m a ≡ node_of (record { var = record { 0 = i.0 }; negative = a.negative })
code_of m a h i = ap (λ (o : Option Inner). node_of (record { var = record { 0 = number_or 0 o }; negative = a.negative })) (h.owner_inner i.0 a.var i.1)

node_cases : (i : ℕ) (b : Bool) → (node_of (record { var = record { 0 = i }; negative = b }) ≡ 2 * i) ⊎ (node_of (record { var = record { 0 = i }; negative = b }) ≡ 2 * i + 1)
node_cases i true = inr refl
node_cases i false = inl refl

in_below : (m : Maps) (a : OwnLit) (i : IsIn m a) → i.0 < length m.owners
in_below m a i = used_below m.owners i.0 (ap (λ (o : Option Own). is_some o) i.1)

-- where a variable is its own root and not that of its opposite, both its nodes are roots
fixed : (g : List (List ℕ)) (roots : List ℕ) → AreRoots g roots → ((a b : ℕ) → Leads g a b → Leads g (flipped b) (flipped a)) → (HasOpposites roots → ⊥) → (i : ℕ) → 2 * i + 1 < length g → root_var roots i ≡ i
    → (get_or roots (2 * i) 0 ≡ 2 * i) × (get_or roots (2 * i + 1) 0 ≡ 2 * i + 1)
fixed g roots r m n i l e = (even, odd)
  where
    even : get_or roots (2 * i) 0 ≡ 2 * i
    even = let b : get_or roots (2 * i) 0 ≤ 2 * i = r.least (2 * i) (omega arith) in omega arith

    odd : get_or roots (2 * i + 1) 0 ≡ 2 * i + 1
    odd =
        let c : ℕ = get_or roots (2 * i + 1) 0 in
        let b : c ≤ 2 * i + 1 = r.least (2 * i + 1) l in
        let o : AreOnCycle g (2 * i + 1) c = r.cycle (2 * i + 1) l in
        let p : AreOnCycle g (flipped c) (flipped (2 * i + 1)) = record { there = m (2 * i + 1) c o.there; back = m c (2 * i + 1) o.back } in
        let f : flipped (2 * i + 1) ≡ 2 * i = flipped_odd i in
        let q : c ≢ 2 * i = λ z. n (i, (let w : length roots ≡ length g = r.each in omega arith), even ∙ sym (r.same (2 * i + 1) (2 * i) l (omega arith) (subst (λ (y : ℕ). AreOnCycle g (2 * i + 1) y) z o) ∙ even) ∙ refl) in
        ⊎_elim (λ (y : (c ≡ 2 * (c / 2)) × (flipped c ≡ c + 1)).
        let j : flipped c < length g = omega arith in
        let s : get_or roots (flipped c) 0 ≡ 2 * i = r.same (flipped c) (2 * i) j (omega arith) (subst (λ (z : ℕ). AreOnCycle g (flipped c) z) f p) ∙ even in
        let t : get_or roots (flipped c) 0 ≤ flipped c = r.least (flipped c) j in
        omega arith)
        (λ (y : (c ≡ 2 * (c / 2) + 1) × (flipped c + 1 ≡ c)).
        let j : flipped c < length g = omega arith in
        let s : get_or roots (flipped c) 0 ≡ 2 * i = r.same (flipped c) (2 * i) j (omega arith) (subst (λ (z : ℕ). AreOnCycle g (flipped c) z) f p) ∙ even in
        let t : get_or roots (flipped c) 0 ≤ flipped c = r.least (flipped c) j in
        omega arith) (flipped_near c)

-- where no variable is replaced, no two literals lie on one cycle
pub no_cycles : (k : Kernel) (g : List (List ℕ)) (roots : List ℕ) → Standing k → Matched k.maps → TellsClauses g k.store.held → length g ≡ 2 * length k.maps.owners → AreRoots g roots → (HasOpposites roots → ⊥)
    → ((i : ℕ) → i < length k.maps.owners → IsUsed k.maps i → root_var roots i ≡ i) → HasNoCycles (state_of k).hard
no_cycles k g roots s h t n r none done a b o =
    ⊎_elim (λ (e : a ≡ b). e) (λ (i : IsIn k.maps a). ⊎_elim (λ (e : b ≡ a). sym e) (λ (j : IsIn k.maps b). same i j) (implies_in k g s h t b a o.back)) (implies_in k g s h t a b o.there)
  where
    lit : OwnLit → ℕ → InLit
    lit x i = record { var = record { 0 = i }; negative = x.negative }

    rooted : (x : OwnLit) (i : IsIn k.maps x) → (get_or roots (node_of (lit x i.0)) 0 ≡ node_of (lit x i.0)) × (node_of (lit x i.0) < length g)
    rooted x i =
        let l : i.0 < length k.maps.owners = in_below k.maps x i in
        let f : (get_or roots (2 * i.0) 0 ≡ 2 * i.0) × (get_or roots (2 * i.0 + 1) 0 ≡ 2 * i.0 + 1) = fixed g roots r (mirrored g k.store.held t) none i.0 (omega arith) (done i.0 l (x.var, i.1)) in
        ⊎_elim (λ (e : node_of (lit x i.0) ≡ 2 * i.0). (ap (λ (z : ℕ). get_or roots z 0) e ∙ (f.0 ∙ sym e), omega arith))
        (λ (e : node_of (lit x i.0) ≡ 2 * i.0 + 1). (ap (λ (z : ℕ). get_or roots z 0) e ∙ (f.1 ∙ sym e), omega arith)) (node_cases i.0 x.negative)

    same : IsIn k.maps a → IsIn k.maps b → a ≡ b
    same i j =
        let x : (get_or roots (node_of (lit a i.0)) 0 ≡ node_of (lit a i.0)) × (node_of (lit a i.0) < length g) = rooted a i in
        let y : (get_or roots (node_of (lit b j.0)) 0 ≡ node_of (lit b j.0)) × (node_of (lit b j.0) < length g) = rooted b j in
        let c : AreOnCycle g (node_of (lit a i.0)) (node_of (lit b j.0)) = subst (λ (z : ℕ). AreOnCycle g z (node_of (lit b j.0))) (code_of k.maps a h i) (subst (λ (z : ℕ). AreOnCycle g (code k.maps a) z) (code_of k.maps b h j) (cycle_leads k g s h t a b o)) in
        let e : node_of (lit a i.0) ≡ node_of (lit b j.0) = sym x.0 ∙ (r.same (node_of (lit a i.0)) (node_of (lit b j.0)) x.1 y.1 c ∙ y.0) in
        let f : lit a i.0 ≡ lit b j.0 = sym (lit_node (lit a i.0)) ∙ (ap lit_of e ∙ lit_node (lit b j.0)) in
        let v : ◌≡◌ {A = Option Own} (Some a.var) (Some b.var) = sym i.1 ∙ (ap (λ (l : InLit). owner_at k.maps l.var.0) f ∙ j.1) in
        ap₂ (λ (w : Own) (z : Bool). record { var = w; negative = z }) (one a.var b.var v) (ap (λ (l : InLit). l.negative) f)
      where
        one : (v w : Own) → Some v ≡ Some w → v ≡ w
        one v w e = cc

-- a literal on a cycle with its opposite has the opposite's root
pub opposites_found : (k : Kernel) (g : List (List ℕ)) (roots : List ℕ) → Standing k → Matched k.maps → TellsClauses g k.store.held → length g ≡ 2 * length k.maps.owners → AreRoots g roots
    → (a : OwnLit) → AreOnOneCycle (state_of k).hard a (opposite a) → HasOpposites roots
opposites_found k g roots s h t n r a o = ⊎_elim (λ (e : a ≡ opposite a). absurd (not_same a.negative (ap (λ (l : OwnLit). l.negative) e))) found (implies_in k g s h t a (opposite a) o.there)
  where
    not_same : (b : Bool) → b ≡ not b → ⊥
    not_same true e = false≢true (sym e)
    not_same false e = false≢true e

    found : IsIn k.maps a → HasOpposites roots
    found i = go a.negative refl
      where
        l : 2 * i.0 + 1 < length g
        l = let b : i.0 < length k.maps.owners = in_below k.maps a i in omega arith

        c : AreOnCycle g (node_of (record { var = record { 0 = i.0 }; negative = a.negative })) (node_of (record { var = record { 0 = i.0 }; negative = not a.negative }))
        c = subst (λ (z : ℕ). AreOnCycle g z (node_of (record { var = record { 0 = i.0 }; negative = not a.negative }))) (code_of k.maps a h i)
            (subst (λ (z : ℕ). AreOnCycle g (code k.maps a) z) (code_of k.maps (opposite a) h i) (cycle_leads k g s h t a (opposite a) o))

        there : 2 * i.0 + 1 < length roots
        there = let e : length roots ≡ length g = r.each in let m : 2 * i.0 + 1 < length g = l in omega arith

        go : (b : Bool) → a.negative ≡ b → HasOpposites roots
        go true e =
            let d : AreOnCycle g (2 * i.0 + 1) (2 * i.0) = subst (λ (z : Bool). AreOnCycle g (node_of (record { var = record { 0 = i.0 }; negative = z })) (node_of (record { var = record { 0 = i.0 }; negative = not z }))) e c in
            (i.0, there, sym (r.same (2 * i.0 + 1) (2 * i.0) l (let m : 2 * i.0 + 1 < length g = l in omega arith) d))
        go false e =
            let d : AreOnCycle g (2 * i.0) (2 * i.0 + 1) = subst (λ (z : Bool). AreOnCycle g (node_of (record { var = record { 0 = i.0 }; negative = z })) (node_of (record { var = record { 0 = i.0 }; negative = not z }))) e c in
            (i.0, there, r.same (2 * i.0) (2 * i.0 + 1) (let m : 2 * i.0 + 1 < length g = l in omega arith) l d)
