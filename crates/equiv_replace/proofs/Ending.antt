-- What replacing equivalent variables comes to.
use Rattle.std.proofs.Common.{◌≡◌, ℕ, ◌*◌, ◌<◌, Bool, true, false, not, List, [], ◌∷◌, length, refl, sym, ap, ap₂, subst, ◌∙◌, arith, ⊎_elim}
use Rattle.std.proofs.lemmas.Bool.{false≢true}
use Rattle.std.specs.List.{Contains, list_all}
use Rattle.sat_lits.specs.declared.literal.OwnLit.{OwnLit}
use Rattle.clause_store.specs.Store.{Store, Held}
use Rattle.var_maps.specs.Maps.{Maps, Matched}
use Rattle.state_laws.specs.Conditions.{IsContradicted}
use Rattle.state_laws.specs.Kernel.{Kernel, state_of, Standing}
use Rattle.equiv_replace.specs.declared.edges.Edge.{Edge}
use Rattle.equiv_replace.specs.Binary.{opposite, HasBinary, Implies, AreOnOneCycle, HasNoCycles}
use Rattle.equiv_replace.specs.Graphs.{HasEdge, AreRoots}
use Rattle.equiv_replace.specs.Nodes.{are_below, edge_of, edges_of, TellsClauses, IsBinaryGraph}
use Rattle.equiv_replace.specs.Replaced.{IsGraphOf, IsReplacing, Replaced, HasOpposites}
use Rattle.equiv_replace.proofs.Telling.{graph_tells, binary_edges}
use Rattle.equiv_replace.proofs.Starting.{stored_below, edge_inside, start_replacing, opposites_contradict}
use Rattle.equiv_replace.proofs.NoCycles.{Stored, stored, no_cycles, opposites_found}
use Rattle.equiv_replace.proofs.Walking.{nothing}

pub graph_of : (k : Kernel) (g : List (List ℕ)) (s : Store) (m : Maps) (vars : ℕ) → Standing k → s ≡ k.store → m ≡ k.maps → Matched m → vars ≡ length m.owners → IsBinaryGraph s.held vars g → IsGraphOf k g
graph_of k g s m vars t e f h v b =
    record {
      standing = t;
      matched = subst (λ (z : Maps). Matched z) f h;
      tells = subst (λ (z : Store). TellsClauses g z.held) e (graph_tells s.held vars g b);
      long = b.nodes ∙ ap (λ (n : ℕ). 2 * n) (v ∙ ap (λ (z : Maps). length z.owners) f);
    }

pub below_of : (k : Kernel) (s : Store) (m : Maps) (vars : ℕ) → Standing k → s ≡ k.store → m ≡ k.maps → vars ≡ length m.owners → list_all (are_below (2 * vars)) s.held ≡ true
below_of k s m vars t e f v =
    ap₂ (λ (held : List Held) (n : ℕ). list_all (are_below (2 * n)) held) (ap (λ (z : Store). z.held) e) (v ∙ ap (λ (z : Maps). length z.owners) f) ∙ stored_below k t

pub edges_inside : (k : Kernel) (g : List (List ℕ)) → IsGraphOf k g → (a b : ℕ) → HasEdge g a b → b < length g
edges_inside k g h a b e = edge_inside k g (length g) h.long h.standing h.tells a b e

pub starts : (k : Kernel) (g : List (List ℕ)) (roots : List ℕ) → IsGraphOf k g → AreRoots g roots → IsReplacing roots 0 k
starts k g roots h r = start_replacing k g roots h.standing h.tells r

pub contradicts : (k : Kernel) (g : List (List ℕ)) (roots : List ℕ) → IsGraphOf k g → AreRoots g roots → HasOpposites roots → IsContradicted (state_of k)
contradicts k g roots h r o = opposites_contradict k g roots h.tells r o

pub finds_opposites : (k : Kernel) (g : List (List ℕ)) (roots : List ℕ) → IsGraphOf k g → AreRoots g roots → (a : OwnLit) → AreOnOneCycle (state_of k).hard a (opposite a) → HasOpposites roots
finds_opposites k g roots h r a o = opposites_found k g roots h.standing h.matched h.tells h.long r a o

pub ends_without_cycles : (k n : Kernel) (g : List (List ℕ)) (roots : List ℕ) (vars count : ℕ) → IsGraphOf k g → AreRoots g roots → vars ≡ length k.maps.owners → (HasOpposites roots → ⊥)
    → IsReplacing roots vars n → Replaced k n count → count ≡ 0 → n.okay ≡ true → HasNoCycles (state_of n).hard
ends_without_cycles k n g roots vars count h r v none d c z o =
    let e : n ≡ k = c.same z o in
    let done : IsReplacing roots vars k = subst (λ (x : Kernel). IsReplacing roots vars x) e d in
    subst (λ (x : Kernel). HasNoCycles (state_of x).hard) (sym e)
    (no_cycles k g roots h.standing h.matched h.tells h.long r none (λ i l u. done.done i (omega arith) u))

-- without binary clauses no two literals lie on one cycle
pub no_edges_none : (k : Kernel) → edges_of k.store.held ≡ [] → HasNoCycles (state_of k).hard
no_edges_none k e a b o = leads_nowhere a b o.there
  where
    no_binary : (a b : OwnLit) → HasBinary (state_of k).hard a b → ⊥
    no_binary a b h = ⊎_elim (λ (x : Contains (state_of k).hard (a ∷ b ∷ [])). none (stored k.maps k.store.held a b x)) (λ (x : Contains (state_of k).hard (b ∷ a ∷ [])). none (stored k.maps k.store.held b a x)) h
      where
        none : {x y : OwnLit} → Stored k.maps k.store.held x y → ⊥
        none s = nothing (edge_of s.first s.second) (subst (λ (es : List Edge). Contains es (edge_of s.first s.second)) e (binary_edges k.store.held s.first s.second s.clause).0)

    leads_nowhere : (a b : OwnLit) → Implies (state_of k).hard a b → a ≡ b
    leads_nowhere a b (Implies.itself x) = refl
    leads_nowhere a b (Implies.onward x y z h p) = absurd (no_binary (opposite x) y h)

pub no_opposite_cycle : (k : Kernel) → HasNoCycles (state_of k).hard → (a : OwnLit) → AreOnOneCycle (state_of k).hard a (opposite a) → ⊥
no_opposite_cycle k n a o = differ a.negative (ap (λ (l : OwnLit). l.negative) (n a (opposite a) o))
  where
    differ : (b : Bool) → b ≡ not b → ⊥
    differ true e = false≢true (sym e)
    differ false e = false≢true e
