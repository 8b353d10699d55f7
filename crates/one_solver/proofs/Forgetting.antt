-- Learned clauses are dropped.
use Rattle.std.proofs.Common.{◌≡◌, ℕ, ◌==◌, Bool, true, false, cond, not, nat_lt, List, [], ◌∷◌, All, Contains, map, filter, refl, sym, ap, subst, ◌∙◌}
use Rattle.std.proofs.lemmas.List.Elements.{All-cons, All-head, All-tail, All-contains_itself}
use Rattle.clause_store.specs.Store.{Store, Held, IsKept, hard_of, learned_of, marked, without}
use Rattle.sat_lits.specs.declared.literal.OwnLit.{OwnLit}
use Rattle.var_maps.specs.Maps.{Maps}
use Rattle.state_laws.specs.State.{State}
use Rattle.state_laws.specs.Held.{own_clause, own_clauses}
use Rattle.state_laws.specs.MarkLaws.{filter_swap}
use Rattle.state_laws.specs.Moves.{with_learned}
use Rattle.sync_laws.specs.Met.{KeepsMet}
use Rattle.sync_laws.specs.Told.{IsToldClause}
use Rattle.sync_laws.specs.ToldLaws.{all_among}
use Rattle.sync_laws.specs.KeepLaws.{keeps_as, with_learned-KeepsMet}
use Rattle.state_laws.specs.Kernel.{Kernel, state_of, IsLearnedId}
use Rattle.state_laws.specs.KernelLearnLaws.{dropped, drop_learned_state}
use Rattle.one_solver.specs.Learned.{HasForgotten}

-- what all of some clauses are, those of them are that pass a test
fewer : (P : List OwnLit → Type 0) (m : Maps) (p : Held → Bool) (hs : List Held) → All P (own_clauses m (map (λ h. h.lits) hs)) → All P (own_clauses m (map (λ h. h.lits) (filter p hs)))
fewer P m p [] a = a
fewer P m p (h ∷ hs) a =
    go (p h) (All-head P (own_clause m h.lits) (own_clauses m (map (λ (k : Held). k.lits) hs)) a) (fewer P m p hs (All-tail P (own_clause m h.lits) (own_clauses m (map (λ (k : Held). k.lits) hs)) a))
  where
    go : (b : Bool) → P (own_clause m h.lits) → All P (own_clauses m (map (λ (k : Held). k.lits) (filter p hs))) → All P (own_clauses m (map (λ (k : Held). k.lits) (cond b (h ∷ filter p hs) (filter p hs))))
    go true q r = All-cons P (own_clause m h.lits) (own_clauses m (map (λ (k : Held). k.lits) (filter p hs))) q r
    go false q r = r

-- none is marked that was not, where one is dropped
fewer_marked : (k : Kernel) (id : ℕ) → All (Contains (state_of k).marked_learned) (state_of (dropped id k)).marked_learned
fewer_marked k id =
    subst (λ (hs : List Held). All (Contains (state_of k).marked_learned) (own_clauses k.maps (map (λ h. h.lits) hs))) (sym order)
    (fewer (Contains (state_of k).marked_learned) k.maps stays (filter (λ h. h.learned) (marked k.store)) (All-contains_itself (state_of k).marked_learned))
  where
    stays : Held → Bool
    stays h = not (h.id == id)

    order : filter (λ (h : Held). h.learned) (filter (λ h. nat_lt h.id k.store.mark) (without id k.store.held)) ≡ filter stays (filter (λ h. h.learned) (marked k.store))
    order =
        ap (filter (λ (h : Held). h.learned)) (filter_swap (λ (h : Held). nat_lt h.id k.store.mark) stays k.store.held)
        ∙ filter_swap (λ (h : Held). h.learned) stays (marked k.store)

-- one is
pub forgot_one : (k n : Kernel) (id : ℕ) → IsLearnedId k id → IsKept k.store → n ≡ dropped id k → HasForgotten k n
forgot_one k n id l s e = record {
  same = e ∙ ap (λ (z : Store). let m : Kernel = record k { store = z } in m) (sym (ap (λ (z : Kernel). z.store) e));
  hard = ap (λ (z : Kernel). (state_of z).hard) e ∙ ap (λ (z : State). z.hard) (drop_learned_state k id l s);
  marked = subst (λ (z : Kernel). All (Contains (state_of k).marked_learned) (state_of z).marked_learned) (sym e) (fewer_marked k id);
}

-- none is
pub forgot_none : (k : Kernel) → HasForgotten k k
forgot_none k = record { same = refl; hard = refl; marked = All-contains_itself (state_of k).marked_learned }

-- some are, and then some more
pub forgot_more : (k m n : Kernel) → HasForgotten k m → HasForgotten m n → HasForgotten k n
forgot_more k m n f g = record {
  same = g.same ∙ ap (λ (z : Kernel). let x : Kernel = record z { store = n.store } in x) f.same;
  hard = g.hard ∙ f.hard;
  marked = all_among (Contains (state_of k).marked_learned) (state_of m).marked_learned (state_of n).marked_learned g.marked f.marked;
}

-- and then the others have new ids
pub forgot_renumbered : (k m n : Kernel) → HasForgotten k m → n ≡ record m { store = n.store } → state_of n ≡ state_of m → HasForgotten k n
forgot_renumbered k m n f e q = forgot_more k m n f (record {
  same = e;
  hard = ap (λ (z : State). z.hard) q;
  marked = subst (λ (z : State). All (Contains (state_of m).marked_learned) z.marked_learned) (sym q) (All-contains_itself (state_of m).marked_learned);
})

-- what is met stays so
pub forgot_met : (k n : Kernel) → HasForgotten k n → KeepsMet (state_of k) (state_of n)
forgot_met k n f =
    keeps_as (state_of k) (with_learned learned left (state_of k)) (state_of n)
    (ap state_of f.same ∙ ap (λ (cs : List (List OwnLit)). let z : State = record (state_of k) { hard = cs; learned = learned; marked_learned = left } in z) hard)
    (with_learned-KeepsMet learned left (state_of k) (λ log. all_among (IsToldClause (state_of k) log) (state_of k).marked_learned left among))
  where
    learned : List (List OwnLit)
    learned = own_clauses k.maps (learned_of n.store.held)

    left : List (List OwnLit)
    left = own_clauses k.maps (learned_of (marked n.store))

    hard : own_clauses k.maps (hard_of n.store.held) ≡ (state_of k).hard
    hard = sym (ap (λ (z : Kernel). (state_of z).hard) f.same) ∙ f.hard

    among : All (Contains (state_of k).marked_learned) left
    among = subst (λ (z : Kernel). All (Contains (state_of k).marked_learned) (state_of z).marked_learned) f.same f.marked
