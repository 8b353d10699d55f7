-- What is kept where variables are eliminated, but those that are left of assumptions.
use Rattle.std.proofs.Common.{◌≡◌, ℕ, ◌+◌, ◌==◌, Bool, true, false, cond, not, List, [], ◌∷◌, ◌++◌, refl, sym, ap, subst, ◌∙◌, filter, map, count_by, length, arith, append_assoc, append-nil}
use Rattle.std.specs.List.{list_all}
use Rattle.std.proofs.lemmas.Bool.{and_parts, and_from, or_left, eqb-true, false≢true}
use Rattle.sat_lits.specs.ListLaws.{both_all, all_mono}
use Rattle.sat_lits.specs.declared.literal.Lit.{Lit}
use Rattle.sat_lits.specs.declared.literal.Own.{Own}
use Rattle.sat_lits.specs.declared.literal.OwnLit.{OwnLit}
use Rattle.rebuild_stack.specs.Roots.{root, root_passes, is_lost}
use Rattle.rebuild_stack.specs.declared.entry.Entry.{Entry}
use Rattle.rebuild_stack.specs.declared.entry.Entry.TheVariants.{Gone}
use Rattle.rebuild_stack.specs.declared.entry.Root.{Root}
use Rattle.rebuild_stack.specs.declared.entry.Root.TheVariants.{Known, Last, Lost}
use Rattle.clause_store.specs.Store.{Held, without, hard_of}
use Rattle.var_maps.specs.Maps.{Maps}
use Rattle.state_laws.specs.Held.{own_clauses}
use Rattle.state_laws.specs.State.{State, to_own}
use Rattle.state_laws.specs.Moves.{eliminated}
use Rattle.state_laws.specs.Resolution.{mentions}
use Rattle.state_laws.specs.Kernel.{Kernel, state_of}
use Rattle.var_elim.specs.Eliminating.{eliminate_each, AllCanGo, Eliminates, is_left}
use Rattle.var_elim.specs.Dropping.{Drops, without_each}
use Rattle.restore_var.specs.Needs.{is_among}
use Rattle.one_solver.specs.Roots.{root_in, is_free, last_vars}
use Rattle.one_solver.specs.Units.{is_short, HasNoUnits, StayFixed}
use Rattle.one_solver.proofs.Fixing.{one_fewer, stays_by}
use Rattle.one_solver.proofs.Freeing.{root_after, root_on, last_among}

-- a literal of a variable that is to be left comes to the same where another one is eliminated
same_root : (left : ℕ → Bool) (s : List Entry) (v : Own) (cs : List (List OwnLit)) (l : OwnLit) → left v.0 ≡ false → root_passes (λ k. left k.var.0) (root s l) ≡ true → root (s ++ Gone v cs ∷ []) l ≡ root s l
same_root left s v cs l g h = root_after s (Gone v cs ∷ []) l ∙ go (root s l) h
  where
    other : (k : OwnLit) → left k.var.0 ≡ true → (b : Bool) → (k.var.0 == v.0) ≡ b → cond b (Lost v) (Last k) ≡ Last k
    other k p false e = refl
    other k p true e = absurd (false≢true (sym g ∙ (ap left (sym (eqb-true _ _ e)) ∙ p)))

    go : (r : Root) → root_passes (λ k. left k.var.0) r ≡ true → root_on (Gone v cs ∷ []) r ≡ r
    go (Known x) p = refl
    go (Last k) p = other k p (k.var.0 == v.0) refl
    go (Lost w) p = refl

same_roots : (left : ℕ → Bool) (s : State) (vars : List Own) (l : OwnLit) → AllCanGo left s vars → root_passes (λ k. left k.var.0) (root s.stack l) ≡ true → root (eliminate_each s vars).stack l ≡ root s.stack l
same_roots left s [] l a h = refl
same_roots left s (v ∷ vars) l a h =
    let e : root (eliminated v s).stack l ≡ root s.stack l = same_root left s.stack v (filter (mentions v.0) s.hard) l a.0.0 h in
    same_roots left (eliminated v s) vars l a.1 (ap (root_passes (λ k. left k.var.0)) e ∙ h) ∙ e

-- the stack goes on
longer_stack : (s : State) (vars : List Own) → (es : List Entry) × ((eliminate_each s vars).stack ≡ s.stack ++ es)
longer_stack s [] = ([], sym (append-nil s.stack))
longer_stack s (v ∷ vars) =
    let (es, e) = longer_stack (eliminated v s) vars in
    (Gone v (filter (mentions v.0) s.hard) ∷ [] ++ es, e ∙ append_assoc s.stack (Gone v (filter (mentions v.0) s.hard) ∷ []) es)

-- each variable is active no more
each_less : (left : ℕ → Bool) (s : State) (vars : List Own) → AllCanGo left s vars → count_by (λ b. b) (eliminate_each s vars).active + length vars ≡ count_by (λ b. b) s.active
each_less left s [] a = omega arith
each_less left s (v ∷ vars) a =
    let one : count_by (λ b. b) (eliminated v s).active + 1 ≡ count_by (λ b. b) s.active = one_fewer s.active v.0 (and_parts _ _ a.0.1).0 in
    let rest : count_by (λ b. b) (eliminate_each (eliminated v s) vars).active + length vars ≡ count_by (λ b. b) (eliminated v s).active = each_less left (eliminated v s) vars a.1 in
    omega arith

module _ (k n : Kernel) (count : ℕ) (left : ℕ → Bool) (h : Eliminates count left (state_of k) (state_of n)) where
  pub gone_fewer : count_by (λ b. b) (state_of n).active + count ≡ count_by (λ b. b) (state_of k).active
  gone_fewer =
      let e : count_by (λ b. b) (state_of n).active ≡ count_by (λ b. b) (eliminate_each (state_of k) h.vars).active = ap (λ (s : State). count_by (λ b. b) s.active) h.state in
      omega (arith, e, each_less left (state_of k) h.vars h.could, h.count)

  pub gone_stays : StayFixed k n
  gone_stays = let (es, e) = longer_stack (state_of k) h.vars in stays_by k n es (ap (λ (s : State). s.stack) h.state ∙ e)

  pub none_gone : count ≡ 0 → state_of n ≡ state_of k
  none_gone e = h.state ∙ go h.vars (h.count ∙ e)
    where
      go : (vars : List Own) → length vars ≡ 0 → eliminate_each (state_of k) vars ≡ state_of k
      go [] f = refl
      go (v ∷ vars) f = absurd (omega arith)

  -- literals of variables that are to be left still come to no eliminated one
  pub left_free : (lits : List Lit) → list_all (λ l. root_passes (λ x. left x.var.0) (root_in k l)) lits ≡ true → n.definitions ≡ k.definitions → list_all (is_free k) lits ≡ true → list_all (is_free n) lits ≡ true
  left_free lits p d f = both_all (λ l. root_passes (λ x. left x.var.0) (root_in k l)) (is_free k) (is_free n) each lits p f
    where
      each : (l : Lit) → root_passes (λ x. left x.var.0) (root_in k l) ≡ true → is_free k l ≡ true → is_free n l ≡ true
      each l q g =
          ap (λ (s : State). not (is_lost (root s.stack (to_own n.definitions l)))) h.state
          ∙ (ap (λ ds. not (is_lost (root (eliminate_each (state_of k) h.vars).stack (to_own ds l)))) d ∙ (ap (λ r. not (is_lost r)) (same_roots left (state_of k) h.vars (to_own k.definitions l) h.could q) ∙ g))

-- the variables that are left of literals are to be left where they are frozen
pub frozen_left : (k : Kernel) (lits : List Lit) (frozen : List Own) (solver : ℕ) → frozen ≡ last_vars k lits → list_all (λ l. root_passes (λ x. is_left k.maps frozen solver x.var.0) (root_in k l)) lits ≡ true
frozen_left k lits frozen solver e =
    ap (λ (vs : List Own). list_all (λ l. root_passes (λ x. is_left k.maps vs solver x.var.0) (root_in k l)) lits) e
    ∙ all_mono (λ l. root_passes (λ x. is_among (last_vars k lits) x.var.0) (root_in k l)) (λ l. root_passes (λ x. is_left k.maps (last_vars k lits) solver x.var.0) (root_in k l)) (λ l. wider (root_in k l)) lits (last_among k lits)
  where
    wider : (r : Root) → root_passes (λ x. is_among (last_vars k lits) x.var.0) r ≡ true → root_passes (λ x. is_left k.maps (last_vars k lits) solver x.var.0) r ≡ true
    wider (Known x) g = refl
    wider (Last l) g = or_left _ _ g
    wider (Lost v) g = refl

-- what passes for all hard clauses passes for those that are left
still_all : (m : Maps) (p : List OwnLit → Bool) (i : ℕ) (held : List Held) → list_all p (own_clauses m (hard_of held)) ≡ true → list_all p (own_clauses m (hard_of (without i held))) ≡ true
still_all m p i [] e = e
still_all m p i (h ∷ held) e = go (h.id == i) (later (still_all m p i held) h.learned e) (still (still_all m p i held) h.learned e)
  where
    later : (list_all p (own_clauses m (hard_of held)) ≡ true → list_all p (own_clauses m (hard_of (without i held))) ≡ true) → (b : Bool)
        → list_all p (own_clauses m (map (λ (k : Held). k.lits) (cond (not b) (h ∷ filter (λ k. not k.learned) held) (filter (λ k. not k.learned) held)))) ≡ true
        → list_all p (own_clauses m (hard_of (without i held))) ≡ true
    later r true f = r f
    later r false f = r (and_parts _ _ f).1

    still : (list_all p (own_clauses m (hard_of held)) ≡ true → list_all p (own_clauses m (hard_of (without i held))) ≡ true) → (b : Bool)
        → list_all p (own_clauses m (map (λ (k : Held). k.lits) (cond (not b) (h ∷ filter (λ k. not k.learned) held) (filter (λ k. not k.learned) held)))) ≡ true
        → list_all p (own_clauses m (map (λ (k : Held). k.lits) (cond (not b) (h ∷ filter (λ k. not k.learned) (without i held)) (filter (λ k. not k.learned) (without i held))))) ≡ true
    still r true f = r f
    still r false f = and_from _ _ (and_parts _ _ f).0 (r (and_parts _ _ f).1)

    go : (b : Bool) → list_all p (own_clauses m (hard_of (without i held))) ≡ true → list_all p (own_clauses m (hard_of (h ∷ without i held))) ≡ true
        → list_all p (own_clauses m (hard_of (cond (not b) (h ∷ without i held) (without i held)))) ≡ true
    go true f g = f
    go false f g = g

still_each : (m : Maps) (p : List OwnLit → Bool) (ids : List ℕ) (held : List Held) → list_all p (own_clauses m (hard_of held)) ≡ true → list_all p (own_clauses m (hard_of (without_each held ids))) ≡ true
still_each m p [] held e = e
still_each m p (i ∷ ids) held e = still_each m p ids (without i held) (still_all m p i held e)

-- dropped clauses change nothing but the clauses
pub record OnlyDropped (k n : Kernel) : Type 0 where
  pub count : ℕ
  pub dropped : Drops count k.store.held n.store.held
  pub same : n ≡ record k { store = record k.store { held = n.store.held } }

pub dropped_left : (k n : Kernel) → OnlyDropped k n → (k.okay ≡ true → HasNoUnits k) → n.okay ≡ true → HasNoUnits n
dropped_left k n d h o =
    subst (λ (m : Maps). list_all (λ c. not (is_short c)) (own_clauses m (hard_of n.store.held)) ≡ true) (sym (ap (λ (z : Kernel). z.maps) d.same))
    (subst (λ (held : List Held). list_all (λ c. not (is_short c)) (own_clauses k.maps (hard_of held)) ≡ true) (sym d.dropped.left)
    (still_each k.maps (λ c. not (is_short c)) d.dropped.ids k.store.held (h (sym (ap (λ (z : Kernel). z.okay) d.same) ∙ o))))
