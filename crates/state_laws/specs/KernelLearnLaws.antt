-- A kernel stands when it is new, when clauses are learned or dropped, and when it is refuted.
use Rattle.std.proofs.Common.{◌≡◌, ℕ, ◌+◌, ◌<◌, ◌==◌, Bool, true, false, cond, not, ltb, List, [], ◌∷◌, ◌++◌, refl, sym, ap, ap₂, subst, ◌∙◌, arith, filter, map, option_map, Some, ltb-true, eqb-true, ne_eqb, append-nil}
use Rattle.std.proofs.lemmas.Bool.{and_parts}
use Rattle.std.specs.List.{list_all}
use Rattle.sat_lits.specs.Truth.{clause_value, clauses_value}
use Rattle.sat_lits.specs.ListLaws.{all_mono}
use Rattle.sat_lits.specs.declared.literal.OwnLit.{OwnLit}
use Rattle.sat_lits.specs.declared.literal.InLit.{InLit}
use Rattle.rebuild_stack.specs.Values.{own_value}
use Rattle.rebuild_stack.specs.PutIn.{is_clean}
use Rattle.clause_store.specs.Store.{Store, Held, IsKept, held_as, hard_of, learned_of, clause_at, without, rising, marked}
use Rattle.var_maps.specs.Maps.{Maps}
use Rattle.state_laws.specs.State.{State, is_active}
use Rattle.state_laws.specs.Stands.{Stands}
use Rattle.state_laws.specs.Moves.{learning, with_hard, with_learned}
use Rattle.state_laws.specs.Conditions.{Learnable, IsContradicted}
use Rattle.state_laws.specs.Held.{own_clause, own_clauses}
use Rattle.state_laws.specs.Kernel.{Kernel, no_kernel, state_of, Standing, IsLearnedId, IsImplied}
use Rattle.state_laws.specs.LearnLaws.{with_hard-Stands, with_learned-Stands, learning-Stands, refuted-Stands}
use Rattle.sat_lits.specs.ListLaws.{filter_all}
use Rattle.state_laws.specs.MarkLaws.{filter_swap}
use Rattle.state_laws.specs.ViewLaws.{clauses_of, clauses_of-append, fewer_pass}

none_below : (k : ℕ) (b : Bool) → ltb k 0 ≡ b → 0 + cond {A = ℕ} false 1 0 ≡ cond {A = ℕ} b 1 0
none_below k true e = absurd (let l : k < 0 = ltb-true _ _ e in omega arith)
none_below k false e = refl

-- a kernel that took nothing stands
pub no_kernel-Standing : Standing no_kernel
no_kernel-Standing =
    record {
      stands = record {
        sound = record { hard = λ w a. refl; learned = λ w a. refl; stack = λ w a. refl; okay = λ w a. refl };
        complete = record { rebuilt = λ o w c. record { whole = refl; holds = refl } };
        places = record { lengths = refl; placed = record { hard = refl; learned = refl; one_place = λ k. none_below k (ltb k 0) refl; in_order = refl } };
        ranges = record { items = refl; entries = refl; definitions = refl };
        clean = record { hard = refl; learned = refl; stack = refl };
      };
      outers = refl;
      private = refl;
      within = omega arith;
    }

-- a clause was added as a learned one
pub learned_state : (k : Kernel) (s : Store) (id : ℕ) (lits : List InLit) (c : List OwnLit) → s.held ≡ k.store.held ++ held_as id true lits ∷ [] → own_clause k.maps lits ≡ c → marked s ≡ marked k.store → state_of (record k { store = s }) ≡ learning c (state_of k)
learned_state k s id lits c h e q =
    ap (λ (hs : List Held). record (state_of (record k { store = s })) { marked_learned = own_clauses k.maps (learned_of hs) }) q
    ∙ ap₂ (λ (x y : List (List OwnLit)). record (state_of k) { hard = x; learned = y })
    (ap (clauses_of k.maps not) h ∙ (clauses_of-append k.maps not k.store.held (held_as id true lits ∷ []) ∙ append-nil (clauses_of k.maps not k.store.held)))
    (ap (clauses_of k.maps (λ b. b)) h ∙ (clauses_of-append k.maps (λ b. b) k.store.held (held_as id true lits ∷ []) ∙ ap (λ z. clauses_of k.maps (λ b. b) k.store.held ++ z ∷ []) e))

-- and it stands
pub learned-Standing : (k : Kernel) (s : Store) (id : ℕ) (lits : List InLit) (c : List OwnLit) → s.held ≡ k.store.held ++ held_as id true lits ∷ [] → own_clause k.maps lits ≡ c → marked s ≡ marked k.store → Learnable (state_of k) c → Standing k → Standing (record k { store = s })
learned-Standing k s id lits c h e q l t =
    record { stands = subst (λ (x : State). Stands x) (sym (learned_state k s id lits c h e q)) (learning-Stands c (state_of k) l t.stands); outers = t.outers; private = t.private; within = t.within }

-- a clause of one list is dropped, and the other list stays
other_held : (test : Bool → Bool) (b : Bool) (i : ℕ) (hs : List Held) → test b ≡ false → option_map (λ h. h.learned) (clause_at hs i) ≡ Some b → rising hs ≡ true → filter (λ (h : Held). test h.learned) (without i hs) ≡ filter (λ h. test h.learned) hs
other_held test b i [] f l r = refl
other_held test b i (h ∷ hs) f l r =
    let a : (list_all (λ k. ltb h.id k.id) hs ≡ true) × (rising hs ≡ true) = and_parts _ _ r in
    go (h.id == i) refl a.0 (λ e. other_held test b i hs f e a.1) l
  where
    some_bool : (x y : Bool) → Some x ≡ Some y → x ≡ y
    some_bool x y q = cc

    rest : (h.id == i) ≡ true → list_all (λ k. ltb h.id k.id) hs ≡ true → without i hs ≡ hs
    rest e a =
        filter_all (λ k. not (k.id == i)) hs
        (all_mono (λ (k : Held). ltb h.id k.id) (λ (k : Held). not (k.id == i)) (λ k q. ap not (ne_eqb k.id i (λ z. absurd (let u : h.id < k.id = ltb-true _ _ q in let v : h.id ≡ i = eqb-true _ _ e in omega arith)))) hs a)

    go : (c : Bool) → (h.id == i) ≡ c → list_all (λ k. ltb h.id k.id) hs ≡ true → (option_map (λ k. k.learned) (clause_at hs i) ≡ Some b → filter (λ (k : Held). test k.learned) (without i hs) ≡ filter (λ k. test k.learned) hs)
        → option_map (λ k. k.learned) (cond c (Some h) (clause_at hs i)) ≡ Some b
        → filter (λ (k : Held). test k.learned) (cond (not c) (h ∷ without i hs) (without i hs)) ≡ cond (test h.learned) (h ∷ filter (λ k. test k.learned) hs) (filter (λ k. test k.learned) hs)
    go true e a q s = rw (ap test (some_bool h.learned b s) ∙ f) (ap (filter (λ (k : Held). test k.learned)) (rest e a))
    go false e a q s = ap (λ (z : List Held). cond (test h.learned) (h ∷ z) z) (q s)

other_list : (m : Maps) (test : Bool → Bool) (b : Bool) (i : ℕ) (hs : List Held) → test b ≡ false → option_map (λ h. h.learned) (clause_at hs i) ≡ Some b → rising hs ≡ true → clauses_of m test (without i hs) ≡ clauses_of m test hs
other_list m test b i hs f l r = ap (λ (xs : List Held). own_clauses m (map (λ (h : Held). h.lits) xs)) (other_held test b i hs f l r)

-- nor does what is marked of the other list change
pub other_marked : (test : Bool → Bool) (b : Bool) (i : ℕ) (s : Store) → test b ≡ false → option_map (λ h. h.learned) (clause_at s.held i) ≡ Some b → rising s.held ≡ true
    → filter (λ (h : Held). test h.learned) (marked (record s { held = without i s.held })) ≡ filter (λ h. test h.learned) (marked s)
other_marked test b i s f l r =
    filter_swap (λ (h : Held). test h.learned) (λ h. ltb h.id s.mark) (without i s.held)
    ∙ (ap (filter (λ (h : Held). ltb h.id s.mark)) (other_held test b i s.held f l r)
    ∙ filter_swap (λ (h : Held). ltb h.id s.mark) (λ h. test h.learned) s.held)

-- the kernel without the clause of an id
abbrev pub dropped : ℕ → Kernel → Kernel
dropped id k = record k { store = record k.store { held = without id k.store.held } }

-- a learned clause was dropped
pub drop_learned_state : (k : Kernel) (id : ℕ) → IsLearnedId k id → IsKept k.store → state_of (dropped id k) ≡ with_learned (own_clauses k.maps (learned_of (without id k.store.held))) (own_clauses k.maps (learned_of (marked (dropped id k).store))) (state_of k)
drop_learned_state k id l n =
    ap (λ (x : List (List OwnLit)). record (state_of k) { hard = x; learned = own_clauses k.maps (learned_of (without id k.store.held)); marked_learned = own_clauses k.maps (learned_of (marked (dropped id k).store)) }) (other_list k.maps not true id k.store.held refl l n.rises)

-- and it stands
pub drop_learned-Standing : (k : Kernel) (id : ℕ) → IsLearnedId k id → IsKept k.store → Standing k → Standing (dropped id k)
drop_learned-Standing k id l n t =
    record {
      stands = subst (λ (x : State). Stands x) (sym (drop_learned_state k id l n))
          (with_learned-Stands (own_clauses k.maps (learned_of (without id k.store.held))) (own_clauses k.maps (learned_of (marked (dropped id k).store))) (state_of k)
          (λ w a. fewer_pass (clause_value (own_value w)) (λ h. not (h.id == id)) k.maps (λ b. b) k.store.held a.learned)
          (fewer_pass (list_all (λ (x : OwnLit). is_active (state_of k) x.var.0)) (λ h. not (h.id == id)) k.maps (λ b. b) k.store.held t.stands.places.placed.learned)
          (fewer_pass is_clean (λ h. not (h.id == id)) k.maps (λ b. b) k.store.held t.stands.clean.learned) t.stands);
      outers = t.outers;
      private = t.private;
      within = t.within;
    }

-- a hard clause that follows from the others was dropped
pub drop_implied_state : (k : Kernel) (id : ℕ) → IsImplied k id → IsKept k.store → state_of (dropped id k) ≡ with_hard (own_clauses k.maps (hard_of (without id k.store.held))) (state_of k)
drop_implied_state k id l n =
    ap (λ (hs : List Held). record (state_of (dropped id k)) { marked_learned = own_clauses k.maps (map (λ (h : Held). h.lits) hs) }) (other_marked (λ b. b) false id k.store refl l.hard n.rises)
    ∙ ap (λ (x : List (List OwnLit)). record (state_of k) { hard = own_clauses k.maps (hard_of (without id k.store.held)); learned = x }) (other_list k.maps (λ b. b) false id k.store.held refl l.hard n.rises)

both_ways : (a b : Bool) → (a ≡ true → b ≡ true) → (b ≡ true → a ≡ true) → a ≡ b
both_ways true b f g = sym (f refl)
both_ways false true f g = g refl
both_ways false false f g = refl

-- and it stands
pub drop_implied-Standing : (k : Kernel) (id : ℕ) → IsImplied k id → IsKept k.store → Standing k → Standing (dropped id k)
drop_implied-Standing k id l n t =
    record {
      stands = subst (λ (x : State). Stands x) (sym (drop_implied_state k id l n))
          (with_hard-Stands (own_clauses k.maps (hard_of (without id k.store.held))) (state_of k)
          (λ w. both_ways (clauses_value (own_value w) (own_clauses k.maps (hard_of (without id k.store.held)))) (clauses_value (own_value w) (own_clauses k.maps (hard_of k.store.held)))
          (l.follows w) (fewer_pass (clause_value (own_value w)) (λ h. not (h.id == id)) k.maps not k.store.held))
          (fewer_pass (list_all (λ (x : OwnLit). is_active (state_of k) x.var.0)) (λ h. not (h.id == id)) k.maps not k.store.held t.stands.places.placed.hard)
          (fewer_pass is_clean (λ h. not (h.id == id)) k.maps not k.store.held t.stands.clean.hard) t.stands);
      outers = t.outers;
      private = t.private;
      within = t.within;
    }

-- the kernel was refuted
pub refuted-Standing : (k : Kernel) → IsContradicted (state_of k) → Standing k → Standing (record k { okay = false })
refuted-Standing k f t = record { stands = refuted-Stands (state_of k) f t.stands; outers = t.outers; private = t.private; within = t.within }
