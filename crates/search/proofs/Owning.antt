-- Clauses over inner numbers in use, in own literals.
use Rattle.std.proofs.Common.{◌≡◌, ℕ, Bool, true, false, cond, not, eqb, ◌&&◌, List, [], ◌∷◌, length, map, filter, get_or, Option, Some, None, refl, sym, ap, ap₂, ◌∙◌, arith, eq-eqb}
use Rattle.std.specs.Option.{is_some}
use Rattle.std.proofs.lemmas.Bool.{and_parts, and_from, eqb-true, false≢true, not-true, not_from_false, false_from_ne_true, both_ways}
use Rattle.std.proofs.lemmas.Option.{none-some, same_Some}
use Rattle.std.proofs.lemmas.List.{get_or_past, length-map}
use Rattle.std.proofs.Math.ListN.{get_or-map}
use Rattle.std.specs.List.{list_any, list_all}
use Rattle.sat_lits.specs.Truth.{clause_value}
use Rattle.sat_lits.specs.ListLaws.{any_mono, any_map}
use Rattle.sat_lits.specs.ClauseLaws.{clause_value-map, clauses_value-map}
use Rattle.sat_lits.specs.declared.literal.Own.{Own}
use Rattle.sat_lits.specs.declared.literal.OwnLit.{OwnLit}
use Rattle.sat_lits.specs.declared.literal.Inner.{Inner}
use Rattle.sat_lits.specs.declared.literal.InLit.{InLit}
use Rattle.rebuild_stack.specs.Values.{own_value, each_lit}
use Rattle.rebuild_stack.specs.Roots.{turned}
use Rattle.rebuild_stack.specs.PutIn.{is_clean, same_lit}
use Rattle.clause_store.specs.Store.{Held, hard_of, learned_of}
use Rattle.propagate.specs.Reasons.{lit_value}
use Rattle.analyze.specs.LearnedClauses.{has_each_once, ClauseFollows}
use Rattle.var_maps.specs.Maps.{Maps, Matched, owner_at, inner_at}
use Rattle.state_laws.specs.Held.{own_or, own_of, own_clause, own_clauses}
use Rattle.state_laws.specs.State.{is_active}
use Rattle.state_laws.specs.Conditions.{Learnable}
use Rattle.state_laws.specs.Kernel.{Kernel, state_of, Standing}
use Rattle.search.specs.InUse.{in_use, is_among, lits_among, clauses_among}
use Rattle.search.proofs.Using.{among_owned, owned_among}

-- what the hard and the learned clauses pass, all do
held_all : (p : List InLit → Bool) (held : List Held) → list_all p (hard_of held) ≡ true → list_all p (learned_of held) ≡ true → list_all (λ h. p h.lits) held ≡ true
held_all p [] a b = refl
held_all p (h ∷ rest) a b = go h.learned a b (held_all p rest)
  where
    go : (x : Bool) → list_all p (map (λ (c : Held). c.lits) (cond (not x) (h ∷ filter (λ c. not c.learned) rest) (filter (λ c. not c.learned) rest))) ≡ true
        → list_all p (map (λ (c : Held). c.lits) (cond x (h ∷ filter (λ c. c.learned) rest) (filter (λ c. c.learned) rest))) ≡ true
        → (list_all p (hard_of rest) ≡ true → list_all p (learned_of rest) ≡ true → list_all (λ c. p c.lits) rest ≡ true) → (p h.lits && list_all (λ c. p c.lits) rest) ≡ true
    go true f g more = let q : (p h.lits ≡ true) × (list_all p (learned_of rest) ≡ true) = and_parts _ _ g in and_from _ _ q.0 (more f q.1)
    go false f g more = let q : (p h.lits ≡ true) × (list_all p (hard_of rest) ≡ true) = and_parts _ _ f in and_from _ _ q.0 (more q.1 g)

-- a stored literal whose own variable is active has a number in use
active_among : (k : Kernel) (l : InLit) → is_active (state_of k) (own_of k.maps l).var.0 ≡ true → is_among (in_use k.maps) l.var.0 ≡ true
active_among k l e = owned_among k.maps.owners l.var.0 (go (owner_at k.maps l.var.0) e)
  where
    go : (o : Option Own) → get_or (map is_some k.maps.inners) (own_or (length k.maps.inners) o).0 false ≡ true → is_some o ≡ true
    go (Some v) f = refl
    go None f = absurd (false≢true (sym (get_or_past (map is_some k.maps.inners) (length k.maps.inners) false (let n : length (map is_some k.maps.inners) ≡ length k.maps.inners = length-map k.maps.inners is_some in omega arith)) ∙ f))

-- the variables of all clauses of a state are in use
clauses_active : (k : Kernel) (cs : List (List InLit)) → each_lit (λ l. is_active (state_of k) l.var.0) (own_clauses k.maps cs) ≡ true → list_all (lits_among (in_use k.maps)) cs ≡ true
clauses_active k [] e = refl
clauses_active k (c ∷ cs) e =
    let p : (list_all (λ l. is_active (state_of k) l.var.0) (own_clause k.maps c) ≡ true) × (each_lit (λ l. is_active (state_of k) l.var.0) (own_clauses k.maps cs) ≡ true) = and_parts _ _ e in
    and_from _ _ (lits c p.0) (clauses_active k cs p.1)
  where
    lits : (ls : List InLit) → list_all (λ l. is_active (state_of k) l.var.0) (own_clause k.maps ls) ≡ true → lits_among (in_use k.maps) ls ≡ true
    lits [] f = refl
    lits (l ∷ ls) f =
        let q : (is_active (state_of k) (own_of k.maps l).var.0 ≡ true) × (list_all (λ r. is_active (state_of k) r.var.0) (own_clause k.maps ls) ≡ true) = and_parts _ _ f in
        and_from _ _ (active_among k l q.0) (lits ls q.1)

pub held_among : (k : Kernel) → Standing k → clauses_among (in_use k.maps) k.store.held ≡ true
held_among k s =
    held_all (lits_among (in_use k.maps)) k.store.held
    (clauses_active k (hard_of k.store.held) s.stands.places.placed.hard) (clauses_active k (learned_of k.store.held) s.stands.places.placed.learned)

-- the owner of a number in use
pub record Owner (m : Maps) (i : ℕ) : Type 0 where
  pub own : Own
  pub has : owner_at m i ≡ Some own
  pub back : inner_at m own.0 ≡ Some (record { 0 = i })

pub owner_of : (m : Maps) (i : ℕ) → Matched m → is_among (in_use m) i ≡ true → Owner m i
owner_of m i k e = go (owner_at m i) refl (among_owned m.owners i e)
  where
    go : (o : Option Own) → owner_at m i ≡ o → is_some o ≡ true → Owner m i
    go None f g = absurd (false≢true g)
    go (Some v) f g = record { own = v; has = f; back = k.owner_inner i v f }

same_number : (i j : ℕ) → ◌≡◌ {A = Option Inner} (Some (record { 0 = i })) (Some (record { 0 = j })) → i ≡ j
same_number i j e = ap (λ (z : Inner). z.0) (same_Some (record { 0 = i }) (record { 0 = j }) e)

-- two literals in use that are one in own numbers are one
own_of-same : (m : Maps) (k l : InLit) → Matched m → is_among (in_use m) l.var.0 ≡ true → own_of m k ≡ own_of m l → k ≡ l
own_of-same m k l a e f =
    let o : Owner m l.var.0 = owner_of m l.var.0 a e in
    let v : own_or (length m.inners) (owner_at m k.var.0) ≡ o.own = ap (λ (z : OwnLit). z.var) f ∙ ap (own_or (length m.inners)) o.has in
    ap₂ (λ (n : ℕ) (b : Bool). record { var = record { 0 = n }; negative = b }) (number o (owner_at m k.var.0) refl v) (ap (λ (z : OwnLit). z.negative) f)
  where
    number : (o : Owner m l.var.0) (p : Option Own) → owner_at m k.var.0 ≡ p → own_or (length m.inners) p ≡ o.own → k.var.0 ≡ l.var.0
    number o (Some u) g h = same_number k.var.0 l.var.0 (sym (a.owner_inner k.var.0 u g) ∙ (ap (λ (z : Own). inner_at m z.0) h ∙ o.back))
    number o None g h = absurd (none-some (record { 0 = l.var.0 }) (sym (get_or_past m.inners (length m.inners) None (omega arith)) ∙ (ap (λ (z : Own). inner_at m z.0) h ∙ o.back)))

-- the own variables of numbers in use are active
own_active : (k : Kernel) (lits : List InLit) → Matched k.maps → lits_among (in_use k.maps) lits ≡ true → list_all (λ l. is_active (state_of k) l.var.0) (own_clause k.maps lits) ≡ true
own_active k [] a e = refl
own_active k (l ∷ ls) a e =
    let p : (is_among (in_use k.maps) l.var.0 ≡ true) × (lits_among (in_use k.maps) ls ≡ true) = and_parts _ _ e in
    let o : Owner k.maps l.var.0 = owner_of k.maps l.var.0 a p.0 in
    and_from _ _ (ap (λ (z : Option Own). get_or (map is_some k.maps.inners) (own_or (length k.maps.inners) z).0 false) o.has ∙ (get_or-map is_some k.maps.inners o.own.0 None ∙ ap is_some o.back)) (own_active k ls a p.1)

-- a clause in which no variable stands twice has none twice in own numbers either
own_clean : (m : Maps) (lits : List InLit) → Matched m → lits_among (in_use m) lits ≡ true → has_each_once lits ≡ true → is_clean (own_clause m lits) ≡ true
own_clean m [] a e f = refl
own_clean m (l ∷ ls) a e f =
    let p : (is_among (in_use m) l.var.0 ≡ true) × (lits_among (in_use m) ls ≡ true) = and_parts _ _ e in
    let q : (not (list_any (λ k. eqb l.var.0 k.var.0) ls) ≡ true) × (has_each_once ls ≡ true) = and_parts _ _ f in
    and_from _ _ (and_from _ _ (none (λ (z : OwnLit). same_lit (own_of m l) z) (λ k x. (and_parts _ _ x).0) p.0 (not-true _ q.0)) (none (λ (z : OwnLit). same_lit (turned true (own_of m l)) z) (λ k x. (and_parts _ _ x).0) p.0 (not-true _ q.0)))
    (own_clean m ls a p.1 q.1)
  where
    none : (same : OwnLit → Bool) → ((k : InLit) → same (own_of m k) ≡ true → eqb (own_of m l).var.0 (own_of m k).var.0 ≡ true) → is_among (in_use m) l.var.0 ≡ true → list_any (λ k. eqb l.var.0 k.var.0) ls ≡ false → not (list_any same (own_clause m ls)) ≡ true
    none same h i n = not_from_false _ (false_from_ne_true _ (λ (x : list_any same (own_clause m ls) ≡ true).
        both_ways _ n (any_mono (λ (k : InLit). same (own_of m k)) (λ (k : InLit). eqb l.var.0 k.var.0)
        (λ k y. eq-eqb _ _ (ap (λ (z : InLit). z.var.0) (sym (own_of-same m (record k { negative = l.negative }) l a i (one k (eqb-true _ _ (h k y))))))) ls (sym (any_map same (own_of m) ls) ∙ x))))
      where
        one : (k : InLit) → (own_of m l).var.0 ≡ (own_of m k).var.0 → own_of m (record k { negative = l.negative }) ≡ own_of m l
        one k z = ap (λ (n : ℕ). record { var = record { 0 = n }; negative = l.negative }) (sym z)

-- a clause that follows from what is held may be learned
pub may_learn : (k : Kernel) (lits : List InLit) → Matched k.maps → lits_among (in_use k.maps) lits ≡ true → has_each_once lits ≡ true → ClauseFollows k.store.held lits → Learnable (state_of k) (own_clause k.maps lits)
may_learn k lits a e f g = record {
  active = own_active k lits a e;
  clean = own_clean k.maps lits a e f;
  follows = λ w s. clause_value-map (own_value w) (own_of k.maps) lits ∙ g (inner w)
      (held_all (clause_value (lit_value (inner w))) k.store.held
      (sym (clauses_value-map (own_value w) (own_of k.maps) (hard_of k.store.held)) ∙ s.hard)
      (sym (clauses_value-map (own_value w) (own_of k.maps) (learned_of k.store.held)) ∙ s.learned));
}
  where
    inner : (ℕ → Bool) → ℕ → Bool
    inner w i = w (own_or (length k.maps.inners) (owner_at k.maps i)).0
