-- Where the marked clauses and the new ones of two literals were told, all learned clauses were.
use Rattle.std.proofs.Common.{◌≡◌, ◌<◌, ◌≤◌, ◌∙◌, ℕ, Bool, true, false, cond, nat_lt, ltb-true, ltb-false, lt-ltb, List, [], ◌∷◌, ◌++◌, Option, Some, None, length, map, filter, get_or, take, drop, refl, sym, ap, subst, arith, eq-eqb, take-append-drop}
use Rattle.std.proofs.lemmas.Bool.{and_from, false≢true}
use Rattle.std.proofs.lemmas.List.{length-map}
use Rattle.std.proofs.lemmas.List.Elements.{All-head, All-tail, All-cons, All-nil, All-append}
use Rattle.std.specs.List.{All, list_all, cons_option}
use Rattle.state_laws.specs.HeldLaws.{id_found}
use Rattle.sat_lits.specs.ListLaws.{all_at, all_mono}
use Rattle.sat_lits.specs.declared.literal.OwnLit.{OwnLit}
use Rattle.sat_lits.specs.declared.shared.Shared.{Shared}
use Rattle.clause_store.specs.Store.{Held, clause_at, learned_of, marked}
use Rattle.indexed_store.specs.Lists.{are_below}
use Rattle.indexed_store.specs.Occurrences.{clauses_at, is_pair}
use Rattle.indexed_store.specs.declared.short_id.ShortId.{ShortId}
use Rattle.var_maps.specs.Maps.{Maps}
use Rattle.state_laws.specs.State.{is_active}
use Rattle.state_laws.specs.Held.{own_of, own_clause, own_clauses}
use Rattle.state_laws.specs.Kernel.{Kernel, Standing, state_of}
use Rattle.private_state.specs.MovingLaws.{active_there}
use Rattle.sync_laws.specs.Told.{IsToldClause}
use Rattle.data_sync.specs.Giving.{IsToldAt}

-- what holds of each learned clause that is stored holds of each in own literals
listed : (m : Maps) (P : List OwnLit → Type 0) (hs : List Held) → All (λ h. h.learned ≡ true → P (own_clause m h.lits)) hs → All P (own_clauses m (learned_of hs))
listed m P [] a = All-nil P
listed m P (h ∷ hs) a = go h.learned refl (listed m P hs (All-tail (λ (x : Held). x.learned ≡ true → P (own_clause m x.lits)) h hs a))
  where
    go : (b : Bool) → h.learned ≡ b → All P (own_clauses m (learned_of hs)) → All P (map (own_clause m) (map (λ (x : Held). x.lits) (cond b (h ∷ filter (λ (x : Held). x.learned) hs) (filter (λ (x : Held). x.learned) hs))))
    go true e r = All-cons P (own_clause m h.lits) (own_clauses m (learned_of hs)) (All-head (λ (x : Held). x.learned ≡ true → P (own_clause m x.lits)) h hs a e) r
    go false e r = r

-- and the other way round
unlisted : (m : Maps) (P : List OwnLit → Type 0) (hs : List Held) → All P (own_clauses m (learned_of hs)) → All (λ h. h.learned ≡ true → P (own_clause m h.lits)) hs
unlisted m P [] a = All-nil (λ (x : Held). x.learned ≡ true → P (own_clause m x.lits))
unlisted m P (h ∷ hs) a = go h.learned refl (λ r. unlisted m P hs r) a
  where
    go : (b : Bool) → h.learned ≡ b → (All P (own_clauses m (learned_of hs)) → All (λ (x : Held). x.learned ≡ true → P (own_clause m x.lits)) hs) → All P (map (own_clause m) (map (λ (x : Held). x.lits) (cond b (h ∷ filter (λ (x : Held). x.learned) hs) (filter (λ (x : Held). x.learned) hs))))
        → All (λ (x : Held). x.learned ≡ true → P (own_clause m x.lits)) (h ∷ hs)
    go true e g r =
        All-cons (λ (x : Held). x.learned ≡ true → P (own_clause m x.lits)) h hs (λ _. All-head P (own_clause m h.lits) (own_clauses m (learned_of hs)) r)
        (g (All-tail P (own_clause m h.lits) (own_clauses m (learned_of hs)) r))
    go false e g r = All-cons (λ (x : Held). x.learned ≡ true → P (own_clause m x.lits)) h hs (λ f. absurd (false≢true (sym e ∙ f))) (g r)

-- what holds of all that pass a test holds of each that passes it
unfiltered : {X : Type 0} (p : X → Bool) (Q : X → Type 0) (xs : List X) → All Q (filter p xs) → All (λ x. p x ≡ true → Q x) xs
unfiltered {X = X} p Q [] a = All-nil (λ (x : X). p x ≡ true → Q x)
unfiltered {X = X} p Q (x ∷ xs) a = go (p x) refl (λ r. unfiltered p Q xs r) a
  where
    go : (b : Bool) → p x ≡ b → (All Q (filter p xs) → All (λ (y : X). p y ≡ true → Q y) xs) → All Q (cond b (x ∷ filter p xs) (filter p xs)) → All (λ (y : X). p y ≡ true → Q y) (x ∷ xs)
    go true e g r = All-cons (λ (y : X). p y ≡ true → Q y) x xs (λ _. All-head Q x (filter p xs) r) (g (All-tail Q x (filter p xs) r))
    go false e g r = All-cons (λ (y : X). p y ≡ true → Q y) x xs (λ f. absurd (false≢true (sym e ∙ f))) (g r)

-- what holds of the clause of each id, where it is live, holds of the clauses of the ids
of_ids : (hs : List Held) (Q : Held → Type 0) (ids : List ShortId) → All (λ id. (h : Held) → clause_at hs id.0 ≡ Some h → Q h) ids → All Q (clauses_at hs ids)
of_ids hs Q [] a = All-nil Q
of_ids hs Q (id ∷ ids) a = go (clause_at hs id.0) refl (of_ids hs Q ids (All-tail (λ (i : ShortId). (h : Held) → clause_at hs i.0 ≡ Some h → Q h) id ids a))
  where
    go : (o : Option Held) → clause_at hs id.0 ≡ o → All Q (clauses_at hs ids) → All Q (cons_option o (clauses_at hs ids))
    go None e r = r
    go (Some h) e r = All-cons Q h (clauses_at hs ids) (All-head (λ (i : ShortId). (x : Held) → clause_at hs i.0 ≡ Some x → Q x) id ids a h e) r

-- ids below the mark, and ids whose clauses were told: each clause from the mark on was told
each_id : (k : Kernel) (log : List Shared) (below from : List ShortId) → are_below k.store.mark below ≡ true → All (λ id. IsToldAt k log id.0) from
    → All (λ id. (h : Held) → clause_at k.store.held id.0 ≡ Some h → h.learned ≡ true → k.store.mark ≤ h.id → IsToldClause (state_of k) log (own_clause k.maps h.lits)) (below ++ from)
each_id k log below from b a =
    All-append (λ (id : ShortId). (h : Held) → clause_at k.store.held id.0 ≡ Some h → h.learned ≡ true → k.store.mark ≤ h.id → IsToldClause (state_of k) log (own_clause k.maps h.lits)) below from
    (λ n d l h e q m.
    let x : (get_or below n d).0 < k.store.mark = ltb-true _ _ (all_at (λ (id : ShortId). nat_lt id.0 k.store.mark) below n d l b) in
    let y : h.id ≡ (get_or below n d).0 = id_found k.store.held (get_or below n d).0 h e in
    absurd (omega (arith, x, y, m)))
    (λ n d l h e q m. a n d l h e q)

-- a clause that is not of two literals has nothing to tell
other_told : (k : Kernel) (log : List Shared) (h : Held) → is_pair h ≡ false → h.learned ≡ true → list_all (λ (l : OwnLit). nat_lt l.var.0 (length k.definitions)) (own_clause k.maps h.lits) ≡ true → IsToldClause (state_of k) log (own_clause k.maps h.lits)
other_told k log h p l t =
    record {
      there = t;
      pair = λ x y first second q i j.
          let a : length (own_clause k.maps h.lits) ≡ length h.lits = length-map h.lits (own_of k.maps) in
          let b : length (own_clause k.maps h.lits) ≡ 2 = ap length q in
          let c : length h.lits ≡ 2 = omega (arith, a, b) in
          absurd (false≢true (sym p ∙ and_from _ _ l (eq-eqb (length h.lits) 2 c)));
    }

-- where the marked ones were told, and those that came after them of two literals, all were
pub all_told : (k : Kernel) (log : List Shared) (ids : List ShortId) (start : ℕ) → Standing k → clauses_at k.store.held ids ≡ filter is_pair k.store.held → are_below k.store.mark (take start ids) ≡ true
    → All (λ id. IsToldAt k log id.0) (drop start ids) → All (IsToldClause (state_of k) log) (state_of k).marked_learned → All (IsToldClause (state_of k) log) (state_of k).learned
all_told k log ids start s e b a old =
    listed k.maps (IsToldClause (state_of k) log) k.store.held
    (λ n d l q. pick (get_or k.store.held n d) q (there n d l q) (marked_told n d l) (new_told n d l))
  where
    there : All (λ h. h.learned ≡ true → list_all (λ (x : OwnLit). nat_lt x.var.0 (length k.definitions)) (own_clause k.maps h.lits) ≡ true) k.store.held
    there =
        unlisted k.maps (λ c. list_all (λ (x : OwnLit). nat_lt x.var.0 (length k.definitions)) c ≡ true) k.store.held
        (λ n d l. all_mono (λ (x : OwnLit). is_active (state_of k) x.var.0) (λ (x : OwnLit). nat_lt x.var.0 (length k.definitions)) (λ x f. lt-ltb _ _ (active_there k x.var.0 s f)) (get_or (own_clauses k.maps (learned_of k.store.held)) n d)
        (all_at (list_all (λ (x : OwnLit). is_active (state_of k) x.var.0)) (own_clauses k.maps (learned_of k.store.held)) n d l s.stands.places.placed.learned))

    marked_told : All (λ h. nat_lt h.id k.store.mark ≡ true → h.learned ≡ true → IsToldClause (state_of k) log (own_clause k.maps h.lits)) k.store.held
    marked_told = unfiltered (λ (h : Held). nat_lt h.id k.store.mark) (λ h. h.learned ≡ true → IsToldClause (state_of k) log (own_clause k.maps h.lits)) k.store.held (unlisted k.maps (IsToldClause (state_of k) log) (marked k.store) old)

    new_told : All (λ h. is_pair h ≡ true → h.learned ≡ true → k.store.mark ≤ h.id → IsToldClause (state_of k) log (own_clause k.maps h.lits)) k.store.held
    new_told =
        unfiltered is_pair (λ (h : Held). h.learned ≡ true → k.store.mark ≤ h.id → IsToldClause (state_of k) log (own_clause k.maps h.lits)) k.store.held
        (subst (λ (hs : List Held). All (λ h. h.learned ≡ true → k.store.mark ≤ h.id → IsToldClause (state_of k) log (own_clause k.maps h.lits)) hs) e
        (of_ids k.store.held (λ h. h.learned ≡ true → k.store.mark ≤ h.id → IsToldClause (state_of k) log (own_clause k.maps h.lits)) ids
        (subst (λ (xs : List ShortId). All (λ id. (h : Held) → clause_at k.store.held id.0 ≡ Some h → h.learned ≡ true → k.store.mark ≤ h.id → IsToldClause (state_of k) log (own_clause k.maps h.lits)) xs) (take-append-drop start ids) (each_id k log (take start ids) (drop start ids) b a))))

    pick : (h : Held) → h.learned ≡ true → list_all (λ (x : OwnLit). nat_lt x.var.0 (length k.definitions)) (own_clause k.maps h.lits) ≡ true → (nat_lt h.id k.store.mark ≡ true → h.learned ≡ true → IsToldClause (state_of k) log (own_clause k.maps h.lits))
        → (is_pair h ≡ true → h.learned ≡ true → k.store.mark ≤ h.id → IsToldClause (state_of k) log (own_clause k.maps h.lits)) → IsToldClause (state_of k) log (own_clause k.maps h.lits)
    pick h q t m n = go (is_pair h) (nat_lt h.id k.store.mark) refl refl
      where
        go : (x y : Bool) → is_pair h ≡ x → nat_lt h.id k.store.mark ≡ y → IsToldClause (state_of k) log (own_clause k.maps h.lits)
        go x true f g = m g q
        go true false f g = n f q (ltb-false _ _ g)
        go false false f g = other_told k log h f q t
