-- Stored clauses read in own literals, when the store or the maps change.
use Rattle.std.proofs.Common.{◌≡◌, ℕ, zero, suc, ◌==◌, Bool, true, false, cond, not, ◌&&◌, List, [], ◌∷◌, ◌++◌, refl, sym, ap, ap₂, subst, ◌∙◌, length, get_or, set, filter, map, take, Option, Some, None, is_some, ne_eqb, eqb-true, eq-eqb, get_or-set_other, ⊎_elim, ◌≤◌}
use Rattle.std.proofs.lemmas.Bool.{and_parts, and_from, or_left, or_right, false≢true, false_from_ne_true, or_cases}
use Rattle.std.proofs.lemmas.List.{map-append}
use Rattle.std.proofs.lemmas.List.Elements.{filter-append}
use Rattle.std.proofs.Math.ListN.{get_or-map}
use Rattle.std.specs.Bool.{beq}
use Rattle.std.specs.List.{list_all, list_any, cons_option}
use Rattle.sat_lits.specs.ListLaws.{all_mono}
use Rattle.sat_lits.specs.InLits.{is_distinct, same_lit as same_in_lit}
use Rattle.sat_lits.specs.declared.literal.Own.{Own}
use Rattle.sat_lits.specs.declared.literal.OwnLit.{OwnLit}
use Rattle.sat_lits.specs.declared.literal.Inner.{Inner}
use Rattle.sat_lits.specs.declared.literal.Var.{Var}
use Rattle.sat_lits.specs.declared.literal.InLit.{InLit}
use Rattle.sat_lits.specs.declared.formula.Item.{Item}
use Rattle.sat_lits.specs.declared.shared.Shared.{Shared}
use Rattle.rebuild_stack.specs.Values.{each_lit}
use Rattle.rebuild_stack.specs.Roots.{turned}
use Rattle.rebuild_stack.specs.PutIn.{same_lit, put_in, put_in_all, is_clean}
use Rattle.rebuild_stack.specs.declared.entry.Entry.{Entry}
use Rattle.rebuild_stack.specs.declared.entry.Root.{Root}
use Rattle.clause_store.specs.Store.{Store, Held, IsKept, hard_of, learned_of, marked}
use Rattle.var_maps.specs.Maps.{Maps, Matched, inner_at, owner_at, retired, number_or}
use Rattle.state_laws.specs.declared.definition.Definition.{Definition}
use Rattle.state_laws.specs.State.{State, outers_from}
use Rattle.state_laws.specs.Stands.{Stands}
use Rattle.state_laws.specs.Resolution.{mentions}
use Rattle.state_laws.specs.Held.{own_or, own_of, own_clause, own_clauses, InClause, OwnClause, strip, in_own, hard_clause, relisted, put_each, touches, has_id_among, without_ids, ExtendsBy}
use Rattle.state_laws.specs.Kernel.{Kernel, state_of, Standing}
use Rattle.state_laws.specs.HeldLaws.{drop_those, keep_news}

-- a kernel with these parts is seen as the state that has them
pub state_of_parts : (k : Kernel) {items : List Item} {entries : List Shared} {definitions : List (Option Definition)} {hard learned : List (List OwnLit)} {stack : List Entry} {active : List Bool} {okay : Bool} {marked_learned : List (List OwnLit)} {marked_stack : List Entry}
    → k.items ≡ items → k.entries ≡ entries → k.definitions ≡ definitions → own_clauses k.maps (hard_of k.store.held) ≡ hard → own_clauses k.maps (learned_of k.store.held) ≡ learned
    → k.stack ≡ stack → map is_some k.maps.inners ≡ active → k.okay ≡ okay
    → own_clauses k.maps (learned_of (marked k.store)) ≡ marked_learned → take k.stack_mark k.stack ≡ marked_stack
    → state_of k ≡ record { items = items; entries = entries; definitions = definitions; hard = hard; learned = learned; stack = stack; active = active; okay = okay; marked_learned = marked_learned; marked_stack = marked_stack }
state_of_parts k i e d h l s a o m t = rw (m, t, i, e, d, h, l, s, a, o) refl

-- the stored clauses whose list passes a test, in own literals
abbrev pub clauses_of : Maps → (Bool → Bool) → List Held → List (List OwnLit)
clauses_of m test held = own_clauses m (map (λ h. h.lits) (filter (λ h. test h.learned) held))

-- the clauses of a list of both kinds that pass it
abbrev pub listed : (Bool → Bool) → List OwnClause → List (List OwnLit)
listed test cs = map (λ c. c.lits) (filter (λ c. test c.learned) cs)

-- both parts of the stored clauses are read
pub clauses_of-append : (m : Maps) (test : Bool → Bool) (xs ys : List Held) → clauses_of m test (xs ++ ys) ≡ clauses_of m test xs ++ clauses_of m test ys
clauses_of-append m test xs ys =
    ap (λ z. own_clauses m (map (λ (h : Held). h.lits) z)) (filter-append (λ (h : Held). test h.learned) xs ys)
    ∙ (ap (own_clauses m) (map-append (λ (h : Held). h.lits) (filter (λ (h : Held). test h.learned) xs) (filter (λ (h : Held). test h.learned) ys))
    ∙ map-append (own_clause m) (map (λ (h : Held). h.lits) (filter (λ (h : Held). test h.learned) xs)) (map (λ (h : Held). h.lits) (filter (λ (h : Held). test h.learned) ys)))

-- a test of own literals may come before or after they are read
pub clauses_of-filter : (m : Maps) (test : Bool → Bool) (p : List OwnLit → Bool) (hs : List Held) → clauses_of m test (filter (λ h. p (own_clause m h.lits)) hs) ≡ filter p (clauses_of m test hs)
clauses_of-filter m test p [] = refl
clauses_of-filter m test p (h ∷ hs) = go (p (own_clause m h.lits)) refl (test h.learned) refl (clauses_of-filter m test p hs)
  where
    go : (b : Bool) → p (own_clause m h.lits) ≡ b → (c : Bool) → test h.learned ≡ c → clauses_of m test (filter (λ k. p (own_clause m k.lits)) hs) ≡ filter p (clauses_of m test hs)
        → clauses_of m test (cond b (h ∷ filter (λ k. p (own_clause m k.lits)) hs) (filter (λ k. p (own_clause m k.lits)) hs))
        ≡ filter p (own_clauses m (map (λ (k : Held). k.lits) (cond c (h ∷ filter (λ k. test k.learned) hs) (filter (λ k. test k.learned) hs))))
    go true q true e r = rw (e, q) (ap (λ z. own_clause m h.lits ∷ z) r)
    go true q false e r = rw e r
    go false q true e r = rw q r
    go false q false e r = r

-- stored clauses may be stripped of their ids first
pub clauses_of-strip : (m : Maps) (test : Bool → Bool) (hs : List Held) → clauses_of m test hs ≡ listed test (map (in_own m) (map strip hs))
clauses_of-strip m test [] = refl
clauses_of-strip m test (h ∷ hs) = go (test h.learned) (clauses_of-strip m test hs)
  where
    go : (b : Bool) → clauses_of m test hs ≡ listed test (map (in_own m) (map strip hs))
        → own_clauses m (map (λ (k : Held). k.lits) (cond b (h ∷ filter (λ k. test k.learned) hs) (filter (λ k. test k.learned) hs)))
        ≡ map (λ (c : OwnClause). c.lits) (cond b (in_own m (strip h) ∷ filter (λ c. test c.learned) (map (in_own m) (map strip hs))) (filter (λ c. test c.learned) (map (in_own m) (map strip hs))))
    go true r = ap (λ z. own_clause m h.lits ∷ z) r
    go false r = r

-- a map of a map is one map
pub map_map : {X Y Z : Type 0} (g : Y → Z) (f : X → Y) (xs : List X) → map g (map f xs) ≡ map (λ x. g (f x)) xs
map_map g f [] = refl
map_map g f (x ∷ xs) = ap (λ z. g (f x) ∷ z) (map_map g f xs)

-- clauses that are put in keep their list
pub listed-put_each : (test : Bool → Bool) (r : OwnLit → Root) (cs : List OwnClause) → listed test (put_each r cs) ≡ put_in_all r (listed test cs)
listed-put_each test r [] = refl
listed-put_each test r (c ∷ cs) = go (put_in r c.lits) refl (test c.learned) refl (listed-put_each test r cs)
  where
    go : (o : Option (List OwnLit)) → put_in r c.lits ≡ o → (b : Bool) → test c.learned ≡ b → listed test (put_each r cs) ≡ put_in_all r (listed test cs)
        → listed test (cons_option (relisted c.learned o) (put_each r cs)) ≡ put_in_all r (map (λ (x : OwnClause). x.lits) (cond b (c ∷ filter (λ x. test x.learned) cs) (filter (λ x. test x.learned) cs)))
    go None q true e h = rw q h
    go None q false e h = h
    go (Some d) q true e h = rw (q, e) (ap (λ z. d ∷ z) h)
    go (Some d) q false e h = rw e h

-- hard clauses are all hard
pub listed-hard : (cs : List (List OwnLit)) → listed not (map hard_clause cs) ≡ cs
listed-hard [] = refl
listed-hard (c ∷ cs) = ap (λ z. c ∷ z) (listed-hard cs)

-- and none of them learned
pub listed-none : (cs : List (List OwnLit)) → listed (λ b. b) (map hard_clause cs) ≡ []
listed-none [] = refl
listed-none (c ∷ cs) = listed-none cs

-- the clauses that were added, as they were made
pub news_of : (m : Maps) (test : Bool → Bool) (s t : Store) (clauses : List InClause) (made : List OwnClause) → map (in_own m) clauses ≡ made → (x : ExtendsBy s t clauses) → clauses_of m test x.news ≡ listed test made
news_of m test s t clauses made e x = clauses_of-strip m test x.news ∙ ap (listed test) (ap (map (in_own m)) x.contents ∙ e)

-- what passes for all clauses of both lists passes for all stored clauses
pub both_lists : (m : Maps) (p : List OwnLit → Bool) (hs : List Held) → list_all p (clauses_of m not hs) ≡ true → list_all p (clauses_of m (λ b. b) hs) ≡ true → list_all (λ h. p (own_clause m h.lits)) hs ≡ true
both_lists m p [] a b = refl
both_lists m p (h ∷ hs) a b = go h.learned (both_lists m p hs) a b
  where
    go : (l : Bool) → (list_all p (clauses_of m not hs) ≡ true → list_all p (clauses_of m (λ b. b) hs) ≡ true → list_all (λ k. p (own_clause m k.lits)) hs ≡ true)
        → list_all p (own_clauses m (map (λ (k : Held). k.lits) (cond (not l) (h ∷ filter (λ k. not k.learned) hs) (filter (λ k. not k.learned) hs)))) ≡ true
        → list_all p (own_clauses m (map (λ (k : Held). k.lits) (cond l (h ∷ filter (λ k. k.learned) hs) (filter (λ k. k.learned) hs)))) ≡ true
        → (p (own_clause m h.lits) && list_all (λ k. p (own_clause m k.lits)) hs) ≡ true
    go true r a b =
        let q : (p (own_clause m h.lits) ≡ true) × (list_all p (clauses_of m (λ c. c) hs) ≡ true) = and_parts _ _ b in
        and_from _ _ q.0 (r a q.1)
    go false r a b =
        let q : (p (own_clause m h.lits) ≡ true) × (list_all p (clauses_of m not hs) ≡ true) = and_parts _ _ a in
        and_from _ _ q.0 (r q.1 b)

-- some of the stored clauses pass what all passed
pub fewer_pass : (p : List OwnLit → Bool) (q : Held → Bool) (m : Maps) (test : Bool → Bool) (hs : List Held) → list_all p (clauses_of m test hs) ≡ true → list_all p (clauses_of m test (filter q hs)) ≡ true
fewer_pass p q m test [] e = refl
fewer_pass p q m test (h ∷ hs) e = go (q h) (test h.learned) refl (fewer_pass p q m test hs) e
  where
    go : (b c : Bool) → test h.learned ≡ c → (list_all p (clauses_of m test hs) ≡ true → list_all p (clauses_of m test (filter q hs)) ≡ true)
        → list_all p (own_clauses m (map (λ (k : Held). k.lits) (cond c (h ∷ filter (λ k. test k.learned) hs) (filter (λ k. test k.learned) hs)))) ≡ true → list_all p (clauses_of m test (cond b (h ∷ filter q hs) (filter q hs))) ≡ true
    go true true n r e =
        let a : (p (own_clause m h.lits) ≡ true) × (list_all p (clauses_of m test hs) ≡ true) = and_parts _ _ e in
        rw n (and_from _ _ a.0 (r a.1))
    go true false n r e = rw n (r e)
    go false true n r e =
        let a : (p (own_clause m h.lits) ≡ true) × (list_all p (clauses_of m test hs) ≡ true) = and_parts _ _ e in
        r a.1
    go false false n r e = r e

-- the clauses with a variable were collected, their new forms added, and they were dropped: what is stored then
pub collected_held : (m : Maps) (v : ℕ) (s t : Store) (ids : List ℕ) (clauses : List InClause) → ids ≡ map (λ h. h.id) (filter (touches m v) s.held) → IsKept s → (x : ExtendsBy s t clauses)
    → (without_ids ids t).held ≡ filter (λ h. not (touches m v h)) s.held ++ x.news
collected_held m v s t ids clauses d n x =
    ap₂ {C = List Held} (λ (ns : List ℕ) (hs : List Held). filter (λ h. not (has_id_among ns h)) hs) d x.held
    ∙ (filter-append (λ (h : Held). not (has_id_among (map (λ (y : Held). y.id) (filter (touches m v) s.held)) h)) s.held x.news
    ∙ ap₂ {C = List Held} ◌++◌ (drop_those (touches m v) s.held n.rises) (keep_news s.given (touches m v) s.held x.news n.below x.fresh))

-- and how it is read
pub collected_clauses : (m : Maps) (v : ℕ) (test : Bool → Bool) (s : Store) (held news : List Held) (made : List (List OwnLit)) → held ≡ filter (λ h. not (touches m v h)) s.held ++ news → clauses_of m test news ≡ made
    → clauses_of m test held ≡ filter (λ c. not (mentions v c)) (clauses_of m test s.held) ++ made
collected_clauses m v test s held news made e f =
    ap (clauses_of m test) e
    ∙ (clauses_of-append m test (filter (λ h. not (touches m v h)) s.held) news
    ∙ ap₂ {C = List (List OwnLit)} ◌++◌ (clauses_of-filter m test (λ c. not (mentions v c)) s.held) f)

-- other maps, that agree where a test passes
view_clause : (m n : Maps) (p : ℕ → Bool) → p (length m.inners) ≡ false → ((i : ℕ) (v : Own) → owner_at m i ≡ Some v → p v.0 ≡ true → owner_at n i ≡ Some v) → (c : List InLit)
    → list_all (λ l. p l.var.0) (own_clause m c) ≡ true → own_clause m c ≡ own_clause n c
view_clause m n p z h [] e = refl
view_clause m n p z h (l ∷ c) e =
    let a : (p (own_or (length m.inners) (owner_at m l.var.0)).0 ≡ true) × (list_all (λ k. p k.var.0) (own_clause m c) ≡ true) = and_parts _ _ e in
    ap₂ {C = List OwnLit} (λ (v : Own) (d : List OwnLit). (record { var = v; negative = l.negative }) ∷ d) (go (owner_at m l.var.0) refl a.0) (view_clause m n p z h c a.1)
  where
    go : (o : Option Own) → owner_at m l.var.0 ≡ o → p (own_or (length m.inners) o).0 ≡ true → own_or (length m.inners) o ≡ own_or (length n.inners) (owner_at n l.var.0)
    go None q t = absurd (false≢true (sym z ∙ t))
    go (Some v) q t = ap (own_or (length n.inners)) (sym (h l.var.0 v q t))

-- clauses whose literals pass are read alike
pub view_clauses : (m n : Maps) (p : ℕ → Bool) → p (length m.inners) ≡ false → ((i : ℕ) (v : Own) → owner_at m i ≡ Some v → p v.0 ≡ true → owner_at n i ≡ Some v) → (cs : List (List InLit))
    → each_lit (λ l. p l.var.0) (own_clauses m cs) ≡ true → own_clauses m cs ≡ own_clauses n cs
view_clauses m n p z h [] e = refl
view_clauses m n p z h (c ∷ cs) e =
    let a : (list_all (λ (l : OwnLit). p l.var.0) (own_clause m c) ≡ true) × (each_lit (λ (l : OwnLit). p l.var.0) (own_clauses m cs) ≡ true) = and_parts _ _ e in
    ap₂ ◌∷◌ (view_clause m n p z h c a.0) (view_clauses m n p z h cs a.1)

-- whether a variable has an inner number is read from the table of active ones
pub get_is_some : {X : Type 0} (xs : List (Option X)) (k : ℕ) → get_or (map is_some xs) k false ≡ is_some (get_or xs k None)
get_is_some xs k = get_or-map is_some xs k None

past : {X : Type 0} (xs : List (Option X)) → is_some (get_or xs (length xs) None) ≡ false
past [] = refl
past (x ∷ xs) = past xs

-- the number of variables is that of none
pub past_active : {X : Type 0} (xs : List (Option X)) → get_or (map is_some xs) (length xs) false ≡ false
past_active xs = get_is_some xs (length xs) ∙ past xs

past_set : {X : Type 0} (xs : List (Option X)) (k : ℕ) → is_some (get_or (set xs k None) (length xs) None) ≡ false
past_set [] k = refl
past_set (x ∷ xs) zero = past xs
past_set (x ∷ xs) (suc k) = past_set xs k

-- a variable is retired, and no clause has it
pub retired_view : (m : Maps) (k : ℕ) (i : Inner) → inner_at m k ≡ Some i → Matched m → (cs : List (List InLit))
    → each_lit (λ l. is_some (get_or (set m.inners k None) l.var.0 None)) (own_clauses m cs) ≡ true → own_clauses m cs ≡ own_clauses (retired k m) cs
retired_view m k i e h cs a =
    view_clauses m (retired k m) (λ j. is_some (get_or (set m.inners k None) j None)) (past_set m.inners k)
    (λ j v o t. get_or-set_other m.owners (number_or 0 (inner_at m k)) j None None (λ z. gone m.inners k (still v j (ap (number_or 0) e) z o t)) ∙ o) cs a
  where
    gone : (xs : List (Option Inner)) (k : ℕ) → is_some (get_or (set xs k None) k None) ≡ true → ⊥
    gone [] k q = false≢true q
    gone (x ∷ xs) zero q = false≢true q
    gone (x ∷ xs) (suc k) q = gone xs k q

    same : (x y : Own) → Some x ≡ Some y → x ≡ y
    same x y q = cc

    still : (v : Own) (j : ℕ) → number_or 0 (inner_at m k) ≡ i.0 → j ≡ number_or 0 (inner_at m k) → owner_at m j ≡ Some v → is_some (get_or (set m.inners k None) v.0 None) ≡ true → is_some (get_or (set m.inners k None) k None) ≡ true
    still v j n z o t = subst (λ (w : Own). is_some (get_or (set m.inners k None) w.0 None) ≡ true) (same v (record { 0 = k }) (sym o ∙ (ap (owner_at m) (z ∙ n) ∙ h.inner_owner k i e))) t

-- a variable gets a number that was free, and clauses over active variables are read alike
pub numbered_view : (m n : Maps) (v : Own) (i : Inner) → owner_at m i.0 ≡ None → ((j : ℕ) → owner_at n j ≡ cond (j == i.0) (Some v) (owner_at m j)) → (cs : List (List InLit))
    → each_lit (λ l. get_or (map is_some m.inners) l.var.0 false) (own_clauses m cs) ≡ true → own_clauses m cs ≡ own_clauses n cs
numbered_view m n v i free given cs a = view_clauses m n (λ j. get_or (map is_some m.inners) j false) (past_active m.inners) (λ j w o t. same j w o) cs a
  where
    clash : (w : Own) → Some w ≡ None → ⊥
    clash w q = cc

    same : (j : ℕ) (w : Own) → owner_at m j ≡ Some w → owner_at n j ≡ Some w
    same j w o = given j ∙ (ap (λ (b : Bool). cond b (Some v) (owner_at m j)) (ne_eqb j i.0 (λ z. clash w (sym o ∙ (ap (owner_at m) z ∙ free)))) ∙ o)

-- a clause that is clean in own literals has no literal twice as it is stored
pub clean_distinct : (m : Maps) (c : List InLit) → is_clean (own_clause m c) ≡ true → is_distinct c ≡ true
clean_distinct m [] e = refl
clean_distinct m (l ∷ c) e =
    let a : ((not (list_any (same_lit (own_of m l)) (own_clause m c)) && not (list_any (same_lit (turned true (own_of m l))) (own_clause m c))) ≡ true) × (is_clean (own_clause m c) ≡ true) = and_parts _ _ e in
    let b : (not (list_any (same_lit (own_of m l)) (own_clause m c)) ≡ true) × (not (list_any (same_lit (turned true (own_of m l))) (own_clause m c)) ≡ true) = and_parts _ _ a.0 in
    and_from _ _ (ap not (false_from_ne_true (list_any (same_in_lit l) c) (λ t. absurd (false≢true (sym (ap not (any_own c t)) ∙ b.0))))) (clean_distinct m c a.1)
  where
    one_own : (k : InLit) → same_in_lit l k ≡ true → same_lit (own_of m l) (own_of m k) ≡ true
    one_own k t =
        let p : ((l.var.0 == k.var.0) ≡ true) × (beq l.negative k.negative ≡ true) = and_parts _ _ t in
        and_from _ _ (eq-eqb _ _ (ap (λ (n : ℕ). (own_or (length m.inners) (owner_at m n)).0) (eqb-true _ _ p.0))) p.1

    any_own : (d : List InLit) → list_any (same_in_lit l) d ≡ true → list_any (same_lit (own_of m l)) (own_clause m d) ≡ true
    any_own [] t = t
    any_own (k ∷ d) t = ⊎_elim (λ f. or_left (same_lit (own_of m l) (own_of m k)) (list_any (same_lit (own_of m l)) (own_clause m d)) (one_own k f)) (λ f. or_right (same_lit (own_of m l) (own_of m k)) (list_any (same_lit (own_of m l)) (own_clause m d)) (any_own d f)) (or_cases _ _ t)

-- the stored literals of a clause over active variables have owners
pub owned_lits : (m : Maps) (c : List InLit) → list_all (λ l. get_or (map is_some m.inners) l.var.0 false) (own_clause m c) ≡ true → list_all (λ l. is_some (owner_at m l.var.0)) c ≡ true
owned_lits m [] e = refl
owned_lits m (l ∷ c) e =
    let a : (get_or (map is_some m.inners) (own_of m l).var.0 false ≡ true) × (list_all (λ (k : OwnLit). get_or (map is_some m.inners) k.var.0 false) (own_clause m c) ≡ true) = and_parts _ _ e in
    and_from _ _ (go (owner_at m l.var.0) a.0) (owned_lits m c a.1)
  where
    go : (o : Option Own) → get_or (map is_some m.inners) (own_or (length m.inners) o).0 false ≡ true → is_some o ≡ true
    go None q = absurd (false≢true (sym (past_active m.inners) ∙ q))
    go (Some v) q = refl

-- each literal that a standing kernel stores is of an active variable
pub stored_lits_owned : (k : Kernel) → Standing k → list_all (λ h. list_all (λ l. is_some (owner_at k.maps l.var.0)) h.lits) k.store.held ≡ true
stored_lits_owned k h =
    all_mono (λ (x : Held). list_all (λ (l : OwnLit). get_or (map is_some k.maps.inners) l.var.0 false) (own_clause k.maps x.lits)) (λ (x : Held). list_all (λ (l : InLit). is_some (owner_at k.maps l.var.0)) x.lits)
    (λ x a. owned_lits k.maps x.lits a) k.store.held
    (both_lists k.maps (list_all (λ (l : OwnLit). get_or (map is_some k.maps.inners) l.var.0 false)) k.store.held h.stands.places.placed.hard h.stands.places.placed.learned)

-- a kernel that is seen as the same state, with the same outer variables in its maps, stands too
pub same_state-Standing : (k n : Kernel) → state_of n ≡ state_of k → n.maps.outers ≡ k.maps.outers → n.maps.outer_numbers ≡ k.maps.outer_numbers → n.stack_mark ≤ length n.stack → Standing k → Standing n
same_state-Standing k n e o p w h =
    record {
      stands = subst (λ (s : State). Stands s) (sym e) h.stands;
      outers = ap (map (λ (v : Own). v.0)) o ∙ (h.outers ∙ ap (λ (s : State). outers_from 0 s.definitions) (sym e));
      private = ap (λ (s : State). map is_some s.definitions) e ∙ (h.private ∙ sym (ap (map (λ (x : Option Var). not (is_some x))) p));
      within = w;
    }
