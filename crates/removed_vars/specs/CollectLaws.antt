-- What a walk over a store collects.
use Rattle.std.proofs.Common.{◌≡◌, ℕ, zero, suc, ◌+◌, ◌<◌, ◌==◌, Bool, true, false, cond, not, ◌||◌, List, [], ◌∷◌, ◌++◌, Option, Some, None, refl, sym, ap, ap₂, ◌∙◌, arith, length, get_or, take, filter, map, option_map, option_to_list, IfSome, IsTrue, append-nil, eqb-true, eq-eqb, ne_eqb}
use Rattle.std.proofs.lemmas.Bool.{and_parts, and_from, eqb-false}
use Rattle.std.proofs.lemmas.List.{map-append}
use Rattle.std.proofs.lemmas.List.Elements.{filter-append, filter_map-append}
use Rattle.std.proofs.lemmas.Grind.{take_at_read}
use Rattle.std.proofs.lemmas.Option.{slice_get_within}
use Rattle.std.specs.List.{list_all, list_any, slice_get, cons_option}
use Rattle.sat_lits.specs.InLits.{is_distinct}
use Rattle.sat_lits.specs.ListLaws.{all_push, any_map, any_same}
use Rattle.sat_lits.specs.declared.literal.Own.{Own}
use Rattle.sat_lits.specs.declared.literal.OwnLit.{OwnLit}
use Rattle.sat_lits.specs.declared.literal.InLit.{InLit}
use Rattle.sat_lits.specs.declared.literal.Inner.{Inner}
use Rattle.sat_lits.specs.declared.literal.ClauseId.{ClauseId}
use Rattle.rebuild_stack.specs.Roots.{root_passes}
use Rattle.rebuild_stack.specs.PutIn.{put_in, is_clean, option_passes, option_clean}
use Rattle.rebuild_stack.specs.PutInLaws.{put_in_passes, put_in_clean}
use Rattle.rebuild_stack.specs.declared.entry.Root.{Root}
use Rattle.clause_store.specs.Store.{Store, Held, clause_at, is_live, without}
use Rattle.var_maps.specs.Maps.{Maps, Matched, inner_at, owner_at}
use Rattle.indexed_store.specs.declared.short_id.ShortId.{ShortId}
use Rattle.indexed_store.specs.Occurrences.{holds, occurrences, clauses_at}
use Rattle.state_laws.specs.Held.{OwnClause, own_or, own_clause, own_of, has_inner, touches, strip, in_own, hard_clause, relisted, put_each, is_ready, numbers, without_ids}
use Rattle.state_laws.specs.HeldLaws.{found, all_found, without_more}
use Rattle.state_laws.specs.Resolution.{mentions, is_of}
use Rattle.state_laws.specs.ViewLaws.{clean_distinct}
use Rattle.removed_vars.specs.declared.changes.Fresh.{Fresh}
use Rattle.removed_vars.specs.declared.changes.Changes.{Changes}
use Rattle.removed_vars.specs.Fresh.{in_clause, in_clauses, are_distinct, Collects, Stores}

-- the front of a list with one element more
pub taken_at : {X : Type 0} (xs : List X) (i : ℕ) (d : X) → i < length xs → take (i + 1) xs ≡ take i xs ++ get_or xs i d ∷ []
taken_at xs i d l = (take_at_read xs i d l).1

pub read_at : {X : Type 0} (xs : List X) (i : ℕ) (x : X) → x ≡ get_or xs i x → i < length xs → take (i + 1) xs ≡ take i xs ++ x ∷ []
read_at xs i x e l = taken_at xs i x l ∙ ap (λ z. take i xs ++ z ∷ []) (sym e)

pub map_take : {X Y : Type 0} (f : X → Y) (k : ℕ) (xs : List X) → map f (take k xs) ≡ take k (map f xs)
map_take f zero xs = refl
map_take f (suc k) [] = refl
map_take f (suc k) (x ∷ xs) = ap (λ z. f x ∷ z) (map_take f k xs)

-- an element that is found is read
pub got : {X : Type 0} (xs : List X) (i : ℕ) (d v : X) → slice_get xs i ≡ Some v → get_or xs i d ≡ v
got [] i d v e = cc
got (x ∷ xs) zero d v e = cc
got (x ∷ xs) (suc i) d v e = got xs i d v e

-- the front of a list with one element more, which was looked up
pub taken_some : {X : Type 0} (xs : List X) (k : ℕ) (x : X) → slice_get xs k ≡ Some x → take (k + 1) xs ≡ take k xs ++ x ∷ []
taken_some xs k x e = taken_at xs k x (slice_get_within xs k x e) ∙ ap (λ z. take k xs ++ z ∷ []) (got xs k x x e)

-- one id more is dropped
pub dropping : (s : Store) (ids : List ClauseId) (k : ℕ) (d : ClauseId) → k < length ids
    → without_ids (numbers (take (k + 1) ids)) s ≡ record (without_ids (numbers (take k ids)) s) { held = without (get_or ids k d).0 (without_ids (numbers (take k ids)) s).held }
dropping s ids k d l =
    ap (λ (ns : List ℕ). without_ids ns s) (ap numbers (taken_at ids k d l) ∙ map-append (λ (i : ClauseId). i.0) (take k ids) (get_or ids k d ∷ []))
    ∙ ap (λ (hs : List Held). let t : Store = record { held = hs; given = s.given; mark = s.mark } in t) (without_more (numbers (take k ids)) (get_or ids k d).0 s.held)

-- what is put in is active
pub put_active : (m : Maps) (r : OwnLit → Root) (lits : List OwnLit) (c : List OwnLit) → list_all (λ l. root_passes (has_inner m) (r l)) lits ≡ true → Some c ≡ put_in r lits → list_all (has_inner m) c ≡ true
put_active m r lits c e q = ap (option_passes (has_inner m)) q ∙ put_in_passes (has_inner m) r lits e

-- and has no literal twice as it is stored
pub put_distinct : {L : Type 0} (m : Maps) (r : L → Root) (c : List L) (d : List OwnLit) (stored : List InLit) → Some d ≡ put_in r c → own_clause m stored ≡ d → is_distinct stored ≡ true
put_distinct m r c d stored q e = clean_distinct m stored (ap is_clean e ∙ (ap option_clean q ∙ put_in_clean r c))

-- a clause that holds the variable is ready for what is put in
pub ready_clause : (m : Maps) (r : OwnLit → Root) (v : ℕ) (hs : List Held) (i : ℕ) (h : Held) → clause_at hs i ≡ Some h → list_all (is_ready m r v) hs ≡ true → touches m v h ≡ true → list_all (λ l. root_passes (has_inner m) (r l)) (own_clause m h.lits) ≡ true
ready_clause m r v hs i h e a t = sym (ap (λ b. not b || list_all (λ l. root_passes (has_inner m) (r l)) (own_clause m h.lits)) t) ∙ all_found (is_ready m r v) hs i h e a

-- a stored literal is of the variable where it has the variable's inner number
same_variable : (m : Maps) (v : ℕ) (i : Inner) (j : ℕ) → Matched m → inner_at m v ≡ Some i → ((own_or (length m.inners) (owner_at m j)).0 == v) ≡ (j == i.0)
same_variable m v i j h e = go (owner_at m j) refl
  where
    same_own : (x y : Own) → Some x ≡ Some y → x ≡ y
    same_own x y q = cc

    same_inner : (x y : Inner) → Some x ≡ Some y → x ≡ y
    same_inner x y q = cc

    none : (x : Own) → None ≡ Some x → ⊥
    none x q = cc

    within : (xs : List (Option Inner)) (k : ℕ) → get_or xs k None ≡ Some i → k < length xs
    within [] k q = cc
    within (x ∷ xs) zero q = omega arith
    within (x ∷ xs) (suc k) q = let a : k < length xs = within xs k q in omega arith

    go : (o : Option Own) → owner_at m j ≡ o → ((own_or (length m.inners) o).0 == v) ≡ (j == i.0)
    go None q = ne_eqb (length m.inners) v (λ z. absurd (let a : v < length m.inners = within m.inners v e in omega arith)) ∙ sym (ne_eqb j i.0 (λ z. none (record { 0 = v }) (sym q ∙ (ap (owner_at m) z ∙ h.inner_owner v i e))))
    go (Some w) q = both (w.0 == v) refl
      where
        both : (b : Bool) → (w.0 == v) ≡ b → b ≡ (j == i.0)
        both true t = sym (eq-eqb j i.0 (ap (λ (x : Inner). x.0) (same_inner (record { 0 = j }) i (sym (h.owner_inner j w q) ∙ (ap (inner_at m) (eqb-true _ _ t) ∙ e)))))
        both false t = sym (ne_eqb j i.0 (λ z. eqb-false w.0 v t (ap (λ (x : Own). x.0) (same_own w (record { 0 = v }) (sym q ∙ (ap (owner_at m) z ∙ h.inner_owner v i e))))))

-- whether a clause holds the variable
pub touches_read : (m : Maps) (v : ℕ) (i : Inner) (h : Held) (lits : List InLit) (r : Bool) → Matched m → inner_at m v ≡ Some i → h.lits ≡ lits → r ≡ list_any (λ l. l.var.0 == i.0) lits → touches m v h ≡ r
touches_read m v i h lits r d e f g =
    ap (λ (z : List InLit). mentions v (own_clause m z)) f ∙ (any_map (is_of v) (own_of m) lits ∙ (any_same (λ l. is_of v (own_of m l)) (λ l. l.var.0 == i.0) (λ l. same_variable m v i l.var.0 d e) lits ∙ sym g))

-- one more clause is collected
pub collected_step : (m : Maps) (r : OwnLit → Root) (v : ℕ) (hs : List Held) (h : Held) (from to : Changes) (o : Option Fresh) (id : ClauseId) → touches m v h ≡ true
    → option_map (λ f. in_own m (in_clause f)) o ≡ relisted h.learned (put_in r (own_clause m h.lits)) → are_distinct (option_to_list o) ≡ true → to.fresh.items ≡ from.fresh.items ++ option_to_list o → to.doomed.items ≡ from.doomed.items ++ id ∷ [] → h.id ≡ id.0
    → Collects m r v hs from → Collects m r v (hs ++ h ∷ []) to
collected_step m r v hs h from to o id t p n f d e c =
    record {
      collected = record {
        doomed = ap numbers d ∙ (map-append (λ (i : ClauseId). i.0) from.doomed.items (id ∷ []) ∙ (ap₂ {C = List ℕ} (λ x y. x ++ y ∷ []) c.collected.doomed (sym e)
            ∙ (sym (map-append (λ (k : Held). k.id) (filter (touches m v) hs) (h ∷ [])) ∙ ap (map (λ (k : Held). k.id)) (sym more))));
        become = ap (λ z. map (in_own m) (in_clauses z)) f ∙ (ap (map (in_own m)) (map-append in_clause from.fresh.items (option_to_list o)) ∙ (map-append (in_own m) (in_clauses from.fresh.items) (in_clauses (option_to_list o))
            ∙ (ap₂ {C = List OwnClause} ◌++◌ c.collected.become (last o (relisted h.learned (put_in r (own_clause m h.lits))) p)
            ∙ (sym (filter_map-append (λ (x : OwnClause). relisted x.learned (put_in r x.lits)) (map (λ k. in_own m (strip k)) (filter (touches m v) hs)) (in_own m (strip h) ∷ []))
            ∙ ap (put_each r) (sym (map-append (λ (k : Held). in_own m (strip k)) (filter (touches m v) hs) (h ∷ [])) ∙ ap (map (λ (k : Held). in_own m (strip k))) (sym more))))));
      };
      distinct = ap are_distinct f ∙ both from.fresh.items o c.distinct n;
    }
  where
    more : filter (touches m v) (hs ++ h ∷ []) ≡ filter (touches m v) hs ++ h ∷ []
    more = filter-append (touches m v) hs (h ∷ []) ∙ ap (λ b. filter (touches m v) hs ++ cond b (h ∷ []) []) t

    last : (o : Option Fresh) (q : Option OwnClause) → option_map (λ f. in_own m (in_clause f)) o ≡ q → map (in_own m) (in_clauses (option_to_list o)) ≡ cons_option q []
    last None q e = ap (λ z. cons_option z []) e
    last (Some x) q e = ap (λ z. cons_option z []) e

    both : (fs : List Fresh) (o : Option Fresh) → are_distinct fs ≡ true → are_distinct (option_to_list o) ≡ true → are_distinct (fs ++ option_to_list o) ≡ true
    both fs None a b = ap are_distinct (append-nil fs) ∙ a
    both fs (Some x) a b = all_push (λ (f : Fresh). is_distinct f.lits) fs x a ((and_parts (is_distinct x.lits) true b).0)

-- one that does not hold the variable is left out
pub collected_skip : (m : Maps) (r : OwnLit → Root) (v : ℕ) (hs : List Held) (h : Held) (from : Changes) → touches m v h ≡ false → Collects m r v hs from → Collects m r v (hs ++ h ∷ []) from
collected_skip m r v hs h from t c =
    record {
      collected = record {
        doomed = c.collected.doomed ∙ ap (map (λ (k : Held). k.id)) more;
        become = c.collected.become ∙ ap (λ z. put_each r (map (λ k. in_own m (strip k)) z)) more;
      };
      distinct = c.distinct;
    }
  where
    more : filter (touches m v) hs ≡ filter (touches m v) (hs ++ h ∷ [])
    more = sym (filter-append (touches m v) hs (h ∷ []) ∙ (ap (λ b. filter (touches m v) hs ++ cond b (h ∷ []) []) t ∙ append-nil (filter (touches m v) hs)))

-- the clause that a walk reads
pub read_held : (hs : List Held) (i : ℕ) (lits : List InLit) → is_live hs i ≡ true → option_map (λ h. h.lits) (clause_at hs i) ≡ Some lits → (h : Held) × ((clause_at hs i ≡ Some h) × (h.lits ≡ lits))
read_held hs i lits l e =
    let f : (h : Held) × (clause_at hs i ≡ Some h) = found (clause_at hs i) l in
    (f.0, (f.1, same f.0.lits lits (sym (ap (option_map (λ (h : Held). h.lits)) f.1) ∙ e)))
  where
    same : (x y : List InLit) → Some x ≡ Some y → x ≡ y
    same x y q = cc

pub read_learned : (hs : List Held) (i : ℕ) (h : Held) (b : Bool) → clause_at hs i ≡ Some h → option_map (λ k. k.learned) (clause_at hs i) ≡ Some b → h.learned ≡ b
read_learned hs i h b e f = same h.learned b (sym (ap (option_map (λ (k : Held). k.learned)) e) ∙ f)
  where
    same : (x y : Bool) → Some x ≡ Some y → x ≡ y
    same x y q = cc

-- what was put in, as it is to be stored
abbrev pub fresh_of : Bool → Option (List InLit) → Option Fresh
fresh_of learned None = None
fresh_of learned (Some lits) = Some (record { learned = learned; lits = lits })

pub fresh_put : (m : Maps) (r : OwnLit → Root) (h : Held) (learned : Bool) (stored : Option (List InLit)) (lits : List InLit) → h.lits ≡ lits → h.learned ≡ learned → option_map (own_clause m) stored ≡ put_in r (own_clause m lits)
    → option_map (λ g. in_own m (in_clause g)) (fresh_of learned stored) ≡ relisted h.learned (put_in r (own_clause m h.lits))
fresh_put m r h learned stored lits e l q = go stored learned ∙ ap₂ {C = Option OwnClause} relisted (sym l) (q ∙ ap (λ (z : List InLit). put_in r (own_clause m z)) (sym e))
  where
    go : (o : Option (List InLit)) (b : Bool) → option_map (λ g. in_own m (in_clause g)) (fresh_of b o) ≡ relisted b (option_map (own_clause m) o)
    go None b = refl
    go (Some c) b = refl

pub fresh_distinct : (learned : Bool) (stored : Option (List InLit)) → IfSome stored (λ c. IsTrue (is_distinct c)) → are_distinct (option_to_list (fresh_of learned stored)) ≡ true
fresh_distinct learned None d = refl
fresh_distinct learned (Some c) d = and_from _ _ d refl

-- what is collected is that of the clauses that hold the variable alone
pub collected_same : (m : Maps) (r : OwnLit → Root) (v : ℕ) (xs ys : List Held) (to : Changes) → filter (touches m v) xs ≡ filter (touches m v) ys → Collects m r v xs to → Collects m r v ys to
collected_same m r v xs ys to e c =
    record {
      collected = record {
        doomed = c.collected.doomed ∙ ap (map (λ (h : Held). h.id)) e;
        become = c.collected.become ∙ ap (λ z. put_each r (map (λ k. in_own m (strip k)) z)) e;
      };
      distinct = c.distinct;
    }

-- a clause holds an own variable where it holds its inner number
pub touches_holds : (m : Maps) (v : ℕ) (i : Inner) → Matched m → inner_at m v ≡ Some i → (h : Held) → touches m v h ≡ holds i.0 h
touches_holds m v i d e h = touches_read m v i h h.lits (holds i.0 h) d e refl refl

filter_twice : {X : Type 0} (p q : X → Bool) → ((x : X) → p x ≡ q x) → (xs : List X) → filter p (filter q xs) ≡ filter p xs
filter_twice p q h [] = refl
filter_twice p q h (x ∷ xs) = go (q x) (h x) (filter_twice p q h xs)
  where
    go : (b : Bool) → p x ≡ b → filter p (filter q xs) ≡ filter p xs → filter p (cond b (x ∷ filter q xs) (filter q xs)) ≡ cond (p x) (x ∷ filter p xs) (filter p xs)
    go true e r = rw e (ap (λ z. x ∷ z) r)
    go false e r = rw e r

-- what was collected of the clauses in a variable's list is what is collected of all
pub collected_all : (m : Maps) (r : OwnLit → Root) (v : ℕ) (i : Inner) (hs : List Held) (ids : List ShortId) (to : Changes) → Matched m → inner_at m v ≡ Some i → clauses_at hs ids ≡ occurrences i.0 hs
    → Collects m r v (clauses_at hs ids) to → Collects m r v hs to
collected_all m r v i hs ids to d e f c = collected_same m r v (clauses_at hs ids) hs to (ap (filter (touches m v)) f ∙ filter_twice (touches m v) (holds i.0) (touches_holds m v i d e) hs) c

-- one id more of a list is walked
pub clauses_at-more : (hs : List Held) (ids : List ShortId) (k : ℕ) (d : ShortId) → k < length ids → clauses_at hs (take (k + 1) ids) ≡ clauses_at hs (take k ids) ++ option_to_list (clause_at hs (get_or ids k d).0)
clauses_at-more hs ids k d l =
    ap (clauses_at hs) (taken_at ids k d l)
    ∙ (filter_map-append (λ (i : ShortId). clause_at hs i.0) (take k ids) (get_or ids k d ∷ []) ∙ ap (λ z. clauses_at hs (take k ids) ++ z) (last (clause_at hs (get_or ids k d).0)))
  where
    last : (o : Option Held) → cons_option o [] ≡ option_to_list o
    last None = refl
    last (Some h) = refl

holds_all : (v : ℕ) (hs : List Held) → list_all (holds v) (occurrences v hs) ≡ true
holds_all v [] = refl
holds_all v (h ∷ hs) = go (holds v h) refl (holds_all v hs)
  where
    go : (b : Bool) → holds v h ≡ b → list_all (holds v) (occurrences v hs) ≡ true → list_all (holds v) (cond b (h ∷ occurrences v hs) (occurrences v hs)) ≡ true
    go true e r = and_from _ _ e r
    go false e r = r

named_passes : (p : Held → Bool) (hs : List Held) (ids : List ShortId) (k : ℕ) (d : ShortId) (h : Held) → list_all p (clauses_at hs ids) ≡ true → k < length ids → clause_at hs (get_or ids k d).0 ≡ Some h → p h ≡ true
named_passes p hs [] k d h a l e = absurd (omega arith)
named_passes p hs (x ∷ ids) zero d h a l e = (and_parts (p h) (list_all p (clauses_at hs ids)) (sym (ap (λ o. list_all p (cons_option o (clauses_at hs ids))) e) ∙ a)).0
named_passes p hs (x ∷ ids) (suc k) d h a l e = named_passes p hs ids k d h (rest (clause_at hs x.0) a) (omega arith) e
  where
    rest : (o : Option Held) → list_all p (cons_option o (clauses_at hs ids)) ≡ true → list_all p (clauses_at hs ids) ≡ true
    rest None q = q
    rest (Some j) q = (and_parts (p j) (list_all p (clauses_at hs ids)) q).1

-- a clause of a variable's list holds the variable
pub listed_touches : (m : Maps) (v : ℕ) (i : Inner) (hs : List Held) (ids : List ShortId) (k : ℕ) (d : ShortId) → Matched m → inner_at m v ≡ Some i → clauses_at hs ids ≡ occurrences i.0 hs → k < length ids
    → IfSome (clause_at hs (get_or ids k d).0) (λ h. IsTrue (touches m v h))
listed_touches m v i hs ids k d q e f l = go (clause_at hs (get_or ids k d).0) refl
  where
    go : (o : Option Held) → clause_at hs (get_or ids k d).0 ≡ o → IfSome o (λ h. IsTrue (touches m v h))
    go None g = tt
    go (Some h) g = touches_holds m v i q e h ∙ named_passes (holds i.0) hs ids k d h (ap (list_all (holds i.0)) f ∙ holds_all i.0 hs) l g

-- one clause more is to be stored
pub stores_more : (m : Maps) (olds news : List Fresh) (cs : List (List OwnLit)) (lits : List InLit) (clause : List OwnLit) → news ≡ olds ++ (record { learned = false; lits = lits }) ∷ [] → own_clause m lits ≡ clause → is_distinct lits ≡ true
    → Stores m olds cs → Stores m news (cs ++ clause ∷ [])
stores_more m olds news cs lits clause e f d s =
    record {
      become = ap (λ z. map (in_own m) (in_clauses z)) e
          ∙ (ap (map (in_own m)) (map-append in_clause olds (fresh ∷ [])) ∙ (map-append (in_own m) (in_clauses olds) (in_clauses (fresh ∷ [])) ∙ (ap₂ {C = List _} ◌++◌ s.become (ap (λ z. hard_clause z ∷ []) f) ∙ sym (map-append hard_clause cs (clause ∷ [])))));
      distinct = ap are_distinct e ∙ all_push (λ (x : Fresh). is_distinct x.lits) olds fresh s.distinct d;
    }
  where
    fresh : Fresh
    fresh = record { learned = false; lits = lits }
