-- Clauses that are taken out, and their resolvents.
use Rattle.std.proofs.Common.{◌≡◌, ℕ, zero, suc, None, ◌+◌, ◌<◌, ◌≤◌, Bool, true, false, cond, not, ◌&&◌, leb, List, [], ◌∷◌, ◌++◌, Option, Some, refl, sym, ap, ap₂, ◌∙◌, arith, length, get_or, take, filter, map, drop, length-append, option_map, option_to_list, append-nil, append_assoc, is_some}
use Rattle.std.proofs.lemmas.Bool.{and_parts}
use Rattle.std.proofs.lemmas.List.{map-append, length-map, take-append-drop}
use Rattle.std.proofs.lemmas.List.Elements.{filter-append, filter_map-append}
use Rattle.std.proofs.lemmas.Grind.{flat_map-append}
use Rattle.std.specs.List.{list_all, slice_get, cons_option}
use Rattle.sat_lits.specs.Truth.{with_value}
use Rattle.sat_lits.specs.ListLaws.{all_filter}
use Rattle.sat_lits.specs.declared.literal.ClauseId.{ClauseId}
use Rattle.sat_lits.specs.declared.literal.OwnLit.{OwnLit}
use Rattle.sat_lits.specs.declared.literal.InLit.{InLit}
use Rattle.sat_lits.specs.declared.literal.Inner.{Inner}
use Rattle.rebuild_stack.specs.Values.{each_lit}
use Rattle.rebuild_stack.specs.CommonLaws.{each_mono}
use Rattle.rebuild_stack.specs.PutIn.{put_in, put_in_all}
use Rattle.rebuild_stack.specs.declared.entry.Root.TheVariants.{Last}
use Rattle.indexed_store.specs.declared.short_id.ShortId.{ShortId}
use Rattle.clause_store.specs.Store.{Held, clause_at, hard_of}
use Rattle.indexed_store.specs.Occurrences.{occurrences, clauses_at}
use Rattle.var_maps.specs.Maps.{Maps, Matched, inner_at}
use Rattle.state_laws.specs.State.{is_active}
use Rattle.state_laws.specs.Held.{OwnClause, own_of, own_clause, own_clauses, has_inner, in_own, hard_clause, numbers, touches}
use Rattle.state_laws.specs.Kernel.{Kernel, Standing, state_of}
use Rattle.state_laws.specs.PlaceLaws.{with_false}
use Rattle.state_laws.specs.Resolution.{mentions, has_sign, without_var, rests, joins, resolvents}
use Rattle.state_laws.specs.ResolutionLaws.{rests_pass}
use Rattle.state_laws.specs.ViewLaws.{clauses_of-filter, get_is_some}
use Rattle.removed_vars.specs.declared.changes.Fresh.{Fresh}
use Rattle.private_state.specs.declared.take_out.TakenOut.{TakenOut}
use Rattle.removed_vars.specs.Fresh.{in_clause, in_clauses}
use Rattle.indexed_store.specs.Bounds.{are_few, are_short, are_bounded}
use Rattle.removed_vars.specs.Fresh.{Stores}
use Rattle.private_state.specs.Resolving.{Takes, TakesOut}
use Rattle.removed_vars.specs.CollectLaws.{read_at, touches_holds, taken_some}

-- what is left of one clause more
pub rests_more : (v : ℕ) (b : Bool) (cs : List (List OwnLit)) (k : ℕ) (c : List OwnLit) → slice_get cs k ≡ Some c → rests v b (take (k + 1) cs) ≡ rests v b (take k cs) ++ rests v b (c ∷ [])
rests_more v b cs k c e =
    ap (rests v b) (taken_some cs k c e)
    ∙ (ap (map (without_var v)) (filter-append (λ d. not (has_sign v (not b) d)) (take k cs) (c ∷ []))
    ∙ map-append (without_var v) (filter (λ d. not (has_sign v (not b) d)) (take k cs)) (filter (λ d. not (has_sign v (not b) d)) (c ∷ [])))

-- one clause more is taken
pub takes_step : (m : Maps) (hs : List Held) (h : Held) (from to : TakenOut) (id : ClauseId) → h.id ≡ id.0 → to.doomed.items ≡ from.doomed.items ++ id ∷ [] → to.block ≡ from.block ++ own_clauses m (hard_of (h ∷ []))
    → Takes m hs from → Takes m (hs ++ h ∷ []) to
takes_step m hs h from to id e d b t =
    record {
      doomed = ap numbers d ∙ (map-append (λ (i : ClauseId). i.0) from.doomed.items (id ∷ []) ∙ (ap₂ {C = List ℕ} (λ x y. x ++ y ∷ []) t.doomed (sym e) ∙ sym (map-append (λ (k : Held). k.id) hs (h ∷ []))));
      block = b ∙ (ap (λ z. z ++ own_clauses m (hard_of (h ∷ []))) t.block ∙ sym more);
    }
  where
    more : own_clauses m (hard_of (hs ++ h ∷ [])) ≡ own_clauses m (hard_of hs) ++ own_clauses m (hard_of (h ∷ []))
    more =
        ap (λ z. own_clauses m (map (λ (k : Held). k.lits) z)) (filter-append (λ (k : Held). not k.learned) hs (h ∷ []))
        ∙ (ap (own_clauses m) (map-append (λ (k : Held). k.lits) (filter (λ (k : Held). not k.learned) hs) (filter (λ (k : Held). not k.learned) (h ∷ [])))
        ∙ map-append (own_clause m) (hard_of hs) (hard_of (h ∷ [])))

-- what is taken of one clause
pub block_hard : (m : Maps) (h : Held) (lits : List InLit) → h.learned ≡ false → h.lits ≡ lits → own_clauses m (hard_of (h ∷ [])) ≡ own_clause m lits ∷ []
block_hard m h lits e f = ap (λ b. own_clauses m (map (λ (k : Held). k.lits) (cond (not b) (h ∷ []) []))) e ∙ ap (λ z. own_clause m z ∷ []) f

pub block_learned : (m : Maps) (h : Held) → h.learned ≡ true → own_clauses m (hard_of (h ∷ [])) ≡ []
block_learned m h e = ap (λ b. own_clauses m (map (λ (k : Held). k.lits) (cond (not b) (h ∷ []) []))) e

-- one clause more is joined with the left one
pub joins_right : (left : List OwnLit) (rights : List (List OwnLit)) (k : ℕ) (d : List OwnLit) (cs : List (List OwnLit)) → d ≡ get_or rights k d → k < length rights
    → cs ++ joins (left ∷ []) (take (k + 1) rights) ≡ (cs ++ joins (left ∷ []) (take k rights)) ++ option_to_list (put_in Last (left ++ d))
joins_right left rights k d cs e l =
    ap (λ z. cs ++ z) (append-nil (put_in_all Last (map (λ d. left ++ d) (take (k + 1) rights))) ∙ (ap (λ z. put_in_all Last (map (λ d. left ++ d) z)) (read_at rights k d e l)
    ∙ (ap (put_in_all Last) (map-append (λ d. left ++ d) (take k rights) (d ∷ []))
    ∙ (filter_map-append (put_in Last) (map (λ d. left ++ d) (take k rights)) ((left ++ d) ∷ [])
    ∙ ap₂ {C = List (List OwnLit)} ◌++◌ (sym (append-nil (put_in_all Last (map (λ d. left ++ d) (take k rights))))) (last (put_in Last (left ++ d)))))))
    ∙ sym (append_assoc cs (joins (left ∷ []) (take k rights)) (option_to_list (put_in Last (left ++ d))))
  where
    last : (o : Option (List OwnLit)) → cons_option o [] ≡ option_to_list o
    last None = refl
    last (Some c) = refl

-- one left clause more is joined with all others
pub joins_left : (lefts rights : List (List OwnLit)) (k : ℕ) (d : List OwnLit) → d ≡ get_or lefts k d → k < length lefts → joins (take (k + 1) lefts) rights ≡ joins (take k lefts) rights ++ joins (d ∷ []) rights
joins_left lefts rights k d e l = ap (λ z. joins z rights) (read_at lefts k d e l) ∙ flat_map-append (λ c. put_in_all Last (map (λ d. c ++ d) rights)) (take k lefts) (d ∷ [])

-- fewer left clauses make no more joins
pub joins_fewer : (lefts rights : List (List OwnLit)) (k : ℕ) → length (joins (take k lefts) rights) ≤ length (joins lefts rights)
joins_fewer lefts rights k =
    let e : length (joins lefts rights) ≡ length (joins (take k lefts) rights) + length (joins (drop k lefts) rights) =
    ap (λ (z : List (List OwnLit)). length (joins z rights)) (sym (take-append-drop k lefts))
    ∙ (ap length (flat_map-append (λ c. put_in_all Last (map (λ d. c ++ d) rights)) (take k lefts) (drop k lefts)) ∙ length-append (joins (take k lefts) rights) (joins (drop k lefts) rights)) in
    omega arith

-- what is left of clauses over active variables is over active variables
pub rests_active : (m : Maps) (v : ℕ) (b : Bool) (cs : List (List OwnLit)) → each_lit (has_inner m) cs ≡ true → each_lit (has_inner m) (rests v b cs) ≡ true
rests_active m v b cs e =
    each_mono (λ (l : OwnLit). with_value (λ k. is_some (inner_at m k)) v false l.var.0) (has_inner m) (λ l a. with_false (λ k. is_some (inner_at m k)) v l.var.0 a) (rests v b cs)
    (rests_pass (λ k. is_some (inner_at m k)) v b cs e)

-- each clause of a list is over active variables
pub each_at : (p : OwnLit → Bool) (cs : List (List OwnLit)) (k : ℕ) (d : List OwnLit) → each_lit p cs ≡ true → k < length cs → list_all p (get_or cs k d) ≡ true
each_at p [] k d e l = absurd (omega arith)
each_at p (c ∷ cs) zero d e l = (and_parts (list_all p c) (each_lit p cs) e).0
each_at p (c ∷ cs) (suc k) d e l = each_at p cs k d (and_parts (list_all p c) (each_lit p cs) e).1 (omega arith)

-- the clauses in a variable's list are those that hold it
pub occurrences_touch : (m : Maps) (v : ℕ) (i : Inner) (hs : List Held) → Matched m → inner_at m v ≡ Some i → occurrences i.0 hs ≡ filter (touches m v) hs
occurrences_touch m v i [] d e = refl
occurrences_touch m v i (h ∷ hs) d e = ap₂ (λ b z. cond b (h ∷ z) z) (sym (touches_holds m v i d e h)) (occurrences_touch m v i hs d e)

-- what was taken of the clauses in a variable's list is what is taken of all
pub taken_all : (m : Maps) (v : ℕ) (i : Inner) (hs : List Held) (ids : List ShortId) (to : TakenOut) → Matched m → inner_at m v ≡ Some i → clauses_at hs ids ≡ occurrences i.0 hs → Takes m (clauses_at hs ids) to → TakesOut m hs v to
taken_all m v i hs ids to d e f t =
    let all : clauses_at hs ids ≡ filter (touches m v) hs = f ∙ occurrences_touch m v i hs d e in
    record {
      doomed = t.doomed ∙ ap (map (λ (h : Held). h.id)) all;
      block = t.block ∙ (ap (λ z. own_clauses m (hard_of z)) all ∙ clauses_of-filter m not (mentions v) hs);
    }

-- the hard clauses of a variable are over active variables
pub block_active : (k : Kernel) (v : ℕ) → Standing k → each_lit (has_inner k.maps) (filter (mentions v) (state_of k).hard) ≡ true
block_active k v h =
    each_mono (λ (l : OwnLit). is_active (state_of k) l.var.0) (has_inner k.maps) (λ l a. sym (get_is_some k.maps.inners l.var.0) ∙ a) (filter (mentions v) (state_of k).hard)
    (all_filter (list_all (λ (l : OwnLit). is_active (state_of k) l.var.0)) (mentions v) (list_all (λ (l : OwnLit). is_active (state_of k) l.var.0)) (λ c a b. a) (state_of k).hard h.stands.places.placed.hard)

-- the literals of the clause of an id
pub read_lits : (hs : List Held) (i : ℕ) (h : Held) (lits : List InLit) → clause_at hs i ≡ Some h → option_map (λ k. k.lits) (clause_at hs i) ≡ Some lits → h.lits ≡ lits
read_lits hs i h lits e f = same h.lits lits (sym (ap (option_map (λ (k : Held). k.lits)) e) ∙ f)
  where
    same : (x y : List InLit) → Some x ≡ Some y → x ≡ y
    same x y q = cc

-- what is to be stored is as many clauses, and as long
pub same_sizes : (m : Maps) (fresh : List Fresh) (cs : List (List OwnLit)) → map (in_own m) (in_clauses fresh) ≡ map hard_clause cs → (length fresh ≡ length cs) × (list_all (λ f. leb (length f.lits) 32) fresh ≡ list_all (λ c. leb (length c) 32) cs)
same_sizes m [] [] e = (refl, refl)
same_sizes m [] (c ∷ cs) e = cc
same_sizes m (x ∷ xs) [] e = cc
same_sizes m (x ∷ xs) (c ∷ cs) e =
    let h : in_own m (in_clause x) ≡ hard_clause c = first (in_own m (in_clause x)) (hard_clause c) (map (in_own m) (in_clauses xs)) (map hard_clause cs) e in
    let t : (length xs ≡ length cs) × (list_all (λ f. leb (length f.lits) 32) xs ≡ list_all (λ c. leb (length c) 32) cs) = same_sizes m xs cs (rest (in_own m (in_clause x)) (hard_clause c) (map (in_own m) (in_clauses xs)) (map hard_clause cs) e) in
    (ap suc t.0, ap₂ {C = Bool} ◌&&◌ (ap (λ n. leb n 32) (sym (length-map x.lits (own_of m)) ∙ ap (λ (z : OwnClause). length z.lits) h)) t.1)
  where
    first : (y z : OwnClause) (ys zs : List OwnClause) → y ∷ ys ≡ z ∷ zs → y ≡ z
    first y z ys zs q = cc

    rest : (y z : OwnClause) (ys zs : List OwnClause) → y ∷ ys ≡ z ∷ zs → ys ≡ zs
    rest y z ys zs q = cc

-- whether the bound is met, where the variable is in few clauses and its resolvents are not more
pub bounded_short : (m : Maps) (v : ℕ) (block : List (List OwnLit)) (fresh : List Fresh) (b : Bool) → true ≡ are_few v block → Stores m fresh (resolvents v block) → true ≡ leb (length (resolvents v block)) (length block)
    → b ≡ list_all (λ f. leb (length f.lits) 32) fresh → b ≡ are_bounded v block
bounded_short m v block fresh b few s le e =
    e ∙ ((same_sizes m fresh (resolvents v block) s.become).1 ∙ (ap (λ z. z && are_short (resolvents v block)) le ∙ ap (λ z. z && (leb (length (resolvents v block)) (length block) && are_short (resolvents v block))) few))
