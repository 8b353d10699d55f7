-- The list of pairs while the clauses of a store are walked.
use Rattle.std.proofs.Common.{◌≡◌, ◌<◌, ◌≤◌, ◌==◌, ◌&&◌, Bool, true, false, cond, ltb, List, [], ◌∷◌, ◌++◌, Option, Some, refl, ap, ap₂, ◌∙◌, sym, arith, length, filter, option_map, option_to_list, vec_len, vec_capacity}
use Rattle.std.proofs.lemmas.Bool.{and_parts, and_from}
use Rattle.std.proofs.lemmas.List.{length-map}
use Rattle.std.specs.List.{list_all}
use Rattle.std.specs.Global.{Vec}
use Rattle.sat_lits.specs.declared.literal.ClauseId.{ClauseId}
use Rattle.sat_lits.specs.declared.literal.InLit.{InLit}
use Rattle.indexed_store.specs.declared.short_id.ShortId.{ShortId}
use Rattle.clause_store.specs.Store.{Store, Held, IsKept, clause_at, before, contents, rising}
use Rattle.indexed_store.specs.Lists.{are_below, ids_rise}
use Rattle.indexed_store.specs.Occurrences.{added_pair, clauses_at, is_pair}
use Rattle.indexed_store.proofs.Filling.{ids_at, found, fewer, more_ids, above_ids, below_ids, named, ids_enough}

-- the list has the ids of the pairs that were walked, and the places that it had
pub record Noting (held : List Held) (at : Option ClauseId) (olds pairs : Vec ShortId) : Type 0 where
  pub ids : pairs.items ≡ ids_at (filter is_pair (before held at))
  pub places : vec_capacity pairs ≡ vec_capacity olds

-- the clause of a live id, by its parts
parts : (held : List Held) (id : ClauseId) (learned : Bool) (lits : List InLit) → option_map (λ h. h.lits) (clause_at held id.0) ≡ Some lits → option_map (λ h. h.learned) (clause_at held id.0) ≡ Some learned
    → (h : Held) × ((clause_at held id.0 ≡ Some h) × (is_pair h ≡ (learned && length lits == 2)))
parts held id learned lits e f =
    let (h, (g, q)) = found held id.0 lits e in
    let r : h.learned ≡ learned = same h (sym (ap (option_map (λ h. h.learned)) g) ∙ f) in
    (h, (g, ap₂ (λ (b : Bool) (z : List InLit). b && length z == 2) r q))
  where
    same : (h : Held) → Some h.learned ≡ Some learned → h.learned ≡ learned
    same h x = cc

-- there is a place for the next one
pub pair_room : (held : List Held) (at : Option ClauseId) (id : ClauseId) (learned : Bool) (lits : List InLit) (olds pairs : Vec ShortId) → Noting held at olds pairs → at ≡ Some id → option_map (λ h. h.lits) (clause_at held id.0) ≡ Some lits
    → option_map (λ h. h.learned) (clause_at held id.0) ≡ Some learned → length (filter is_pair held) ≤ vec_capacity olds → (learned && length lits == 2) ≡ true → vec_len pairs < vec_capacity pairs
pair_room held at id learned lits olds pairs n e f g l t =
    let (h, (i, q)) = parts held id learned lits f g in
    let a : length (filter is_pair (before held (Some id))) < length (filter is_pair held) = fewer is_pair held id h i (q ∙ t) in
    let b : length pairs.items ≡ length (filter is_pair (before held (Some id))) = ap length (n.ids ∙ ap (λ o. ids_at (filter is_pair (before held o))) e) ∙ length-map _ _ in
    let d : vec_len pairs ≡ length pairs.items = pairs.ok.0 in
    omega (arith, n.places)

-- one clause more
pub pair_more : (held : List Held) (at : Option ClauseId) (id : ClauseId) (short : ShortId) (next : Option ClauseId) (learned : Bool) (lits : List InLit) (olds pairs news : Vec ShortId) → Noting held at olds pairs → at ≡ Some id
    → option_map (λ h. h.lits) (clause_at held id.0) ≡ Some lits → option_map (λ h. h.learned) (clause_at held id.0) ≡ Some learned → before held next ≡ before held (Some id) ++ option_to_list (clause_at held id.0)
    → short.0 ≡ id.0 → news.items ≡ pairs.items ++ added_pair learned lits short → vec_capacity news ≡ vec_capacity pairs → Noting held next olds news
pair_more held at id short next learned lits olds pairs news n e f g s w i p =
    let (h, (a, q)) = parts held id learned lits f g in
    record {
      ids = more_ids is_pair held at id short next h pairs.items news.items n.ids e a s w (i ∙ ap (λ b. pairs.items ++ cond b (short ∷ []) []) (sym q));
      places = p ∙ n.places;
    }

-- the ids of clauses rise
pub rise_ids : (p : Held → Bool) (held : List Held) → rising held ≡ true → ids_rise (ids_at (filter p held)) ≡ true
rise_ids p [] r = refl
rise_ids p (h ∷ held) r =
    let a : (list_all (λ k. ltb h.id k.id) held ≡ true) × (rising held ≡ true) = and_parts _ _ r in
    go (p h) (above_ids h.id p held a.0) (rise_ids p held a.1)
  where
    go : (b : Bool) → list_all (λ id. ltb h.id id.0) (ids_at (filter p held)) ≡ true → ids_rise (ids_at (filter p held)) ≡ true → ids_rise (ids_at (cond b (h ∷ filter p held) (filter p held))) ≡ true
    go true q s = and_from _ _ q s
    go false q s = s

-- all clauses were walked
pub record Noted (s : Store) (ids : List ShortId) : Type 0 where
  pub known : are_below s.given ids ≡ true
  pub rises : ids_rise ids ≡ true
  pub found : clauses_at s.held ids ≡ filter is_pair s.held

pub all_noted : (s : Store) (ids : List ShortId) → IsKept s → ids ≡ ids_at (filter is_pair s.held) → Noted s ids
all_noted s ids k e =
    record {
      known = ap (are_below s.given) e ∙ below_ids s.given is_pair s.held k.below;
      rises = ap ids_rise e ∙ rise_ids is_pair s.held k.rises;
      found = ap (clauses_at s.held) e ∙ named is_pair s.held k.rises;
    }

-- where clauses are the same, whatever their ids, the list has places for the new ids
pub pairs_enough : (held news : List Held) (pairs : Vec ShortId) → clauses_at held pairs.items ≡ filter is_pair held → contents news ≡ contents held → length (filter is_pair news) ≤ vec_capacity pairs
pairs_enough held news pairs f c =
    let a : length (filter is_pair news) ≤ length pairs.items = ids_enough (λ x. x.0 && length x.1 == 2) held news pairs.items f c in
    let b : vec_len pairs ≡ length pairs.items = pairs.ok.0 in
    let d : vec_len pairs ≤ vec_capacity pairs = pairs.ok.1 in
    omega arith
