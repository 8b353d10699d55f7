-- What a conflict is, and what a clause learned from it is.
use Rattle.std.proofs.Common.{◌≡◌, ◌<◌, ◌≤◌, ◌+◌, ℕ, suc, Bool, true, false, cond, not, eqb, leb, ltb, List, [], ◌∷◌, ◌++◌, length, map, filter, Some, None, option_map, refl, sym, ap, subst, ◌∙◌, arith, eq-eqb, ltb-true}
use Rattle.std.proofs.lemmas.Bool.{and_parts, and_from, eqb-true, leb-true, le-leb, false≢true}
use Rattle.std.proofs.lemmas.Option.{same_Some, none-some}
use Rattle.std.specs.List.{list_all}
use Rattle.sat_lits.specs.InLits.{opposite}
use Rattle.sat_lits.specs.ListLaws.{all_or_any, all_mono}
use Rattle.sat_lits.specs.declared.literal.InLit.{InLit}
use Rattle.trail.specs.declared.trail.Step.{Step}
use Rattle.trail.specs.Trail.{false_in, level_of}
use Rattle.trail.specs.Laws.{opposite_var}
use Rattle.clause_store.specs.Store.{Held, Store, clause_at, is_live, rising, IsKept, hard_of, learned_of}
use Rattle.analyze.specs.Falsity.{false_by}
use Rattle.analyze.specs.LearnedClauses.{IsLearned}
use Rattle.analyze.specs.FalsityLaws.{by_false, at_false}
use Rattle.search.specs.InUse.{is_among, lits_among, clauses_among, steps_among}

-- a clause that is live is one of some clauses
pub live_some : (held : List Held) (id : ℕ) → is_live held id ≡ true → 0 < length held
live_some [] id e = absurd (false≢true e)
live_some (h ∷ rest) id e = omega arith

-- a false literal has a number of the trail
false_among : (numbers : List ℕ) (t : List Step) (l : InLit) → steps_among numbers t ≡ true → false_in t l ≡ true → is_among numbers l.var.0 ≡ true
false_among numbers t l a f = all_or_any (λ (s : Step). is_among numbers s.lit.var.0) (λ (s : Step). opposite s.lit l) (is_among numbers l.var.0 ≡ true) t a f (λ s x y. subst (λ (v : ℕ). is_among numbers v ≡ true) (opposite_var s.lit l y) x)

-- what is learned is over numbers of the trail
pub learned_among : (numbers : List ℕ) (held : List Held) (t : List Step) (lits : List InLit) (back : ℕ) → steps_among numbers t ≡ true → IsLearned held t lits back → lits_among numbers lits ≡ true
learned_among numbers held t lits back a l =
    subst (λ (ls : List InLit). lits_among numbers ls ≡ true) (sym l.parts)
    (and_from _ _ (false_among numbers t l.first a (at_false t (level_of t) l.first l.first_false))
    (all_mono (false_by t back) (λ (m : InLit). is_among numbers m.var.0) (λ m x. false_among numbers t m a (by_false t back m x)) l.others l.others_false))

-- there are no more clauses than ids below the number given
length_rising : (held : List Held) (low high : ℕ) → low ≤ high → rising held ≡ true → list_all (λ h. ltb h.id high) held ≡ true → list_all (λ h. leb low h.id) held ≡ true → low + length held ≤ high
length_rising [] low high m r b l = omega arith
length_rising (h ∷ rest) low high m r b l =
    let p : (list_all (λ later. ltb h.id later.id) rest ≡ true) × (rising rest ≡ true) = and_parts _ _ r in
    let q : (ltb h.id high ≡ true) × (list_all (λ g. ltb g.id high) rest ≡ true) = and_parts _ _ b in
    let s : (leb low h.id ≡ true) × (list_all (λ g. leb low g.id) rest ≡ true) = and_parts _ _ l in
    let x : h.id < high = ltb-true _ _ q.0 in
    let y : low ≤ h.id = leb-true _ _ s.0 in
    let i : suc h.id + length rest ≤ high = length_rising rest (suc h.id) high (omega arith) p.1 q.1 (all_mono (λ (g : Held). ltb h.id g.id) (λ (g : Held). leb (suc h.id) g.id) (λ g z. let w : h.id < g.id = ltb-true _ _ z in le-leb (suc h.id) g.id (omega arith)) rest p.0) in
    omega arith

pub held_within : (store : Store) → IsKept store → length store.held ≤ store.given
held_within store k =
    let l : 0 + length store.held ≤ store.given = length_rising store.held 0 store.given (omega arith) k.rises k.below (all_mono (λ (h : Held). ltb h.id store.given) (λ (h : Held). leb 0 h.id) (λ h x. le-leb 0 h.id (omega arith)) store.held k.below) in
    omega arith

-- a clause under an id that no other has is found by it
pub found_last : (held : List Held) (given : ℕ) (h : Held) → list_all (λ g. ltb g.id given) held ≡ true → given ≤ h.id → clause_at (held ++ h ∷ []) h.id ≡ Some h
found_last [] given h b l = ap (λ (x : Bool). cond x (Some h) None) (eq-eqb h.id h.id refl)
found_last (g ∷ rest) given h b l =
    let p : (ltb g.id given ≡ true) × (list_all (λ c. ltb c.id given) rest ≡ true) = and_parts _ _ b in
    let x : g.id < given = ltb-true _ _ p.0 in
    go (eqb g.id h.id) refl (found_last rest given h p.1 l)
  where
    go : (y : Bool) → eqb g.id h.id ≡ y → clause_at (rest ++ h ∷ []) h.id ≡ Some h → cond y (Some g) (clause_at (rest ++ h ∷ []) h.id) ≡ Some h
    go true z i = absurd (let w : g.id ≡ h.id = eqb-true _ _ z in let p : (ltb g.id given ≡ true) × (list_all (λ c. ltb c.id given) rest ≡ true) = and_parts _ _ b in let x : g.id < given = ltb-true _ _ p.0 in omega arith)
    go false z i = i

-- and no clause before had it
pub not_before : (held : List Held) (given id : ℕ) → list_all (λ g. ltb g.id given) held ≡ true → given ≤ id → clause_at held id ≡ None
not_before [] given id b l = refl
not_before (g ∷ rest) given id b l =
    let p : (ltb g.id given ≡ true) × (list_all (λ c. ltb c.id given) rest ≡ true) = and_parts _ _ b in
    go (eqb g.id id) refl (not_before rest given id p.1 l)
  where
    go : (y : Bool) → eqb g.id id ≡ y → clause_at rest id ≡ None → cond y (Some g) (clause_at rest id) ≡ None
    go true z i = absurd (let w : g.id ≡ id = eqb-true _ _ z in let p : (ltb g.id given ≡ true) × (list_all (λ c. ltb c.id given) rest ≡ true) = and_parts _ _ b in let x : g.id < given = ltb-true _ _ p.0 in omega arith)
    go false z i = i

-- the literals of a live clause are over numbers in use
pub live_among : (numbers : List ℕ) (held : List Held) (id : ℕ) (lits : List InLit) → clauses_among numbers held ≡ true → option_map (λ (h : Held). h.lits) (clause_at held id) ≡ Some lits → lits_among numbers lits ≡ true
live_among numbers [] id lits a e = absurd (none-some lits e)
live_among numbers (h ∷ rest) id lits a e =
    let b : (lits_among numbers h.lits ≡ true) × (clauses_among numbers rest ≡ true) = and_parts _ _ a in
    go (eqb h.id id) e b.0 (λ (f : option_map (λ (c : Held). c.lits) (clause_at rest id) ≡ Some lits). live_among numbers rest id lits b.1 f)
  where
    go : (x : Bool) → option_map (λ (c : Held). c.lits) (cond x (Some h) (clause_at rest id)) ≡ Some lits → lits_among numbers h.lits ≡ true → (option_map (λ (c : Held). c.lits) (clause_at rest id) ≡ Some lits → lits_among numbers lits ≡ true) → lits_among numbers lits ≡ true
    go true f u more = ap (lits_among numbers) (sym (same_Some h.lits lits f)) ∙ u
    go false f u more = more f

-- a learned clause at the end leaves the hard ones, and is the last of the learned ones
pub hard_last : (held : List Held) (h : Held) → h.learned ≡ true → hard_of (held ++ h ∷ []) ≡ hard_of held
hard_last [] h e = ap (λ (b : Bool). map (λ (c : Held). c.lits) (cond (not b) (h ∷ []) [])) e
hard_last (g ∷ rest) h e = go g.learned (hard_last rest h e)
  where
    go : (b : Bool) → hard_of (rest ++ h ∷ []) ≡ hard_of rest → map (λ (c : Held). c.lits) (cond (not b) (g ∷ filter (λ c. not c.learned) (rest ++ h ∷ [])) (filter (λ c. not c.learned) (rest ++ h ∷ []))) ≡ map (λ (c : Held). c.lits) (cond (not b) (g ∷ filter (λ c. not c.learned) rest) (filter (λ c. not c.learned) rest))
    go true i = i
    go false i = ap (λ (z : List (List InLit)). g.lits ∷ z) i

pub learned_last : (held : List Held) (h : Held) → h.learned ≡ true → learned_of (held ++ h ∷ []) ≡ learned_of held ++ h.lits ∷ []
learned_last [] h e = ap (λ (b : Bool). map (λ (c : Held). c.lits) (cond b (h ∷ []) [])) e
learned_last (g ∷ rest) h e = go g.learned (learned_last rest h e)
  where
    go : (b : Bool) → learned_of (rest ++ h ∷ []) ≡ learned_of rest ++ h.lits ∷ [] → map (λ (c : Held). c.lits) (cond b (g ∷ filter (λ c. c.learned) (rest ++ h ∷ [])) (filter (λ c. c.learned) (rest ++ h ∷ []))) ≡ map (λ (c : Held). c.lits) (cond b (g ∷ filter (λ c. c.learned) rest) (filter (λ c. c.learned) rest)) ++ h.lits ∷ []
    go true i = ap (λ (z : List (List InLit)). g.lits ∷ z) i
    go false i = i
