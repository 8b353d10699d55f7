-- What follows from clauses and a reasoned trail, one step of the walk at a time.
use Rattle.std.proofs.Common.{◌≡◌, ◌<◌, ◌≤◌, ℕ, Bool, true, false, cond, not, eqb, leb, ◌&&◌, ◌||◌, List, [], ◌∷◌, Option, Some, None, option_map, Result, Ok, Err, refl, sym, ap, ◌∙◌, ⊎_elim, arith, eq-eqb, ltb-true}
use Rattle.std.proofs.lemmas.Bool.{and_parts, and_from, or_cases, eqb-true, leb-true, not-true, false≢true, both_ways}
use Rattle.std.proofs.lemmas.Option.{same_Some, none-some}
use Rattle.std.specs.Result.{IfOk}
use Rattle.std.specs.List.{list_all}
use Rattle.sat_lits.specs.InLits.{same_lit, opposite}
use Rattle.sat_lits.specs.ListLaws.{all_or_any, any_mono, all_any_mono, both_all}
use Rattle.sat_lits.specs.ClauseLaws.{signed_same, signed_opposite}
use Rattle.sat_lits.specs.Truth.{clause_value}
use Rattle.sat_lits.specs.declared.literal.InLit.{InLit}
use Rattle.sat_lits.specs.declared.literal.ClauseId.{ClauseId}
use Rattle.trail.specs.declared.trail.Step.{Step}
use Rattle.trail.specs.Trail.{level_of, shaped, shaped_step}
use Rattle.trail.specs.Laws.{levels_low, level_up}
use Rattle.clause_store.specs.Store.{Held, clause_at}
use Rattle.propagate.specs.Reasons.{names, passes, has_reason, reasoned, lit_value, steps_value, held_value}
use Rattle.propagate.specs.Laws.{reason_value}
use Rattle.analyze.specs.Walks.{denied, covered}

-- what holds after a success gives something else
pub on_ok : {A B : Type 0} (r : Result A B) (P Q : A → Type 0) → ((a : A) → P a → Q a) → IfOk r P → IfOk r Q
on_ok (Ok a) P Q h p = h a p
on_ok (Err b) P Q h p = p

-- literals that are the same have one value
pub same_lit_value : (w : ℕ → Bool) (k l : InLit) → same_lit k l ≡ true → lit_value w k ≡ lit_value w l
same_lit_value w k l e = signed_same (λ (m : InLit). m.var.0) (λ (m : InLit). m.negative) w k l e

-- and a literal the opposite of its negation
pub opposite_value : (w : ℕ → Bool) (k l : InLit) → opposite k l ≡ true → lit_value w l ≡ not (lit_value w k)
opposite_value w k l e = signed_opposite (λ (m : InLit). m.var.0) (λ (m : InLit). m.negative) w k l e

-- the literals of an id, where it is live
abbrev pub lits_at : List Held → ClauseId → Option (List InLit)
lits_at held id = option_map (λ h. h.lits) (clause_at held id.0)

-- the clause that is read passes the test
pub names_lits : (held : List Held) (id : ClauseId) (test : List InLit → Bool) (c : List InLit) → lits_at held id ≡ Some c → names held id test ≡ true → test c ≡ true
names_lits held id test c e n = go (clause_at held id.0) e n
  where
    go : (o : Option Held) → option_map (λ h. h.lits) o ≡ Some c → passes test o ≡ true → test c ≡ true
    go None f g = absurd (false≢true g)
    go (Some h) f g = ap test (sym (same_Some h.lits c f)) ∙ g

-- and where it does, the id names one that does
pub lits_names : (held : List Held) (id : ClauseId) (test : List InLit → Bool) (c : List InLit) → lits_at held id ≡ Some c → names held id test ≡ test c
lits_names held id test c e = go (clause_at held id.0) e
  where
    go : (o : Option Held) → option_map (λ h. h.lits) o ≡ Some c → passes test o ≡ test c
    go None f = absurd (none-some c f)
    go (Some h) f = ap test (same_Some h.lits c f)

-- it is true where all clauses are
pub read_value : (w : ℕ → Bool) (held : List Held) (id : ClauseId) (c : List InLit) → lits_at held id ≡ Some c → held_value w held ≡ true → clause_value (lit_value w) c ≡ true
read_value w held id c e a = go held e a
  where
    go : (rest : List Held) → lits_at rest id ≡ Some c → held_value w rest ≡ true → clause_value (lit_value w) c ≡ true
    go [] f b = absurd (none-some c f)
    go (h ∷ rest) f b =
        let p : (clause_value (lit_value w) h.lits ≡ true) × (held_value w rest ≡ true) = and_parts _ _ b in
        here (eqb h.id id.0) f p.0 (λ (g : lits_at rest id ≡ Some c). go rest g p.1)
      where
        here : (x : Bool) → option_map (λ k. k.lits) (cond x (Some h) (clause_at rest id.0)) ≡ Some c → clause_value (lit_value w) h.lits ≡ true → (lits_at rest id ≡ Some c → clause_value (lit_value w) c ≡ true) → clause_value (lit_value w) c ≡ true
        here true g v r = ap (clause_value (lit_value w)) (sym (same_Some h.lits c g)) ∙ v
        here false g v r = r g

-- the literals of level 0 are true where variables have these values
abbrev pub roots_true : (ℕ → Bool) → List Step → Bool
roots_true w t = list_all (λ s. not (eqb s.level 0) || lit_value w s.lit) t

-- where the present level is 0, all literals are of level 0
all_roots : (w : ℕ → Bool) (t : List Step) → shaped t ≡ true → level_of t ≤ 0 → roots_true w t ≡ true → steps_value w t ≡ true
all_roots w t e h r =
    both_all (λ (s : Step). leb s.level 0) (λ (s : Step). not (eqb s.level 0) || lit_value w s.lit) (λ (s : Step). lit_value w s.lit)
    (λ s a b. let z : s.level ≤ 0 = leb-true _ _ a in let y : s.level ≡ 0 = omega arith in
    ⊎_elim (λ (x : not (eqb s.level 0) ≡ true). absurd (both_ways _ (not-true _ x) (eq-eqb s.level 0 y))) (λ (x : lit_value w s.lit ≡ true). x) (or_cases _ _ b))
    t (levels_low t 0 e h) r

-- each literal of level 0 follows from the clauses
pub roots : (w : ℕ → Bool) (held : List Held) (t : List Step) → held_value w held ≡ true → shaped t ≡ true → reasoned held t ≡ true → roots_true w t ≡ true
roots w held [] a e r = refl
roots w held (s ∷ older) a e r =
    let p : (shaped_step older s ≡ true) × (shaped older ≡ true) = and_parts _ _ e in
    let q : (has_reason held older s s.reason ≡ true) × (reasoned held older ≡ true) = and_parts _ _ r in
    let i : roots_true w older ≡ true = roots w held older a p.1 q.1 in
    and_from _ _ (go (eqb s.level 0) refl p.0 p.1 q.0 i) i
  where
    derived : s.level ≡ 0 → level_of older ≤ s.level → shaped older ≡ true → roots_true w older ≡ true → (o : Option ClauseId) → has_reason held older s o ≡ true → lit_value w s.lit ≡ true
    derived l u y i None z = absurd (let m : level_of older < s.level = ltb-true _ _ z in omega arith)
    derived l u y i (Some k) z = reason_value w held older s k a (all_roots w older y (omega arith) i) z

    go : (b : Bool) → eqb s.level 0 ≡ b → shaped_step older s ≡ true → shaped older ≡ true → has_reason held older s s.reason ≡ true → roots_true w older ≡ true → (not b || lit_value w s.lit) ≡ true
    go false f x y z i = refl
    go true f x y z i = derived (eqb-true _ _ f) (level_up older s x) y i s.reason z

root_or : (w : ℕ → Bool) (s : Step) → (not (eqb s.level 0) || lit_value w s.lit) ≡ true → lit_value w s.lit ≡ false → eqb s.level 0 ≡ true → ⊥
root_or w s a f e = ⊎_elim (λ (g : not (eqb s.level 0) ≡ true). both_ways _ (not-true _ g) e) (λ (g : lit_value w s.lit ≡ true). both_ways _ f g) (or_cases _ _ a)

-- a true literal that is covered denies the trail
pub covered_denied : (seen w : ℕ → Bool) (t : List Step) (m : InLit) → roots_true w t ≡ true → covered seen t m ≡ true → lit_value w m ≡ true → denied seen w t ≡ true
covered_denied seen w t m a e v =
    all_any_mono (λ (s : Step). not (eqb s.level 0) || lit_value w s.lit) (λ (s : Step). opposite s.lit m && (seen s.lit.var.0 || eqb s.level 0)) (λ (s : Step). seen s.lit.var.0 && not (lit_value w s.lit)) one t a e
  where
    one : (s : Step) → (not (eqb s.level 0) || lit_value w s.lit) ≡ true → (opposite s.lit m && (seen s.lit.var.0 || eqb s.level 0)) ≡ true → (seen s.lit.var.0 && not (lit_value w s.lit)) ≡ true
    one s r o =
        let p : (opposite s.lit m ≡ true) × ((seen s.lit.var.0 || eqb s.level 0) ≡ true) = and_parts _ _ o in
        let n : not (lit_value w s.lit) ≡ true = sym (opposite_value w s.lit m p.0) ∙ v in
        ⊎_elim (λ (g : seen s.lit.var.0 ≡ true). and_from _ _ g n) (λ (g : eqb s.level 0 ≡ true). absurd (root_or w s r (not-true _ n) g)) (or_cases _ _ p.1)

-- a false clause denies the trail where its variables are marked, those of level 0 aside
pub conflict_denied : (seen w : ℕ → Bool) (t : List Step) (c : List InLit) → roots_true w t ≡ true → list_all (covered seen t) c ≡ true → clause_value (lit_value w) c ≡ true → denied seen w t ≡ true
conflict_denied seen w t c a e v = all_or_any (covered seen t) (lit_value w) (denied seen w t ≡ true) c e v (λ m f g. covered_denied seen w t m a f g)

-- an unmarked literal is passed over
pub pass_denied : (seen w : ℕ → Bool) (s : Step) (older : List Step) → seen s.lit.var.0 ≡ false → denied seen w (s ∷ older) ≡ true → denied seen w older ≡ true
pass_denied seen w s older e f = rw e at f

-- a marked literal gives way to the others of its reason
pub resolve_denied : (seen more w : ℕ → Bool) (s : Step) (older : List Step) (c : List InLit) → ((v : ℕ) → seen v ≡ true → more v ≡ true) → roots_true w older ≡ true → clause_value (lit_value w) c ≡ true
    → list_all (λ m. same_lit s.lit m || covered more older m) c ≡ true → denied seen w (s ∷ older) ≡ true → denied more w older ≡ true
resolve_denied seen more w s older c h a v e o =
    ⊎_elim
    (λ (f : (seen s.lit.var.0 && not (lit_value w s.lit)) ≡ true).
    let p : (seen s.lit.var.0 ≡ true) × (not (lit_value w s.lit) ≡ true) = and_parts _ _ f in
    all_or_any (λ (m : InLit). same_lit s.lit m || covered more older m) (lit_value w) (denied more w older ≡ true) c e v
    (λ m g i. ⊎_elim
    (λ (k : same_lit s.lit m ≡ true). absurd (both_ways _ (not-true _ p.1) (same_lit_value w s.lit m k ∙ i)))
    (λ (k : covered more older m ≡ true). covered_denied more w older m a k i)
    (or_cases _ _ g)))
    (λ (f : denied seen w older ≡ true). any_mono (λ (r : Step). seen r.lit.var.0 && not (lit_value w r.lit)) (λ (r : Step). more r.lit.var.0 && not (lit_value w r.lit))
    (λ r g. let p : (seen r.lit.var.0 ≡ true) × (not (lit_value w r.lit) ≡ true) = and_parts _ _ g in and_from _ _ (h r.lit.var.0 p.0) p.1) older f)
    (or_cases _ _ o)
