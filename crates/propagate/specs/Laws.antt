-- Facts on propagation that every crate above may cite.
use Rattle.std.proofs.Common.{◌≡◌, ℕ, Bool, true, false, cond, not, eqb, ◌&&◌, ◌||◌, List, [], ◌∷◌, ◌++◌, Option, Some, None, refl, sym, ap, subst, ◌∙◌, ⊎_elim, ◌<◌, ◌≤◌}
use Rattle.std.proofs.lemmas.Bool.{and_parts, and_from, or_cases, eqb-true, false≢true, both_ways, cases_lt}
use Rattle.std.specs.List.{list_any, list_all}
use Rattle.sat_lits.specs.InLits.{same_lit, opposite}
use Rattle.sat_lits.specs.ListLaws.{all_or_any}
use Rattle.sat_lits.specs.ClauseLaws.{signed_same, signed_opposite}
use Rattle.sat_lits.specs.Truth.{clause_value}
use Rattle.sat_lits.specs.declared.literal.InLit.{InLit}
use Rattle.sat_lits.specs.declared.literal.ClauseId.{ClauseId}
use Rattle.trail.specs.declared.trail.Step.{Step}
use Rattle.trail.specs.Trail.{false_in, unset_in, level_of, shaped, shaped_step, back_to}
use Rattle.clause_store.specs.Store.{Held, clause_at, is_live}
use Rattle.propagate.specs.Units.{gives, unit_by}
use Rattle.propagate.specs.Reasons.{names, passes, has_reason, reasoned, unit_reason, derives, Extends, lit_value, steps_value, held_value, Follows}
use Rattle.trail.specs.Laws.{back_nowhere, back_past}
use Rattle.std.specs.Option.{is_some}

-- what all clauses pass, one that is named passes with its own test
pub named_all : (p : Held → Bool) (test : List InLit → Bool) (held : List Held) (id : ClauseId) (r : Type 0) → names held id test ≡ true → list_all p held ≡ true → ((h : Held) → p h ≡ true → test h.lits ≡ true → r) → r
named_all p test [] id r e a k = absurd (false≢true e)
named_all p test (h ∷ rest) id r e a k =
    let b : (p h ≡ true) × (list_all p rest ≡ true) = and_parts _ _ a in
    go (eqb h.id id.0) e b.0 (λ (f : names rest id test ≡ true). named_all p test rest id r f b.1 k)
  where
    go : (b : Bool) → passes test (cond b (Some h) (clause_at rest id.0)) ≡ true → p h ≡ true → (names rest id test ≡ true → r) → r
    go true f q more = k h q f
    go false f q more = more f

-- a unit clause has an unset literal, and gives it
pub unit_named : (held : List Held) (t : List Step) (l : InLit) (id : ClauseId) → names held id (unit_by t l) ≡ true → (unset_in t l ≡ true) × (names held id (gives t l) ≡ true)
unit_named held t l id e = go (clause_at held id.0) e
  where
    go : (o : Option Held) → passes (unit_by t l) o ≡ true → (unset_in t l ≡ true) × (passes (gives t l) o ≡ true)
    go None f = absurd (false≢true f)
    go (Some h) f = and_parts _ _ f

-- a literal that a unit clause gave was unset, and has its reason
pub unit_has_reason : (held : List Held) (t : List Step) (s : Step) (r : Option ClauseId) → unit_reason held t s.lit r ≡ true → (unset_in t s.lit ≡ true) × (has_reason held t s r ≡ true)
unit_has_reason held t s None e = absurd (false≢true e)
unit_has_reason held t s (Some id) e = unit_named held t s.lit id e

-- propagation stays at its level
pub derived_level : (held : List Held) (newer older : List Step) → derives held newer older ≡ true → level_of (newer ++ older) ≡ level_of older
derived_level held [] older e = refl
derived_level held (s ∷ newer) older e =
    let p : ((unit_reason held (newer ++ older) s.lit s.reason && eqb s.level (level_of older)) ≡ true) × (derives held newer older ≡ true) = and_parts _ _ e in
    let q : (unit_reason held (newer ++ older) s.lit s.reason ≡ true) × (eqb s.level (level_of older) ≡ true) = and_parts _ _ p.0 in
    eqb-true _ _ q.1

-- a reasoned trail stays reasoned
pub derives_reasoned : (held : List Held) (newer older : List Step) → derives held newer older ≡ true → reasoned held older ≡ true → reasoned held (newer ++ older) ≡ true
derives_reasoned held [] older e r = r
derives_reasoned held (s ∷ newer) older e r =
    let p : ((unit_reason held (newer ++ older) s.lit s.reason && eqb s.level (level_of older)) ≡ true) × (derives held newer older ≡ true) = and_parts _ _ e in
    let q : (unit_reason held (newer ++ older) s.lit s.reason ≡ true) × (eqb s.level (level_of older) ≡ true) = and_parts _ _ p.0 in
    let u : (unset_in (newer ++ older) s.lit ≡ true) × (has_reason held (newer ++ older) s s.reason ≡ true) = unit_has_reason held (newer ++ older) s s.reason q.0 in
    and_from _ _ u.1 (derives_reasoned held newer older p.1 r)

-- where each literal of a trail is true, what it makes false is
pub false_value : (w : ℕ → Bool) (t : List Step) (l : InLit) → steps_value w t ≡ true → false_in t l ≡ true → lit_value w l ≡ false
false_value w t l a e =
    all_or_any (λ (s : Step). lit_value w s.lit) (λ (s : Step). opposite s.lit l) (lit_value w l ≡ false) t a e
    (λ s p q. signed_opposite (λ (k : InLit). k.var.0) (λ (k : InLit). k.negative) w s.lit l q ∙ ap not p)

-- a true clause whose other literals are false gives its literal
pub given_value : (w : ℕ → Bool) (older : List Step) (l : InLit) (c : List InLit) → steps_value w older ≡ true → gives older l c ≡ true → clause_value (lit_value w) c ≡ true → lit_value w l ≡ true
given_value w older l c a g v =
    let p : (list_any (same_lit l) c ≡ true) × (list_all (λ m. same_lit l m || false_in older m) c ≡ true) = and_parts _ _ g in
    all_or_any (λ (m : InLit). same_lit l m || false_in older m) (lit_value w) (lit_value w l ≡ true) c p.1 v
    (λ m e f. ⊎_elim (λ (s : same_lit l m ≡ true). signed_same (λ (k : InLit). k.var.0) (λ (k : InLit). k.negative) w l m s ∙ f)
    (λ (s : false_in older m ≡ true). absurd (both_ways _ (false_value w older m a s) f)) (or_cases _ _ e))

-- a literal with a reason follows from the clauses and the literals before it
pub reason_value : (w : ℕ → Bool) (held : List Held) (older : List Step) (s : Step) (id : ClauseId) → held_value w held ≡ true → steps_value w older ≡ true → has_reason held older s (Some id) ≡ true → lit_value w s.lit ≡ true
reason_value w held older s id a b e =
    named_all (λ (h : Held). clause_value (lit_value w) h.lits) (gives older s.lit) held id (lit_value w s.lit ≡ true) e a (λ h v g. given_value w older s.lit h.lits b g v)

-- all that propagation adds follows
pub derives_value : (w : ℕ → Bool) (held : List Held) (newer older : List Step) → held_value w held ≡ true → steps_value w older ≡ true → derives held newer older ≡ true → steps_value w (newer ++ older) ≡ true
derives_value w held [] older a b e = b
derives_value w held (s ∷ newer) older a b e =
    let p : ((unit_reason held (newer ++ older) s.lit s.reason && eqb s.level (level_of older)) ≡ true) × (derives held newer older ≡ true) = and_parts _ _ e in
    let q : (unit_reason held (newer ++ older) s.lit s.reason ≡ true) × (eqb s.level (level_of older) ≡ true) = and_parts _ _ p.0 in
    let i : steps_value w (newer ++ older) ≡ true = derives_value w held newer older a b p.1 in
    and_from _ _ (go s.reason q.0 i) i
  where
    go : (r : Option ClauseId) → unit_reason held (newer ++ older) s.lit r ≡ true → steps_value w (newer ++ older) ≡ true → lit_value w s.lit ≡ true
    go None f i = absurd (false≢true f)
    go (Some id) f i = reason_value w held (newer ++ older) s id a i (unit_has_reason held (newer ++ older) s (Some id) f).1

-- the trail that was reached is reasoned where the one before was
pub extends_reasoned : (held : List Held) (from to : List Step) → Extends held from to → reasoned held from ≡ true → reasoned held to ≡ true
extends_reasoned held from to x r = subst (λ (z : List Step). reasoned held z ≡ true) (sym x.parts) (derives_reasoned held x.newer from x.derived r)

-- and follows from it
pub extends_follows : (held : List Held) (from to : List Step) → Extends held from to → Follows held from to
extends_follows held from to x w a b = subst (λ (z : List Step). steps_value w z ≡ true) (sym x.parts) (derives_value w held x.newer from a b x.derived)

-- it is of the same level
pub extends_level : (held : List Held) (from to : List Step) → Extends held from to → level_of to ≡ level_of from
extends_level held from to x = ap level_of x.parts ∙ derived_level held x.newer from x.derived

-- an id that names a clause is live
pub names_live : (held : List Held) (id : ClauseId) (test : List InLit → Bool) → names held id test ≡ true → is_live held id.0 ≡ true
names_live held id test e = go (clause_at held id.0) e
  where
    go : (o : Option Held) → passes test o ≡ true → is_some o ≡ true
    go None f = absurd (false≢true f)
    go (Some h) f = refl

-- the way back leaves a trail reasoned
pub back_reasoned : (held : List Held) (t : List Step) (k : ℕ) → shaped t ≡ true → reasoned held t ≡ true → reasoned held (back_to k t) ≡ true
back_reasoned held [] k e r = refl
back_reasoned held (s ∷ older) k e r =
    let p : (shaped_step older s ≡ true) × (shaped older ≡ true) = and_parts _ _ e in
    let q : (has_reason held older s s.reason ≡ true) × (reasoned held older ≡ true) = and_parts _ _ r in
    ⊎_elim (λ (a : k < s.level). subst (λ (z : List Step). reasoned held z ≡ true) (sym (back_past older s k a)) (back_reasoned held older k p.1 q.1))
    (λ (a : s.level ≤ k). subst (λ (z : List Step). reasoned held z ≡ true) (sym (back_nowhere (s ∷ older) k e a)) r) (cases_lt k s.level)

names_more : (held : List Held) (h : Held) (k : ClauseId) (test : List InLit → Bool) → names held k test ≡ true → names (held ++ h ∷ []) k test ≡ true
names_more [] h k test e = absurd (false≢true e)
names_more (g ∷ held) h k test e = go (eqb g.id k.0) e (λ (f : names held k test ≡ true). names_more held h k test f)
  where
    go : (b : Bool) → passes test (cond b (Some g) (clause_at held k.0)) ≡ true → (names held k test ≡ true → names (held ++ h ∷ []) k test ≡ true) → passes test (cond b (Some g) (clause_at (held ++ h ∷ []) k.0)) ≡ true
    go true f r = f
    go false f r = r f

-- a clause that is added leaves a trail reasoned
pub reasoned_more : (held : List Held) (h : Held) (t : List Step) → reasoned held t ≡ true → reasoned (held ++ h ∷ []) t ≡ true
reasoned_more held h [] e = refl
reasoned_more held h (s ∷ older) e =
    let p : (has_reason held older s s.reason ≡ true) × (reasoned held older ≡ true) = and_parts _ _ e in
    and_from _ _ (step s.reason p.0) (reasoned_more held h older p.1)
  where
    step : (r : Option ClauseId) → has_reason held older s r ≡ true → has_reason (held ++ h ∷ []) older s r ≡ true
    step None e = e
    step (Some k) e = names_more held h k (gives older s.lit) e
