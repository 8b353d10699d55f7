-- Walks over the chains of all literals that a trail makes false.
use Rattle.std.proofs.Common.{◌≡◌, ◌<◌, ◌≤◌, ◌+◌, ◌*◌, ◌/◌, inl, inr, ⊎_elim, ℕ, zero, suc, Bool, true, false, cond, not, eqb, ltb, ltb-true, ◌&&◌, ◌||◌, List, [], ◌∷◌, ◌++◌, length, map, reverse, take, get_or, Option, None, Some, refl, sym, ap, ap₂, subst, ◌∙◌, arith, eq-eqb}
use Rattle.std.specs.Bool.{beq}
use Rattle.std.specs.List.{list_any}
use Rattle.std.proofs.lemmas.Bool.{eqb-true, true≢false, false≢true, and_parts, and_from, or_cases, or_left, or_right}
use Rattle.std.proofs.lemmas.List.{take-append-le, take-append-drop, reverse-append, map-append, length-append}
use Rattle.std.proofs.lemmas.List.Folds.{list_any-append, list_any_at, list_any_more}
use Rattle.sat_lits.specs.InLits.{same_lit, opposite}
use Rattle.sat_lits.specs.declared.literal.InLit.{InLit}
use Rattle.sat_lits.specs.declared.literal.ClauseId.{ClauseId}
use Rattle.trail.specs.declared.trail.Step.{Step}
use Rattle.trail.specs.Trail.{Assignment, lits_of, false_in, level_of}
use Rattle.trail.specs.Laws.{lits_of-newest, same_lit_eq, same_lit_self}
use Rattle.clause_store.specs.Store.{Held}
use Rattle.propagate.specs.declared.watches.Taken.{Taken}
use Rattle.propagate.specs.declared.table.Table.{Table}
use Rattle.propagate.specs.Reasons.{Extends, derives, unit_reason}
use Rattle.propagate.specs.Watching.{clauses_below, steps_below}
use Rattle.propagate.specs.Watched.{code_of, negated, no_lit, watch_at, is_whole, AreWatched}
use Rattle.propagate.specs.Walks.{IsSettled, Keeps, AllSettled, AllGood}
use Rattle.sat_lits.specs.ListLaws.{all_or_any}
use Rattle.propagate.proofs.Room.{unit_below}
use Rattle.propagate.proofs.Turning.{extends_more, settled_more, not_before}

-- a test of the literals of a trail is one of its steps
pub any_lits : (p : InLit → Bool) (t : List Step) → list_any p (lits_of t) ≡ true → list_any (λ s. p s.lit) t ≡ true
any_lits p [] e = e
any_lits p (s ∷ older) e =
    let f : (list_any p (lits_of older) || list_any p (s.lit ∷ [])) ≡ true = sym (list_any-append p (lits_of older) (s.lit ∷ [])) ∙ (ap (list_any p) (sym (lits_of-newest older s)) ∙ e) in
    ⊎_elim (λ a. or_right (p s.lit) _ (any_lits p older a)) (λ b. or_left (p s.lit) _ (last (p s.lit) b)) (or_cases _ _ f)
  where
    last : (b : Bool) → (b || false) ≡ true → b ≡ true
    last true h = refl
    last false h = h

-- what is opposite to a literal is its negation
pub opposite_negated : (f w : InLit) → opposite f w ≡ true → w ≡ negated f
opposite_negated f w e =
    let p : (eqb f.var.0 w.var.0 ≡ true) × (not (beq f.negative w.negative) ≡ true) = and_parts _ _ e in
    ap₂ (λ (v : ℕ) (n : Bool). record { var = record { 0 = v }; negative = n }) (sym (eqb-true _ _ p.0)) (go f.negative w.negative p.1)
  where
    go : (a b : Bool) → not (beq a b) ≡ true → b ≡ not a
    go true true h = absurd (false≢true h)
    go true false h = refl
    go false true h = refl
    go false false h = absurd (false≢true h)

opposite_self : (l : InLit) → opposite l (negated l) ≡ true
opposite_self l = and_from _ _ (eq-eqb l.var.0 l.var.0 refl) (go l.negative)
  where
    go : (a : Bool) → not (beq a (not a)) ≡ true
    go true = refl
    go false = refl

-- the literals of a trail are true
pub negated_false : (t : List Step) (i : ℕ) (d : InLit) → i < length (lits_of t) → false_in t (negated (get_or (lits_of t) i d)) ≡ true
negated_false t i d h =
    any_lits (λ f. opposite f (negated (get_or (lits_of t) i d))) t
    (list_any_at (λ f. opposite f (negated (get_or (lits_of t) i d))) (lits_of t) i d h (opposite_self (get_or (lits_of t) i d)))

-- a literal that a front of a trail makes false is false
pub front_false : (t : List Step) (i : ℕ) (w : InLit) → list_any (λ f. opposite f w) (take i (lits_of t)) ≡ true → false_in t w ≡ true
front_false t i w e =
    any_lits (λ f. opposite f w) t
    (ap (list_any (λ f. opposite f w)) (sym (take-append-drop i (lits_of t))) ∙ (list_any-append (λ f. opposite f w) (take i (lits_of t)) _ ∙ or_left _ _ e))

lits_more : (newer older : List Step) → lits_of (newer ++ older) ≡ lits_of older ++ lits_of newer
lits_more newer older = ap reverse (map-append (λ (s : Step). s.lit) newer older) ∙ reverse-append (map (λ (s : Step). s.lit) newer) (map (λ (s : Step). s.lit) older)

lits_extends : (held : List Held) (from to : List Step) (x : Extends held from to) → lits_of to ≡ lits_of from ++ lits_of x.newer
lits_extends held from to x = ap lits_of x.parts ∙ lits_more x.newer from

pub take_extends : (held : List Held) (from to : List Step) (i : ℕ) → Extends held from to → i ≤ length (lits_of from) → take i (lits_of to) ≡ take i (lits_of from)
take_extends held from to i x l = ap (take i) (lits_extends held from to x) ∙ take-append-le i (lits_of from) (lits_of x.newer) l

pub length_extends : (held : List Held) (from to : List Step) → Extends held from to → length (lits_of from) ≤ length (lits_of to)
length_extends held from to x =
    let e : length (lits_of to) ≡ length (lits_of from) + length (lits_of x.newer) = ap length (lits_extends held from to x) ∙ length-append (lits_of from) (lits_of x.newer) in
    omega (arith, e)

-- what propagation adds has the variables of clauses
derives_below : (n : ℕ) (held : List Held) (newer older : List Step) → clauses_below n held ≡ true → steps_below n older ≡ true → derives held newer older ≡ true → steps_below n (newer ++ older) ≡ true
derives_below n held [] older c b e = b
derives_below n held (s ∷ newer) older c b e =
    let p : ((unit_reason held (newer ++ older) s.lit s.reason && eqb s.level (level_of older)) ≡ true) × (derives held newer older ≡ true) = and_parts _ _ e in
    let q : (unit_reason held (newer ++ older) s.lit s.reason ≡ true) × (eqb s.level (level_of older) ≡ true) = and_parts _ _ p.0 in
    and_from _ _ (go s.reason q.0) (derives_below n held newer older c b p.1)
  where
    go : (r : Option ClauseId) → unit_reason held (newer ++ older) s.lit r ≡ true → ltb s.lit.var.0 n ≡ true
    go None f = absurd (false≢true f)
    go (Some id) f = unit_below n held (newer ++ older) s.lit id c f

pub extends_below : (n : ℕ) (held : List Held) (from to : List Step) → clauses_below n held ≡ true → steps_below n from ≡ true → Extends held from to → steps_below n to ≡ true
extends_below n held from to c b x = subst (λ (z : List Step). steps_below n z ≡ true) (sym x.parts) (derives_below n held x.newer from c b x.derived)

-- what holds before each literal
pub record AtPlace (held : List Held) (taken : List Taken) (from to : Assignment) (old now : Table) (at : ℕ) (missed : Bool) : Type 0 where
  pub watched : AreWatched now.heads.items now.next.items now.watched.items taken now.whole.items
  pub keeps : Keeps from.steps old.watched.items now.watched.items
  pub good : AllGood held taken (take at (lits_of to.steps)) to.steps now.whole.items now.watched.items missed
  pub extends : Extends held from.steps to.steps
  pub reserved : to.reserved ≡ from.reserved
  pub heads : length now.heads.items ≡ length old.heads.items
  pub whole : now.whole ≡ old.whole
  pub steps : steps_below (length old.heads.items / 2) to.steps ≡ true

pub keeps_more : (held : List Held) (from to : List Step) (old now new : List InLit) → Extends held from to → Keeps from old now → Keeps to now new → Keeps from old new
keeps_more held from to old now new x a b e =
    ⊎_elim
    (λ (q : watch_at new e ≡ watch_at now e). ⊎_elim (λ (r : watch_at now e ≡ watch_at old e). inl (q ∙ r)) (λ (r : false_in from (watch_at now e) ≡ false). inr (ap (false_in from) q ∙ r)) (a e))
    (λ (q : false_in to (watch_at new e) ≡ false). inr (not_before held from to (watch_at new e) x q))
    (b e)

pub settled_also : (held : List Held) (taken : List Taken) (t : List Step) (missed also : Bool) (e : ℕ) → (missed ≡ true → also ≡ true) → IsSettled held taken t missed e → IsSettled held taken t also e
settled_also held taken t missed also e m h = ⊎_elim (λ b. inl b) (λ b. inr (m b.0, b.1)) h

-- one literal more
pub place_next : (held : List Held) (taken : List Taken) (from to more : Assignment) (old now new : Table) (at : ℕ) (missed here also : Bool) → AtPlace held taken from to old now at missed → at < length (lits_of to.steps) → clauses_below (length old.heads.items / 2) held ≡ true
    → AreWatched new.heads.items new.next.items new.watched.items taken new.whole.items → Keeps to.steps now.watched.items new.watched.items → length new.heads.items ≡ length now.heads.items → new.whole ≡ now.whole → Extends held to.steps more.steps
    → more.reserved ≡ to.reserved → AllSettled held taken more.steps new.whole.items new.watched.items (negated (get_or (lits_of to.steps) at no_lit)) here → (missed ≡ true → also ≡ true) → (here ≡ true → also ≡ true) → AtPlace held taken from more old new (at + 1) also
place_next held taken from to more old now new at missed here also a l c w k h wh x r s m n =
    record {
      watched = w;
      keeps = keeps_more held from.steps to.steps old.watched.items now.watched.items new.watched.items a.extends a.keeps k;
      good = good;
      extends = extends_more held from.steps to.steps more.steps a.extends x;
      reserved = r ∙ a.reserved;
      heads = h ∙ a.heads;
      whole = wh ∙ a.whole;
      steps = extends_below (length old.heads.items / 2) held to.steps more.steps c a.steps x;
    }
  where
    good : AllGood held taken (take (at + 1) (lits_of more.steps)) more.steps new.whole.items new.watched.items also
    good e b f q =
        let one : take (at + 1) (lits_of more.steps) ≡ take (at + 1) (lits_of to.steps) = take_extends held to.steps more.steps (at + 1) x (omega (arith, l)) in
        let g : (list_any (λ f. opposite f (watch_at new.watched.items e)) (take at (lits_of to.steps)) || opposite (get_or (lits_of to.steps) at no_lit) (watch_at new.watched.items e)) ≡ true =
        sym (list_any_more (λ f. opposite f (watch_at new.watched.items e)) (lits_of to.steps) at no_lit l) ∙ (ap (list_any (λ f. opposite f (watch_at new.watched.items e))) (sym one) ∙ q) in
        ⊎_elim before now_false (or_cases _ _ g)
      where
        before : list_any (λ f. opposite f (watch_at new.watched.items e)) (take at (lits_of to.steps)) ≡ true → IsSettled held taken more.steps also e
        before g =
            ⊎_elim
            (λ (y : watch_at new.watched.items e ≡ watch_at now.watched.items e).
            settled_also held taken more.steps missed also e m
            (settled_more held taken to.steps more.steps missed e x
            (a.good e b (ap (λ (z : List Bool). is_whole z e) (sym whole_items) ∙ f) (ap (λ (z : InLit). list_any (λ f. opposite f z) (take at (lits_of to.steps))) (sym y) ∙ g))))
            (λ (y : false_in to.steps (watch_at new.watched.items e) ≡ false). absurd (true≢false (sym (front_false to.steps at (watch_at new.watched.items e) g) ∙ y)))
            (k e)
          where
            whole_items : new.whole.items ≡ now.whole.items
            whole_items = ap (λ (z : _). z.items) wh

        now_false : opposite (get_or (lits_of to.steps) at no_lit) (watch_at new.watched.items e) ≡ true → IsSettled held taken more.steps also e
        now_false g = settled_also held taken more.steps here also e n (s e b f (opposite_negated (get_or (lits_of to.steps) at no_lit) (watch_at new.watched.items e) g))

-- at the end all is good
pub place_last : (held : List Held) (taken : List Taken) (from to : Assignment) (old now : Table) (at : ℕ) (missed : Bool) → AtPlace held taken from to old now at missed → length (lits_of to.steps) ≤ at
    → AllGood held taken (lits_of to.steps) to.steps now.whole.items now.watched.items missed
place_last held taken from to old now at missed a l = subst (λ (z : List InLit). AllGood held taken z to.steps now.whole.items now.watched.items missed) (take_past at (lits_of to.steps) l) a.good
  where
    take_past : (n : ℕ) (xs : List InLit) → length xs ≤ n → take n xs ≡ xs
    take_past zero [] h = refl
    take_past zero (x ∷ xs) h = absurd (omega (arith, h))
    take_past (suc n) [] h = refl
    take_past (suc n) (x ∷ xs) h = ap (λ (z : List InLit). x ∷ z) (take_past n xs (omega (arith, h)))

pub negated_below : (t : List Step) (n i : ℕ) (d : InLit) → steps_below (n / 2) t ≡ true → i < length (lits_of t) → code_of (negated (get_or (lits_of t) i d)) < n
negated_below t n i d b h = go (not (get_or (lits_of t) i d).negative) (var_below t i d b h)
  where
    go : (s : Bool) → (get_or (lits_of t) i d).var.0 < n / 2 → 2 * (get_or (lits_of t) i d).var.0 + cond s 1 0 < n
    go true l = omega (arith, l)
    go false l = omega (arith, l)

    var_below : (t : List Step) (i : ℕ) (d : InLit) → steps_below (n / 2) t ≡ true → i < length (lits_of t) → (get_or (lits_of t) i d).var.0 < n / 2
    var_below t i d b h =
        all_or_any (λ (s : Step). ltb s.lit.var.0 (n / 2)) (λ (s : Step). same_lit s.lit (get_or (lits_of t) i d)) ((get_or (lits_of t) i d).var.0 < n / 2) t b
        (any_lits (λ f. same_lit f (get_or (lits_of t) i d)) t (list_any_at (λ f. same_lit f (get_or (lits_of t) i d)) (lits_of t) i d h (same_lit_self (get_or (lits_of t) i d))))
        (λ s l q. subst (λ (k : InLit). k.var.0 < n / 2) (same_lit_eq s.lit (get_or (lits_of t) i d) q) (ltb-true _ _ l))
