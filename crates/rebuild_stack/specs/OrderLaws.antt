-- Which variables the entries of a stack name, and in which order.
use Rattle.std.proofs.Common.{◌≡◌, ℕ, ◌==◌, ◌+◌, ◌≤◌, Bool, true, false, cond, not, ◌||◌, List, [], ◌∷◌, ◌++◌, refl, sym, ap, ◌∙◌, ⊎_elim, arith}
use Rattle.std.proofs.lemmas.Bool.{and_parts, and_from, or_parts, or_cases, or_left, or_right, false_from_ne_true, false≢true}
use Rattle.std.proofs.lemmas.List.Folds.{list_any-append}
use Rattle.std.specs.List.{list_any}
use Rattle.sat_lits.specs.Truth.{signed, with_value}
use Rattle.sat_lits.specs.declared.literal.OwnLit.{OwnLit}
use Rattle.rebuild_stack.specs.Entries.{named, names, others_pass, ordered, times_named}
use Rattle.rebuild_stack.specs.Roots.{turned, root, root_passes}
use Rattle.rebuild_stack.specs.CommonLaws.{cond_at, each_mono}
use Rattle.rebuild_stack.specs.declared.entry.Entry.{Entry}
use Rattle.rebuild_stack.specs.declared.entry.Entry.TheVariants.{Fix, Equal, Gone}
use Rattle.rebuild_stack.specs.declared.entry.Root.TheVariants.{Known, Lost}

-- a variable that some entry names is named at least once
pub times_any : (k : ℕ) (s : List Entry) → list_any (names k) s ≡ true → 1 ≤ times_named k s
times_any k [] e = absurd (false≢true e)
times_any k (x ∷ s) e = go (names k x) e (times_any k s)
  where
    go : (b : Bool) → (b || list_any (names k) s) ≡ true → (list_any (names k) s ≡ true → 1 ≤ times_named k s) → 1 ≤ cond b 1 0 + times_named k s
    go true f h = omega arith
    go false f h = let g : 1 ≤ times_named k s = h f in omega arith

-- one that no entry names is named 0 times
pub times_none : (k : ℕ) (s : List Entry) → list_any (names k) s ≡ false → times_named k s ≡ 0
times_none k [] e = refl
times_none k (x ∷ s) e =
    let p : (names k x ≡ false) × (list_any (names k) s ≡ false) = or_parts _ _ e in
    let h : times_named k s ≡ 0 = times_none k s p.1 in
    let c : cond {A = ℕ} (names k x) 1 0 ≡ 0 = cond_at {A = ℕ} (names k x) 1 0 p.0 in
    omega arith

-- and the other way round
pub unnamed : (k : ℕ) (s : List Entry) → times_named k s ≡ 0 → list_any (names k) s ≡ false
unnamed k s e = false_from_ne_true _ (λ t. let g : 1 ≤ times_named k s = times_any k s t in absurd (omega arith))

-- two parts of a stack add up
pub times_named-append : (k : ℕ) (s t : List Entry) → times_named k (s ++ t) ≡ times_named k s + times_named k t
times_named-append k [] t = omega arith
times_named-append k (x ∷ s) t = let h : times_named k (s ++ t) ≡ times_named k s + times_named k t = times_named-append k s t in omega arith

-- where each variable that passes one test passes another
pub others_mono : (p q : ℕ → Bool) → ((k : ℕ) → p k ≡ true → q k ≡ true) → (e : Entry) → others_pass p e ≡ true → others_pass q e ≡ true
others_mono p q h (Fix l) f = refl
others_mono p q h (Equal v l) f = h l.var.0 f
others_mono p q h (Gone v cs) f =
    each_mono (λ (l : OwnLit). (l.var.0 == v.0) || p l.var.0) (λ (l : OwnLit). (l.var.0 == v.0) || q l.var.0) (λ l g. ⊎_elim (λ a. or_left _ _ a) (λ a. or_right _ _ (h l.var.0 a)) (or_cases _ _ g)) cs f

-- a stack stays in order where more variables are active
pub ordered_mono : (p q : ℕ → Bool) → ((k : ℕ) → p k ≡ true → q k ≡ true) → (s : List Entry) → ordered p s ≡ true → ordered q s ≡ true
ordered_mono p q h [] f = refl
ordered_mono p q h (e ∷ s) f =
    let a : (others_pass (λ k. p k || list_any (names k) s) e ≡ true) × (ordered p s ≡ true) = and_parts _ _ f in
    and_from _ _ (others_mono (λ k. p k || list_any (names k) s) (λ k. q k || list_any (names k) s) (λ k g. ⊎_elim (λ b. or_left _ _ (h k b)) (λ b. or_right _ _ b) (or_cases _ _ g)) e a.0) (ordered_mono p q h s a.1)

-- the newer part of a stack in order is in order
pub ordered_newer : (active : ℕ → Bool) (older newer : List Entry) → ordered active (older ++ newer) ≡ true → ordered active newer ≡ true
ordered_newer active [] newer e = e
ordered_newer active (x ∷ older) newer e = ordered_newer active older newer (and_parts _ _ e).1

retired_bool : (b x y : Bool) → (x || y) ≡ true → (cond b false x || (y || (b || false))) ≡ true
retired_bool true x true h = refl
retired_bool true x false h = refl
retired_bool false x true h = or_right x true refl
retired_bool false x false h = h

-- a variable stays active or named where the one that a new entry names is no longer active
retired : (active : ℕ → Bool) (s : List Entry) (e : Entry) (k : ℕ) → (active k || list_any (names k) s) ≡ true → (with_value active (named e) false k || list_any (names k) (s ++ e ∷ [])) ≡ true
retired active s e k h = ap (λ z. with_value active (named e) false k || z) (list_any-append (names k) s (e ∷ [])) ∙ retired_bool (k == named e) (active k) (list_any (names k) s) h

-- a new entry over active variables, whose own is no longer active, keeps the order
pub ordered_push : (active : ℕ → Bool) (e : Entry) (s : List Entry) → others_pass (λ k. with_value active (named e) false k) e ≡ true → ordered active s ≡ true → ordered (with_value active (named e) false) (s ++ e ∷ []) ≡ true
ordered_push active e [] g f = and_from _ _ (others_mono (λ k. with_value active (named e) false k) (λ k. with_value active (named e) false k || list_any (names k) []) (λ k h. or_left _ _ h) e g) refl
ordered_push active e (x ∷ s) g f =
    let a : (others_pass (λ k. active k || list_any (names k) s) x ≡ true) × (ordered active s ≡ true) = and_parts _ _ f in
    and_from _ _ (others_mono (λ k. active k || list_any (names k) s) (λ k. with_value active (named e) false k || list_any (names k) (s ++ e ∷ [])) (retired active s e) x a.0) (ordered_push active e s g a.1)

revived_bool : (b x o n : Bool) → (x || (o || (b || n))) ≡ true → (cond b true x || (o || n)) ≡ true
revived_bool true x o n h = refl
revived_bool false x o n h = h

revived : (active : ℕ → Bool) (older newer : List Entry) (e : Entry) (k : ℕ) → (active k || list_any (names k) (older ++ e ∷ newer)) ≡ true → (with_value active (named e) true k || list_any (names k) (older ++ newer)) ≡ true
revived active older newer e k h =
    ap (λ z. with_value active (named e) true k || z) (list_any-append (names k) older newer)
    ∙ revived_bool (k == named e) (active k) (list_any (names k) older) (list_any (names k) newer) (sym (ap (λ z. active k || z) (list_any-append (names k) older (e ∷ newer))) ∙ h)

-- an active variable stays active where one more is
pub with_true : (active : ℕ → Bool) (v k : ℕ) → active k ≡ true → with_value active v true k ≡ true
with_true active v k h = go (k == v)
  where
    go : (b : Bool) → cond b true (active k) ≡ true
    go true = refl
    go false = h

-- an entry that is taken out, whose variable is active again, leaves the others in order
pub ordered_remove : (active : ℕ → Bool) (e : Entry) (older newer : List Entry) → ordered active (older ++ e ∷ newer) ≡ true → ordered (with_value active (named e) true) (older ++ newer) ≡ true
ordered_remove active e [] newer f = ordered_mono active (with_value active (named e) true) (with_true active (named e)) newer (ordered_newer active (e ∷ []) newer f)
ordered_remove active e (x ∷ older) newer f =
    let a : (others_pass (λ k. active k || list_any (names k) (older ++ e ∷ newer)) x ≡ true) × (ordered active (older ++ e ∷ newer) ≡ true) = and_parts _ _ f in
    and_from _ _ (others_mono (λ k. active k || list_any (names k) (older ++ e ∷ newer)) (λ k. with_value active (named e) true k || list_any (names k) (older ++ newer)) (revived active older newer e) x a.0) (ordered_remove active e older newer a.1)

-- what a literal that is active or named comes to is active
pub root_active : (active : ℕ → Bool) (s : List Entry) (l : OwnLit) → ordered active s ≡ true → (active l.var.0 || list_any (names l.var.0) s) ≡ true → root_passes (λ k. active k.var.0) (root s l) ≡ true
root_active active [] l o h = ⊎_elim (λ a. a) (λ a. absurd (false≢true a)) (or_cases _ _ h)
root_active active (Fix k ∷ s) l o h = go (l.var.0 == k.var.0) h (root_active active s l o)
  where
    go : (b : Bool) → (active l.var.0 || (b || list_any (names l.var.0) s)) ≡ true → ((active l.var.0 || list_any (names l.var.0) s) ≡ true → root_passes (λ j. active j.var.0) (root s l) ≡ true)
        → root_passes (λ j. active j.var.0) (cond b (Known (signed l.negative (not k.negative))) (root s l)) ≡ true
    go true f r = refl
    go false f r = r f
root_active active (Equal v k ∷ s) l o h =
    let p : ((active k.var.0 || list_any (names k.var.0) s) ≡ true) × (ordered active s ≡ true) = and_parts _ _ o in
    go (l.var.0 == v.0) h (root_active active s l p.1) (root_active active s (turned l.negative k) p.1 p.0)
  where
    go : (b : Bool) → (active l.var.0 || (b || list_any (names l.var.0) s)) ≡ true → ((active l.var.0 || list_any (names l.var.0) s) ≡ true → root_passes (λ j. active j.var.0) (root s l) ≡ true)
        → root_passes (λ j. active j.var.0) (root s (turned l.negative k)) ≡ true → root_passes (λ j. active j.var.0) (cond b (root s (turned l.negative k)) (root s l)) ≡ true
    go true f r q = q
    go false f r q = r f
root_active active (Gone v cs ∷ s) l o h =
    let p : (others_pass (λ k. active k || list_any (names k) s) (Gone v cs) ≡ true) × (ordered active s ≡ true) = and_parts _ _ o in
    go (l.var.0 == v.0) h (root_active active s l p.1)
  where
    go : (b : Bool) → (active l.var.0 || (b || list_any (names l.var.0) s)) ≡ true → ((active l.var.0 || list_any (names l.var.0) s) ≡ true → root_passes (λ j. active j.var.0) (root s l) ≡ true)
        → root_passes (λ j. active j.var.0) (cond b (Lost v) (root s l)) ≡ true
    go true f r = refl
    go false f r = r f
