-- A state stands when an eliminated variable is restored.
use Rattle.std.proofs.Common.{◌≡◌, ℕ, zero, suc, ◌+◌, ◌<◌, ◌≤◌, ◌==◌, ◌⊎◌, Bool, true, false, cond, not, ltb, ◌&&◌, ◌||◌, List, [], ◌∷◌, ◌++◌, refl, sym, ap, subst, ◌∙◌, ⊎_elim, arith, length, take, drop, slice_get, Some, eq-eqb}
use Rattle.std.proofs.lemmas.Bool.{and_parts, and_from, or_cases, or_left, or_right, not-true, ltb-true}
use Rattle.std.proofs.lemmas.List.Folds.{list_all-append, list_any-append}
use Rattle.std.specs.List.{list_any, list_all}
use Rattle.sat_lits.specs.Truth.{signed, clauses_value, with_value}
use Rattle.sat_lits.specs.ListLaws.{both_all}
use Rattle.sat_lits.specs.ClauseLaws.{clauses_value-append, clauses_value_agree}
use Rattle.sat_lits.specs.Meaning.{IsModel}
use Rattle.sat_lits.specs.declared.literal.Own.{Own}
use Rattle.sat_lits.specs.declared.literal.OwnLit.{OwnLit}
use Rattle.rebuild_stack.specs.Values.{own_value, each_lit}
use Rattle.rebuild_stack.specs.Entries.{rebuild, entry_value, names, times_named, ordered}
use Rattle.rebuild_stack.specs.Roots.{root, is_lost, root_value, root_passes}
use Rattle.rebuild_stack.specs.PutIn.{put_in_all, is_clean}
use Rattle.rebuild_stack.specs.CommonLaws.{cond_at, each_mono, with_value_kept}
use Rattle.rebuild_stack.specs.RebuildLaws.{rebuild-append}
use Rattle.rebuild_stack.specs.RootLaws.{rebuild_root, holds_root, root_past, root_unnamed}
use Rattle.rebuild_stack.specs.OrderLaws.{times_named-append, times_any, unnamed, ordered_newer, ordered_mono, with_true, root_active}
use Rattle.rebuild_stack.specs.PutInLaws.{put_in_all_value, put_in_all_passes, put_in_all_clean}
use Rattle.rebuild_stack.specs.declared.entry.Entry.{Entry}
use Rattle.rebuild_stack.specs.declared.entry.Entry.TheVariants.{Gone}
use Rattle.rebuild_stack.specs.declared.entry.Root.TheVariants.{Lost}
use Rattle.state_laws.specs.State.{State, is_active, outer_part, problem_of}
use Rattle.state_laws.specs.Stands.{Accords, Stands, IsSound, IsComplete, IsPlaced, Placed, HasCleanClauses, is_clean_entry}
use Rattle.state_laws.specs.Moves.{restored}
use Rattle.state_laws.specs.Conditions.{Restorable}
use Rattle.state_laws.specs.PlaceLaws.{one_if, placed_remove, set_places, once_named}

-- a list is what stands before a place, the element there and what stands after it
pub split_at : {X : Type 0} (xs : List X) (i : ℕ) (x : X) → slice_get xs i ≡ Some x → xs ≡ take i xs ++ x ∷ drop (suc i) xs
split_at [] i x e = cc
split_at (y ∷ xs) zero x e = let h : y ≡ x = cc in ap (λ z. z ∷ xs) h
split_at (y ∷ xs) (suc i) x e = ap (λ z. y ∷ z) (split_at xs i x e)

each_both : {X : Type 0} (p q : X → Bool) (cs : List (List X)) → list_all (λ c. list_all p c) cs ≡ true → list_all (λ c. list_all q c) cs ≡ true → list_all (λ c. list_all (λ x. p x && q x) c) cs ≡ true
each_both p q cs e f = both_all (list_all p) (list_all q) (list_all (λ x. p x && q x)) (λ c a b. both_all p q (λ x. p x && q x) (λ x g h. and_from _ _ g h) c a b) cs e f

-- a test that all literals of an entry's clauses pass, and that no literal passes which newer entries lose
pub record Clear (cs : List (List OwnLit)) (newer : List Entry) : Type 0 where
  pub test : OwnLit → Bool
  pub passes : list_all (list_all test) cs ≡ true
  pub found : (l : OwnLit) → test l ≡ true → is_lost (root newer l) ≡ false

pub between : (s : State) (v : Own) (cs : List (List OwnLit)) (older newer : List Entry) → s.stack ≡ older ++ Gone v cs ∷ newer → IsPlaced s
    → list_all (λ c. list_all (λ l. (l.var.0 == v.0) || not (is_lost (root s.stack l))) c) cs ≡ true → Clear cs newer
between s v cs older newer e h r =
    record {
      test = λ l. here l && clear l;
      passes =
          let p : (list_all (λ c. list_all here c) cs ≡ true) × (ordered (is_active s) newer ≡ true) =
          and_parts _ _ (ordered_newer (is_active s) older (Gone v cs ∷ newer) (subst (λ z. ordered (is_active s) z ≡ true) e h.placed.in_order)) in
          each_both here clear cs p.0 r;
      found = λ l t. let p : (here l ≡ true) × (clear l ≡ true) = and_parts _ _ t in not_lost l p.0 p.1;
    }
  where
    here : OwnLit → Bool
    here l = (l.var.0 == v.0) || (is_active s l.var.0 || list_any (names l.var.0) newer)

    clear : OwnLit → Bool
    clear l = (l.var.0 == v.0) || not (is_lost (root s.stack l))

    count : (k : ℕ) → times_named k older + (cond {A = ℕ} (k == v.0) 1 0 + times_named k newer) + cond {A = ℕ} (is_active s k) 1 0 ≤ 1
    count k =
        let a : times_named k s.stack ≡ times_named k older + (cond {A = ℕ} (k == v.0) 1 0 + times_named k newer) = ap (times_named k) e ∙ times_named-append k older (Gone v cs ∷ newer) in
        let b : times_named k s.stack + cond {A = ℕ} (is_active s k) 1 0 ≤ 1 = once_named s k h in
        omega arith

    not_older : (l : OwnLit) → here l ≡ true → list_any (names l.var.0) older ≡ false
    not_older l t = unnamed l.var.0 older (none (count l.var.0) (or_cases _ _ t))
      where
        none : times_named l.var.0 older + (cond {A = ℕ} (l.var.0 == v.0) 1 0 + times_named l.var.0 newer) + cond {A = ℕ} (is_active s l.var.0) 1 0 ≤ 1
            → ((l.var.0 == v.0) ≡ true) ⊎ ((is_active s l.var.0 || list_any (names l.var.0) newer) ≡ true) → times_named l.var.0 older ≡ 0
        none c w =
            ⊎_elim
            (λ p. let q : cond {A = ℕ} (l.var.0 == v.0) 1 0 ≡ 1 = one_if _ p in omega arith)
            (λ p. ⊎_elim
            (λ a. let q : cond {A = ℕ} (is_active s l.var.0) 1 0 ≡ 1 = one_if _ a in omega arith)
            (λ a. let q : 1 ≤ times_named l.var.0 newer = times_any l.var.0 newer a in omega arith)
            (or_cases _ _ p))
            w

    not_newer : (l : OwnLit) → (l.var.0 == v.0) ≡ true → list_any (names l.var.0) newer ≡ false
    not_newer l p =
        unnamed l.var.0 newer
        (let q : cond {A = ℕ} (l.var.0 == v.0) 1 0 ≡ 1 = one_if _ p in
        let c : times_named l.var.0 older + (cond {A = ℕ} (l.var.0 == v.0) 1 0 + times_named l.var.0 newer) + cond {A = ℕ} (is_active s l.var.0) 1 0 ≤ 1 = count l.var.0 in
        omega arith)

    not_lost : (l : OwnLit) → here l ≡ true → clear l ≡ true → is_lost (root newer l) ≡ false
    not_lost l t u = go (l.var.0 == v.0) refl u
      where
        go : (b : Bool) → (l.var.0 == v.0) ≡ b → (b || not (is_lost (root s.stack l))) ≡ true → is_lost (root newer l) ≡ false
        go true q f = ap is_lost (root_unnamed newer l (not_newer l q))
        go false q f =
            ap is_lost (sym (ap (λ z. root z l) e ∙ (root_past older (Gone v cs ∷ newer) l (not_older l t) ∙ cond_at (l.var.0 == v.0) (Lost v) (root newer l) q))) ∙ not-true _ f

between_rebuild : (older newer : List Entry) (v : Own) (cs : List (List OwnLit)) (w : ℕ → Bool) → Clear cs newer
    → clauses_value (own_value w) (put_in_all (root newer) cs) ≡ true → rebuild (older ++ Gone v cs ∷ newer) w ≡ rebuild (older ++ newer) w
between_rebuild older newer v cs w b h =
    rebuild-append older (Gone v cs ∷ newer) w
    ∙ (ap (rebuild older) (with_value_kept (rebuild newer w) v.0 _ (ap (λ t. signed (not t) (rebuild newer w v.0)) holds)) ∙ sym (rebuild-append older newer w))
  where
    holds : clauses_value (own_value (rebuild newer w)) cs ≡ true
    holds =
        clauses_value_agree b.test (own_value (rebuild newer w)) (λ l. root_value w (root newer l)) (λ l t. rebuild_root newer l w (b.found l t)) cs b.passes
        ∙ (sym (put_in_all_value w (root newer) cs) ∙ h)

restored-IsComplete : (at : ℕ) (v : Own) (cs : List (List OwnLit)) (s : State) → Restorable s at v cs → IsPlaced s → IsComplete s → IsComplete (restored at v cs s)
restored-IsComplete at v cs s r places h =
    record {
      rebuilt = λ o w c.
          let p : (clauses_value (own_value w) s.hard ≡ true) × (clauses_value (own_value w) (put_in_all (root (drop (suc at) s.stack)) cs) ≡ true) =
          and_parts _ _ (sym (clauses_value-append (own_value w) s.hard (put_in_all (root (drop (suc at) s.stack)) cs)) ∙ c) in
          subst (λ (z : ℕ → Bool). IsModel (problem_of s) (outer_part s.definitions z))
          (ap (λ z. rebuild z w) (split_at s.stack at (Gone v cs) r.entry)
          ∙ between_rebuild (take at s.stack) (drop (suc at) s.stack) v cs w (between s v cs (take at s.stack) (drop (suc at) s.stack) (split_at s.stack at (Gone v cs) r.entry) places r.roots) p.1)
          (h.rebuilt o w p.0);
    }

restored-IsSound : (at : ℕ) (v : Own) (cs : List (List OwnLit)) (s : State) → Restorable s at v cs → IsPlaced s → IsSound s → IsSound (restored at v cs s)
restored-IsSound at v cs s r places h =
    record {
      hard = λ w a. clauses_value-append (own_value w) s.hard (put_in_all (root (drop (suc at) s.stack)) cs) ∙ and_from _ _ (h.hard w a) (put w (entries w a));
      learned = h.learned;
      stack = λ w a. list_all-append (entry_value w) older newer ∙ and_from _ _ (entries w a).0 (entries w a).2;
      okay = h.okay;
    }
  where
    older : List Entry
    older = take at s.stack

    newer : List Entry
    newer = drop (suc at) s.stack

    b : Clear cs newer
    b = between s v cs older newer (split_at s.stack at (Gone v cs) r.entry) places r.roots

    entries : (w : ℕ → Bool) → Accords s w → (list_all (entry_value w) older ≡ true) × (clauses_value (own_value w) cs ≡ true) × (list_all (entry_value w) newer ≡ true)
    entries w a =
        let p : (list_all (entry_value w) older ≡ true) × ((clauses_value (own_value w) cs && list_all (entry_value w) newer) ≡ true) =
        and_parts _ _ (sym (list_all-append (entry_value w) older (Gone v cs ∷ newer)) ∙ (ap (list_all (entry_value w)) (sym (split_at s.stack at (Gone v cs) r.entry)) ∙ h.stack w a)) in
        let q : (clauses_value (own_value w) cs ≡ true) × (list_all (entry_value w) newer ≡ true) = and_parts _ _ p.1 in
        (p.0, q.0, q.1)

    put : (w : ℕ → Bool) → (list_all (entry_value w) older ≡ true) × (clauses_value (own_value w) cs ≡ true) × (list_all (entry_value w) newer ≡ true) → clauses_value (own_value w) (put_in_all (root (drop (suc at) s.stack)) cs) ≡ true
    put w p =
        put_in_all_value w (root newer) cs
        ∙ (clauses_value_agree b.test (λ l. root_value w (root newer l)) (own_value w) (λ l t. sym (holds_root newer l w p.2 (b.found l t))) cs b.passes ∙ p.1)

owned : (s : State) (k : ℕ) → IsPlaced s → 1 ≤ times_named k s.stack → k < length s.active
owned s k h t = go (ltb k (length s.definitions)) refl (h.placed.one_place k)
  where
    go : (b : Bool) → ltb k (length s.definitions) ≡ b → times_named k s.stack + cond {A = ℕ} (is_active s k) 1 0 ≡ cond {A = ℕ} b 1 0 → k < length s.active
    go true e p =
        let q : k < length s.definitions = ltb-true _ _ e in
        let l : length s.active ≡ length s.definitions = h.lengths in
        omega arith
    go false e p = absurd (omega arith)

-- a restored variable is in the table
pub restored_in : (at : ℕ) (v : Own) (cs : List (List OwnLit)) (s : State) → Restorable s at v cs → IsPlaced s → v.0 < length s.active
restored_in at v cs s r h =
    owned s v.0 h (subst (λ z. 1 ≤ times_named v.0 z) (sym (split_at s.stack at (Gone v cs) r.entry))
    (times_any v.0 (take at s.stack ++ Gone v cs ∷ drop (suc at) s.stack)
    (list_any-append (names v.0) (take at s.stack) (Gone v cs ∷ drop (suc at) s.stack) ∙ or_right _ _ (or_left _ _ (eq-eqb v.0 v.0 refl)))))

restored-IsPlaced : (at : ℕ) (v : Own) (cs : List (List OwnLit)) (s : State) → Restorable s at v cs → IsPlaced s → IsPlaced (restored at v cs s)
restored-IsPlaced at v cs s r h =
    set_places s (restored at v cs s) v.0 true (restored_in at v cs s r h) refl refl h.lengths
    (placed_remove (is_active s) (length s.definitions) s.hard s.learned (s.hard ++ put_in_all (root newer) cs) older newer (Gone v cs)
    (list_all-append (list_all (λ l. after l.var.0)) s.hard (put_in_all (root newer) cs)
    ∙ and_from _ _ (each_mono (λ l. is_active s l.var.0) (λ l. after l.var.0) (λ l. with_true (is_active s) v.0 l.var.0) s.hard h.placed.hard)
    (put_in_all_passes (λ l. after l.var.0) (root newer) cs (each_mono here (λ l. root_passes (λ k. after k.var.0) (root newer l)) step cs each_here)))
    (subst (λ z. Placed (is_active s) (length s.definitions) s.hard s.learned z) stack_is h.placed))
  where
    older : List Entry
    older = take at s.stack

    newer : List Entry
    newer = drop (suc at) s.stack

    stack_is : s.stack ≡ older ++ Gone v cs ∷ newer
    stack_is = split_at s.stack at (Gone v cs) r.entry

    after : ℕ → Bool
    after = with_value (is_active s) v.0 true

    here : OwnLit → Bool
    here l = (l.var.0 == v.0) || (is_active s l.var.0 || list_any (names l.var.0) newer)

    in_order : ordered (is_active s) (older ++ Gone v cs ∷ newer) ≡ true
    in_order = subst (λ z. ordered (is_active s) z ≡ true) stack_is h.placed.in_order

    each_here : each_lit here cs ≡ true
    each_here = let p : (each_lit here cs ≡ true) × (ordered (is_active s) newer ≡ true) = and_parts _ _ (ordered_newer (is_active s) older (Gone v cs ∷ newer) in_order) in p.0

    here_bool : (b a n : Bool) → (b || (a || n)) ≡ true → (cond b true a || n) ≡ true
    here_bool true a n e = refl
    here_bool false a n e = e

    newer_order : ordered after newer ≡ true
    newer_order = ordered_mono (is_active s) after (with_true (is_active s) v.0) newer (ordered_newer (is_active s) (Gone v cs ∷ []) newer (ordered_newer (is_active s) older (Gone v cs ∷ newer) in_order))

    step : (l : OwnLit) → here l ≡ true → root_passes (λ k. after k.var.0) (root newer l) ≡ true
    step l e = root_active after newer l newer_order (here_bool (l.var.0 == v.0) (is_active s l.var.0) (list_any (names l.var.0) newer) e)

restored_clean : (at : ℕ) (v : Own) (cs : List (List OwnLit)) (s : State) → Restorable s at v cs → HasCleanClauses s → HasCleanClauses (restored at v cs s)
restored_clean at v cs s r h =
    record {
      hard = list_all-append is_clean s.hard (put_in_all (root (drop (suc at) s.stack)) cs) ∙ and_from _ _ h.hard (put_in_all_clean (root (drop (suc at) s.stack)) cs);
      learned = h.learned;
      stack =
          let p : (list_all is_clean_entry (take at s.stack) ≡ true) × ((list_all is_clean cs && list_all is_clean_entry (drop (suc at) s.stack)) ≡ true) =
          and_parts _ _ (sym (list_all-append is_clean_entry (take at s.stack) (Gone v cs ∷ drop (suc at) s.stack)) ∙ (ap (list_all is_clean_entry) (sym (split_at s.stack at (Gone v cs) r.entry)) ∙ h.stack)) in
          let q : (list_all is_clean cs ≡ true) × (list_all is_clean_entry (drop (suc at) s.stack) ≡ true) = and_parts _ _ p.1 in
          list_all-append is_clean_entry (take at s.stack) (drop (suc at) s.stack) ∙ and_from _ _ p.0 q.1;
    }

-- the entry at a place of the stack is taken out, and its clauses come back
pub restored-Stands : (at : ℕ) (v : Own) (cs : List (List OwnLit)) (s : State) → Restorable s at v cs → Stands s → Stands (restored at v cs s)
restored-Stands at v cs s r h =
    record {
      sound = restored-IsSound at v cs s r h.places h.sound;
      complete = restored-IsComplete at v cs s r h.places h.complete;
      places = restored-IsPlaced at v cs s r h.places;
      ranges = record { items = h.ranges.items; entries = h.ranges.entries; definitions = h.ranges.definitions };
      clean = restored_clean at v cs s r h.clean;
    }
