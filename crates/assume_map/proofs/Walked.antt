-- One step of a walk through assumptions.
use Rattle.std.proofs.Common.{◌≡◌, ℕ, ◌+◌, ◌<◌, ◌≤◌, ◌==◌, ◌⊎◌, ⊎_elim, inl, inr, Bool, true, false, not, List, [], ◌∷◌, ◌++◌, Option, Some, None, is_some, length, get_or, set, refl, sym, ap, subst, ◌∙◌, arith, eqb-true, get_or-set_same, get_or-set_other}
use Rattle.std.proofs.lemmas.Bool.{cases_lt, true≢false, eqb-false}
use Rattle.std.proofs.lemmas.List.{get_or_append_left, get_or_past, length-append}
use Rattle.std.proofs.Math.Seq.{get_or-append_seam}
use Rattle.sat_lits.specs.ListLaws.{all_push}
use Rattle.sat_lits.specs.declared.literal.InLit.{InLit}
use Rattle.sat_lits.specs.declared.literal.OwnLit.{OwnLit}
use Rattle.rebuild_stack.specs.Roots.{turned}
use Rattle.rebuild_stack.specs.declared.entry.Root.{Root}
use Rattle.rebuild_stack.specs.declared.entry.Root.TheVariants.{Known, Last}
use Rattle.var_maps.specs.Maps.{Maps, owner_at}
use Rattle.state_laws.specs.Held.{own_of}
use Rattle.assume_map.specs.Roots.{root_at, IsFirst, Agree}
use Rattle.assume_map.specs.Mapping.{lit_at, HasKept, IsReady, IsClash}
use Rattle.assume_map.specs.Walking.{own, IsMarked, HasWalked, Walked, HasLit}
use Rattle.assume_map.specs.declared.walk.Mark.{Mark}
use Rattle.assume_map.specs.declared.walk.Walk.{Walk}

-- below the next number is below this one, or it
below_next : (p n : ℕ) → p < n + 1 → (p < n) ⊎ (p ≡ n)
below_next p n h = ⊎_elim (λ (l : p < n). inl l) (λ (g : n ≤ p). inr (omega arith)) (cases_lt p n)

last_lit : (k l : OwnLit) → Last k ≡ Last l → k ≡ l
last_lit k l e = cc

turned_twice : (l : OwnLit) → turned true (turned true l) ≡ l
turned_twice l = ap (λ (b : Bool). own l.var.0 b) (twice l.negative)
  where
    twice : (b : Bool) → not (not b) ≡ b
    twice true = refl
    twice false = refl

not_turned : (l : OwnLit) → l ≡ turned true l → ⊥
not_turned l e = differ l.negative (ap (λ (k : OwnLit). k.negative) e)
  where
    differ : (b : Bool) → b ≡ not b → ⊥
    differ true q = true≢false q
    differ false q = true≢false (sym q)

-- one more agrees where it is neither false nor the negation of an earlier one
agree_more : (rs : List Root) (n : ℕ) → Agree rs n → (root_at rs n ≡ Known false → ⊥) → ((q : ℕ) (l : OwnLit) → q < n → root_at rs n ≡ Last l → root_at rs q ≡ Last (turned true l) → ⊥) → Agree rs (n + 1)
agree_more rs n a f g = record {
  none_false = λ p h e. ⊎_elim (λ (l : p < n). a.none_false p l e) (λ (q : p ≡ n). f (sym (ap (root_at rs) q) ∙ e)) (below_next p n h);
  none_opposite = λ p q l hp hq ep eq.
      ⊎_elim
      (λ (lp : p < n). ⊎_elim (λ (lq : q < n). a.none_opposite p q l lp lq ep eq)
      (λ (z : q ≡ n). g p (turned true l) lp (sym (ap (root_at rs) z) ∙ eq) (ep ∙ ap (λ (k : OwnLit). Last k) (sym (turned_twice l)))) (below_next q n hq))
      (λ (y : p ≡ n). ⊎_elim (λ (lq : q < n). g q l lq (sym (ap (root_at rs) y) ∙ ep) eq)
      (λ (z : q ≡ n). not_turned l (last_lit l (turned true l) (sym ep ∙ (ap (root_at rs) (y ∙ sym z) ∙ eq)))) (below_next q n hq))
      (below_next p n hp);
}

-- where the next one comes to no new literal, what was kept stays
kept_stays : (m : Maps) (rs : List Root) (n : ℕ) (lits : List InLit) (positions : List ℕ) → HasKept m rs n lits positions
    → ((l : OwnLit) → root_at rs n ≡ Last l → (i : ℕ) × (i < length lits) × (own_of m (lit_at lits i) ≡ l)) → HasKept m rs (n + 1) lits positions
kept_stays m rs n lits positions k h = record {
  long = k.long;
  rising = k.rising;
  below = λ i l. let b : get_or positions i 0 < n = k.below i l in omega arith;
  owned = k.owned;
  first = k.first;
  all = λ p l b e. ⊎_elim (λ (c : p < n). k.all p l c e) (λ (q : p ≡ n). h l (sym (ap (root_at rs) q) ∙ e)) (below_next p n b);
}

-- marks of literals stay
marks_stay : (rs : List Root) (n v : ℕ) (mark : Option Mark) → ((negative : Bool) → root_at rs n ≡ Last (own v negative) → mark ≡ None → ⊥) → IsMarked rs n v mark → IsMarked rs (n + 1) v mark
marks_stay rs n v None h m = λ p negative b e. ⊎_elim (λ (c : p < n). m p negative c e) (λ (q : p ≡ n). h negative (sym (ap (root_at rs) q) ∙ e) refl) (below_next p n b)
marks_stay rs n v (Some mark) h m = (let b : mark.position < n = m.0 in omega arith, m.1)

-- an assumption that is true already is passed
pub true_passed : (m : Maps) (rs : List Root) (n : ℕ) (marks : List (Option Mark)) (lits : List InLit) (positions : List ℕ) → root_at rs n ≡ Known true → HasWalked m rs n marks lits positions → HasWalked m rs (n + 1) marks lits positions
true_passed m rs n marks lits positions e w = record {
  agree = agree_more rs n w.agree (λ f. differ (sym e ∙ f)) (λ q l b f g. absurd (no_lit l (sym e ∙ f)));
  kept = kept_stays m rs n lits positions w.kept (λ l f. absurd (no_lit l (sym e ∙ f)));
  marked = λ v. marks_stay rs n v (get_or marks v None) (λ b f g. no_lit (own v b) (sym e ∙ f)) (w.marked v);
}
  where
    no_lit : (l : OwnLit) → Known true ≡ Last l → ⊥
    no_lit l q = cc

    differ : Known true ≡ Known false → ⊥
    differ q = cc

-- one that is false already clashes
pub false_clashes : (m : Maps) (rs : List Root) (n : ℕ) (marks : List (Option Mark)) (lits : List InLit) (positions : List ℕ) → root_at rs n ≡ Known false → HasWalked m rs n marks lits positions → IsClash rs (n ∷ [])
false_clashes m rs n marks lits positions e w = record { agree = w.agree; known = e }

-- the mark of a variable that is marked
marked_with : (rs : List Root) (n v : ℕ) (o : Option Mark) (mark : Mark) → o ≡ Some mark → IsMarked rs n v o → (mark.position < n) × IsFirst rs mark.position (own v mark.negative)
marked_with rs n v o mark e m = subst (λ (x : Option Mark). IsMarked rs n v x) e m

-- and of one that is not
marked_none : (rs : List Root) (n v : ℕ) (o : Option Mark) → o ≡ None → IsMarked rs n v o → (p : ℕ) (negative : Bool) → p < n → root_at rs p ≡ Last (own v negative) → ⊥
marked_none rs n v o e m = subst (λ (x : Option Mark). IsMarked rs n v x) e m

-- one that comes to a literal of the sign that is marked is passed
pub same_passed : (m : Maps) (rs : List Root) (n : ℕ) (marks : List (Option Mark)) (lits : List InLit) (positions : List ℕ) (l : OwnLit) (mark : Mark) → root_at rs n ≡ Last l → get_or marks l.var.0 None ≡ Some mark → mark.negative ≡ l.negative
    → HasWalked m rs n marks lits positions → HasWalked m rs (n + 1) marks lits positions
same_passed m rs n marks lits positions l mark e g s w = record {
  agree = agree_more rs n w.agree (λ f. no_value (sym e ∙ f)) (λ q k b f h. w.agree.none_opposite mark.position q l there.0 b here (h ∙ ap (λ (x : OwnLit). Last (turned true x)) (last_lit k l (sym f ∙ e))));
  kept = kept_stays m rs n lits positions w.kept (λ k f. w.kept.all mark.position k there.0 (here ∙ (sym e ∙ f)));
  marked = λ v. marks_stay rs n v (get_or marks v None) (λ b f h. absurd (some_none (sym g ∙ (ap (λ (x : OwnLit). get_or marks x.var.0 None) (last_lit l (own v b) (sym e ∙ f)) ∙ h)))) (w.marked v);
}
  where
    there : (mark.position < n) × IsFirst rs mark.position (own l.var.0 mark.negative)
    there = marked_with rs n l.var.0 (get_or marks l.var.0 None) mark g (w.marked l.var.0)

    here : root_at rs mark.position ≡ Last l
    here = there.1.there ∙ ap (λ (b : Bool). Last (own l.var.0 b)) s

    no_value : Last l ≡ Known false → ⊥
    no_value q = cc

    some_none : Some mark ≡ None → ⊥
    some_none q = cc

-- one that comes to a literal of the other sign clashes
pub opposite_clashes : (m : Maps) (rs : List Root) (n : ℕ) (marks : List (Option Mark)) (lits : List InLit) (positions : List ℕ) (l : OwnLit) (mark : Mark) → root_at rs n ≡ Last l → get_or marks l.var.0 None ≡ Some mark → (mark.negative ≡ l.negative → ⊥)
    → HasWalked m rs n marks lits positions → IsClash rs (mark.position ∷ n ∷ [])
opposite_clashes m rs n marks lits positions l mark e g s w =
    let there : (mark.position < n) × IsFirst rs mark.position (own l.var.0 mark.negative) = marked_with rs n l.var.0 (get_or marks l.var.0 None) mark g (w.marked l.var.0) in
    record { agree = w.agree; lit = own l.var.0 mark.negative; before = there.0; first = there.1; opposite = e ∙ ap (λ (b : Bool). Last (own l.var.0 b)) (other mark.negative l.negative s) }
  where
    other : (a b : Bool) → (a ≡ b → ⊥) → b ≡ not a
    other true true h = absurd (h refl)
    other true false h = refl
    other false true h = refl
    other false false h = absurd (h refl)

-- a new literal is kept
pub new_kept : (m : Maps) (rs : List Root) (n : ℕ) (old new : Walk) (l : OwnLit) → root_at rs n ≡ Last l → get_or old.marks.items l.var.0 None ≡ None → l.var.0 < length old.marks.items → HasLit m l n old new → Walked m rs n old → Walked m rs (n + 1) new
new_kept m rs n old new l e g r h w = record {
  agree = agree_more rs n w.agree (λ f. no_value (sym e ∙ f)) (λ q k b f t. unmarked q (not k.negative) b (t ∙ ap (λ (v : ℕ). Last (own v (not k.negative))) (ap (λ (x : OwnLit). x.var.0) (last_lit k l (sym f ∙ e)))));
  kept = subst (λ (x : List InLit). HasKept m rs (n + 1) x new.positions) (sym h.lits) (subst (λ (x : List ℕ). HasKept m rs (n + 1) (old.lits ++ h.stored ∷ []) x) (sym h.positions) kept);
  marked = λ v. subst (λ (x : List (Option Mark)). IsMarked rs (n + 1) v (get_or x v None)) (sym h.marks) (marked v (v == l.var.0) refl);
}
  where
    no_value : Last l ≡ Known false → ⊥
    no_value q = cc

    unmarked : (p : ℕ) (negative : Bool) → p < n → root_at rs p ≡ Last (own l.var.0 negative) → ⊥
    unmarked = marked_none rs n l.var.0 (get_or old.marks.items l.var.0 None) g (w.marked l.var.0)

    first : IsFirst rs n l
    first = record { there = e; first = λ q b f. unmarked q l.negative b f }

    mark : Option Mark
    mark = Some (record { position = n; negative = l.negative })

    marked : (v : ℕ) (b : Bool) → (v == l.var.0) ≡ b → IsMarked rs (n + 1) v (get_or (set old.marks.items l.var.0 mark) v None)
    marked v true q = subst (λ (x : ℕ). IsMarked rs (n + 1) x (get_or (set old.marks.items l.var.0 mark) x None)) (sym (eqb-true v l.var.0 q))
        (subst (λ (x : Option Mark). IsMarked rs (n + 1) l.var.0 x) (sym (get_or-set_same old.marks.items l.var.0 mark None r)) (omega arith, first))
    marked v false q = subst (λ (x : Option Mark). IsMarked rs (n + 1) v x) (sym (get_or-set_other old.marks.items l.var.0 v mark None (eqb-false v l.var.0 q)))
        (marks_stay rs n v (get_or old.marks.items v None) (λ b f _. eqb-false v l.var.0 q (ap (λ (x : OwnLit). x.var.0) (last_lit (own v b) l (sym f ∙ e)))) (w.marked v))

    lits_long : length (old.lits ++ h.stored ∷ []) ≡ length old.lits + 1
    lits_long = length-append old.lits (h.stored ∷ [])

    positions_long : length (old.positions ++ n ∷ []) ≡ length old.positions + 1
    positions_long = length-append old.positions (n ∷ [])

    old_position : (i : ℕ) → i < length old.positions → get_or (old.positions ++ n ∷ []) i 0 ≡ get_or old.positions i 0
    old_position i b = get_or_append_left old.positions (n ∷ []) 0 i b

    last_position : get_or (old.positions ++ n ∷ []) (length old.positions) 0 ≡ n
    last_position = get_or-append_seam old.positions n [] 0

    old_lit : (i : ℕ) → i < length old.lits → lit_at (old.lits ++ h.stored ∷ []) i ≡ lit_at old.lits i
    old_lit i b = get_or_append_left old.lits (h.stored ∷ []) (record { var = record { 0 = 0 }; negative = false }) i b

    last_stored : lit_at (old.lits ++ h.stored ∷ []) (length old.lits) ≡ h.stored
    last_stored = get_or-append_seam old.lits h.stored [] (record { var = record { 0 = 0 }; negative = false })

    kept : HasKept m rs (n + 1) (old.lits ++ h.stored ∷ []) (old.positions ++ n ∷ [])
    kept = record {
      long = let k : length old.positions ≡ length old.lits = w.kept.long in omega (arith, k, lits_long, positions_long);
      rising = λ i j a b.
          let bi : i < length old.positions = omega (arith, a, b, positions_long) in
          subst (λ (x : ℕ). x < get_or (old.positions ++ n ∷ []) j 0) (sym (old_position i bi))
          (⊎_elim (λ (c : j < length old.positions). subst (λ (x : ℕ). get_or old.positions i 0 < x) (sym (old_position j c)) (w.kept.rising i j a c))
          (λ (c : length old.positions ≤ j). let z : j ≡ length old.positions = omega (arith, b, c, positions_long) in
          subst (λ (x : ℕ). get_or old.positions i 0 < x) (sym (ap (λ (y : ℕ). get_or (old.positions ++ n ∷ []) y 0) z ∙ last_position)) (w.kept.below i bi)) (cases_lt j (length old.positions)));
      below = λ i b.
          ⊎_elim (λ (c : i < length old.positions). let z : get_or old.positions i 0 < n = w.kept.below i c in subst (λ (x : ℕ). x < n + 1) (sym (old_position i c)) (omega (arith, z)))
          (λ (c : length old.positions ≤ i). let z : i ≡ length old.positions = omega (arith, b, c, positions_long) in
          subst (λ (x : ℕ). x < n + 1) (sym (ap (λ (y : ℕ). get_or (old.positions ++ n ∷ []) y 0) z ∙ last_position)) (omega arith)) (cases_lt i (length old.positions));
      owned = all_push (λ (x : InLit). is_some (owner_at m x.var.0)) old.lits h.stored w.kept.owned h.owner;
      first = λ i b.
          ⊎_elim (λ (c : i < length old.lits). let k : length old.positions ≡ length old.lits = w.kept.long in
          subst (λ (x : InLit). IsFirst rs (get_or (old.positions ++ n ∷ []) i 0) (own_of m x)) (sym (old_lit i c))
          (subst (λ (x : ℕ). IsFirst rs x (own_of m (lit_at old.lits i))) (sym (old_position i (omega (arith, c, k)))) (w.kept.first i c)))
          (λ (c : length old.lits ≤ i). let z : i ≡ length old.lits = omega (arith, b, c, lits_long) in
          subst (λ (y : ℕ). IsFirst rs (get_or (old.positions ++ n ∷ []) y 0) (own_of m (lit_at (old.lits ++ h.stored ∷ []) y))) (sym z)
          (subst (λ (x : InLit). IsFirst rs (get_or (old.positions ++ n ∷ []) (length old.lits) 0) (own_of m x)) (sym last_stored)
          (subst (λ (x : OwnLit). IsFirst rs (get_or (old.positions ++ n ∷ []) (length old.lits) 0) x) (sym h.same)
          (subst (λ (x : ℕ). IsFirst rs x l) (sym (ap (λ (y : ℕ). get_or (old.positions ++ n ∷ []) y 0) (sym w.kept.long) ∙ last_position)) first)))) (cases_lt i (length old.lits));
      all = λ p k b f.
          ⊎_elim (λ (c : p < n). let o : (i : ℕ) × (i < length old.lits) × (own_of m (lit_at old.lits i) ≡ k) = w.kept.all p k c f in
          (o.0, omega (arith, o.1, lits_long), ap (own_of m) (old_lit o.0 o.1) ∙ o.2))
          (λ (q : p ≡ n). (length old.lits, omega (arith, lits_long), ap (own_of m) last_stored ∙ (h.same ∙ last_lit l k (sym e ∙ (sym (ap (root_at rs) q) ∙ f))))) (below_next p n b);
    }

-- a number that stands in a table is within it
pub inside : {X : Type 0} (xs : List (Option X)) (i : ℕ) → is_some (get_or xs i None) ≡ true → i < length xs
inside xs i e = ⊎_elim (λ (l : i < length xs). l) (λ (g : length xs ≤ i). absurd (true≢false (sym e ∙ ap is_some (get_or_past xs i None g)))) (cases_lt i (length xs))

-- all were met
pub ready : (m : Maps) (rs : List Root) (n : ℕ) (w : Walk) → length rs ≡ n → Walked m rs n w → IsReady m rs w.lits w.positions
ready m rs n w e h = let z : Walked m rs (length rs) w = subst (λ (i : ℕ). Walked m rs i w) (sym e) h in record { agree = z.agree; kept = z.kept }
