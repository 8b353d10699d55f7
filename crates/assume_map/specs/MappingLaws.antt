-- The laws on mapped assumptions.
use Rattle.std.proofs.Common.{◌≡◌, ℕ, ◌+◌, ◌<◌, ◌≤◌, ◌&&◌, ⊎_elim, Bool, true, false, not, nat_lt, List, [], ◌∷◌, Some, None, length, get_or, refl, sym, ap, subst, ◌∙◌, arith}
use Rattle.std.specs.List.{list_all, slice_get, Contains}
use Rattle.std.specs.List.Sorted.{IsStrictlyIncreasing}
use Rattle.std.proofs.lemmas.Bool.{and_parts, and_from, not-true, lt-ltb, ltb-true, true≢false, cases_lt, false_from_ne_true}
use Rattle.std.proofs.lemmas.List.{get_or-map, get_or_past, length-map}
use Rattle.std.proofs.lemmas.Option.{get_or_from_slice_get, slice_get-get_or, slice_get_past}
use Rattle.std.proofs.lemmas.List.Elements.{Contains-append_left, Contains-append_right}
use Rattle.sat_lits.specs.ListLaws.{all_at, all_from_get}
use Rattle.sat_lits.specs.Meaning.{is_true}
use Rattle.sat_lits.specs.Verdicts.{makes_true}
use Rattle.sat_lits.specs.declared.literal.Lit.{Lit}
use Rattle.sat_lits.specs.declared.literal.InLit.{InLit}
use Rattle.sat_lits.specs.declared.literal.OwnLit.{OwnLit}
use Rattle.rebuild_stack.specs.Values.{values_of, own_value}
use Rattle.rebuild_stack.specs.Entries.{rebuild}
use Rattle.rebuild_stack.specs.Roots.{root, turned, is_lost, root_value}
use Rattle.rebuild_stack.specs.RootLaws.{rebuild_root, holds_root, turned_value}
use Rattle.rebuild_stack.specs.declared.entry.Root.{Root}
use Rattle.rebuild_stack.specs.declared.entry.Root.TheVariants.{Known, Last, Lost}
use Rattle.state_laws.specs.State.{outer_count, outer_part, to_own, widen}
use Rattle.state_laws.specs.Conditions.{Takable}
use Rattle.state_laws.specs.Theorems.{Fits}
use Rattle.state_laws.specs.Held.{own_of}
use Rattle.state_laws.specs.Kernel.{Kernel, state_of, Standing}
use Rattle.state_laws.specs.KernelTakeLaws.{takable_there, outers_len}
use Rattle.state_laws.specs.TakeLaws.{outer_own}
use Rattle.state_laws.specs.WidenLaws.{widened_outer, widened-Accords}
use Rattle.assume_map.specs.Roots.{roots, root_at}
use Rattle.assume_map.specs.Mapping.{lit_at, IsReady, IsClash}
use Rattle.assume_map.specs.Theorems.{assumption_at, makes_true_at, ClashContradicts, ReadyHasValues, ReadyIsRebuilt, FailedContradict}

-- what stands at a place stands within the list
got_inside : {X : Type 0} (xs : List X) (p : ℕ) (x : X) → slice_get xs p ≡ Some x → p < length xs
got_inside xs p x e = ⊎_elim (λ (l : p < length xs). l) (λ (g : length xs ≤ p). absurd (none_some (sym (slice_get_past xs p g) ∙ e))) (cases_lt p (length xs))
  where
    none_some : None ≡ Some x → ⊥
    none_some q = cc

-- so does what differs from what is past the end
inside : (rs : List Root) (p : ℕ) (r : Root) → root_at rs p ≡ r → (r ≡ Known true → ⊥) → p < length rs
inside rs p r e h = ⊎_elim (λ (l : p < length rs). l) (λ (g : length rs ≤ p). absurd (h (sym e ∙ get_or_past rs p (Known true) g))) (cases_lt p (length rs))

module _ (k : Kernel) (assumptions : List Lit) (s : Standing k) (t : Takable (state_of k) assumptions) where
  -- what an assumption comes to
  came_is : (p : ℕ) → p < length assumptions → root_at (roots (state_of k) assumptions) p ≡ root k.stack (to_own k.definitions (assumption_at assumptions p))
  came_is p h = get_or-map (λ (l : Lit). root k.stack (to_own k.definitions l)) assumptions p (record { var = record { 0 = 0 }; negative = false }) (Known true) h

  -- a position that comes to something else than true is there
  there : (p : ℕ) → (root_at (roots (state_of k) assumptions) p ≡ Known true → ⊥) → p < length assumptions
  there p h = ⊎_elim (λ (l : p < length assumptions). l)
      (λ (g : length assumptions ≤ p).
      let n : length (roots (state_of k) assumptions) ≡ length assumptions = length-map assumptions (λ (l : Lit). root k.stack (to_own k.definitions l)) in
      absurd (h (get_or_past (roots (state_of k) assumptions) p (Known true) (omega (arith, n, g))))) (cases_lt p (length assumptions))

  known : (p : ℕ) → p < length assumptions → (assumption_at assumptions p).var.0 < outer_count k.definitions
  known p h = subst (λ (n : ℕ). (assumption_at assumptions p).var.0 < n) (outers_len k s)
      (ltb-true _ _ (all_at (λ (l : Lit). nat_lt l.var.0 (length k.maps.outers)) assumptions p (record { var = record { 0 = 0 }; negative = false }) h (takable_there k assumptions s t)))

  kept : (p : ℕ) → p < length assumptions → is_lost (root k.stack (to_own k.definitions (assumption_at assumptions p))) ≡ false
  kept p h = not-true _ (all_at (λ (l : Lit). not (is_lost (root k.stack (to_own k.definitions l)))) assumptions p (record { var = record { 0 = 0 }; negative = false }) h t.roots)

  -- it has the value of what it comes to
  has_value : (values : List Bool) → Fits (state_of k) values → (p : ℕ) → p < length assumptions
      → is_true values (assumption_at assumptions p) ≡ root_value (values_of (widen values k.definitions)) (root_at (roots (state_of k) assumptions) p)
  has_value values f p h =
      ap (λ (vs : List Bool). is_true vs (assumption_at assumptions p)) (sym (widened_outer values k.definitions f.model.whole))
      ∙ (outer_own k.definitions (values_of (widen values k.definitions)) (assumption_at assumptions p) (known p h)
      ∙ (holds_root k.stack (to_own k.definitions (assumption_at assumptions p)) (values_of (widen values k.definitions)) (s.stands.sound.stack (values_of (widen values k.definitions)) (widened-Accords (state_of k) values s.stands.ranges f)) (kept p h)
      ∙ ap (root_value (values_of (widen values k.definitions))) (sym (came_is p h))))

  -- once values are rebuilt, it has the value of what it comes to
  rebuilt_value : (w : ℕ → Bool) (p : ℕ) → p < length assumptions
      → is_true (outer_part k.definitions (rebuild k.stack w)) (assumption_at assumptions p) ≡ root_value w (root_at (roots (state_of k) assumptions) p)
  rebuilt_value w p h =
      outer_own k.definitions (rebuild k.stack w) (assumption_at assumptions p) (known p h)
      ∙ (rebuild_root k.stack (to_own k.definitions (assumption_at assumptions p)) w (kept p h) ∙ ap (root_value w) (sym (came_is p h)))

  not_known : (l : OwnLit) → Last l ≡ Known true → ⊥
  not_known l e = cc

  differ : Known false ≡ Known true → ⊥
  differ e = cc

  -- the value of one that comes to a literal
  value_of_last : (values : List Bool) → Fits (state_of k) values → (p : ℕ) (l : OwnLit) → root_at (roots (state_of k) assumptions) p ≡ Last l → is_true values (assumption_at assumptions p) ≡ own_value (values_of (widen values k.definitions)) l
  value_of_last values f p l e = has_value values f p (there p (λ g. not_known l (sym e ∙ g))) ∙ ap (root_value (values_of (widen values k.definitions))) e

  clash : (positions : List ℕ) → IsClash (roots (state_of k) assumptions) positions → (values : List Bool) → Fits (state_of k) values → makes_true_at values assumptions positions ≡ false
  clash [] c values f = absurd c
  clash (p ∷ []) c values f =
      ap (λ (b : Bool). b && true) (has_value values f p (there p (λ g. differ (sym c.known ∙ g))) ∙ ap (root_value (values_of (widen values k.definitions))) c.known)
  clash (q ∷ p ∷ []) c values f =
      ap (λ (b : Bool). b && (is_true values (assumption_at assumptions p) && true)) (value_of_last values f q c.lit c.first.there)
      ∙ (ap (λ (b : Bool). own_value (values_of (widen values k.definitions)) c.lit && (b && true)) (value_of_last values f p (turned true c.lit) c.opposite ∙ turned_value (values_of (widen values k.definitions)) true c.lit)
      ∙ never (own_value (values_of (widen values k.definitions)) c.lit))
    where
      never : (b : Bool) → (b && (not b && true)) ≡ false
      never true = refl
      never false = refl
  clash (q ∷ p ∷ r ∷ more) c values f = absurd c

  -- a position of a literal that is left
  ready_value : (lits : List InLit) (positions : List ℕ) → IsReady k.maps (roots (state_of k) assumptions) lits positions → (values : List Bool) → Fits (state_of k) values → (i : ℕ) → i < length lits
      → own_value (values_of (widen values k.definitions)) (own_of k.maps (lit_at lits i)) ≡ is_true values (assumption_at assumptions (get_or positions i 0))
  ready_value lits positions r values f i h = sym (value_of_last values f (get_or positions i 0) (own_of k.maps (lit_at lits i)) (r.kept.first i h).there)

  ready_rebuilt : (lits : List InLit) (positions : List ℕ) → IsReady k.maps (roots (state_of k) assumptions) lits positions → (w : ℕ → Bool) → list_all (λ l. own_value w (own_of k.maps l)) lits ≡ true
      → makes_true (outer_part k.definitions (rebuild k.stack w)) assumptions ≡ true
  ready_rebuilt lits positions r w e = all_from_get (is_true (outer_part k.definitions (rebuild k.stack w))) assumptions each
    where
      long : length (roots (state_of k) assumptions) ≡ length assumptions
      long = length-map assumptions (λ (l : Lit). root k.stack (to_own k.definitions l))

      holds : (p : ℕ) → p < length assumptions → (x : Root) → root_at (roots (state_of k) assumptions) p ≡ x → root_value w x ≡ true
      holds p h (Known true) q = refl
      holds p h (Known false) q = absurd (r.agree.none_false p (omega (arith, h, long)) q)
      holds p h (Last l) q =
          let o : (i : ℕ) × (i < length lits) × (own_of k.maps (lit_at lits i) ≡ l) = r.kept.all p l (omega (arith, h, long)) q in
          ap (own_value w) (sym o.2) ∙ all_at (λ (x : InLit). own_value w (own_of k.maps x)) lits o.0 (record { var = record { 0 = 0 }; negative = false }) o.1 e
      holds p h (Lost v) q = absurd (true≢false (sym (ap is_lost (sym (came_is p h) ∙ q)) ∙ kept p h))

      each : (p : ℕ) (l : Lit) → slice_get assumptions p ≡ Some l → is_true (outer_part k.definitions (rebuild k.stack w)) l ≡ true
      each p l g =
          let h : p < length assumptions = got_inside assumptions p l g in
          ap (is_true (outer_part k.definitions (rebuild k.stack w))) (sym (get_or_from_slice_get assumptions p l (record { var = record { 0 = 0 }; negative = false }) g))
          ∙ (rebuilt_value w p h ∙ holds p h (root_at (roots (state_of k) assumptions) p) refl)

pub clash_contradicts : ClashContradicts
clash_contradicts k assumptions positions s t c = clash k assumptions s t positions c

pub ready_has_values : ReadyHasValues
ready_has_values k assumptions lits positions s t r = ready_value k assumptions s t lits positions r

pub ready_is_rebuilt : ReadyIsRebuilt
ready_is_rebuilt k assumptions lits positions s t r = ready_rebuilt k assumptions s t lits positions r

pub failed_contradict : FailedContradict
failed_contradict assumptions positions failed a w values e =
    false_from_ne_true _ (λ m. true≢false (sym (whole m positions (λ p c. c) w) ∙ e))
  where
    at : makes_true values failed ≡ true → (p : ℕ) → Contains positions p → p < length assumptions → is_true values (assumption_at assumptions p) ≡ true
    at m p c h =
        let x : Contains failed (assumption_at assumptions p) = a.all p (assumption_at assumptions p) c (slice_get-get_or assumptions p (record { var = record { 0 = 0 }; negative = false }) h) in
        ap (is_true values) (sym x.2) ∙ all_at (is_true values) failed x.0 (assumption_at assumptions p) x.1 m

    whole : makes_true values failed ≡ true → (ps : List ℕ) → ((p : ℕ) → Contains ps p → Contains positions p) → list_all (λ p. nat_lt p (length assumptions)) ps ≡ true → makes_true_at values assumptions ps ≡ true
    whole m [] i l = refl
    whole m (p ∷ ps) i l =
        let b : (nat_lt p (length assumptions) ≡ true) × (list_all (λ p. nat_lt p (length assumptions)) ps ≡ true) = and_parts _ _ l in
        and_from _ _ (at m p (i p (Contains-append_left (p ∷ []) ps p (0, omega arith, refl))) (ltb-true _ _ b.0)) (whole m ps (λ q c. i q (Contains-append_right (p ∷ []) ps q c)) b.1)

-- the positions of a clash rise
pub clash_rises : (rs : List Root) (positions : List ℕ) → IsClash rs positions → IsStrictlyIncreasing positions
clash_rises rs [] c i h = absurd c
clash_rises rs (p ∷ []) c i h = absurd (let z : i + 1 < 1 = h in omega arith)
clash_rises rs (q ∷ p ∷ []) c i h =
    let z : i + 1 < 2 = h in
    let e : i ≡ 0 = omega arith in
    subst (λ (j : ℕ). get_or (q ∷ p ∷ []) j 0 < get_or (q ∷ p ∷ []) (j + 1) 0) (sym e) c.before
clash_rises rs (q ∷ p ∷ r ∷ more) c i h = absurd c

-- they are positions of assumptions
pub clash_within : (rs : List Root) (positions : List ℕ) → IsClash rs positions → list_all (λ p. nat_lt p (length rs)) positions ≡ true
clash_within rs [] c = absurd c
clash_within rs (p ∷ []) c = and_from _ _ (lt-ltb _ _ (inside rs p (Known false) c.known (λ e. cc))) refl
clash_within rs (q ∷ p ∷ []) c =
    and_from _ _ (lt-ltb _ _ (inside rs q (Last c.lit) c.first.there (λ e. cc))) (and_from _ _ (lt-ltb _ _ (inside rs p (Last (turned true c.lit)) c.opposite (λ e. cc))) refl)
clash_within rs (q ∷ p ∷ r ∷ more) c = absurd c
