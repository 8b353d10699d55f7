-- What the literals that assumptions were mapped to say of the items taken.
use Rattle.std.proofs.Common.{◌≡◌, ℕ, zero, suc, ◌+◌, ◌^◌, ◌<◌, ◌≤◌, Bool, true, false, nat_lt, List, [], ◌∷◌, Option, Some, None, is_some, length, map, get_or, refl, sym, ap, subst, ◌∙◌, arith, eq-eqb}
use Rattle.std.specs.List.{list_all}
use Rattle.std.specs.List.Sorted.{IsStrictlyIncreasing}
use Rattle.std.proofs.lemmas.Bool.{or_right, or_left, lt-ltb, ltb-true, false≢true}
use Rattle.std.proofs.lemmas.List.{length-map}
use Rattle.std.proofs.lemmas.List as listed
use Rattle.std.proofs.lemmas.List.Folds.{list_all-map}
use Rattle.std.proofs.Math.ListN.{get_or-map}
use Rattle.sat_lits.specs.Truth.{signed}
use Rattle.sat_lits.specs.ListLaws.{all_mono, all_agree, both_all, all_at, all_from_get}
use Rattle.sat_lits.specs.Meaning.{IsModel, is_true, satisfies_clause}
use Rattle.sat_lits.specs.Verdicts.{makes_true}
use Rattle.sat_lits.specs.declared.literal.Lit.{Lit}
use Rattle.sat_lits.specs.declared.literal.Own.{Own}
use Rattle.sat_lits.specs.declared.literal.InLit.{InLit}
use Rattle.sat_lits.specs.declared.shared.Shared.{Shared}
use Rattle.rebuild_stack.specs.Values.{values_of, own_value}
use Rattle.rebuild_stack.specs.Roots.{root}
use Rattle.propagate.specs.Reasons.{lit_value}
use Rattle.var_maps.specs.Maps.{Maps, Matched, owner_at}
use Rattle.state_laws.specs.State.{to_own, widen}
use Rattle.state_laws.specs.Conditions.{Takable}
use Rattle.state_laws.specs.Theorems.{Fits, Confirms}
use Rattle.state_laws.specs.WidenLaws.{widened_confirm}
use Rattle.state_laws.specs.Held.{own_or, own_of, in_value, inner_value}
use Rattle.state_laws.specs.Kernel.{Kernel, state_of, Standing}
use Rattle.private_state.specs.Rebuilt.{rebuilt_values}
use Rattle.search.specs.Answers.{AreFailed, IsInnerModel}
use Rattle.search.specs.Assumed.{assumption_at}
use Rattle.search.specs.InUse.{owned_from, in_use, is_among, lits_among}
use Rattle.assume_map.specs.Roots.{roots}
use Rattle.assume_map.specs.Mapping.{IsReady, IsClash}
use Rattle.assume_map.specs.MappingLaws.{clash_contradicts, ready_has_values, ready_is_rebuilt}
use Rattle.one_solver.specs.Parts.{Parts, problem_in, AssumesKnown, CanAssume}
use Rattle.one_solver.specs.InStep.{EntriesFollow, entry_follows}
use Rattle.one_solver.specs.Assuming.{IsMappedTo, AreContradicted}
use Rattle.one_solver.proofs.Taking.{clause_takable}
use Rattle.one_solver.proofs.Refuting.{inner_of, held_inner}

-- the assumptions can be mapped
pub takable : (s : Parts) → CanAssume s → Takable (state_of s.kernel) s.assumptions
takable s a = clause_takable s.kernel s.assumptions a.assumed.known a.free

-- a model fits what was taken where the shared entries follow from the items
fits : (s : Parts) (values : List Bool) → EntriesFollow s → IsModel (problem_in s) values → Fits (state_of s.kernel) values
fits s values f m = record { model = m; entries = all_from_get (λ (e : Shared). satisfies_clause values e.clause) s.kernel.entries (λ at e g. entry_follows s f at e g values m) }

-- assumptions that clash contradict the items
pub clash_contradicted : (s : Parts) (positions : List ℕ) → Standing s.kernel → EntriesFollow s → CanAssume s → IsClash (roots (state_of s.kernel) s.assumptions) positions → AreContradicted (problem_in s) s.assumptions positions
clash_contradicted s positions st f a c = λ values m. clash_contradicts s.kernel s.assumptions positions st (takable s a) c values (fits s values f m)

pub roots_long : (s : Parts) → length (roots (state_of s.kernel) s.assumptions) ≡ length s.assumptions
roots_long s = length-map s.assumptions (λ (l : Lit). root s.kernel.stack (to_own s.kernel.definitions l))

-- the positions that these places stand for
abbrev pub positions_of : List ℕ → List ℕ → List ℕ
positions_of positions places = map (λ p. get_or positions p 0) places

module _ (s : Parts) (lits : List InLit) (positions : List ℕ) (r : IsMappedTo s lits positions) where
  -- assumptions whose literals contradict the clauses contradict the items
  pub failed_contradict_items : (failed : List ℕ) → Standing s.kernel → EntriesFollow s → CanAssume s → AreFailed s.kernel.store.held lits failed → AreContradicted (problem_in s) s.assumptions (positions_of positions failed)
  failed_contradict_items failed st e a f = λ values m.
      let w : ℕ → Bool = values_of (widen values s.kernel.definitions) in
      let t : Fits (state_of s.kernel) values = fits s values e m in
      let c : Confirms (state_of s.kernel) w = widened_confirm (state_of s.kernel) st.stands values t in
      list_all-map (λ p. is_true values (get_or s.assumptions p (record { var = record { 0 = 0 }; negative = false }))) (λ p. get_or positions p 0) failed
      ∙ (sym (all_agree (λ p. nat_lt p (length lits)) (λ p. lit_value (inner_of s.kernel w) (assumption_at lits p)) (λ p. is_true values (get_or s.assumptions (get_or positions p 0) (record { var = record { 0 = 0 }; negative = false })))
      (λ p h. ready_has_values s.kernel s.assumptions lits positions st (takable s a) r values t p (ltb-true _ _ h)) failed f.within)
      ∙ f.contradict (inner_of s.kernel w) (held_inner s.kernel w (record { hard = c.hard; learned = c.learned })))

  -- their positions rise
  pub failed_rise : (failed : List ℕ) → AreFailed s.kernel.store.held lits failed → IsStrictlyIncreasing (positions_of positions failed)
  failed_rise failed f i h =
      let n : length (positions_of positions failed) ≡ length failed = length-map failed (λ p. get_or positions p 0) in
      let b : i + 1 < length failed = omega (arith, n, h) in
      let c : i < length failed = omega arith in
      let g : get_or failed (i + 1) 0 < length lits = ltb-true _ _ (all_at (λ p. nat_lt p (length lits)) failed (i + 1) 0 b f.within) in
      let l : length positions ≡ length lits = r.kept.long in
      subst (λ (x : ℕ). x < get_or (positions_of positions failed) (i + 1) 0) (sym (listed.get_or-map (λ p. get_or positions p 0) failed i 0 0 c))
      (subst (λ (x : ℕ). get_or positions (get_or failed i 0) 0 < x) (sym (listed.get_or-map (λ p. get_or positions p 0) failed (i + 1) 0 0 b))
      (r.kept.rising (get_or failed i 0) (get_or failed (i + 1) 0) (f.rising i b) (omega arith)))

  -- and are there
  pub failed_within : (failed : List ℕ) → AreFailed s.kernel.store.held lits failed → list_all (λ p. nat_lt p (length s.assumptions)) (positions_of positions failed) ≡ true
  failed_within failed f =
      list_all-map (λ p. nat_lt p (length s.assumptions)) (λ p. get_or positions p 0) failed
      ∙ all_mono (λ p. nat_lt p (length lits)) (λ p. nat_lt (get_or positions p 0) (length s.assumptions)) each failed f.within
    where
      each : (p : ℕ) → nat_lt p (length lits) ≡ true → nat_lt (get_or positions p 0) (length s.assumptions) ≡ true
      each p h =
          let g : p < length lits = ltb-true _ _ h in
          let l : length positions ≡ length lits = r.kept.long in
          let b : get_or positions p 0 < length (roots (state_of s.kernel) s.assumptions) = r.kept.below p (omega arith) in
          lt-ltb _ _ (omega (arith, b, roots_long s))

  -- the places at which they stand
  pub failed_inside : (failed : List ℕ) → AreFailed s.kernel.store.held lits failed → list_all (λ p. nat_lt p (length positions)) failed ≡ true
  failed_inside failed f = ap (λ (n : ℕ). list_all (λ p. nat_lt p n) failed) r.kept.long ∙ f.within

  at_least : (i : ℕ) → i < length positions → i ≤ get_or positions i 0
  at_least zero h = omega arith
  at_least (suc i) h =
      let l : i ≤ get_or positions i 0 = at_least i (omega arith) in
      let m : get_or positions i 0 < get_or positions (suc i) 0 = r.kept.rising i (suc i) (omega arith) h in
      omega arith

  -- there are no more literals than assumptions
  pub lits_few : AssumesKnown s → length lits < 2 ^ 32
  lits_few a = go (length positions) refl
    where
      go : (n : ℕ) → length positions ≡ n → length lits < 2 ^ 32
      go zero e = let l : length positions ≡ length lits = r.kept.long in omega arith
      go (suc n) e =
          let l : length positions ≡ length lits = r.kept.long in
          let g : n ≤ get_or positions n 0 = at_least n (omega arith) in
          let b : get_or positions n 0 < length (roots (state_of s.kernel) s.assumptions) = r.kept.below n (omega arith) in
          let f : length s.assumptions < 2 ^ 32 = a.few in
          omega (arith, roots_long s)

  -- a model under the literals is rebuilt to a model under the assumptions
  pub rebuilt_true : (values out : List Bool) → Standing s.kernel → Matched s.kernel.maps → CanAssume s → IsInnerModel s.kernel lits values → out ≡ rebuilt_values s.kernel values → makes_true out s.assumptions ≡ true
  rebuilt_true values out st m a i e =
      ap (λ (vs : List Bool). makes_true vs s.assumptions) e
      ∙ ready_is_rebuilt s.kernel s.assumptions lits positions st (takable s a) r (values_of (map (inner_value values) s.kernel.maps.inners))
      (both_all (in_value values) (λ l. is_some (owner_at s.kernel.maps l.var.0)) (λ l. own_value (values_of (map (inner_value values) s.kernel.maps.inners)) (own_of s.kernel.maps l)) each lits i.assumed r.kept.owned)
    where
      each : (l : InLit) → in_value values l ≡ true → is_some (owner_at s.kernel.maps l.var.0) ≡ true → own_value (values_of (map (inner_value values) s.kernel.maps.inners)) (own_of s.kernel.maps l) ≡ true
      each l t o = go (owner_at s.kernel.maps l.var.0) refl o
        where
          go : (x : Option Own) → owner_at s.kernel.maps l.var.0 ≡ x → is_some x ≡ true → signed l.negative (values_of (map (inner_value values) s.kernel.maps.inners) (own_or (length s.kernel.maps.inners) x).0) ≡ true
          go None q y = absurd (false≢true y)
          go (Some v) q y = ap (signed l.negative) (get_or-map (inner_value values) s.kernel.maps.inners v.0 None ∙ ap (inner_value values) (m.owner_inner l.var.0 v q)) ∙ t

-- a number that has an owner is in use
owned_among : (owners : List (Option Own)) (n i : ℕ) → is_some (get_or owners i None) ≡ true → is_among (owned_from n owners) (n + i) ≡ true
owned_among [] n i e = absurd (false≢true e)
owned_among (None ∷ owners) n zero e = absurd (false≢true e)
owned_among (Some v ∷ owners) n zero e = or_left _ _ (eq-eqb n (n + 0) (omega arith))
owned_among (None ∷ owners) n (suc i) e = subst (λ (k : ℕ). is_among (owned_from (suc n) owners) k ≡ true) (let z : suc n + i ≡ n + suc i = omega arith in z) (owned_among owners (suc n) i e)
owned_among (Some v ∷ owners) n (suc i) e = or_right _ _ (subst (λ (k : ℕ). is_among (owned_from (suc n) owners) k ≡ true) (let z : suc n + i ≡ n + suc i = omega arith in z) (owned_among owners (suc n) i e))

-- the literals are over active variables
pub lits_active : (m : Maps) (lits : List InLit) → list_all (λ l. is_some (owner_at m l.var.0)) lits ≡ true → lits_among (in_use m) lits ≡ true
lits_active m lits h =
    all_mono (λ (l : InLit). is_some (owner_at m l.var.0)) (λ l. is_among (in_use m) l.var.0)
    (λ l e. subst (λ (k : ℕ). is_among (in_use m) k ≡ true) (let z : 0 + l.var.0 ≡ l.var.0 = omega arith in z) (owned_among m.owners 0 l.var.0 e)) lits h

-- the assumptions are mapped to the same literals where clauses alone have changed
pub still_mapped : (old new : Parts) (lits : List InLit) (positions : List ℕ) → new.kernel ≡ record old.kernel { store = new.kernel.store } → new.assumptions ≡ old.assumptions → IsMappedTo old lits positions → IsMappedTo new lits positions
still_mapped old new lits positions e f r =
    subst (λ (k : Kernel). IsReady k.maps (roots (state_of k) new.assumptions) lits positions) (sym e)
    (subst (λ (ls : List Lit). IsReady old.kernel.maps (roots (state_of old.kernel) ls) lits positions) (sym f) r)
