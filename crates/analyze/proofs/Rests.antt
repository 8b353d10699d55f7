-- The rest of a walk back over a trail.
use Rattle.std.proofs.Common.{◌≡◌, ◌<◌, ◌≤◌, ◌+◌, ◌-◌, ℕ, suc, Bool, true, false, eqb, ◌||◌, List, [], ◌∷◌, ◌++◌, length, take, drop, get_or, Some, option_map, option_and_then, refl, sym, ap, subst, ◌∙◌, ⊎_elim, arith, eq-eqb}
use Rattle.std.proofs.lemmas.Bool.{and_parts, eqb-true, both_ways, cases_lt, false_from_ne_true}
use Rattle.std.proofs.lemmas.List.{take-append-drop, get_or_append_left, length-drop, drop_all}
use Rattle.std.proofs.Math.Seq.{get_or-append_seam}
use Rattle.std.specs.List.{list_any, list_all}
use Rattle.sat_lits.specs.declared.literal.InLit.{InLit}
use Rattle.trail.specs.declared.trail.Step.{Step}
use Rattle.trail.specs.Trail.{set_in, step_in, level_in, reason_in, lits_of, shaped, shaped_step}
use Rattle.trail.specs.Laws.{step_new, lits_of-newest, length-lits_of}
use Rattle.clause_store.specs.Store.{Held}
use Rattle.propagate.specs.Reasons.{has_reason, reasoned}
use Rattle.analyze.specs.Walks.{rest_of}
use Rattle.analyze.proofs.Tracking.{shaped_rest, all_rest, any_rest}

-- what was walked, and the rest
pub rest_parts : (t : List Step) (n : ℕ) → t ≡ take (length t - n) t ++ rest_of n t
rest_parts t n = sym (take-append-drop (length t - n) t)

pub rest_all : (t : List Step) (n : ℕ) → n ≡ length t → rest_of n t ≡ t
rest_all t n e = let z : length t - n ≡ 0 = omega arith in ap (λ (k : ℕ). drop k t) z

pub rest_none : (t : List Step) → rest_of 0 t ≡ []
rest_none t = drop_all (length t - 0) t (omega arith)

pub rest_length : (t : List Step) (n : ℕ) → length (rest_of n t) ≤ n
rest_length t n = omega (arith, length-drop (length t - n) t)

rest_older : (s : Step) (older : List Step) (n : ℕ) → n ≤ length older → rest_of n (s ∷ older) ≡ rest_of n older
rest_older s older n h = let e : suc (length older) - n ≡ suc (length older - n) = omega arith in ap (λ (k : ℕ). drop k (s ∷ older)) e

-- the newest step of the rest, whose literal stands at the rest's end
pub record IsNext (t : List Step) (n : ℕ) (s : Step) : Type 0 where
  pub here : rest_of (n + 1) t ≡ s ∷ rest_of n t
  pub at : (d : InLit) → get_or (lits_of t) n d ≡ s.lit

pub next_step : (t : List Step) (n : ℕ) → n < length t → (s : Step) × IsNext t n s
next_step [] n h = absurd (omega arith)
next_step (s ∷ older) n h = ⊎_elim (λ (a : n < length older). later a (next_step older n a)) (λ (a : length older ≤ n). (s, newest (omega arith))) (cases_lt n (length older))
  where
    newest : n ≡ length older → IsNext (s ∷ older) n s
    newest e = record {
      here = rest_all (s ∷ older) (n + 1) (omega arith) ∙ ap (λ (z : List Step). s ∷ z) (sym (rest_older s older n (omega arith) ∙ rest_all older n e));
      at = λ d. ap (λ (z : List InLit). get_or z n d) (lits_of-newest older s) ∙ (ap (λ (k : ℕ). get_or (lits_of older ++ s.lit ∷ []) k d) (e ∙ sym (length-lits_of older)) ∙ get_or-append_seam (lits_of older) s.lit [] d);
    }

    later : n < length older → (r : Step) × IsNext older n r → (r : Step) × IsNext (s ∷ older) n r
    later a (r, i) = (
      r,
      record {
        here = rest_older s older (n + 1) (omega arith) ∙ (i.here ∙ ap (λ (z : List Step). r ∷ z) (sym (rest_older s older n (omega arith))));
        at = λ d. ap (λ (z : List InLit). get_or z n d) (lits_of-newest older s) ∙ (get_or_append_left (lits_of older) (s.lit ∷ []) d n (let l : length (lits_of older) ≡ length older = length-lits_of older in omega arith) ∙ i.at d);
      },
    )

pub reasoned_rest : (held : List Held) (gone rest : List Step) → reasoned held (gone ++ rest) ≡ true → reasoned held rest ≡ true
reasoned_rest held [] rest e = e
reasoned_rest held (s ∷ gone) rest e = reasoned_rest held gone rest (and_parts (has_reason held (gone ++ rest) s s.reason) (reasoned held (gone ++ rest)) e).1

-- a step of a trail is that of its variable
step_in_parts : (gone older : List Step) (s : Step) → shaped (gone ++ s ∷ older) ≡ true → step_in (gone ++ s ∷ older) s.lit.var.0 ≡ Some s
step_in_parts [] older s e = rw (eq-eqb s.lit.var.0 s.lit.var.0 refl) refl
step_in_parts (r ∷ gone) older s e =
    let p : (shaped_step (gone ++ s ∷ older) r ≡ true) × (shaped (gone ++ s ∷ older) ≡ true) = and_parts _ _ e in
    let n : set_in (gone ++ s ∷ older) r.lit.var.0 ≡ false = step_new (gone ++ s ∷ older) r p.0 in
    let i : step_in (gone ++ s ∷ older) s.lit.var.0 ≡ Some s = step_in_parts gone older s p.1 in
    let ne : eqb r.lit.var.0 s.lit.var.0 ≡ false = false_from_ne_true _ (λ (f : eqb r.lit.var.0 s.lit.var.0 ≡ true). both_ways _ n (any_rest (λ q. eqb q.lit.var.0 r.lit.var.0) gone (s ∷ older) (there (eqb s.lit.var.0 r.lit.var.0) (eq-eqb _ _ (sym (eqb-true _ _ f)))))) in
    rw ne i
  where
    there : (b : Bool) → b ≡ true → (b || set_in older r.lit.var.0) ≡ true
    there true f = refl
    there false f = absurd (both_ways false refl f)

-- the trail splits at a step
pub record Split (held : List Held) (t : List Step) (s : Step) (older : List Step) : Type 0 where
  pub is_shaped : shaped (s ∷ older) ≡ true
  pub is_reasoned : reasoned held (s ∷ older) ≡ true
  pub within : (p : Step → Bool) → list_all p t ≡ true → list_all p (s ∷ older) ≡ true
  pub found : (p : Step → Bool) → list_any p (s ∷ older) ≡ true → list_any p t ≡ true
  pub reason : reason_in t s.lit.var.0 ≡ s.reason
  pub level : level_in t s.lit.var.0 ≡ Some s.level

pub split_parts : (held : List Held) (t gone older : List Step) (s : Step) → t ≡ gone ++ s ∷ older → shaped t ≡ true → reasoned held t ≡ true → Split held t s older
split_parts held t gone older s p e r =
    let i : step_in t s.lit.var.0 ≡ Some s = ap (λ (z : List Step). step_in z s.lit.var.0) p ∙ step_in_parts gone older s (subst (λ (z : List Step). shaped z ≡ true) p e) in
    record {
      is_shaped = shaped_rest gone (s ∷ older) (subst (λ (z : List Step). shaped z ≡ true) p e);
      is_reasoned = reasoned_rest held gone (s ∷ older) (subst (λ (z : List Step). reasoned held z ≡ true) p r);
      within = λ q a. all_rest q gone (s ∷ older) (subst (λ (z : List Step). list_all q z ≡ true) p a);
      found = λ q a. subst (λ (z : List Step). list_any q z ≡ true) (sym p) (any_rest q gone (s ∷ older) a);
      reason = ap (option_and_then (λ (q : Step). q.reason)) i;
      level = ap (option_map (λ (q : Step). q.level)) i;
    }

pub split : (held : List Held) (t : List Step) (n : ℕ) (s : Step) → rest_of (n + 1) t ≡ s ∷ rest_of n t → shaped t ≡ true → reasoned held t ≡ true → Split held t s (rest_of n t)
split held t n s h e r = split_parts held t (take (length t - (n + 1)) t) (rest_of n t) s (rest_parts t (n + 1) ∙ ap (λ (z : List Step). take (length t - (n + 1)) t ++ z) h) e r
