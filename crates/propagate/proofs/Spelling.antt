-- How long a chain can be.
use Rattle.std.proofs.Common.{◌≡◌, ◌≢◌, ◌<◌, ◌≤◌, ◌+◌, ℕ, zero, suc, Bool, true, false, cond, eqb, List, [], ◌∷◌, length, get_or, refl, sym, subst, arith}
use Rattle.std.proofs.lemmas.Bool.{eqb-true, eqb-false}
use Rattle.propagate.specs.Chains.{Linked, Lacks, Once}

abbrev Below : ℕ → List ℕ → Type 0
Below n [] = Unit {0}
Below n (e ∷ es) = (e < n) × Below n es

abbrev rid : ℕ → List ℕ → List ℕ
rid e [] = []
rid e (d ∷ ds) = cond (eqb d e) ds (d ∷ rid e ds)

rid_length : (e : ℕ) (es : List ℕ) → length es ≤ length (rid e es) + 1
rid_length e [] = omega arith
rid_length e (d ∷ ds) = go (eqb d e) (rid_length e ds)
  where
    go : (b : Bool) → length ds ≤ length (rid e ds) + 1 → length (d ∷ ds) ≤ length (cond b ds (d ∷ rid e ds)) + 1
    go true h = omega arith
    go false h = omega (arith, h)

rid_lacks : (x e : ℕ) (es : List ℕ) → Lacks x es → Lacks x (rid e es)
rid_lacks x e [] l = tt
rid_lacks x e (d ∷ ds) l = go (eqb d e) (rid_lacks x e ds l.1)
  where
    go : (b : Bool) → Lacks x (rid e ds) → Lacks x (cond b ds (d ∷ rid e ds))
    go true h = l.1
    go false h = (l.0, h)

rid_once : (e : ℕ) (es : List ℕ) → Once es → Once (rid e es)
rid_once e [] o = tt
rid_once e (d ∷ ds) o = go (eqb d e) (rid_once e ds o.1)
  where
    go : (b : Bool) → Once (rid e ds) → Once (cond b ds (d ∷ rid e ds))
    go true h = o.1
    go false h = (rid_lacks d e ds o.0, h)

lacks_self : (e : ℕ) (es : List ℕ) → Once es → Lacks e (rid e es)
lacks_self e [] o = tt
lacks_self e (d ∷ ds) o = go (eqb d e) refl (lacks_self e ds o.1)
  where
    go : (b : Bool) → eqb d e ≡ b → Lacks e (rid e ds) → Lacks e (cond b ds (d ∷ rid e ds))
    go true q h = subst (λ (z : ℕ). Lacks z ds) (eqb-true d e q) o.0
    go false q h = (eqb-false d e q, h)

below_rid : (n e : ℕ) (es : List ℕ) → Below n es → Below n (rid e es)
below_rid n e [] b = tt
below_rid n e (d ∷ ds) b = go (eqb d e) (below_rid n e ds b.1)
  where
    go : (c : Bool) → Below n (rid e ds) → Below n (cond c ds (d ∷ rid e ds))
    go true h = b.1
    go false h = (b.0, h)

below_less : (n : ℕ) (es : List ℕ) → Below (n + 1) es → Lacks n es → Below n es
below_less n [] b l = tt
below_less n (d ∷ ds) b l = (less b.0 l.0, below_less n ds b.1 l.1)
  where
    less : d < n + 1 → d ≢ n → d < n
    less h k = omega (arith, h, k)

-- entries below a number that stand once are no more than that number
pub within : (n : ℕ) (es : List ℕ) → Once es → Below n es → length es ≤ n
within zero [] o b = omega arith
within zero (d ∷ ds) o b = omega (arith, b.0)
within (suc n) es o b =
    let c : Below (n + 1) es = subst (λ (z : ℕ). Below z es) (omega arith) b in
    let h : length (rid n es) ≤ n = within n (rid n es) (rid_once n es o) (below_less n (rid n es) (below_rid (n + 1) n es c) (lacks_self n es o)) in
    omega (arith, h, rid_length n es)

linked_below : (next : List ℕ) (p : ℕ) (es : List ℕ) → Linked next p es → Below (length next) es
linked_below next p [] h = tt
linked_below next p (e ∷ es) h = (h.1, linked_below next (get_or next e 0) es h.2)

-- a chain has no more entries than there are words
pub chain_within : (next : List ℕ) (p : ℕ) (es : List ℕ) → Linked next p es → Once es → length es ≤ length next
chain_within next p es h o = within (length next) es o (linked_below next p es h)

-- how many entries come from a word on, up to a number of steps
abbrev pub steps_from : List ℕ → ℕ → ℕ → ℕ
steps_from next zero p = 0
steps_from next (suc n) zero = 0
steps_from next (suc n) (suc e) = steps_from next n (get_or next e 0) + 1

counted : (next : List ℕ) (n p : ℕ) (es : List ℕ) → Linked next p es → length es ≤ n → steps_from next n p ≡ length es
counted next zero p [] h l = refl
counted next zero p (e ∷ es) h l = absurd (omega (arith, l))
counted next (suc n) p [] h l = subst (λ (z : ℕ). steps_from next (suc n) z ≡ 0) (sym h) refl
counted next (suc n) p (e ∷ es) h l =
    let i : steps_from next n (get_or next e 0) ≡ length es = counted next n (get_or next e 0) es h.2 (omega (arith, l)) in
    let q : suc e ≡ p = omega (arith, h.0) in
    let r : steps_from next n (get_or next e 0) + 1 ≡ length (e ∷ es) = omega (arith, i) in
    subst (λ (z : ℕ). steps_from next (suc n) z ≡ length (e ∷ es)) q r

-- the number of entries of a chain
pub chain_counted : (next : List ℕ) (p : ℕ) (es : List ℕ) → Linked next p es → Once es → steps_from next (length next) p ≡ length es
chain_counted next p es h o = counted next (length next) p es h (chain_within next p es h o)
