-- Two tables that lead back to each other, after a change in both.
use Rattle.std.proofs.Common.{◌≡◌, ℕ, ◌==◌, Bool, true, false, cond, Option, Some, None, refl, sym, ap, ◌∙◌, eqb-true, eq-eqb, ne_eqb}
use Rattle.std.proofs.lemmas.Bool.{eqb-false}

-- what one table has of a number, the other leads back from
abbrev pub Leads : {A B : Type 0} → (A → ℕ) → (ℕ → B) → (ℕ → Option A) → (ℕ → Option B) → Type 0
Leads {A} num of f g = (j : ℕ) (x : A) → f j ≡ Some x → g (num x) ≡ Some (of j)

some_same : {X : Type 0} (x y : X) → Some x ≡ Some y → x ≡ y
some_same x y e = cc

some_none : {X : Type 0} (x : X) → Some x ≡ None → ⊥
some_none x e = cc

-- with one more pair
pub leads_more : {A B : Type 0} (num : A → ℕ) (of : ℕ → B) (f f' : ℕ → Option A) (g g' : ℕ → Option B) (k : ℕ) (a : A) → g (num a) ≡ None
    → ((j : ℕ) → f' j ≡ cond (j == k) (Some a) (f j)) → ((j : ℕ) → g' j ≡ cond (j == num a) (Some (of k)) (g j)) → Leads num of f g → Leads num of f' g'
leads_more {A = A} num of f f' g g' k a n p q h j x e = go (j == k) refl (sym (p j) ∙ e)
  where
    go : (b : Bool) → (j == k) ≡ b → cond b (Some a) (f j) ≡ Some x → g' (num x) ≡ Some (of j)
    go true t y =
        q (num x) ∙ (ap (λ (b : Bool). cond b (Some (of k)) (g (num x))) (eq-eqb _ _ (ap num (sym (some_same a x y)))) ∙ ap (λ (z : ℕ). Some (of z)) (sym (eqb-true j k t)))
    go false t y =
        q (num x) ∙ (ap (λ (b : Bool). cond b (Some (of k)) (g (num x))) (ne_eqb _ _ (λ z. some_none (of j) (sym (h j x y) ∙ (ap g z ∙ n)))) ∙ h j x y)

-- without one pair
pub leads_less : {A B : Type 0} (num : A → ℕ) (of : ℕ → B) (back : B → ℕ) → ((j : ℕ) → back (of j) ≡ j) → (f f' : ℕ → Option A) (g g' : ℕ → Option B) (k : ℕ) (a : A) → f k ≡ Some a
    → ((j : ℕ) → f' j ≡ cond (j == k) None (f j)) → ((j : ℕ) → g' j ≡ cond (j == num a) None (g j)) → Leads num of f g → Leads num of f' g'
leads_less num of back exact f f' g g' k a n p q h j x e = go (j == k) refl (sym (p j) ∙ e)
  where
    same : num x ≡ num a → f j ≡ Some x → j ≡ k
    same z y = sym (exact j) ∙ (ap back (some_same (of j) (of k) (sym (h j x y) ∙ (ap g z ∙ h k a n))) ∙ exact k)

    go : (b : Bool) → (j == k) ≡ b → cond b None (f j) ≡ Some x → g' (num x) ≡ Some (of j)
    go true t y = absurd (some_none x (sym y))
    go false t y = q (num x) ∙ (ap (λ (b : Bool). cond b None (g (num x))) (ne_eqb _ _ (λ z. eqb-false j k t (same z y))) ∙ h j x y)

-- with tables that have the same entries
pub leads_same : {A B : Type 0} (num : A → ℕ) (of : ℕ → B) (f f' : ℕ → Option A) (g g' : ℕ → Option B) → ((j : ℕ) → f' j ≡ f j) → ((j : ℕ) → g' j ≡ g j) → Leads num of f g → Leads num of f' g'
leads_same num of f f' g g' p q h j x e = q (num x) ∙ h j x (sym (p j) ∙ e)
