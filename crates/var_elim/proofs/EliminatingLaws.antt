-- How many variables were eliminated.
use Rattle.std.proofs.Common.{◌≡◌, ℕ, ◌+◌, get_or, Bool, true, false, not, ◌&&◌, List, [], ◌∷◌, ◌++◌, refl, sym, ap, subst, ◌∙◌, length-append}
use Rattle.std.proofs.lemmas.Bool.{and_parts, false≢true}
use Rattle.sat_lits.specs.declared.literal.Own.{Own}
use Rattle.state_laws.specs.State.{State}
use Rattle.state_laws.specs.Moves.{eliminated}
use Rattle.state_laws.specs.Kernel.{Kernel, state_of, plain_kernel, TookSame}
use Rattle.var_elim.specs.Eliminating.{Eliminates, AllCanGo, eliminate_each, can_go}

pub eliminates_none : (left : ℕ → Bool) (s : State) → Eliminates 0 left s s
eliminates_none left s = record { vars = []; count = refl; state = refl; could = tt }

-- one variable more was eliminated
pub eliminates_more : (n m : ℕ) (left : ℕ → Bool) (s t u : State) (v : Own) → m ≡ n + 1 → Eliminates n left s t → left v.0 ≡ false → can_go t v.0 ≡ true → u ≡ eliminated v t → Eliminates m left s u
eliminates_more n m left s t u v q d l g e =
    record {
      vars = d.vars ++ v ∷ [];
      count = length-append d.vars (v ∷ []) ∙ (ap (λ k. k + 1) d.count ∙ sym q);
      state = e ∙ (ap (eliminated v) d.state ∙ sym (each d.vars s));
      could = all d.vars s d.could (subst (λ z. can_go z v.0 ≡ true) d.state g);
    }
  where
    each : (vs : List Own) (s : State) → eliminate_each s (vs ++ v ∷ []) ≡ eliminated v (eliminate_each s vs)
    each [] s = refl
    each (w ∷ vs) s = each vs (eliminated w s)

    all : (vs : List Own) (s : State) → AllCanGo left s vs → can_go (eliminate_each s vs) v.0 ≡ true → AllCanGo left s (vs ++ v ∷ [])
    all [] s a b = ((l, b), tt)
    all (w ∷ vs) s a b = (a.0, all vs (eliminated w s) a.1 b)

-- nothing changed
pub eliminates_same : (n : ℕ) (left : ℕ → Bool) (s t u : State) → u ≡ t → Eliminates n left s t → Eliminates n left s u
eliminates_same n left s t u e d = subst (λ z. Eliminates n left s z) (sym e) d

-- what was taken is the same
pub eliminates_took : (n : ℕ) (left : ℕ → Bool) (k l : Kernel) → Eliminates n left (state_of k) (state_of l) → TookSame k l
eliminates_took n left k l d =
    record {
      items = ap (λ (s : State). s.items) d.state ∙ items d.vars (state_of k);
      entries = ap (λ (s : State). s.entries) d.state ∙ entries d.vars (state_of k);
      definitions = ap (λ (s : State). s.definitions) d.state ∙ definitions d.vars (state_of k);
      okay = λ o. sym (ap (λ (s : State). s.okay) d.state ∙ okay d.vars (state_of k)) ∙ o;
    }
  where
    items : (vs : List Own) (s : State) → (eliminate_each s vs).items ≡ s.items
    items [] s = refl
    items (v ∷ vs) s = items vs (eliminated v s)

    entries : (vs : List Own) (s : State) → (eliminate_each s vs).entries ≡ s.entries
    entries [] s = refl
    entries (v ∷ vs) s = entries vs (eliminated v s)

    definitions : (vs : List Own) (s : State) → (eliminate_each s vs).definitions ≡ s.definitions
    definitions [] s = refl
    definitions (v ∷ vs) s = definitions vs (eliminated v s)

    okay : (vs : List Own) (s : State) → (eliminate_each s vs).okay ≡ s.okay
    okay [] s = refl
    okay (v ∷ vs) s = okay vs (eliminated v s)

-- a kernel is seen as before where the room and the number above all ids changed alone
pub plain_state : (k n : Kernel) → plain_kernel n ≡ plain_kernel k → state_of n ≡ state_of k
plain_state k n e = ap state_of e

-- a variable went that was not to be left, and could go
pub could_go : (left left0 : List Bool) (v : ℕ) (l g : Bool) → left ≡ left0 → get_or left0 v false ≡ l → (not (get_or left v false) && g) ≡ true → (l ≡ false) × (g ≡ true)
could_go left left0 v l g e f h =
    let p : (not (get_or left v false) ≡ true) × (g ≡ true) = and_parts (not (get_or left v false)) g h in
    (sym f ∙ (ap (λ z. get_or z v false) (sym e) ∙ down (get_or left v false) p.0), p.1)
  where
    down : (b : Bool) → not b ≡ true → b ≡ false
    down true q = absurd (false≢true q)
    down false q = refl

-- one variable more was tried, and nothing was eliminated
pub none_step : (k k0 : Kernel) (left left0 : List Bool) (v : ℕ) → k ≡ k0 → left ≡ left0 → (not (get_or left v false) && can_go (state_of k) v) ≡ false → get_or left0 v false ≡ false → can_go (state_of k0) v ≡ false
none_step k k0 left left0 v e f h a =
    ap (λ (z : Kernel). can_go (state_of z) v) (sym e)
    ∙ (ap (λ b. not b && can_go (state_of k) v) (sym (ap (λ z. get_or z v false) f ∙ a)) ∙ h)
