-- What keeps a state in step with a log.
use Rattle.std.proofs.Common.{◌≡◌, ℕ, zero, suc, ◌+◌, ◌<◌, ◌≤◌, ◌==◌, ◌≢◌, Bool, true, false, ◌||◌, List, [], ◌∷◌, ◌++◌, Some, length, refl, sym, ap, subst, ◌∙◌, arith, length-append}
use Rattle.std.proofs.lemmas.Bool.{or_parts, eqb-true, eqb-false}
use Rattle.std.proofs.lemmas.List.{get_or_append_left}
use Rattle.std.proofs.lemmas.List.Folds.{list_any-append}
use Rattle.std.proofs.lemmas.List.Elements.{All-push, All-weaker}
use Rattle.std.proofs.lemmas.Option.{same_Some, slice_get_within, get_or_from_slice_get}
use Rattle.std.specs.List.{All, slice_get}
use Rattle.sat_lits.specs.declared.literal.Lit.{Lit}
use Rattle.sat_lits.specs.declared.shared.Shared.{Shared}
use Rattle.state_laws.specs.State.{State, no_state}
use Rattle.sync_laws.specs.Met.{IsMet, KeepsMet}
use Rattle.sync_laws.specs.Steps.{StandsIn, waits, IsInStep}

-- an element of the front stands in the whole
pub slice_get-front : {X : Type 0} (xs ys : List X) (i : ℕ) (x : X) → i < length xs → slice_get (xs ++ ys) i ≡ Some x → slice_get xs i ≡ Some x
slice_get-front [] ys i x h e = absurd (omega arith)
slice_get-front (z ∷ xs) ys zero x h e = e
slice_get-front (z ∷ xs) ys (suc i) x h e = slice_get-front xs ys i x (omega arith) e

-- an entry stands in a longer log
pub stands_longer : (log more : List Shared) (e : Shared) → StandsIn log e → StandsIn (log ++ more) e
stands_longer log more e (k, x, h, g, q) = (k, x, (let l : length (log ++ more) ≡ length log + length more = length-append log more in omega arith), get_or_append_left log more x k h ∙ g, q)

-- the entry at a place stands in the log
pub stands_at : (log : List Shared) (k : ℕ) (e : Shared) → slice_get log k ≡ Some e → StandsIn log e
stands_at log k e q = (k, e, slice_get_within log k e q, get_or_from_slice_get log k e e q, refl)

-- a state that took nothing is in step with every log
pub first-IsInStep : (log : List Shared) → IsInStep no_state 0 [] log
first-IsInStep log = record { took = λ k d h. absurd (omega arith); within = omega arith; below = λ k d h. absurd (omega arith); met = λ o place e h. absurd (omega arith) }

-- when the log grows
pub longer-IsInStep : (s : State) (cursor : ℕ) (waiting : List ℕ) (log more : List Shared) → IsInStep s cursor waiting log → IsInStep s cursor waiting (log ++ more)
longer-IsInStep s cursor waiting log more h =
    record {
      took = All-weaker (StandsIn log) (StandsIn (log ++ more)) (λ e q. stands_longer log more e q) s.entries h.took;
      within = let l : length (log ++ more) ≡ length log + length more = length-append log more in let w : cursor ≤ length log = h.within in omega arith;
      below = h.below;
      met = λ o place e b q n. let w : cursor ≤ length log = h.within in h.met o place e b (slice_get-front log more place e (omega arith) q) n;
    }

-- when a change of the state keeps what is met
pub kept-IsInStep : (s t : State) (cursor : ℕ) (waiting : List ℕ) (log : List Shared) → KeepsMet s t → IsInStep s cursor waiting log → IsInStep t cursor waiting log
kept-IsInStep s t cursor waiting log k h =
    record {
      took = subst (All (StandsIn log)) (sym k.entries) h.took;
      within = h.within;
      below = h.below;
      met = λ o place x b q n. k.met x.clause (h.met (k.okay o) place x b q n);
    }

-- the entry at the cursor was taken
pub next-IsInStep : (s t : State) (cursor : ℕ) (waiting : List ℕ) (log : List Shared) (e : Shared) → slice_get log cursor ≡ Some e → t.entries ≡ s.entries ++ e ∷ [] → (t.okay ≡ true → s.okay ≡ true) → ((c : List Lit) → IsMet s c → IsMet t c)
    → (t.okay ≡ true → IsMet t e.clause) → IsInStep s cursor waiting log → IsInStep t (cursor + 1) waiting log
next-IsInStep s t cursor waiting log e g es o m own h =
    record {
      took = subst (All (StandsIn log)) (sym es) (All-push (StandsIn log) s.entries e h.took (stands_at log cursor e g));
      within = let w : cursor < length log = slice_get_within log cursor e g in omega arith;
      below = All-weaker (λ p. p < cursor) (λ p. p < cursor + 1) (λ p b. omega arith) waiting h.below;
      met = λ k place x b q n. step k place x (place == cursor) refl b q n;
    }
  where
    earlier : (place : ℕ) → (place == cursor) ≡ false → place < cursor + 1 → place < cursor
    earlier place i b = let d : place ≢ cursor = eqb-false place cursor i in omega (arith, d)

    step : t.okay ≡ true → (place : ℕ) (x : Shared) (b : Bool) → (place == cursor) ≡ b → place < cursor + 1 → slice_get log place ≡ Some x → waits waiting place ≡ false → IsMet t x.clause
    step k place x true i b q n = subst (λ (z : Shared). IsMet t z.clause) (same_Some e x (sym g ∙ (ap (slice_get log) (sym (eqb-true _ _ i)) ∙ q))) (own k)
    step k place x false i b q n = m x.clause (h.met (o k) place x (earlier place i b) q n)

-- the entry at the cursor waits
pub waits-IsInStep : (s : State) (cursor : ℕ) (waiting : List ℕ) (log : List Shared) → cursor < length log → IsInStep s cursor waiting log → IsInStep s (cursor + 1) (waiting ++ cursor ∷ []) log
waits-IsInStep s cursor waiting log w h =
    record {
      took = h.took;
      within = omega arith;
      below = All-push (λ p. p < cursor + 1) waiting cursor (All-weaker (λ p. p < cursor) (λ p. p < cursor + 1) (λ p b. omega arith) waiting h.below) (omega arith);
      met = λ k place x b q n.
          let p : (waits waiting place ≡ false) × ((cursor == place || false) ≡ false) = or_parts _ _ (sym (list_any-append (λ p. p == place) waiting (cursor ∷ [])) ∙ n) in
          let d : cursor ≢ place = eqb-false cursor place (or_parts _ _ p.1).0 in
          h.met k place x (omega (arith, d)) q p.0;
    }

-- an entry that waited was taken
pub retried-IsInStep : (s t : State) (cursor : ℕ) (waiting left : List ℕ) (log : List Shared) (at : ℕ) (e : Shared) → slice_get log at ≡ Some e → t.entries ≡ s.entries ++ e ∷ [] → (t.okay ≡ true → s.okay ≡ true) → ((c : List Lit) → IsMet s c → IsMet t c)
    → (t.okay ≡ true → IsMet t e.clause) → All (λ p. p < cursor) left → ((place : ℕ) → (place == at) ≡ false → waits left place ≡ false → waits waiting place ≡ false) → IsInStep s cursor waiting log → IsInStep t cursor left log
retried-IsInStep s t cursor waiting left log at e g es o m own b l h =
    record {
      took = subst (All (StandsIn log)) (sym es) (All-push (StandsIn log) s.entries e h.took (stands_at log at e g));
      within = h.within;
      below = b;
      met = λ k place x c q n. step k place x (place == at) refl c q n;
    }
  where
    step : t.okay ≡ true → (place : ℕ) (x : Shared) (y : Bool) → (place == at) ≡ y → place < cursor → slice_get log place ≡ Some x → waits left place ≡ false → IsMet t x.clause
    step k place x true i c q n = subst (λ (z : Shared). IsMet t z.clause) (same_Some e x (sym g ∙ (ap (slice_get log) (sym (eqb-true _ _ i)) ∙ q))) (own k)
    step k place x false i c q n = m x.clause (h.met (o k) place x c q (l place i n))
