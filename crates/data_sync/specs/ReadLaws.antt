-- What a walk over a log keeps of which entries were taken.
use Rattle.std.proofs.Common.{◌≡◌, ◌⊎◌, inl, inr, ◌≢◌, ℕ, ◌+◌, ◌<◌, ◌≤◌, ◌==◌, Bool, true, false, ◌||◌, List, [], ◌∷◌, ◌++◌, Some, length, refl, sym, ap, subst, ◌∙◌, ⊎_elim, arith}
use Rattle.std.proofs.lemmas.Bool.{or_parts, eqb-true, eqb-false}
use Rattle.std.proofs.lemmas.List.Folds.{list_any-append}
use Rattle.std.proofs.lemmas.Option.{same_Some, slice_get-get_or, slice_get_within, get_or_from_slice_get}
use Rattle.std.specs.List.{AllPairs, slice_get}
use Rattle.sat_lits.specs.LogLaws.{slice_get-push}
use Rattle.sat_lits.specs.declared.shared.Shared.{Shared}
use Rattle.state_laws.specs.State.{State}
use Rattle.sync_laws.specs.Steps.{StandsIn, waits}
use Rattle.sync_laws.specs.StepLaws.{stands_longer, stands_at}
use Rattle.data_sync.specs.Taking.{IsRead}

-- what stands in a list with one more stands in the list, or is that one
stands_push : (xs : List Shared) (e x : Shared) → StandsIn (xs ++ e ∷ []) x → StandsIn xs x ⊎ (e ≡ x)
stands_push xs e x (k, y, w, g, q) =
    ⊎_elim
    (λ (h : slice_get xs k ≡ Some y). inl (subst (StandsIn xs) q (stands_at xs k y h)))
    (λ (h : (k ≡ length xs) × (e ≡ y)). inr (h.1 ∙ q))
    (slice_get-push xs e k y (slice_get-get_or (xs ++ e ∷ []) k y w ∙ ap (λ (z : Shared). Some z) g))

-- the last of a list stands in it
stands_last : (xs : List Shared) (e : Shared) → StandsIn (xs ++ e ∷ []) e
stands_last xs e = stands_at (xs ++ e ∷ []) (length xs) e (at xs)
  where
    at : (ys : List Shared) → slice_get (ys ++ e ∷ []) (length ys) ≡ Some e
    at [] = refl
    at (y ∷ ys) = at ys

-- an entry at one place of a log does not stand at a later one
apart : (log : List Shared) (i j : ℕ) (e x : Shared) → AllPairs (λ d e. d.clause ≡ e.clause → ⊥) log → i < j → slice_get log i ≡ Some e → slice_get log j ≡ Some x → e ≡ x → ⊥
apart log i j e x once l g h q =
    once i j e l (slice_get_within log j x h)
    (ap (λ (z : Shared). z.clause) (get_or_from_slice_get log i e e g ∙ (q ∙ sym (get_or_from_slice_get log j x e h))))

-- an entry before the cursor, or at it, was taken
ahead_more : (s t : State) (cursor next at : ℕ) (waiting : List ℕ) (log : List Shared) (e : Shared) → AllPairs (λ d e. d.clause ≡ e.clause → ⊥) log → cursor ≤ next → at < next
    → slice_get log at ≡ Some e
    → t.entries ≡ s.entries ++ e ∷ [] → IsRead s cursor waiting log → (place : ℕ) (x : Shared) → next ≤ place → slice_get log place ≡ Some x → StandsIn t.entries x → ⊥
ahead_more s t cursor next at waiting log e once c l g q h place x b f w =
    ⊎_elim
    (λ (y : StandsIn s.entries x). h.ahead place x (omega arith) f y)
    (λ (y : e ≡ x). apart log at place e x once (omega arith) g f y)
    (stands_push s.entries e x (subst (λ (z : List Shared). StandsIn z x) q w))

-- the entry at the cursor was taken
pub next-IsRead : (s t : State) (cursor : ℕ) (waiting : List ℕ) (log : List Shared) (e : Shared) → AllPairs (λ d e. d.clause ≡ e.clause → ⊥) log → slice_get log cursor ≡ Some e
    → t.entries ≡ s.entries ++ e ∷ []
    → IsRead s cursor waiting log → IsRead t (cursor + 1) waiting log
next-IsRead s t cursor waiting log e once g q h =
    record {
      taken = λ place x b f n. go place x (place == cursor) refl b f n;
      ahead = ahead_more s t cursor (cursor + 1) cursor waiting log e once (omega arith) (omega arith) g q h;
    }
  where
    go : (place : ℕ) (x : Shared) (b : Bool) → (place == cursor) ≡ b → place < cursor + 1 → slice_get log place ≡ Some x → waits waiting place ≡ false → StandsIn t.entries x
    go place x true i b f n = subst (λ (z : List Shared). StandsIn z x) (sym q) (subst (StandsIn (s.entries ++ e ∷ [])) (same_Some e x (sym g ∙ (ap (slice_get log) (sym (eqb-true place cursor i)) ∙ f))) (stands_last s.entries e))
    go place x false i b f n = let d : place ≢ cursor = eqb-false place cursor i in subst (λ (z : List Shared). StandsIn z x) (sym q) (stands_longer s.entries (e ∷ []) x (h.taken place x (omega (arith, d)) f n))

-- the entry at the cursor waits
pub waits-IsRead : (s : State) (cursor : ℕ) (waiting : List ℕ) (log : List Shared) → IsRead s cursor waiting log → IsRead s (cursor + 1) (waiting ++ cursor ∷ []) log
waits-IsRead s cursor waiting log h =
    record {
      taken = λ place x b f n.
          let p : (waits waiting place ≡ false) × ((cursor == place || false) ≡ false) = or_parts _ _ (sym (list_any-append (λ p. p == place) waiting (cursor ∷ [])) ∙ n) in
          let d : cursor ≢ place = eqb-false cursor place (or_parts _ _ p.1).0 in
          h.taken place x (omega (arith, d)) f p.0;
      ahead = λ place x b f w. h.ahead place x (omega arith) f w;
    }

-- an entry that waited was taken
pub retried-IsRead : (s t : State) (cursor : ℕ) (waiting left : List ℕ) (log : List Shared) (at : ℕ) (e : Shared) → AllPairs (λ d e. d.clause ≡ e.clause → ⊥) log → at < cursor
    → slice_get log at ≡ Some e
    → t.entries ≡ s.entries ++ e ∷ [] → ((place : ℕ) → (place == at) ≡ false → waits left place ≡ false → waits waiting place ≡ false) → IsRead s cursor waiting log → IsRead t cursor left log
retried-IsRead s t cursor waiting left log at e once l g q w h =
    record {
      taken = λ place x b f n. go place x (place == at) refl b f n;
      ahead = ahead_more s t cursor cursor at waiting log e once (omega arith) l g q h;
    }
  where
    go : (place : ℕ) (x : Shared) (b : Bool) → (place == at) ≡ b → place < cursor → slice_get log place ≡ Some x → waits left place ≡ false → StandsIn t.entries x
    go place x true i b f n = subst (λ (z : List Shared). StandsIn z x) (sym q) (subst (StandsIn (s.entries ++ e ∷ [])) (same_Some e x (sym g ∙ (ap (slice_get log) (sym (eqb-true place at i)) ∙ f))) (stands_last s.entries e))
    go place x false i b f n = subst (λ (z : List Shared). StandsIn z x) (sym q) (stands_longer s.entries (e ∷ []) x (h.taken place x b f (w place i n)))
