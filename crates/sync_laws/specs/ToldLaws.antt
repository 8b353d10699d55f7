-- What was told to a log stays told.
use Rattle.std.proofs.Common.{◌≡◌, ℕ, zero, suc, Some, None, ◌+◌, ◌<◌, ◌≤◌, true, List, [], ◌∷◌, ◌++◌, refl, sym, ap, subst, ◌∙◌, length, get_or, ltb-true, lt-ltb, filter, remove, append-nil, length-append, arith, Bool, nat_lt, drop, take, Option, Contains}
use Rattle.std.proofs.lemmas.Bool.{and_parts}
use Rattle.std.proofs.lemmas.List.Elements.{All-weaker, All-filter, All-append, All-take, All-drop, All-nil}
use Rattle.std.specs.List.{list_all, All}
use Rattle.sat_lits.specs.ListLaws.{all_mono}
use Rattle.sat_lits.specs.declared.literal.Lit.{Lit}
use Rattle.sat_lits.specs.declared.literal.OwnLit.{OwnLit}
use Rattle.sat_lits.specs.declared.shared.Shared.{Shared}
use Rattle.rebuild_stack.specs.declared.entry.Entry.{Entry}
use Rattle.share_store.specs.Log.{HasClause}
use Rattle.state_laws.specs.declared.definition.Definition.{Definition}
use Rattle.state_laws.specs.State.{State, outers_from, no_state, to_own}
use Rattle.sync_laws.specs.Told.{IsOuter, IsToldClause, IsToldEntry, IsTold, in_order}

outers_above : (n : ℕ) (ds : List (Option Definition)) (j : ℕ) → j < length (outers_from n ds) → n ≤ get_or (outers_from n ds) j 0
outers_above n [] j h = absurd (omega arith)
outers_above n (None ∷ ds) zero h = omega arith
outers_above n (None ∷ ds) (suc j) h = let b : suc n ≤ get_or (outers_from (suc n) ds) j 0 = outers_above (suc n) ds j (omega (arith, h)) in omega (arith, b)
outers_above n (Some d ∷ ds) j h = let b : suc n ≤ get_or (outers_from (suc n) ds) j 0 = outers_above (suc n) ds j h in omega (arith, b)

-- an outer variable whose own number is below more definitions is there without these
back : (n : ℕ) (ds more : List (Option Definition)) (j : ℕ) → j < length (outers_from n (ds ++ more)) → get_or (outers_from n (ds ++ more)) j 0 < n + length ds
    → (j < length (outers_from n ds)) × (get_or (outers_from n ds) j 0 ≡ get_or (outers_from n (ds ++ more)) j 0)
back n [] more j h l = let a : n ≤ get_or (outers_from n more) j 0 = outers_above n more j h in absurd (omega (arith, a, l))
back n (None ∷ ds) more zero h l = (omega arith, refl)
back n (None ∷ ds) more (suc j) h l =
    let b : (j < length (outers_from (suc n) ds)) × (get_or (outers_from (suc n) ds) j 0 ≡ get_or (outers_from (suc n) (ds ++ more)) j 0) = back (suc n) ds more j (omega (arith, h)) (omega (arith, l)) in
    let c : j < length (outers_from (suc n) ds) = b.0 in
    (omega (arith, c), b.1)
back n (Some d ∷ ds) more j h l = back (suc n) ds more j h (omega (arith, l))

outer_back : (s t : State) (more : List (Option Definition)) → t.definitions ≡ s.definitions ++ more → (k : Lit) (o : OwnLit) → IsOuter t k o → o.var.0 < length s.definitions → IsOuter s k o
outer_back s t more e k o i h =
    let g : get_or (outers_from 0 (s.definitions ++ more)) k.var.0 0 ≡ o.var.0 = ap (λ (ds : List (Option Definition)). get_or (outers_from 0 ds) k.var.0 0) (sym e) ∙ ap (λ (x : OwnLit). x.var.0) i.own in
    let l : k.var.0 < length (outers_from 0 (s.definitions ++ more)) = subst (λ (ds : List (Option Definition)). k.var.0 < length (outers_from 0 ds)) e i.there in
    let b : (k.var.0 < length (outers_from 0 s.definitions)) × (get_or (outers_from 0 s.definitions) k.var.0 0 ≡ get_or (outers_from 0 (s.definitions ++ more)) k.var.0 0) = back 0 s.definitions more k.var.0 l (omega (arith, g, h)) in
    record { there = b.0; own = ap (λ (n : ℕ). let y : OwnLit = record { var = record { 0 = n }; negative = k.negative } in y) b.1 ∙ (ap (λ (ds : List (Option Definition)). to_own ds k) (sym e) ∙ i.own) }

more_there : (s t : State) (more : List (Option Definition)) → t.definitions ≡ s.definitions ++ more → length s.definitions ≤ length t.definitions
more_there s t more e = let l : length t.definitions ≡ length s.definitions + length more = ap length e ∙ length-append s.definitions more in omega (arith, l)

-- a clause stays told where more variables are made
pub clause_told : (s t : State) (more : List (Option Definition)) → t.definitions ≡ s.definitions ++ more → (log : List Shared) (c : List OwnLit) → IsToldClause s log c → IsToldClause t log c
clause_told s t more e log c h =
    record {
      there = all_mono (λ (l : OwnLit). nat_lt l.var.0 (length s.definitions)) (λ (l : OwnLit). nat_lt l.var.0 (length t.definitions)) (λ l q. let a : l.var.0 < length s.definitions = ltb-true _ _ q in let b : length s.definitions ≤ length t.definitions = more_there s t more e in lt-ltb _ _ (omega (arith, a, b))) c h.there;
      pair = λ k l first second q i j.
          let a : (nat_lt first.var.0 (length s.definitions) ≡ true) × (list_all (λ (x : OwnLit). nat_lt x.var.0 (length s.definitions)) (second ∷ []) ≡ true) = and_parts _ _ (subst (λ (z : List OwnLit). list_all (λ (x : OwnLit). nat_lt x.var.0 (length s.definitions)) z ≡ true) q h.there) in
          let b : (nat_lt second.var.0 (length s.definitions) ≡ true) × (true ≡ true) = and_parts _ _ a.1 in
          h.pair k l first second q (outer_back s t more e k first i (ltb-true _ _ a.0)) (outer_back s t more e l second j (ltb-true _ _ b.0));
    }

-- and so does an entry
pub entry_told : (s t : State) (more : List (Option Definition)) → t.definitions ≡ s.definitions ++ more → (log : List Shared) (x : Entry) → IsToldEntry s log x → IsToldEntry t log x
entry_told s t more e log x h =
    record {
      there = λ own q. let a : own.var.0 < length s.definitions = h.there own q in let b : length s.definitions ≤ length t.definitions = more_there s t more e in omega (arith, a, b);
      fixed = λ l own q i. h.fixed l own q (outer_back s t more e l own i (h.there own q));
    }

-- nothing more is marked
pub told_from : (s t : State) (more : List (Option Definition)) → t.definitions ≡ s.definitions ++ more → (log : List Shared) → (All (IsToldClause s log) s.marked_learned → All (IsToldClause s log) t.marked_learned)
    → (All (IsToldEntry s log) s.marked_stack → All (IsToldEntry s log) t.marked_stack) → IsTold s log → IsTold t log
told_from s t more e log f g h =
    record {
      learned = All-weaker (IsToldClause s log) (IsToldClause t log) (λ c. clause_told s t more e log c) t.marked_learned (f h.learned);
      stack = All-weaker (IsToldEntry s log) (IsToldEntry t log) (λ x. entry_told s t more e log x) t.marked_stack (g h.stack);
    }

-- no variable is made
pub told_fewer : (s t : State) → t.definitions ≡ s.definitions → (log : List Shared) → (All (IsToldClause s log) s.marked_learned → All (IsToldClause s log) t.marked_learned)
    → (All (IsToldEntry s log) s.marked_stack → All (IsToldEntry s log) t.marked_stack) → IsTold s log → IsTold t log
told_fewer s t e log f g h = told_from s t [] (e ∙ sym (append-nil s.definitions)) log f g h

-- marked clauses that pass a test are told
pub told_filter : (s : State) (log : List Shared) (p : List OwnLit → Bool) → All (IsToldClause s log) s.marked_learned → All (IsToldClause s log) (filter p s.marked_learned)
told_filter s log p h = All-filter p (IsToldClause s log) s.marked_learned h

-- marked entries without one are told
pub told_remove : (s : State) (log : List Shared) (at : ℕ) → All (IsToldEntry s log) s.marked_stack → All (IsToldEntry s log) (remove s.marked_stack at)
told_remove s log at h = All-append (IsToldEntry s log) (take at s.marked_stack) (drop (suc at) s.marked_stack) (All-take (IsToldEntry s log) at s.marked_stack h) (All-drop (IsToldEntry s log) (suc at) s.marked_stack h)

-- a clause that was told to a log was told to one that has its clauses
pub clause_grows : (s : State) (log new : List Shared) → ((c : List Lit) → HasClause log c → HasClause new c) → (c : List OwnLit) → IsToldClause s log c → IsToldClause s new c
clause_grows s log new k c a = record { there = a.there; pair = λ x y first second q i j. k (in_order x y) (a.pair x y first second q i j) }

-- and so was an entry
pub entry_grows : (s : State) (log new : List Shared) → ((c : List Lit) → HasClause log c → HasClause new c) → (e : Entry) → IsToldEntry s log e → IsToldEntry s new e
entry_grows s log new k e a = record { there = a.there; fixed = λ l own q i. k (l ∷ []) (a.fixed l own q i) }

-- and all that was told
pub told_grows : (s : State) (log new : List Shared) → ((c : List Lit) → HasClause log c → HasClause new c) → IsTold s log → IsTold s new
told_grows s log new k h =
    record {
      learned = All-weaker (IsToldClause s log) (IsToldClause s new) (clause_grows s log new k) s.marked_learned h.learned;
      stack = All-weaker (IsToldEntry s log) (IsToldEntry s new) (entry_grows s log new k) s.marked_stack h.stack;
    }

-- nothing is marked in a state that took nothing
pub told_none : (log : List Shared) → IsTold no_state log
told_none log = record { learned = All-nil (IsToldClause no_state log); stack = All-nil (IsToldEntry no_state log) }

-- what all of some clauses are, clauses among them are
pub all_among : {X : Type 0} (P : X → Type 0) (xs ys : List X) → All (Contains xs) ys → All P xs → All P ys
all_among P xs ys a h = All-weaker (Contains xs) P (λ x c. subst P c.2 (h c.0 x c.1)) ys a
