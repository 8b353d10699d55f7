-- What an import does, as the walks over a log see it.
use Rattle.std.proofs.Common.{◌≡◌, ℕ, ◌+◌, ◌<◌, ◌≤◌, ◌==◌, Bool, true, false, cond, not, List, [], ◌∷◌, ◌++◌, Option, Some, None, find, length, drop, set, get_or, get_or-set_other, ◌-◌, ◌≢◌, refl, sym, ap, subst, ◌∙◌, arith, append_assoc, append-nil, count_by}
use Rattle.std.proofs.lemmas.Bool.{or_parts, or_from, eqb-true, eqb-false, false≢true, true≢false}
use Rattle.std.proofs.lemmas.List.Sums.{sum_by-append, sum_by-swap_remove}
use Rattle.std.proofs.lemmas.List.Elements.{All-push, All-nil, All-weaker, All-take, All-set}
use Rattle.std.proofs.lemmas.List.{get_or-take}
use Rattle.std.proofs.lemmas.Option.{same_Some, slice_get_within}
use Rattle.std.specs.List.{swap_remove, All, list_any, slice_get}
use Rattle.sat_lits.specs.ListLaws.{any_mono}
use Rattle.sat_lits.specs.Formulas.{names_known}
use Rattle.sat_lits.specs.declared.literal.Lit.{Lit}
use Rattle.sat_lits.specs.declared.literal.OwnLit.{OwnLit}
use Rattle.sat_lits.specs.declared.formula.Item.TheVariants.{Clause}
use Rattle.sat_lits.specs.declared.shared.Shared.{Shared}
use Rattle.rebuild_stack.specs.Roots.{root, is_lost}
use Rattle.rebuild_stack.specs.declared.entry.Entry.{Entry}
use Rattle.rebuild_stack.specs.declared.entry.Entry.TheVariants.{Fix}
use Rattle.rebuild_stack.specs.declared.entry.Root.{Root}
use Rattle.rebuild_stack.specs.declared.entry.Root.TheVariants.{Known, Last, Lost}
use Rattle.state_laws.specs.State.{State, outer_count, to_own}
use Rattle.state_laws.specs.Conditions.{Takable}
use Rattle.state_laws.specs.Moves.{own_form, imported}
use Rattle.private_state.specs.declared.import.Import.{Import}
use Rattle.private_state.specs.declared.import.Import.TheVariants.{Taken, Trivial, Waits}
use Rattle.private_state.specs.ImportLaws.{none_found, one_found}
use Rattle.private_state.specs.Importing.{settled, answer_of, taken_unless, import_answer, after_import}
use Rattle.sync_laws.specs.Steps.{StandsIn, waits, IsInStep}
use Rattle.state_laws.specs.Away.{is_away}
use Rattle.sync_laws.specs.CoverLaws.{on_root}
use Rattle.sync_laws.specs.CoversLaws.{root-append}
use Rattle.sync_laws.specs.MetLaws.{imported-IsMet, imported-own-IsMet, put_into-IsMet, refuted-IsMet}
use Rattle.sync_laws.specs.Told.{IsTold}
use Rattle.sync_laws.specs.ToldLaws.{told_fewer}
use Rattle.sync_laws.specs.KeepLaws.{put_into-KeepsMet, refuted-KeepsMet}
use Rattle.sync_laws.specs.StepLaws.{next-IsInStep, waits-IsInStep, retried-IsInStep, stands_at}
use Rattle.data_sync.specs.Taking.{AreKnown, Takes, Attempt, Reads, others, AreAway, HasRead, HasTried}

still_lost : (r : OwnLit → Root) (x : Root) → is_lost x ≡ true → is_lost (on_root r x) ≡ true
still_lost r (Known b) e = absurd (false≢true e)
still_lost r (Last k) e = absurd (false≢true e)
still_lost r (Lost v) e = refl

-- a literal that is away stays so when an entry is pushed
away_push : (s : List Entry) (e : Entry) (l : OwnLit) → is_lost (root s l) ≡ true → is_lost (root (s ++ e ∷ []) l) ≡ true
away_push s e l h = ap is_lost (root-append s (e ∷ []) l) ∙ still_lost (root (e ∷ [])) (root s l) h

-- an entry that can be taken is taken, whatever its clause became
pub takes : (s : State) (e : Shared) → Takable s e.clause → Takes s (settled (own_form s e.clause) (imported e s)) e
takes s e t = go (own_form s e.clause)
  where
    told : (log : List Shared) → IsTold s log → IsTold (imported e s) log
    told log = told_fewer s (imported e s) refl log (λ a. a) (λ a. a)

    go : (o : Option (List OwnLit)) → Takes s (settled o (imported e s)) e
    go None = record { entries = refl; items = refl; definitions = refl; okay = λ k. k; keeps = λ c m. imported-IsMet e s c m; own = imported-own-IsMet e s t; away = λ l a. a; told = told }
    go (Some []) = record { entries = refl; items = refl; definitions = refl; okay = λ k. absurd (false≢true k); keeps = λ c m. refuted-IsMet (imported e s) c (imported-IsMet e s c m); own = refuted-IsMet (imported e s) e.clause (imported-own-IsMet e s t); away = λ l a. a; told = λ log h. (refuted-KeepsMet (imported e s)).told log (told log h) }
    go (Some (k ∷ [])) =
        record {
          entries = refl;
          items = refl;
          definitions = refl;
          okay = λ x. x;
          keeps = λ c m. put_into-IsMet (Fix k) (imported e s) c refl (imported-IsMet e s c m);
          own = put_into-IsMet (Fix k) (imported e s) e.clause refl (imported-own-IsMet e s t);
          away = λ l a. away_push s.stack (Fix k) (to_own s.definitions l) a;
          told = λ log h. (put_into-KeepsMet (Fix k) (imported e s) refl).told log (told log h);
        }
    go (Some (k ∷ l ∷ c)) = record { entries = refl; items = refl; definitions = refl; okay = λ x. x; keeps = λ d m. imported-IsMet e s d m; own = imported-own-IsMet e s t; away = λ m a. a; told = told }

-- whether an answer says that the entry waits
abbrev pub is_waits : Import → Bool
is_waits (Waits v) = true
is_waits Taken = false
is_waits Trivial = false

-- an import that was answered by Waits is an attempt that waits
pub waited : (s t : State) (e : Shared) (solver : ℕ) (a : Import) → a ≡ import_answer s e.clause → t ≡ after_import e s → is_waits a ≡ true → Attempt s t e solver None
waited s t e solver a q r w = go (find (is_away s) e.clause) refl
  where
    none : (f : Option (List OwnLit)) → is_waits (answer_of None f) ≡ true → ⊥
    none None h = false≢true h
    none (Some c) h = false≢true h

    go : (o : Option Lit) → find (is_away s) e.clause ≡ o → (t ≡ s) × (list_any (is_away s) e.clause ≡ true)
    go (Some l) f = (r ∙ ap (λ (z : Option Lit). taken_unless z e s) f, one_found (is_away s) e.clause l f)
    go None f = absurd (none (own_form s e.clause) (sym (ap is_waits (q ∙ ap (λ (z : Option Lit). answer_of z (own_form s e.clause)) f)) ∙ w))

-- one that was answered by another is one that took the entry
pub took : (s t : State) (e : Shared) (solver : ℕ) (a : Import) → names_known (outer_count s.definitions) (Clause e.clause) ≡ true → a ≡ import_answer s e.clause → t ≡ after_import e s
    → is_waits a ≡ false
    → (n : ℕ) → n ≡ cond {A = ℕ} (e.solver == solver) 0 1 → Attempt s t e solver (Some n)
took s t e solver a k q r w n m = go (find (is_away s) e.clause) refl
  where
    go : (o : Option Lit) → find (is_away s) e.clause ≡ o → Takes s t e × (n ≡ cond {A = ℕ} (e.solver == solver) 0 1)
    go (Some l) f = absurd (true≢false (sym (ap is_waits (q ∙ ap (λ (z : Option Lit). answer_of z (own_form s e.clause)) f)) ∙ w))
    go None f =
        (subst (λ (z : State). Takes s z e) (sym (r ∙ ap (λ (z : Option Lit). taken_unless z e s) f)) (takes s e (record { there = k; roots = none_found (is_away s) e.clause f })), m)

-- a walk that did not begin
pub read_none : (s : State) (log : List Shared) → Reads s s log
read_none s log = record { taken = []; took = sym (append-nil s.entries); stand = All-nil (StandsIn log); items = refl; definitions = refl; told = λ l h. h }

reads_more : (s t u : State) (log : List Shared) (e : Shared) → StandsIn log e → Reads s t log → Takes t u e → Reads s u log
reads_more s t u log e i r x =
    record {
      taken = r.taken ++ e ∷ [];
      took = x.entries ∙ (ap (λ (z : List Shared). z ++ e ∷ []) r.took ∙ append_assoc s.entries r.taken (e ∷ []));
      stand = All-push (StandsIn log) r.taken e r.stand i;
      items = x.items ∙ r.items;
      definitions = x.definitions ∙ r.definitions;
      told = λ l h. x.told l (r.told l h);
    }

known_more : (t u : State) (log : List Shared) (e : Shared) → Takes t u e → AreKnown t log → AreKnown u log
known_more t u log e x k = subst (λ (ds : _). All (λ (z : Shared). names_known (outer_count ds) (Clause z.clause) ≡ true) log) (sym x.definitions) k

away_more : (t u : State) (log : List Shared) (waiting : List ℕ) (e : Shared) → Takes t u e → AreAway t log waiting → AreAway u log waiting
away_more t u log waiting e x a =
    All-weaker (λ p. (z : Shared) → slice_get log p ≡ Some z → list_any (is_away t) z.clause ≡ true) (λ p. (z : Shared) → slice_get log p ≡ Some z → list_any (is_away u) z.clause ≡ true)
    (λ p h z g. any_mono (is_away t) (is_away u) x.away z.clause (h z g)) waiting a

-- the entry at the cursor was taken
pub read_takes : (s t u : State) (log : List Shared) (cursor : ℕ) (waiting : List ℕ) (e : Shared) → slice_get log cursor ≡ Some e → HasRead s t log cursor waiting → Takes t u e
    → HasRead s u log (cursor + 1) waiting
read_takes s t u log cursor waiting e g h x =
    record {
      known = known_more t u log e x h.known;
      reads = reads_more s t u log e (stands_at log cursor e g) h.reads x;
      step = next-IsInStep t u cursor waiting log e g x.entries x.okay x.keeps (λ o. x.own) h.step;
      away = away_more t u log waiting e x h.away;
    }

-- the entry at the cursor waits
pub read_waits : (s t u : State) (log : List Shared) (cursor : ℕ) (waiting : List ℕ) (e : Shared) → slice_get log cursor ≡ Some e → HasRead s t log cursor waiting → u ≡ t
    → list_any (is_away t) e.clause ≡ true
    → HasRead s u log (cursor + 1) (waiting ++ cursor ∷ [])
read_waits s t u log cursor waiting e g h q a =
    subst (λ (z : State). HasRead s z log (cursor + 1) (waiting ++ cursor ∷ [])) (sym q)
    (record {
      known = h.known;
      reads = h.reads;
      step = waits-IsInStep t cursor waiting log (slice_get_within log cursor e g) h.step;
      away = All-push (λ p. (z : Shared) → slice_get log p ≡ Some z → list_any (is_away t) z.clause ≡ true) waiting cursor h.away (λ z f. subst (λ (y : Shared). list_any (is_away t) y.clause ≡ true) (same_Some e z (sym g ∙ f)) a);
    })

-- a state that is seen as before
pub read_same : (s t u : State) (log : List Shared) (cursor : ℕ) (waiting : List ℕ) → u ≡ t → HasRead s t log cursor waiting → HasRead s u log cursor waiting
read_same s t u log cursor waiting q h = subst (λ (z : State). HasRead s z log cursor waiting) (sym q) h

drop_front : {X : Type 0} (xs ys : List X) → drop (length xs) (xs ++ ys) ≡ ys
drop_front [] ys = refl
drop_front (x ∷ xs) ys = drop_front xs ys

-- what the count of the entries taken is
pub others_taken : (solver : ℕ) (s t : State) (taken : List Shared) → t.entries ≡ s.entries ++ taken → others solver s t ≡ count_by (λ (e : Shared). not (e.solver == solver)) taken
others_taken solver s t taken e = ap (count_by (λ (x : Shared). not (x.solver == solver))) (ap (drop (length s.entries)) e ∙ drop_front s.entries taken)

-- a count of two lists
pub count_more : {X : Type 0} (p : X → Bool) (xs ys : List X) → count_by p (xs ++ ys) ≡ count_by p xs + count_by p ys
count_more p xs ys = sum_by-append (λ x. cond (p x) 1 0) xs ys

-- what an entry that was taken adds to the count
pub others_more : (solver : ℕ) (s t u : State) (log : List Shared) (e : Shared) (n : ℕ) → Reads s t log → Takes t u e → n ≡ cond {A = ℕ} (e.solver == solver) 0 1
    → others solver s u ≡ others solver s t + n
others_more solver s t u log e n r x q =
    let a : others solver s t ≡ count_by (λ (z : Shared). not (z.solver == solver)) r.taken = others_taken solver s t r.taken r.took in
    let b : others solver s u ≡ count_by (λ (z : Shared). not (z.solver == solver)) (r.taken ++ e ∷ []) = others_taken solver s u (r.taken ++ e ∷ []) (x.entries ∙ (ap (λ (z : List Shared). z ++ e ∷ []) r.took ∙ append_assoc s.entries r.taken (e ∷ []))) in
    let c : count_by (λ (z : Shared). not (z.solver == solver)) (r.taken ++ e ∷ []) ≡ count_by (λ (z : Shared). not (z.solver == solver)) r.taken + count_by (λ (z : Shared). not (z.solver == solver)) (e ∷ []) = count_more (λ (z : Shared). not (z.solver == solver)) r.taken (e ∷ []) in
    let d : count_by (λ (z : Shared). not (z.solver == solver)) (e ∷ []) ≡ n = one (e.solver == solver) ∙ sym q in
    omega (arith, a, b, c, d)
  where
    one : (b : Bool) → count_by (λ (z : Bool). not z) (b ∷ []) ≡ cond {A = ℕ} b 0 1
    one true = refl
    one false = refl

-- no entries were taken
pub others_none : (solver : ℕ) (s : State) → others solver s s ≡ 0
others_none solver s = ap (count_by (λ (x : Shared). not (x.solver == solver))) (ap (drop (length s.entries)) (sym (append-nil s.entries)) ∙ drop_front s.entries [])

-- an attempt counts one at most
pub attempt_one : (n : ℕ) (b : Bool) → n ≡ cond {A = ℕ} b 0 1 → n ≤ 1
attempt_one n true e = omega (arith, e)
attempt_one n false e = omega (arith, e)

-- a walk over the entries that wait begins
pub tried_none : (s : State) (log : List Shared) (cursor : ℕ) (waiting : List ℕ) → AreKnown s log → IsInStep s cursor waiting log → HasTried s s log cursor waiting 0
tried_none s log cursor waiting k h = record { known = k; reads = read_none s log; step = h; away = λ j d b. absurd (omega arith) }

-- and ends
pub tried_all : (s t : State) (log : List Shared) (cursor : ℕ) (waiting : List ℕ) (at : ℕ) → length waiting ≤ at → HasTried s t log cursor waiting at → HasRead s t log cursor waiting
tried_all s t log cursor waiting at l h = record { known = h.known; reads = h.reads; step = h.step; away = λ k d b. h.away k d (omega arith) }

-- the entry still waits
pub tried_waits : (s t u : State) (log : List Shared) (cursor : ℕ) (waiting : List ℕ) (at place : ℕ) (e : Shared) → ((d : ℕ) → get_or waiting at d ≡ place) → slice_get log place ≡ Some e
    → HasTried s t log cursor waiting at → u ≡ t
    → list_any (is_away t) e.clause ≡ true → HasTried s u log cursor waiting (at + 1)
tried_waits s t u log cursor waiting at place e p g h q a =
    subst (λ (z : State). HasTried s z log cursor waiting (at + 1)) (sym q)
    (record { known = h.known; reads = h.reads; step = h.step; away = λ k d b. one k d (k == at) refl b })
  where
    here : (z : Shared) → slice_get log place ≡ Some z → list_any (is_away t) z.clause ≡ true
    here z f = subst (λ (y : Shared). list_any (is_away t) y.clause ≡ true) (same_Some e z (sym g ∙ f)) a

    one : (k d : ℕ) (b : Bool) → (k == at) ≡ b → k < at + 1 → (z : Shared) → slice_get log (get_or waiting k d) ≡ Some z → list_any (is_away t) z.clause ≡ true
    one k d true f b z i = here z (ap (slice_get log) (sym (ap (λ j. get_or waiting j d) (eqb-true k at f) ∙ p d)) ∙ i)
    one k d false f b z i = let n : k ≢ at = eqb-false k at f in h.away k d (omega (arith, n)) z i

any_sum : (p : ℕ → Bool) (xs : List ℕ) → list_any p xs ≡ false → count_by p xs ≡ 0
any_sum p [] e = refl
any_sum p (x ∷ xs) e =
    let a : (p x ≡ false) × (list_any p xs ≡ false) = or_parts _ _ e in
    let b : count_by p xs ≡ 0 = any_sum p xs a.1 in
    let c : count_by p (x ∷ []) ≡ 0 = ap (λ b. 0 + cond {A = ℕ} b 1 0) a.0 in
    let d : count_by p (x ∷ xs) ≡ count_by p (x ∷ []) + count_by p xs = count_more p (x ∷ []) xs in
    omega (arith, b, c, d)

sum_any : (p : ℕ → Bool) (xs : List ℕ) → count_by p xs ≡ 0 → list_any p xs ≡ false
sum_any p [] e = refl
sum_any p (x ∷ xs) e =
    let d : count_by p (x ∷ xs) ≡ count_by p (x ∷ []) + count_by p xs = count_more p (x ∷ []) xs in
    let c : count_by p (x ∷ []) ≡ 0 = omega (arith, d, e) in
    let b : count_by p xs ≡ 0 = omega (arith, d, e) in
    or_from _ _ (go (p x) c) (sum_any p xs b)
  where
    go : (b : Bool) → 0 + cond {A = ℕ} b 1 0 ≡ 0 → b ≡ false
    go true f = absurd (omega (arith, f))
    go false f = refl

-- a place that does not wait when another is taken out did not wait before
pub left_waits : (waiting : List ℕ) (at place other d : ℕ) → at < length waiting → get_or waiting at d ≡ place → (other == place) ≡ false → waits (swap_remove waiting at d) other ≡ false
    → waits waiting other ≡ false
left_waits waiting at place other d l g n w =
    let a : count_by (λ p. p == other) (swap_remove waiting at d) ≡ 0 = any_sum (λ p. p == other) (swap_remove waiting at d) w in
    let b : count_by (λ p. p == other) (swap_remove waiting at d) + cond {A = ℕ} (get_or waiting at d == other) 1 0 ≡ count_by (λ p. p == other) waiting = sum_by-swap_remove (λ p. cond {A = ℕ} (p == other) 1 0) waiting at d l in
    let c : cond {A = ℕ} (get_or waiting at d == other) 1 0 ≡ 0 = cond_zero (get_or waiting at d) other (λ q. eqb-false other place n (sym q ∙ g)) in
    sum_any (λ p. p == other) waiting (omega (arith, a, b, c))
  where
    cond_zero : (x y : ℕ) → (x ≡ y → ⊥) → cond {A = ℕ} (x == y) 1 0 ≡ 0
    cond_zero x y h = go (x == y) refl
      where
        go : (b : Bool) → (x == y) ≡ b → cond {A = ℕ} b 1 0 ≡ 0
        go true e = absurd (h (eqb-true x y e))
        go false e = refl

-- the entry was taken, and its place goes
pub tried_takes : (s t u : State) (log : List Shared) (cursor : ℕ) (waiting left : List ℕ) (at place d : ℕ) (e : Shared) → at < length waiting → get_or waiting at d ≡ place
    → left ≡ swap_remove waiting at d → slice_get log place ≡ Some e
    → HasTried s t log cursor waiting at → Takes t u e → HasTried s u log cursor left at
tried_takes s t u log cursor waiting left at place d e l g q i h x =
    record {
      known = known_more t u log e x h.known;
      reads = reads_more s t u log e (stands_at log place e i) h.reads x;
      step = retried-IsInStep t u cursor waiting left log place e i x.entries x.okay x.keeps (λ o. x.own)
          (subst (All (λ p. p < cursor)) (sym q) (All-take (λ p. p < cursor) (length waiting - 1) (set waiting at (get_or waiting (length waiting - 1) d)) (All-set (λ p. p < cursor) waiting at (get_or waiting (length waiting - 1) d) (h.step.below (length waiting - 1) d (omega arith)) h.step.below)))
          (λ other n w. left_waits waiting at place other d l g n (ap (λ (z : List ℕ). waits z other) (sym q) ∙ w)) h.step;
      away = λ k b j z f. any_mono (is_away t) (is_away u) x.away z.clause (h.away k b j z (ap (slice_get log) (sym (same k b j)) ∙ f));
    }
  where
    same : (k b : ℕ) → k < at → get_or left k b ≡ get_or waiting k b
    same k b j =
        ap (λ (z : List ℕ). get_or z k b) q
        ∙ (get_or-take (length waiting - 1) (set waiting at (get_or waiting (length waiting - 1) d)) k b (omega arith)
        ∙ get_or-set_other waiting at k (get_or waiting (length waiting - 1) d) b (λ f. absurd (omega (arith, f))))
