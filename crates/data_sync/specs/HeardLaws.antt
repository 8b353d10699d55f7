-- What a state gives, it has heard of.
use Rattle.std.proofs.Common.{◌≡◌, ℕ, zero, suc, ◌+◌, ◌<◌, ◌≤◌, ◌==◌, nat_lt, Bool, true, false, cond, not, ◌&&◌, List, [], ◌∷◌, ◌++◌, Option, Some, None, length, get_or, refl, sym, ap, ◌∙◌, arith}
use Rattle.std.proofs.lemmas.Bool.{and_parts, and_from, or_left, or_right, eq-eqb, eqb-true, false≢true}
use Rattle.std.proofs.lemmas.List.Folds.{list_any-append}
use Rattle.std.proofs.lemmas.Option.{same_Some, none-some, slice_get-get_or, slice_get_within, get_or_from_slice_get}
use Rattle.std.specs.List.{All, slice_get, list_any, list_all}
use Rattle.sat_lits.specs.Truth.{signed}
use Rattle.sat_lits.specs.ListLaws.{all_get, any_get, any_place}
use Rattle.sat_lits.specs.declared.literal.Lit.{Lit}
use Rattle.sat_lits.specs.declared.literal.OwnLit.{OwnLit}
use Rattle.sat_lits.specs.declared.shared.Shared.{Shared}
use Rattle.rebuild_stack.specs.Entries.{named, names, times_named}
use Rattle.rebuild_stack.specs.Roots.{root}
use Rattle.rebuild_stack.specs.PutIn.{same_lit, add_root}
use Rattle.rebuild_stack.specs.RootLaws.{root_unnamed}
use Rattle.rebuild_stack.specs.OrderLaws.{times_any, unnamed}
use Rattle.rebuild_stack.specs.declared.entry.Entry.{Entry}
use Rattle.rebuild_stack.specs.declared.entry.Entry.TheVariants.{Fix}
use Rattle.rebuild_stack.specs.declared.entry.Root.{Root}
use Rattle.rebuild_stack.specs.declared.entry.Root.TheVariants.{Known, Last}
use Rattle.state_laws.specs.State.{State, is_active, to_own}
use Rattle.state_laws.specs.Stands.{Stands}
use Rattle.state_laws.specs.Moves.{own_form}
use Rattle.state_laws.specs.PlaceLaws.{once_named, one_if}
use Rattle.state_laws.specs.RootTableLaws.{entry_of, root_fixed}
use Rattle.sync_laws.specs.Met.{is_covered, is_within}
use Rattle.sync_laws.specs.Steps.{IsOuter, in_order, is_heard, waits}
use Rattle.state_laws.specs.Away.{is_away}
use Rattle.sync_laws.specs.FitLaws.{root_fits, put_in_fits}
use Rattle.sync_laws.specs.MetLaws.{met_heard}
use Rattle.data_sync.specs.Taking.{HasRead}

cond_first : (b : Bool) (x : Entry) (o : Option Entry) → b ≡ true → cond b (Some x) o ≡ Some x
cond_first true x o e = refl
cond_first false x o e = absurd (false≢true e)

any_names : (st : List Entry) (at : ℕ) (e : Entry) → slice_get st at ≡ Some e → list_any (names (named e)) st ≡ true
any_names st at e g = any_get (names (named e)) st at e g (eq-eqb (named e) (named e) refl)

-- the entry of a variable that is named once
entry_of_at : (st : List Entry) (at : ℕ) (e : Entry) → slice_get st at ≡ Some e → times_named (named e) st ≤ 1 → entry_of (named e) st ≡ Some e
entry_of_at [] at e g h = absurd (none-some e g)
entry_of_at (x ∷ st) zero e g h =
    let q : x ≡ e = same_Some x e g in
    cond_first (names (named e) x) x (entry_of (named e) st) (eq-eqb (named e) (named x) (ap named (sym q))) ∙ ap (λ (z : Entry). Some z) q
entry_of_at (x ∷ st) (suc at) e g h = go (names (named e) x) h (entry_of_at st at e g)
  where
    go : (b : Bool) → cond {A = ℕ} b 1 0 + times_named (named e) st ≤ 1 → (times_named (named e) st ≤ 1 → entry_of (named e) st ≡ Some e) → cond b (Some x) (entry_of (named e) st) ≡ Some e
    go true h r = let t : 1 ≤ times_named (named e) st = times_any (named e) st (any_names st at e g) in absurd (omega arith)
    go false h r = r (omega arith)

signed_opposite : (b : Bool) → signed b (not b) ≡ true
signed_opposite true = refl
signed_opposite false = refl

-- a fixed literal satisfies its clause
pub fixed_heard : (s : State) (at : ℕ) (l : Lit) (own : OwnLit) → Stands s → slice_get s.stack at ≡ Some (Fix own) → IsOuter s l own → is_heard s (l ∷ []) ≡ true
fixed_heard s at l own h g o =
    let once : times_named own.var.0 s.stack + cond {A = ℕ} (is_active s own.var.0) 1 0 ≤ 1 = once_named s own.var.0 h.places in
    let r : root s.stack (to_own s.definitions l) ≡ Known true = ap (root s.stack) o.own ∙ (root_fixed s.stack own own (entry_of_at s.stack at (Fix own) g (omega arith)) ∙ ap (λ (b : Bool). Known b) (signed_opposite own.negative)) in
    or_right (list_any (is_away s) (l ∷ [])) (is_covered (s.hard ++ s.learned) (own_form s (l ∷ []))) (ap (λ (z : Root). is_covered (s.hard ++ s.learned) (add_root z (Some []))) r)

-- a learned clause has its own literals
pub binary_heard : (s : State) (at : ℕ) (k l : Lit) (first second : OwnLit) → Stands s → slice_get s.learned at ≡ Some (first ∷ second ∷ []) → IsOuter s k first → IsOuter s l second
    → is_heard s (in_order k l) ≡ true
binary_heard s at k l first second h g o p =
    or_right (list_any (is_away s) (in_order k l)) (is_covered (s.hard ++ s.learned) (own_form s (in_order k l))) (go (own_form s (in_order k l)) refl)
  where
    active : (is_active s first.var.0 ≡ true) × ((is_active s second.var.0 && true) ≡ true)
    active = and_parts _ _ (all_get (list_all (λ (x : OwnLit). is_active s x.var.0)) s.learned at (first ∷ second ∷ []) g h.places.placed.learned)

    left : (x : OwnLit) → is_active s x.var.0 ≡ true → root s.stack x ≡ Last x
    left x a =
        let c : times_named x.var.0 s.stack + cond {A = ℕ} (is_active s x.var.0) 1 0 ≤ 1 = once_named s x.var.0 h.places in
        let d : cond {A = ℕ} (is_active s x.var.0) 1 0 ≡ 1 = one_if (is_active s x.var.0) a in
        root_unnamed s.stack x (unnamed x.var.0 s.stack (omega arith))

    stays : (d : List OwnLit) (x : Lit) (own : OwnLit) → IsOuter s x own → is_active s own.var.0 ≡ true → root_fits (λ j. list_any (same_lit j) d) (root s.stack (to_own s.definitions x)) ≡ true
        → list_any (same_lit own) d ≡ true
    stays d x own i a f = sym (ap (root_fits (λ j. list_any (same_lit j) d)) (ap (root s.stack) i.own ∙ left own a)) ∙ f

    both : (d : List OwnLit) (b : Bool) → list_all (λ x. root_fits (λ j. list_any (same_lit j) d) (root s.stack (to_own s.definitions x))) (cond b (k ∷ l ∷ []) (l ∷ k ∷ [])) ≡ true
        → is_within (first ∷ second ∷ []) d ≡ true
    both d true f =
        let a : (root_fits (λ j. list_any (same_lit j) d) (root s.stack (to_own s.definitions k)) ≡ true) × ((root_fits (λ j. list_any (same_lit j) d) (root s.stack (to_own s.definitions l)) && true) ≡ true) = and_parts _ _ f in
        and_from _ _ (stays d k first o active.0 a.0) (and_from _ _ (stays d l second p (and_parts _ _ active.1).0 (and_parts _ _ a.1).0) refl)
    both d false f =
        let a : (root_fits (λ j. list_any (same_lit j) d) (root s.stack (to_own s.definitions l)) ≡ true) × ((root_fits (λ j. list_any (same_lit j) d) (root s.stack (to_own s.definitions k)) && true) ≡ true) = and_parts _ _ f in
        and_from _ _ (stays d k first o active.0 (and_parts _ _ a.1).0) (and_from _ _ (stays d l second p (and_parts _ _ active.1).0 a.0) refl)

    go : (f : Option (List OwnLit)) → own_form s (in_order k l) ≡ f → is_covered (s.hard ++ s.learned) f ≡ true
    go None e = refl
    go (Some d) e =
        list_any-append (λ c. is_within c d) s.hard s.learned
        ∙ or_right _ _ (any_get (λ c. is_within c d) s.learned at (first ∷ second ∷ []) g (both d (nat_lt k.var.0 l.var.0) (put_in_fits (λ x. root s.stack (to_own s.definitions x)) (in_order k l) d e)))

-- after a walk to the end a state has heard of the whole log
pub read_heard : (s t : State) (log : List Shared) (waiting : List ℕ) → HasRead s t log (length log) waiting → Stands t → t.okay ≡ true → All (λ e. is_heard t e.clause ≡ true) log
read_heard s t log waiting h st o = λ k d w. go k (get_or log k d) (slice_get-get_or log k d w) w (waits waiting k) refl
  where
    away : (k : ℕ) (e : Shared) → slice_get log k ≡ Some e → waits waiting k ≡ true → list_any (is_away t) e.clause ≡ true
    away k e g q =
        let p : (i : ℕ) × (x : ℕ) × (slice_get waiting i ≡ Some x) × ((x == k) ≡ true) = any_place (λ x. x == k) waiting q in
        h.away p.0 k (slice_get_within waiting p.0 p.1 p.2) e (ap (slice_get log) (get_or_from_slice_get waiting p.0 p.1 k p.2 ∙ eqb-true p.1 k p.3) ∙ g)

    go : (k : ℕ) (e : Shared) → slice_get log k ≡ Some e → k < length log → (b : Bool) → waits waiting k ≡ b → is_heard t e.clause ≡ true
    go k e g w true q = or_left _ _ (away k e g q)
    go k e g w false q = met_heard t e.clause st (h.step.met o k e w g q)
