-- What a parity of the caller means in own variables.
use Rattle.std.proofs.Common.{◌≡◌, ℕ, ◌+◌, ◌<◌, ◌≤◌, ◌==◌, ◌%◌, Bool, true, false, not, cond, nat_lt, ◌&&◌, List, [], ◌∷◌, ◌++◌, Option, Some, None, length, map, filter_map, take, get_or, refl, sym, ap, ap₂, ◌∙◌, arith, ltb-true, eqb-true, eq-eqb, ne_eqb, option_to_list}
use Rattle.std.proofs.lemmas.Bool.{and_parts, and_from, not-true, eqb-false}
use Rattle.std.proofs.lemmas.List.{length-map, map-append}
use Rattle.std.proofs.lemmas.List.Sums.{sum_by-cons, fold-append}
use Rattle.std.proofs.lemmas.List.Elements.{filter_map-append}
use Rattle.std.proofs.lemmas.List.Folds.{list_all-map}
use Rattle.std.specs.Bool.{beq}
use Rattle.std.specs.List.{list_all, count_by, slice_index_or, cons_option}
use Rattle.sat_lits.specs.Truth.{signed}
use Rattle.sat_lits.specs.ClauseLaws.{signed_comm}
use Rattle.sat_lits.specs.Meaning.{satisfies}
use Rattle.sat_lits.specs.Conflicts.{odd_vars, odd_of, cuts, cuts_of_count}
use Rattle.sat_lits.specs.ParityLaws.{odd_of-odd_vars}
use Rattle.sat_lits.specs.declared.literal.Var.{Var}
use Rattle.sat_lits.specs.ListLaws.{both_all}
use Rattle.sat_lits.specs.declared.literal.Lit.{Lit}
use Rattle.sat_lits.specs.declared.formula.Item.TheVariants.{Parity}
use Rattle.rebuild_stack.specs.Entries.{rebuild, entry_value}
use Rattle.rebuild_stack.specs.Roots.{is_lost, root_value}
use Rattle.rebuild_stack.specs.RootLaws.{rebuild_root, holds_root}
use Rattle.rebuild_stack.specs.declared.entry.Root.{Root}
use Rattle.rebuild_stack.specs.declared.entry.Root.TheVariants.{Known, Last, Lost}
use Rattle.xor_cut.specs.Pieces.{is_parity, own_var}
use Rattle.state_laws.specs.State.{State, outer_part, outer_count, to_own}
use Rattle.state_laws.specs.TakeLaws.{outer_own}
use Rattle.parity_forms.specs.Parities.{odd_numbers, var_root, left_number, turns, parity_roots, left_vars, left_rhs, ParityTakable}
use Rattle.parity_forms.specs.OddLaws.{number_or_of, odd_or, odd_all, odd_of_vars, few_odd}
use Rattle.removed_vars.specs.CollectLaws.{taken_at}

-- the odd variables pass what all pass
pub odd_there : (p : ℕ → Bool) (vars : List Var) → list_all (λ v. p v.0) vars ≡ true → list_all p (odd_vars vars) ≡ true
odd_there p vars e = ap (list_all p) (sym (odd_of_vars vars)) ∙ odd_all p (map (λ (v : Var). v.0) vars) (list_all-map p (λ (v : Var). v.0) vars ∙ e)

-- the exclusive or of what variables came to
abbrev root_or : (ℕ → Bool) → List Root → Bool
root_or w [] = false
root_or w (r ∷ rs) = signed (root_value w r) (root_or w rs)

-- a turned side turns the other one
moved : (x e r : Bool) → beq (signed x e) r ≡ beq e (signed x r)
moved true true true = refl
moved true true false = refl
moved true false true = refl
moved true false false = refl
moved false e r = refl

-- a variable that is left stays, with its sign on the other side
kept_left : (w : ℕ → Bool) (n : ℕ) (negative e r : Bool) → beq (signed (signed negative (w n)) e) r ≡ beq (signed (w n) e) (signed negative r)
kept_left w n true e r = go (w n) e r
  where
    go : (x e r : Bool) → beq (signed (not x) e) r ≡ beq (signed x e) (not r)
    go true true true = refl
    go true true false = refl
    go true false true = refl
    go true false false = refl
    go false true true = refl
    go false true false = refl
    go false false true = refl
    go false false false = refl
kept_left w n false e r = refl

-- a value on both sides
beq_signed : (x a b : Bool) → beq (signed x a) (signed x b) ≡ beq a b
beq_signed true true true = refl
beq_signed true true false = refl
beq_signed true false true = refl
beq_signed true false false = refl
beq_signed false a b = refl

-- the parity of what variables came to is that of what is left of them, with what turns the right side
root_or_left : (w : ℕ → Bool) (roots : List Root) (rhs : Bool) → beq (root_or w roots) rhs ≡ beq (number_or_of w (filter_map left_number roots)) (left_rhs roots rhs)
root_or_left w [] rhs = refl
root_or_left w (Known x ∷ rs) rhs = moved x (root_or w rs) rhs ∙ root_or_left w rs (signed x rhs)
root_or_left w (Lost v ∷ rs) rhs = root_or_left w rs rhs
root_or_left w (Last l ∷ rs) rhs =
    kept_left w l.var.0 l.negative (root_or w rs) rhs
    ∙ (moved (w l.var.0) (root_or w rs) (signed l.negative rhs)
    ∙ (root_or_left w rs (signed (w l.var.0) (signed l.negative rhs))
    ∙ (ap (beq (number_or_of w (filter_map left_number rs))) (rhs_moved (w l.var.0) rs (signed l.negative rhs)) ∙ sym (moved (w l.var.0) (number_or_of w (filter_map left_number rs)) (left_rhs rs (signed l.negative rhs))))))
  where
    rhs_moved : (x : Bool) (rs : List Root) (b : Bool) → left_rhs rs (signed x b) ≡ signed x (left_rhs rs b)
    rhs_moved x [] b = refl
    rhs_moved x (r ∷ rs) b = ap (left_rhs rs) (signed_comm (turns r) x b) ∙ rhs_moved x rs (signed (turns r) b)

-- one number more whose value is true turns the parity
odd_of_more : (values : List Bool) (n : ℕ) (ns : List ℕ) → odd_of values (n ∷ ns) ≡ signed (slice_index_or values n false) (odd_of values ns)
odd_of_more values n ns = ap (λ k. k % 2 == 1) (sum_by-cons (λ m. cond {A = ℕ} (slice_index_or values m false) 1 0) n ns) ∙ step (slice_index_or values n false) (count_by (λ m. slice_index_or values m false) ns)
  where
    one_more : (k : ℕ) → ((1 + k) % 2 == 1) ≡ not (k % 2 == 1)
    one_more k = go (k % 2 == 1) refl
      where
        go : (b : Bool) → (k % 2 == 1) ≡ b → ((1 + k) % 2 == 1) ≡ not b
        go true e = let odd : k % 2 ≡ 1 = eqb-true (k % 2) 1 e in ne_eqb ((1 + k) % 2) 1 (λ h. omega (arith, odd, h))
        go false e = let even : k % 2 ≡ 1 → ⊥ = eqb-false (k % 2) 1 e in eq-eqb ((1 + k) % 2) 1 (omega (arith, even))

    step : (b : Bool) (k : ℕ) → ((cond {A = ℕ} b 1 0 + k) % 2 == 1) ≡ signed b (k % 2 == 1)
    step true k = one_more k
    step false k = ap (λ j. j % 2 == 1) (omega arith)

-- the parity of numbers of outer variables whose values are those of what they came to
or_of_values : (values : List Bool) (w : ℕ → Bool) (s : State) (ns : List ℕ) (p : ℕ → Bool) → ((n : ℕ) → p n ≡ true → slice_index_or values n false ≡ root_value w (var_root s n)) → list_all p ns ≡ true → odd_of values ns ≡ root_or w (map (var_root s) ns)
or_of_values values w s [] p h e = refl
or_of_values values w s (n ∷ ns) p h e =
    let q : (p n ≡ true) × (list_all p ns ≡ true) = and_parts _ _ e in
    odd_of_more values n ns ∙ ap₂ signed (h n q.0) (or_of_values values w s ns p h q.1)

-- where outer values are those of what the variables came to, a parity is satisfied exactly where what is left of it is
parity_same : (values : List Bool) (w : ℕ → Bool) (s : State) (vars : List Var) (rhs : Bool) (p : ℕ → Bool) → ((n : ℕ) → p n ≡ true → slice_index_or values n false ≡ root_value w (var_root s n)) → list_all (λ v. p v.0) vars ≡ true
    → satisfies values (Parity vars rhs) ≡ is_parity w (left_vars (parity_roots s vars)) (left_rhs (parity_roots s vars) rhs)
parity_same values w s vars rhs p h e =
    ap (λ b. beq b rhs) (sym (odd_of-odd_vars values vars) ∙ or_of_values values w s (odd_vars vars) p h (odd_there p vars e))
    ∙ (root_or_left w (parity_roots s vars) rhs ∙ ap (λ b. beq b (left_rhs (parity_roots s vars) rhs)) (sym (odd_or w (filter_map left_number (parity_roots s vars)))))

-- a positive literal
abbrev positive : ℕ → Lit
positive n = record { var = record { 0 = n }; negative = false }

-- the variable is there, and does not come to an eliminated one
abbrev is_fit : State → ℕ → Bool
is_fit s n = nat_lt n (outer_count s.definitions) && not (is_lost (var_root s n))

all_fit : (s : State) (vars : List Var) (rhs : Bool) → ParityTakable s vars rhs → list_all (λ (v : Var). is_fit s v.0) vars ≡ true
all_fit s vars rhs t =
    both_all (λ (v : Var). nat_lt v.0 (outer_count s.definitions)) (λ (v : Var). not (is_lost (var_root s v.0))) (λ (v : Var). is_fit s v.0) (λ v a b. and_from _ _ a b) vars
    (sym (list_all-map (λ n. nat_lt n (outer_count s.definitions)) (λ (v : Var). v.0) vars) ∙ t.there) t.roots

-- in values that the stack holds of, the parity is satisfied exactly where what is left of it is
pub parity_holds : (s : State) (w : ℕ → Bool) (vars : List Var) (rhs : Bool) → ParityTakable s vars rhs → list_all (entry_value w) s.stack ≡ true
    → satisfies (outer_part s.definitions w) (Parity vars rhs) ≡ is_parity w (left_vars (parity_roots s vars)) (left_rhs (parity_roots s vars) rhs)
parity_holds s w vars rhs t h = parity_same (outer_part s.definitions w) w s vars rhs (is_fit s) each (all_fit s vars rhs t)
  where
    each : (n : ℕ) → is_fit s n ≡ true → slice_index_or (outer_part s.definitions w) n false ≡ root_value w (var_root s n)
    each n e =
        let q : (nat_lt n (outer_count s.definitions) ≡ true) × (not (is_lost (var_root s n)) ≡ true) = and_parts _ _ e in
        outer_own s.definitions w (positive n) (ltb-true _ _ q.0) ∙ holds_root s.stack (to_own s.definitions (positive n)) w h (not-true _ q.1)

-- in rebuilt values too
pub parity_rebuilt : (s : State) (w : ℕ → Bool) (vars : List Var) (rhs : Bool) → ParityTakable s vars rhs
    → satisfies (outer_part s.definitions (rebuild s.stack w)) (Parity vars rhs) ≡ is_parity w (left_vars (parity_roots s vars)) (left_rhs (parity_roots s vars) rhs)
parity_rebuilt s w vars rhs t = parity_same (outer_part s.definitions (rebuild s.stack w)) w s vars rhs (is_fit s) each (all_fit s vars rhs t)
  where
    each : (n : ℕ) → is_fit s n ≡ true → slice_index_or (outer_part s.definitions (rebuild s.stack w)) n false ≡ root_value w (var_root s n)
    each n e =
        let q : (nat_lt n (outer_count s.definitions) ≡ true) × (not (is_lost (var_root s n)) ≡ true) = and_parts _ _ e in
        outer_own s.definitions (rebuild s.stack w) (positive n) (ltb-true _ _ q.0) ∙ rebuild_root s.stack (to_own s.definitions (positive n)) w (not-true _ q.1)

length_left : (roots : List Root) → length (filter_map left_number roots) ≤ length roots
length_left [] = omega arith
length_left (Known x ∷ rs) = omega (arith, length_left rs)
length_left (Last l ∷ rs) = omega (arith, length_left rs)
length_left (Lost v ∷ rs) = omega (arith, length_left rs)

-- what is left of a parity has no more cuts than the parity
pub few_cuts : (s : State) (vars : List Var) (rhs : Bool) → cuts_of_count (length (left_vars (parity_roots s vars))) ≤ cuts (Parity vars rhs)
few_cuts s vars rhs =
    let a : length (left_vars (parity_roots s vars)) ≡ length (odd_numbers (filter_map left_number (parity_roots s vars))) = length-map (odd_numbers (filter_map left_number (parity_roots s vars))) own_var in
    let b : length (parity_roots s vars) ≡ length (odd_vars vars) = length-map (odd_vars vars) (var_root s) in
    omega (arith, a, b, few_odd (filter_map left_number (parity_roots s vars)), length_left (parity_roots s vars))

-- one variable more is put in
pub left_more : (f : ℕ → Root) (ns : List ℕ) (i d : ℕ) (old new : List ℕ) → i < length ns → new ≡ old ++ option_to_list (left_number (f (get_or ns i d))) → old ≡ filter_map left_number (map f (take i ns)) → new ≡ filter_map left_number (map f (take (i + 1) ns))
left_more f ns i d old new l n o =
    n ∙ (ap (λ z. z ++ option_to_list (left_number (f (get_or ns i d)))) o
    ∙ (ap (λ z. filter_map left_number (map f (take i ns)) ++ z) (last (left_number (f (get_or ns i d))))
    ∙ (sym (filter_map-append left_number (map f (take i ns)) (f (get_or ns i d) ∷ [])) ∙ ap (filter_map left_number) (sym (map-append f (take i ns) (get_or ns i d ∷ [])) ∙ ap (map f) (sym (taken_at ns i d l))))))
  where
    last : (o : Option ℕ) → option_to_list o ≡ cons_option o []
    last None = refl
    last (Some x) = refl

pub rhs_more : (f : ℕ → Root) (ns : List ℕ) (i d : ℕ) (rhs old new : Bool) → i < length ns → new ≡ signed (turns (f (get_or ns i d))) old → old ≡ left_rhs (map f (take i ns)) rhs → new ≡ left_rhs (map f (take (i + 1) ns)) rhs
rhs_more f ns i d rhs old new l n o =
    n ∙ (ap (signed (turns (f (get_or ns i d)))) o
    ∙ (sym (fold-append (λ b r. signed (turns r) b) rhs (map f (take i ns)) (f (get_or ns i d) ∷ [])) ∙ ap (λ z. left_rhs z rhs) (sym (map-append f (take i ns) (get_or ns i d ∷ [])) ∙ ap (map f) (sym (taken_at ns i d l)))))
