-- What is given follows from what was taken.
use Rattle.std.proofs.Common.{◌≡◌, inl, inr, ℕ, ◌+◌, ◌<◌, ◌≤◌, Bool, true, List, [], ◌∷◌, ◌++◌, Option, Some, None, length, map, get_or, option_map, is_some, refl, sym, ap, subst, ◌∙◌, arith, length-append}
use Rattle.std.proofs.lemmas.Bool.{ltb-true, and_parts}
use Rattle.std.proofs.lemmas.List.{length-map, get_or_append_left}
use Rattle.std.proofs.lemmas.List.Elements.{All-cons, All-nil, All-push}
use Rattle.std.proofs.lemmas.Option.{same_Some, none-some, slice_get_within, get_or_from_slice_get, slice_get-get_or}
use Rattle.std.specs.List.{Any, slice_get}
use Rattle.sat_lits.specs.ListLaws.{all_at}
use Rattle.sat_lits.specs.Meaning.{Follows}
use Rattle.sat_lits.specs.Logs.{IsShareable, with_clauses}
use Rattle.sat_lits.specs.declared.literal.Lit.{Lit}
use Rattle.sat_lits.specs.declared.literal.Own.{Own}
use Rattle.sat_lits.specs.declared.literal.Var.{Var}
use Rattle.sat_lits.specs.declared.literal.OwnLit.{OwnLit}
use Rattle.sat_lits.specs.declared.shared.Shared.{Shared}
use Rattle.rebuild_stack.specs.Entries.{is_within}
use Rattle.rebuild_stack.specs.declared.entry.Entry.{Entry}
use Rattle.rebuild_stack.specs.declared.entry.Entry.TheVariants.{Fix}
use Rattle.share_store.specs.Log.{HasClause, entry_of}
use Rattle.var_maps.specs.Maps.{outer_at, Matched}
use Rattle.state_laws.specs.State.{State, problem_of, outers_from}
use Rattle.state_laws.specs.Kernel.{Kernel, Standing, state_of}
use Rattle.state_laws.specs.KernelTakeLaws.{outers_len, own_outer_lit}
use Rattle.state_laws.specs.PlaceLaws.{stack_within}
use Rattle.sync_laws.specs.Steps.{IsTurn, IsOuter, is_heard}
use Rattle.sync_laws.specs.TurnLaws.{turn_more}
use Rattle.data_sync.specs.Giving.{outer_of, Gives, KeepsTurns}

pub has_longer : (log more : List Shared) (c : List Lit) → HasClause log c → HasClause (log ++ more) c
has_longer log more c (k, x, h, g, q) = (k, x, (let l : length (log ++ more) ≡ length log + length more = length-append log more in omega arith), get_or_append_left log more x k h ∙ g, q)

-- a log that stayed keeps turns
pub stays_turns : (s : State) (solver after : ℕ) (log : List Shared) → KeepsTurns s solver after log log
stays_turns s solver after log = record { turn = λ had l e t. t; keeps = λ c h. h; longer = omega arith; heard = λ h. h }

-- a clause that follows was given
pub gives_turns : (s : State) (solver after : ℕ) (old new : List Shared) (c : List Lit) → IsShareable (problem_of s).vars c → Follows (with_clauses (problem_of s) s.entries) c
    → is_heard s c ≡ true → Gives old new solver after c → KeepsTurns s solver after old new
gives_turns s solver after old new c h f i (inl e) = subst (λ (z : List Shared). KeepsTurns s solver after old z) (sym e) (stays_turns s solver after old)
gives_turns s solver after old new c h f i (inr (l, e)) =
    subst (λ (z : List Shared). KeepsTurns s solver after old z) (sym e)
    (record {
      turn = λ had log q t. subst (λ (n : ℕ). IsTurn (problem_of s) solver had log s.entries (old ++ entry_of solver n c ∷ [])) q (turn_more (problem_of s) solver had log s.entries old c h f l t);
      keeps = λ d g. has_longer old (entry_of solver after c ∷ []) d g;
      longer = let m : length (old ++ entry_of solver after c ∷ []) ≡ length old + 1 = length-append old (entry_of solver after c ∷ []) in omega arith;
      heard = λ a. All-push (λ (x : Shared). is_heard s x.clause ≡ true) old (entry_of solver after c) a i;
    })

-- turns go on one after another
pub turns_through : (s : State) (solver after : ℕ) (a b c : List Shared) → KeepsTurns s solver after a b → KeepsTurns s solver after b c → KeepsTurns s solver after a c
turns_through s solver after a b c x y = record { turn = λ had log e t. y.turn had log e (x.turn had log e t); keeps = λ d h. y.keeps d (x.keeps d h); longer = let p : length a ≤ length b = x.longer in let q : length b ≤ length c = y.longer in omega arith; heard = λ h. y.heard (x.heard h) }

-- a literal that is found is the outer one of the own literal
pub outer_is : (k : Kernel) (own : OwnLit) (l : Lit) → Standing k → Matched k.maps → outer_of k.maps own ≡ Some l → IsOuter (state_of k) l own
outer_is k own l h m e = go (outer_at k.maps own.var.0) refl e
  where
    at : (v : Var) → outer_at k.maps own.var.0 ≡ Some v → IsOuter (state_of k) (record { var = v; negative = own.negative }) own
    at v f =
        let g : slice_get k.maps.outers v.0 ≡ Some (record { 0 = own.var.0 }) = m.outer_own own.var.0 v f in
        let w : v.0 < length k.maps.outers = slice_get_within k.maps.outers v.0 (record { 0 = own.var.0 }) g in
        let x : length k.maps.outers ≡ length (outers_from 0 k.definitions) = outers_len k h in
        let z : Own = record { 0 = 0 } in
        let l : Lit = record { var = v; negative = own.negative } in
        record {
          there = omega (arith, w, x);
          own = sym (own_outer_lit k h l) ∙ ap (λ (o : Own). let y : OwnLit = record { var = o; negative = own.negative } in y) (get_or_from_slice_get k.maps.outers v.0 (record { 0 = own.var.0 }) z g);
        }

    go : (o : Option Var) → outer_at k.maps own.var.0 ≡ o → option_map (λ v. let y : Lit = record { var = v; negative = own.negative } in y) o ≡ Some l → IsOuter (state_of k) l own
    go None f e = absurd (none-some l e)
    go (Some v) f e = subst (λ (y : Lit). IsOuter (state_of k) y own) (same_Some (record { var = v; negative = own.negative }) l e) (at v f)

-- and the only one
pub outer_only : (k : Kernel) (own : OwnLit) (l : Lit) → Standing k → Matched k.maps → IsOuter (state_of k) l own → outer_of k.maps own ≡ Some l
outer_only k own l h m o =
    let x : length k.maps.outers ≡ length (outers_from 0 k.definitions) = outers_len k h in
    let w : l.var.0 < length k.maps.outers = omega (arith, x, o.there) in
    let z : Own = record { 0 = 0 } in
    let g : slice_get k.maps.outers l.var.0 ≡ Some (get_or k.maps.outers l.var.0 z) = slice_get-get_or k.maps.outers l.var.0 z w in
    let q : (let y : OwnLit = record { var = get_or k.maps.outers l.var.0 z; negative = l.negative } in y) ≡ own = own_outer_lit k h l ∙ o.own in
    let v : (get_or k.maps.outers l.var.0 z).0 ≡ own.var.0 = ap (λ (y : OwnLit). y.var.0) q in
    let n : l.negative ≡ own.negative = ap (λ (y : OwnLit). y.negative) q in
    let f : outer_at k.maps own.var.0 ≡ Some (record { 0 = l.var.0 }) = ap (outer_at k.maps) (sym v) ∙ m.own_outer l.var.0 (get_or k.maps.outers l.var.0 z) g in
    ap (option_map (λ (u : Var). let y : Lit = record { var = u; negative = own.negative } in y)) f ∙ ap (λ (b : Bool). let y : Lit = record { var = l.var; negative = b } in Some y) (sym n)

-- one literal can be shared
pub one_shareable : (vars : ℕ) (l : Lit) → l.var.0 < vars → IsShareable vars (l ∷ [])
one_shareable vars l h = record { some = omega arith; few = omega arith; there = All-cons (λ (x : Lit). x.var.0 < vars) l [] h (All-nil (λ (x : Lit). x.var.0 < vars)); rising = λ i j d a b. absurd (omega arith) }

-- an entry that stands in a list stands at a place
pub stands_place : (s : List Entry) (e : Entry) → Any (λ x. x ≡ e) s → (k : ℕ) × (slice_get s k ≡ Some e)
stands_place s e (k, x, w, g, q) = (k, slice_get-get_or s k x w ∙ ap (λ (z : Entry). Some z) (g ∙ q))

-- the variable of an entry of the stack has its own number
pub fixed_there : (k : Kernel) (own : OwnLit) → Standing k → Any (λ x. x ≡ Fix own) k.stack → own.var.0 < length k.maps.inners
fixed_there k own h (at, x, w, g, q) =
    let a : is_within (length (map is_some k.maps.inners)) (get_or k.stack at x) ≡ true = all_at (is_within (length (map is_some k.maps.inners))) k.stack at x w (stack_within (state_of k) h.stands.places) in
    let b : is_within (length (map is_some k.maps.inners)) (Fix own) ≡ true = ap (is_within (length (map is_some k.maps.inners))) (sym (g ∙ q)) ∙ a in
    let c : own.var.0 < length (map is_some k.maps.inners) = ltb-true _ _ (and_parts _ _ b).0 in
    let d : length (map is_some k.maps.inners) ≡ length k.maps.inners = length-map k.maps.inners is_some in
    omega (arith, c, d)
