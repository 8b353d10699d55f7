-- What tests need of the states that they make.
use Rattle.std.proofs.Common.{◌≡◌, ◌<◌, ℕ, Bool, true, false, cond, not, ltb, ◌&&◌, ◌||◌, List, [], ◌∷◌, ◌++◌, Some, None, refl, sym, ap, ◌∙◌, arith, ltb-true, eq-eqb, ne_eqb}
use Rattle.std.proofs.lemmas.Bool.{and_parts}
use Rattle.std.proofs.lemmas.List.Folds.{list_all-append}
use Rattle.std.specs.List.{list_all}
use Rattle.sat_lits.specs.declared.literal.Lit.{Lit}
use Rattle.sat_lits.specs.declared.literal.Var.{Var}
use Rattle.sat_lits.specs.declared.literal.OwnLit.{OwnLit}
use Rattle.clause_store.specs.Store.{Held, clause_at, rising}

-- literals by the number of the variable and the sign
abbrev pub lit : ℕ → Bool → Lit
lit n negative = record { var = record { 0 = n }; negative = negative }

abbrev pub var : ℕ → Var
var n = record { 0 = n }

abbrev pub own_lit : ℕ → Bool → OwnLit
own_lit n negative = record { var = record { 0 = n }; negative = negative }

-- a clause is true without its false literal
pub second : (a b : Bool) → ((a || (b || false)) && ((not a || false) && true)) ≡ true → not a ≡ true
second true b e = e
second false b e = refl

pub only : (a : Bool) → ((not a || false) && true) ≡ true → (not a || false) ≡ true
only true e = e
only false e = refl

-- the last clause is that of its id
pub last_found : (hs : List Held) (h : Held) → rising (hs ++ h ∷ []) ≡ true → clause_at (hs ++ h ∷ []) h.id ≡ Some h
last_found [] h e = ap (λ (b : Bool). cond b (Some h) None) (eq-eqb h.id h.id refl)
last_found (k ∷ hs) h e =
    let p : (list_all (λ later. ltb k.id later.id) (hs ++ h ∷ []) ≡ true) × (rising (hs ++ h ∷ []) ≡ true) = and_parts _ _ e in
    let q : (list_all (λ later. ltb k.id later.id) hs ≡ true) × ((ltb k.id h.id && true) ≡ true) = and_parts _ _ (sym (list_all-append (λ (later : Held). ltb k.id later.id) hs (h ∷ [])) ∙ p.0) in
    let r : (ltb k.id h.id ≡ true) × (true ≡ true) = and_parts _ _ q.1 in
    let l : k.id < h.id = ltb-true _ _ r.0 in
    ap (λ (b : Bool). cond b (Some k) (clause_at (hs ++ h ∷ []) h.id)) (ne_eqb k.id h.id (λ z. absurd (omega arith))) ∙ last_found hs h p.1
