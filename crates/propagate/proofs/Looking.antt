-- One clause, literal by literal.
use Rattle.std.proofs.Common.{◌≡◌, Bool, true, false, cond, not, eqb, ◌&&◌, ◌||◌, List, [], ◌∷◌, Some, None, refl}
use Rattle.std.proofs.lemmas.Bool.{or_parts, true≢false, not_from_false}
use Rattle.std.specs.Bool.{beq}
use Rattle.sat_lits.specs.InLits.{same_lit}
use Rattle.sat_lits.specs.declared.literal.InLit.{InLit}
use Rattle.trail.specs.declared.trail.Step.{Step}
use Rattle.trail.specs.Trail.{true_in, false_in, set_in, unset_in, value_in}

neither : (a b : Bool) → cond a (Some true) (cond b (Some false) None) ≡ None → (a ≡ false) × (b ≡ false)
neither true b e = absurd (cc)
neither false true e = absurd (cc)
neither false false e = (refl, refl)

-- a literal with no value is unset
pub value_none : (t : List Step) (l : InLit) → value_in t l ≡ None → unset_in t l ≡ true
value_none t l e =
    let p : (true_in t l ≡ false) × (false_in t l ≡ false) = neither (true_in t l) (false_in t l) e in
    not_from_false _ (unset t p.0 p.1)
  where
    go : (v n r : Bool) → (v && n) ≡ false → (v && not n) ≡ false → r ≡ false → (v || r) ≡ false
    go true true r a b h = absurd (true≢false a)
    go true false r a b h = absurd (true≢false b)
    go false n r a b h = h

    unset : (xs : List Step) → true_in xs l ≡ false → false_in xs l ≡ false → set_in xs l.var.0 ≡ false
    unset [] a b = refl
    unset (s ∷ older) a b =
        let p : (same_lit s.lit l ≡ false) × (true_in older l ≡ false) = or_parts _ _ a in
        let q : ((eqb s.lit.var.0 l.var.0 && not (beq s.lit.negative l.negative)) ≡ false) × (false_in older l ≡ false) = or_parts _ _ b in
        go (eqb s.lit.var.0 l.var.0) (beq s.lit.negative l.negative) (set_in older l.var.0) p.0 q.0 (unset older p.1 q.1)
