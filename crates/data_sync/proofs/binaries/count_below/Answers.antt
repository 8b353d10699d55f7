use Rattle.std.proofs.Common.{◌≡◌, ◌<◌, ◌-◌, ℕ, zero, suc, true, nat_lt, ltb-true, lt-ltb, List, [], ◌∷◌, length, get_or, take, refl, subst, arith}
use Rattle.std.proofs.lemmas.Bool.{and_parts, and_from}
use Rattle.std.specs.List.{list_all}
use Rattle.sat_lits.specs.ListLaws.{all_at}
use Rattle.indexed_store.specs.Lists.{ids_rise, are_below}
use Rattle.indexed_store.specs.declared.short_id.ShortId.{ShortId}
use Rattle.data_sync.proofs.binaries.count_below.Goals as goal

-- where the last one of the first of rising ids is below a mark, each of them is
below : (ids : List ShortId) (n mark : ℕ) (d : ShortId) → ids_rise ids ≡ true → n < length ids → (get_or ids n d).0 < mark → are_below mark (take (suc n) ids) ≡ true
below [] n mark d r l h = absurd (omega (arith, l))
below (x ∷ ids) zero mark d r l h = and_from _ _ (lt-ltb _ _ h) refl
below (x ∷ ids) (suc n) mark d r l h =
    let p : (list_all (λ (y : ShortId). nat_lt x.0 y.0) ids ≡ true) × (ids_rise ids ≡ true) = and_parts _ _ r in
    let a : x.0 < (get_or ids n d).0 = ltb-true _ _ (all_at (λ (y : ShortId). nat_lt x.0 y.0) ids n d (omega (arith, l)) p.0) in
    and_from _ _ (lt-ltb _ _ (omega (arith, a, h))) (below ids n mark d p.1 (omega (arith, l)) h)

pub returns-else-whole-mark-clause-below : goal.returns-else-whole-mark-clause-below
returns-else-whole-mark-clause-below c =
    let d : ShortId = record { 0 = 0 } in
    let e : c.whole.result.0 ≡ (get_or c.args.ids.now (c.back.count - 1) d).0 = c.whole.ensures in
    subst (λ (n : ℕ). are_below c.args.mark (take n c.args.ids.now) ≡ true) (let f : suc (c.back.count - 1) ≡ c.back.count = omega (arith, c.back-test.true) in f)
    (below c.args.ids.now (c.back.count - 1) c.args.mark d c.requires (omega (arith, c.back-test.true, c.back.invariant)) (omega (arith, e, c.if-whole-mark.false)))
