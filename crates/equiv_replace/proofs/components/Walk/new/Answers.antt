use Rattle.std.proofs.Common.{◌≡◌, ◌-◌, ◌∙◌, ◌++◌, [], ◌∷◌, ℕ, zero, suc, List, length, replicate, refl, ap, arith, take}
use Rattle.std.specs.Vec.{vec_len}
use Rattle.equiv_replace.specs.declared.components.Mark.{Mark}
use Rattle.equiv_replace.specs.declared.components.Mark.TheVariants.{New}
use Rattle.equiv_replace.proofs.Ends.{new_walking}
use Rattle.equiv_replace.proofs.components.Walk.new.Goals as goal

nothing_taken : (n : ℕ) → take n [] ++ replicate (n - 0) New ≡ replicate n New
nothing_taken zero = refl
nothing_taken (suc n) = ap (λ (k : ℕ). replicate k New) (let e : suc n - 0 ≡ suc n = omega arith in e)

filled : (xs : List Mark) (n k : ℕ) → xs ≡ [] → k ≡ 0 → take n xs ++ replicate (n - k) New ≡ replicate n New
filled [] n zero e f = nothing_taken n
filled [] n (suc k) e f = absurd (omega arith)
filled (x ∷ xs) n k e f = absurd (let l : suc (length xs) ≡ 0 = ap length e in omega arith)

pub returns-clause-walk : goal.returns-clause-walk
returns-clause-walk c =
    let e = c.in_ok-resize.ensures.items ∙ (filled c.new-marks.result.items c.nodes.result (vec_len c.new-marks.result) c.new-marks.ensures.items c.new-marks.ensures.len) in
    rw (e, c.nodes.ensures.value, c.new.ensures) (new_walking c.args.graph.now (omega (arith, c.nodes.ensures.few)))
