use Rattle.std.proofs.Common.{◌<◌, ◌≤◌, ◌^◌, ℕ, suc, List, [], ◌∷◌, Option, Some, None, length, sym, subst, arith, rules}
use Rattle.std.proofs.Math.Nat.{pow-le-pow_right}
use Rattle.sat_lits.specs.declared.literal.Own.{Own}
use Rattle.var_maps.specs.Maps.{Maps, Matched}
use Rattle.search_laws.specs.NumberLaws.{bounded_start, bounded_end}
use Rattle.search.specs.InUse.{owned_from, in_use}
use Rattle.search.proofs.Keeping.{interval_keeps}
use Rattle.search.proofs.search.Search.run_interval.Goals as goal

-- no conflict is few enough
few_enough : (n : ℕ) → 0 < 3 ^ n
few_enough n = bounded_end n [] 0 (bounded_start n [] (omega arith))

-- no more numbers are in use than there are places
owned_few : (n : ℕ) (xs : List (Option Own)) → length (owned_from n xs) ≤ length xs
owned_few n [] = omega arith
owned_few n (None ∷ xs) = let r : length (owned_from (suc n) xs) ≤ length xs = owned_few (suc n) xs in omega arith
owned_few n (Some v ∷ xs) = let r : length (owned_from (suc n) xs) ≤ length xs = owned_few (suc n) xs in omega arith

-- what is few for the active variables is few for the own ones
few_own : (m : Maps) (c : ℕ) → Matched m → c < 3 ^ length (in_use m) → c < 3 ^ length m.inners
few_own m c k h =
    let three : 0 < 3 = omega arith in
    let fewer : length (in_use m) ≤ length m.inners = omega (arith, k.inner_len, owned_few 0 m.owners) in
    let power : 3 ^ length (in_use m) ≤ 3 ^ length m.inners = pow-le-pow_right three fewer in
    omega arith

pub returns-then-eq-clause-few : goal.returns-then-eq-clause-few
returns-then-eq-clause-few g c = few_enough (length (in_use c.args.state.now.maps))

pub returns-then-eq-clause-own : goal.returns-then-eq-clause-own
returns-then-eq-clause-own g c = few_enough (length c.args.state.now.maps.inners)

pub returns-then-is_err-clause-few : goal.returns-then-is_err-clause-few
returns-then-is_err-clause-few g c = subst (λ (n : ℕ). n < 3 ^ length (in_use c.args.state.now.maps)) (sym c.begin.ensures.conflicts) (few_enough (length (in_use c.args.state.now.maps)))

pub returns-then-is_err-clause-own : goal.returns-then-is_err-clause-own
returns-then-is_err-clause-own g c = subst (λ (n : ℕ). n < 3 ^ length c.args.state.now.maps.inners) (sym c.begin.ensures.conflicts) (few_enough (length c.args.state.now.maps.inners))

pub returns-clause-own : goal.returns-clause-own
returns-clause-own g c = few_own c.args.state.now.maps c.run.new.self.conflicts (search rules) c.run.ensures.few

pub returns-clause-kept : goal.returns-clause-kept
returns-clause-kept g c = interval_keeps c.args.state.now c.run.new.state c.run.new.self.conflicts c.run.result c.run.ensures.learned
