-- The conflicts of a call.
use Rattle.std.proofs.Common.{◌≡◌, ℕ, zero, suc, ◌+◌, ◌-◌, ◌^◌, ◌<◌, ◌≤◌, Bool, true, false, cond, List, [], Option, Some, None, refl, sym, ap, subst, ◌∙◌, ⊎_elim, length, map, sum, option_map, arith, rules, IfSome, ltb, ltb-true}
use Rattle.std.specs.Option.{is_some}
use Rattle.std.proofs.Math.Nat.{pow-le-pow_right}
use Rattle.std.proofs.lemmas.Bool.{cases_lt}
use Rattle.std.proofs.lemmas.List.{length-map}
use Rattle.sat_lits.specs.Conflicts.{own_count, interval_len, intervals_len, intervals_for, enough}
use Rattle.sat_lits.specs.ConflictLaws.{intervals_count, intervals_len-suc}
use Rattle.sat_lits.specs.Verdicts.{IsFailed}
use Rattle.sat_lits.specs.Formulas.{names_known}
use Rattle.sat_lits.specs.Meaning.{Problem}
use Rattle.sat_lits.specs.declared.literal.Lit.{Lit}
use Rattle.sat_lits.specs.declared.formula.Item.TheVariants.{Clause}
use Rattle.analyze.specs.Counting.{saturated}
use Rattle.state_laws.specs.State.{problem_of}
use Rattle.state_laws.specs.Kernel.{Kernel, state_of, Standing}
use Rattle.search.specs.Answers.{own_length, IsBelow}
use Rattle.one_solver.specs.declared.answer.StepAnswer.{StepAnswer}
use Rattle.one_solver.specs.declared.answer.StepAnswer.TheVariants.{Verdict, IntervalOver, Spent, Asked, Memory}
use Rattle.one_solver.specs.Basic.{IsBasic}
use Rattle.one_solver.specs.Parts.{Parts, problem_in, SameCall, AssumesKnown}
use Rattle.one_solver.specs.Steps.{IsVerdictOrNone, IsUnderWay, IsTidy, EndsInterval, SpendsLimit, StepsRight, IsOverOrNone, HasNoModel}

-- there are no more own variables than the items may come to have
pub own_few : (k : Kernel) → Standing k → IsBasic k → length k.maps.inners ≤ own_count (problem_of (state_of k))
own_few k s b =
    let d : length (map is_some k.maps.inners) ≡ length k.definitions = s.stands.places.lengths in
    omega (arith, length-map k.maps.inners is_some, b.few)

-- more intervals have no fewer conflicts
grow : (i d : ℕ) → intervals_len i ≤ intervals_len (i + d)
grow i zero = let e : intervals_len i ≡ intervals_len (i + 0) = ap intervals_len (let z : i ≡ i + 0 = omega arith in z) in omega arith
grow i (suc d) =
    let e : intervals_len (i + suc d) ≡ intervals_len (suc (i + d)) = ap intervals_len (let z : i + suc d ≡ suc (i + d) = omega arith in z) in
    let f : intervals_len (suc (i + d)) ≡ intervals_len (i + d) + interval_len (i + d) = intervals_len-suc (i + d) in
    let g : intervals_len i ≤ intervals_len (i + d) = grow i d in omega arith

no_fewer : (i j : ℕ) → i ≤ j → intervals_len i ≤ intervals_len j
no_fewer i j h = subst (λ (k : ℕ). intervals_len i ≤ intervals_len k) (let z : i + (j - i) ≡ j = omega arith in z) (grow i (j - i))

-- intervals that were too short count
they_count : (n i : ℕ) → i ≤ 2 ^ 20 → ((j : ℕ) → j < i → interval_len j < 3 ^ n) → i ≤ intervals_for n
they_count n zero few short = omega arith
they_count n (suc m) few short = let h : m < intervals_for n = (intervals_count n m).1 (omega arith, λ j l. short j (omega arith)) in omega arith

-- so their conflicts and fewer than one such interval more are less than enough
pub less_than_enough : (n i c : ℕ) → i ≤ 2 ^ 20 → ((j : ℕ) → j < i → interval_len j < 3 ^ n) → c < 3 ^ n → intervals_len i + c < enough n
less_than_enough n i c few short below = let h : intervals_len i ≤ intervals_len (intervals_for n) = no_fewer i (intervals_for n) (they_count n i few short) in omega arith

-- an interval of its own length is one of the first ones
pub own_interval : (k c : ℕ) → own_length k ≡ Some c → (k < 2 ^ 20) × (c ≡ interval_len k)
own_interval k c e = go (ltb k (2 ^ 20)) refl e
  where
    go : (b : Bool) → ltb k (2 ^ 20) ≡ b → cond b (Some (interval_len k)) None ≡ Some c → (k < 2 ^ 20) × (c ≡ interval_len k)
    go true f g = (ltb-true k (2 ^ 20) f, some_same g)
      where
        some_same : ◌≡◌ {A = Option ℕ} (Some (interval_len k)) (Some c) → c ≡ interval_len k
        some_same h = cc
    go false f g = cc

-- the number of conflicts that was left is the limit without those that were made
left_some : (limit : Option ℕ) (made c : ℕ) → option_map (λ m. m - made) limit ≡ Some c → IfSome limit (λ m. made ≤ m) → (m : ℕ) × (limit ≡ Some m) × (m ≡ made + c)
left_some None made c e h = cc
left_some (Some m) made c e h = let d : m - made ≡ c = cc in (m, refl, omega arith)

left_below : (limit : Option ℕ) (made c : ℕ) → IsBelow c (option_map (λ m. m - made) limit) → IfSome limit (λ m. made ≤ m) → IfSome limit (λ m. made + c < m)
left_below None made c b h = b
left_below (Some m) made c b h = omega arith

at_some : (limit : Option ℕ) (m : ℕ) (P : ℕ → Type 0) → limit ≡ Some m → IfSome limit P → P m
at_some limit m P e h = let Q : Option ℕ → Type 0 = λ o. IfSome o P in subst Q e h

-- fewer conflicts than a power are fewer than a greater one
fewer_than : (c a n : ℕ) → c < 3 ^ a → a ≤ n → c < 3 ^ n
fewer_than c a n h l = let z : 0 < 3 = omega arith in let p : 3 ^ a ≤ 3 ^ n = pow-le-pow_right z l in omega arith

-- the limit was spent
pub spends : (old new : Parts) (limit : Option ℕ) (c a count : ℕ) → IsUnderWay old → IfSome limit (λ m. old.conflicts ≤ m) → IfSome limit (λ m. m < 2 ^ 64) → option_map (λ m. m - old.conflicts) limit ≡ Some c
    → c < 3 ^ a → a ≤ own_count (problem_in old) → new.conflicts ≡ saturated old.conflicts c → count ≡ new.conflicts → SpendsLimit (problem_in old) limit new.conflicts count
spends old new limit c a count u w r e few active t s =
    let (m, is, sum) = left_some limit old.conflicts c e w in
    let most : m < 2 ^ 64 = at_some limit m (λ (x : ℕ). x < 2 ^ 64) is r in
    let same : count ≡ m = omega arith in
    let bound : intervals_len old.interval + c < enough (own_count (problem_in old)) = less_than_enough (own_count (problem_in old)) old.interval c u.few u.short (fewer_than c a (own_count (problem_in old)) few active) in
    let begun : old.conflicts ≡ intervals_len old.interval = u.counted in
    record { limit_is = is ∙ ap (λ (x : ℕ). Some x) (sym same); made = sym s; few = omega arith }

-- all the first intervals together are far below the last value of a count
in_range : (i : ℕ) → i ≤ 2 ^ 20 → intervals_len i < 2 ^ 64 - 1
in_range i h = let l : intervals_len i ≤ intervals_len 1048576 = no_fewer i 1048576 h in omega arith

-- the variables of the same assumptions are still there
pub still_known : (old new : Parts) → problem_in new ≡ problem_in old → new.assumptions ≡ old.assumptions → AssumesKnown old → AssumesKnown new
still_known old new same kept a = record {
  known = ap (λ (f : Problem). names_known f.vars (Clause new.assumptions)) same ∙ (ap (λ (ls : List Lit). names_known (problem_in old).vars (Clause ls)) kept ∙ a.known);
  few = subst (λ (ls : List Lit). length ls < 2 ^ 32) (sym kept) a.few;
}

-- a call of the same assumptions, after as many intervals and conflicts, is still under way
pub still_under_way : (old new : Parts) → problem_in new ≡ problem_in old → SameCall old new → IsUnderWay old → IsUnderWay new
still_under_way old new same call u = record {
  counted = call.conflicts ∙ (u.counted ∙ ap intervals_len (sym call.interval));
  few = subst (λ (n : ℕ). n ≤ 2 ^ 20) (sym call.interval) u.few;
  short = λ j l. subst (λ (f : Problem). interval_len j < 3 ^ own_count f) (sym same) (u.short j (subst (λ (n : ℕ). j < n) call.interval l));
  assumed = still_known old new same call.assumptions u.assumed;
}

-- an interval was made whole
pub ends : (old new : Parts) (limit : Option ℕ) (c a : ℕ) → IsUnderWay old → IfSome limit (λ m. old.conflicts ≤ m) → own_length old.interval ≡ Some c → IsBelow c (option_map (λ m. m - old.conflicts) limit)
    → c < 3 ^ a → a ≤ own_count (problem_in old) → new.conflicts ≡ saturated old.conflicts c → IsTidy old.interval new → problem_in new ≡ problem_in old → new.assumptions ≡ old.assumptions → EndsInterval old new limit
ends old new limit c a u w own below few active t tidy same kept = record {
  under_way = record { counted = counted; few = (let l : old.interval < 2 ^ 20 = first.0 in omega arith); short = short; assumed = still_known old new same kept u.assumed };
  counted = more;
  few = first.0;
  tidy = tidy;
  within = subst (λ (n : ℕ). IfSome limit (λ m. n < m)) (sym sum) (left_below limit old.conflicts c below w);
}
  where
    next : new.interval ≡ old.interval + 1
    next = tidy.next

    first : (old.interval < 2 ^ 20) × (c ≡ interval_len old.interval)
    first = own_interval old.interval c own

    one : intervals_len (suc old.interval) ≡ intervals_len old.interval + interval_len old.interval
    one = intervals_len-suc old.interval

    sum : new.conflicts ≡ old.conflicts + c
    sum =
        let r : intervals_len (suc old.interval) < 2 ^ 64 - 1 = in_range (suc old.interval) (let l : old.interval < 2 ^ 20 = first.0 in omega arith) in
        let b : old.conflicts ≡ intervals_len old.interval = u.counted in
        let d : c ≡ interval_len old.interval = first.1 in omega (arith, one)

    more : new.conflicts ≡ old.conflicts + interval_len old.interval
    more = sum ∙ ap (λ n. old.conflicts + n) first.1

    counted : new.conflicts ≡ intervals_len new.interval
    counted = more ∙ (ap (λ n. n + interval_len old.interval) u.counted ∙ (sym one ∙ ap intervals_len (let z : suc old.interval ≡ new.interval = omega arith in z)))

    shorter : (j : ℕ) → j < new.interval → interval_len j < 3 ^ own_count (problem_in old)
    shorter j h =
        ⊎_elim (λ (l : j < old.interval). u.short j l)
        (λ (l : old.interval ≤ j).
        let e : j ≡ old.interval = omega arith in
        subst (λ (n : ℕ). n < 3 ^ own_count (problem_in old)) (first.1 ∙ ap interval_len (sym e)) (fewer_than c a (own_count (problem_in old)) few active)) (cases_lt j old.interval)

    short : (j : ℕ) → j < new.interval → interval_len j < 3 ^ own_count (problem_in new)
    short j h = subst (λ (f : Problem). interval_len j < 3 ^ own_count f) (sym same) (shorter j h)

-- what comes at the end of an interval is right where the interval ended right
pub over_right : (old new : Parts) (limit : Option ℕ) (before now : ℕ) (answer : StepAnswer) → IsOverOrNone answer → (answer ≡ IntervalOver → EndsInterval old new limit) → StepsRight old new limit before now answer
over_right old new limit before now (Verdict v) h f = absurd h
over_right old new limit before now IntervalOver h f = f refl
over_right old new limit before now (Spent count) h f = absurd h
over_right old new limit before now Asked h f = absurd h
over_right old new limit before now Memory h f = tt

-- where there is no model, no assumption is needed for a contradiction
pub none_fails : (f : Problem) (assumptions : List Lit) → HasNoModel f → IsFailed f assumptions []
none_fails f assumptions h = record { positions = []; rising = search rules; places = tt; distinct = search rules; contradict = λ values m. absurd (h values m) }

-- a right verdict is a right answer
pub verdict_right : (old new : Parts) (limit : Option ℕ) (before now : ℕ) (answer : StepAnswer) → IsVerdictOrNone (problem_in old) old.assumptions answer → StepsRight old new limit before now answer
verdict_right old new limit before now (Verdict v) h = h
verdict_right old new limit before now IntervalOver h = absurd h
verdict_right old new limit before now (Spent count) h = absurd h
verdict_right old new limit before now Asked h = absurd h
verdict_right old new limit before now Memory h = tt
