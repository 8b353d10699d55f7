use Rattle.std.proofs.Common.{◌≡◌, ◌∙◌, ◌+◌, ◌-◌, ◌≤◌, ◌<◌, ℕ, zero, suc, refl, ap, sym, subst, ◌==◌, List, [], ◌∷◌, Some, length, get_or, set, min, arith}
use Rattle.std.specs.List.{slice_get, swap_remove}
use Rattle.std.proofs.lemmas.Option.{slice_get-get_or}
use Rattle.std.proofs.lemmas.List.{length-take, length-set}
use Rattle.sat_lits.specs.declared.shared.Shared.{Shared}
use Rattle.state_laws.specs.State.{State}
use Rattle.state_laws.specs.Kernel.{state_of}
use Rattle.data_sync.specs.Taking.{Attempt}
use Rattle.sync_laws.specs.Steps.{waits}
use Rattle.data_sync.specs.ReadLaws.{retried-IsRead}
use Rattle.data_sync.specs.TakingLaws.{tried_takes, left_waits, others_more, attempt_one}
use Rattle.data_sync.proofs.reader.LogReader.retry.Goals as goal

any_default : {X : Type 0} (xs : List X) (i : ℕ) (d e : X) → i < length xs → get_or xs i d ≡ get_or xs i e
any_default [] i d e h = absurd (omega arith)
any_default (x ∷ xs) zero d e h = refl
any_default (x ∷ xs) (suc i) d e h = any_default xs i d e (omega arith)

removed_len : (xs : List ℕ) (i d : ℕ) → i < length xs → length (swap_remove xs i d) + 1 ≡ length xs
removed_len xs i d h =
    let a : length (swap_remove xs i d) ≡ min (length xs - 1) (length (set xs i (get_or xs (length xs - 1) d))) = length-take (length xs - 1) (set xs i (get_or xs (length xs - 1) d)) in
    let b : length (set xs i (get_or xs (length xs - 1) d)) ≡ length xs = length-set xs i (get_or xs (length xs - 1) d) in
    omega (arith, a, b)

pub retry-preserved : goal.retry-preserved
retry-preserved c =
    let e : Shared = c.index-log-place.result in
    let s : State = state_of c.args.state.now in
    let t : State = state_of c.retry.state in
    let u : State = state_of c.try_import.new.state in
    let waiting : List ℕ = c.retry.self-inside.waiting.items in
    let place : ℕ = c.index-place.result.now in
    let d : ℕ = c.swap_remove.result in
    let within : c.retry.at < length waiting = omega (arith, c.retry-test.true, c.len.ensures) in
    let is_place : get_or waiting c.retry.at d ≡ place = any_default waiting c.retry.at d place within ∙ sym c.index-place.ensures in
    let below : place < c.retry.self-inside.cursor = subst (λ (n : ℕ). n < c.retry.self-inside.cursor) is_place (c.retry.invariant.tried.step.below c.retry.at d within) in
    let there : place < length c.args.log.now = omega (arith, below, c.retry.invariant.tried.step.within) in
    let at : slice_get c.args.log.now place ≡ Some e = slice_get-get_or c.args.log.now place e there ∙ ap (λ (z : Shared). Some z) (sym c.index-log-place.is) in
    let a : Attempt t u e c.args.solver (Some c.in-Some.other) = subst (Attempt t u e c.args.solver) c.in-Some.is c.in_ok-try_import.ensures.ok in
    let one : c.in-Some.other ≤ 1 = attempt_one c.in-Some.other (e.solver == c.args.solver) a.1 in
    let fewer : length c.swap_remove.new.self.items + 1 ≡ length waiting = ap (λ (z : List ℕ). length z + 1) c.swap_remove.ensures.items ∙ removed_len waiting c.retry.at d within in
    record {
      tried = tried_takes s t u c.args.log.now c.retry.self-inside.cursor waiting c.swap_remove.new.self.items c.retry.at place d e within is_place c.swap_remove.ensures.items at c.retry.invariant.tried a.0;
      read = λ r. retried-IsRead t u c.retry.self-inside.cursor waiting c.swap_remove.new.self.items c.args.log.now place e c.requires.once below at a.0.entries
          (λ other n w. left_waits waiting c.retry.at place other d within is_place n (ap (λ (z : List ℕ). waits z other) (sym c.swap_remove.ensures.items) ∙ w)) (c.retry.invariant.read r);
      cursor = c.retry.invariant.cursor;
      count = ap (λ (n : ℕ). n + c.in-Some.other) c.retry.invariant.count ∙ sym (others_more c.args.solver s t u c.args.log.now e c.in-Some.other c.retry.invariant.tried.reads a.0 a.1);
      few = omega (arith, c.retry.invariant.few, one, fewer);
      at = omega (arith, within, fewer);
    }
