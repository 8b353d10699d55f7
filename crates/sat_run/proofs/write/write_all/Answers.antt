use Rattle.std.proofs.Common.{◌≡◌, ◌+◌, ◌-◌, ◌<◌, ◌≤◌, ℕ, List, ap, sym, ◌∙◌, take, drop, length, subst, arith, length-drop}
use Rattle.std.specs.declared.option.Option.{Option}
use Rattle.std.specs.Io.KnownBytes.{Appends}
use Rattle.std.proofs.Math.Seq.{take-add}
use Rattle.std.proofs.lemmas.List.{take_all}
use Rattle.std.proofs.lemmas.Result.{err_from_is_err_and}
use Rattle.std.proofs.KnownBytes.{Appends-trans}
use Rattle.sat_run.proofs.write.write_all.Goals as goal

rest_of : (xs : List ℕ) (at : ℕ) → take (length xs - at) (drop at xs) ≡ drop at xs
rest_of xs at = take_all (length xs - at) (drop at xs) (let l = length-drop at xs in omega (arith, l))

-- the first bytes of what is left are written too
one_more : (a b c : Option (List ℕ)) (xs : List ℕ) (at n : ℕ) → Appends a b (take at xs) → Appends b c (take n (take (length xs - at) (drop at xs))) → Appends a c (take (at + n) xs)
one_more a b c xs at n p q =
    subst (Appends a c) (sym (take-add at n xs)) (Appends-trans a b c (take at xs) (take n (drop at xs)) p (subst (λ (ys : List ℕ). Appends b c (take n ys)) (rest_of xs at) q))

within_more : (xs : List ℕ) (at n : ℕ) → at < length xs → n ≤ length (take (length xs - at) (drop at xs)) → at + n ≤ length xs
within_more xs at n p q = let e = ap length (rest_of xs at) in let l = length-drop at xs in omega (arith, e, l)

pub returns-in_err-at-clause-err : goal.returns-in_err-at-clause-err
returns-in_err-at-clause-err g c =
    let f = g.K.Sink.written in
    let w = c.in_err-at.ensures.bytes in
    let p = err_from_is_err_and c.from_residual.result c.from_residual.ensures.1 in
    let xs = c.args.bytes.now in
    rw p.1 (c.loop-at.at + w.0, within_more xs c.loop-at.at w.0 c.loop-at-test.true w.1, one_more (f c.args.sink.now) (f c.loop-at.sink) (f c.write.new.self) xs c.loop-at.at w.0 c.loop-at.invariant.appended w.2)

pub loop-at-preserved : goal.loop-at-preserved
loop-at-preserved g c =
    let f = g.K.Sink.written in
    let xs = c.args.bytes.now in
    record {
      within = within_more xs c.loop-at.at c.in_ok-at.field-0 c.loop-at-test.true c.in_ok-at.ensures.advances.within;
      appended = one_more (f c.args.sink.now) (f c.loop-at.sink) (f c.write.new.self) xs c.loop-at.at c.in_ok-at.field-0 c.loop-at.invariant.appended c.in_ok-at.ensures.bytes;
      kept = c.in_ok-at.ensures.cause.kept ∙ c.loop-at.invariant.kept;
    }
