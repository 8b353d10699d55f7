use Rattle.std.proofs.Common.{◌≡◌, ◌<◌, ◌+◌, take, List, map, length, sym, ap, subst, ◌∙◌, arith}
use Rattle.std.specs.Option.{is_some}
use Rattle.std.proofs.lemmas.List.{take_all}
use Rattle.sat_lits.specs.declared.literal.Inner.{Inner}
use Rattle.search.specs.InUse.{owned_from}
use Rattle.search.proofs.Using.{number_taken, number_passed}
use Rattle.search.proofs.lists.numbers_in_use.Goals as goal
use Rattle.search.proofs.lists.numbers_in_use.Goals.{then-is_some+in_ok-push, else-is_some}

pub loop-number-preserved : goal.loop-number-preserved
loop-number-preserved c =
    let l : length c.args.maps.now.owners ≡ c.inner_len-number-end.result = sym c.inner_len-number-end.ensures.value in
    let h : c.loop-number.number < length c.args.maps.now.owners = omega arith in
    elim c.if-is_some.branch [
      | then-is_some+in_ok-push w ↦ subst (λ (ns : List Inner). map (λ (i : Inner). i.0) ns ≡ owned_from 0 (take (c.loop-number.number + 1) c.args.maps.now.owners)) (sym (w.numbers-is ∙ w.in_ok-push.ensures.ok))
          (number_taken c.args.maps.now.owners c.loop-number.numbers c.loop-number.number h (ap is_some (sym c.at_inner.ensures.value) ∙ (sym c.is_some.ensures ∙ w.if-is_some.true)) c.loop-number.invariant)
      | else-is_some w ↦ subst (λ (ns : List Inner). map (λ (i : Inner). i.0) ns ≡ owned_from 0 (take (c.loop-number.number + 1) c.args.maps.now.owners)) (sym w.numbers-is)
          (number_passed c.args.maps.now.owners c.loop-number.numbers c.loop-number.number h (ap is_some (sym c.at_inner.ensures.value) ∙ (sym c.is_some.ensures ∙ w.if-is_some.false)) c.loop-number.invariant)
    ]

pub returns : goal.returns
returns c =
    let l : length c.args.maps.now.owners ≡ c.inner_len-number-end.result = sym c.inner_len-number-end.ensures.value in
    c.loop-number.invariant ∙ ap (owned_from 0) (take_all c.loop-number.number c.args.maps.now.owners (omega arith))
