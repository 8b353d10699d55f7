use Rattle.std.proofs.Common.{◌≡◌, ◌∙◌, ◌<◌, ap, sym, subst, arith, false, true, length, slice_index_or, below_more}
use Rattle.var_maps.specs.Maps.{Maps}
use Rattle.state_laws.specs.Kernel.{Kernel, state_of}
use Rattle.var_elim.specs.Eliminating.{Eliminates, can_go, is_left}
use Rattle.sync_laws.specs.KeepLaws.{keeps_refl}
use Rattle.var_elim.proofs.Meeting.{eliminates_met}
use Rattle.var_elim.proofs.EliminatingLaws.{eliminates_more, eliminates_same, eliminates_took, could_go, none_step, plain_state}
use Rattle.var_elim.proofs.eliminate.eliminate_some.Goals.{then-branch, else-branch}
use Rattle.var_elim.proofs.eliminate.eliminate_some.Goals as goal

pub returns-in_err-eliminate_unless-clause-same : goal.returns-in_err-eliminate_unless-clause-same
returns-in_err-eliminate_unless-clause-same c =
    eliminates_took c.each.count (is_left c.args.state.now.maps c.args.frozen.now c.args.kept_by) c.args.state.now c.eliminate_unless.new.state
    (eliminates_same c.each.count (is_left c.args.state.now.maps c.args.frozen.now c.args.kept_by) (state_of c.args.state.now) (state_of c.each.state) (state_of c.eliminate_unless.new.state)
    (plain_state c.each.state c.eliminate_unless.new.state c.in_err-eliminate_unless.ensures.err) c.each.invariant.done)

pub returns-clause-same : goal.returns-clause-same
returns-clause-same c = eliminates_took c.each.count (is_left c.args.state.now.maps c.args.frozen.now c.args.kept_by) c.args.state.now c.each.state c.each.invariant.done

pub returns-in_err-eliminate_unless-clause-met : goal.returns-in_err-eliminate_unless-clause-met
returns-in_err-eliminate_unless-clause-met c =
    eliminates_met c.each.count (is_left c.args.state.now.maps c.args.frozen.now c.args.kept_by) (state_of c.args.state.now) (state_of c.eliminate_unless.new.state) c.maps.ensures.standing.stands
    (eliminates_same c.each.count (is_left c.args.state.now.maps c.args.frozen.now c.args.kept_by) (state_of c.args.state.now) (state_of c.each.state) (state_of c.eliminate_unless.new.state)
    (plain_state c.each.state c.eliminate_unless.new.state c.in_err-eliminate_unless.ensures.err) c.each.invariant.done)

pub returns-in_err-left-clause-met : goal.returns-in_err-left-clause-met
returns-in_err-left-clause-met c = keeps_refl (state_of c.args.state.now)

pub returns-clause-met : goal.returns-clause-met
returns-clause-met c =
    eliminates_met c.each.count (is_left c.args.state.now.maps c.args.frozen.now c.args.kept_by) (state_of c.args.state.now) (state_of c.each.state) c.maps.ensures.standing.stands c.each.invariant.done

pub each-preserved : goal.each-preserved
each-preserved c =
    let there : c.each.var < length c.args.state.now.maps.inners = omega (arith, c.each-test.true, c.own_len-var-end.ensures.value, ap (λ (m : Maps). length m.inners) c.maps-2.ensures.value) in
    elim c.if-branch.branch [
      | then-branch w ↦
          let p : (is_left c.args.state.now.maps c.args.frozen.now c.args.kept_by c.each.var ≡ false) × (can_go (state_of c.each.state) c.each.var ≡ true) =
          could_go c.deref.result.now c.in_ok-left.left.items c.each.var (is_left c.args.state.now.maps c.args.frozen.now c.args.kept_by c.each.var) (can_go (state_of c.each.state) c.each.var) c.deref.ensures.value ((rw c.maps.ensures.value at c.in_ok-left.ensures.told) c.each.var there)
          (sym c.in_ok-eliminate_unless.ensures.can ∙ w.if-branch.true) in
          record {
            done = eliminates_more c.each.count c.if-branch.count (is_left c.args.state.now.maps c.args.frozen.now c.args.kept_by) (state_of c.args.state.now) (state_of c.each.state) (state_of c.eliminate_unless.new.state) (record { 0 = c.each.var }) w.count-is c.each.invariant.done
                p.0 p.1 (c.in_ok-eliminate_unless.ensures.gone w.if-branch.true);
            same = λ z. absurd (omega (arith, w.count-is));
            none = λ z. absurd (omega (arith, w.count-is));
            few = omega (arith, w.count-is, c.each.invariant.few);
          }
      | else-branch w ↦
          record {
            done = eliminates_same c.if-branch.count (is_left c.args.state.now.maps c.args.frozen.now c.args.kept_by) (state_of c.args.state.now) (state_of c.each.state) (state_of c.eliminate_unless.new.state)
                (ap (λ (k : Kernel). state_of k) (c.in_ok-eliminate_unless.ensures.same w.if-branch.false))
                (subst (λ n. Eliminates n (is_left c.args.state.now.maps c.args.frozen.now c.args.kept_by) (state_of c.args.state.now) (state_of c.each.state)) (sym w.count-is) c.each.invariant.done);
            same = λ z. c.in_ok-eliminate_unless.ensures.same w.if-branch.false ∙ c.each.invariant.same (sym w.count-is ∙ z);
            none = λ z.
                below_more (λ v. slice_index_or c.in_ok-left.left.items v false ≡ false → can_go (state_of c.args.state.now) v ≡ false) c.each.var (c.each.invariant.none (sym w.count-is ∙ z))
                (none_step c.each.state c.args.state.now c.deref.result.now c.in_ok-left.left.items c.each.var (c.each.invariant.same (sym w.count-is ∙ z)) c.deref.ensures.value (sym c.in_ok-eliminate_unless.ensures.can ∙ w.if-branch.false));
            few = omega (arith, w.count-is, c.each.invariant.few);
          }
    ]

pub returns-in_err-eliminate_unless-clause-some : goal.returns-in_err-eliminate_unless-clause-some
returns-in_err-eliminate_unless-clause-some c = (
  c.each.count,
  eliminates_same c.each.count (is_left c.args.state.now.maps c.args.frozen.now c.args.kept_by) (state_of c.args.state.now) (state_of c.each.state) (state_of c.eliminate_unless.new.state)
      (plain_state c.each.state c.eliminate_unless.new.state c.in_err-eliminate_unless.ensures.err) c.each.invariant.done,
)
