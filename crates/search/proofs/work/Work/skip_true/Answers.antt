use Rattle.std.proofs.Common.{◌≡◌, ◌+◌, ◌<◌, List, Option, Bool, length, true, false, sym, ap, subst, ◌∙◌, arith}
use Rattle.sat_lits.specs.declared.literal.InLit.{InLit}
use Rattle.std.specs.Option.{unwrap_or}
use Rattle.trail.specs.Trail.{shaped, value_in}
use Rattle.search.specs.Assumed.{assumption_at}
use Rattle.search.specs.declared.work.Work.{Work}
use Rattle.search.proofs.Assuming.{assumed_skip}
use Rattle.search.proofs.Moves.{value_true}
use Rattle.search.proofs.work.Work.skip_true.Goals as goal

pub skip-preserved : goal.skip-preserved
skip-preserved c =
    let e : shaped c.skip.self.trail.steps ≡ true = ap (λ (w : Work). shaped w.trail.steps) c.skip.invariant.same ∙ c.level-level.ensures.kept.sound in
    let a : c.as_slice-in-skip.result.now ≡ c.skip.self.assumptions = c.as_slice-in-skip.ensures in
    let b : c.as_slice.result.now ≡ c.skip.self.assumptions = c.as_slice.ensures in
    let h : c.skip.self.next < length c.skip.self.assumptions = subst (λ (ls : List InLit). c.skip.self.next < length ls) b (omega arith) in
    let v : unwrap_or (value_in c.skip.self.trail.steps (assumption_at c.skip.self.assumptions c.skip.self.next)) false ≡ true =
    ap (λ (ls : List InLit). unwrap_or (value_in c.skip.self.trail.steps (assumption_at ls c.skip.self.next)) false) (sym a) ∙ (ap (λ (o : Option Bool). unwrap_or o false) (sym c.value.ensures) ∙ (sym c.unwrap_or.ensures ∙ c.if-not-unwrap_or.false)) in
    record {
      assumes = assumed_skip c.skip.self.assumptions c.skip.self.positions c.skip.self.next c.skip.self.trail.steps e h (value_true c.skip.self.trail.steps (assumption_at c.skip.self.assumptions c.skip.self.next) v) c.skip.invariant.assumes;
      same = ap (λ (w : Work). record w { next = c.skip.self.next + 1 }) c.skip.invariant.same;
    }
