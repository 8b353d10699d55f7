use Rattle.std.proofs.Common.{length, sym, ap, arith}
use Rattle.propagate.proofs.Keeping.{keeps_start}
use Rattle.propagate.proofs.watches.Watches.new.Goals as goal

pub invariant_of-result : goal.invariant_of-result
invariant_of-result c =
    record {
      kept = keeps_start c.new.result.items c.new-2.result.items c.new-3.result.items c.new-4.result c.new-5.result.items 0 0 c.new-2.ensures.items c.new-3.ensures.items (sym (ap length c.new.ensures.items)) c.new-4.ensures (ap length c.new-5.ensures.items) (λ i h. absurd (omega (arith, h)));
      room = omega arith;
      marks = omega arith;
      few = omega (arith, ap length c.new.ensures.items);
    }
