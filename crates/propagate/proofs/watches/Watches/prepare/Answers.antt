use Rattle.std.proofs.Common.{◌≡◌, ◌<◌, ℕ, length, sym, subst, ◌∙◌, arith}
use Rattle.propagate.proofs.Keeping.{keeps_start}
use Rattle.propagate.proofs.watches.Watches.prepare.Goals as goal

pub invariant_of-self : goal.invariant_of-self
invariant_of-self c =
    let n : c.len-2.result ≡ length c.in_ok-taken.taken.items = omega (arith, c.len-2.ensures, c.in_ok-taken.taken.ok.0) in
    let m : c.len-3.result ≡ c.len-2.result = omega (arith, c.len-2.ensures, c.len-3.ensures) in
    record {
      kept = keeps_start c.in_ok-taken.taken.items c.in_ok-done.done.items c.in_ok-starts.starts.items c.in_ok-table.table c.in_ok-fresh.fresh.items c.args.variables c.len-2.result c.in_ok-done.ensures.items c.in_ok-starts.ensures.items n c.in_ok-table.ensures (c.in_ok-fresh.ensures.len ∙ m)
          (λ i h. c.in_ok-fresh.ensures.each i (subst (λ (z : ℕ). i < z) (sym m) h));
      room = omega (arith, c.in_ok-done.ensures.exact);
      marks = omega (arith, c.in_ok-starts.ensures.exact);
      few = omega (arith, c.len.ensures, c.in_ok-taken.taken.ok.0, c.if-len-gt-MOST_CLAUSES.false);
    }
