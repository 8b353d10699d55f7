use Rattle.std.proofs.Common.{ap, length, arith}
use Rattle.equiv_replace.proofs.Rooting.{least_roots}
use Rattle.equiv_replace.proofs.roots.roots.Goals as goal

pub least_nodes-requires-clause-few : goal.least_nodes-requires-clause-few
least_nodes-requires-clause-few c = omega (arith, ap length c.deref.ensures.value, c.in_ok-numbers.ensures.few)

pub returns : goal.returns
returns c =
    rw (c.in_ok-roots.ensures, c.deref-2.ensures.value, c.deref-3.ensures.value)
    (least_roots c.args.graph.now c.in_ok-numbers.numbers.items c.in_ok-least.least.items c.in_ok-numbers.ensures.components (rw c.deref.ensures.value at c.in_ok-least.ensures.least))
