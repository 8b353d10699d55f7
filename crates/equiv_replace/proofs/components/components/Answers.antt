use Rattle.std.proofs.Common.{◌≡◌, ◌≤◌, ◌^◌, length, arith, below_more}
use Rattle.std.proofs.lemmas.List.{length-map}
use Rattle.equiv_replace.specs.Walks.{IsClosed, number_of}
use Rattle.equiv_replace.proofs.Ends.{stays_closed, all_components}
use Rattle.equiv_replace.proofs.components.components.Goals as goal

pub each-init : goal.each-init
each-init c = record { empty = c.in_ok-walk.ensures.empty; walk = c.in_ok-walk.ensures.walk; closed = λ a h. absurd (omega arith) }

pub each-preserved : goal.each-preserved
each-preserved c =
    record {
      empty = c.in_ok-visit.ensures.empty;
      walk = c.in_ok-visit.ensures.walk;
      closed = below_more (λ a. IsClosed c.visit.new.self.marks.items a) c.each.node
          (λ a h. stays_closed c.args.graph.now c.each.walk.marks.items c.visit.new.self.marks.items c.visit.new.self.path c.visit.new.self.closed a c.in_ok-visit.ensures.empty c.in_ok-visit.ensures.walk c.in_ok-visit.ensures.knows (c.each.invariant.closed a h))
          c.in_ok-visit.ensures.closed;
    }

pub returns-clause-components : goal.returns-clause-components
returns-clause-components c =
    rw (c.in_ok-found.ensures, c.deref.ensures.value)
    (all_components c.args.graph.now c.each.walk.marks.items c.each.walk.path c.each.walk.closed c.each.invariant.walk
    (λ a h. c.each.invariant.closed a (let e : c.nodes-node-end.result ≡ length c.args.graph.now = c.nodes-node-end.ensures.value in let l : c.nodes-node-end.result ≤ c.each.node = c.each-test.false in omega arith)))

pub returns-clause-few : goal.returns-clause-few
returns-clause-few c =
    let e : length c.each.walk.marks.items ≡ length c.args.graph.now = c.each.invariant.walk.each in
    let f : length c.args.graph.now ≤ 2 ^ 32 = c.each.invariant.walk.few in
    rw (c.in_ok-found.ensures, c.deref.ensures.value) (omega (arith, length-map c.each.walk.marks.items number_of))
