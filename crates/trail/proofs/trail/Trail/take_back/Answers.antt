use Rattle.std.proofs.Common.{None, arith}
use Rattle.std.proofs.lemmas.List.{length-set}
use Rattle.trail.proofs.Tables.{is_stored, stored_pop, popped_within, tied}
use Rattle.trail.proofs.trail.Trail.take_back.Goals as goal

pub index_mut-requires : goal.index_mut-requires
index_mut-requires c =
    rw c.self.inside.by_variable.ok.0
    (popped_within c.self.inside.by_variable.items c.self.inside.lits.items c.pop.new.self.items c.in-Some.lit c.args.self.now c.in-Some.ensures.items (is_stored _ _ _ c.self.view_is c.self.invariant.says))

pub invariant_of-self : goal.invariant_of-self
invariant_of-self c =
    record {
      says = tied _ _ _ (stored_pop _ _ _ _ _ c.in-Some.ensures.items (is_stored _ _ _ c.self.view_is c.self.invariant.says));
      room = omega (arith, length-set c.self.inside.by_variable.items c.in-Some.lit.var.0 None, c.in-Some.ensures.capacity, c.self.invariant.room);
    }

pub returns-in-Some : goal.returns-in-Some
returns-in-Some c = (stored_pop _ _ _ _ _ c.in-Some.ensures.items (is_stored _ _ _ c.self.view_is c.self.invariant.says)).value
