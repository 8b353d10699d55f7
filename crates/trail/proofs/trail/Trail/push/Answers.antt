use Rattle.std.proofs.Common.{◌++◌, ◌∷◌, [], set, Some, arith}
use Rattle.std.proofs.lemmas.List.{length-set, length-append}
use Rattle.trail.proofs.Tables.{IsStored, is_stored, stored_push, stored_within, tied}
use Rattle.trail.proofs.trail.Trail.push.Goals as goal

pub push_reserved-requires : goal.push_reserved-requires
push_reserved-requires c =
    let k : IsStored (set c.self.inside.by_variable.items c.args.step.lit.var.0 (Some c.args.step)) (c.self.inside.lits.items ++ c.args.step.lit ∷ []) (record c.args.self.now { steps = c.args.step ∷ c.args.self.now.steps }) =
    stored_push _ _ _ c.args.step (is_stored c.self.inside.by_variable.items c.self.inside.lits.items c.args.self.now c.self.view_is c.self.invariant.says) c.requires.reserved c.requires.shaped in
    omega
    (arith, stored_within _ _ _ k, length-set c.self.inside.by_variable.items c.args.step.lit.var.0 (Some c.args.step), length-append c.self.inside.lits.items (c.args.step.lit ∷ []), c.self.inside.lits.ok.0, c.self.invariant.room)

pub invariant_of-self : goal.invariant_of-self
invariant_of-self c =
    record {
      says =
          rw c.push_reserved.ensures.items
          (tied _ _ _ (stored_push _ _ _ c.args.step (is_stored c.self.inside.by_variable.items c.self.inside.lits.items c.args.self.now c.self.view_is c.self.invariant.says) c.requires.reserved c.requires.shaped));
      room = omega (arith, length-set c.self.inside.by_variable.items c.args.step.lit.var.0 (Some c.args.step), c.push_reserved.ensures.capacity, c.self.invariant.room);
    }

pub returns : goal.returns
returns c =
    rw c.push_reserved.ensures.items
    (stored_push _ _ _ c.args.step (is_stored c.self.inside.by_variable.items c.self.inside.lits.items c.args.self.now c.self.view_is c.self.invariant.says) c.requires.reserved c.requires.shaped).value
