use Rattle.std.proofs.Common.{◌≤◌, length, max, take_all, arith}
use Rattle.trail.proofs.Tables.{IsStored, is_stored, stored_within, stored_more, tied}
use Rattle.trail.proofs.trail.Trail.reserve.Goals as goal
use Rattle.trail.proofs.trail.Trail.reserve.Goals.{In_ok-resize}

pub overflow_sub-variables : goal.overflow_sub-variables
overflow_sub-variables c =
    let h : IsStored c.self.inside.by_variable.items c.self.inside.lits.items c.args.self.now = is_stored _ _ _ c.self.view_is c.self.invariant.says in
    omega (arith, stored_within _ _ _ h, c.self.inside.lits.ok.0, c.self.inside.by_variable.ok.0)

grown : (c : In_ok-resize) → IsStored c.resize.new.self.items c.reserve.new.self.items (record c.args.self.now { reserved = max c.args.self.now.reserved c.args.variables })
grown c =
    let l : length c.self.inside.by_variable.items ≤ c.args.variables = omega (arith, c.self.inside.by_variable.ok.0) in
    rw (c.in_ok-reserve.ensures.items, c.in_ok-resize.ensures.items, c.self.inside.by_variable.ok.0, take_all c.args.variables c.self.inside.by_variable.items l)
    (stored_more _ _ _ c.args.variables (is_stored _ _ _ c.self.view_is c.self.invariant.says) l (omega arith))

pub invariant_of-self-2 : goal.invariant_of-self-2
invariant_of-self-2 c =
    record {
      says = tied _ _ _ (grown c);
      room = omega (arith, c.in_ok-reserve.ensures.ok, c.in_ok-reserve.ensures.len, c.in_ok-resize.ensures.len, c.resize.new.self.ok.0);
    }

pub returns-clause-ok : goal.returns-clause-ok
returns-clause-ok c = (grown c).value
