use Rattle.std.proofs.Common.{◌++◌, ◌∷◌, [], sym, subst, List, take}
use Rattle.sat_lits.specs.declared.literal.OwnLit.{OwnLit}
use Rattle.state_laws.specs.Resolution.{joins}
use Rattle.removed_vars.specs.Fresh.{Stores}
use Rattle.private_state.proofs.Resolving.{joins_right}
use Rattle.private_state.proofs.resolve.add_each_joined.Goals as goal

pub each-preserved : goal.each-preserved
each-preserved c = λ cs s.
    subst (λ (z : List (List OwnLit)). Stores c.args.maps.now c.add_joined.new.to.items z) (sym (joins_right c.args.left.now c.args.rights.now c.each.right-index c.right-item.result cs c.right-item.is c.each-test.true))
    (rw c.as_slice.ensures at (c.in_ok-add_joined.ensures (cs ++ joins (c.args.left.now ∷ []) (take c.each.right-index c.args.rights.now)) (c.each.invariant cs s)))
