use Rattle.std.proofs.Common.{◌≡◌, ◌≤◌, ◌+◌, sym, subst, arith, length, take, List}
use Rattle.std.proofs.lemmas.Bool.{lt-leb}
use Rattle.sat_lits.specs.declared.literal.OwnLit.{OwnLit}
use Rattle.state_laws.specs.Resolution.{joins}
use Rattle.removed_vars.specs.Fresh.{Stores}
use Rattle.private_state.proofs.Resolving.{joins_left, joins_fewer, same_sizes}
use Rattle.private_state.proofs.resolve.join_within.Goals as goal

pub returns-then-len-most-clause-few : goal.returns-then-len-most-clause-few
returns-then-len-most-clause-few c =
    let e : length c.add_each_joined.new.to.items ≡ length (joins (take (c.each.left-index + 1) c.args.lefts.now) c.args.rights.now) = (same_sizes c.args.maps.now c.add_each_joined.new.to.items (joins (take (c.each.left-index + 1) c.args.lefts.now) c.args.rights.now)
    (subst (λ (z : List (List OwnLit)). Stores c.args.maps.now c.add_each_joined.new.to.items z) (sym (joins_left c.args.lefts.now c.args.rights.now c.each.left-index c.left-item.result c.left-item.is c.each-test.true))
    (rw c.as_slice.ensures at (c.in_ok-add_each_joined.ensures (joins (take c.each.left-index c.args.lefts.now) c.args.rights.now) c.each.invariant.stores))).become).0 in
    let f : length (joins (take (c.each.left-index + 1) c.args.lefts.now) c.args.rights.now) ≤ length (joins c.args.lefts.now c.args.rights.now) = joins_fewer c.args.lefts.now c.args.rights.now (c.each.left-index + 1) in
    sym (lt-leb (length (joins c.args.lefts.now c.args.rights.now)) c.args.most (omega (arith, c.len.ensures, c.if-len-most.true, c.add_each_joined.new.to.ok.0)))
