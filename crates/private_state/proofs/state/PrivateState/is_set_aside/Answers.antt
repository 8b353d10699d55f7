use Rattle.std.proofs.Common.{◌≡◌, ◌∙◌, Some, ap, sym, rules}
use Rattle.var_maps.specs.Maps.{inner_at}
use Rattle.state_laws.specs.Kernel.{Kernel, state_of}
use Rattle.private_state.specs.Bounds.{meets_bound}
use Rattle.private_state.specs.Kept.{kernel_of}
use Rattle.private_state.proofs.Renaming.{bounded_read}
use Rattle.private_state.proofs.Resolving.{block_active}
use Rattle.private_state.proofs.state.PrivateState.is_set_aside.Goals as goal

pub returns : goal.returns
returns c = λ t.
    let e : inner_at c.self.inside.maps c.args.var.0 ≡ Some c.unwrap-inner.result = search rules in
    ap (λ (k : Kernel). meets_bound (state_of k) c.args.var.0) (sym c.self.view_is)
    ∙ (bounded_read c.self.inside.maps c.args.var.0 c.unwrap-inner.result c.self.inside.store.held c.to_inner.ensures.matched e (block_active (kernel_of c.self.inside) c.args.var.0 c.self.invariant.standing)
    ∙ c.is_set_aside.ensures t)
