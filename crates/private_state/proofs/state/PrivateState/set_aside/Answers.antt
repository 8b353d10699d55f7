use Rattle.std.proofs.Common.{◌≡◌, ◌∙◌, Some, ap, sym, rules}
use Rattle.var_maps.specs.Maps.{inner_at}
use Rattle.state_laws.specs.Kernel.{Kernel, state_of}
use Rattle.private_state.specs.Bounds.{meets_bound}
use Rattle.private_state.specs.Kept.{kernel_of}
use Rattle.private_state.proofs.Renaming.{bounded_read}
use Rattle.private_state.proofs.Resolving.{block_active}
use Rattle.private_state.proofs.state.PrivateState.set_aside.Goals as goal

pub set_aside-requires : goal.set_aside-requires
set_aside-requires c =
    let e : inner_at c.self.inside.maps c.args.var.0 ≡ Some c.unwrap-inner.result = search rules in
    sym (bounded_read c.self.inside.maps c.args.var.0 c.unwrap-inner.result c.self.inside.store.held c.to_inner.ensures.matched e (block_active (kernel_of c.self.inside) c.args.var.0 c.self.invariant.standing))
    ∙ (ap (λ (k : Kernel). meets_bound (state_of k) c.args.var.0) c.self.view_is ∙ c.requires.over)
