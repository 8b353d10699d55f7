use Rattle.std.proofs.Common.{◌∙◌, sym}
use Rattle.data_sync.specs.BinaryLaws.{owner_there}
use Rattle.data_sync.proofs.binaries.outer_in.Goals as goal

pub to_outer-requires : goal.to_outer-requires
to_outer-requires c = owner_there c.args.maps.now c.args.lit.var.0 c.in_ok-own.own c.at_inner.ensures.matched (sym c.at_inner.ensures.value ∙ c.in_ok-own.was)
