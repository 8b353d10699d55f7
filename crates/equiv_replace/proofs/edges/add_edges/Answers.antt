use Rattle.std.proofs.Common.{◌^◌}
use Rattle.equiv_replace.proofs.Building.{found_below, var_fits}
use Rattle.equiv_replace.proofs.edges.add_edges.Goals as goal

pub edge_of-requires-clause-lit : goal.edge_of-requires-clause-lit
edge_of-requires-clause-lit c = var_fits c.in-Some.first (found_below (2 ^ 32) c.args.store.now.held c.args.id.0 c.in-Some.first c.in-Some.second c.requires.live c.requires.below c.in-Some.ensures).0

pub edge_of-requires-clause-other : goal.edge_of-requires-clause-other
edge_of-requires-clause-other c = var_fits c.in-Some.second (found_below (2 ^ 32) c.args.store.now.held c.args.id.0 c.in-Some.first c.in-Some.second c.requires.live c.requires.below c.in-Some.ensures).1
