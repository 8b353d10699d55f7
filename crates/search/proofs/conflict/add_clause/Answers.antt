use Rattle.std.proofs.Common.{subst}
use Rattle.var_maps.specs.Maps.{Matched}
use Rattle.search.proofs.Owning.{may_learn}
use Rattle.search.proofs.conflict.add_clause.Goals as goal

pub learn-requires : goal.learn-requires
learn-requires c = may_learn c.args.state.now c.args.lits.now (subst Matched c.maps.ensures.value c.inner_len-len.ensures.matched) c.requires.active c.requires.once c.requires.follows
