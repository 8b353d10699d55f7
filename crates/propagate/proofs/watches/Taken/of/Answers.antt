use Rattle.propagate.proofs.Walking.{taken_one}
use Rattle.propagate.proofs.watches.Taken.of.Goals as goal

pub returns : goal.returns
returns c = taken_one c.of.result.value c.args.store.now c.args.id c.of.ensures c.requires
