use Rattle.std.proofs.Common.{◌∙◌}
use Rattle.std.specs.Vec.{vec_len}
use Rattle.equiv_replace.proofs.Rowing.{resized}
use Rattle.equiv_replace.proofs.graph.zeros.Goals as goal

pub returns : goal.returns
returns c = c.in_ok-resize.ensures.items ∙ resized c.new-zeros.result.items 0 c.args.count (vec_len c.new-zeros.result) c.new-zeros.ensures.items c.new-zeros.ensures.len
