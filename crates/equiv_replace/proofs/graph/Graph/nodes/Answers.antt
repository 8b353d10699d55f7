use Rattle.std.proofs.Common.{◌≡◌, ◌-◌, ◌<◌, ◌∙◌, ap, length, sym, arith}
use Rattle.equiv_replace.proofs.Rowing.{length-rows_of}
use Rattle.equiv_replace.proofs.graph.Graph.nodes.Goals as goal

pub returns-clause-value : goal.returns-clause-value
returns-clause-value c =
    let s : 0 < length c.self.inside.starts.items = c.self.invariant.some in
    let e : c.len.result ≡ length c.self.inside.starts.items = omega (arith, c.len.ensures, c.self.inside.starts.ok.0) in
    sym (length-rows_of c.self.inside.starts.items c.self.inside.heads.items (c.len.result - 1) (omega arith)) ∙ ap length c.self.view_is
