use Rattle.std.proofs.Common.{◌≤◌, ◌∙◌, ap, slice_range, List, ℕ, length, arith}
use Rattle.equiv_replace.proofs.Rowing.{next_inside, row_found}
use Rattle.equiv_replace.proofs.graph.Graph.heads.Goals as goal

pub index-start-requires : goal.index-start-requires
index-start-requires c = omega (arith, next_inside c.self.inside.starts.items c.self.inside.heads.items c.args.self.now c.args.node c.self.invariant.some c.self.view_is c.requires, c.self.inside.starts.ok.0)

pub index-end-requires : goal.index-end-requires
index-end-requires c = omega (arith, next_inside c.self.inside.starts.items c.self.inside.heads.items c.args.self.now c.args.node c.self.invariant.some c.self.view_is c.requires, c.self.inside.starts.ok.0)

pub row-requires-clause-rise : goal.row-requires-clause-rise
row-requires-clause-rise c = (row_found c.self.inside.starts.items c.self.inside.heads.items c.args.self.now c.args.node c.index-start.result.now c.index-end.result.now c.self.invariant c.self.view_is c.requires c.index-start.ensures c.index-end.ensures).0

pub row-requires-clause-within : goal.row-requires-clause-within
row-requires-clause-within c =
    let l : c.index-end.result.now ≤ length c.self.inside.heads.items = (row_found c.self.inside.starts.items c.self.inside.heads.items c.args.self.now c.args.node c.index-start.result.now c.index-end.result.now c.self.invariant c.self.view_is c.requires c.index-start.ensures c.index-end.ensures).1 in
    omega (arith, ap length c.deref.ensures.value)

pub returns : goal.returns
returns c =
    c.row.ensures ∙ (ap (λ (hs : List ℕ). slice_range hs c.index-start.result.now c.index-end.result.now) c.deref.ensures.value
    ∙ (row_found c.self.inside.starts.items c.self.inside.heads.items c.args.self.now c.args.node c.index-start.result.now c.index-end.result.now c.self.invariant c.self.view_is c.requires c.index-start.ensures c.index-end.ensures).2)
