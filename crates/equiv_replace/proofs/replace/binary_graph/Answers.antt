use Rattle.std.proofs.Common.{◌*◌, ◌∙◌, ◌≤◌, ◌^◌, List, sym, subst, arith}
use Rattle.equiv_replace.specs.declared.edges.Edge.{Edge}
use Rattle.equiv_replace.specs.Rows.{StartInside}
use Rattle.equiv_replace.proofs.Building.{edges_start, all_below}
use Rattle.equiv_replace.proofs.replace.binary_graph.Goals as goal

pub binary_edges-requires : goal.binary_edges-requires
binary_edges-requires c = all_below (2 * c.args.vars) (2 ^ 32) c.args.store.now.held (let l : c.args.vars ≤ 2 ^ 31 = c.requires.few in omega arith) c.requires.below

pub of-requires-clause-inside : goal.of-requires-clause-inside
of-requires-clause-inside c = subst (λ (es : List Edge). StartInside (2 * c.args.vars) es) (sym (c.deref.ensures.value ∙ c.in_ok-edges.ensures)) (edges_start (2 * c.args.vars) c.args.store.now.held c.requires.below)
