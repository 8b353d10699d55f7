use Rattle.std.proofs.Common.{◌∙◌, ap, sym, subst, Option, IfSome}
use Rattle.clause_store.specs.Store.{Store}
use Rattle.state_laws.specs.Kernel.{state_of}
use Rattle.equiv_replace.specs.Binary.{HasNoCycles}
use Rattle.equiv_replace.specs.Nodes.{edges_of, IsBinaryGraph}
use Rattle.equiv_replace.specs.declared.graph.Graph.{Graph}
use Rattle.equiv_replace.proofs.Ending.{graph_of, below_of, no_edges_none, no_opposite_cycle}
use Rattle.equiv_replace.proofs.replace.replace_equivalent.Goals as goal

pub binary_graph-requires-clause-below : goal.binary_graph-requires-clause-below
binary_graph-requires-clause-below c = below_of c.args.state.now c.clauses.result.now c.maps.result.now c.inner_len-vars.result c.clauses.ensures.standing c.clauses.ensures.value c.maps.ensures.value c.inner_len-vars.ensures.value

pub replace_on_cycles-requires-clause-graph : goal.replace_on_cycles-requires-clause-graph
replace_on_cycles-requires-clause-graph c =
    graph_of c.args.state.now c.in-Some.graph c.clauses.result.now c.maps.result.now c.inner_len-vars.result c.clauses.ensures.standing c.clauses.ensures.value c.maps.ensures.value c.inner_len-vars.ensures.matched c.inner_len-vars.ensures.value
    (subst (λ (o : Option Graph). IfSome o (IsBinaryGraph c.clauses.result.now.held c.inner_len-vars.result)) c.in-Some.is c.in_ok-graph.ensures.some)

-- there is no binary clause, so there is no cycle
no_cycles : (c : goal.In-None) → HasNoCycles (state_of c.args.state.now).hard
no_cycles c = no_edges_none c.args.state.now (ap (λ (s : Store). edges_of s.held) (sym c.clauses.ensures.value) ∙ c.in_ok-graph.ensures.none c.in-None.is)

pub returns-in-None-clause-cycles : goal.returns-in-None-clause-cycles
returns-in-None-clause-cycles c = λ z o. no_cycles c

pub returns-in-None-clause-opposite : goal.returns-in-None-clause-opposite
returns-in-None-clause-opposite c = λ a o. absurd (no_opposite_cycle c.args.state.now (no_cycles c) a o)
