use Rattle.std.proofs.Common.{◌≡◌, ◌+◌, ◌-◌, ◌∙◌, ap, length, get_or, List, ℕ, subst, arith}
use Rattle.std.proofs.lemmas.List.{length-replicate, with_items_is}
use Rattle.std.specs.Vec.{with_items}
use Rattle.equiv_replace.specs.Rows.{StartInside}
use Rattle.equiv_replace.proofs.Rowing.{get_zero}
use Rattle.equiv_replace.proofs.graph.Graph.of.Goals as goal

pub fill_rows-requires-clause-zero : goal.fill_rows-requires-clause-zero
fill_rows-requires-clause-zero c = λ a. ap (λ (xs : List ℕ). get_or xs a 0) (c.deref_mut.ensures.value ∙ c.in_ok-starts.ensures) ∙ get_zero (c.args.nodes + 1) a

-- there is a start more than there are nodes
long : (c : goal.After-deref_mut-2) → length c.deref_mut.result.now ≡ c.args.nodes + 1
long c = ap length (c.deref_mut.ensures.value ∙ c.in_ok-starts.ensures) ∙ length-replicate (c.args.nodes + 1) 0

pub fill_rows-requires-clause-inside : goal.fill_rows-requires-clause-inside
fill_rows-requires-clause-inside c = let l : length c.deref_mut.result.now ≡ c.args.nodes + 1 = long c in let e : c.args.nodes ≡ length c.deref_mut.result.now - 1 = omega arith in subst (λ n. StartInside n c.args.edges.now) e c.requires.inside

starts_are : (c : goal.After-heads-3-1) → (with_items c.in_ok-starts.starts c.fill_rows.new.starts).items ≡ c.fill_rows.new.starts
starts_are c = with_items_is c.in_ok-starts.starts c.fill_rows.new.starts (omega (arith, c.fill_rows.auto.starts, c.deref_mut.ensures.len, c.in_ok-starts.starts.ok.0))

heads_are : (c : goal.After-heads-3-1) → (with_items c.in_ok-heads.heads c.fill_rows.new.heads).items ≡ c.fill_rows.new.heads
heads_are c = with_items_is c.in_ok-heads.heads c.fill_rows.new.heads (omega (arith, c.fill_rows.auto.heads, c.deref_mut-2.ensures.len, c.in_ok-heads.heads.ok.0))

pub invariant_of-result : goal.invariant_of-result
invariant_of-result c = rw (starts_are c, heads_are c) c.fill_rows.ensures.kept

pub returns-clause-nodes : goal.returns-clause-nodes
returns-clause-nodes c = rw (starts_are c, heads_are c) (omega (arith, c.fill_rows.ensures.nodes, c.fill_rows.auto.starts, c.deref_mut.ensures.len, c.in_ok-starts.starts.ok.0, ap length c.in_ok-starts.ensures, length-replicate {A = ℕ} (c.args.nodes + 1) 0))

pub returns-clause-heads : goal.returns-clause-heads
returns-clause-heads c = rw (starts_are c, heads_are c) c.fill_rows.ensures.heads_are
