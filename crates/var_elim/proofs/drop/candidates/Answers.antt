use Rattle.std.proofs.Common.{◌≡◌, ◌∙◌, ap}
use Rattle.std.specs.List.{list_any}
use Rattle.indexed_store.specs.Lists.{is_in}
use Rattle.indexed_store.specs.Occurrences.{clauses_at}
use Rattle.var_elim.proofs.Subsuming.{found_all, same_lits}
use Rattle.var_elim.proofs.drop.candidates.Goals as goal

pub returns : goal.returns
returns c = λ h e.
    let l : h.lits ≡ c.lits-lits.result.now = same_lits c.args.state.now.store.held c.args.by.0 h c.lits-lits.result.now e (rw c.clauses-store.ensures.value at c.lits-lits.ensures.value) in
    found_all c.args.state.now.store.held h c.rarest-var.result.0 c.in_ok-ids.ids.items (ap (list_any (is_in c.rarest-var.result.0)) l ∙ c.rarest-var.ensures)
    (ap (clauses_at c.args.state.now.store.held) (c.in_ok-ids.ensures.items_if_clones_equal (λ x y q. q)) ∙ c.occurrences.ensures.value)
