use Rattle.std.proofs.Common.{◌≡◌, ℕ, [], true, length, map, max, refl, sym, ap, subst, ◌∙◌}
use Rattle.trail.specs.Trail.{Assignment}
use Rattle.clause_store.specs.Store.{Store}
use Rattle.var_maps.specs.Maps.{Maps, Matched}
use Rattle.propagate.specs.Watching.{clauses_below, taken_as}
use Rattle.sat_lits.specs.declared.literal.Inner.{Inner}
use Rattle.search.specs.InUse.{in_use}
use Rattle.search.proofs.Using.{clauses_among_below}
use Rattle.search.proofs.Owning.{held_among}
use Rattle.search.proofs.Passing.{passed_none}
use Rattle.search.proofs.Starting.{prepared_just, begun}
use Rattle.search.proofs.work.Work.begin.Goals as goal
use Rattle.search.proofs.work.Work.begin.Goals.{After-clauses}

variables_are : (c : After-clauses) → c.inner_len-variables.result ≡ length c.args.state.now.maps.owners
variables_are c = c.inner_len-variables.ensures.value ∙ ap (λ (m : Maps). length m.owners) c.maps.ensures.value

pub prepare-requires-2 : goal.prepare-requires-2
prepare-requires-2 c =
    subst (λ (s : Store). clauses_below c.inner_len-variables.result s.held ≡ true) (sym c.clauses.ensures.value)
    (subst (λ (n : ℕ). clauses_below n c.args.state.now.store.held ≡ true) (sym (variables_are c)) (clauses_among_below c.args.state.now.maps.owners c.args.state.now.store.held (held_among c.args.state.now c.maps.ensures.standing)))

pub returns-clause-at : goal.returns-clause-at
returns-clause-at c =
    begun c.args.state.now
    (record { trail = c.reserve.new.self; watches = c.prepare-2.new.self; order = c.prepare.new.self; analyzer = c.args.self.now.analyzer; assumptions = c.in_ok-self.field-0; positions = c.clear.new.self; next = 0; conflicts = 0 })
    c.args.assumptions.now c.inner_len-variables.result (variables_are (goal.at.returns-clause-at c).After-clauses)
    (c.in_ok-reserve.ensures.ok ∙ ap (λ (t : Assignment). record { steps = t.steps; reserved = max t.reserved c.inner_len-variables.result }) c.new.ensures)
    (c.in_ok-prepare-2.ensures.ok ∙ ap (λ (s : Store). record { taken = map taken_as s.held; done = []; variables = c.inner_len-variables.result }) c.clauses.ensures.value)
    (prepared_just c.as_slice.result.now c.args.phase c.args.self.now.order.known c.prepare.new.self.known (in_use c.args.state.now.maps) c.in_ok-prepare.ensures.ok
    (ap (map (λ (i : Inner). i.0)) c.as_slice.ensures ∙ (c.in_ok-numbers.ensures ∙ ap in_use c.maps-2.ensures.value)))
    (passed_none c.prepare.new.self [] c.in_ok-prepare.ensures.passed) c.in_ok-self.ensures c.clear.ensures refl refl c.maps.ensures.standing c.requires.active c.requires.few

pub returns-clause-matched : goal.returns-clause-matched
returns-clause-matched c = subst Matched c.maps.ensures.value c.inner_len-variables.ensures.matched
