use Rattle.std.proofs.Common.{◌≡◌, ◌≤◌, ◌-◌, ℕ, true, List, Option, length, option_map, IfSome, refl, subst, sym, ap, ◌∙◌}
use Rattle.std.specs.List.{list_all}
use Rattle.sat_lits.specs.Conflicts.{own_count}
use Rattle.sat_lits.specs.declared.literal.Lit.{Lit}
use Rattle.state_laws.specs.State.{problem_of}
use Rattle.state_laws.specs.Kernel.{Kernel, state_of, Standing}
use Rattle.sync_laws.specs.Met.{KeepsMet}
use Rattle.sync_laws.specs.KeepLaws.{keeps_trans}
use Rattle.search.specs.Answers.{IsBelow}
use Rattle.one_solver.specs.Assuming.{IsMappedTo}
use Rattle.one_solver.specs.InStep.{EntriesFollow, follow_same}
use Rattle.one_solver.specs.Kept.{parts_of}
use Rattle.one_solver.specs.Parts.{Parts, problem_in, CanAssume}
use Rattle.one_solver.specs.Roots.{is_free}
use Rattle.one_solver.specs.Steps.{IsUnderWay, StepsRight, SpendsLimit}
use Rattle.one_solver.proofs.Assumptions.{lits_few, lits_active, still_mapped}
use Rattle.one_solver.proofs.Counting.{own_few, spends, ends, over_right, still_known}
use Rattle.one_solver.proofs.solver.OneSolver.search_under.Goals as goal
use Rattle.one_solver.proofs.solver.OneSolver.search_under.Goals.{After-left_of-left}
use Rattle.one_solver.proofs.solver.OneSolver.search_under.Given.{Over}

-- what is left of the limit, of the conflicts that were made before
left : (g : Over) (c : After-left_of-left g) → c.left_of-left.result ≡ option_map (λ m. m - c.self.inside.tally) c.args.limit
left g c = c.left_of-left.ensures.value ∙ ap (λ (n : ℕ). option_map (λ m. m - n) c.args.limit) c.count.ensures

-- they were within the limit
within : (g : Over) (c : After-left_of-left g) → IfSome c.args.limit (λ m. c.self.inside.tally ≤ m)
within g c = subst (λ (s : Parts). IfSome c.args.limit (λ m. s.conflicts ≤ m)) (sym c.self.view_is) c.requires.within

under_way : (g : Over) (c : After-left_of-left g) → IsUnderWay (parts_of c.self.inside)
under_way g c = subst (λ (s : Parts). IsUnderWay s) (sym c.self.view_is) c.requires.under_way

-- a search leaves what assumptions come to
searched_free : (k n : Kernel) (lits : List Lit) → n ≡ record k { store = n.store } → list_all (is_free k) lits ≡ true → list_all (is_free n) lits ≡ true
searched_free k n lits e f = ap (λ (z : Kernel). list_all (is_free z) lits) e ∙ f

searched_can : (old new : Parts) → new.kernel ≡ record old.kernel { store = new.kernel.store } → new.assumptions ≡ old.assumptions → CanAssume old → CanAssume new
searched_can old new e f a =
    record {
      assumed = still_known old new (ap (λ (k : Kernel). problem_of (state_of k)) e) f a.assumed;
      free = ap (list_all (is_free new.kernel)) f ∙ searched_free old.kernel new.kernel old.assumptions e a.free;
    }

can_assume : (g : Over) (c : After-left_of-left g) → CanAssume (parts_of c.self.inside)
can_assume g c = subst (λ (s : Parts). CanAssume s) (sym c.self.view_is) c.requires.assumed

-- there are few own variables
few : (g : Over) (c : After-left_of-left g) → length c.self.inside.state.maps.inners ≤ own_count (problem_in (parts_of c.self.inside))
few g c = own_few c.self.inside.state (subst (λ (s : Parts). Standing s.kernel) (sym c.self.view_is) c.requires.standing) c.self.invariant

pub returns-in-IntervalOver-clause-right : goal.returns-in-IntervalOver-clause-right
returns-in-IntervalOver-clause-right g c =
    let d : After-left_of-left g = (goal.at.returns-in-IntervalOver-clause-right g c).After-left_of-left in
    let old : Parts = parts_of c.self.inside in
    let made : ℕ = c.run_interval-answer.new.self in
    subst (λ (s : Parts). StepsRight s c.end_interval.new.self c.args.limit (g.S.Alarm.raises c.args.stop.now) (g.S.Alarm.raises c.run_interval-answer.new.stop) c.end_interval.result) c.self.view_is
    (over_right old c.end_interval.new.self c.args.limit (g.S.Alarm.raises c.args.stop.now) (g.S.Alarm.raises c.run_interval-answer.new.stop) c.end_interval.result c.end_interval.ensures.answer
    (λ e. ends old c.end_interval.new.self c.args.limit made (length old.kernel.maps.inners) (under_way g d) (within g d) c.in-IntervalOver.ensures.ends.0
    (subst (λ (o : Option ℕ). IsBelow made o) (left g d) c.in-IntervalOver.ensures.ends.1) c.in-IntervalOver.ensures.own (few g d) (c.end_interval.ensures.conflicts ∙ c.in-IntervalOver.ensures.tallied) (c.end_interval.ensures.over e)
    (c.end_interval.ensures.problem ∙ ap (λ (k : Kernel). problem_of (state_of k)) c.in-IntervalOver.ensures.learned.same) c.end_interval.ensures.assumptions))

pub returns-in-Spent-clause-right : goal.returns-in-Spent-clause-right
returns-in-Spent-clause-right g c =
    let d : After-left_of-left g = (goal.at.returns-in-Spent-clause-right g c).After-left_of-left in
    let old : Parts = parts_of c.self.inside in
    let new : Parts = record old { kernel = c.run_interval-answer.new.state; conflicts = c.run_interval-answer.new.tally } in
    subst (λ (s : Parts). SpendsLimit (problem_in s) c.args.limit new.conflicts c.count-in-Spent.result) c.self.view_is
    (spends old new c.args.limit c.run_interval-answer.new.self (length old.kernel.maps.inners) c.count-in-Spent.result (under_way g d) (within g d) c.left_of-left.ensures.range (sym (left g d) ∙ c.in-Spent.ensures.ends.0)
    c.in-Spent.ensures.own (few g d) c.in-Spent.ensures.tallied c.count-in-Spent.ensures)

-- what the assumptions were mapped to, as the fields have it
ready : (g : Over) (c : After-left_of-left g) → IsMappedTo (parts_of c.self.inside) c.args.lits.now c.args.positions.now
ready g c = subst (λ (s : Parts). IsMappedTo s c.args.lits.now c.args.positions.now) (sym c.self.view_is) c.requires.ready

pub run_interval-answer-requires-clause-few : goal.run_interval-answer-requires-clause-few
run_interval-answer-requires-clause-few g c = lits_few c.args.self.now c.args.lits.now c.args.positions.now c.requires.ready c.requires.assumed.assumed

pub run_interval-answer-requires-clause-active : goal.run_interval-answer-requires-clause-active
run_interval-answer-requires-clause-active g c = lits_active c.self.inside.state.maps c.args.lits.now (let r : IsMappedTo (parts_of c.self.inside) c.args.lits.now c.args.positions.now = subst (λ (s : Parts). IsMappedTo s c.args.lits.now c.args.positions.now) (sym c.self.view_is) c.requires.ready in r.kept.owned)

pub sat-requires-clause-ready : goal.sat-requires-clause-ready
sat-requires-clause-ready g c =
    let d : After-left_of-left g = (goal.at.sat-requires-clause-ready g c).After-left_of-left in
    still_mapped (parts_of c.self.inside) (record (parts_of c.self.inside) { kernel = c.run_interval-answer.new.state }) c.args.lits.now c.args.positions.now c.in-Model.ensures.learned.same refl (ready g d)

pub unsat_under-requires-clause-ready : goal.unsat_under-requires-clause-ready
unsat_under-requires-clause-ready g c =
    let d : After-left_of-left g = (goal.at.unsat_under-requires-clause-ready g c).After-left_of-left in
    still_mapped (parts_of c.self.inside) (record (parts_of c.self.inside) { kernel = c.run_interval-answer.new.state }) c.args.lits.now c.args.positions.now c.in-Failed.ensures.learned.same refl (ready g d)

pub sat-requires-clause-assumed : goal.sat-requires-clause-assumed
sat-requires-clause-assumed g c =
    let d : After-left_of-left g = (goal.at.sat-requires-clause-assumed g c).After-left_of-left in
    searched_can (parts_of c.self.inside) (record (parts_of c.self.inside) { kernel = c.run_interval-answer.new.state; conflicts = c.run_interval-answer.new.tally }) c.in-Model.ensures.learned.same refl (can_assume g d)

pub unsat_under-requires-clause-assumed : goal.unsat_under-requires-clause-assumed
unsat_under-requires-clause-assumed g c =
    let d : After-left_of-left g = (goal.at.unsat_under-requires-clause-assumed g c).After-left_of-left in
    searched_can (parts_of c.self.inside) (record (parts_of c.self.inside) { kernel = c.run_interval-answer.new.state; conflicts = c.run_interval-answer.new.tally }) c.in-Failed.ensures.learned.same refl (can_assume g d)

pub unsat_under-requires-clause-entries : goal.unsat_under-requires-clause-entries
unsat_under-requires-clause-entries g c =
    follow_same (parts_of c.self.inside) (record (parts_of c.self.inside) { kernel = c.run_interval-answer.new.state; conflicts = c.run_interval-answer.new.tally })
    (ap (λ (k : Kernel). problem_of (state_of k)) c.in-Failed.ensures.learned.same) (ap (λ (k : Kernel). k.entries) c.in-Failed.ensures.learned.same) (subst EntriesFollow (sym c.self.view_is) c.requires.entries)

pub returns-in-Failed-clause-met : goal.returns-in-Failed-clause-met
returns-in-Failed-clause-met g c =
    subst (λ (s : Parts). KeepsMet (state_of s.kernel) (state_of c.unsat_under.new.self.kernel)) c.self.view_is
    (keeps_trans (state_of c.self.inside.state) (state_of c.run_interval-answer.new.state) (state_of c.unsat_under.new.self.kernel) c.in-Failed.ensures.kept c.unsat_under.ensures.met)

pub returns-in-IntervalOver-clause-met : goal.returns-in-IntervalOver-clause-met
returns-in-IntervalOver-clause-met g c =
    subst (λ (s : Parts). KeepsMet (state_of s.kernel) (state_of c.end_interval.new.self.kernel)) c.self.view_is
    (keeps_trans (state_of c.self.inside.state) (state_of c.run_interval-answer.new.state) (state_of c.end_interval.new.self.kernel) c.in-IntervalOver.ensures.kept c.end_interval.ensures.met)
