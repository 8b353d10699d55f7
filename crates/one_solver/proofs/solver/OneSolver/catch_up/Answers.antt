use Rattle.std.proofs.Common.{◌≡◌, List, refl, sym, subst}
use Rattle.sat_lits.specs.declared.shared.Shared.{Shared}
use Rattle.state_laws.specs.State.{outer_count}
use Rattle.state_laws.specs.Kernel.{state_of}
use Rattle.data_sync.specs.Syncs.{InStepWith, Synced}
use Rattle.one_solver.specs.InStep.{GoesOn, in_step_with, with_in_step, settled_in, turn_goes_on}
use Rattle.one_solver.specs.Kept.{parts_of}
use Rattle.one_solver.specs.Parts.{Parts, problem_in, SameCall}
use Rattle.one_solver.specs.Steps.{IsUnderWay}
use Rattle.one_solver.proofs.Counting.{still_under_way}
use Rattle.one_solver.proofs.solver.OneSolver.catch_up.Goals as goal

pub sync-requires-clause-step : goal.sync-requires-clause-step
sync-requires-clause-step c =
    subst (λ (s : Parts). InStepWith (state_of s.kernel) s.book c.args.store.now) (sym c.self.view_is) (in_step_with c.args.self.now c.args.store.now c.requires.in_step)

pub returns-in_err-report-clause-grows : goal.returns-in_err-report-clause-grows
returns-in_err-report-clause-grows c =
    subst (λ (s : Parts). GoesOn s.number c.args.store.now c.sync.new.store) c.self.view_is (turn_goes_on _ c.self.inside.number _ c.args.store.now _ c.sync.new.store c.sync.ensures.synced.turn)

pub returns-in_err-report-clause-in_step : goal.returns-in_err-report-clause-in_step
returns-in_err-report-clause-in_step c = with_in_step _ c.sync.new.store c.sync.ensures.synced.step

pub returns-clause-grows : goal.returns-clause-grows
returns-clause-grows c =
    subst (λ (s : Parts). GoesOn s.number c.args.store.now c.sync.new.store) c.self.view_is (turn_goes_on _ c.self.inside.number _ c.args.store.now _ c.sync.new.store c.sync.ensures.synced.turn)

pub returns-clause-in_step : goal.returns-clause-in_step
returns-clause-in_step c = with_in_step _ c.sync.new.store c.sync.ensures.synced.step

pub returns-clause-settled : goal.returns-clause-settled
returns-clause-settled c = settled_in _ c.sync.new.store c.in_ok-report.ensures.settled

-- a call that is under way goes on
goes_on : (old now new : Parts) (log more : List Shared) → old ≡ now → Synced (state_of old.kernel) (state_of new.kernel) old.number log more new.book → SameCall old new → IsUnderWay now → IsUnderWay new
goes_on old now new log more e s call u =
    let same : problem_in new ≡ problem_in old = (λ i. record { vars = outer_count (s.definitions i); items = s.items i }) in
    still_under_way old new same call (subst IsUnderWay (sym e) u)

pub returns-in_err-report-clause-call : goal.returns-in_err-report-clause-call
returns-in_err-report-clause-call c =
    goes_on (parts_of c.self.inside) c.args.self.now (record (parts_of c.self.inside) { kernel = c.sync.new.state; book = c.sync.new.self }) c.args.store.now c.sync.new.store c.self.view_is c.sync.ensures.synced
    (record { number = refl; conflicts = refl; interval = refl; assumptions = refl })

pub returns-clause-call : goal.returns-clause-call
returns-clause-call c =
    goes_on (parts_of c.self.inside) c.args.self.now (record (parts_of c.self.inside) { kernel = c.sync.new.state; book = c.sync.new.self; took = c.in_ok-report.report.took }) c.args.store.now c.sync.new.store c.self.view_is c.sync.ensures.synced
    (record { number = refl; conflicts = refl; interval = refl; assumptions = refl })
