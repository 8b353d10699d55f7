use Rattle.std.proofs.Common.{◌≡◌, ◌+◌, ◌*◌, ◌<◌, ◌≤◌, ℕ, List, length, IfSome, sym, subst, arith}
use Rattle.race.specs.Homes.{IsEntrant, IsSettledHome}
use Rattle.sat_api.specs.Decisions.{IsFound}
use Rattle.sat_api.proofs.Pouring.{poured_each, poured_enters, poured_within}
use Rattle.sat_api.proofs.Racing.{found_right}
use Rattle.sat_api.proofs.compete.compete.Goals as goal

pub returns-clause-found : goal.returns-clause-found
returns-clause-found g c =
    let f = c.args.formula.now.problem in
    let before = c.race-answer.new.solvers in
    let many : length before ≡ length c.args.solvers.now = c.race-answer.auto.solvers in
    let some : 0 < length before = omega (arith, many, c.requires.some) in
    let raised = g.A.Alarm.raises c.args.alarm.now in
    let now = g.A.Alarm.raises c.race-answer.new.alarm in
    subst (λ (n : ℕ). IsFound f c.args.assumptions.now c.args.limit n c.args.tally.now c.pour_all.new.tally raised now c.race-answer.result) many
    (found_right f c.args.assumptions.now c.args.limit raised now before c.race-answer.result c.args.tally.now c.pour_all.new.tally some c.pour_all.ensures.sum c.race-answer.ensures.right)

pub returns-clause-limited : goal.returns-clause-limited
returns-clause-limited g c =
    let f = c.args.formula.now.problem in
    let before = c.race-answer.new.solvers in
    let many : length before ≡ length c.args.solvers.now = c.race-answer.auto.solvers in
    subst (λ (n : ℕ). IfSome c.args.limit (λ most. c.pour_all.new.tally ≤ c.args.tally.now + n * most)) many
    (poured_within c.args.limit f c.race-answer.new.store before c.args.tally.now c.pour_all.new.tally c.race-answer.ensures.solvers c.pour_all.ensures.sum)

pub returns-clause-settled : goal.returns-clause-settled
returns-clause-settled g c = record { raced = c.race-answer.new.solvers; are_poured = c.pour_all.ensures.poured; each = c.race-answer.ensures.solvers }

pub returns-clause-entrants : goal.returns-clause-entrants
returns-clause-entrants g c =
    let f = c.args.formula.now.problem in
    let log = c.race-answer.new.store in
    poured_each (IsSettledHome c.args.limit f log) (IsEntrant f log) (poured_enters c.args.limit f log) c.race-answer.new.solvers c.pour_all.new.solvers c.pour_all.ensures.poured c.race-answer.ensures.solvers
