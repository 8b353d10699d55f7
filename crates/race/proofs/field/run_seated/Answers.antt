use Rattle.std.proofs.Common.{◌≡◌, ℕ, ◌<◌, length, get_or, sym, ap, subst, ◌∙◌, arith}
use Rattle.one_solver.specs.Parts.{Parts}
use Rattle.race.specs.Homes.{IsHome}
use Rattle.race.specs.Running.{IsSeated}
use Rattle.race.specs.Seating.{IsSeatOf, IsDone}
use Rattle.share_turn.specs.declared.view.Question.{Question}
use Rattle.share_store.specs.Laws.{starts_trans}
use Rattle.race.proofs.Outing.{enters, done_after, read_back}
use Rattle.race.proofs.Homing.{at_place, new_is_home}
use Rattle.race.proofs.field.run_seated.Goals as goal

pub run_led-led-requires-clause-first_seated : goal.run_led-led-requires-clause-first_seated
run_led-led-requires-clause-first_seated g c κs within =
    let v = c.args.first.view in
    let f = c.args.task.now.formula.now.problem in
    let s = get_or c.args.solvers.now 0 c.index-solvers-0.result in
    let known : 0 < v.question.solvers = omega (arith, c.requires.count, c.requires.all) in
    subst (λ (p : Parts). IsSeated c.args.task.now.limit p v) (sym c.replace-solver.ensures.value)
    (enters c.args.task.now.limit f 0 s v (ap (λ b. b.problem) c.requires.asked.formula_is) c.requires.leading.free known c.requires.leading.legal (c.requires.lead c.index-solvers-0.result))

pub gather-requires-clause-first_number : goal.gather-requires-clause-first_number
gather-requires-clause-first_number g c =
    c.run_led-led.ensures.first_number ∙ (ap (λ (p : Parts). p.number) c.replace-solver.ensures.value ∙ (c.requires.lead c.index-solvers-0.result).number)

pub gather-requires-clause-homes : goal.gather-requires-clause-homes
gather-requires-clause-homes g c =
    let limit = c.args.task.now.limit in
    let f = c.args.task.now.formula.now.problem in
    let xs = c.args.solvers.now in
    let s = c.replace-solver.new.dest in
    let n = c.new.ensures in
    let seen = c.run_led-led.result.pass.view.seen in
    at_place xs 0 s (omega (arith, c.requires.count)) (IsHome limit f seen)
    (subst (IsHome limit f seen 0) (sym c.replace-solver.ensures.after)
    (new_is_home limit f seen 0 c.new.result n.number (record { problem = n.problem; okay = n.okay; conflicts = n.conflicts; in_step = n.in_step })))
    (λ k d ne w. let left = c.requires.left k d (omega (arith, ne)) w in new_is_home limit f seen k (get_or xs k d) left.number left.new)

pub gather-requires-clause-done : goal.gather-requires-clause-done
gather-requires-clause-done g c k d within =
    let limit = c.args.task.now.limit in
    let table = c.args.exchange.now in
    let led = c.run_led-led.ensures in
    let q : Question = c.run_led-led.result.pass.view.question in
    let items = c.args.others.items in
    let was = c.as_mut_slice.result.now in
    let now = c.run_led-led.new.others in
    let read : was ≡ items = c.as_mut_slice.ensures.value in
    let long : length now ≡ length items = c.run_led-led.auto.others ∙ ap length read in
    let there : k < length items = omega (arith, within, c.args.others.ok.0) in
    let seat : IsSeatOf limit q table k (get_or items k d).solver (get_or items k d).watch.pass =
    subst (λ (x : Question). IsSeatOf limit x table k (get_or items k d).solver (get_or items k d).watch.pass) (sym led.first_pass.question) (c.requires.seats k d within) in
    let kept = led.kept k d (omega (arith, there, ap length read)) in
    let seated = led.seated k d (omega (arith, there, long)) in
    let ended = led.ended k d (omega (arith, there, long)) in
    read_back c.args.others.len now items k d (λ r. IsDone limit q table k r.solver r.watch.pass r.ending) c.args.others.ok.0 long
    (done_after limit q table k (get_or was k d).solver (get_or now k d).solver (get_or was k d).watch.pass (get_or now k d).watch.pass (get_or now k d).ending
    (subst (λ xs. IsSeatOf limit q table k (get_or xs k d).solver (get_or xs k d).watch.pass) (sym read) seat) kept seated ended)

pub returns-clause-seen : goal.returns-clause-seen
returns-clause-seen g c =
    starts_trans c.gather.result.pass.view.seen c.run_led-led.result.pass.view.seen c.args.first.view.seen c.gather.ensures.seen c.run_led-led.ensures.first_pass.seen
