use Rattle.std.proofs.Common.{rules, ◌≡◌, sym, ap, subst, ◌∙◌}
use Rattle.sat_lits.specs.Meaning.{Problem}
use Rattle.sat_lits.specs.Logs.{IsLegalLog}
use Rattle.share_turn.specs.Views.{IsLegalFor, Known, freed, got}
use Rattle.share_turn.specs.declared.view.View.{View}
use Rattle.one_solver.specs.InStep.{in_step_grows}
use Rattle.race.specs.Running.{IsSearching}
use Rattle.race.proofs.Turns.{goes_on_starts, goes_on_legal, after_turn}
use Rattle.share_store.specs.Log.{StartsWith}
use Rattle.share_store.specs.Laws.{starts_trans}
use Rattle.race.proofs.runner.Runner.turn.Goals as goal
use Rattle.race.proofs.runner.Runner.turn.Goals.{After-give}
use Rattle.race.proofs.runner.Runner.turn.Given.{Over}

-- after the store was given back
searching : (g : Over) (c : After-give g) → IsSearching c.args.task.now.limit c.catch_up-added.new.self c.give.new.self.pass.view
searching g c =
    let v = c.args.self.now.watch.pass.view in
    let log = c.in-Got.store in
    let more = c.catch_up-added.new.store in
    let seen = c.in-Got.ensures.turn in
    let e = c.catch_up-added.ensures in
    let is : c.give.new.self.pass.view ≡ freed more (got log v) = ap (λ (k : Known). k.view) c.give.ensures.pass ∙ ap (freed more) seen.2 in
    subst (IsSearching c.args.task.now.limit c.catch_up-added.new.self) (sym is)
    (after_turn c.args.task.now.limit c.args.self.now.solver c.catch_up-added.new.self v log more c.requires seen.0 e.legal e.grows e.in_step e.problem e.same)

pub catch_up-added-requires-clause-in_step : goal.catch_up-added-requires-clause-in_step
catch_up-added-requires-clause-in_step g c = in_step_grows c.args.self.now.solver c.args.self.now.watch.pass.view.seen c.in-Got.store c.in-Got.ensures.turn.1 c.requires.seated.in_step

pub give-requires-clause-legal : goal.give-requires-clause-legal
give-requires-clause-legal g c =
    let q = c.args.self.now.watch.pass.view.question in
    let e = c.catch_up-added.ensures in
    subst (λ (v : View). IsLegalFor v.question c.catch_up-added.new.store) (sym c.in-Got.ensures.turn.2)
    (goes_on_legal q c.args.self.now.solver.number c.in-Got.store c.catch_up-added.new.store c.requires.seated.known c.in-Got.ensures.turn.0
    (subst (λ (f : Problem). IsLegalLog f c.catch_up-added.new.store) (e.problem ∙ c.requires.whole) e.legal) e.grows)

pub returns-in_err-added-clause-searching : goal.returns-in_err-added-clause-searching
returns-in_err-added-clause-searching g c = searching g (goal.at.returns-in_err-added-clause-searching g c).After-give

pub returns-clause-searching : goal.returns-clause-searching
returns-clause-searching g c = searching g (goal.at.returns-clause-searching g c).After-give

pub returns-in_err-added-clause-kept : goal.returns-in_err-added-clause-kept
returns-in_err-added-clause-kept g c =
    let v = c.args.self.now.watch.pass.view in
    let log = c.in-Got.store in
    let more = c.catch_up-added.new.store in
    let seen = c.in-Got.ensures.turn in
    let e = c.catch_up-added.ensures in
    let is : c.give.new.self.pass.view ≡ freed more (got log v) = ap (λ (k : Known). k.view) c.give.ensures.pass ∙ ap (freed more) seen.2 in
    record {
      number = e.same.number;
      seat = search rules;
      seen = subst (λ (w : View). StartsWith w.seen v.seen) (sym is) (starts_trans more log v.seen (goes_on_starts c.args.self.now.solver.number log more e.grows) seen.1);
      later = search rules;
      alarm = search rules;
    }
