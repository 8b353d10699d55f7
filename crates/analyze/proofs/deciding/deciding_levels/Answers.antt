use Rattle.std.proofs.Common.{◌≡◌, ◌≤◌, ◌∙◌, ℕ, List, ap, subst, reverse, length}
use Rattle.std.specs.List.{refill}
use Rattle.std.proofs.lemmas.List.{length-reverse}
use Rattle.analyze.specs.FinalSets.{IsFinalSet}
use Rattle.analyze.proofs.Entailing.{on_ok}
use Rattle.analyze.proofs.Decisions.{decisions_start, decisions_end, refilled}
use Rattle.analyze.proofs.deciding.deciding_levels.Goals as goal

pub falling_levels-requires-clause-start : goal.falling_levels-requires-clause-start
falling_levels-requires-clause-start c =
    decisions_start c.args.store.now.held c.args.trail.now c.args.lit c.start.new.self c.mark.new.self c.in_ok-_level._level c.reserved.ensures.kept c.requires.reasoned c.requires.false_lit
    (subst (λ (n : ℕ). n ≤ c.start.new.self.room) c.reserved.ensures.value c.in_ok-start.ensures.enough) c.in_ok-_level.ensures

pub returns : goal.returns
returns c =
    let turned : c.reverse.new.self ≡ reverse c.in_ok-levels.levels.items = c.reverse.ensures.after ∙ ap reverse c.as_mut_slice.ensures.value in
    let read : c.as_slice.result.now ≡ reverse c.in_ok-levels.levels.items =
    c.as_slice.ensures
    ∙ (ap (refill (length c.in_ok-levels.levels.items) c.in_ok-levels.levels.items) turned ∙ refilled c.in_ok-levels.levels.items (reverse c.in_ok-levels.levels.items) (length-reverse c.in_ok-levels.levels.items)) in
    on_ok c.from_slice.result (λ (list : List ℕ). list ≡ c.as_slice.result.now) (λ (list : List ℕ). IsFinalSet c.args.store.now.held c.args.trail.now.steps c.args.lit list)
    (λ list e. decisions_end c.args.store.now.held c.args.trail.now c.args.lit c.falling_levels.new.marks c.in_ok-levels.levels.items list c.in_ok-levels.ensures (e ∙ read)) c.from_slice.ensures
