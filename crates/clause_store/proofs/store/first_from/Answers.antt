use Rattle.std.proofs.Common.{◌∙◌, ◌≤◌, ◌+◌, ℕ, sym, ap, subst, take_all, take, length, arith, rules}
use Rattle.clause_store.specs.Words.{held_from, places_of}
use Rattle.clause_store.specs.Laws.{before-none}
use Rattle.clause_store.proofs.Places.{before-live}
use Rattle.clause_store.proofs.Blocks.{no_lit, is_live-word, walk_step, length-places_of}
use Rattle.clause_store.proofs.store.first_from.Goals as goal

pub returns-then-is_live_header-clause-live : goal.returns-then-is_live_header-clause-live
returns-then-is_live_header-clause-live c = is_live-word c.args.words.now c.walk.place no_lit c.walk-test.true ∙ (sym c.is_live_header.ensures ∙ c.if-is_live_header.true)

pub returns-then-is_live_header-clause-before : goal.returns-then-is_live_header-clause-before
returns-then-is_live_header-clause-before c =
    before-live c.walk.place (places_of c.args.words.now) (is_live-word c.args.words.now c.walk.place no_lit c.walk-test.true ∙ (sym c.is_live_header.ensures ∙ c.if-is_live_header.true))
    ∙ c.walk.invariant.passed

pub overflow_add-place : goal.overflow_add-place
overflow_add-place c =
    let s = walk_step c.args.words.now c.walk.place no_lit c.requires.blocks c.walk-test.true (sym c.is_live_header.ensures ∙ c.if-is_live_header.false) in
    let P : ℕ → Type 0 = λ n. c.walk.place + n ≤ length c.args.words.now in
    let l : c.walk.place + c.step_from-place.result ≤ length c.args.words.now = subst P (sym c.step_from-place.ensures) s.1 in
    search rules

pub walk-preserved : goal.walk-preserved
walk-preserved c =
    let s = walk_step c.args.words.now c.walk.place no_lit c.requires.blocks c.walk-test.true (sym c.is_live_header.ensures ∙ c.if-is_live_header.false) in
    record {
      within = let P : ℕ → Type 0 = λ n. c.walk.place + n ≤ length c.args.words.now in subst P (sym c.step_from-place.ensures) s.1;
      passed = ap (λ n. held_from 0 (take (c.walk.place + n) (places_of c.args.words.now))) c.step_from-place.ensures ∙ (s.0 ∙ c.walk.invariant.passed);
    }

pub returns-clause-before : goal.returns-clause-before
returns-clause-before c =
    before-none (held_from 0 (places_of c.args.words.now))
    ∙ (ap (held_from 0) (sym (take_all c.walk.place (places_of c.args.words.now) (omega (arith, c.walk-test.false, length-places_of c.args.words.now)))) ∙ c.walk.invariant.passed)
