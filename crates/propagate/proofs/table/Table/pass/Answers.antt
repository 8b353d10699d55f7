use Rattle.std.proofs.Common.{◌≡◌, ◌<◌, ◌≤◌, ◌+◌, ◌/◌, ◌∙◌, ℕ, length, Bool, true, false, sym, ap, subst, refl, arith}
use Rattle.std.proofs.lemmas.Bool.{false≢true}
use Rattle.sat_lits.specs.declared.literal.InLit.{InLit}
use Rattle.trail.specs.Trail.{false_in, lits_of}
use Rattle.propagate.specs.Watching.{steps_below}
use Rattle.propagate.specs.Watched.{code_of, negated, no_lit}
use Rattle.propagate.specs.Walks.{AllSettled, AllGood}
use Rattle.propagate.proofs.Room.{lits_within}
use Rattle.propagate.proofs.Turning.{extends_more}
use Rattle.propagate.proofs.Passing.{AtPlace, place_next, place_last, keeps_more, negated_false, negated_below}
use Rattle.propagate.proofs.table.Table.pass.Goals as goal
use Rattle.propagate.proofs.table.Table.pass.Goals.{in-Missed, in-Done}

pub walk-requires-clause-lit_false : goal.walk-requires-clause-lit_false
walk-requires-clause-lit_false c =
    subst (λ (l : InLit). false_in c.literals.trail.steps l ≡ true) (sym (c.negation.ensures ∙ ap negated c.in-Some.ensures.some.1))
    (negated_false c.literals.trail.steps c.literals.at no_lit c.in-Some.ensures.some.0)

pub walk-requires-clause-key : goal.walk-requires-clause-key
walk-requires-clause-key c =
    subst (λ (l : InLit). code_of l < length c.literals.self.heads.items) (sym (c.negation.ensures ∙ ap negated c.in-Some.ensures.some.1))
    (negated_below c.literals.trail.steps (length c.literals.self.heads.items) c.literals.at no_lit (subst (λ (n : ℕ). steps_below (n / 2) c.literals.trail.steps ≡ true) (sym c.literals.invariant.heads) c.literals.invariant.steps) c.in-Some.ensures.some.0)

pub returns-in-Conflict-clause-keeps : goal.returns-in-Conflict-clause-keeps
returns-in-Conflict-clause-keeps c = keeps_more c.args.store.now.held c.args.trail.now.steps c.literals.trail.steps c.args.self.now.watched.items c.literals.self.watched.items c.walk.new.self.watched.items c.literals.invariant.extends c.literals.invariant.keeps c.walk.ensures.keeps

pub returns-in-Conflict-clause-extends : goal.returns-in-Conflict-clause-extends
returns-in-Conflict-clause-extends c = extends_more c.args.store.now.held c.args.trail.now.steps c.literals.trail.steps c.walk.new.trail.steps c.literals.invariant.extends c.walk.ensures.extends

pub overflow_add-at : goal.overflow_add-at
overflow_add-at c =
    let w : length (lits_of c.literals.trail.steps) ≤ c.literals.trail.reserved = lits_within c.literals.trail c.literals.trail.reserved c.in-Some.ensures.kept c.in-Some.ensures.kept.known in
    omega (arith, w, c.in-Some.ensures.some.0, c.in-Some.ensures.kept.few)

pub literals-smaller : goal.literals-smaller
literals-smaller c =
    let w : length (lits_of c.literals.trail.steps) ≤ c.literals.trail.reserved = lits_within c.literals.trail c.literals.trail.reserved c.in-Some.ensures.kept c.in-Some.ensures.kept.known in
    omega (arith, w, c.in-Some.ensures.some.0, c.walk.ensures.reserved)

pub literals-preserved : goal.literals-preserved
literals-preserved c =
    elim c.match-walk.branch [
      | in-Missed w ↦
          subst (λ (m : Bool). AtPlace c.args.store.now.held c.args.taken.now c.args.trail.now c.walk.new.trail c.args.self.now c.walk.new.self (c.literals.at + 1) m) (sym w.missed-is)
          (place_next c.args.store.now.held c.args.taken.now c.args.trail.now c.literals.trail c.walk.new.trail c.args.self.now c.literals.self c.walk.new.self c.literals.at c.literals.missed true true c.literals.invariant c.in-Some.ensures.some.0 c.requires.clauses
          c.walk.ensures.watched c.walk.ensures.keeps c.walk.ensures.heads c.walk.ensures.whole c.walk.ensures.extends c.walk.ensures.reserved
          (subst (λ (l : InLit). AllSettled c.args.store.now.held c.args.taken.now c.walk.new.trail.steps c.walk.new.self.whole.items c.walk.new.self.watched.items l true) (c.negation.ensures ∙ ap negated c.in-Some.ensures.some.1) w.in-Missed.ensures.right)
          (λ m. refl) (λ m. refl))
      | in-Done w ↦
          subst (λ (m : Bool). AtPlace c.args.store.now.held c.args.taken.now c.args.trail.now c.walk.new.trail c.args.self.now c.walk.new.self (c.literals.at + 1) m) (sym w.missed-is)
          (place_next c.args.store.now.held c.args.taken.now c.args.trail.now c.literals.trail c.walk.new.trail c.args.self.now c.literals.self c.walk.new.self c.literals.at c.literals.missed false c.literals.missed c.literals.invariant c.in-Some.ensures.some.0 c.requires.clauses
          c.walk.ensures.watched c.walk.ensures.keeps c.walk.ensures.heads c.walk.ensures.whole c.walk.ensures.extends c.walk.ensures.reserved
          (subst (λ (l : InLit). AllSettled c.args.store.now.held c.args.taken.now c.walk.new.trail.steps c.walk.new.self.whole.items c.walk.new.self.watched.items l false) (c.negation.ensures ∙ ap negated c.in-Some.ensures.some.1) w.in-Done.ensures.right)
          (λ m. m) (λ m. absurd (false≢true m)))
    ]

pub returns-then-missed-clause-right : goal.returns-then-missed-clause-right
returns-then-missed-clause-right c =
    subst (λ (m : Bool). AllGood c.args.store.now.held c.args.taken.now (lits_of c.literals.trail.steps) c.literals.trail.steps c.literals.self.whole.items c.literals.self.watched.items m) c.if-missed.true
    (place_last c.args.store.now.held c.args.taken.now c.args.trail.now c.literals.trail c.args.self.now c.literals.self c.literals.at c.literals.missed c.literals.invariant c.in_default.ensures.none)

pub returns-else-missed-clause-right : goal.returns-else-missed-clause-right
returns-else-missed-clause-right c =
    subst (λ (m : Bool). AllGood c.args.store.now.held c.args.taken.now (lits_of c.literals.trail.steps) c.literals.trail.steps c.literals.self.whole.items c.literals.self.watched.items m) c.if-missed.false
    (place_last c.args.store.now.held c.args.taken.now c.args.trail.now c.literals.trail c.args.self.now c.literals.self c.literals.at c.literals.missed c.literals.invariant c.in_default.ensures.none)
