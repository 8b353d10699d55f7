use Rattle.std.proofs.Common.{◌≡◌, ◌∙◌, ap, List, true, subst, Option, IfSome, IsTrue}
use Rattle.sat_lits.specs.Truth.{clauses_value}
use Rattle.sat_lits.specs.declared.literal.ClauseId.{ClauseId}
use Rattle.clause_store.specs.Store.{Held, is_live, before, hard_of}
use Rattle.clause_store.specs.Laws.{before-none, shorter}
use Rattle.state_laws.specs.Held.{in_value}
use Rattle.equiv_replace.proofs.tests.satisfies.Goals as goal

pub walk-smaller : goal.walk-smaller
walk-smaller c =
    shorter c.args.store.now.held c.walk.at c.in-Some.id c.after-at.result c.in-Some.is
    (subst (λ (o : Option ClauseId). IfSome o (λ id. IsTrue (is_live c.args.store.now.held id.0))) c.in-Some.is c.walk.invariant.live) c.after-at.ensures.step

pub returns : goal.returns
returns c = λ t.
    subst (λ (hs : List Held). clauses_value (in_value c.args.inner.now) (hard_of hs) ≡ true)
    (ap (before c.args.store.now.held) c.in_default.is ∙ before-none c.args.store.now.held) c.walk.invariant.satisfied
