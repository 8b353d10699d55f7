use Rattle.std.proofs.Common.{◌≡◌, ◌∙◌, ap, true, List, [], ◌∷◌, subst, Option, IfSome, IsTrue}
use Rattle.sat_lits.specs.declared.literal.ClauseId.{ClauseId}
use Rattle.clause_store.specs.Store.{Held, is_live, before}
use Rattle.clause_store.specs.Laws.{before-none, shorter}
use Rattle.one_solver.specs.Units.{IsLength, are_long}
use Rattle.one_solver.specs.declared.units.Length.{Length}
use Rattle.one_solver.proofs.Walking.{live_clause, empty_found, lits_at, long_passed}
use Rattle.one_solver.specs.Learned.{NotesLong}
use Rattle.one_solver.proofs.Noting.{noted_more}
use Rattle.one_solver.proofs.units.find_short.Goals as goal
use Rattle.one_solver.proofs.units.find_short.Goals.{After-length_of}

live : (c : After-length_of) → is_live c.args.store.now.held c.in-Some.id.0 ≡ true
live c = subst (λ (o : Option ClauseId). IfSome o (λ id. IsTrue (is_live c.args.store.now.held id.0))) c.in-Some.is c.walk.invariant.live

pub walk-smaller : goal.walk-smaller
walk-smaller c =
    shorter c.args.store.now.held c.walk.at c.in-Some.id c.after-at.result c.in-Some.is (live ((goal.at.walk-smaller c).After-length_of)) c.after-at.ensures.step

pub returns-in-Empty-clause-found : goal.returns-in-Empty-clause-found
returns-in-Empty-clause-found c =
    let (h, e) = live_clause c.args.store.now.held c.in-Some.id.0 (live ((goal.at.returns-in-Empty-clause-found c).After-length_of)) in
    empty_found c.args.store.now.held c.in-Some.id.0 h e (subst (λ (l : Length). IsLength h.lits l) c.in-Empty.is (c.length_of.ensures.value h e))

pub returns-in-Single-clause-found : goal.returns-in-Single-clause-found
returns-in-Single-clause-found c =
    let (h, e) = live_clause c.args.store.now.held c.in-Some.id.0 (live ((goal.at.returns-in-Single-clause-found c).After-length_of)) in
    record {
      kept = c.length_of.ensures.kept;
      lits = lits_at c.args.store.now.held c.in-Some.id.0 h (c.in-Single.lit ∷ []) e (subst (λ (l : Length). IsLength h.lits l) c.in-Single.is (c.length_of.ensures.value h e));
      passed = λ p. subst (λ (o : Option ClauseId). are_long (before c.args.store.now.held o) ≡ true) c.in-Some.is (c.walk.invariant.passed p);
    }

pub returns-in-Single-clause-noted : goal.returns-in-Single-clause-noted
returns-in-Single-clause-noted c = λ n. subst (λ (o : Option ClauseId). NotesLong c.args.store.now o c.walk.ids) c.in-Some.is (c.walk.invariant.noted n)

pub walk-preserved : goal.walk-preserved
walk-preserved c =
    let l : is_live c.args.store.now.held c.in-Some.id.0 ≡ true = live ((goal.at.walk-preserved c).After-length_of) in
    record {
      live = c.after-at.ensures.live;
      passed = λ p. long_passed c.args.store.now.held c.walk.at c.in-Some.id c.after-at.result c.in-Some.is l c.after-at.ensures.step
          (λ h e. subst (λ (l : Length). IsLength h.lits l) c.in-Longer.is (c.length_of.ensures.value h e)) (c.walk.invariant.passed p);
      noted = λ n. noted_more c.args.store.now c.walk.at c.in-Some.id c.after-at.result c.walk.ids c.note_long.new.ids c.length_of.ensures.kept c.in-Some.is l c.after-at.ensures.live c.after-at.ensures.step c.in_ok-note_long-in-Longer.ensures (c.walk.invariant.noted n);
    }

pub returns-clause-found : goal.returns-clause-found
returns-clause-found c = λ p. subst (λ (hs : List Held). are_long hs ≡ true) (ap (before c.args.store.now.held) c.in_default.is ∙ before-none c.args.store.now.held) (c.walk.invariant.passed p)

pub returns-clause-noted : goal.returns-clause-noted
returns-clause-noted c = λ n. subst (λ (o : Option ClauseId). NotesLong c.args.store.now o c.walk.ids) c.in_default.is (c.walk.invariant.noted n)
