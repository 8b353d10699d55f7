use Rattle.std.proofs.Common.{◌≡◌, true, map, filter, Option, IfSome, IsTrue, cond, List, ◌∷◌, [], ◌++◌, Bool, Vec, Global, sym, ap, subst, ◌∙◌}
use Rattle.sat_lits.specs.declared.literal.ClauseId.{ClauseId}
use Rattle.clause_store.specs.Store.{Held, is_live, before}
use Rattle.clause_store.specs.Laws.{before-none, shorter}
use Rattle.one_solver.specs.Learned.{is_long}
use Rattle.one_solver.proofs.Keeping.{walk_long}
use Rattle.one_solver.proofs.learned.long_learned.Goals as goal
use Rattle.one_solver.proofs.learned.long_learned.Goals.{After-after-at, then-is_long_learned+in_ok-push, else-is_long_learned}

live : (c : After-after-at) → is_live c.args.store.now.held c.in-Some.id.0 ≡ true
live c = subst (λ (o : Option ClauseId). IfSome o (λ id. IsTrue (is_live c.args.store.now.held id.0))) c.in-Some.is c.walk.invariant.live

-- an id was kept exactly where its clause is a long learned one
kept : (c : After-after-at) → c.if-is_long_learned.ids.items ≡ cond c.is_long_learned.result (c.walk.ids.items ++ c.in-Some.id ∷ []) c.walk.ids.items
kept c =
    elim c.if-is_long_learned.branch [
      | then-is_long_learned+in_ok-push w ↦ ap (λ (v : Vec ClauseId Global). v.items) w.ids-is
          ∙ (w.in_ok-push.ensures.items ∙ sym (ap (λ (b : Bool). cond b (c.walk.ids.items ++ c.in-Some.id ∷ []) c.walk.ids.items) w.if-is_long_learned.true))
      | else-is_long_learned w ↦ ap (λ (v : Vec ClauseId Global). v.items) w.ids-is ∙ sym (ap (λ (b : Bool). cond b (c.walk.ids.items ++ c.in-Some.id ∷ []) c.walk.ids.items) w.if-is_long_learned.false)
    ]

pub walk-smaller : goal.walk-smaller
walk-smaller c = shorter c.args.store.now.held c.walk.at c.in-Some.id c.after-at.result c.in-Some.is (live ((goal.at.walk-smaller c).After-after-at)) c.after-at.ensures.step

pub walk-preserved : goal.walk-preserved
walk-preserved c =
    let d : After-after-at = (goal.at.walk-preserved c).After-after-at in
    record {
      live = c.after-at.ensures.live;
      ids =
          walk_long c.args.store.now.held c.walk.at c.in-Some.id c.after-at.result c.walk.ids.items c.if-is_long_learned.ids.items c.is_long_learned.result c.in-Some.is (live d) c.after-at.ensures.step c.is_long_learned.ensures c.walk.invariant.ids
          (kept d);
      kept = c.walk.invariant.kept;
    }

pub returns-clause-ids : goal.returns-clause-ids
returns-clause-ids c = c.walk.invariant.ids ∙ ap (λ (hs : List Held). map (λ (h : Held). h.id) (filter is_long hs)) (ap (before c.args.store.now.held) c.in_default.is ∙ before-none c.args.store.now.held)
