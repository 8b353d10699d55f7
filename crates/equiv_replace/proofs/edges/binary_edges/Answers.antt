use Rattle.std.proofs.Common.{◌∙◌, ◌++◌, ap, sym, subst, Option, Some, IfSome, IsTrue, option_to_list}
use Rattle.sat_lits.specs.declared.literal.ClauseId.{ClauseId}
use Rattle.clause_store.specs.Store.{is_live, before, clause_at}
use Rattle.clause_store.specs.Laws.{before-none, shorter}
use Rattle.equiv_replace.specs.Nodes.{edges_of}
use Rattle.equiv_replace.proofs.Building.{edges_of-append}
use Rattle.equiv_replace.proofs.edges.binary_edges.Goals as goal

pub walk-smaller : goal.walk-smaller
walk-smaller c =
    shorter c.args.store.now.held c.walk.at c.in-Some.id c.after-at.result c.in-Some.is
    (subst (λ (o : Option ClauseId). IfSome o (λ id. IsTrue (is_live c.args.store.now.held id.0))) c.in-Some.is c.walk.invariant.live) c.after-at.ensures.step

pub walk-preserved : goal.walk-preserved
walk-preserved c =
    record {
      live = c.after-at.ensures.live;
      built = c.in_ok-add_edges.ensures
          ∙ (ap (λ z. z ++ edges_of (option_to_list (clause_at c.args.store.now.held c.in-Some.id.0))) (c.walk.invariant.built ∙ ap (λ (o : Option ClauseId). edges_of (before c.args.store.now.held o)) c.in-Some.is)
          ∙ (sym (edges_of-append (before c.args.store.now.held (Some c.in-Some.id)) (option_to_list (clause_at c.args.store.now.held c.in-Some.id.0)))
          ∙ ap edges_of (sym c.after-at.ensures.step)));
    }

pub returns : goal.returns
returns c = c.walk.invariant.built ∙ ap edges_of (ap (before c.args.store.now.held) c.in_default.is ∙ before-none c.args.store.now.held)
