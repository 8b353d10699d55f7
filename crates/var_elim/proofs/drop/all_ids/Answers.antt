use Rattle.std.proofs.Common.{◌∙◌, ◌++◌, ap, ap₂, sym, subst, List, Option, IfSome, IsTrue, option_to_list}
use Rattle.sat_lits.specs.declared.literal.ClauseId.{ClauseId}
use Rattle.clause_store.specs.Store.{Held, clause_at, is_live, before}
use Rattle.clause_store.specs.Laws.{before-none, shorter}
use Rattle.indexed_store.specs.Occurrences.{clauses_at}
use Rattle.var_elim.proofs.Subsuming.{clauses_at-more}
use Rattle.var_elim.proofs.Counting.{live_small}
use Rattle.var_elim.proofs.drop.all_ids.Goals as goal

pub of-requires : goal.of-requires
of-requires c =
    live_small c.args.store.now c.in-Some.id.0 c.first-at.ensures.kept
    (subst (λ (o : Option ClauseId). IfSome o (λ id. IsTrue (is_live c.args.store.now.held id.0))) c.in-Some.is c.walk.invariant.live)

pub walk-smaller : goal.walk-smaller
walk-smaller c =
    shorter c.args.store.now.held c.walk.at c.in-Some.id c.after-at.result c.in-Some.is
    (subst (λ (o : Option ClauseId). IfSome o (λ id. IsTrue (is_live c.args.store.now.held id.0))) c.in-Some.is c.walk.invariant.live) c.after-at.ensures.step

pub walk-preserved : goal.walk-preserved
walk-preserved c =
    record {
      live = c.after-at.ensures.live;
      named = ap (clauses_at c.args.store.now.held) c.in_ok-push.ensures.items
          ∙ (clauses_at-more c.args.store.now.held c.walk.ids.items c.of.result
          ∙ (ap₂ {C = List Held} (λ z n. z ++ option_to_list (clause_at c.args.store.now.held n)) (c.walk.invariant.named ∙ ap (before c.args.store.now.held) c.in-Some.is) c.of.ensures ∙ sym c.after-at.ensures.step));
    }

pub returns-clause-all : goal.returns-clause-all
returns-clause-all c = c.walk.invariant.named ∙ (ap (before c.args.store.now.held) c.in_default.is ∙ before-none c.args.store.now.held)
