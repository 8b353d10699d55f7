use Rattle.std.proofs.Common.{◌≡◌, ap, subst, ◌∙◌, IfSome, IsTrue, Option, List, ℕ, true}
use Rattle.sat_lits.specs.declared.literal.ClauseId.{ClauseId}
use Rattle.clause_store.specs.Store.{Held, before, is_live}
use Rattle.clause_store.specs.Laws.{before-none, shorter}
use Rattle.indexed_store.specs.Lists.{ids_of}
use Rattle.indexed_store.specs.Occurrences.{occurrences}
use Rattle.indexed_store.proofs.Filling.{ids_at, live_small, fill_none, fill_new, fill_room, fill_more, fill_known, fill_found}
use Rattle.indexed_store.proofs.lists.fill.Goals as goal
use Rattle.indexed_store.proofs.lists.fill.Goals.{After-lits}

live : (c : After-lits) → is_live c.args.store.now.held c.in-Some.id.0 ≡ true
live c = subst (λ (o : Option ClauseId). IfSome o (λ id. IsTrue (is_live c.args.store.now.held id.0))) c.in-Some.is c.walk.invariant.live

pub walk-init : goal.walk-init
walk-init c = record { live = c.first-at.ensures.live; filling = fill_none c.args.store.now.held c.first-at.result c.args.lists.now.items c.first-at.ensures.start c.requires.empty }

pub of-requires : goal.of-requires
of-requires c = live_small c.args.store.now c.in-Some.id.0 c.lits.ensures.kept (live c)

pub push_each-requires : goal.push_each-requires
push_each-requires c =
    record {
      room = fill_room c.args.store.now.held c.walk.at c.in-Some.id c.lits.result.now c.args.lists.now.items c.walk.lists.items c.walk.invariant.filling c.in-Some.is c.lits.ensures.value c.requires.places;
      new = fill_new c.args.store.now c.walk.at c.in-Some.id c.of.result c.args.lists.now.items c.walk.lists.items c.walk.invariant.filling c.in-Some.is c.lits.ensures.kept (live ((goal.at.push_each-requires c).After-lits)) c.of.ensures;
    }

pub walk-smaller : goal.walk-smaller
walk-smaller c = shorter c.args.store.now.held c.walk.at c.in-Some.id c.after-at.result c.in-Some.is (live ((goal.at.walk-smaller c).After-lits)) c.after-at.ensures.step

pub walk-preserved : goal.walk-preserved
walk-preserved c =
    record {
      live = c.after-at.ensures.live;
      filling = fill_more c.args.store.now.held c.walk.at c.in-Some.id c.of.result c.after-at.result c.lits.result.now c.args.lists.now.items c.walk.lists.items c.push_each.new.lists.items c.walk.invariant.filling c.in-Some.is c.lits.ensures.value
          c.after-at.ensures.step c.of.ensures c.push_each.ensures.ids c.push_each.ensures.places;
    }

-- each list has the ids of all clauses that hold its variable
filled : (c : goal.In_default) → (v : ℕ) → ids_of c.walk.lists.items v ≡ ids_at (occurrences v c.args.store.now.held)
filled c v =
    c.walk.invariant.filling.ids v
    ∙ ap (λ (hs : List Held). ids_at (occurrences v hs)) (ap (before c.args.store.now.held) c.in_default.is ∙ before-none c.args.store.now.held)

pub returns : goal.returns
returns c =
    record {
      known = λ v. fill_known c.args.store.now c.walk.lists.items v c.first-at.ensures.kept (filled c v);
      found = λ v. fill_found c.args.store.now c.walk.lists.items v c.first-at.ensures.kept (filled c v);
      kept = c.first-at.ensures.kept;
    }
