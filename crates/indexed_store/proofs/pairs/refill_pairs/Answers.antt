use Rattle.std.proofs.Common.{◌≡◌, ◌≤◌, ◌∙◌, ap, sym, subst, filter, length, IfSome, IsTrue, Option, List, ℕ, true}
use Rattle.sat_lits.specs.declared.literal.ClauseId.{ClauseId}
use Rattle.clause_store.specs.Store.{Held, before, is_live}
use Rattle.clause_store.specs.Laws.{before-none, shorter}
use Rattle.indexed_store.specs.Occurrences.{is_pair}
use Rattle.indexed_store.proofs.Filling.{ids_at, live_small}
use Rattle.indexed_store.proofs.Pairing.{Noted, all_noted, pair_more, pair_room}
use Rattle.indexed_store.proofs.pairs.refill_pairs.Goals as goal
use Rattle.indexed_store.proofs.pairs.refill_pairs.Goals.{After-is_learned}

live : (c : After-is_learned) → is_live c.args.store.now.held c.in-Some.id.0 ≡ true
live c = subst (λ (o : Option ClauseId). IfSome o (λ id. IsTrue (is_live c.args.store.now.held id.0))) c.in-Some.is c.walk.invariant.live

pub of-requires : goal.of-requires
of-requires c = live_small c.args.store.now c.in-Some.id.0 c.lits.ensures.kept (live c)

pub push_pair-requires : goal.push_pair-requires
push_pair-requires c =
    pair_room c.args.store.now.held c.walk.at c.in-Some.id c.is_learned.result c.lits.result.now c.clear.new.self c.walk.pairs c.walk.invariant.noting c.in-Some.is c.lits.ensures.value c.is_learned.ensures.value
    (subst (λ (n : ℕ). length (filter is_pair c.args.store.now.held) ≤ n) (sym c.clear.ensures.capacity) c.requires)

pub walk-smaller : goal.walk-smaller
walk-smaller c = shorter c.args.store.now.held c.walk.at c.in-Some.id c.after-at.result c.in-Some.is (live ((goal.at.walk-smaller c).After-is_learned)) c.after-at.ensures.step

pub walk-preserved : goal.walk-preserved
walk-preserved c =
    record {
      live = c.after-at.ensures.live;
      noting = pair_more c.args.store.now.held c.walk.at c.in-Some.id c.of.result c.after-at.result c.is_learned.result c.lits.result.now c.clear.new.self c.walk.pairs c.push_pair.new.pairs c.walk.invariant.noting c.in-Some.is c.lits.ensures.value
          c.is_learned.ensures.value c.after-at.ensures.step c.of.ensures c.push_pair.ensures.items c.push_pair.ensures.places;
    }

-- the list has the ids of all pairs
noted : (c : goal.In_default) → Noted c.args.store.now c.walk.pairs.items
noted c =
    all_noted c.args.store.now c.walk.pairs.items c.first-at.ensures.kept
    (c.walk.invariant.noting.ids ∙ ap (λ (hs : List Held). ids_at (filter is_pair hs)) (ap (before c.args.store.now.held) c.in_default.is ∙ before-none c.args.store.now.held))

pub returns : goal.returns
returns c =
    let n : Noted c.args.store.now c.walk.pairs.items = noted c in
    record {
      known = n.known;
      rises = n.rises;
      found = n.found;
      kept = c.first-at.ensures.kept;
    }
