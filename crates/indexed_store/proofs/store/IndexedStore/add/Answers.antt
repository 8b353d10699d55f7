use Rattle.std.proofs.Common.{◌≡◌, ◌≤◌, ◌<◌, ◌∙◌, ◌∷◌, [], ◌++◌, ap, sym, arith, List}
use Rattle.std.specs.List.{list_any}
use Rattle.clause_store.specs.Store.{held_as}
use Rattle.indexed_store.specs.Lists.{ids_of, are_below, added, is_in}
use Rattle.indexed_store.specs.Occurrences.{added_pair, holds, is_pair}
use Rattle.indexed_store.specs.declared.short_id.ShortId.{ShortId}
use Rattle.indexed_store.specs.Flags.{is_flagged}
use Rattle.indexed_store.proofs.Flagging.{aside_more}
use Rattle.indexed_store.proofs.Indexing.{found_more, ids_below, below_more, rise_more}
use Rattle.indexed_store.proofs.store.IndexedStore.add.Goals as goal
use Rattle.indexed_store.proofs.store.IndexedStore.add.Goals.{After-of-short}

pub of-short-requires : goal.of-short-requires
of-short-requires c = omega (arith, c.in_ok-id.ensures.given, c.in_ok-id.ensures.stays_kept.few)

-- the short id was not given before
fresh : (c : After-of-short) → c.self.inside.store.given ≤ c.of-short.result.0
fresh c = rw c.of-short.ensures c.in_ok-id.ensures.fresh

pub push_each-requires-clause-new : goal.push_each-requires-clause-new
push_each-requires-clause-new c = λ v.
    ap (are_below c.of-short.result.0) (c.in_ok-reserve_each.ensures.same v)
    ∙ below_more c.self.inside.store.given c.of-short.result.0 (ids_of c.self.inside.lists.items v) (fresh ((goal.at.push_each-requires-clause-new c).After-of-short)) (c.self.invariant.known v)

pub invariant_of-self-2 : goal.invariant_of-self-2
invariant_of-self-2 c =
    let given : c.of-short.result.0 < c.add.new.self.given = rw c.of-short.ensures c.in_ok-id.ensures.given in
    let held : c.add.new.self.held ≡ c.self.inside.store.held ++ held_as c.of-short.result.0 c.args.learned c.args.lits.now ∷ [] = rw c.of-short.ensures c.in_ok-id.ensures.held in
    let new : c.self.inside.store.given ≤ c.of-short.result.0 = fresh ((goal.at.invariant_of-self-2 c).After-of-short) in
    let more : c.push_pair.new.pairs.items ≡ c.self.inside.pairs.items ++ added_pair c.args.learned c.args.lits.now c.of-short.result = c.push_pair.ensures.items ∙ ap (λ (z : List ShortId). z ++ added_pair c.args.learned c.args.lits.now c.of-short.result) c.in_ok-reserve_pair.ensures.items in
    record {
      kept = c.in_ok-id.ensures.stays_kept;
      known = λ v. ids_below (ids_of c.self.inside.lists.items v) (ids_of c.push_each.new.lists.items v) c.self.inside.store.given c.add.new.self.given c.of-short.result (list_any (is_in v) c.args.lits.now) (c.self.invariant.known v) new given
          (c.push_each.ensures.ids v ∙ ap (λ z. z ++ added v c.args.lits.now c.of-short.result) (c.in_ok-reserve_each.ensures.same v));
      found = λ v. found_more (holds v) c.self.inside.store.held c.add.new.self.held c.self.inside.store.given c.of-short.result c.args.learned c.args.lits.now (ids_of c.self.inside.lists.items v) (ids_of c.push_each.new.lists.items v) c.self.invariant.kept.below (c.self.invariant.known v) new held
          (c.push_each.ensures.ids v ∙ ap (λ z. z ++ added v c.args.lits.now c.of-short.result) (c.in_ok-reserve_each.ensures.same v)) (c.self.invariant.found v);
      pairs_known = ids_below c.self.inside.pairs.items c.push_pair.new.pairs.items c.self.inside.store.given c.add.new.self.given c.of-short.result (is_pair (held_as c.of-short.result.0 c.args.learned c.args.lits.now)) c.self.invariant.pairs_known new given more;
      pairs_rise = rise_more c.self.inside.pairs.items c.push_pair.new.pairs.items c.self.inside.store.given c.of-short.result (is_pair (held_as c.of-short.result.0 c.args.learned c.args.lits.now)) c.self.invariant.pairs_known new more c.self.invariant.pairs_rise;
      pairs_found = found_more is_pair c.self.inside.store.held c.add.new.self.held c.self.inside.store.given c.of-short.result c.args.learned c.args.lits.now c.self.inside.pairs.items c.push_pair.new.pairs.items c.self.invariant.kept.below c.self.invariant.pairs_known new held
          more c.self.invariant.pairs_found;
      aside = λ v t. aside_more c.self.inside.store.held c.add.new.self.held (held_as c.of-short.result.0 c.args.learned c.args.lits.now) v (is_flagged c.make_flags.new.flags.items v) held (sym (c.clear_flags.ensures v) ∙ t)
          (λ f. c.self.invariant.aside v (sym (c.in_ok-make_flags.ensures v) ∙ f));
    }
