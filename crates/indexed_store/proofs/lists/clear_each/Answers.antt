use Rattle.std.proofs.Common.{◌≡◌, ◌<◌, ◌∙◌, refl, ap, arith, length, get_or, take, drop, List, [], ◌++◌}
use Rattle.std.specs.Global.{Vec}
use Rattle.indexed_store.specs.declared.short_id.ShortId.{ShortId}
use Rattle.indexed_store.specs.Lists.{ids_of, places_of}
use Rattle.indexed_store.proofs.Rooms.{at_got, written_back, change_none, change_more, change_all}
use Rattle.indexed_store.proofs.lists.clear_each.Goals as goal

pub each-init : goal.each-init
each-init c = change_none (λ ids. []) _

pub each-preserved : goal.each-preserved
each-preserved c =
    let l : c.each.list-index < length c.each.list-items = omega (arith, c.each.auto.list-items) in
    change_more (λ ids. []) c.deref_mut-list-items.result.now c.each.list-items c.each.list-index (get_or c.each.list-items c.each.list-index c.list-item.result) c.clear.new.self c.each.invariant l
    (at_got c.each.list-items c.each.list-index c.list-item.result l) c.clear.ensures.items c.clear.ensures.capacity

pub returns : goal.returns
returns c =
    let e : length c.each.list-items ≡ length c.args.lists.now.items = c.each.auto.list-items ∙ ap length c.deref_mut-list-items.ensures.value in
    let w : take c.args.lists.now.len (c.each.list-items ++ drop (length c.each.list-items) c.args.lists.now.items) ≡ c.each.list-items = written_back c.args.lists.now.len c.each.list-items c.args.lists.now.items c.args.lists.now.ok.0 e in
    record {
      empty = λ v. ap (λ (z : List (Vec ShortId)). ids_of z v) w ∙ change_all (λ ids. []) c.deref_mut-list-items.result.now c.each.list-items c.each.list-index v refl c.each.invariant c.each-test.false;
      places = λ v. ap (λ (z : List (Vec ShortId)). places_of z v) w ∙ (c.each.invariant.places v ∙ ap (λ (z : List (Vec ShortId)). places_of z v) c.deref_mut-list-items.ensures.value);
    }
