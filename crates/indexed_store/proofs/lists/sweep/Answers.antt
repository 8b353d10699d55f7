use Rattle.std.proofs.Common.{◌≡◌, ◌<◌, ◌∙◌, refl, ap, arith, length, get_or, filter, List}
use Rattle.std.specs.Global.{Vec}
use Rattle.indexed_store.specs.declared.short_id.ShortId.{ShortId}
use Rattle.clause_store.specs.Store.{is_live}
use Rattle.indexed_store.specs.Lists.{ids_of}
use Rattle.indexed_store.proofs.Rooms.{at_got, written_back, change_none, change_more, change_all}
use Rattle.indexed_store.proofs.lists.sweep.Goals as goal

pub each-init : goal.each-init
each-init c = change_none (filter (λ (id : ShortId). is_live c.args.store.now.held id.0)) _

pub each-preserved : goal.each-preserved
each-preserved c =
    let l : c.each.list-index < length c.each.list-items = omega (arith, c.each.auto.list-items) in
    change_more (filter (λ (id : ShortId). is_live c.args.store.now.held id.0)) c.deref_mut-list-items.result.now c.each.list-items c.each.list-index (get_or c.each.list-items c.each.list-index c.list-item.result) c.sweep_list.new.list c.each.invariant l
    (at_got c.each.list-items c.each.list-index c.list-item.result l) c.sweep_list.ensures.items c.sweep_list.ensures.places

pub returns : goal.returns
returns c = λ v.
    let e : length c.each.list-items ≡ length c.args.lists.now.items = c.each.auto.list-items ∙ ap length c.deref_mut-list-items.ensures.value in
    ap (λ (z : List (Vec ShortId)). ids_of z v) (written_back c.args.lists.now.len c.each.list-items c.args.lists.now.items c.args.lists.now.ok.0 e)
    ∙ (change_all (filter (λ (id : ShortId). is_live c.args.store.now.held id.0)) c.deref_mut-list-items.result.now c.each.list-items c.each.list-index v refl c.each.invariant c.each-test.false
    ∙ ap (λ (z : List (Vec ShortId)). filter (λ id. is_live c.args.store.now.held id.0) (ids_of z v)) c.deref_mut-list-items.ensures.value)
