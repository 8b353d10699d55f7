use Rattle.std.proofs.Common.{◌≡◌, ◌<◌, ℕ, sym, subst, arith, true, ltb-true, false, get_or, length, List, take}
use Rattle.std.specs.Global.{Vec}
use Rattle.std.specs.List.{list_all}
use Rattle.sat_lits.specs.declared.literal.InLit.{InLit}
use Rattle.indexed_store.specs.declared.short_id.ShortId.{ShortId}
use Rattle.indexed_store.specs.Lists.{has_room, room_of}
use Rattle.indexed_store.proofs.Rooms.{Pushing, room_there, all_at, at_read, push_ready, push_step, taken_at}
use Rattle.indexed_store.proofs.lists.push_each.Goals as goal

abbrev some : InLit
some = record { var = record { 0 = 0 }; negative = false }

room : (olds : List (Vec ShortId)) (lits : List InLit) (k : ℕ) → list_all (has_room olds) lits ≡ true → k < length lits → 0 < room_of olds (get_or lits k some).var.0
room olds lits k e l = ltb-true _ _ (all_at (has_room olds) lits k some e l)

there : (olds lists : List (Vec ShortId)) (lits seen : List InLit) (k : ℕ) (id : ShortId) → Pushing olds lists seen id → list_all (has_room olds) lits ≡ true → k < length lits → (get_or lits k some).var.0 < length lists
there olds lists lits seen k id h e l = subst (λ n. (get_or lits k some).var.0 < n) (sym h.count) (room_there olds (get_or lits k some).var.0 (room olds lits k e l))

pub index_mut-list-requires : goal.index_mut-list-requires
index_mut-list-requires c =
    let l : (get_or c.args.lits.now c.each.lit-index some).var.0 < length c.each.lists.items = there _ _ _ _ c.each.lit-index _ c.each.invariant c.requires.room c.each-test.true in
    omega (arith, c.each.lists.ok.0)

pub push_once-requires : goal.push_once-requires
push_once-requires c =
    push_ready c.args.lists.now.items c.each.lists.items (take c.each.lit-index c.args.lits.now) (get_or c.args.lits.now c.each.lit-index some).var.0 c.index_mut-list.result.now c.args.id c.each.invariant
    (room c.args.lists.now.items c.args.lits.now c.each.lit-index c.requires.room c.each-test.true)
    (at_read c.each.lists.items _ c.index_mut-list.result.now c.index_mut-list.ensures.value (there _ _ _ _ c.each.lit-index _ c.each.invariant c.requires.room c.each-test.true))

pub each-preserved : goal.each-preserved
each-preserved c =
    rw (taken_at c.args.lits.now c.each.lit-index some c.each-test.true)
    (push_step c.args.lists.now.items c.each.lists.items (take c.each.lit-index c.args.lits.now) (get_or c.args.lits.now c.each.lit-index some) c.index_mut-list.result.now c.push_once.new.list c.args.id c.each.invariant c.requires.new
    (there _ _ _ _ c.each.lit-index _ c.each.invariant c.requires.room c.each-test.true)
    (at_read c.each.lists.items _ c.index_mut-list.result.now c.index_mut-list.ensures.value (there _ _ _ _ c.each.lit-index _ c.each.invariant c.requires.room c.each-test.true))
    c.push_once.ensures.items c.push_once.ensures.places)
