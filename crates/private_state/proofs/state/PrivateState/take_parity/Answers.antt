use Rattle.std.proofs.Common.{◌≡◌, ◌≤◌, ◌∙◌, ℕ, Bool, refl, ap, sym, subst, map, length, List, ◌++◌, ◌∷◌, [], arith}
use Rattle.std.specs.List.{list_all}
use Rattle.sat_lits.specs.ListLaws.{pushed}
use Rattle.sat_lits.specs.declared.literal.Var.{Var}
use Rattle.sat_lits.specs.declared.formula.Item.{Item}
use Rattle.sat_lits.specs.declared.formula.Item.TheVariants.{Parity}
use Rattle.xor_cut.specs.declared.piece.Piece.{Piece}
use Rattle.state_laws.specs.declared.definition.Definition.{Definition}
use Rattle.state_laws.specs.Kernel.{Kernel, state_of}
use Rattle.removed_vars.specs.Removed.{Removed}
use Rattle.removed_vars.specs.Fresh.{in_clauses, hard_in}
use Rattle.private_state.specs.Kept.{kernel_of}
use Rattle.parity_forms.specs.InMaps.{may_be_named, all_stored_forms}
use Rattle.parity_forms.specs.MadeOf.{Tables, IsMade, IsUnmade}
use Rattle.parity_forms.specs.Parities.{ParityTakable, parity_pieces, parity_taken, definitions_of, clauses_of}
use Rattle.private_state.specs.MovingLaws.{plain-Standing}
use Rattle.parity_forms.specs.PieceLaws.{parity-Stands}
use Rattle.parity_forms.specs.KernelMadeLaws.{HasMade, made_state, made-Standing}
use Rattle.parity_forms.specs.KernelParityLaws.{parity_there, parity_below, parity_room, parity_pieces_are, parity_may, parity_fits, parity_distinct, parity_definitions, parity_made, unmade_kernel, made_vars}
use Rattle.private_state.proofs.state.PrivateState.take_parity.Goals as goal
use Rattle.private_state.proofs.state.PrivateState.take_parity.Goals.{After-drop-pieces-inside-2}

-- the parity can be taken as it was copied
can_take : (k old : Kernel) (vs vars : List Var) (rhs : Bool) → k ≡ old → vs ≡ vars → ParityTakable (state_of old) vars rhs → ParityTakable (state_of k) vs rhs
can_take k old vs vars rhs e f t = subst (λ (z : Kernel). ParityTakable (state_of z) vs rhs) (sym e) (subst (λ (z : List Var). ParityTakable (state_of old) z rhs) (sym f) t)

pub own_pieces-requires-clause-there : goal.own_pieces-requires-clause-there
own_pieces-requires-clause-there c =
    let k : Kernel = kernel_of c.self.inside in
    let t : ParityTakable (state_of k) c.as_slice.result.now c.args.rhs = can_take k c.args.self.now c.as_slice.result.now c.args.vars.now c.args.rhs c.self.view_is (c.as_slice.ensures ∙ c.in_ok-vars.ensures {u = tt}) c.requires in
    parity_there k c.as_slice.result.now c.args.rhs c.self.invariant.standing t

pub own_pieces-requires-clause-below : goal.own_pieces-requires-clause-below
own_pieces-requires-clause-below c =
    let k : Kernel = kernel_of c.self.inside in
    let t : ParityTakable (state_of k) c.as_slice.result.now c.args.rhs = can_take k c.args.self.now c.as_slice.result.now c.args.vars.now c.args.rhs c.self.view_is (c.as_slice.ensures ∙ c.in_ok-vars.ensures {u = tt}) c.requires in
    parity_below k c.as_slice.result.now c.args.rhs c.self.invariant.standing t

pub own_pieces-requires-clause-room : goal.own_pieces-requires-clause-room
own_pieces-requires-clause-room c =
    let k : Kernel = kernel_of c.self.inside in
    let t : ParityTakable (state_of k) c.as_slice.result.now c.args.rhs = can_take k c.args.self.now c.as_slice.result.now c.args.vars.now c.args.rhs c.self.view_is (c.as_slice.ensures ∙ c.in_ok-vars.ensures {u = tt}) c.requires in
    weaker (parity_room k c.as_slice.result.now c.args.rhs c.self.invariant.standing t)
  where
    weaker : {n : ℕ} → n ≤ 2147483648 → n ≤ 4294967296
    weaker h = omega arith

pub made_of-requires : goal.made_of-requires
made_of-requires c =
    let k : Kernel = kernel_of c.self.inside in
    let t : ParityTakable (state_of k) c.as_slice.result.now c.args.rhs = can_take k c.args.self.now c.as_slice.result.now c.args.vars.now c.args.rhs c.self.view_is (c.as_slice.ensures ∙ c.in_ok-vars.ensures {u = tt}) c.requires in
    ap (list_all (λ (p : Piece). list_all (may_be_named k.maps) p.vars)) (c.in_ok-pieces.ensures {u = tt} ∙ parity_pieces_are k c.as_slice.result.now c.args.rhs c.self.invariant.standing)
    ∙ parity_may k c.as_slice.result.now c.args.rhs c.self.invariant.standing t

pub add_made-requires-clause-few : goal.add_made-requires-clause-few
add_made-requires-clause-few c =
    let k : Kernel = kernel_of c.self.inside in
    let t : ParityTakable (state_of k) c.as_slice.result.now c.args.rhs = can_take k c.args.self.now c.as_slice.result.now c.args.vars.now c.args.rhs c.self.view_is (c.as_slice.ensures ∙ c.in_ok-vars.ensures {u = tt}) c.requires in
    let p : c.in_ok-pieces.pieces ≡ parity_pieces (state_of k) c.as_slice.result.now c.args.rhs = c.in_ok-pieces.ensures {u = tt} ∙ parity_pieces_are k c.as_slice.result.now c.args.rhs c.self.invariant.standing in
    let l = ap (λ (z : List Definition). length z) (c.in_ok-made.ensures.definitions ∙ ap definitions_of p) ∙ parity_definitions k c.as_slice.result.now c.args.rhs in
    omega (arith, l, parity_fits k c.as_slice.result.now c.args.rhs c.self.invariant.standing t)

pub add_made-requires-clause-distinct : goal.add_made-requires-clause-distinct
add_made-requires-clause-distinct c =
    let k : Kernel = kernel_of c.self.inside in
    let t : ParityTakable (state_of k) c.as_slice.result.now c.args.rhs = can_take k c.args.self.now c.as_slice.result.now c.args.vars.now c.args.rhs c.self.view_is (c.as_slice.ensures ∙ c.in_ok-vars.ensures {u = tt}) c.requires in
    let p : c.in_ok-pieces.pieces ≡ parity_pieces (state_of k) c.as_slice.result.now c.args.rhs = c.in_ok-pieces.ensures {u = tt} ∙ parity_pieces_are k c.as_slice.result.now c.args.rhs c.self.invariant.standing in
    parity_distinct k c.as_slice.result.now c.args.rhs c.in_ok-made.made.clauses.items c.self.invariant.standing t c.in_ok-made.ensures.matched (c.in_ok-made.ensures.clauses ∙ ap (λ (z : List Piece). map hard_in (all_stored_forms k.maps z)) p)

pub invariant_of-self-in_err-add_made : goal.invariant_of-self-in_err-add_made
invariant_of-self-in_err-add_made c =
    let k : Kernel = kernel_of c.self.inside in
    let from : Tables = record { maps = c.self.inside.maps; store = c.self.inside.store; removed = c.self.inside.removed; definitions = c.self.inside.definitions.items } in
    let to : Tables = record { maps = c.add_made.new.maps; store = c.add_made.new.store; removed = c.add_made.new.removed; definitions = c.add_made.new.definitions.items } in
    let x : IsUnmade from to = c.in_err-add_made.ensures.err in
    record {
      standing = plain-Standing k (kernel_of (record c.self.inside { items = c.reserve.new.self; definitions = c.add_made.new.definitions; maps = c.add_made.new.maps; store = c.add_made.new.store; removed = c.add_made.new.removed }))
          (unmade_kernel k c.reserve.new.self.items from to c.in_ok-reserve.ensures.items refl refl refl refl x) c.self.invariant.standing;
      vars = ap (λ (r : Removed). r.vars) x.removed ∙ (c.self.invariant.vars ∙ ap length (sym x.definitions));
    }

abbrev after : After-drop-pieces-inside-2 → Kernel
after c = kernel_of (record c.self.inside { items = c.push.new.self; definitions = c.add_made.new.definitions; maps = c.add_made.new.maps; store = c.add_made.new.store; removed = c.add_made.new.removed })

takable : (c : After-drop-pieces-inside-2) → ParityTakable (state_of (kernel_of c.self.inside)) c.as_slice.result.now c.args.rhs
takable c = can_take (kernel_of c.self.inside) c.args.self.now c.as_slice.result.now c.args.vars.now c.args.rhs c.self.view_is (c.as_slice.ensures ∙ c.in_ok-vars.ensures {u = tt}) c.requires

pieces_are : (c : After-drop-pieces-inside-2) → c.in_ok-pieces.pieces ≡ parity_pieces (state_of (kernel_of c.self.inside)) c.as_slice.result.now c.args.rhs
pieces_are c = c.in_ok-pieces.ensures {u = tt} ∙ parity_pieces_are (kernel_of c.self.inside) c.as_slice.result.now c.args.rhs c.self.invariant.standing

-- what was done
done : (c : After-drop-pieces-inside-2)
    → HasMade (kernel_of c.self.inside) (after c) (definitions_of (parity_pieces (state_of (kernel_of c.self.inside)) c.as_slice.result.now c.args.rhs)) (in_clauses c.in_ok-made.made.clauses.items) (clauses_of (parity_pieces (state_of (kernel_of c.self.inside)) c.as_slice.result.now c.args.rhs))
done c =
    parity_made (kernel_of c.self.inside) (after c) c.as_slice.result.now c.args.rhs c.in_ok-made.made
    (record { maps = c.self.inside.maps; store = c.self.inside.store; removed = c.self.inside.removed; definitions = c.self.inside.definitions.items })
    (record { maps = c.add_made.new.maps; store = c.add_made.new.store; removed = c.add_made.new.removed; definitions = c.add_made.new.definitions.items })
    c.self.invariant.standing (takable c) c.in_ok-made.ensures.matched (c.in_ok-made.ensures.definitions ∙ ap definitions_of (pieces_are c))
    (c.in_ok-made.ensures.clauses ∙ ap (λ (z : List Piece). map hard_in (all_stored_forms c.self.inside.maps z)) (pieces_are c)) c.in_ok-add_made.ensures.ok refl refl refl refl refl refl refl refl refl refl refl

items : (c : After-drop-pieces-inside-2) → (after c).items ≡ (kernel_of c.self.inside).items ++ Parity c.as_slice.result.now c.args.rhs ∷ []
items c =
    pushed c.push.result c.unwrap.result c.reserve.new.self.items (c.reserve.new.self.items ++ Parity c.in_ok-vars.vars c.args.rhs ∷ []) c.push.new.self.items c.push.ensures.items c.unwrap.ensures
    ∙ (ap (λ (z : List Item). z ++ Parity c.in_ok-vars.vars c.args.rhs ∷ []) c.in_ok-reserve.ensures.items
    ∙ ap (λ (z : List Var). c.self.inside.items.items ++ Parity z c.args.rhs ∷ []) (sym c.as_slice.ensures))

pub invariant_of-self-2 : goal.invariant_of-self-2
invariant_of-self-2 c =
    let k : Kernel = kernel_of c.self.inside in
    let x : IsMade c.in_ok-made.made (record { maps = c.self.inside.maps; store = c.self.inside.store; removed = c.self.inside.removed; definitions = c.self.inside.definitions.items })
    (record { maps = c.add_made.new.maps; store = c.add_made.new.store; removed = c.add_made.new.removed; definitions = c.add_made.new.definitions.items }) = c.in_ok-add_made.ensures.ok in
    record {
      standing = made-Standing k (after c) (definitions_of (parity_pieces (state_of k) c.as_slice.result.now c.args.rhs)) (in_clauses c.in_ok-made.made.clauses.items) (clauses_of (parity_pieces (state_of k) c.as_slice.result.now c.args.rhs))
          (k.items ++ Parity c.as_slice.result.now c.args.rhs ∷ []) (done c) (items c) (parity-Stands c.as_slice.result.now c.args.rhs (state_of k) (takable c) c.self.invariant.standing.stands) c.self.invariant.standing;
      vars = made_vars c.self.inside.removed c.add_made.new.removed c.in_ok-made.made.definitions.items c.self.inside.definitions.items c.add_made.new.definitions.items c.self.invariant.vars x.removed x.definitions;
    }

pub returns-clause-ok : goal.returns-clause-ok
returns-clause-ok c =
    let k : Kernel = kernel_of c.self.inside in
    made_state k (after c) (definitions_of (parity_pieces (state_of k) c.as_slice.result.now c.args.rhs)) (in_clauses c.in_ok-made.made.clauses.items) (clauses_of (parity_pieces (state_of k) c.as_slice.result.now c.args.rhs))
    (k.items ++ Parity c.as_slice.result.now c.args.rhs ∷ []) (done c) (items c) c.self.invariant.standing.stands
    ∙ (ap (λ (z : List Var). parity_taken z c.args.rhs (state_of k)) (c.as_slice.ensures ∙ c.in_ok-vars.ensures {u = tt}) ∙ ap (λ (z : Kernel). parity_taken c.args.vars.now c.args.rhs (state_of z)) c.self.view_is)
