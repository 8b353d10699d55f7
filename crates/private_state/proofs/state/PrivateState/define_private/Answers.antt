use Rattle.std.proofs.Common.{◌≡◌, ◌∙◌, Some, refl, ap, sym, subst, length, ◌∷◌, []}
use Rattle.state_laws.specs.declared.definition.Definition.{Definition}
use Rattle.state_laws.specs.ExtendLaws.{extended-Stands}
use Rattle.state_laws.specs.Kernel.{Kernel, state_of}
use Rattle.state_laws.specs.Moves.{extended}
use Rattle.removed_vars.specs.Removed.{Removed}
use Rattle.removed_vars.specs.Fresh.{in_clauses}
use Rattle.private_state.specs.Kept.{kernel_of}
use Rattle.parity_forms.specs.MadeOf.{Tables, IsMade, IsUnmade}
use Rattle.parity_forms.specs.Parities.{IsDefinable, defining_clauses}
use Rattle.private_state.specs.MovingLaws.{plain-Standing}
use Rattle.parity_forms.specs.KernelMadeLaws.{HasMade, made_state, made-Standing}
use Rattle.parity_forms.specs.KernelParityLaws.{unmade_kernel, made_vars}
use Rattle.parity_forms.specs.DefiningLaws.{definable-Defines, definable_may, definable_distinct, definable_made}
use Rattle.private_state.proofs.state.PrivateState.define_private.Goals as goal
use Rattle.private_state.proofs.state.PrivateState.define_private.Goals.{In_ok-add_made}

-- the definition is definable in the state as it is kept
definable : (k old : Kernel) (d : Definition) → k ≡ old → IsDefinable (state_of old) d → IsDefinable (state_of k) d
definable k old d e x = subst (λ (z : Kernel). IsDefinable (state_of z) d) (sym e) x

pub made_by-requires : goal.made_by-requires
made_by-requires c = definable_may (kernel_of c.self.inside) c.args.definition.now c.self.invariant.standing (definable (kernel_of c.self.inside) c.args.self.now c.args.definition.now c.self.view_is c.requires)

pub add_made-requires-clause-distinct : goal.add_made-requires-clause-distinct
add_made-requires-clause-distinct c =
    definable_distinct (kernel_of c.self.inside) c.args.definition.now c.in_ok-made.made.clauses.items c.self.invariant.standing (definable (kernel_of c.self.inside) c.args.self.now c.args.definition.now c.self.view_is c.requires)
    c.in_ok-made.ensures.matched c.in_ok-made.ensures.clauses

pub invariant_of-self : goal.invariant_of-self
invariant_of-self c =
    let k : Kernel = kernel_of c.self.inside in
    let from : Tables = record { maps = c.self.inside.maps; store = c.self.inside.store; removed = c.self.inside.removed; definitions = c.self.inside.definitions.items } in
    let to : Tables = record { maps = c.add_made.new.maps; store = c.add_made.new.store; removed = c.add_made.new.removed; definitions = c.add_made.new.definitions.items } in
    let x : IsUnmade from to = c.in_err-add_made.ensures.err in
    record {
      standing = plain-Standing k (kernel_of (record c.self.inside { definitions = c.add_made.new.definitions; maps = c.add_made.new.maps; store = c.add_made.new.store; removed = c.add_made.new.removed }))
          (unmade_kernel k c.self.inside.items.items from to refl refl refl refl refl x) c.self.invariant.standing;
      vars = ap (λ (r : Removed). r.vars) x.removed ∙ (c.self.invariant.vars ∙ ap length (sym x.definitions));
    }

abbrev after : In_ok-add_made → Kernel
after c = kernel_of (record c.self.inside { definitions = c.add_made.new.definitions; maps = c.add_made.new.maps; store = c.add_made.new.store; removed = c.add_made.new.removed })

fit : (c : In_ok-add_made) → IsDefinable (state_of (kernel_of c.self.inside)) c.args.definition.now
fit c = definable (kernel_of c.self.inside) c.args.self.now c.args.definition.now c.self.view_is c.requires

-- what was done
done : (c : In_ok-add_made) → HasMade (kernel_of c.self.inside) (after c) (c.args.definition.now ∷ []) (in_clauses c.in_ok-made.made.clauses.items) (defining_clauses (length c.self.inside.definitions.items) c.args.definition.now)
done c =
    definable_made (kernel_of c.self.inside) (after c) c.args.definition.now c.in_ok-made.made
    (record { maps = c.self.inside.maps; store = c.self.inside.store; removed = c.self.inside.removed; definitions = c.self.inside.definitions.items })
    (record { maps = c.add_made.new.maps; store = c.add_made.new.store; removed = c.add_made.new.removed; definitions = c.add_made.new.definitions.items })
    c.self.invariant.standing (fit c) c.in_ok-made.ensures.matched c.in_ok-made.ensures.definitions c.in_ok-made.ensures.clauses c.in_ok-add_made.ensures.ok refl refl refl refl refl refl refl refl refl refl refl

pub invariant_of-self-2 : goal.invariant_of-self-2
invariant_of-self-2 c =
    let k : Kernel = kernel_of c.self.inside in
    let x : IsMade c.in_ok-made.made (record { maps = c.self.inside.maps; store = c.self.inside.store; removed = c.self.inside.removed; definitions = c.self.inside.definitions.items })
    (record { maps = c.add_made.new.maps; store = c.add_made.new.store; removed = c.add_made.new.removed; definitions = c.add_made.new.definitions.items }) = c.in_ok-add_made.ensures.ok in
    record {
      standing = made-Standing k (after c) (c.args.definition.now ∷ []) (in_clauses c.in_ok-made.made.clauses.items) (defining_clauses (length c.self.inside.definitions.items) c.args.definition.now) k.items (done c) refl
          (extended-Stands (Some c.args.definition.now) (defining_clauses (length c.self.inside.definitions.items) c.args.definition.now) (state_of k)
          (definable-Defines (state_of k) c.args.definition.now c.self.invariant.standing.stands.places (fit c)) c.self.invariant.standing.stands) c.self.invariant.standing;
      vars = made_vars c.self.inside.removed c.add_made.new.removed c.in_ok-made.made.definitions.items c.self.inside.definitions.items c.add_made.new.definitions.items c.self.invariant.vars x.removed x.definitions;
    }

pub returns-clause-ok : goal.returns-clause-ok
returns-clause-ok c =
    let k : Kernel = kernel_of c.self.inside in
    made_state k (after c) (c.args.definition.now ∷ []) (in_clauses c.in_ok-made.made.clauses.items) (defining_clauses (length c.self.inside.definitions.items) c.args.definition.now) k.items (done c) refl c.self.invariant.standing.stands
    ∙ ap (λ (z : Kernel). extended (Some c.args.definition.now) (defining_clauses (length z.definitions) c.args.definition.now) (state_of z)) c.self.view_is
