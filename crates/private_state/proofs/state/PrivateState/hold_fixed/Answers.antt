use Rattle.std.proofs.Common.{◌≡◌, ◌∙◌, ap, sym, subst, true, List, ◌++◌, ◌∷◌, [], length}
use Rattle.std.proofs.Math.Seq.{take-append_seam}
use Rattle.std.proofs.lemmas.Bool.{and_parts}
use Rattle.clause_store.specs.Store.{Held, is_live}
use Rattle.state_laws.specs.State.{State, is_active}
use Rattle.state_laws.specs.Kernel.{Kernel, Standing, plain_kernel}
use Rattle.private_state.specs.Kept.{kernel_of}
use Rattle.private_state.specs.MovingLaws.{plain-Standing}
use Rattle.private_state.proofs.Importing.{own_active, added_live, vain_held, taken_back, fixed_keeps}
use Rattle.private_state.proofs.state.PrivateState.hold_fixed.Goals as goal

pub fix-requires-clause-active : goal.fix-requires-clause-active
fix-requires-clause-active c =
    let k : Kernel = c.args.self.now in
    let standing : Standing k = subst Standing c.self.view_is c.self.invariant.standing in
    subst (λ (s : State). is_active s c.args.lit.var.0 ≡ true) (sym c.in_ok-held.ensures.ok)
    (and_parts _ _ (own_active k c.args.entry.clause (c.args.lit ∷ []) standing.stands c.requires.takable c.requires.form)).0

pub drop_clause-requires : goal.drop_clause-requires
drop_clause-requires c =
    subst (λ (hs : List Held). is_live hs c.in_ok-held.held.0 ≡ true)
    (sym (vain_held c.args.self.now c.hold_shared.new.self (kernel_of c.self-2.inside) c.args.entry c.args.stored.now c.in_ok-held.held.0 c.in_ok-held.ensures.held (ap plain_kernel c.self-2.view_is ∙ c.in-Err.ensures.err)))
    (added_live c.args.self.now.store.held c.in_ok-held.held.0 c.args.stored.now)

back : (c : goal.After-truncate) → plain_kernel (kernel_of (record c.self-2.inside { entries = c.truncate.new.self; store = c.drop_clause.new.self })) ≡ plain_kernel c.args.self.now
back c =
    let k : Kernel = c.args.self.now in
    let n : Kernel = kernel_of c.self-2.inside in
    let q : plain_kernel n ≡ plain_kernel c.hold_shared.new.self = ap plain_kernel c.self-2.view_is ∙ c.in-Err.ensures.err in
    let e : n.entries ≡ k.entries ++ c.args.entry ∷ [] = ap (λ (z : Kernel). z.entries) q ∙ ap (λ (z : Kernel). z.entries) c.in_ok-held.ensures.held.is in
    let b : length c.as_slice-before.result.now ≡ length k.entries = ap length c.as_slice-before.ensures.value ∙ ap (λ (z : Kernel). length z.entries) c.self.view_is in
    taken_back k c.hold_shared.new.self n c.args.entry c.args.stored.now c.in_ok-held.held.0 c.in_ok-held.ensures.held q c.drop_clause.ensures.kept c.truncate.new.self.items
    (c.truncate.ensures.items ∙ (rw (e, b) (take-append_seam k.entries (c.args.entry ∷ []))))
    c.drop_clause.new.self c.drop_clause.ensures.rest

pub invariant_of-self : goal.invariant_of-self
invariant_of-self c =
    record {
      standing = plain-Standing c.args.self.now (kernel_of (record c.self-2.inside { entries = c.truncate.new.self; store = c.drop_clause.new.self })) (back c) (subst Standing c.self.view_is c.self.invariant.standing);
      vars = c.self-2.invariant.vars;
    }

pub returns-in-Err-clause-err : goal.returns-in-Err-clause-err
returns-in-Err-clause-err c = back c

pub returns-clause-leaves : goal.returns-clause-leaves
returns-clause-leaves c =
    fixed_keeps c.args.self.now c.hold_shared.new.self c.fix.new.self c.args.entry c.args.stored.now c.in_ok-held.held.0 c.args.lit c.in_ok-held.ensures.held c.requires.one c.in_default.ensures.ids c.in_default.ensures.maps
