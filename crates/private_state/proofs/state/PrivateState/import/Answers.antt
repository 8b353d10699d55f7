use Rattle.std.proofs.Common.{◌≡◌, ◌∙◌, refl, ap, sym, subst, true, List, Option, Some, None, find, option_map}
use Rattle.sat_lits.specs.Formulas.{names_known}
use Rattle.sat_lits.specs.declared.literal.Lit.{Lit}
use Rattle.sat_lits.specs.declared.literal.Var.{Var}
use Rattle.sat_lits.specs.declared.literal.OwnLit.{OwnLit}
use Rattle.sat_lits.specs.declared.literal.InLit.{InLit}
use Rattle.sat_lits.specs.declared.formula.Item.TheVariants.{Clause}
use Rattle.rebuild_stack.specs.Roots.{root, is_lost}
use Rattle.rebuild_stack.specs.PutIn.{put_in, option_passes}
use Rattle.state_laws.specs.State.{State, outer_count}
use Rattle.state_laws.specs.Away.{is_away}
use Rattle.state_laws.specs.Conditions.{Takable}
use Rattle.state_laws.specs.Moves.{own_form, imported}
use Rattle.state_laws.specs.Held.{own_outer, own_clause, has_inner}
use Rattle.state_laws.specs.Kernel.{Kernel, Standing, state_of}
use Rattle.state_laws.specs.KernelTakeLaws.{own_form_outer, takable_active}
use Rattle.private_state.specs.Importing.{settled}
use Rattle.private_state.specs.Kept.{kernel_of}
use Rattle.private_state.proofs.Importing.{known_outer, outer_away, takable, no_var, waits_answer, waits_state, waits_leaves, taken_state, taken_answer, taken_leaves}
use Rattle.private_state.proofs.state.PrivateState.import.Goals as goal
use Rattle.private_state.proofs.state.PrivateState.import.Goals.{In_default, In_ok-own_form}

-- what the test of the literals says of the state that was handed in
tested : (k old : Kernel) → k ≡ old → (clause lits : List Lit) → lits ≡ clause → Standing k → (r : Option Var) → r ≡ option_map (λ l. l.var) (find (λ l. is_lost (root k.stack (own_outer k.maps l))) lits)
    → option_map (λ l. l.var) (find (is_away (state_of old)) clause) ≡ r
tested k old v clause lits e h r f =
    sym (f
    ∙ (ap (λ (z : List Lit). option_map (λ (l : Lit). l.var) (find (λ (l : Lit). is_lost (root k.stack (own_outer k.maps l))) z)) e
    ∙ (ap (option_map (λ (l : Lit). l.var)) (outer_away k clause h)
    ∙ ap (λ (z : Kernel). option_map (λ (l : Lit). l.var) (find (is_away (state_of z)) clause)) v)))

-- no literal of the clause is of an eliminated variable
none_away : (c : In_default) → find (is_away (state_of c.args.self.now)) c.args.entry.now.clause ≡ None
none_away c =
    no_var (find (is_away (state_of c.args.self.now)) c.args.entry.now.clause)
    (tested (kernel_of c.self.inside) c.args.self.now c.self.view_is c.args.entry.now.clause c.as_slice-lits.result.now c.as_slice-lits.ensures c.self.invariant.standing c.first_away.result c.first_away.ensures ∙ c.in_default.is)

-- so it can be taken
can_take : (c : In_default) → Takable (state_of c.args.self.now) c.args.entry.now.clause
can_take c = takable (state_of c.args.self.now) c.args.entry.now.clause c.requires (none_away c)

-- what the clause comes to, in own literals
form_is : (c : In_ok-own_form) → own_form (state_of c.args.self.now) c.args.entry.now.clause ≡ option_map (own_clause c.args.self.now.maps) c.in_ok-own_form.field-0
form_is c =
    let k : Kernel = kernel_of c.self.inside in
    sym (ap (λ (z : Kernel). option_map (own_clause z.maps) c.in_ok-own_form.field-0) (sym c.self.view_is)
    ∙ (c.in_ok-own_form.ensures.value
    ∙ (ap (put_in (λ l. root k.stack (own_outer k.maps l))) c.as_slice-lits.ensures
    ∙ (own_form_outer k c.self.invariant.standing c.args.entry.now.clause ∙ ap (λ (z : Kernel). own_form (state_of z) c.args.entry.now.clause) c.self.view_is))))

pub first_away-requires-clause-there : goal.first_away-requires-clause-there
first_away-requires-clause-there c =
    rw c.as_slice-lits.ensures (known_outer (kernel_of c.self.inside) c.args.entry.now.clause c.self.invariant.standing (subst (λ (k : Kernel). names_known (outer_count k.definitions) (Clause c.args.entry.now.clause) ≡ true) (sym c.self.view_is) c.requires))

pub own_form-requires-clause-there : goal.own_form-requires-clause-there
own_form-requires-clause-there c =
    rw c.as_slice-lits.ensures (known_outer (kernel_of c.self.inside) c.args.entry.now.clause c.self.invariant.standing (subst (λ (k : Kernel). names_known (outer_count k.definitions) (Clause c.args.entry.now.clause) ≡ true) (sym c.self.view_is) c.requires))

pub own_form-requires-clause-active : goal.own_form-requires-clause-active
own_form-requires-clause-active c =
    let k : Kernel = kernel_of c.self.inside in
    rw c.as_slice-lits.ensures
    (ap (option_passes (has_inner k.maps)) (own_form_outer k c.self.invariant.standing c.args.entry.now.clause)
    ∙ takable_active k c.args.entry.now.clause c.self.invariant.standing (subst (λ (z : Kernel). Takable (state_of z) c.args.entry.now.clause) (sym c.self.view_is) (can_take ((goal.at.own_form-requires-clause-active c).In_default))))

pub returns-in-Some-clause-answer : goal.returns-in-Some-clause-answer
returns-in-Some-clause-answer c =
    let s : State = state_of c.args.self.now in
    waits_answer (find (is_away s) c.args.entry.now.clause) (own_form s c.args.entry.now.clause) c.in-Some.var
    (tested (kernel_of c.self.inside) c.args.self.now c.self.view_is c.args.entry.now.clause c.as_slice-lits.result.now c.as_slice-lits.ensures c.self.invariant.standing c.first_away.result c.first_away.ensures ∙ c.in-Some.is)

pub returns-in-Some-clause-state : goal.returns-in-Some-clause-state
returns-in-Some-clause-state c =
    let s : State = state_of c.args.self.now in
    waits_state (find (is_away s) c.args.entry.now.clause) c.args.entry.now s c.in-Some.var
    (tested (kernel_of c.self.inside) c.args.self.now c.self.view_is c.args.entry.now.clause c.as_slice-lits.result.now c.as_slice-lits.ensures c.self.invariant.standing c.first_away.result c.first_away.ensures ∙ c.in-Some.is)

pub returns-in-Some-clause-leaves : goal.returns-in-Some-clause-leaves
returns-in-Some-clause-leaves c =
    let s : State = state_of c.args.self.now in
    waits_leaves (find (is_away s) c.args.entry.now.clause) (own_form s c.args.entry.now.clause) c.args.self.now c.args.self.now c.in-Some.var
    (tested (kernel_of c.self.inside) c.args.self.now c.self.view_is c.args.entry.now.clause c.as_slice-lits.result.now c.as_slice-lits.ensures c.self.invariant.standing c.first_away.result c.first_away.ensures ∙ c.in-Some.is) refl

pub note_shared-requires-clause-takable : goal.note_shared-requires-clause-takable
note_shared-requires-clause-takable c = subst (λ (z : List Lit). Takable (state_of c.args.self.now) z) (sym c.in_ok-copy.ensures) (can_take ((goal.at.note_shared-requires-clause-takable c).In_default))

pub note_shared-requires-clause-form : goal.note_shared-requires-clause-form
note_shared-requires-clause-form c =
    ap (own_form (state_of c.args.self.now)) c.in_ok-copy.ensures ∙ (form_is ((goal.at.note_shared-requires-clause-form c).In_ok-own_form) ∙ ap (option_map (own_clause c.args.self.now.maps)) c.in-None.is)

pub take_shared-requires-clause-takable : goal.take_shared-requires-clause-takable
take_shared-requires-clause-takable c = subst (λ (z : List Lit). Takable (state_of c.args.self.now) z) (sym c.in_ok-copy.ensures) (can_take ((goal.at.take_shared-requires-clause-takable c).In_default))

-- what is left of a clause that was taken
left : (c : In_ok-own_form) (stored : List InLit) → c.in_ok-own_form.field-0 ≡ Some stored → own_form (state_of c.args.self.now) c.args.entry.now.clause ≡ Some (own_clause c.args.self.now.maps stored)
left c stored e = form_is c ∙ ap (option_map (own_clause c.args.self.now.maps)) e

pub take_shared-requires-clause-form : goal.take_shared-requires-clause-form
take_shared-requires-clause-form c =
    ap (own_form (state_of c.args.self.now)) c.in_ok-copy.ensures ∙ (left ((goal.at.take_shared-requires-clause-form c).In_ok-own_form) c.in-Some-2.stored c.in-Some-2.is ∙ ap (λ (z : List InLit). Some (own_clause c.args.self.now.maps z)) (sym c.as_slice.ensures))

pub returns-in_ok-note_shared-in-None-clause-answer : goal.returns-in_ok-note_shared-in-None-clause-answer
returns-in_ok-note_shared-in-None-clause-answer c =
    let s : State = state_of c.args.self.now in
    taken_answer (find (is_away s) c.args.entry.now.clause) (own_form s c.args.entry.now.clause) None (none_away ((goal.at.returns-in_ok-note_shared-in-None-clause-answer c).In_default)) (form_is ((goal.at.returns-in_ok-note_shared-in-None-clause-answer c).In_ok-own_form) ∙ ap (option_map (own_clause c.args.self.now.maps)) c.in-None.is)

pub returns-in_ok-note_shared-in-None-clause-state : goal.returns-in_ok-note_shared-in-None-clause-state
returns-in_ok-note_shared-in-None-clause-state c =
    let s : State = state_of c.args.self.now in
    c.in_ok-note_shared-in-None.ensures.ok
    ∙ (ap (λ (z : List Lit). imported (record { solver = c.args.entry.now.solver; after = c.args.entry.now.after; clause = z }) s) c.in_ok-copy.ensures
    ∙ (ap (λ (o : Option (List OwnLit)). settled o (imported c.args.entry.now s)) (sym (form_is ((goal.at.returns-in_ok-note_shared-in-None-clause-state c).In_ok-own_form) ∙ ap (option_map (own_clause c.args.self.now.maps)) c.in-None.is))
    ∙ taken_state (find (is_away s) c.args.entry.now.clause) c.args.entry.now s (none_away ((goal.at.returns-in_ok-note_shared-in-None-clause-state c).In_default))))

pub returns-in_ok-note_shared-in-None-clause-leaves : goal.returns-in_ok-note_shared-in-None-clause-leaves
returns-in_ok-note_shared-in-None-clause-leaves c =
    let s : State = state_of c.args.self.now in
    taken_leaves (find (is_away s) c.args.entry.now.clause) (own_form s c.args.entry.now.clause) None c.args.self.now c.note_shared.new.self (none_away ((goal.at.returns-in_ok-note_shared-in-None-clause-leaves c).In_default))
    (form_is ((goal.at.returns-in_ok-note_shared-in-None-clause-leaves c).In_ok-own_form) ∙ ap (option_map (own_clause c.args.self.now.maps)) c.in-None.is) c.in_ok-note_shared-in-None.ensures.leaves

pub returns-in_ok-take_shared-in-Some-2-clause-answer : goal.returns-in_ok-take_shared-in-Some-2-clause-answer
returns-in_ok-take_shared-in-Some-2-clause-answer c =
    let s : State = state_of c.args.self.now in
    taken_answer (find (is_away s) c.args.entry.now.clause) (own_form s c.args.entry.now.clause) (Some (own_clause c.args.self.now.maps c.in-Some-2.stored)) (none_away ((goal.at.returns-in_ok-take_shared-in-Some-2-clause-answer c).In_default)) (left ((goal.at.returns-in_ok-take_shared-in-Some-2-clause-answer c).In_ok-own_form) c.in-Some-2.stored c.in-Some-2.is)

pub returns-in_ok-take_shared-in-Some-2-clause-state : goal.returns-in_ok-take_shared-in-Some-2-clause-state
returns-in_ok-take_shared-in-Some-2-clause-state c =
    let s : State = state_of c.args.self.now in
    c.in_ok-take_shared-in-Some-2.ensures.ok
    ∙ (ap (λ (z : List Lit). settled (Some (own_clause c.args.self.now.maps c.as_slice.result.now)) (imported (record { solver = c.args.entry.now.solver; after = c.args.entry.now.after; clause = z }) s)) c.in_ok-copy.ensures
    ∙ (ap (λ (o : Option (List OwnLit)). settled o (imported c.args.entry.now s)) (sym (left ((goal.at.returns-in_ok-take_shared-in-Some-2-clause-state c).In_ok-own_form) c.in-Some-2.stored c.in-Some-2.is ∙ ap (λ (z : List InLit). Some (own_clause c.args.self.now.maps z)) (sym c.as_slice.ensures)))
    ∙ taken_state (find (is_away s) c.args.entry.now.clause) c.args.entry.now s (none_away ((goal.at.returns-in_ok-take_shared-in-Some-2-clause-state c).In_default))))

pub returns-in_ok-take_shared-in-Some-2-clause-leaves : goal.returns-in_ok-take_shared-in-Some-2-clause-leaves
returns-in_ok-take_shared-in-Some-2-clause-leaves c =
    let s : State = state_of c.args.self.now in
    taken_leaves (find (is_away s) c.args.entry.now.clause) (own_form s c.args.entry.now.clause) (Some (own_clause c.args.self.now.maps c.as_slice.result.now)) c.args.self.now c.take_shared.new.self (none_away ((goal.at.returns-in_ok-take_shared-in-Some-2-clause-leaves c).In_default))
    (left ((goal.at.returns-in_ok-take_shared-in-Some-2-clause-leaves c).In_ok-own_form) c.in-Some-2.stored c.in-Some-2.is ∙ ap (λ (z : List InLit). Some (own_clause c.args.self.now.maps z)) (sym c.as_slice.ensures)) c.in_ok-take_shared-in-Some-2.ensures.leaves
