use Rattle.std.proofs.Common.{◌≡◌, ◌∙◌, Some, ap, sym}
use Rattle.std.proofs.lemmas.Option.{get_or_from_slice_get}
use Rattle.std.specs.List.{slice_get}
use Rattle.rebuild_stack.specs.Roots.{root, is_lost}
use Rattle.sat_lits.specs.declared.literal.Lit.{Lit}
use Rattle.sat_lits.specs.declared.literal.Own.{Own}
use Rattle.sat_lits.specs.declared.literal.OwnLit.{OwnLit}
use Rattle.state_laws.specs.State.{to_own}
use Rattle.state_laws.specs.Kernel.{Kernel, Standing}
use Rattle.state_laws.specs.KernelTakeLaws.{own_outer_lit}
use Rattle.assume_map.proofs.Reading.{known_root, last_root}
use Rattle.assume_map.proofs.mapped.root_of.Goals as goal

-- the own literal of a literal of the caller
own_is : (k : Kernel) (l : Lit) (v : Own) → Standing k → slice_get k.maps.outers l.var.0 ≡ Some v → root k.stack (record { var = v; negative = l.negative }) ≡ root k.stack (to_own k.definitions l)
own_is k l v s e =
    ap (λ (x : Own). let y : OwnLit = record { var = x; negative = l.negative } in root k.stack y) (sym (get_or_from_slice_get k.maps.outers l.var.0 v (record { 0 = 0 }) e))
    ∙ ap (root k.stack) (own_outer_lit k s l)

pub returns-in-Some : goal.returns-in-Some
returns-in-Some c =
    known_root c.args.state.now.stack c.root_of-last.result c.in-Some.value (sym c.in-Some.is ∙ c.value_of.ensures)
    ∙ (c.root_of-last.ensures.root ∙ own_is c.args.state.now c.args.lit c.to_own.result c.maps.ensures.standing (ap (λ m. slice_get m.outers c.args.lit.var.0) (sym c.maps.ensures.value) ∙ c.to_own.ensures.value))

pub returns-in-None : goal.returns-in-None
returns-in-None c =
    let same : root c.args.state.now.stack c.root_of-last.result ≡ root c.args.state.now.stack (to_own c.args.state.now.definitions c.args.lit) =
    c.root_of-last.ensures.root ∙ own_is c.args.state.now c.args.lit c.to_own.result c.maps.ensures.standing (ap (λ m. slice_get m.outers c.args.lit.var.0) (sym c.maps.ensures.value) ∙ c.to_own.ensures.value) in
    last_root c.args.state.now.stack c.root_of-last.result (sym c.in-None.is ∙ c.value_of.ensures) c.root_of-last.ensures.end (ap is_lost same ∙ c.requires.kept) ∙ same
