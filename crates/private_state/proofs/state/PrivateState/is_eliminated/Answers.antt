use Rattle.std.proofs.Common.{◌≡◌, ◌∙◌, refl, ap, sym, false}
use Rattle.std.specs.List.{list_any}
use Rattle.rebuild_stack.specs.Entries.{is_block_of}
use Rattle.state_laws.specs.State.{is_active}
use Rattle.state_laws.specs.Kernel.{Kernel, state_of}
use Rattle.state_laws.specs.PlaceLaws.{once_named}
use Rattle.private_state.specs.Kept.{kernel_of}
use Rattle.removed_vars.specs.declared.removed.Status.{Status}
use Rattle.removed_vars.specs.declared.removed.Status.TheVariants.{Kept, Fixed, Replaced, Eliminated}
use Rattle.removed_vars.specs.StatusLaws.{is_eliminated, block_status}
use Rattle.private_state.proofs.state.PrivateState.is_eliminated.Goals as goal

-- any other status
not_eliminated : (x : Status) → (x ≡ Eliminated → ⊥) → false ≡ is_eliminated x
not_eliminated Kept h = refl
not_eliminated (Fixed value) h = refl
not_eliminated (Replaced k) h = refl
not_eliminated Eliminated h = absurd (h refl)

pub returns-in-Eliminated : goal.returns-in-Eliminated
returns-in-Eliminated c =
    ap is_eliminated (sym c.in-Eliminated.is ∙ c.status.ensures)
    ∙ (block_status (is_active (state_of (kernel_of c.self.inside))) c.self.inside.removed.entries c.args.own (λ j. once_named (state_of (kernel_of c.self.inside)) j c.self.invariant.standing.stands.places)
    ∙ ap (λ (k : Kernel). list_any (is_block_of c.args.own) k.stack) c.self.view_is)

pub returns-in_default : goal.returns-in_default
returns-in_default c =
    not_eliminated c.status.result c.in_default.not-Eliminated
    ∙ (ap is_eliminated c.status.ensures
    ∙ (block_status (is_active (state_of (kernel_of c.self.inside))) c.self.inside.removed.entries c.args.own (λ j. once_named (state_of (kernel_of c.self.inside)) j c.self.invariant.standing.stands.places)
    ∙ ap (λ (k : Kernel). list_any (is_block_of c.args.own) k.stack) c.self.view_is))
