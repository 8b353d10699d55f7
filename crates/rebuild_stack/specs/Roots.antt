-- What a literal comes to when the entries of a stack are put into it.
use Rattle.std.specs.Prelude.{ℕ, ◌==◌, Bool, true, false, not, cond, List, [], ◌∷◌}
use Rattle.sat_lits.specs.Truth.{signed}
use Rattle.sat_lits.specs.declared.literal.OwnLit.{OwnLit}
use Rattle.rebuild_stack.specs.Values.{own_value}
use Rattle.rebuild_stack.specs.declared.entry.Entry.{Entry}
use Rattle.rebuild_stack.specs.declared.entry.Entry.TheVariants.{Fix, Equal, Gone}
use Rattle.rebuild_stack.specs.declared.entry.Root.{Root}
use Rattle.rebuild_stack.specs.declared.entry.Root.TheVariants.{Known, Last, Lost}

-- the literal, or its negation where the first argument is true
abbrev pub turned : Bool → OwnLit → OwnLit
turned negative l = record { var = l.var; negative = signed negative l.negative }

-- the entries are followed from the oldest to the newest: a fixed literal is known, a replaced one goes on as another, and one that was taken out is lost
abbrev pub root : List Entry → OwnLit → Root
root [] l = Last l
root (Fix k ∷ newer) l = cond (l.var.0 == k.var.0) (Known (signed l.negative (not k.negative))) (root newer l)
root (Equal v k ∷ newer) l = cond (l.var.0 == v.0) (root newer (turned l.negative k)) (root newer l)
root (Gone v cs ∷ newer) l = cond (l.var.0 == v.0) (Lost v) (root newer l)

abbrev pub is_lost : Root → Bool
is_lost (Known x) = false
is_lost (Last l) = false
is_lost (Lost v) = true

-- the value of what a literal came to; a lost one counts as false
abbrev pub root_value : (ℕ → Bool) → Root → Bool
root_value w (Known x) = x
root_value w (Last l) = own_value w l
root_value w (Lost v) = false

-- whether the literal that is left, if there is one, passes
abbrev pub root_passes : (OwnLit → Bool) → Root → Bool
root_passes p (Known x) = true
root_passes p (Last l) = p l
root_passes p (Lost v) = true
