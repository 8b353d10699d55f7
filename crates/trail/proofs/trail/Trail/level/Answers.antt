use Rattle.std.proofs.Common.{◌∙◌, ◌-◌, ℕ, List, Option, ap, sym, length, unwrap_or}
use Rattle.std.specs.List.{slice_get}
use Rattle.sat_lits.specs.declared.literal.InLit.{InLit}
use Rattle.trail.proofs.Tables.{is_stored, last_level}
use Rattle.trail.proofs.trail.Trail.level.Goals as goal

pub returns-in-Some-clause-value : goal.returns-in-Some-clause-value
returns-in-Some-clause-value c =
    c.unwrap_or.ensures
    ∙ ap (λ (o : Option ℕ). unwrap_or o 0)
    (c.level_of.ensures
    ∙ last_level c.self.inside.by_variable.items c.self.inside.lits.items c.args.self.now c.in-Some.lit.now (is_stored _ _ _ c.self.view_is c.self.invariant.says)
    (sym (ap (λ (xs : List InLit). slice_get xs (length xs - 1)) c.deref.ensures.value) ∙ sym c.in-Some.ensures.value))
