use Rattle.std.proofs.Common.{length, sym, ap, ◌∙◌}
use Rattle.std.proofs.lemmas.List.{length-map}
use Rattle.sat_lits.specs.declared.literal.Own.{Own}
use Rattle.var_maps.specs.Maps.{Maps}
use Rattle.one_solver.specs.Parts.{Parts, problem_in}
use Rattle.one_solver.proofs.solver.OneSolver.vars.Goals as goal

pub returns : goal.returns
returns c =
    c.outer_count.ensures.value
    ∙ (ap (λ (m : Maps). length m.outers) c.maps.ensures.value
    ∙ (sym (length-map c.self.inside.state.maps.outers (λ (v : Own). v.0)) ∙ (ap length c.maps.ensures.standing.outers ∙ ap (λ (s : Parts). (problem_in s).vars) c.self.view_is)))
