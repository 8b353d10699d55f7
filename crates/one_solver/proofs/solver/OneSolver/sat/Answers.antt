use Rattle.std.proofs.Common.{◌≡◌, subst}
use Rattle.sat_lits.specs.Meaning.{IsModel}
use Rattle.var_maps.specs.Maps.{Maps, Matched}
use Rattle.state_laws.specs.Kernel.{Standing}
use Rattle.private_state.specs.Rebuilt.{rebuilt_values}
use Rattle.one_solver.specs.Parts.{Parts, problem_in}
use Rattle.one_solver.proofs.Assumptions.{rebuilt_true}
use Rattle.one_solver.proofs.solver.OneSolver.sat.Goals as goal

pub returns-in-Ok : goal.returns-in-Ok
returns-in-Ok c =
    let matched : Matched c.self.inside.state.maps = subst (λ (m : Maps). Matched m) c.maps.ensures.value c.own_len-len.ensures.matched in (
      subst (λ (s : Parts). IsModel (problem_in s) c.in-Ok.model) c.self.view_is c.in-Ok.ensures.model,
      rebuilt_true c.args.self.now c.args.lits.now c.args.positions.now c.requires.ready c.args.values.now c.in-Ok.model
          (subst (λ (s : Parts). Standing s.kernel) c.self.view_is c.maps.ensures.standing)
          (subst (λ (s : Parts). Matched s.kernel.maps) c.self.view_is matched)
          c.requires.assumed c.requires.model
          (subst (λ (s : Parts). c.in-Ok.model ≡ rebuilt_values s.kernel c.args.values.now) c.self.view_is c.in-Ok.ensures.rebuilt),
    )
