use Rattle.std.proofs.Common.{List, ap, subst, ◌∙◌}
use Rattle.sat_lits.specs.declared.literal.Lit.{Lit}
use Rattle.assume_map.specs.Failed.{AreFailedLits}
use Rattle.assume_map.specs.MappingLaws.{failed_contradict}
use Rattle.one_solver.specs.Parts.{Parts}
use Rattle.one_solver.proofs.solver.OneSolver.fails.Goals as goal

pub returns-in-Ok : goal.returns-in-Ok
returns-in-Ok c =
    let a : AreFailedLits c.args.self.now.assumptions c.args.positions.now c.in-Ok.failed =
    subst (λ (ls : List Lit). AreFailedLits ls c.args.positions.now c.in-Ok.failed) (c.as_slice.ensures ∙ ap (λ (s : Parts). s.assumptions) c.self.view_is) c.in-Ok.ensures in
    record {
      positions = a.places;
      rising = a.rising;
      places = a.stand;
      distinct = a.distinct;
      contradict = λ values m. failed_contradict c.args.self.now.assumptions c.args.positions.now c.in-Ok.failed a c.requires.within values (c.requires.contradict values m);
    }
