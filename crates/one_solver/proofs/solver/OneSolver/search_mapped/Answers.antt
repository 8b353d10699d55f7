use Rattle.std.proofs.Common.{◌≡◌, ℕ, true, nat_lt, length, List, sym, ap, subst, ◌∙◌}
use Rattle.std.specs.List.{list_all}
use Rattle.std.specs.List.Sorted.{IsStrictlyIncreasing}
use Rattle.sat_lits.specs.declared.literal.Lit.{Lit}
use Rattle.sat_lits.specs.declared.literal.InLit.{InLit}
use Rattle.state_laws.specs.Conditions.{Takable}
use Rattle.state_laws.specs.Kernel.{Kernel, state_of, Standing}
use Rattle.assume_map.specs.Roots.{roots}
use Rattle.assume_map.specs.Mapping.{IsMapped, IsClash}
use Rattle.assume_map.specs.MappingLaws.{clash_rises, clash_within}
use Rattle.assume_map.specs.declared.mapped.Mapped.{Mapped}
use Rattle.one_solver.specs.Assuming.{IsMappedTo, AreContradicted}
use Rattle.one_solver.specs.Kept.{parts_of}
use Rattle.one_solver.specs.Parts.{Parts, problem_in, CanAssume}
use Rattle.one_solver.proofs.Assumptions.{takable, roots_long, clash_contradicted}
use Rattle.one_solver.proofs.solver.OneSolver.search_mapped.Goals as goal
use Rattle.one_solver.proofs.solver.OneSolver.search_mapped.Given.{Over}
use Rattle.one_solver.proofs.solver.OneSolver.search_mapped.Goals.{In-Ok-Clash}

pub map_assumptions-requires-clause-takable : goal.map_assumptions-requires-clause-takable
map_assumptions-requires-clause-takable g c =
    subst (λ (ls : List Lit). Takable (state_of c.self.inside.state) ls) (sym c.as_slice.ensures)
    (takable (parts_of c.self.inside) (subst (λ (s : Parts). CanAssume s) (sym c.self.view_is) c.requires.assumed))

-- what the assumptions of the call were mapped to
mapped : (s : Parts) (inside : Kernel) (assumptions : List Lit) (m : Mapped) → inside ≡ s.kernel → assumptions ≡ s.assumptions → IsMapped inside assumptions m → IsMapped s.kernel s.assumptions m
mapped s inside assumptions m e f h = subst (λ (k : Kernel). IsMapped k s.assumptions m) e (subst (λ (ls : List Lit). IsMapped inside ls m) f h)

pub search_under-requires-clause-ready : goal.search_under-requires-clause-ready
search_under-requires-clause-ready g c =
    let m : IsMappedTo c.args.self.now c.in-Ok-Ready.lits c.in-Ok-Ready.positions =
    subst (λ (x : Mapped). IsMapped c.args.self.now.kernel c.args.self.now.assumptions x) c.in-Ok-Ready.field-0-is
    (mapped c.args.self.now c.self.inside.state c.as_slice.result.now c.in-Ok-Ready.field-0 (ap (λ (s : Parts). s.kernel) c.self.view_is) (c.as_slice.ensures ∙ ap (λ (s : Parts). s.assumptions) c.self.view_is) c.in-Ok-Ready.ensures) in
    subst (λ (ls : List InLit). IsMappedTo c.args.self.now ls c.as_slice-in-Ok-Ready-2.result.now) (sym c.as_slice-in-Ok-Ready.ensures)
    (subst (λ (ps : List ℕ). IsMappedTo c.args.self.now c.in-Ok-Ready.lits ps) (sym c.as_slice-in-Ok-Ready-2.ensures) m)

-- the positions of a clash
clash : (g : Over) (c : In-Ok-Clash g) → IsClash (roots (state_of c.args.self.now.kernel) c.args.self.now.assumptions) c.in-Ok-Clash.positions
clash g c =
    subst (λ (x : Mapped). IsMapped c.args.self.now.kernel c.args.self.now.assumptions x) c.in-Ok-Clash.field-0-is
    (mapped c.args.self.now c.self.inside.state c.as_slice.result.now c.in-Ok-Clash.field-0 (ap (λ (s : Parts). s.kernel) c.self.view_is) (c.as_slice.ensures ∙ ap (λ (s : Parts). s.assumptions) c.self.view_is) c.in-Ok-Clash.ensures)

pub fails-requires-clause-rising : goal.fails-requires-clause-rising
fails-requires-clause-rising g c =
    subst (λ (ps : List ℕ). IsStrictlyIncreasing ps) (sym c.as_slice-in-Ok-Clash.ensures)
    (clash_rises (roots (state_of c.args.self.now.kernel) c.args.self.now.assumptions) c.in-Ok-Clash.positions (clash g ((goal.at.fails-requires-clause-rising g c).In-Ok-Clash)))

pub fails-requires-clause-within : goal.fails-requires-clause-within
fails-requires-clause-within g c =
    subst (λ (ps : List ℕ). list_all (λ p. nat_lt p (length c.args.self.now.assumptions)) ps ≡ true) (sym c.as_slice-in-Ok-Clash.ensures)
    (subst (λ (n : ℕ). list_all (λ p. nat_lt p n) c.in-Ok-Clash.positions ≡ true) (roots_long c.args.self.now)
    (clash_within (roots (state_of c.args.self.now.kernel) c.args.self.now.assumptions) c.in-Ok-Clash.positions (clash g ((goal.at.fails-requires-clause-within g c).In-Ok-Clash))))

pub fails-requires-clause-contradict : goal.fails-requires-clause-contradict
fails-requires-clause-contradict g c =
    subst (λ (ps : List ℕ). AreContradicted (problem_in c.args.self.now) c.args.self.now.assumptions ps) (sym c.as_slice-in-Ok-Clash.ensures)
    (clash_contradicted c.args.self.now c.in-Ok-Clash.positions (subst (λ (s : Parts). Standing s.kernel) c.self.view_is c.okay-okay.ensures.standing) c.requires.entries c.requires.assumed
    (clash g ((goal.at.fails-requires-clause-contradict g c).In-Ok-Clash)))
