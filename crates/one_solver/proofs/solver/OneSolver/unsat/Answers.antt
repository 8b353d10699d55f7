use Rattle.std.proofs.Common.{subst, sym, ap}
use Rattle.state_laws.specs.State.{problem_of}
use Rattle.state_laws.specs.Conditions.{IsContradicted}
use Rattle.state_laws.specs.Kernel.{Kernel, state_of}
use Rattle.sync_laws.specs.Met.{KeepsMet}
use Rattle.sync_laws.specs.KeepLaws.{refuting-KeepsMet}
use Rattle.one_solver.specs.InStep.{EntriesFollow, follow_same}
use Rattle.one_solver.specs.Kept.{parts_of}
use Rattle.one_solver.specs.Parts.{Parts, problem_in}
use Rattle.one_solver.specs.Steps.{HasNoModel}
use Rattle.one_solver.proofs.Refuting.{no_model}
use Rattle.one_solver.proofs.solver.OneSolver.unsat.Goals as goal

pub refute-requires : goal.refute-requires
refute-requires c = subst (λ (s : Parts). IsContradicted (state_of s.kernel)) (sym c.self.view_is) c.requires.contradicted

pub returns-clause-right : goal.returns-clause-right
returns-clause-right c =
    let old : Parts = parts_of c.self.inside in
    let new : Parts = record old { kernel = c.refute.new.self } in
    let follow : EntriesFollow new =
    follow_same old new (ap (λ (k : Kernel). problem_of (state_of k)) c.refute.ensures.value) (ap (λ (k : Kernel). k.entries) c.refute.ensures.value) (subst EntriesFollow (sym c.self.view_is) c.requires.entries) in
    subst (λ (s : Parts). HasNoModel (problem_in s)) c.self.view_is
    (subst (λ (k : Kernel). HasNoModel (problem_of (state_of k))) c.refute.ensures.value
    (no_model new c.refute.ensures.standing follow (ap (λ (k : Kernel). k.okay) c.refute.ensures.value)))

pub returns-clause-met : goal.returns-clause-met
returns-clause-met c = subst (λ (s : Parts). KeepsMet (state_of s.kernel) (state_of c.refute.new.self)) c.self.view_is (refuting-KeepsMet c.self.inside.state c.refute.new.self c.refute.ensures.value)
