-- What turns and calls keep of two solvers that are in step with a log.
use Rattle.std.proofs.Common.{◌≡◌, ℕ, List, [], refl, sym, subst, ◌∙◌, arith}
use Rattle.std.proofs.lemmas.Option.{none-some}
use Rattle.sat_lits.specs.Meaning.{Problem}
use Rattle.sat_lits.specs.Formulas.{Extends, no_problem}
use Rattle.sat_lits.specs.Logs.{IsLegalLog}
use Rattle.sat_lits.specs.declared.shared.Shared.{Shared}
use Rattle.one_solver.specs.Parts.{Parts, problem_in}
use Rattle.one_solver.specs.InStep.{IsInStep, GoesOn, in_step_grows}
use Rattle.exchange_tour.specs.Pairs.{AreNew, AreInStep, Exchanged}

-- every formula goes on from no items
pub begins : (s : Parts) (f : Problem) → problem_in s ≡ no_problem → Extends (problem_in s) f
begins s f e = subst (λ (x : Problem). Extends x f) (sym e) (record { vars = omega arith; more = f.items; items = refl })

none : (f : Problem) → IsLegalLog f []
none f = record { each = λ place entry stands. absurd (none-some entry stands); once = λ i j d below within. absurd (omega arith) }

-- new solvers took the same formula
pub entered : (f : Problem) (a b first second : Parts) (log : List Shared) → AreNew a b log → problem_in first ≡ f → problem_in second ≡ f → (IsInStep a log → IsInStep first log) → (IsInStep b log → IsInStep second log)
    → AreInStep first second log
entered f a b first second log n p q g h =
    record {
      same = q ∙ sym p;
      legal = subst (IsLegalLog (problem_in first)) (sym n.empty) (none (problem_in first));
      first_step = g n.first_step;
      second_step = h n.second_step;
    }

-- the first one exchanged
pub first_exchanged : (first now second : Parts) (log new : List Shared) → AreInStep first second log → Exchanged first now log new → AreInStep now second new
first_exchanged first now second log new p x =
    record { same = p.same ∙ sym x.same; legal = x.legal; first_step = x.step; second_step = in_step_grows second log new (record { rest = x.grows.more; is = x.grows.is }) p.second_step }

-- the second one did
pub second_exchanged : (first second now : Parts) (log new : List Shared) → AreInStep first second log → Exchanged second now log new → AreInStep first now new
second_exchanged first second now log new p x =
    record {
      same = x.same ∙ p.same;
      legal = subst (λ (f : Problem). IsLegalLog f new) (x.same ∙ p.same) x.legal;
      first_step = in_step_grows first log new (record { rest = x.grows.more; is = x.grows.is }) p.first_step;
      second_step = x.step;
    }

-- the first one was asked
pub first_asked : (first now second : Parts) (log : List Shared) → AreInStep first second log → problem_in now ≡ problem_in first → IsInStep now log → AreInStep now second log
first_asked first now second log p e i = record { same = p.same ∙ sym e; legal = subst (λ (f : Problem). IsLegalLog f log) (sym e) p.legal; first_step = i; second_step = p.second_step }

-- the log is legal for the second one
pub second_legal : (first second : Parts) (log : List Shared) → AreInStep first second log → IsLegalLog (problem_in second) log
second_legal first second log p = subst (λ (f : Problem). IsLegalLog f log) (sym p.same) p.legal

-- a solver whose interval was made exchanged
pub made_exchanged : (old made now : Parts) (log new : List Shared) → problem_in made ≡ problem_in old → made.number ≡ old.number → Exchanged made now log new → Exchanged old now log new
made_exchanged old made now log new p n x = record { same = x.same ∙ p; legal = x.legal; grows = subst (λ (m : ℕ). GoesOn m log new) n x.grows; step = x.step }
