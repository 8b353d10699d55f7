use Rattle.std.proofs.Common.{◌≡◌, ◌<◌, Bool, true, false, not, ◌&&◌, ◌||◌, List, [], ◌∷◌, length, get_or, refl, sym, subst, ◌∙◌, true≢false, arith}
use Rattle.sat_lits.specs.Verdicts.{IsFailed}
use Rattle.sat_lits.specs.declared.literal.Lit.{Lit}
use Rattle.sat_lits.specs.declared.formula.Item.TheVariants.{Clause}
use Rattle.race_model.specs.declared.tests.TheConstants.{FIRST, NOT_FIRST}
use Rattle.race_model.specs.States.{State, known_to}
use Rattle.race_model.proofs.tests.a_model_and_a_failed_set_change_nothing.Goals as goal

-- two solvers took the item that the first variable is true, and solver 0 gave it
abbrev given : State
given =
    record {
      formula = record { vars = 2; items = Clause (FIRST ∷ []) ∷ [] };
      log = record { solver = 0; after = 0; clause = FIRST ∷ [] } ∷ [];
      taken = record { items = 1; places = [] } ∷ record { items = 1; places = [] } ∷ [];
    }

by_value : (value : Bool) → ((value || false) && true) ≡ true → (not value && true) ≡ false
by_value true e = refl
by_value false e = absurd (true≢false (sym e))

-- by what solver 1 took, the assumption that the variable is false fails
fails : IsFailed (known_to given 1) (NOT_FIRST ∷ []) (NOT_FIRST ∷ [])
fails =
    record {
      positions = 0 ∷ [];
      rising = λ i j d below within. absurd (omega (arith, below, within));
      places = (refl, tt);
      distinct = λ i j d below within. absurd (omega (arith, below, within));
      contradict = λ values m. by_value (get_or values 0 false) m.holds;
    }

pub step-requires-2-clause-allowed : goal.step-requires-2-clause-allowed
step-requires-2-clause-allowed g c =
    subst (λ (s : State). (1 < length s.taken) × IsFailed (known_to s 1) c.in_ok-unit-2.field-0 c.in_ok-unit-3.field-0) (sym is_given)
    (omega arith, subst (λ (l : List Lit). IsFailed (known_to given 1) l c.in_ok-unit-3.field-0) (sym c.in_ok-unit-2.ensures) (subst (λ (l : List Lit). IsFailed (known_to given 1) (NOT_FIRST ∷ []) l) (sym c.in_ok-unit-3.ensures) fails))
  where
    is_given : c.step.new.self ≡ given
    is_given = c.in_ok-step.ensures.ok ∙ (λ i. record { formula = c.in_ok-machine.ensures.formula i; log = c.in_ok-machine.ensures.log i; taken = c.in_ok-machine.ensures.taken i })
