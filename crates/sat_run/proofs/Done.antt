-- Commands that are carried out one by one.
use Rattle.std.proofs.Common.{◌≡◌, List, [], ◌∷◌, ◌++◌, refl, sym, ◌∙◌, subst, append_assoc}
use Rattle.dimacs_text.specs.declared.command.Command.{Command}
use Rattle.sat_run.specs.Questions.{Question, questions_from, after_all}
use Rattle.sat_run.specs.World.{World, Carries, StopsAmong}
use Rattle.sat_run.specs.declared.failures.Halt.{Halt}
use Rattle.sat_run.proofs.Joins.{carries_none, carries_then, stops_commands, stops_more, questions_from-append}

-- of some commands all but the rest were carried out
pub record HasDone (commands rest : List Command) (start now : World) : Type 0 where
  pub done : List Command
  pub all : commands ≡ done ++ rest
  pub carries : Carries done start now

pub done_none : (cs : List Command) (a : World) → HasDone cs cs a a
done_none cs a = record { done = []; all = refl; carries = carries_none a }

pub done_more : (cs rest : List Command) (c : Command) (a b d : World) → HasDone cs (c ∷ rest) a b → Carries (c ∷ []) b d → HasDone cs rest a d
done_more cs rest c a b d h p =
    record {
      done = h.done ++ c ∷ [];
      all = h.all ∙ sym (append_assoc h.done (c ∷ []) rest);
      carries = carries_then h.done (c ∷ []) a b d h.carries p;
    }

pub done_stops : (halt : Halt) (cs rest : List Command) (c : Command) (a b d : World) → HasDone cs (c ∷ rest) a b → StopsAmong halt (questions_from b.solver.problem (c ∷ [])) b d → StopsAmong halt (questions_from a.solver.problem cs) a d
done_stops halt cs rest c a b d h s =
    let front = h.done ++ c ∷ [] in
    let e : front ++ rest ≡ cs = append_assoc h.done (c ∷ []) rest ∙ sym h.all in
    subst (λ (xs : List Command). StopsAmong halt (questions_from a.solver.problem xs) a d) e
    (subst (λ (qs : List Question). StopsAmong halt qs a d) (sym (questions_from-append a.solver.problem front rest))
    (stops_more halt (questions_from a.solver.problem front) (questions_from (after_all a.solver.problem front) rest) a d
    (stops_commands halt h.done (c ∷ []) a b d h.carries s)))
