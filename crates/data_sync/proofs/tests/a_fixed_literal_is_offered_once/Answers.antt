use Rattle.std.proofs.Common.{◌≡◌, List, [], sym, subst, arith}
use Rattle.std.proofs.lemmas.List.Elements.{All-nil}
use Rattle.std.specs.List.{All}
use Rattle.sat_lits.specs.declared.shared.Shared.{Shared}
use Rattle.state_laws.specs.State.{State}
use Rattle.state_laws.specs.Kernel.{state_of}
use Rattle.sync_laws.specs.Told.{IsToldClause, IsToldEntry}
use Rattle.sync_laws.specs.Steps.{StandsIn}
use Rattle.data_sync.specs.Books.{Book, no_book}
use Rattle.data_sync.specs.Syncs.{InStepWith}
use Rattle.data_sync.proofs.tests.a_fixed_literal_is_offered_once.Goals as goal

in_step : (s : State) (book : Book) (log : List Shared) → book ≡ no_book → s.entries ≡ [] → s.marked_learned ≡ [] → s.marked_stack ≡ [] → InStepWith s book log
in_step s book log b e l k =
    subst (λ (z : Book). InStepWith s z log) (sym b)
    (record {
      step = record { took = subst (All (StandsIn log)) (sym e) (All-nil (StandsIn log)); within = omega arith; below = λ i d h. absurd (omega arith); met = λ o place x h q n. absurd (omega arith) };
      told = record { learned = subst (All (IsToldClause s log)) (sym l) (All-nil (IsToldClause s log)); stack = subst (All (IsToldEntry s log)) (sym k) (All-nil (IsToldEntry s log)) };
    })

pub sync_twice-requires-clause-step : goal.sync_twice-requires-clause-step
sync_twice-requires-clause-step g c =
    in_step (state_of c.in_ok-state.state) c.new-book.result c.new-store.result c.new-book.ensures c.in_ok-state.ensures.entries c.in_ok-state.ensures.learned c.in_ok-state.ensures.stack
