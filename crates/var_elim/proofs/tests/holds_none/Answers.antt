use Rattle.std.proofs.Common.{◌≡◌, ◌∙◌, false, not, List, [], Option, Some, None, is_some, sym, ap}
use Rattle.std.proofs.lemmas.Bool.{false≢true}
use Rattle.sat_lits.specs.Truth.{clauses_value}
use Rattle.sat_lits.specs.declared.literal.ClauseId.{ClauseId}
use Rattle.clause_store.specs.Store.{Held, before, hard_of}
use Rattle.clause_store.specs.Laws.{before-none}
use Rattle.state_laws.specs.Held.{in_value}
use Rattle.var_elim.proofs.tests.holds_none.Goals as goal

nothing : (held : List Held) (o : Option ClauseId) → is_some o ≡ false → before held o ≡ [] → held ≡ []
nothing held None e s = sym (before-none held) ∙ s
nothing held (Some i) e s = absurd (false≢true (sym e))

pub returns : goal.returns
returns c = λ f.
    ap (λ (hs : List Held). clauses_value (in_value c.args.values.now) (hard_of hs)) (nothing c.args.store.now.held c.first.result (c.is_none.ensures ∙ ap not f) c.first.ensures.start)
