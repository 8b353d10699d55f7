use Rattle.std.proofs.Common.{◌≡◌, ◌∙◌, ◌∷◌, [], refl, ap, sym, true}
use Rattle.std.proofs.lemmas.Bool.{false≢true}
use Rattle.clause_store.specs.Store.{clause_at}
use Rattle.state_laws.specs.Kernel.{Kernel}
use Rattle.var_elim.specs.Subsumption.{subsumes_at}
use Rattle.var_elim.proofs.Subsuming.{none_at, subsumed_self}
use Rattle.var_elim.proofs.Implying.{needless_implied, still_at, marked_hard}
use Rattle.var_elim.proofs.drop.drop_if_subsumed.Goals as goal

pub returns-then-not-is_subsumed-clause-none : goal.returns-then-not-is_subsumed-clause-none
returns-then-not-is_subsumed-clause-none c = λ n h e.
    none_at h (clause_at c.args.state.now.store.held c.args.id.0) (sym ((rw c.clauses.ensures.value at c.is_subsumed.ensures.value) h e) ∙ c.if-not-is_subsumed.true)

pub drop_implied-requires : goal.drop_implied-requires
drop_implied-requires c =
    needless_implied c.args.state.now c.args.by.now.id.0 c.args.id.0 (rw c.clauses.ensures.value at c.is_subsumed.ensures.kept) (marked_hard c.args.state.now.store.held c.args.by.now c.requires)
    (sym ((rw c.clauses.ensures.value at c.is_subsumed.ensures.value) c.requires.clause c.requires.found) ∙ c.if-not-is_subsumed.false)

subsumed : (c : goal.After-drop_implied) → subsumes_at c.requires.clause (clause_at c.args.state.now.store.held c.args.id.0) ≡ true
subsumed c = sym ((rw c.clauses.ensures.value at c.is_subsumed.ensures.value) c.requires.clause c.requires.found) ∙ c.if-not-is_subsumed.false

pub returns-clause-dropped : goal.returns-clause-dropped
returns-clause-dropped c =
    record {
      ids = c.args.id.0 ∷ [];
      count = refl;
      left = ap (λ (k : Kernel). k.store.held) c.drop_implied.ensures;
      needless = (record { by = c.args.by.now.id.0; other = marked_hard c.args.state.now.store.held c.args.by.now c.requires; subsumed = subsumed c }, tt);
    }

pub returns-clause-by : goal.returns-clause-by
returns-clause-by c =
    record {
      clause = c.requires.clause;
      found = ap (λ (k : Kernel). clause_at k.store.held c.args.by.now.id.0) c.drop_implied.ensures
          ∙ still_at c.args.state.now.store.held c.args.id.0 c.args.by.now.id.0 c.requires.clause c.requires.found
          (λ z. absurd (false≢true (sym (subsumed_self c.args.state.now.store.held c.args.by.now.id.0 c.args.id.0 c.requires.clause z c.requires.found) ∙ subsumed c)));
      hard = c.requires.hard;
      long = c.requires.long;
      marks = c.requires.marks;
    }
