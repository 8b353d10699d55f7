-- What an offer leaves of a legal log where no assignment satisfies the formula. The tests cite it.
use Rattle.std.proofs.Common.{◌≡◌, ◌<◌, ℕ, zero, suc, Bool, true, List, [], ◌∷◌, ◌++◌, get_or, map, Result, Ok, Err, OnErr, refl, sym, subst, ◌∙◌, arith}
use Rattle.std.specs.List.{list_all}
use Rattle.std.proofs.lemmas.Bool.{and_parts}
use Rattle.std.proofs.lemmas.List.Folds.{list_all-append}
use Rattle.sat_lits.specs.Meaning.{Problem, IsModel, Follows, satisfies}
use Rattle.sat_lits.specs.Logs.{with_clauses}
use Rattle.sat_lits.specs.declared.formula.Item.TheVariants.{Clause}
use Rattle.sat_lits.specs.declared.list.NoMemory.{NoMemory}
use Rattle.sat_lits.specs.declared.literal.Lit.{Lit}
use Rattle.sat_lits.specs.declared.shared.Shared.{Shared}
use Rattle.share_store.specs.Log.{entry_of, LacksClause, StartsWith}
use Rattle.share_store.specs.Laws.{starts_refl}
use Rattle.share_store.specs.declared.store.Offer.{Offer}
use Rattle.share_store.specs.declared.store.Offer.TheVariants.{Added, Known}
use Rattle.share_turn.specs.declared.view.Question.{Question}
use Rattle.share_turn.specs.Views.{IsLegalFor}
use Rattle.share_turn.specs.Laws.{added_is_legal}

abbrev HasNoModel : Problem → Type 0
HasNoModel f = (values : List Bool) → IsModel f values → ⊥

-- where there is no model, every clause follows
all_follow : (f : Problem) (entries : List Shared) (clause : List Lit) → HasNoModel f → Follows (with_clauses f entries) clause
all_follow f entries clause none values m =
    let both : (list_all (satisfies values) f.items ≡ true) × (list_all (satisfies values) (map (λ (e : Shared). Clause e.clause) entries) ≡ true) =
    and_parts _ _ (sym (list_all-append (satisfies values) f.items (map (λ (e : Shared). Clause e.clause) entries)) ∙ m.holds) in
    absurd (none values record { whole = m.whole; holds = both.0 })

-- whatever an offer of a clause of one literal answers, the log is legal and begins with the old one
pub still_legal : (q : Question) (log new : List Shared) (solver : ℕ) (lit : Lit) (r : Result Offer NoMemory) → HasNoModel q.formula.problem → IsLegalFor q log → solver < q.solvers → lit.var.0 < q.formula.problem.vars
    → (r ≡ Ok Known → new ≡ log) → (r ≡ Ok Added → LacksClause log (lit ∷ [])) → (r ≡ Ok Added → new ≡ log ++ entry_of solver 0 (lit ∷ []) ∷ []) → OnErr r (new ≡ log) → IsLegalFor q new × StartsWith new log
still_legal q log new solver lit (Ok Known) none legal known there same fresh more err =
    (subst (IsLegalFor q) (sym (same refl)) legal, subst (λ (l : List Shared). StartsWith l log) (sym (same refl)) (starts_refl log))
still_legal q log new solver lit (Ok Added) none legal known there same fresh more err =
    let entry = entry_of solver 0 (lit ∷ []) in (
      subst (IsLegalFor q) (sym (more refl))
          (added_is_legal q log entry legal
          record {
            earlier = omega arith;
            follows = all_follow q.formula.problem [] (lit ∷ []) none;
            shareable = record { some = omega arith; few = omega arith; there = λ k d within. one k d (omega arith); rising = λ i j d below within. absurd (omega arith) };
          }
          known (fresh refl)),
      record { rest = entry ∷ []; is = more refl },
    )
  where
    one : (k : ℕ) (d : Lit) → k < 1 → (get_or (lit ∷ []) k d).var.0 < q.formula.problem.vars
    one zero d within = there
    one (suc k) d within = absurd (omega arith)
still_legal q log new solver lit (Err e) none legal known there same fresh more err =
    (subst (IsLegalFor q) (sym err) legal, subst (λ (l : List Shared). StartsWith l log) (sym err) (starts_refl log))
