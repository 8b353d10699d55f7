-- A solver that is not okay has no model.
use Rattle.std.proofs.Common.{◌≡◌, ℕ, Bool, true, false, List, [], ap, sym, ◌∙◌, length}
use Rattle.std.specs.List.{list_all}
use Rattle.sat_lits.specs.Truth.{clause_value}
use Rattle.sat_lits.specs.ClauseLaws.{clause_value-map}
use Rattle.sat_lits.specs.ListLaws.{all_mono}
use Rattle.sat_lits.specs.declared.literal.InLit.{InLit}
use Rattle.std.proofs.lemmas.Bool.{true≢false}
use Rattle.rebuild_stack.specs.Values.{own_value}
use Rattle.clause_store.specs.Store.{Held}
use Rattle.propagate.specs.Reasons.{lit_value, held_value}
use Rattle.state_laws.specs.Conditions.{Satisfies, IsContradicted}
use Rattle.state_laws.specs.Held.{own_or, own_of, own_clause}
use Rattle.state_laws.specs.Kernel.{Kernel, state_of, Standing}
use Rattle.state_laws.specs.ViewLaws.{both_lists}
use Rattle.state_laws.specs.WidenLaws.{refuted_has_no_model}
use Rattle.search.specs.Answers.{AreFailed}
use Rattle.search.specs.Assumed.{assumption_at}
use Rattle.var_maps.specs.Maps.{owner_at}
use Rattle.one_solver.specs.Parts.{Parts, problem_in}
use Rattle.one_solver.specs.InStep.{EntriesFollow, entry_follows}
use Rattle.one_solver.specs.Steps.{HasNoModel}

-- the value of an inner number is that of its own variable
abbrev pub inner_of : Kernel → (ℕ → Bool) → ℕ → Bool
inner_of k w i = w (own_or (length k.maps.inners) (owner_at k.maps i)).0

-- where own values satisfy the clauses, these satisfy them as they are stored
pub held_inner : (k : Kernel) (w : ℕ → Bool) → Satisfies (state_of k) w → held_value (inner_of k w) k.store.held ≡ true
held_inner k w s =
    all_mono (λ (h : Held). clause_value (own_value w) (own_clause k.maps h.lits)) (λ (h : Held). clause_value (lit_value (inner_of k w)) h.lits)
    (λ h e. sym (clause_value-map (own_value w) (own_of k.maps) h.lits) ∙ e) k.store.held
    (both_lists k.maps (clause_value (own_value w)) k.store.held s.hard s.learned)

-- the items of a solver that is not okay have no model, where the entries that it took follow from them
pub no_model : (s : Parts) → Standing s.kernel → EntriesFollow s → s.kernel.okay ≡ false → HasNoModel (problem_in s)
no_model s st f e = refuted_has_no_model (state_of s.kernel) st.stands e (entry_follows s f)

-- where no literal has failed, the clauses contradict each other
pub failed_contradicted : (k : Kernel) (lits : List InLit) (positions : List ℕ) → positions ≡ [] → AreFailed k.store.held lits positions → IsContradicted (state_of k)
failed_contradicted k lits positions e f w s = true≢false (ap (λ (ps : List ℕ). list_all (λ p. lit_value inner (assumption_at lits p)) ps) (sym e) ∙ f.contradict inner (held_inner k w s))
  where
    inner : ℕ → Bool
    inner = inner_of k w
