use Rattle.std.proofs.Common.{◌≡◌, ℕ, ltb, not, true, List, [], ◌∷◌, length, refl, sym, ap, subst, ◌∙◌, arith}
use Rattle.std.proofs.lemmas.List.{length-map}
use Rattle.std.proofs.lemmas.List.Folds.{list_all-map}
use Rattle.std.proofs.lemmas.Bool.{eqb-true}
use Rattle.std.specs.List.{list_all}
use Rattle.var_maps.specs.Maps.{Maps}
use Rattle.sat_lits.specs.declared.literal.Lit.{Lit}
use Rattle.sat_lits.specs.declared.literal.Own.{Own}
use Rattle.rebuild_stack.specs.Roots.{root, is_lost}
use Rattle.rebuild_stack.specs.declared.entry.Entry.{Entry}
use Rattle.state_laws.specs.State.{to_own, outers_from}
use Rattle.state_laws.specs.Conditions.{Takable}
use Rattle.state_laws.specs.Kernel.{Kernel, state_of, Standing}
use Rattle.var_elim.proofs.tests.can_take.Goals as goal

-- where the stack is empty, a clause over outer variables that are there may be taken
takable : (k : Kernel) (lits : List Lit) (vars : ℕ) → Standing k → k.stack ≡ [] → vars ≡ length k.maps.outers → list_all (λ l. ltb l.var.0 vars) lits ≡ true → Takable (state_of k) lits
takable k lits vars s e v a =
    let n : vars ≡ length (outers_from 0 k.definitions) = v ∙ (sym (length-map k.maps.outers (λ (o : Own). o.0)) ∙ ap length s.outers) in
    record {
      there = list_all-map (λ (m : ℕ). ltb m (length (outers_from 0 k.definitions))) (λ (l : Lit). l.var.0) lits ∙ subst (λ (m : ℕ). list_all (λ (l : Lit). ltb l.var.0 m) lits ≡ true) n a;
      roots = subst (λ (stack : List Entry). list_all (λ (l : Lit). not (is_lost (root stack (to_own k.definitions l)))) lits ≡ true) (sym e) (none lits);
    }
  where
    none : (ls : List Lit) → list_all (λ (l : Lit). not (is_lost (root [] (to_own k.definitions l)))) ls ≡ true
    none [] = refl
    none (l ∷ ls) = none ls

no_more : {X : Type 0} (xs : List X) → length xs ≡ 0 → xs ≡ []
no_more [] e = refl
no_more (x ∷ xs) e = absurd (omega arith)

pub returns : goal.returns
returns c = λ f.
    takable c.args.state.now c.args.lits.now c.outer_count-vars.result c.maps.ensures.standing
    (sym c.stack.ensures ∙ (sym c.entries.ensures ∙ no_more c.entries.result.now (eqb-true _ _ (sym c.is_empty.ensures ∙ c.if-not-is_empty.false))))
    (c.outer_count-vars.ensures.value ∙ ap (λ (m : Maps). length m.outers) c.maps.ensures.value) (sym c.are_below.ensures ∙ f)
