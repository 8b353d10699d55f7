-- Inner values that satisfy the hard clauses give a model of the items taken.
use Rattle.std.proofs.Common.{◌≡◌, ℕ, Bool, true, false, ◌||◌, List, [], ◌∷◌, refl, sym, ap, ap₂, subst, ◌∙◌, length, get_or, map, Option, Some, None, is_some}
use Rattle.std.proofs.Math.ListN.{get_or-map}
use Rattle.std.proofs.lemmas.Bool.{and_parts, and_from, false≢true}
use Rattle.std.proofs.lemmas.List.{length-map}
use Rattle.std.specs.List.{list_all}
use Rattle.sat_lits.specs.Truth.{signed, clause_value, clauses_value}
use Rattle.sat_lits.specs.Meaning.{IsModel}
use Rattle.sat_lits.specs.declared.literal.Own.{Own}
use Rattle.sat_lits.specs.declared.literal.OwnLit.{OwnLit}
use Rattle.sat_lits.specs.declared.literal.InLit.{InLit}
use Rattle.rebuild_stack.specs.Values.{values_of, own_value, each_lit}
use Rattle.rebuild_stack.specs.Entries.{rebuild, is_within}
use Rattle.clause_store.specs.Store.{hard_of}
use Rattle.var_maps.specs.Maps.{Maps, Matched, owner_at}
use Rattle.state_laws.specs.State.{outer_part, problem_of}
use Rattle.state_laws.specs.Held.{own_or, own_of, own_clause, own_clauses, inner_value, in_value}
use Rattle.state_laws.specs.Kernel.{Kernel, state_of, Standing}
use Rattle.state_laws.specs.PlaceLaws.{stack_within}
use Rattle.state_laws.specs.ViewLaws.{past_active, map_map}

lit_value : (xs : List Bool) (m : Maps) (l : InLit) → Matched m → get_or (map is_some m.inners) (own_of m l).var.0 false ≡ true → own_value (values_of (map (inner_value xs) m.inners)) (own_of m l) ≡ in_value xs l
lit_value xs m l h a = go (owner_at m l.var.0) refl a
  where
    go : (o : Option Own) → owner_at m l.var.0 ≡ o → get_or (map is_some m.inners) (own_or (length m.inners) o).0 false ≡ true → signed l.negative (values_of (map (inner_value xs) m.inners) (own_or (length m.inners) o).0) ≡ signed l.negative (get_or xs l.var.0 false)
    go None e a = absurd (false≢true (sym (past_active m.inners) ∙ a))
    go (Some v) e a = ap (signed l.negative) (get_or-map (inner_value xs) m.inners v.0 None ∙ ap (inner_value xs) (h.owner_inner l.var.0 v e))

clause_same : (xs : List Bool) (m : Maps) (c : List InLit) → Matched m → list_all (λ l. get_or (map is_some m.inners) l.var.0 false) (own_clause m c) ≡ true
    → clause_value (own_value (values_of (map (inner_value xs) m.inners))) (own_clause m c) ≡ clause_value (in_value xs) c
clause_same xs m [] h a = refl
clause_same xs m (l ∷ c) h a =
    let p : (get_or (map is_some m.inners) (own_of m l).var.0 false ≡ true) × (list_all (λ (k : OwnLit). get_or (map is_some m.inners) k.var.0 false) (own_clause m c) ≡ true) = and_parts _ _ a in
    ap₂ ◌||◌ (lit_value xs m l h p.0) (clause_same xs m c h p.1)

-- inner values, given to the own variables, satisfy stored clauses of active variables as they are read
pub own_holds : (xs : List Bool) (m : Maps) (cs : List (List InLit)) → Matched m → each_lit (λ l. get_or (map is_some m.inners) l.var.0 false) (own_clauses m cs) ≡ true → clauses_value (in_value xs) cs ≡ true
    → clauses_value (own_value (values_of (map (inner_value xs) m.inners))) (own_clauses m cs) ≡ true
own_holds xs m [] h a e = refl
own_holds xs m (c ∷ cs) h a e =
    let p : (list_all (λ (l : OwnLit). get_or (map is_some m.inners) l.var.0 false) (own_clause m c) ≡ true) × (each_lit (λ (l : OwnLit). get_or (map is_some m.inners) l.var.0 false) (own_clauses m cs) ≡ true) = and_parts _ _ a in
    let q : (clause_value (in_value xs) c ≡ true) × (clauses_value (in_value xs) cs ≡ true) = and_parts _ _ e in
    and_from _ _ (clause_same xs m c h p.0 ∙ q.0) (own_holds xs m cs h p.1 q.1)

-- own values of that many variables can be rebuilt
pub own_within : (k : Kernel) (xs own : List Bool) → Standing k → own ≡ map (inner_value xs) k.maps.inners → list_all (is_within (length own)) k.stack ≡ true
own_within k xs own h e =
    subst (λ (n : ℕ). list_all (is_within n) k.stack ≡ true) (length-map k.maps.inners is_some ∙ (sym (length-map k.maps.inners (inner_value xs)) ∙ sym (ap length e))) (stack_within (state_of k) h.stands.places)

-- the outer part of the values rebuilt from inner values that satisfy the hard clauses is a model of the items taken
pub outer_model_right : (k : Kernel) (xs own new out : List Bool) → Standing k → Matched k.maps → k.okay ≡ true → clauses_value (in_value xs) (hard_of k.store.held) ≡ true → own ≡ map (inner_value xs) k.maps.inners
    → values_of new ≡ rebuild k.stack (values_of own) → out ≡ map (λ v. values_of new v.0) k.maps.outers → IsModel (problem_of (state_of k)) out
outer_model_right k xs own new out h m o sat e r f =
    subst (λ (z : List Bool). IsModel (problem_of (state_of k)) z) (sym part)
    (h.stands.complete.rebuilt o (values_of (map (inner_value xs) k.maps.inners)) (own_holds xs k.maps (hard_of k.store.held) m h.stands.places.placed.hard sat))
  where
    part : out ≡ outer_part k.definitions (rebuild k.stack (values_of (map (inner_value xs) k.maps.inners)))
    part =
        f ∙ (sym (map_map (values_of new) (λ (v : Own). v.0) k.maps.outers)
        ∙ (ap (map (values_of new)) h.outers ∙ ap (λ (w : ℕ → Bool). outer_part k.definitions w) (r ∙ ap (λ (z : List Bool). rebuild k.stack (values_of z)) e)))
