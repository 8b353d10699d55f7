-- A kernel stands when a variable is eliminated.
use Rattle.std.proofs.Common.{◌≡◌, ℕ, Bool, true, false, not, List, [], ◌∷◌, ◌++◌, sym, ap, subst, ◌∙◌, get_or, set, filter, map, Some, None, is_some, append-nil, ◌≤◌, length, ◌+◌, length-append, arith, ap₂, take}
use Rattle.std.proofs.lemmas.List.{map-set, take-append-le}
use Rattle.std.specs.List.{list_all}
use Rattle.sat_lits.specs.declared.literal.Own.{Own}
use Rattle.sat_lits.specs.declared.literal.OwnLit.{OwnLit}
use Rattle.sat_lits.specs.declared.literal.Inner.{Inner}
use Rattle.sat_lits.specs.declared.literal.InLit.{InLit}
use Rattle.rebuild_stack.specs.Values.{each_lit}
use Rattle.rebuild_stack.specs.CommonLaws.{each_mono}
use Rattle.rebuild_stack.specs.declared.entry.Entry.TheVariants.{Gone}
use Rattle.rebuild_stack.specs.declared.entry.Entry.{Entry}
use Rattle.clause_store.specs.Store.{Store, IsKept, hard_of, learned_of, marked}
use Rattle.var_maps.specs.Maps.{Maps, Matched, inner_at, retired, plain}
use Rattle.state_laws.specs.State.{State, is_active, outers_from}
use Rattle.state_laws.specs.Stands.{Stands}
use Rattle.state_laws.specs.Resolution.{mentions, resolvents}
use Rattle.state_laws.specs.Moves.{eliminated}
use Rattle.state_laws.specs.Held.{own_clauses, touches, InClause, in_own, hard_clause, without_ids, ExtendsBy}
use Rattle.state_laws.specs.Kernel.{Kernel, state_of, Standing, Keeps}
use Rattle.state_laws.specs.EliminateLaws.{eliminated-Stands}
use Rattle.state_laws.specs.KernelPutIntoLaws.{some_inner}
use Rattle.state_laws.specs.MarkLaws.{marked_pass, collected_marked, collected_marked_clauses}
use Rattle.state_laws.specs.ViewLaws.{state_of_parts, clauses_of, listed, listed-hard, listed-none, news_of, collected_held, collected_clauses, retired_view, get_is_some}

-- the ids of the clauses with the variable were collected, the resolvents of the hard ones added to make the store t, and those clauses dropped; the entry was pushed and the variable retired
pub record Elimination (k n : Kernel) (v : Own) (ids : List ℕ) (clauses : List InClause) (t : Store) : Type 0 where
  pub items : n.items ≡ k.items
  pub entries : n.entries ≡ k.entries
  pub definitions : n.definitions ≡ k.definitions
  pub maps : plain n.maps ≡ plain (retired v.0 k.maps)
  pub store : n.store ≡ without_ids ids t
  pub stack : n.stack ≡ k.stack ++ Gone v (filter (mentions v.0) (state_of k).hard) ∷ []
  pub okay : n.okay ≡ k.okay
  pub stack_mark : n.stack_mark ≡ k.stack_mark
  pub within : k.stack_mark ≤ length k.stack
  pub doomed : ids ≡ map (λ h. h.id) (filter (touches k.maps v.0) k.store.held)
  pub become : map (in_own k.maps) clauses ≡ map hard_clause (resolvents v.0 (filter (mentions v.0) (state_of k).hard))
  pub extends : ExtendsBy k.store t clauses
  pub matched : Matched k.maps
  pub kept : IsKept k.store

eliminated_held : (k n : Kernel) (v : Own) (ids : List ℕ) (clauses : List InClause) (t : Store) (p : Elimination k n v ids clauses t) → n.store.held ≡ filter (λ h. not (touches k.maps v.0 h)) k.store.held ++ p.extends.news
eliminated_held k n v ids clauses t p = ap (λ (s : Store). s.held) p.store ∙ collected_held k.maps v.0 k.store t ids clauses p.doomed p.kept p.extends

-- clauses without the variable keep their ids
pub eliminated_keeps : (k n : Kernel) (v : Own) (ids : List ℕ) (clauses : List InClause) (t : Store) → Elimination k n v ids clauses t → Keeps k n v.0
eliminated_keeps k n v ids clauses t p = record { news = p.extends.news; held = eliminated_held k n v ids clauses t p; fresh = p.extends.fresh }

left : (k n : Kernel) (v : Own) (ids : List ℕ) (clauses : List InClause) (t : Store) → Elimination k n v ids clauses t → (test : Bool → Bool)
    → clauses_of k.maps test n.store.held ≡ filter (λ c. not (mentions v.0 c)) (clauses_of k.maps test k.store.held) ++ listed test (map hard_clause (resolvents v.0 (filter (mentions v.0) (state_of k).hard)))
left k n v ids clauses t p test =
    collected_clauses k.maps v.0 test k.store n.store.held p.extends.news (listed test (map hard_clause (resolvents v.0 (filter (mentions v.0) (state_of k).hard)))) (eliminated_held k n v ids clauses t p)
    (news_of k.maps test k.store t clauses (map hard_clause (resolvents v.0 (filter (mentions v.0) (state_of k).hard))) p.become p.extends)

left_hard : (k n : Kernel) (v : Own) (ids : List ℕ) (clauses : List InClause) (t : Store) → Elimination k n v ids clauses t → own_clauses k.maps (hard_of n.store.held) ≡ (eliminated v (state_of k)).hard
left_hard k n v ids clauses t p = left k n v ids clauses t p not ∙ ap (λ z. filter (λ c. not (mentions v.0 c)) (state_of k).hard ++ z) (listed-hard (resolvents v.0 (filter (mentions v.0) (state_of k).hard)))

left_learned : (k n : Kernel) (v : Own) (ids : List ℕ) (clauses : List InClause) (t : Store) → Elimination k n v ids clauses t → own_clauses k.maps (learned_of n.store.held) ≡ (eliminated v (state_of k)).learned
left_learned k n v ids clauses t p =
    left k n v ids clauses t p (λ b. b)
    ∙ (ap (λ z. filter (λ c. not (mentions v.0 c)) (state_of k).learned ++ z) (listed-none (resolvents v.0 (filter (mentions v.0) (state_of k).hard))) ∙ append-nil (filter (λ c. not (mentions v.0 c)) (state_of k).learned))

left_marked : (k n : Kernel) (v : Own) (ids : List ℕ) (clauses : List InClause) (t : Store) → Elimination k n v ids clauses t → own_clauses k.maps (learned_of (marked n.store)) ≡ (eliminated v (state_of k)).marked_learned
left_marked k n v ids clauses t p = collected_marked_clauses k.maps v.0 k.store (marked n.store) (ap marked p.store ∙ collected_marked k.maps v.0 k.store t ids clauses p.doomed p.kept p.extends)

-- it is seen as the state without the variable
pub eliminated_state : (k n : Kernel) (v : Own) (ids : List ℕ) (clauses : List InClause) (t : Store) → Elimination k n v ids clauses t → is_active (state_of k) v.0 ≡ true → Stands (eliminated v (state_of k)) → state_of n ≡ eliminated v (state_of k)
eliminated_state k n v ids clauses t p q h =
    state_of_parts n p.items p.entries p.definitions
    (view (hard_of n.store.held) (eliminated v (state_of k)).hard (left_hard k n v ids clauses t p) h.places.placed.hard)
    (view (learned_of n.store.held) (eliminated v (state_of k)).learned (left_learned k n v ids clauses t p) h.places.placed.learned)
    p.stack
    (ap (λ (m : Maps). map is_some m.inners) p.maps ∙ map-set is_some k.maps.inners v.0 None)
    p.okay
    (view (learned_of (marked n.store)) (eliminated v (state_of k)).marked_learned (left_marked k n v ids clauses t p)
    (subst (λ (z : List (List OwnLit)). each_lit (λ l. is_active (eliminated v (state_of k)) l.var.0) z ≡ true) (left_marked k n v ids clauses t p)
    (marked_pass (list_all (λ (l : OwnLit). is_active (eliminated v (state_of k)) l.var.0)) k.maps n.store
    (subst (λ (z : List (List OwnLit)). each_lit (λ l. is_active (eliminated v (state_of k)) l.var.0) z ≡ true) (sym (left_learned k n v ids clauses t p)) h.places.placed.learned))))
    (ap₂ {C = List Entry} take p.stack_mark p.stack ∙ take-append-le k.stack_mark k.stack (Gone v (filter (mentions v.0) (state_of k).hard) ∷ []) p.within)
  where
    i : (i : Inner) × (inner_at k.maps v.0 ≡ Some i)
    i = some_inner (inner_at k.maps v.0) (sym (get_is_some k.maps.inners v.0) ∙ q)

    active : (j : ℕ) → is_active (eliminated v (state_of k)) j ≡ is_some (get_or (set k.maps.inners v.0 None) j None)
    active j = ap (λ (z : List Bool). get_or z j false) (sym (map-set is_some k.maps.inners v.0 None)) ∙ get_is_some (set k.maps.inners v.0 None) j

    view : (cs : List (List InLit)) (made : List (List OwnLit)) → own_clauses k.maps cs ≡ made → each_lit (λ l. is_active (eliminated v (state_of k)) l.var.0) made ≡ true → own_clauses n.maps cs ≡ made
    view cs made f a =
        ap (λ (m : Maps). own_clauses m cs) p.maps
        ∙ (sym (retired_view k.maps v.0 i.0 i.1 p.matched cs
        (each_mono (λ (l : OwnLit). is_active (eliminated v (state_of k)) l.var.0) (λ (l : OwnLit). is_some (get_or (set k.maps.inners v.0 None) l.var.0 None)) (λ l b. sym (active l.var.0) ∙ b) (own_clauses k.maps cs)
        (ap (each_lit (λ (l : OwnLit). is_active (eliminated v (state_of k)) l.var.0)) f ∙ a)))
        ∙ f)

-- and stands
pub eliminated-Standing : (k n : Kernel) (v : Own) (ids : List ℕ) (clauses : List InClause) (t : Store) → Elimination k n v ids clauses t → is_active (state_of k) v.0 ≡ true → Standing k → Standing n
eliminated-Standing k n v ids clauses t p q h =
    record {
      stands = subst (λ (s : State). Stands s) (sym (eliminated_state k n v ids clauses t p q (eliminated-Stands v (state_of k) q h.stands))) (eliminated-Stands v (state_of k) q h.stands);
      outers = ap (λ (m : Maps). map (λ v. v.0) m.outers) p.maps ∙ (h.outers ∙ ap (outers_from 0) (sym p.definitions));
      private = ap (map is_some) p.definitions ∙ (h.private ∙ sym (ap (λ (m : Maps). map (λ o. not (is_some o)) m.outer_numbers) p.maps));
      within = let b : n.stack_mark ≡ k.stack_mark = p.stack_mark in
          let c : length n.stack ≡ length k.stack + 1 = ap length p.stack ∙ length-append k.stack (Gone v (filter (mentions v.0) (state_of k).hard) ∷ []) in
          omega (arith, h.within, b, c);
    }
