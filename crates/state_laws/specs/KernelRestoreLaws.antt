-- A kernel stands when an eliminated variable is restored.
use Rattle.std.proofs.Common.{◌≡◌, ℕ, suc, Bool, not, List, ◌++◌, sym, ap, ap₂, subst, ◌∙◌, drop, remove, map, Option, Some, is_some, append-nil, length, ◌≤◌, arith, take}
use Rattle.std.proofs.lemmas.List.{map-set}
use Rattle.std.specs.List.{list_all}
use Rattle.sat_lits.specs.declared.literal.Own.{Own}
use Rattle.sat_lits.specs.declared.literal.OwnLit.{OwnLit}
use Rattle.sat_lits.specs.declared.literal.Inner.{Inner}
use Rattle.sat_lits.specs.declared.literal.Var.{Var}
use Rattle.rebuild_stack.specs.Roots.{root}
use Rattle.rebuild_stack.specs.PutIn.{put_in_all}
use Rattle.rebuild_stack.specs.declared.entry.Entry.{Entry}
use Rattle.clause_store.specs.Store.{hard_of, learned_of, Held, marked}
use Rattle.var_maps.specs.Maps.{Revived}
use Rattle.state_laws.specs.State.{State, outers_from, is_active}
use Rattle.state_laws.specs.Stands.{Stands}
use Rattle.state_laws.specs.Moves.{restored}
use Rattle.state_laws.specs.Conditions.{Restorable}
use Rattle.state_laws.specs.Held.{InClause, in_own, hard_clause, ExtendsBy, own_clauses}
use Rattle.state_laws.specs.Kernel.{Kernel, state_of, Standing, Longer}
use Rattle.state_laws.specs.RestoreLaws.{restored-Stands}
use Rattle.state_laws.specs.MarkLaws.{marked_pass, left_of, take_remove, remove_within}
use Rattle.state_laws.specs.ViewLaws.{state_of_parts, clauses_of, clauses_of-append, listed, listed-hard, listed-none, news_of, numbered_view}

-- the entry at the place was taken out, its variable revived, and its clauses added with the newer entries put in
pub record Restoration (k n : Kernel) (at : ℕ) (v : Own) (clauses : List (List OwnLit)) (fresh : List InClause) : Type 0 where
  pub items : n.items ≡ k.items
  pub entries : n.entries ≡ k.entries
  pub definitions : n.definitions ≡ k.definitions
  pub inner : Inner
  pub maps : Revived v inner k.maps n.maps
  pub stack : n.stack ≡ remove k.stack at
  pub stack_mark : n.stack_mark ≡ left_of at k.stack_mark
  pub okay : n.okay ≡ k.okay
  pub extends : ExtendsBy k.store n.store fresh
  pub become : map (in_own n.maps) fresh ≡ map hard_clause (put_in_all (root (drop (suc at) k.stack)) clauses)

-- all clauses keep their ids
pub restored-Longer : (k n : Kernel) (at : ℕ) (v : Own) (cs : List (List OwnLit)) (fresh : List InClause) → Restoration k n at v cs fresh → Longer k n
restored-Longer k n at v cs fresh p = record { news = p.extends.news; held = p.extends.held; fresh = p.extends.fresh }

clauses_then : (k n : Kernel) (at : ℕ) (v : Own) (cs : List (List OwnLit)) (fresh : List InClause) → Restoration k n at v cs fresh → (test : Bool → Bool) → clauses_of k.maps test k.store.held ≡ clauses_of n.maps test k.store.held
    → clauses_of n.maps test n.store.held ≡ clauses_of k.maps test k.store.held ++ listed test (map hard_clause (put_in_all (root (drop (suc at) k.stack)) cs))
clauses_then k n at v cs fresh p test same =
    ap (clauses_of n.maps test) p.extends.held
    ∙ (clauses_of-append n.maps test k.store.held p.extends.news
    ∙ ap₂ {C = List (List OwnLit)} ◌++◌ (sym same) (news_of n.maps test k.store n.store fresh (map hard_clause (put_in_all (root (drop (suc at) k.stack)) cs)) p.become p.extends))

-- it is seen as the state with the variable restored
pub restored_state : (k n : Kernel) (at : ℕ) (v : Own) (cs : List (List OwnLit)) (fresh : List InClause) → Restoration k n at v cs fresh → Stands (state_of k) → state_of n ≡ restored at v cs (state_of k)
restored_state k n at v cs fresh p h =
    state_of_parts n p.items p.entries p.definitions
    (clauses_then k n at v cs fresh p not (numbered_view k.maps n.maps v p.inner p.maps.numbered.free p.maps.numbered.given (hard_of k.store.held) h.places.placed.hard)
    ∙ ap (λ z. (state_of k).hard ++ z) (listed-hard (put_in_all (root (drop (suc at) k.stack)) cs)))
    (clauses_then k n at v cs fresh p (λ b. b) (numbered_view k.maps n.maps v p.inner p.maps.numbered.free p.maps.numbered.given (learned_of k.store.held) h.places.placed.learned)
    ∙ (ap (λ z. (state_of k).learned ++ z) (listed-none (put_in_all (root (drop (suc at) k.stack)) cs)) ∙ append-nil (state_of k).learned))
    p.stack
    (ap (map is_some) p.maps.inners ∙ map-set is_some k.maps.inners v.0 (Some p.inner))
    p.okay
    (ap (λ (hs : List Held). own_clauses n.maps (learned_of hs)) p.extends.marked
    ∙ sym (numbered_view k.maps n.maps v p.inner p.maps.numbered.free p.maps.numbered.given (learned_of (marked k.store)) (marked_pass (list_all (λ (l : OwnLit). is_active (state_of k) l.var.0)) k.maps k.store h.places.placed.learned)))
    (ap₂ {C = List Entry} take p.stack_mark p.stack ∙ take_remove k.stack at k.stack_mark)

-- and stands
pub restored-Standing : (k n : Kernel) (at : ℕ) (v : Own) (cs : List (List OwnLit)) (fresh : List InClause) → Restoration k n at v cs fresh → Restorable (state_of k) at v cs → Standing k → Standing n
restored-Standing k n at v cs fresh p r h =
    record {
      stands = subst (λ (s : State). Stands s) (sym (restored_state k n at v cs fresh p h.stands)) (restored-Stands at v cs (state_of k) r h.stands);
      outers = ap (map (λ (w : Own). w.0)) p.maps.outers ∙ (h.outers ∙ ap (outers_from 0) (sym p.definitions));
      private = ap (map is_some) p.definitions ∙ (h.private ∙ sym (ap (map (λ (o : Option Var). not (is_some o))) p.maps.outer_numbers));
      within = let b : n.stack_mark ≡ left_of at k.stack_mark = p.stack_mark in
          let c : length n.stack ≡ length (remove k.stack at) = ap length p.stack in
          let d : left_of at k.stack_mark ≤ length (remove k.stack at) = remove_within k.stack at k.stack_mark h.within in
          omega (arith, b, c, d);
    }
