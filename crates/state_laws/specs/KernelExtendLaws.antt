-- A kernel stands when an own variable is made.
use Rattle.std.proofs.Common.{◌≡◌, ℕ, ◌+◌, Bool, true, false, not, List, [], ◌∷◌, ◌++◌, refl, sym, ap, ap₂, subst, ◌∙◌, arith, length, map, Option, Some, None, is_some, append-nil, take}
use Rattle.std.proofs.lemmas.List.{map-append, length-map}
use Rattle.std.specs.List.{list_all}
use Rattle.sat_lits.specs.declared.literal.Own.{Own}
use Rattle.sat_lits.specs.declared.literal.Var.{Var}
use Rattle.rebuild_stack.specs.declared.entry.Entry.{Entry}
use Rattle.clause_store.specs.Store.{hard_of, learned_of, marked, Held}
use Rattle.var_maps.specs.Maps.{Maps, Added}
use Rattle.state_laws.specs.declared.definition.Definition.{Definition}
use Rattle.state_laws.specs.State.{State, outers_from, is_active}
use Rattle.state_laws.specs.Stands.{Stands}
use Rattle.sat_lits.specs.declared.literal.OwnLit.{OwnLit}
use Rattle.state_laws.specs.Moves.{extended}
use Rattle.state_laws.specs.Conditions.{Defines}
use Rattle.state_laws.specs.Held.{InClause, in_own, hard_clause, ExtendsBy, own_clauses}
use Rattle.state_laws.specs.Kernel.{Kernel, state_of, Standing}
use Rattle.state_laws.specs.ExtendLaws.{outers_from-append, extended-Stands}
use Rattle.state_laws.specs.MarkLaws.{marked_pass}
use Rattle.state_laws.specs.ViewLaws.{state_of_parts, clauses_of, clauses_of-append, listed, listed-hard, listed-none, news_of, numbered_view}

-- the kernel with these maps and one outer variable more
abbrev pub with_outer : Maps → Kernel → Kernel
with_outer m k = record k { maps = m; definitions = k.definitions ++ None ∷ [] }

-- an outer variable was made
pub grown_state : (k : Kernel) (m : Maps) (v : Own) (o : Var) → Added (Some o) v k.maps m → Stands (state_of k) → state_of (with_outer m k) ≡ extended None [] (state_of k)
grown_state k m v o a h =
    state_of_parts (with_outer m k) refl refl refl
    (sym (numbered_view k.maps m v a.inner a.numbered.free a.numbered.given (hard_of k.store.held) h.places.placed.hard) ∙ sym (append-nil (state_of k).hard))
    (sym (numbered_view k.maps m v a.inner a.numbered.free a.numbered.given (learned_of k.store.held) h.places.placed.learned))
    refl
    (ap (map is_some) a.inners ∙ map-append is_some k.maps.inners (Some a.inner ∷ []))
    refl
    (sym (numbered_view k.maps m v a.inner a.numbered.free a.numbered.given (learned_of (marked k.store)) (marked_pass (list_all (λ (l : OwnLit). is_active (state_of k) l.var.0)) k.maps k.store h.places.placed.learned)))
    refl

-- and it stands
pub grown-Standing : (k : Kernel) (m : Maps) (v : Own) (o : Var) → Added (Some o) v k.maps m → m.outers ≡ k.maps.outers ++ v ∷ [] → Standing k → Standing (with_outer m k)
grown-Standing k m v o a r h =
    record {
      stands = subst (λ (s : State). Stands s) (sym (grown_state k m v o a h.stands)) (extended-Stands None [] (state_of k) (record { there = refl; active = refl; clean = refl; follow = λ w d. refl }) h.stands);
      outers = ap (map (λ (w : Own). w.0)) r
          ∙ (map-append (λ (w : Own). w.0) k.maps.outers (v ∷ []) ∙ (ap₂ {C = List ℕ} (λ (x : List ℕ) (y : ℕ). x ++ y ∷ []) h.outers number ∙ sym (outers_from-append 0 k.definitions (None ∷ []))));
      private = map-append is_some k.definitions (None ∷ [])
          ∙ (ap (λ (z : List Bool). z ++ false ∷ []) h.private
          ∙ (sym (map-append (λ (x : Option Var). not (is_some x)) k.maps.outer_numbers (Some o ∷ [])) ∙ ap (map (λ (x : Option Var). not (is_some x))) (sym a.outer_numbers)));
      within = h.within;
    }
  where
    number : v.0 ≡ 0 + length k.definitions
    number =
        let l : length (map is_some k.maps.inners) ≡ length k.definitions = h.stands.places.lengths in
        let j : length (map is_some k.maps.inners) ≡ length k.maps.inners = length-map k.maps.inners is_some in
        let e : v.0 ≡ length k.maps.inners = a.number in
        omega arith

-- a private variable with this definition was made, and clauses were added that are these in own literals
pub record PrivateMade (k n : Kernel) (v : Own) (d : Definition) (clauses : List InClause) (made : List (List OwnLit)) : Type 0 where
  pub items : n.items ≡ k.items
  pub entries : n.entries ≡ k.entries
  pub definitions : n.definitions ≡ k.definitions ++ Some d ∷ []
  pub maps : Added None v k.maps n.maps
  pub outers : n.maps.outers ≡ k.maps.outers
  pub stack : n.stack ≡ k.stack
  pub stack_mark : n.stack_mark ≡ k.stack_mark
  pub okay : n.okay ≡ k.okay
  pub extends : ExtendsBy k.store n.store clauses
  pub become : map (in_own n.maps) clauses ≡ map hard_clause made

clauses_then : (k n : Kernel) (v : Own) (d : Definition) (clauses : List InClause) (made : List (List OwnLit)) → PrivateMade k n v d clauses made → (test : Bool → Bool) → clauses_of k.maps test k.store.held ≡ clauses_of n.maps test k.store.held
    → clauses_of n.maps test n.store.held ≡ clauses_of k.maps test k.store.held ++ listed test (map hard_clause made)
clauses_then k n v d clauses made p test same =
    ap (clauses_of n.maps test) p.extends.held
    ∙ (clauses_of-append n.maps test k.store.held p.extends.news
    ∙ ap₂ {C = List (List OwnLit)} ◌++◌ (sym same) (news_of n.maps test k.store n.store clauses (map hard_clause made) p.become p.extends))

-- it is seen as the state with the private variable
pub private_state : (k n : Kernel) (v : Own) (d : Definition) (clauses : List InClause) (made : List (List OwnLit)) → PrivateMade k n v d clauses made → Stands (state_of k) → state_of n ≡ extended (Some d) made (state_of k)
private_state k n v d clauses made p h =
    state_of_parts n p.items p.entries p.definitions
    (clauses_then k n v d clauses made p not (numbered_view k.maps n.maps v p.maps.inner p.maps.numbered.free p.maps.numbered.given (hard_of k.store.held) h.places.placed.hard)
    ∙ ap (λ z. (state_of k).hard ++ z) (listed-hard made))
    (clauses_then k n v d clauses made p (λ b. b) (numbered_view k.maps n.maps v p.maps.inner p.maps.numbered.free p.maps.numbered.given (learned_of k.store.held) h.places.placed.learned)
    ∙ (ap (λ z. (state_of k).learned ++ z) (listed-none made) ∙ append-nil (state_of k).learned))
    p.stack
    (ap (map is_some) p.maps.inners ∙ map-append is_some k.maps.inners (Some p.maps.inner ∷ []))
    p.okay
    (ap (λ (hs : List Held). own_clauses n.maps (learned_of hs)) p.extends.marked
    ∙ sym (numbered_view k.maps n.maps v p.maps.inner p.maps.numbered.free p.maps.numbered.given (learned_of (marked k.store)) (marked_pass (list_all (λ (l : OwnLit). is_active (state_of k) l.var.0)) k.maps k.store h.places.placed.learned)))
    (ap₂ {C = List Entry} take p.stack_mark p.stack)

-- and stands
pub private-Standing : (k n : Kernel) (v : Own) (d : Definition) (clauses : List InClause) (made : List (List OwnLit)) → PrivateMade k n v d clauses made → Defines (state_of k) (Some d) made → Standing k → Standing n
private-Standing k n v d clauses made p f h =
    record {
      stands = subst (λ (s : State). Stands s) (sym (private_state k n v d clauses made p h.stands)) (extended-Stands (Some d) made (state_of k) f h.stands);
      outers = ap (map (λ (w : Own). w.0)) p.outers
          ∙ (h.outers ∙ (sym (append-nil (outers_from 0 k.definitions)) ∙ (sym (outers_from-append 0 k.definitions (Some d ∷ [])) ∙ ap (outers_from 0) (sym p.definitions))));
      private = ap (map is_some) p.definitions
          ∙ (map-append is_some k.definitions (Some d ∷ [])
          ∙ (ap (λ (z : List Bool). z ++ true ∷ []) h.private
          ∙ (sym (map-append (λ (x : Option Var). not (is_some x)) k.maps.outer_numbers (None ∷ [])) ∙ ap (map (λ (x : Option Var). not (is_some x))) (sym p.maps.outer_numbers))));
      within = let b : n.stack_mark ≡ k.stack_mark = p.stack_mark in let c : length n.stack ≡ length k.stack = ap length p.stack in omega (arith, h.within, b, c);
    }
