-- A kernel in which private variables are made and clauses are held.
use Rattle.std.proofs.Common.{◌≡◌, ℕ, zero, suc, ◌+◌, ◌<◌, Bool, true, false, not, List, [], ◌∷◌, ◌++◌, Option, Some, None, is_some, length, map, take, replicate, get_or, refl, sym, ap, ap₂, subst, ◌∙◌, arith, append-nil, append_assoc}
use Rattle.std.proofs.lemmas.List.{map-append, get_or_append_left, replicate-append-replicate}
use Rattle.std.specs.List.{list_all}
use Rattle.sat_lits.specs.declared.literal.Own.{Own}
use Rattle.sat_lits.specs.declared.literal.OwnLit.{OwnLit}
use Rattle.sat_lits.specs.declared.literal.Var.{Var}
use Rattle.sat_lits.specs.declared.formula.Item.{Item}
use Rattle.rebuild_stack.specs.declared.entry.Entry.{Entry}
use Rattle.clause_store.specs.Store.{Held, hard_of, learned_of, marked}
use Rattle.var_maps.specs.Maps.{Maps, Added, owner_at}
use Rattle.xor_cut.specs.Pieces.{own_var, own_vars}
use Rattle.state_laws.specs.declared.definition.Definition.{Definition}
use Rattle.state_laws.specs.State.{State, is_active, outers_from}
use Rattle.state_laws.specs.Stands.{Stands}
use Rattle.state_laws.specs.Held.{InClause, in_own, own_clauses, hard_clause, ExtendsBy}
use Rattle.state_laws.specs.Kernel.{Kernel, state_of, Standing, Longer}
use Rattle.state_laws.specs.ExtendLaws.{outers_from-append}
use Rattle.state_laws.specs.MarkLaws.{marked_pass}
use Rattle.state_laws.specs.ViewLaws.{state_of_parts, clauses_of, clauses_of-append, listed, listed-hard, listed-none, news_of, view_clauses, past_active}
use Rattle.parity_forms.specs.Parities.{defining}
use Rattle.parity_forms.specs.InMaps.{HasPrivates}

own_vars-push : (next count : ℕ) → own_vars next (count + 1) ≡ own_vars next count ++ own_var (next + count) ∷ []
own_vars-push next zero = ap (λ n. own_var n ∷ []) (let e : next ≡ next + 0 = omega arith in e)
own_vars-push next (suc count) =
    ap (own_vars next) (let e : suc count + 1 ≡ suc (count + 1) = omega arith in e)
    ∙ ap (λ z. own_var next ∷ z) (own_vars-push (suc next) count ∙ ap (λ n. own_vars (suc next) count ++ own_var n ∷ []) (let e : suc next + count ≡ next + suc count = omega arith in e))

replicate-push : {X : Type 0} (n : ℕ) (x : X) → replicate (n + 1) x ≡ replicate n x ++ x ∷ []
replicate-push n x = sym (replicate-append-replicate n 1 x)

-- one private variable more
pub privates_more : (count : ℕ) (m l n : Maps) (v : Own) → HasPrivates count m l → length l.inners ≡ length m.inners + count → Added None v l n → n.owners ≡ l.owners ++ Some v ∷ [] → n.outers ≡ l.outers → HasPrivates (count + 1) m n
privates_more count m l n v h e a o r =
    record {
      owners = o
          ∙ (ap₂ {C = List (Option Own)} (λ (x : List (Option Own)) (k : ℕ). x ++ Some (own_var k) ∷ []) h.owners (a.number ∙ e)
          ∙ (append_assoc m.owners (map Some (own_vars (length m.inners) count)) (Some (own_var (length m.inners + count)) ∷ [])
          ∙ ap (λ z. m.owners ++ z) (sym (ap (map Some) (own_vars-push (length m.inners) count) ∙ map-append Some (own_vars (length m.inners) count) (own_var (length m.inners + count) ∷ [])))));
      active = ap (map is_some) a.inners
          ∙ (map-append is_some l.inners (Some a.inner ∷ [])
          ∙ (ap (λ z. z ++ true ∷ []) h.active ∙ (append_assoc (map is_some m.inners) (replicate count true) (true ∷ []) ∙ ap (λ z. map is_some m.inners ++ z) (sym (replicate-push count true)))));
      private = ap (map (λ (x : Option Var). not (is_some x))) a.outer_numbers
          ∙ (map-append (λ (x : Option Var). not (is_some x)) l.outer_numbers (None ∷ [])
          ∙ (ap (λ z. z ++ true ∷ []) h.private ∙ (append_assoc (map (λ (x : Option Var). not (is_some x)) m.outer_numbers) (replicate count true) (true ∷ [])
          ∙ ap (λ z. map (λ (x : Option Var). not (is_some x)) m.outer_numbers ++ z) (sym (replicate-push count true)))));
      outers = r ∙ h.outers;
    }

-- private variables with these definitions were made, and clauses were added that are these in own literals
pub record HasMade (k n : Kernel) (ds : List Definition) (clauses : List InClause) (made : List (List OwnLit)) : Type 0 where
  pub entries : n.entries ≡ k.entries
  pub definitions : n.definitions ≡ k.definitions ++ map Some ds
  pub maps : HasPrivates (length ds) k.maps n.maps
  pub stack : n.stack ≡ k.stack
  pub stack_mark : n.stack_mark ≡ k.stack_mark
  pub okay : n.okay ≡ k.okay
  pub extends : ExtendsBy k.store n.store clauses
  pub become : map (in_own n.maps) clauses ≡ map hard_clause made

-- all clauses keep their ids
pub made-Longer : (k n : Kernel) (ds : List Definition) (clauses : List InClause) (made : List (List OwnLit)) → HasMade k n ds clauses made → Longer k n
made-Longer k n ds clauses made x = record { news = x.extends.news; held = x.extends.held; fresh = x.extends.fresh }

pub owner_within : (xs : List (Option Own)) (i : ℕ) (v : Own) → get_or xs i None ≡ Some v → i < length xs
owner_within [] i v e = absurd (clash v e)
  where
    clash : (v : Own) → None ≡ Some v → ⊥
    clash v e = cc
owner_within (x ∷ xs) zero v e = omega arith
owner_within (x ∷ xs) (suc i) v e = let l : i < length xs = owner_within xs i v e in omega arith

-- a variable keeps its inner number
pub owner_stays : (count : ℕ) (m n : Maps) → HasPrivates count m n → (i : ℕ) (v : Own) → owner_at m i ≡ Some v → owner_at n i ≡ Some v
owner_stays count m n h i v e =
    ap (λ (z : List (Option Own)). get_or z i None) h.owners ∙ (get_or_append_left m.owners (map Some (own_vars (length m.inners) count)) None i (owner_within m.owners i v e) ∙ e)

clauses_then : (k n : Kernel) (ds : List Definition) (clauses : List InClause) (made : List (List OwnLit)) → HasMade k n ds clauses made → (test : Bool → Bool) → clauses_of k.maps test k.store.held ≡ clauses_of n.maps test k.store.held
    → clauses_of n.maps test n.store.held ≡ clauses_of k.maps test k.store.held ++ listed test (map hard_clause made)
clauses_then k n ds clauses made p test same =
    ap (clauses_of n.maps test) p.extends.held
    ∙ (clauses_of-append n.maps test k.store.held p.extends.news
    ∙ ap₂ {C = List (List OwnLit)} ◌++◌ (sym same) (news_of n.maps test k.store n.store clauses (map hard_clause made) p.become p.extends))

-- it is seen as the state in which they are made
pub made_state : (k n : Kernel) (ds : List Definition) (clauses : List InClause) (made : List (List OwnLit)) (items : List Item) → HasMade k n ds clauses made → n.items ≡ items → Stands (state_of k) → state_of n ≡ record (defining ds made (state_of k)) { items = items }
made_state k n ds clauses made items p i h =
    state_of_parts n i p.entries p.definitions
    (clauses_then k n ds clauses made p not (view_clauses k.maps n.maps (λ j. get_or (map is_some k.maps.inners) j false) (past_active k.maps.inners) (λ j v o t. owner_stays (length ds) k.maps n.maps p.maps j v o) (hard_of k.store.held) h.places.placed.hard)
    ∙ ap (λ z. (state_of k).hard ++ z) (listed-hard made))
    (clauses_then k n ds clauses made p (λ b. b) (view_clauses k.maps n.maps (λ j. get_or (map is_some k.maps.inners) j false) (past_active k.maps.inners) (λ j v o t. owner_stays (length ds) k.maps n.maps p.maps j v o) (learned_of k.store.held) h.places.placed.learned)
    ∙ (ap (λ z. (state_of k).learned ++ z) (listed-none made) ∙ append-nil (state_of k).learned))
    p.stack p.maps.active p.okay
    (ap (λ (hs : List Held). own_clauses n.maps (learned_of hs)) p.extends.marked
    ∙ sym (view_clauses k.maps n.maps (λ j. get_or (map is_some k.maps.inners) j false) (past_active k.maps.inners) (λ j v o t. owner_stays (length ds) k.maps n.maps p.maps j v o) (learned_of (marked k.store)) (marked_pass (list_all (λ (l : OwnLit). is_active (state_of k) l.var.0)) k.maps k.store h.places.placed.learned)))
    (ap₂ {C = List Entry} take p.stack_mark p.stack)

no_outers : (j : ℕ) (ds : List Definition) → outers_from j (map Some ds) ≡ []
no_outers j [] = refl
no_outers j (d ∷ ds) = no_outers (suc j) ds

all_private : (ds : List Definition) → map is_some (map (λ d. let o : Option Definition = Some d in o) ds) ≡ replicate (length ds) true
all_private [] = refl
all_private (d ∷ ds) = ap (λ z. true ∷ z) (all_private ds)

-- and stands, where that state does
pub made-Standing : (k n : Kernel) (ds : List Definition) (clauses : List InClause) (made : List (List OwnLit)) (items : List Item) → HasMade k n ds clauses made → n.items ≡ items → Stands (record (defining ds made (state_of k)) { items = items }) → Standing k → Standing n
made-Standing k n ds clauses made items p i s h =
    record {
      stands = subst (λ (t : State). Stands t) (sym (made_state k n ds clauses made items p i h.stands)) s;
      outers = ap (map (λ (w : Own). w.0)) p.maps.outers
          ∙ (h.outers ∙ (sym (append-nil (outers_from 0 k.definitions)) ∙ (ap (λ z. outers_from 0 k.definitions ++ z) (sym (no_outers (0 + length k.definitions) ds))
          ∙ (sym (outers_from-append 0 k.definitions (map Some ds)) ∙ ap (outers_from 0) (sym p.definitions)))));
      private = ap (map is_some) p.definitions
          ∙ (map-append is_some k.definitions (map Some ds)
          ∙ (ap₂ {C = List Bool} ◌++◌ h.private (all_private ds) ∙ sym p.maps.private));
      within = let b : n.stack_mark ≡ k.stack_mark = p.stack_mark in let c : length n.stack ≡ length k.stack = ap length p.stack in omega (arith, h.within, b, c);
    }
