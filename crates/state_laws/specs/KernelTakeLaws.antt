-- A kernel stands when an item or a shared entry is taken.
use Rattle.std.proofs.Common.{◌≡◌, ℕ, zero, suc, Bool, true, not, nat_lt, List, [], ◌∷◌, ◌++◌, refl, sym, ap, subst, ◌∙◌, length, get_or, map, Option, Some, None, is_some, option_to_list, append-nil, take, ◌≤◌, ap₂, arith}
use Rattle.std.proofs.Math.Path.{fun_ext}
use Rattle.std.proofs.lemmas.List.{length-map}
use Rattle.std.proofs.lemmas.List.Folds.{list_all-map}
use Rattle.std.specs.List.{list_all}
use Rattle.sat_lits.specs.ListLaws.{all_mono}
use Rattle.sat_lits.specs.declared.literal.Lit.{Lit}
use Rattle.sat_lits.specs.declared.literal.Own.{Own}
use Rattle.sat_lits.specs.declared.literal.OwnLit.{OwnLit}
use Rattle.sat_lits.specs.declared.formula.Item.{Item}
use Rattle.sat_lits.specs.declared.formula.Item.TheVariants.{Clause}
use Rattle.sat_lits.specs.declared.shared.Shared.{Shared}
use Rattle.rebuild_stack.specs.Roots.{root}
use Rattle.rebuild_stack.specs.PutIn.{put_in, option_passes}
use Rattle.rebuild_stack.specs.declared.entry.Root.{Root}
use Rattle.clause_store.specs.Store.{hard_of, learned_of, marked, Held}
use Rattle.var_maps.specs.Maps.{Maps, plain}
use Rattle.state_laws.specs.State.{State, is_active, outers_from, to_own}
use Rattle.state_laws.specs.Stands.{Stands}
use Rattle.state_laws.specs.Moves.{own_form, taken, imported, taking}
use Rattle.state_laws.specs.Conditions.{Takable, StandsFor}
use Rattle.state_laws.specs.Held.{own_clauses, own_outer, has_inner, InClause, in_own, hard_clause, ExtendsBy}
use Rattle.state_laws.specs.Kernel.{Kernel, state_of, Standing, Longer}
use Rattle.state_laws.specs.TakeLaws.{own_form_active, taken-Stands, imported-Stands}
use Rattle.state_laws.specs.ExtendLaws.{taking-Stands}
use Rattle.rebuild_stack.specs.declared.entry.Entry.{Entry}
use Rattle.state_laws.specs.ViewLaws.{state_of_parts, clauses_of, clauses_of-append, listed, listed-hard, listed-none, news_of, get_is_some}

-- hard clauses were added, that are these in own literals; what was taken may have grown
pub record HoldsMore (k n : Kernel) (clauses : List InClause) (made : List (List OwnLit)) : Type 0 where
  pub definitions : n.definitions ≡ k.definitions
  pub maps : plain n.maps ≡ plain k.maps
  pub stack : n.stack ≡ k.stack
  pub stack_mark : n.stack_mark ≡ k.stack_mark
  pub okay : n.okay ≡ k.okay
  pub extends : ExtendsBy k.store n.store clauses
  pub become : map (in_own k.maps) clauses ≡ map hard_clause made

-- all clauses keep their ids
pub more-Longer : (k n : Kernel) (clauses : List InClause) (made : List (List OwnLit)) → HoldsMore k n clauses made → Longer k n
more-Longer k n clauses made x = record { news = x.extends.news; held = x.extends.held; fresh = x.extends.fresh }

more_clauses : (k n : Kernel) (clauses : List InClause) (made : List (List OwnLit)) (x : HoldsMore k n clauses made) (test : Bool → Bool) → clauses_of n.maps test n.store.held ≡ clauses_of k.maps test k.store.held ++ listed test (map hard_clause made)
more_clauses k n clauses made x test =
    ap (λ (m : Maps). clauses_of m test n.store.held) x.maps
    ∙ (ap (clauses_of k.maps test) x.extends.held
    ∙ (clauses_of-append k.maps test k.store.held x.extends.news
    ∙ ap (λ z. clauses_of k.maps test k.store.held ++ z) (news_of k.maps test k.store n.store clauses (map hard_clause made) x.become x.extends)))

more_hard : (k n : Kernel) (clauses : List InClause) (made : List (List OwnLit)) → HoldsMore k n clauses made → own_clauses n.maps (hard_of n.store.held) ≡ (state_of k).hard ++ made
more_hard k n clauses made x = more_clauses k n clauses made x not ∙ ap (λ z. clauses_of k.maps not k.store.held ++ z) (listed-hard made)

same_learned : (k n : Kernel) (clauses : List InClause) (made : List (List OwnLit)) → HoldsMore k n clauses made → own_clauses n.maps (learned_of n.store.held) ≡ (state_of k).learned
same_learned k n clauses made x = more_clauses k n clauses made x (λ b. b) ∙ (ap (λ z. clauses_of k.maps (λ b. b) k.store.held ++ z) (listed-none made) ∙ append-nil (clauses_of k.maps (λ b. b) k.store.held))

-- no other clause is marked
same_marked : (k n : Kernel) (clauses : List InClause) (made : List (List OwnLit)) → HoldsMore k n clauses made → own_clauses n.maps (learned_of (marked n.store)) ≡ (state_of k).marked_learned
same_marked k n clauses made x = ap (λ (m : Maps). own_clauses m (learned_of (marked n.store))) x.maps ∙ ap (λ (hs : List Held). own_clauses k.maps (learned_of hs)) x.extends.marked

-- nor another entry
same_marked_stack : (k n : Kernel) (clauses : List InClause) (made : List (List OwnLit)) → HoldsMore k n clauses made → take n.stack_mark n.stack ≡ (state_of k).marked_stack
same_marked_stack k n clauses made x = ap₂ {C = List Entry} take x.stack_mark x.stack

still_within : (k n : Kernel) (clauses : List InClause) (made : List (List OwnLit)) → HoldsMore k n clauses made → Standing k → n.stack_mark ≤ length n.stack
still_within k n clauses made x h = let a : n.stack_mark ≡ k.stack_mark = x.stack_mark in let b : length n.stack ≡ length k.stack = ap length x.stack in omega (arith, h.within, a, b)

outer_number : (vs : List Own) (i : ℕ) → get_or (map (λ v. v.0) vs) i 0 ≡ (get_or vs i (let z : Own = record { 0 = 0 } in z)).0
outer_number [] i = refl
outer_number (v ∷ vs) zero = refl
outer_number (v ∷ vs) (suc i) = outer_number vs i

-- the maps give an outer literal its own one
pub own_outer_lit : (k : Kernel) → Standing k → (l : Lit) → own_outer k.maps l ≡ to_own k.definitions l
own_outer_lit k h l = ap (λ (n : ℕ). let r : OwnLit = record { var = record { 0 = n }; negative = l.negative } in r) (sym (outer_number k.maps.outers l.var.0) ∙ ap (λ (z : List ℕ). get_or z l.var.0 0) h.outers)

-- so an outer clause may be put in by them
pub own_form_outer : (k : Kernel) → Standing k → (c : List Lit) → put_in (λ l. root k.stack (own_outer k.maps l)) c ≡ own_form (state_of k) c
own_form_outer k h c = ap (λ (r : Lit → Root). put_in r c) (fun_ext (λ l. ap (root k.stack) (own_outer_lit k h l)))

-- the number of outer variables
pub outers_len : (k : Kernel) → Standing k → length k.maps.outers ≡ length (outers_from 0 k.definitions)
outers_len k h = sym (length-map k.maps.outers (λ (v : Own). v.0)) ∙ ap length h.outers

-- the variables of a clause that can be taken are in the maps
pub takable_there : (k : Kernel) (c : List Lit) → Standing k → Takable (state_of k) c → list_all (λ l. nat_lt l.var.0 (length k.maps.outers)) c ≡ true
takable_there k c h t = subst (λ (n : ℕ). list_all (λ (l : Lit). nat_lt l.var.0 n) c ≡ true) (sym (outers_len k h)) (sym (list_all-map (λ n. nat_lt n (length (outers_from 0 k.definitions))) (λ (l : Lit). l.var.0) c) ∙ t.there)

-- what the clause becomes has inner numbers
pub takable_active : (k : Kernel) (c : List Lit) → Standing k → Takable (state_of k) c → option_passes (has_inner k.maps) (own_form (state_of k) c) ≡ true
takable_active k c h t = go (own_form (state_of k) c) (own_form_active (state_of k) c t h.stands.places)
  where
    go : (o : Option (List OwnLit)) → option_passes (λ l. is_active (state_of k) l.var.0) o ≡ true → option_passes (has_inner k.maps) o ≡ true
    go None e = refl
    go (Some d) e = all_mono (λ (l : OwnLit). is_active (state_of k) l.var.0) (has_inner k.maps) (λ l b. sym (get_is_some k.maps.inners l.var.0) ∙ b) d e

same_outers : (k n : Kernel) → n.definitions ≡ k.definitions → plain n.maps ≡ plain k.maps → Standing k → map (λ v. v.0) n.maps.outers ≡ outers_from 0 n.definitions
same_outers k n d m h = ap (λ (x : Maps). map (λ v. v.0) x.outers) m ∙ (h.outers ∙ ap (outers_from 0) (sym d))

same_private : (k n : Kernel) → n.definitions ≡ k.definitions → plain n.maps ≡ plain k.maps → Standing k → map is_some n.definitions ≡ map (λ o. not (is_some o)) n.maps.outer_numbers
same_private k n d m h = ap (map is_some) d ∙ (h.private ∙ sym (ap (λ (x : Maps). map (λ o. not (is_some o)) x.outer_numbers) m))

-- a clause was taken as an item, and is held
pub taken_state : (k n : Kernel) (c : List Lit) (clauses : List InClause) → HoldsMore k n clauses (option_to_list (own_form (state_of k) c)) → n.items ≡ k.items ++ Clause c ∷ [] → n.entries ≡ k.entries → state_of n ≡ taken c (state_of k)
taken_state k n c clauses x i e =
    state_of_parts n i e x.definitions (more_hard k n clauses (option_to_list (own_form (state_of k) c)) x) (same_learned k n clauses (option_to_list (own_form (state_of k) c)) x) x.stack
    (ap (λ (m : Maps). map is_some m.inners) x.maps) x.okay
    (same_marked k n clauses (option_to_list (own_form (state_of k) c)) x) (same_marked_stack k n clauses (option_to_list (own_form (state_of k) c)) x)

-- and it stands
pub taken-Standing : (k n : Kernel) (c : List Lit) (clauses : List InClause) → HoldsMore k n clauses (option_to_list (own_form (state_of k) c)) → n.items ≡ k.items ++ Clause c ∷ [] → n.entries ≡ k.entries → Takable (state_of k) c
    → Standing k → Standing n
taken-Standing k n c clauses x i e t h =
    record {
      stands = subst (λ (s : State). Stands s) (sym (taken_state k n c clauses x i e)) (taken-Stands c (state_of k) t h.stands);
      outers = same_outers k n x.definitions x.maps h;
      private = same_private k n x.definitions x.maps h;
      within = still_within k n clauses (option_to_list (own_form (state_of k) c)) x h;
    }

-- a shared entry was taken, and its clause is held
pub imported_state : (k n : Kernel) (s : Shared) (clauses : List InClause) → HoldsMore k n clauses (option_to_list (own_form (state_of k) s.clause)) → n.items ≡ k.items → n.entries ≡ k.entries ++ s ∷ [] → state_of n ≡ imported s (state_of k)
imported_state k n s clauses x i e =
    state_of_parts n i e x.definitions (more_hard k n clauses (option_to_list (own_form (state_of k) s.clause)) x) (same_learned k n clauses (option_to_list (own_form (state_of k) s.clause)) x) x.stack
    (ap (λ (m : Maps). map is_some m.inners) x.maps) x.okay
    (same_marked k n clauses (option_to_list (own_form (state_of k) s.clause)) x) (same_marked_stack k n clauses (option_to_list (own_form (state_of k) s.clause)) x)

-- and it stands
pub imported-Standing : (k n : Kernel) (s : Shared) (clauses : List InClause) → HoldsMore k n clauses (option_to_list (own_form (state_of k) s.clause)) → n.items ≡ k.items → n.entries ≡ k.entries ++ s ∷ [] → Takable (state_of k) s.clause
    → Standing k → Standing n
imported-Standing k n s clauses x i e t h =
    record {
      stands = subst (λ (z : State). Stands z) (sym (imported_state k n s clauses x i e)) (imported-Stands s (state_of k) t h.stands);
      outers = same_outers k n x.definitions x.maps h;
      private = same_private k n x.definitions x.maps h;
      within = still_within k n clauses (option_to_list (own_form (state_of k) s.clause)) x h;
    }

-- an item was taken, and clauses that stand for it are held
pub item_taken_state : (k n : Kernel) (item : Item) (clauses : List InClause) (made : List (List OwnLit)) → HoldsMore k n clauses made → n.items ≡ k.items ++ item ∷ [] → n.entries ≡ k.entries → state_of n ≡ taking item made (state_of k)
item_taken_state k n item clauses made x i e =
    state_of_parts n i e x.definitions (more_hard k n clauses made x) (same_learned k n clauses made x) x.stack (ap (λ (m : Maps). map is_some m.inners) x.maps) x.okay
    (same_marked k n clauses made x) (same_marked_stack k n clauses made x)

-- and it stands
pub item_taken-Standing : (k n : Kernel) (item : Item) (clauses : List InClause) (made : List (List OwnLit)) → HoldsMore k n clauses made → n.items ≡ k.items ++ item ∷ [] → n.entries ≡ k.entries → StandsFor (state_of k) item made
    → Standing k → Standing n
item_taken-Standing k n item clauses made x i e f h =
    record {
      stands = subst (λ (z : State). Stands z) (sym (item_taken_state k n item clauses made x i e)) (taking-Stands item made (state_of k) f h.stands);
      outers = same_outers k n x.definitions x.maps h;
      private = same_private k n x.definitions x.maps h;
      within = still_within k n clauses made x h;
    }
