-- What a kernel that stands lets its moves do.
use Rattle.std.proofs.Common.{◌≡◌, ℕ, ◌+◌, ◌<◌, ◌≤◌, true, false, cond, List, ◌++◌, Option, Some, None, refl, sym, ap, ap₂, subst, ◌∙◌, arith, length, map, nat_lt, is_some, option_map, option_to_list, take, drop, append-nil, drop_of_length-le, take_all}
use Rattle.std.specs.List.{list_all, list_any}
use Rattle.sat_lits.specs.ListLaws.{all_mono, filter_all}
use Rattle.sat_lits.specs.declared.literal.OwnLit.{OwnLit}
use Rattle.sat_lits.specs.declared.literal.InLit.{InLit}
use Rattle.rebuild_stack.specs.Entries.{names, times_named}
use Rattle.rebuild_stack.specs.OrderLaws.{unnamed}
use Rattle.rebuild_stack.specs.declared.entry.Entry.{Entry}
use Rattle.clause_store.specs.Store.{Store, Held, IsKept, hard_of, learned_of, contents, marked}
use Rattle.clause_store.specs.Laws.{learned_of-contents}
use Rattle.var_maps.specs.Maps.{Maps, plain}
use Rattle.state_laws.specs.declared.definition.Definition.{Definition}
use Rattle.state_laws.specs.State.{State, is_active}
use Rattle.state_laws.specs.Stands.{Stands}
use Rattle.state_laws.specs.Held.{own_clause, own_clauses, has_inner, in_own, hard_clause}
use Rattle.state_laws.specs.Kernel.{Kernel, Standing, state_of, plain_kernel}
use Rattle.state_laws.specs.PlaceLaws.{one_if, active_in, once_named}
use Rattle.state_laws.specs.ViewLaws.{get_is_some}
use Rattle.removed_vars.specs.Removed.{IsInOrder}
use Rattle.removed_vars.specs.Fresh.{hard_in}

-- whether a kernel stands does not turn on the room, nor on the number above all ids
pub plain-Standing : (k n : Kernel) → plain_kernel n ≡ plain_kernel k → Standing k → Standing n
plain-Standing k n e h = out (subst (λ (z : Kernel). Standing z) (sym e) into)
  where
    into : Standing (plain_kernel k)
    into = record { stands = h.stands; outers = h.outers; private = h.private; within = h.within }

    out : Standing (plain_kernel n) → Standing n
    out p = record { stands = p.stands; outers = p.outers; private = p.private; within = p.within }

-- the entries of a kernel that stands are in order
pub in_order : (k : Kernel) → Standing k → IsInOrder k.stack
in_order k h = record { active = is_active (state_of k); once = λ j. once_named (state_of k) j h.stands.places; order = h.stands.places.placed.in_order }

-- no entry names an active variable
pub active_unnamed : (k : Kernel) (v : ℕ) → Standing k → is_active (state_of k) v ≡ true → list_any (names v) k.stack ≡ false
active_unnamed k v h a =
    let c : times_named v k.stack + cond {A = ℕ} (is_active (state_of k) v) 1 0 ≤ 1 = once_named (state_of k) v h.stands.places in
    let d : cond {A = ℕ} (is_active (state_of k) v) 1 0 ≡ 1 = one_if (is_active (state_of k) v) a in
    unnamed v k.stack (omega arith)

-- an active variable is there
pub active_there : (k : Kernel) (v : ℕ) → Standing k → is_active (state_of k) v ≡ true → v < length k.definitions
active_there k v h a =
    let l : v < length (map is_some k.maps.inners) = active_in (map is_some k.maps.inners) v a in
    let d : length (map is_some k.maps.inners) ≡ length k.definitions = h.stands.places.lengths in
    omega arith

-- the store and the stack are as before
pub rolled_kernel : (k : Kernel) (s : Store) (entries : List Entry) → s.held ≡ k.store.held → s.mark ≡ k.store.mark → entries ≡ k.stack → plain_kernel (record k { store = s; stack = entries }) ≡ plain_kernel k
rolled_kernel k s entries e m f = rw (e, m, f) refl

-- clauses that are the same under other ids, with the same marked ones, are the same in own literals
pub renumbered : (k : Kernel) (s : Store) → hard_of s.held ≡ hard_of k.store.held → learned_of s.held ≡ learned_of k.store.held → contents (marked s) ≡ contents (marked k.store) → state_of (record k { store = s }) ≡ state_of k
renumbered k s h l m =
    ap (λ (x : List (List InLit)). record (state_of (record k { store = s })) { marked_learned = own_clauses k.maps x }) (learned_of-contents (marked s) (marked k.store) m)
    ∙ ap₂ {C = State} (λ (x y : List (List InLit)). record (state_of k) { hard = own_clauses k.maps x; learned = own_clauses k.maps y }) h l

-- and the kernel stands
pub renumbered-Standing : (k : Kernel) (s : Store) → hard_of s.held ≡ hard_of k.store.held → learned_of s.held ≡ learned_of k.store.held → contents (marked s) ≡ contents (marked k.store) → Standing k → Standing (record k { store = s })
renumbered-Standing k s h l m t = record { stands = subst (λ (z : State). Stands z) (sym (renumbered k s h l m)) t.stands; outers = t.outers; private = t.private; within = t.within }

-- all that is there is marked
pub marking_state : (k : Kernel) (s : Store) (n : ℕ) → s ≡ record k.store { mark = k.store.given } → n ≡ length k.stack → IsKept k.store → state_of (record k { store = s; stack_mark = n }) ≡ record (state_of k) { marked_learned = (state_of k).learned; marked_stack = k.stack }
marking_state k s n e l h =
    ap₂ {C = State} (λ (t : Store) (m : ℕ). state_of (record k { store = t; stack_mark = m })) e l
    ∙ ap₂ {C = State} (λ (hs : List Held) (es : List Entry). record (state_of k) { marked_learned = own_clauses k.maps (learned_of hs); marked_stack = es }) (filter_all (λ c. nat_lt c.id k.store.given) k.store.held h.below)
    (take_all (length k.stack) k.stack (omega arith))

-- active literals have inner numbers
pub active_inner : (k : Kernel) (c : List OwnLit) → list_all (λ l. is_active (state_of k) l.var.0) c ≡ true → list_all (has_inner k.maps) c ≡ true
active_inner k c e = all_mono (λ (l : OwnLit). is_active (state_of k) l.var.0) (has_inner k.maps) (λ l a. sym (get_is_some k.maps.inners l.var.0) ∙ a) c e

-- what is stored of a clause is its own form
pub stored_form : (m : Maps) (stored : Option (List InLit)) (form : Option (List OwnLit)) → option_map (own_clause m) stored ≡ form → map (in_own m) (map hard_in (option_to_list stored)) ≡ map hard_clause (option_to_list form)
stored_form m stored form e = go stored ∙ ap (λ (o : Option (List OwnLit)). map hard_clause (option_to_list o)) e
  where
    go : (o : Option (List InLit)) → map (in_own m) (map hard_in (option_to_list o)) ≡ map hard_clause (option_to_list (option_map (own_clause m) o))
    go None = refl
    go (Some c) = refl

-- a kernel is seen as before where the room and the number above all ids changed alone
pub plain_state : (k n : Kernel) → plain_kernel n ≡ plain_kernel k → state_of n ≡ state_of k
plain_state k n e = ap state_of e

-- the maps, the definitions and the stack are as before, but for the room
pub reserved_kernel : (k : Kernel) (m : Maps) (definitions : List (Option Definition)) (entries : List Entry) → plain m ≡ plain k.maps → definitions ≡ k.definitions → entries ≡ k.stack
    → plain_kernel (record k { maps = m; definitions = definitions; stack = entries }) ≡ plain_kernel k
reserved_kernel k m definitions entries e f g =
    ap (λ (z : Maps). let y : Kernel = record k { maps = z; definitions = definitions; stack = entries; store = record k.store { given = 0 } } in y) e ∙ rw (f, g) refl

-- values that were written through a slice
pub written_back : {X : Type 0} (n : ℕ) (xs ys : List X) → n ≡ length ys → length xs ≡ length ys → take n (xs ++ drop (length xs) ys) ≡ xs
written_back n xs ys e f =
    let a : length ys ≤ length xs = omega arith in
    let b : xs ++ drop (length xs) ys ≡ xs = rw (drop_of_length-le ys a) (append-nil xs) in
    let d : length xs ≤ n = omega arith in
    ap (take n) b ∙ take_all n xs d
