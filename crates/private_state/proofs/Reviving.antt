-- The maps of a variable that is made active again, and of one for which that was undone.
use Rattle.std.proofs.Common.{◌≡◌, ◌↔◌, get_or-set_same, get_or-set_other, ℕ, zero, suc, ◌+◌, ◌<◌, ◌≤◌, ◌==◌, Bool, true, false, cond, List, [], ◌∷◌, Option, Some, None, refl, sym, ap, ap₂, subst, ◌∙◌, arith, length, get_or, set, map, filter, nat_lt, slice_get, drop, is_some, eqb-true}
use Rattle.std.proofs.Math.Path.{fun_ext}
use Rattle.std.proofs.lemmas.Bool.{and_parts, eqb-false, ltb-true, eq-eqb}
use Rattle.std.proofs.lemmas.List.{map-set, length-map}
use Rattle.std.proofs.lemmas.List.Folds.{list_all-append}
use Rattle.std.specs.Option.{IsSome, IsNone}
use Rattle.std.specs.List.{list_all}
use Rattle.sat_lits.specs.ListLaws.{any_get, all_same}
use Rattle.sat_lits.specs.declared.literal.Own.{Own}
use Rattle.sat_lits.specs.declared.literal.OwnLit.{OwnLit}
use Rattle.sat_lits.specs.declared.literal.InLit.{InLit}
use Rattle.sat_lits.specs.declared.literal.Inner.{Inner}
use Rattle.rebuild_stack.specs.Values.{each_lit}
use Rattle.rebuild_stack.specs.Entries.{names, times_named}
use Rattle.rebuild_stack.specs.Roots.{root}
use Rattle.rebuild_stack.specs.PutIn.{put_in_all}
use Rattle.rebuild_stack.specs.OrderLaws.{times_any}
use Rattle.rebuild_stack.specs.declared.entry.Entry.TheVariants.{Gone}
use Rattle.clause_store.specs.Store.{Store, Held, hard_of, learned_of, marked}
use Rattle.var_maps.specs.Maps.{Maps, Revived, inner_at, owner_at, number_or, plain, retired}
use Rattle.state_laws.specs.State.{is_active}
use Rattle.state_laws.specs.Conditions.{Restorable}
use Rattle.private_state.specs.Restoring.{SayTheSame}
use Rattle.state_laws.specs.Held.{own_or, own_clauses, has_inner}
use Rattle.state_laws.specs.Kernel.{Kernel, Standing, state_of}
use Rattle.state_laws.specs.PlaceLaws.{one_if, once_named, named_in}
use Rattle.state_laws.specs.RestoreLaws.{restored-Stands}
use Rattle.state_laws.specs.ViewLaws.{state_of_parts, get_is_some}

-- clauses are read alike by maps that say the same of inner numbers
own_clauses_same : (m n : Maps) → n.inners ≡ m.inners → ((j : ℕ) → owner_at n j ≡ owner_at m j) → (cs : List (List InLit)) → own_clauses n cs ≡ own_clauses m cs
own_clauses_same m n e f cs = ap (λ (o : ℕ → Option Own). read (length n.inners) o) (fun_ext f) ∙ ap (λ (len : ℕ). read len (owner_at m)) (ap length e)
  where
    read : ℕ → (ℕ → Option Own) → List (List OwnLit)
    read len o = map (map (λ (l : InLit). let k : OwnLit = record { var = own_or len (o l.var.0); negative = l.negative } in k)) cs

back_inners : (xs : List (Option Inner)) (v : ℕ) (x : Option Inner) → get_or xs v None ≡ None → set (set xs v x) v None ≡ xs
back_inners [] v x e = refl
back_inners (y ∷ xs) zero x e = ap (λ (z : Option Inner). z ∷ xs) (sym e)
back_inners (y ∷ xs) (suc v) x e = ap (λ z. y ∷ z) (back_inners xs v x e)

none_at : (xs : List (Option Own)) (i : ℕ) → get_or (set xs i None) i None ≡ None
none_at [] i = refl
none_at (x ∷ xs) zero = refl
none_at (x ∷ xs) (suc i) = none_at xs i

-- maps that are equal but for their room say the same
pub same_plain : (m n : Maps) → plain n ≡ plain m → SayTheSame m n
same_plain m n e = record { inners = ap (λ (z : Maps). z.inners) e; owner = λ j. ap (λ (z : Maps). owner_at z j) e; outers = ap (λ (z : Maps). z.outers) e; outer_numbers = ap (λ (z : Maps). z.outer_numbers) e }

-- and so do maps in which a variable was made active and retired again
pub revived_back : (k m n : Maps) (v : Own) (i : Inner) → Revived v i k m → inner_at k v.0 ≡ None → v.0 < length k.inners → plain n ≡ plain (retired v.0 m) → SayTheSame k n
revived_back k m n v i r none l e = record { inners = inners; owner = owner; outers = ap (λ (z : Maps). z.outers) e ∙ r.outers; outer_numbers = ap (λ (z : Maps). z.outer_numbers) e ∙ r.outer_numbers }
  where
    inners : n.inners ≡ k.inners
    inners = ap (λ (z : Maps). z.inners) e ∙ (ap (λ z. set z v.0 None) r.inners ∙ back_inners k.inners v.0 (Some i) none)

    at : inner_at m v.0 ≡ Some i
    at = ap (λ (z : List (Option Inner)). get_or z v.0 None) r.inners ∙ get_or-set_same k.inners v.0 (Some i) None l

    owners : n.owners ≡ set m.owners i.0 None
    owners = ap (λ (z : Maps). z.owners) e ∙ ap (λ (o : Option Inner). set m.owners (number_or 0 o) None) at

    owner : (j : ℕ) → owner_at n j ≡ owner_at k j
    owner j = ap (λ (z : List (Option Own)). get_or z j None) owners ∙ go (j == i.0) refl
      where
        go : (b : Bool) → (j == i.0) ≡ b → get_or (set m.owners i.0 None) j None ≡ owner_at k j
        go true q = ap (λ (z : ℕ). get_or (set m.owners i.0 None) z None) (eqb-true _ _ q) ∙ (none_at m.owners i.0 ∙ (sym r.numbered.free ∙ ap (owner_at k) (sym (eqb-true _ _ q))))
        go false q = get_or-set_other m.owners i.0 j None None (eqb-false _ _ q) ∙ (r.numbered.given j ∙ ap (λ b. cond b (Some v) (owner_at k j)) q)

-- a state with maps that say the same and the same clauses is seen as before
pub same_state : (k : Kernel) (n : Maps) (s : Store) → SayTheSame k.maps n → s.held ≡ k.store.held → s.mark ≡ k.store.mark → state_of (record k { maps = n; store = s }) ≡ state_of k
same_state k n s r h m =
    state_of_parts (record k { maps = n; store = s }) refl refl refl
    (own_clauses_same k.maps n r.inners r.owner (hard_of s.held) ∙ ap (λ z. own_clauses k.maps (hard_of z)) h)
    (own_clauses_same k.maps n r.inners r.owner (learned_of s.held) ∙ ap (λ z. own_clauses k.maps (learned_of z)) h)
    refl (ap (map is_some) r.inners) refl
    (own_clauses_same k.maps n r.inners r.owner (learned_of (marked s)) ∙ ap₂ (λ (hs : List Held) (x : ℕ). own_clauses k.maps (learned_of (filter (λ c. nat_lt c.id x) hs))) h m)
    refl

-- a variable of an entry is there, and has no inner number
pub gone_there : (k : Kernel) (at : ℕ) (v : Own) (cs : List (List OwnLit)) → slice_get k.stack at ≡ Some (Gone v cs) → Standing k → v.0 < length k.maps.inners
gone_there k at v cs e h =
    let l : v.0 < length (map is_some k.maps.inners) = ltb-true _ _ (named_in (state_of k) v.0 h.stands.places (any_get (names v.0) k.stack at (Gone v cs) e (eq-eqb v.0 v.0 refl))) in
    let m : length (map is_some k.maps.inners) ≡ length k.maps.inners = length-map k.maps.inners is_some in
    omega arith

pub gone_inactive : (k : Kernel) (at : ℕ) (v : Own) (cs : List (List OwnLit)) → slice_get k.stack at ≡ Some (Gone v cs) → Standing k → inner_at k.maps v.0 ≡ None
gone_inactive k at v cs e h = go (inner_at k.maps v.0) refl
  where
    go : (o : Option Inner) → inner_at k.maps v.0 ≡ o → o ≡ None
    go None q = refl
    go (Some i) q =
        absurd
        (let a : 1 ≤ times_named v.0 k.stack = times_any v.0 k.stack (any_get (names v.0) k.stack at (Gone v cs) e (eq-eqb v.0 v.0 refl)) in
        let b : is_active (state_of k) v.0 ≡ true = get_is_some k.maps.inners v.0 ∙ ap is_some q in
        let c : cond {A = ℕ} (is_active (state_of k) v.0) 1 0 ≡ 1 = one_if _ b in
        let d : times_named v.0 k.stack + cond {A = ℕ} (is_active (state_of k) v.0) 1 0 ≤ 1 = once_named (state_of k) v.0 h.stands.places in
        omega arith)

-- which variables are active once it is
pub revived_active : (m n : Maps) (v : Own) (i : Inner) → Revived v i m n → (k : ℕ) → get_or (set (map is_some m.inners) v.0 true) k false ≡ is_some (inner_at n k)
revived_active m n v i r k =
    ap (λ (z : List Bool). get_or z k false) (sym (map-set is_some m.inners v.0 (Some i)))
    ∙ (get_is_some (set m.inners v.0 (Some i)) k ∙ ap (λ (z : List (Option Inner)). is_some (get_or z k None)) (sym r.inners))

-- what its clauses come to is active once it is
pub restored_active : (k : Kernel) (m : Maps) (at : ℕ) (v : Own) (i : Inner) (cs : List (List OwnLit)) → Revived v i k.maps m → Restorable (state_of k) at v cs → Standing k → each_lit (has_inner m) (put_in_all (root (drop (suc at) k.stack)) cs) ≡ true
restored_active k m at v i cs r p h = sym (all_same (list_all here) (list_all (has_inner m)) (λ c. all_same here (has_inner m) (λ l. revived_active k.maps m v i r l.var.0) c) new) ∙ active
  where
    new : List (List OwnLit)
    new = put_in_all (root (drop (suc at) k.stack)) cs

    here : OwnLit → Bool
    here l = get_or (set (map is_some k.maps.inners) v.0 true) l.var.0 false

    active : each_lit here new ≡ true
    active = (and_parts (list_all (list_all here) (state_of k).hard) (list_all (list_all here) new) (sym (list_all-append (list_all here) (state_of k).hard new) ∙ (restored-Stands at v cs (state_of k) p h.stands).places.placed.hard)).1

-- a variable that was made active is
pub revived_some : (m n : Maps) (v : Own) (i : Inner) → Revived v i m n → v.0 < length m.inners → IsSome (inner_at n v.0)
revived_some m n v i r l = subst (λ (o : Option Inner). IsSome o) (sym (ap (λ (z : List (Option Inner)). get_or z v.0 None) r.inners ∙ get_or-set_same m.inners v.0 (Some i) None l)) refl

-- a place is told where a block stands
pub block_told : (o : Option ℕ) (b : Bool) → IsNone o ↔ (b ≡ false) → b ≡ true → IsSome o
block_told (Some at) b h e = refl
block_told None b h e = absurd (clash b e (h.0 refl))
  where
    clash : (b : Bool) → b ≡ true → b ≡ false → ⊥
    clash true p q = cc
    clash false p q = cc
