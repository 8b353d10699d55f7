-- The maps after a change.
use Rattle.std.proofs.Common.{◌≡◌, ℕ, ◌+◌, ◌<◌, ◌≤◌, ◌^◌, ◌==◌, Bool, true, false, cond, List, [], ◌∷◌, ◌++◌, Option, Some, None, refl, sym, ap, subst, ◌∙◌, arith, length, get_or, set, eqb-true, length-append, length-set}
use Rattle.std.specs.Option.{is_some}
use Rattle.std.specs.List.{slice_get}
use Rattle.sat_lits.specs.declared.literal.Own.{Own}
use Rattle.sat_lits.specs.declared.literal.Inner.{Inner}
use Rattle.sat_lits.specs.declared.literal.Var.{Var}
use Rattle.var_maps.specs.Maps.{Maps, Matched, HasFree, Added, Revived, plain, inner_at, outer_at, owner_at}
use Rattle.var_maps.specs.Kept.{Numbered}
use Rattle.var_maps.proofs.Tables.{get_or-push, slice_get-push, get_or-written, past_none, slice_past, some_within}
use Rattle.var_maps.proofs.Pairs.{leads_more, leads_less, leads_same}

-- a variable by its number, and the number of a variable
abbrev own : ℕ → Own
own n = record { 0 = n }

abbrev own_number : Own → ℕ
own_number v = v.0

abbrev inner : ℕ → Inner
inner n = record { 0 = n }

abbrev inner_number : Inner → ℕ
inner_number i = i.0

abbrev outer : ℕ → Var
outer n = record { 0 = n }

abbrev outer_number : Var → ℕ
outer_number o = o.0

-- the number of a new variable is free
pub added_free : (m n : Maps) (v : Own) → Numbered m → v.0 ≡ length m.inners → n.owners ≡ m.owners ++ Some v ∷ [] → HasFree v (inner v.0) m.owners n.owners
added_free m n v h e p = record {
  free = past_none m.owners v.0 (omega (arith, e, h.places));
  given = λ j. ap (λ (z : List (Option Own)). get_or z j None) p ∙ (get_or-push m.owners (Some v) j ∙ ap (λ (z : ℕ). cond (j == z) (Some v) (get_or m.owners j None)) (h.places ∙ sym e));
  longer = omega (arith, l);
  by_one = omega (arith, l);
}
  where
    l : length n.owners ≡ length m.owners + 1
    l = ap length p ∙ length-append m.owners (Some v ∷ [])

-- the number of a variable that is not active is free
own_free : (m : Maps) (k : ℕ) (o : Option Own) → Matched m → Numbered m → inner_at m k ≡ None → owner_at m k ≡ o → o ≡ None
own_free m k None h g e q = refl
own_free m k (Some w) h g e q = absurd (clash (inner k) (sym e ∙ (ap (inner_at m) (g.same w.0 (inner k) (h.owner_inner k w q)) ∙ h.owner_inner k w q)))
  where
    clash : (i : Inner) → None ≡ Some i → ⊥
    clash i z = cc

pub revived_free : (m n : Maps) (v : Own) → Matched m → Numbered m → v.0 < length m.inners → inner_at m v.0 ≡ None → n.owners ≡ set m.owners v.0 (Some v) → HasFree v (inner v.0) m.owners n.owners
revived_free m n v h g there e p = record {
  free = own_free m v.0 (owner_at m v.0) h g e refl;
  given = λ j. ap (λ (z : List (Option Own)). get_or z j None) p ∙ get_or-written m.owners v.0 (Some v) j (omega (arith, there, g.places));
  longer = omega (arith, l);
  by_one = omega (arith, l);
}
  where
    l : length n.owners ≡ length m.owners
    l = ap length p ∙ length-set m.owners v.0 (Some v)

-- each variable has its own number, where one more has
same_more : (m n : Maps) (v : Own) → Numbered m → ((j : ℕ) → inner_at n j ≡ cond (j == v.0) (Some (inner v.0)) (inner_at m j)) → (k : ℕ) (i : Inner) → inner_at n k ≡ Some i → i.0 ≡ k
same_more m n v h p k i e = go (k == v.0) refl (sym (p k) ∙ e)
  where
    number : (j : Inner) → Some j ≡ Some i → i.0 ≡ j.0
    number j z = let y : j ≡ i = cc in sym (ap inner_number y)

    go : (b : Bool) → (k == v.0) ≡ b → cond b (Some (inner v.0)) (inner_at m k) ≡ Some i → i.0 ≡ k
    go true t z = number (inner v.0) z ∙ sym (eqb-true _ _ t)
    go false t z = h.same k i z

-- the outer numbers of a new outer variable
pub outer_added : (m n : Maps) (v : Own) → Matched m → v.0 ≡ length m.inners → n.outer_numbers ≡ m.outer_numbers ++ Some (record { 0 = length m.outers }) ∷ [] → n.outers ≡ m.outers ++ v ∷ []
    → ((k : ℕ) (o : Var) → outer_at n k ≡ Some o → slice_get n.outers o.0 ≡ Some (record { 0 = k })) × ((o : ℕ) (w : Own) → slice_get n.outers o ≡ Some w → outer_at n w.0 ≡ Some (record { 0 = o }))
outer_added m n v h e p q = (
  leads_more outer_number own (outer_at m) (outer_at n) (slice_get m.outers) (slice_get n.outers) v.0 (record { 0 = length m.outers }) (slice_past m.outers (length m.outers) (omega arith)) outers owns h.outer_own,
  leads_more own_number outer (slice_get m.outers) (slice_get n.outers) (outer_at m) (outer_at n) (length m.outers) v (past_none m.outer_numbers v.0 (omega (arith, e, h.lengths))) owns outers h.own_outer,
)
  where
    outers : (j : ℕ) → outer_at n j ≡ cond (j == v.0) (Some (record { 0 = length m.outers })) (outer_at m j)
    outers j =
        ap (λ (z : List (Option Var)). get_or z j None) p
        ∙ (get_or-push m.outer_numbers (Some (record { 0 = length m.outers })) j ∙ ap (λ (z : ℕ). cond (j == z) (Some (outer (length m.outers))) (outer_at m j)) (h.lengths ∙ sym e))

    owns : (j : ℕ) → slice_get n.outers j ≡ cond (j == length m.outers) (Some v) (slice_get m.outers j)
    owns j = ap (λ (z : List Own). slice_get z j) q ∙ slice_get-push m.outers v j

-- those of a new private variable
pub private_added : (m n : Maps) → Matched m → n.outer_numbers ≡ m.outer_numbers ++ None ∷ [] → n.outers ≡ m.outers
    → ((k : ℕ) (o : Var) → outer_at n k ≡ Some o → slice_get n.outers o.0 ≡ Some (record { 0 = k })) × ((o : ℕ) (w : Own) → slice_get n.outers o ≡ Some w → outer_at n w.0 ≡ Some (record { 0 = o }))
private_added m n h p q = (
  leads_same outer_number own (outer_at m) (outer_at n) (slice_get m.outers) (slice_get n.outers) outers owns h.outer_own,
  leads_same own_number outer (slice_get m.outers) (slice_get n.outers) (outer_at m) (outer_at n) owns outers h.own_outer,
)
  where
    none : (b : Bool) (j : ℕ) → (j == length m.outer_numbers) ≡ b → cond b None (outer_at m j) ≡ outer_at m j
    none true j t = sym (past_none m.outer_numbers j (let a : j ≡ length m.outer_numbers = eqb-true _ _ t in omega arith))
    none false j t = refl

    outers : (j : ℕ) → outer_at n j ≡ outer_at m j
    outers j = ap (λ (z : List (Option Var)). get_or z j None) p ∙ (get_or-push m.outer_numbers None j ∙ none (j == length m.outer_numbers) j refl)

    owns : (j : ℕ) → slice_get n.outers j ≡ slice_get m.outers j
    owns j = ap (λ (z : List Own). slice_get z j) q

-- the inner numbers where a variable has one that was free
numbered : (m n : Maps) (v : Own) (i : Inner) → Matched m → HasFree v i m.owners n.owners → inner_at m v.0 ≡ None → ((j : ℕ) → inner_at n j ≡ cond (j == v.0) (Some i) (inner_at m j))
    → ((k : ℕ) (j : Inner) → inner_at n k ≡ Some j → owner_at n j.0 ≡ Some (record { 0 = k })) × ((j : ℕ) (w : Own) → owner_at n j ≡ Some w → inner_at n w.0 ≡ Some (record { 0 = j }))
numbered m n v i h t e p = (
  leads_more inner_number own (inner_at m) (inner_at n) (owner_at m) (owner_at n) v.0 i t.free p t.given h.inner_owner,
  leads_more own_number inner (owner_at m) (owner_at n) (inner_at m) (inner_at n) i.0 v e t.given p h.owner_inner,
)

-- the tables still match after a variable was added
pub added_matched : (m n : Maps) (v : Own) (i : Inner) (o : Option Var) → Matched m → HasFree v i m.owners n.owners → v.0 ≡ length m.inners → n.inners ≡ m.inners ++ Some i ∷ [] → n.outer_numbers ≡ m.outer_numbers ++ o ∷ []
    → ((k : ℕ) (x : Var) → outer_at n k ≡ Some x → slice_get n.outers x.0 ≡ Some (record { 0 = k })) × ((x : ℕ) (w : Own) → slice_get n.outers x ≡ Some w → outer_at n w.0 ≡ Some (record { 0 = x })) → Matched n
added_matched m n v i o h t e p q r = record {
  inner_owner = both.0;
  owner_inner = both.1;
  outer_own = r.0;
  own_outer = r.1;
  lengths = ap length q ∙ (length-append m.outer_numbers (o ∷ []) ∙ (ap (λ (z : ℕ). z + 1) h.lengths ∙ (sym (length-append m.inners (Some i ∷ [])) ∙ sym (ap length p))));
  inner_len = let l : length n.inners ≡ length m.inners + 1 = ap length p ∙ length-append m.inners (Some i ∷ []) in omega (arith, l, t.by_one, h.inner_len);
}
  where
    both : ((k : ℕ) (j : Inner) → inner_at n k ≡ Some j → owner_at n j.0 ≡ Some (record { 0 = k })) × ((j : ℕ) (w : Own) → owner_at n j ≡ Some w → inner_at n w.0 ≡ Some (record { 0 = j }))
    both = numbered m n v i h t (past_none m.inners v.0 (omega (arith, e)))
        (λ j. ap (λ (z : List (Option Inner)). get_or z j None) p ∙ (get_or-push m.inners (Some i) j ∙ ap (λ (z : ℕ). cond (j == z) (Some i) (inner_at m j)) (sym e)))

-- and the numbers are still right
pub added_numbered : (m n : Maps) (v : Own) → Numbered m → length m.inners < 2 ^ 31 → v.0 ≡ length m.inners → n.inners ≡ m.inners ++ Some (inner v.0) ∷ [] → n.owners ≡ m.owners ++ Some v ∷ [] → length n.outers ≤ length m.outers + 1 → Numbered n
added_numbered m n v h few e p q o =
    let l : length n.inners ≡ length m.inners + 1 = ap length p ∙ length-append m.inners (Some (inner v.0) ∷ []) in
    let k : length n.owners ≡ length m.owners + 1 = ap length q ∙ length-append m.owners (Some v ∷ []) in
    record {
      few = omega (arith, l, few);
      outer_count = omega (arith, l, o, h.outer_count);
      places = omega (arith, l, k, h.places);
      same = same_more m n v h (λ j. ap (λ (z : List (Option Inner)). get_or z j None) p ∙ (get_or-push m.inners (Some (inner v.0)) j ∙ ap (λ (z : ℕ). cond (j == z) (Some (inner v.0)) (inner_at m j)) (sym e)));
    }

-- the tables still match after a variable was revived
pub revived_matched : (m n : Maps) (v : Own) (i : Inner) → Matched m → HasFree v i m.owners n.owners → length n.owners ≡ length m.owners → v.0 < length m.inners → inner_at m v.0 ≡ None
    → n.inners ≡ set m.inners v.0 (Some i) → n.outer_numbers ≡ m.outer_numbers → n.outers ≡ m.outers → Matched n
revived_matched m n v i h t same there e p q r = record {
  inner_owner = both.0;
  owner_inner = both.1;
  outer_own = leads_same outer_number own (outer_at m) (outer_at n) (slice_get m.outers) (slice_get n.outers) outers owns h.outer_own;
  own_outer = leads_same own_number outer (slice_get m.outers) (slice_get n.outers) (outer_at m) (outer_at n) owns outers h.own_outer;
  lengths = ap length q ∙ (h.lengths ∙ (sym (length-set m.inners v.0 (Some i)) ∙ sym (ap length p)));
  inner_len = let l : length n.inners ≡ length m.inners = ap length p ∙ length-set m.inners v.0 (Some i) in omega (arith, l, same, h.inner_len);
}
  where
    outers : (j : ℕ) → outer_at n j ≡ outer_at m j
    outers j = ap (λ (z : List (Option Var)). get_or z j None) q

    owns : (j : ℕ) → slice_get n.outers j ≡ slice_get m.outers j
    owns j = ap (λ (z : List Own). slice_get z j) r

    both : ((k : ℕ) (j : Inner) → inner_at n k ≡ Some j → owner_at n j.0 ≡ Some (record { 0 = k })) × ((j : ℕ) (w : Own) → owner_at n j ≡ Some w → inner_at n w.0 ≡ Some (record { 0 = j }))
    both = numbered m n v i h t e (λ j. ap (λ (z : List (Option Inner)). get_or z j None) p ∙ get_or-written m.inners v.0 (Some i) j there)

pub revived_numbered : (m n : Maps) (v : Own) → Numbered m → v.0 < length m.inners → length n.owners ≡ length m.owners → n.inners ≡ set m.inners v.0 (Some (inner v.0)) → n.outers ≡ m.outers → Numbered n
revived_numbered m n v h there k p r =
    let l : length n.inners ≡ length m.inners = ap length p ∙ length-set m.inners v.0 (Some (inner v.0)) in
    record {
      few = omega (arith, l, h.few);
      outer_count = omega (arith, l, h.outer_count, ap length r);
      places = omega (arith, l, k, h.places);
      same = same_more m n v h (λ j. ap (λ (z : List (Option Inner)). get_or z j None) p ∙ get_or-written m.inners v.0 (Some (inner v.0)) j there);
    }

some_there : {X : Type 0} (o : Option X) (x : X) → o ≡ Some x → is_some o ≡ true
some_there o x e = ap is_some e

-- the tables still match after a variable was retired
pub retired_matched : (m n : Maps) (k : ℕ) (i : Inner) → Matched m → inner_at m k ≡ Some i → n.inners ≡ set m.inners k None → n.owners ≡ set m.owners i.0 None → n.outer_numbers ≡ m.outer_numbers → n.outers ≡ m.outers → Matched n
retired_matched m n k i h e p q a b = record {
  inner_owner = leads_less inner_number own own_number (λ _. refl) (inner_at m) (inner_at n) (owner_at m) (owner_at n) k i e inners owners h.inner_owner;
  owner_inner = leads_less own_number inner inner_number (λ _. refl) (owner_at m) (owner_at n) (inner_at m) (inner_at n) i.0 (record { 0 = k }) (h.inner_owner k i e) owners inners h.owner_inner;
  outer_own = leads_same outer_number own (outer_at m) (outer_at n) (slice_get m.outers) (slice_get n.outers) outers owns h.outer_own;
  own_outer = leads_same own_number outer (slice_get m.outers) (slice_get n.outers) (outer_at m) (outer_at n) owns outers h.own_outer;
  lengths = ap length a ∙ (h.lengths ∙ (sym (length-set m.inners k None) ∙ sym (ap length p)));
  inner_len =
      let l : length n.inners ≡ length m.inners = ap length p ∙ length-set m.inners k None in
      let z : length n.owners ≡ length m.owners = ap length q ∙ length-set m.owners i.0 None in
      omega (arith, l, z, h.inner_len);
}
  where
    inners : (j : ℕ) → inner_at n j ≡ cond (j == k) None (inner_at m j)
    inners j = ap (λ (z : List (Option Inner)). get_or z j None) p ∙ get_or-written m.inners k None j (some_within m.inners k (some_there _ i e))

    owners : (j : ℕ) → owner_at n j ≡ cond (j == i.0) None (owner_at m j)
    owners j = ap (λ (z : List (Option Own)). get_or z j None) q ∙ get_or-written m.owners i.0 None j (some_within m.owners i.0 (some_there _ (record { 0 = k }) (h.inner_owner k i e)))

    outers : (j : ℕ) → outer_at n j ≡ outer_at m j
    outers j = ap (λ (z : List (Option Var)). get_or z j None) a

    owns : (j : ℕ) → slice_get n.outers j ≡ slice_get m.outers j
    owns j = ap (λ (z : List Own). slice_get z j) b

pub retired_numbered : (m n : Maps) (k : ℕ) (i : Inner) → Numbered m → inner_at m k ≡ Some i → n.inners ≡ set m.inners k None → n.owners ≡ set m.owners i.0 None → n.outers ≡ m.outers → Numbered n
retired_numbered m n k i h e p q r =
    let l : length n.inners ≡ length m.inners = ap length p ∙ length-set m.inners k None in
    let a : length n.owners ≡ length m.owners = ap length q ∙ length-set m.owners i.0 None in
    record {
      few = omega (arith, l, h.few);
      outer_count = omega (arith, l, h.outer_count, ap length r);
      places = omega (arith, l, a, h.places);
      same = λ j x z. go j x (j == k) (sym (ap (λ (w : List (Option Inner)). get_or w j None) p ∙ get_or-written m.inners k None j (some_within m.inners k (some_there _ i e))) ∙ z);
    }
  where
    none_some : (x : Inner) → None ≡ Some x → ⊥
    none_some x z = cc

    go : (j : ℕ) (x : Inner) (b : Bool) → cond b None (inner_at m j) ≡ Some x → x.0 ≡ j
    go j x true z = absurd (none_some x z)
    go j x false z = h.same j x z

-- what is said of an addition does not look at the room
pub added_plain : (o : Option Var) (v : Own) (p m n : Maps) → plain p ≡ plain m → Added o v p n → Added o v m n
added_plain o v p m n e a = out (subst (λ (z : Maps). Added o v z n) e into)
  where
    into : Added o v (plain p) n
    into = record { number = a.number; inner = a.inner; inners = a.inners; outer_numbers = a.outer_numbers; numbered = a.numbered }

    out : Added o v (plain m) n → Added o v m n
    out b = record { number = b.number; inner = b.inner; inners = b.inners; outer_numbers = b.outer_numbers; numbered = b.numbered }

pub revived_plain : (v : Own) (i : Inner) (p m n : Maps) → plain p ≡ plain m → Revived v i p n → Revived v i m n
revived_plain v i p m n e a = out (subst (λ (z : Maps). Revived v i z n) e into)
  where
    into : Revived v i (plain p) n
    into = record { inners = a.inners; outer_numbers = a.outer_numbers; outers = a.outers; numbered = a.numbered; if_full = a.if_full }

    out : Revived v i (plain m) n → Revived v i m n
    out b = record { inners = b.inners; outer_numbers = b.outer_numbers; outers = b.outers; numbered = b.numbered; if_full = b.if_full }
