-- A variable may be replaced by its root, and what is kept then.
use Rattle.std.proofs.Common.{◌≡◌, ◌≢◌, ℕ, zero, suc, ◌+◌, ◌*◌, ◌/◌, ◌<◌, Bool, true, false, cond, if◌then◌else◌, List, [], ◌∷◌, ◌++◌, append_assoc, length-append, Some, None, Option, length, get_or, set, map, refl, sym, ap, subst, ◌∙◌, arith, ⊎_elim, ne_eqb, count_by, ◌≤◌}
use Rattle.std.proofs.lemmas.List.{get_or-set_other}
use Rattle.std.proofs.lemmas.List.{append-nil}
use Rattle.std.proofs.lemmas.Bool.{and_from}
use Rattle.std.proofs.lemmas.List.Folds.{list_all-append}
use Rattle.std.proofs.lemmas.List.Sums.{sum_by-set}
use Rattle.std.specs.Bool.{beq}
use Rattle.std.specs.Option.{is_some}
use Rattle.sat_lits.specs.Truth.{signed, clauses_value}
use Rattle.sat_lits.specs.ClauseLaws.{with_value_other}
use Rattle.sat_lits.specs.declared.literal.Own.{Own}
use Rattle.sat_lits.specs.declared.literal.OwnLit.{OwnLit}
use Rattle.sat_lits.specs.declared.literal.Inner.{Inner}
use Rattle.sat_lits.specs.declared.literal.InLit.{InLit}
use Rattle.rebuild_stack.specs.Values.{own_value}
use Rattle.rebuild_stack.specs.Entries.{undo, named}
use Rattle.rebuild_stack.specs.declared.entry.Entry.{Entry}
use Rattle.rebuild_stack.specs.declared.entry.Entry.TheVariants.{Equal}
use Rattle.var_maps.specs.Maps.{Maps, Matched, inner_at, owner_at, number_or, plain, retired}
use Rattle.state_laws.specs.Conditions.{Satisfies, Pushable}
use Rattle.state_laws.specs.Held.{own_of, own_or}
use Rattle.state_laws.specs.Kernel.{Kernel, state_of, TookSame}
use Rattle.state_laws.specs.Moves.{put_into}
use Rattle.state_laws.specs.PlaceLaws.{active_in}
use Rattle.state_laws.specs.PutIntoLaws.{put_through_value}
use Rattle.state_laws.specs.State.{State, is_active}
use Rattle.state_laws.specs.ViewLaws.{get_is_some}
use Rattle.equiv_replace.specs.Graphs.{HasEdge, AreOnCycle}
use Rattle.equiv_replace.specs.Nodes.{lit_of}
use Rattle.equiv_replace.specs.Replaced.{IsReplacing, IsUsed, root_var, is_equal, Replaced, OnlyReplaced}
use Rattle.equiv_replace.proofs.Nodes.{half, lit_node, last_edge, root_again}

-- the root of a variable that it replaces is in use
pub root_used : (roots : List ℕ) (var : ℕ) (k : Kernel) → IsReplacing roots var k → (v : ℕ) → 2 * v + 1 < length roots → root_var roots v ≢ v → IsUsed k.maps (root_var roots v)
root_used roots var k r v l n =
    let e : length roots ≡ length r.graph = r.rooted.each in
    let c : AreOnCycle r.graph (2 * v) (get_or roots (2 * v) 0) = r.rooted.cycle (2 * v) (omega arith) in
    ⊎_elim (λ (x : 2 * v ≡ get_or roots (2 * v) 0). absurd (n (ap (λ (z : ℕ). z / 2) (sym x) ∙ half v)))
    (λ (x : (x : ℕ) × HasEdge r.graph x (get_or roots (2 * v) 0)). r.ends x.0 (get_or roots (2 * v) 0) x.1 (root_again r.graph roots r.rooted r.mirrored v (omega arith)))
    (last_edge r.graph (2 * v) (get_or roots (2 * v) 0) c.there)

-- the owner of an inner number is active
pub owner_active : (m : Maps) (i : ℕ) (v : Own) → Matched m → owner_at m i ≡ Some v → get_or (map is_some m.inners) v.0 false ≡ true
owner_active m i v h e = get_is_some m.inners v.0 ∙ ap is_some (h.owner_inner i v e)

-- owners of two inner numbers are two
pub owners_differ : (m : Maps) (i j : ℕ) (v u : Own) → Matched m → owner_at m i ≡ Some v → owner_at m j ≡ Some u → i ≢ j → v.0 ≢ u.0
owners_differ m i j v u h e f n d =
    let x : inner_at m v.0 ≡ Some (record { 0 = i }) = h.owner_inner i v e in
    let y : inner_at m u.0 ≡ Some (record { 0 = j }) = h.owner_inner j u f in
    let z : ◌≡◌ {A = Option Inner} (Some (record { 0 = i })) (Some (record { 0 = j })) = sym x ∙ (ap (inner_at m) d ∙ y) in
    n (same i j z)
  where
    same : (i j : ℕ) → ◌≡◌ {A = Option Inner} (Some (record { 0 = i })) (Some (record { 0 = j })) → i ≡ j
    same i j z = ap (λ (x : Inner). x.0) (one (record { 0 = i }) (record { 0 = j }) z)
      where
        one : (x y : Inner) → Some x ≡ Some y → x ≡ y
        one x y z = cc

pub pushable_root : (k : Kernel) (i j : ℕ) (v u : Own) (negative : Bool) → Matched k.maps → owner_at k.maps i ≡ Some v → owner_at k.maps j ≡ Some u → i ≢ j → Pushable (state_of k) (Equal v (record { var = u; negative = negative }))
pushable_root k i j v u negative h e f n =
    record {
      kept = refl;
      active = owner_active k.maps i v h e;
      others = ap (λ (b : Bool). cond b false (is_active (state_of k) u.0)) (ne_eqb u.0 v.0 (owners_differ k.maps j i u v h f e (λ x. n (sym x)))) ∙ owner_active k.maps j u h f;
    }

pub own_is : (m : Maps) (l : InLit) (v : Own) → owner_at m l.var.0 ≡ Some v → own_of m l ≡ record { var = v; negative = l.negative }
own_is m l v e = ap (λ (o : Option Own). record { var = own_or (length m.inners) o; negative = l.negative }) e

beq_same : (a b : Bool) → a ≡ b → beq a b ≡ true
beq_same true b e = subst (λ (z : Bool). beq true z ≡ true) e refl
beq_same false b e = subst (λ (z : Bool). beq false z ≡ true) e refl

-- the variable has its root's value wherever the clauses are satisfied
pub root_follows : (roots : List ℕ) (var : ℕ) (k : Kernel) → IsReplacing roots var k → (i : ℕ) (v u : Own) → 2 * i + 1 < length roots → owner_at k.maps i ≡ Some v → owner_at k.maps (root_var roots i) ≡ Some u
    → (w : ℕ → Bool) → Satisfies (state_of k) w → beq (w v.0) (own_value w (record { var = u; negative = (lit_of (get_or roots (2 * i) 0)).negative })) ≡ true
root_follows roots var k r i v u l e f w s =
    beq_same _ _
    (sym (ap (own_value w) (ap (own_of k.maps) (lit_node (record { var = record { 0 = i }; negative = false })) ∙ own_is k.maps (record { var = record { 0 = i }; negative = false }) v e))
    ∙ (r.same w s (2 * i) (get_or roots (2 * i) 0) (v, ap (owner_at k.maps) (half i) ∙ e) (u, f) (r.rooted.cycle (2 * i) (let x : length roots ≡ length r.graph = r.rooted.each in omega arith))
    ∙ ap (own_value w) (own_is k.maps (lit_of (get_or roots (2 * i) 0)) u f)))

-- owners when a variable was retired
owners_after : (m n : Maps) (i : ℕ) (v : Own) → Matched m → owner_at m i ≡ Some v → plain n ≡ plain (retired v.0 m) → (j : ℕ) → owner_at n j ≡ get_or (set m.owners i None) j None
owners_after m n i v h e p j =
    ap (λ (x : Maps). owner_at x j) p ∙ ap (λ (o : Option Inner). get_or (set m.owners (number_or 0 o) None) j None) (h.owner_inner i v e)

retired_none : (xs : List (Option Own)) (i : ℕ) → get_or (set xs i None) i None ≡ None
retired_none [] i = refl
retired_none (x ∷ xs) zero = refl
retired_none (x ∷ xs) (suc i) = retired_none xs i

-- a variable was replaced by its root
pub replaced_step : (roots : List ℕ) (i : ℕ) (k n : Kernel) (v u : Own) (negative : Bool) → IsReplacing roots i k → Matched k.maps → owner_at k.maps i ≡ Some v → root_var roots i ≢ i
    → state_of n ≡ put_into (Equal v (record { var = u; negative = negative })) (state_of k) → plain n.maps ≡ plain (retired v.0 k.maps) → IsReplacing roots (i + 1) n
replaced_step roots i k n v u negative r h e d s p =
    record {
      graph = r.graph;
      rooted = r.rooted;
      mirrored = r.mirrored;
      ends = λ a b x q. let y : IsUsed k.maps (b / 2) = r.ends a b x q in (y.0, other (b / 2) (λ z. d (subst (λ (m : ℕ). root_var roots m ≡ m) z q)) ∙ y.1);
      same = same;
      done = λ j l x. let y : IsUsed k.maps j = before j x in r.done j (let z : j ≢ i = apart j x in omega arith) y;
    }
  where
    entry : Entry
    entry = Equal v (record { var = u; negative = negative })

    after : (j : ℕ) → owner_at n.maps j ≡ get_or (set k.maps.owners i None) j None
    after = owners_after k.maps n.maps i v h e p

    other : (j : ℕ) → j ≢ i → owner_at n.maps j ≡ owner_at k.maps j
    other j z = after j ∙ get_or-set_other k.maps.owners i j None None z

    apart : (j : ℕ) → IsUsed n.maps j → j ≢ i
    apart j x z = none x.0 (sym (after j ∙ (ap (λ (m : ℕ). get_or (set k.maps.owners i None) m None) z ∙ retired_none k.maps.owners i)) ∙ x.1)
      where
        none : (y : Own) → None ≡ Some y → ⊥
        none y q = cc

    before : (j : ℕ) → IsUsed n.maps j → IsUsed k.maps j
    before j x = (x.0, sym (other j (apart j x)) ∙ x.1)

    value : (w : ℕ → Bool) (a : ℕ) → IsUsed n.maps (a / 2) → own_value w (own_of n.maps (lit_of a)) ≡ own_value (undo entry w) (own_of k.maps (lit_of a))
    value w a x =
        let y : IsUsed k.maps (a / 2) = before (a / 2) x in
        let q : y.0.0 ≢ v.0 = owners_differ k.maps (a / 2) i y.0 v h y.1 e (apart (a / 2) x) in
        ap (own_value w) (own_is n.maps (lit_of a) x.0 x.1)
        ∙ (ap (signed (lit_of a).negative) (sym (with_value_other w v.0 (own_value w (record { var = u; negative = negative })) y.0.0 (ne_eqb y.0.0 v.0 q)))
        ∙ sym (ap (own_value (undo entry w)) (own_is k.maps (lit_of a) y.0 y.1)))

    satisfies : (w : ℕ → Bool) → Satisfies (state_of n) w → Satisfies (state_of k) (undo entry w)
    satisfies w x =
        record {
          hard = sym (put_through_value entry refl w (state_of k).hard) ∙ (sym (ap (λ (z : State). clauses_value (own_value w) z.hard) s) ∙ x.hard);
          learned = sym (put_through_value entry refl w (state_of k).learned) ∙ (sym (ap (λ (z : State). clauses_value (own_value w) z.learned) s) ∙ x.learned);
        }

    same : (w : ℕ → Bool) → Satisfies (state_of n) w → (a b : ℕ) → IsUsed n.maps (a / 2) → IsUsed n.maps (b / 2) → AreOnCycle r.graph a b → own_value w (own_of n.maps (lit_of a)) ≡ own_value w (own_of n.maps (lit_of b))
    same w x a b y z c = value w a y ∙ (r.same (undo entry w) (satisfies w x) a b (before (a / 2) y) (before (b / 2) z) c ∙ sym (value w b z))

count_less : (xs : List Bool) (i : ℕ) → get_or xs i false ≡ true → count_by (λ b. b) (set xs i false) + 1 ≡ count_by (λ b. b) xs
count_less xs i e =
    let one : cond {A = ℕ} (get_or xs i false) 1 0 ≡ 1 = ap (λ b. cond {A = ℕ} b 1 0) e in
    omega (arith, one, sum_by-set (λ (b : Bool). cond {A = ℕ} b 1 0) xs i false false (active_in xs i e))

-- one variable less is active
pub one_less : (s n : State) (e : Entry) → is_active s (named e) ≡ true → n ≡ put_into e s → count_by (λ b. b) n.active + 1 ≡ count_by (λ b. b) s.active
one_less s n e a f = ap (λ (z : State). count_by (λ b. b) z.active + 1) f ∙ count_less s.active (named e) a

-- a replacement is one
pub replaced_one : (k n : Kernel) (v : Own) (l : OwnLit) → is_active (state_of k) v.0 ≡ true → state_of n ≡ put_into (Equal v l) (state_of k) → Replaced k n 1
replaced_one k n v l a e =
    record {
      entries = Equal v l ∷ [];
      stack = ap (λ (s : State). s.stack) e;
      equal = refl;
      number = refl;
      fewer = one_less (state_of k) (state_of n) (Equal v l) a e;
      same = λ z o. absurd (omega arith);
    }

-- nothing was pushed
pub none_replaced : (k n : Kernel) → n.stack ≡ k.stack → (state_of n).active ≡ (state_of k).active → OnlyReplaced k n
none_replaced k n e f =
    record {
      entries = [];
      stack = e ∙ sym (append-nil k.stack);
      equal = refl;
      fewer = let h : count_by (λ b. b) (state_of n).active ≡ count_by (λ b. b) (state_of k).active = ap (λ (xs : List Bool). count_by (λ b. b) xs) f in omega arith;
    }

pub only_one_replaced : (k n : Kernel) → Replaced k n 1 → OnlyReplaced k n
only_one_replaced k n r = record { entries = r.entries; stack = r.stack; equal = r.equal; fewer = let h : count_by (λ b. b) (state_of n).active + 1 ≡ count_by (λ b. b) (state_of k).active = r.fewer in omega arith }

-- some are replaced, and then some more
replaced_more : (k m n : Kernel) (a b c : ℕ) → c ≡ a + b → Replaced k m a → Replaced m n b → Replaced k n c
replaced_more k m n a b c e f s =
    record {
      entries = f.entries ++ s.entries;
      stack = s.stack ∙ (ap (λ (z : List Entry). z ++ s.entries) f.stack ∙ append_assoc k.stack f.entries s.entries);
      equal = list_all-append is_equal f.entries s.entries ∙ and_from _ _ f.equal s.equal;
      number = let l : length (f.entries ++ s.entries) ≡ length f.entries + length s.entries = length-append f.entries s.entries in let x : length f.entries ≡ a = f.number in let y : length s.entries ≡ b = s.number in omega (arith, l, x, y, e);
      fewer =
          let x : count_by (λ b. b) (state_of m).active + a ≡ count_by (λ b. b) (state_of k).active = f.fewer in
          let y : count_by (λ b. b) (state_of n).active + b ≡ count_by (λ b. b) (state_of m).active = s.fewer in
          omega (arith, x, y, e);
      same = λ z o. let x : n ≡ m = s.same (omega (arith, z, e)) o in x ∙ f.same (omega (arith, z, e)) (sym (ap (λ (w : Kernel). w.okay) x) ∙ o);
    }

-- and then one more or none
pub replaced_if : (k m n : Kernel) (a c : ℕ) (b x : Bool) → b ≡ x → c ≡ cond x (a + 1) a → Replaced k m a → Replaced m n (if b then 1 else 0) → Replaced k n c
replaced_if k m n a c b true e f r s = replaced_more k m n a 1 c f r (subst (λ (z : Bool). Replaced m n (if z then 1 else 0)) e s)
replaced_if k m n a c b false e f r s = replaced_more k m n a 0 c (omega (arith, f)) r (subst (λ (z : Bool). Replaced m n (if z then 1 else 0)) e s)

pub only_more_replaced : (k m n : Kernel) → OnlyReplaced k m → OnlyReplaced m n → OnlyReplaced k n
only_more_replaced k m n f s =
    record {
      entries = f.entries ++ s.entries;
      stack = s.stack ∙ (ap (λ (z : List Entry). z ++ s.entries) f.stack ∙ append_assoc k.stack f.entries s.entries);
      equal = list_all-append is_equal f.entries s.entries ∙ and_from _ _ f.equal s.equal;
      fewer =
          let x : count_by (λ b. b) (state_of m).active ≤ count_by (λ b. b) (state_of k).active = f.fewer in
          let y : count_by (λ b. b) (state_of n).active ≤ count_by (λ b. b) (state_of m).active = s.fewer in
          omega (arith, x, y);
    }

-- the same was taken from one state to the next and to one after that
pub took_more : (k m n : Kernel) → TookSame k m → TookSame m n → TookSame k n
took_more k m n f s = record { items = s.items ∙ f.items; entries = s.entries ∙ f.entries; definitions = s.definitions ∙ f.definitions; okay = λ o. f.okay (s.okay o) }
