-- What a state of this kind can take.
use Rattle.std.proofs.Common.{◌≡◌, ℕ, zero, suc, ◌+◌, ◌-◌, ◌^◌, ◌<◌, ◌≤◌, Bool, true, false, not, ◌&&◌, List, [], ◌∷◌, ◌++◌, Option, Some, None, refl, sym, ap, ap₂, subst, ◌∙◌, length, map, sum, get_or, take, drop, replicate, arith, take_all, append_assoc, append-nil}
use Rattle.std.specs.List.{list_all}
use Rattle.std.proofs.lemmas.Bool.{and_parts}
use Rattle.std.proofs.lemmas.List.{length-append, length-map, length-replicate, map-append, take-append-drop}
use Rattle.std.proofs.lemmas.List.Folds.{list_all-append, list_all-map}
use Rattle.std.proofs.lemmas.List.Sums.{sum_by-append, sum_by-cons}
use Rattle.std.proofs.lemmas.List.Concat.{flat_map-cons}
use Rattle.std.proofs.Math.Seq.{drop-append_seam}
use Rattle.sat_lits.specs.Conflicts.{cuts, own_count}
use Rattle.sat_lits.specs.ListLaws.{all_same, all_at}
use Rattle.sat_lits.specs.Meaning.{Problem}
use Rattle.sat_lits.specs.Formulas.{Extends, names_known, no_problem}
use Rattle.sat_lits.specs.declared.literal.Lit.{Lit}
use Rattle.sat_lits.specs.declared.literal.Var.{Var}
use Rattle.sat_lits.specs.declared.literal.OwnLit.{OwnLit}
use Rattle.rebuild_stack.specs.Roots.{root, is_lost}
use Rattle.rebuild_stack.specs.PutIn.{put_in}
use Rattle.rebuild_stack.specs.declared.entry.Entry.{Entry}
use Rattle.sat_lits.specs.declared.formula.Item.{Item}
use Rattle.sat_lits.specs.declared.formula.Item.TheVariants.{Clause, Parity}
use Rattle.state_laws.specs.declared.definition.Definition.{Definition}
use Rattle.state_laws.specs.State.{State, outers_from, outer_count, to_own, problem_of}
use Rattle.state_laws.specs.Conditions.{Takable}
use Rattle.state_laws.specs.ExtendLaws.{outers_from-append}
use Rattle.state_laws.specs.Moves.{grown}
use Rattle.state_laws.specs.Kernel.{Kernel, state_of, plain_kernel, TookSame}
use Rattle.private_state.specs.Taking.{IsTakable, item_taken}
use Rattle.private_state.specs.MovingLaws.{plain_state}
use Rattle.parity_forms.specs.Parities.{parity_pieces, parity_taken, definitions_of, clauses_of}
use Rattle.sync_laws.specs.ToldLaws.{told_from}
use Rattle.sync_laws.specs.Met.{KeepsMet, IsMet, is_covered, bindings, gone_clauses}
use Rattle.sync_laws.specs.CoversLaws.{own_more as same_own, taking-Covers}
use Rattle.sync_laws.specs.KeepLaws.{keeps_trans, taken-KeepsMet}
use Rattle.removed_vars.specs.CollectLaws.{taken_at}
use Rattle.parity_forms.specs.ParityRootLaws.{few_cuts}
use Rattle.parity_forms.specs.KernelParityLaws.{parity_definitions}
use Rattle.one_solver.specs.Basic.{IsBasic}
use Rattle.one_solver.specs.Roots.{is_free, lits_of, all_lits}
use Rattle.one_solver.specs.Taken.{HasTaken, with_items}

-- a clause over variables that are there, none of whose literals comes to an eliminated one, can be taken
pub clause_takable : (k : Kernel) (c : List Lit) → names_known (outer_count k.definitions) (Clause c) ≡ true → list_all (is_free k) c ≡ true → Takable (state_of k) c
clause_takable k c t f = record { there = t; roots = f }

-- an item of this kind can be taken, where its cuts have room
pub can_take : (k : Kernel) (item : Item) → names_known (outer_count k.definitions) item ≡ true → list_all (is_free k) (lits_of item) ≡ true → length k.definitions + cuts item ≤ 2 ^ 31 → IsTakable (state_of k) item
can_take k (Clause c) t f r = clause_takable k c t f
can_take k (Parity vars rhs) t f r = record { there = t; roots = sym (list_all-map (is_free k) (λ (v : Var). let l : Lit = record { var = v; negative = false } in l) vars) ∙ f; room = r }

-- outer variables count, and private ones do not
nones : (n more : ℕ) → length (outers_from n (replicate more None)) ≡ more
nones n zero = refl
nones n (suc more) = ap suc (nones (suc n) more)

no_outers : (n : ℕ) (ds : List Definition) → outers_from n (map Some ds) ≡ []
no_outers n [] = refl
no_outers n (d ∷ ds) = no_outers (suc n) ds

outer_more : (a b : List (Option Definition)) → outer_count (a ++ b) ≡ outer_count a + length (outers_from (0 + length a) b)
outer_more a b = ap length (outers_from-append 0 a b) ∙ length-append (outers_from 0 a) (outers_from (0 + length a) b)

-- the cuts of two parts of the items
cuts-append : (a b : List Item) → sum (map cuts (a ++ b)) ≡ sum (map cuts a) + sum (map cuts b)
cuts-append a b = ap sum (map-append cuts a b) ∙ sum_by-append (λ n. n) (map cuts a) (map cuts b)

one_cut : (item : Item) → sum (map cuts (item ∷ [])) ≡ cuts item
one_cut item = sum_by-cons (λ n. n) (cuts item) [] ∙ omega arith

-- the number of outer variables is the same where private ones are made
outer_same : (ds : List (Option Definition)) (es : List Definition) → outer_count (ds ++ map Some es) ≡ outer_count ds
outer_same ds es = ap length (outers_from-append 0 ds (map Some es) ∙ (ap (λ z. outers_from 0 ds ++ z) (no_outers (0 + length ds) es) ∙ append-nil (outers_from 0 ds)))

-- a parity that is taken keeps what is met
parity_met : (vars : List Var) (rhs : Bool) (s : State) → KeepsMet s (parity_taken vars rhs s)
parity_met vars rhs s = record { met = λ c m. record { there = there c m; covers = covers c m }; entries = refl; okay = λ o. o; told = λ log. told_from s (parity_taken vars rhs s) ds refl log (λ a. a) (λ a. a) }
  where
    ds : List (Option Definition)
    ds = map Some (definitions_of (parity_pieces s vars rhs))

    cs : List (List OwnLit)
    cs = clauses_of (parity_pieces s vars rhs)

    there : (c : List Lit) → IsMet s c → names_known (outer_count (s.definitions ++ ds)) (Clause c) ≡ true
    there c m = ap (λ (n : ℕ). names_known n (Clause c)) (outer_same s.definitions (definitions_of (parity_pieces s vars rhs))) ∙ m.there

    covers : (c : List Lit) → IsMet s c → is_covered ((s.hard ++ cs) ++ gone_clauses s.stack) (put_in (λ l. root (bindings s.stack) (to_own (s.definitions ++ ds) l)) c) ≡ true
    covers c m =
        ap (is_covered ((s.hard ++ cs) ++ gone_clauses s.stack)) (same_own s.definitions ds c m.there (root (bindings s.stack)))
        ∙ taking-Covers (Parity vars rhs) cs s c m.covers

-- and so does an item
taken_met : (k n : Kernel) (item : Item) → state_of n ≡ item_taken item (state_of k) → KeepsMet (state_of k) (state_of n)
taken_met k n (Clause c) e = subst (KeepsMet (state_of k)) (sym e) (taken-KeepsMet c (state_of k))
taken_met k n (Parity vars rhs) e = subst (KeepsMet (state_of k)) (sym e) (parity_met vars rhs (state_of k))

-- an item more is taken
pub one_taken : (k n : Kernel) (item : Item) → state_of n ≡ item_taken item (state_of k) → HasTaken k n (item ∷ [])
one_taken k n (Clause c) e = record { items = ap (λ (z : State). z.items) e; outers = ap (λ (z : State). outers_from 0 z.definitions) e; stack = ap (λ (z : State). z.stack) e; okay = ap (λ (z : State). z.okay) e; met = taken_met k n (Clause c) e }
one_taken k n (Parity vars rhs) e = record {
  items = ap (λ (z : State). z.items) e;
  outers =
      let ds : List Definition = definitions_of (parity_pieces (state_of k) vars rhs) in
      ap (λ (z : State). outers_from 0 z.definitions) e
      ∙ (outers_from-append 0 k.definitions (map Some ds) ∙ (ap (λ z. outers_from 0 k.definitions ++ z) (no_outers (0 + length k.definitions) ds) ∙ append-nil (outers_from 0 k.definitions)));
  stack = ap (λ (z : State). z.stack) e;
  okay = ap (λ (z : State). z.okay) e;
  met = taken_met k n (Parity vars rhs) e;
}

-- with no more own variables than it has cuts
own_more : (k n : Kernel) (item : Item) → state_of n ≡ item_taken item (state_of k) → length n.definitions ≤ length k.definitions + cuts item
own_more k n (Clause c) e = let m : length n.definitions ≡ length k.definitions = ap (λ (z : State). length z.definitions) e in omega (arith, m)
own_more k n (Parity vars rhs) e =
    let ds : List Definition = definitions_of (parity_pieces (state_of k) vars rhs) in
    let m : length n.definitions ≡ length k.definitions + length ds =
    ap (λ (z : State). length z.definitions) e ∙ (length-append k.definitions (map Some ds) ∙ ap (λ (j : ℕ). length k.definitions + j) (length-map ds (λ (d : Definition). Some d))) in
    omega (arith, m, parity_definitions k vars rhs, few_cuts (state_of k) vars rhs)

-- the same was taken where room alone is another
pub taken_plain : (first k n : Kernel) (more : List Item) → plain_kernel n ≡ plain_kernel k → HasTaken first k more → HasTaken first n more
taken_plain first k n more e h = record {
  items = ap (λ (z : Kernel). z.items) e ∙ h.items;
  outers = ap (λ (z : Kernel). outers_from 0 z.definitions) e ∙ h.outers;
  stack = ap (λ (z : Kernel). z.stack) e ∙ h.stack;
  okay = ap (λ (z : Kernel). z.okay) e ∙ h.okay;
  met = subst (KeepsMet (state_of first)) (sym (plain_state k n e)) h.met;
}

-- the number of outer variables is the same
pub same_count : (k n : Kernel) (more : List Item) → HasTaken k n more → outer_count n.definitions ≡ outer_count k.definitions
same_count k n more h = ap length h.outers

pub basic_taken : (k n : Kernel) (item : Item) → IsBasic k → state_of n ≡ item_taken item (state_of k) → IsBasic n
basic_taken k n item b e = record { few = few }
  where
    few : length n.definitions ≤ own_count (problem_of (state_of n))
    few =
        let h : HasTaken k n (item ∷ []) = one_taken k n item e in
        let s : sum (map cuts n.items) ≡ sum (map cuts (k.items ++ item ∷ [])) = ap (λ (is : List Item). sum (map cuts is)) h.items in
        omega (arith, b.few, own_more k n item e, same_count k n (item ∷ []) h, s, cuts-append k.items (item ∷ []), one_cut item)

-- where the next item was taken behind the first ones, these and it were taken
pub taken_next : (first k n : Kernel) (items : List Item) (i : ℕ) (item : Item) → HasTaken first k (take i items) → i < length items → item ≡ get_or items i item → state_of n ≡ item_taken item (state_of k) → HasTaken first n (take (i + 1) items)
taken_next first k n items i item h l g e =
    let o : HasTaken k n (item ∷ []) = one_taken k n item e in
    record {
      items =
          o.items
          ∙ (ap (λ z. z ++ item ∷ []) h.items
          ∙ (append_assoc first.items (take i items) (item ∷ []) ∙ (ap (λ (x : Item). first.items ++ (take i items ++ x ∷ [])) g ∙ ap (λ z. first.items ++ z) (sym (taken_at items i item l)))));
      outers = o.outers ∙ h.outers;
      stack = o.stack ∙ h.stack;
      okay = o.okay ∙ h.okay;
      met = keeps_trans (state_of first) (state_of k) (state_of n) h.met o.met;
    }

-- the cuts of the first items and of the next one are some of the cuts of all
cuts_at : (items : List Item) (i : ℕ) (d : Item) → i < length items → sum (map cuts (take i items)) + cuts (get_or items i d) ≤ sum (map cuts items)
cuts_at [] i d l = absurd (omega arith)
cuts_at (x ∷ xs) zero d l = omega (arith, sum_by-cons (λ (n : ℕ). n) (cuts x) (map cuts xs))
cuts_at (x ∷ xs) (suc i) d l =
    omega (arith, cuts_at xs i d (omega arith), sum_by-cons (λ (n : ℕ). n) (cuts x) (map cuts xs), sum_by-cons (λ (n : ℕ). n) (cuts x) (map cuts (take i xs)))

-- so the next one has room
pub next_room : (first k : Kernel) (items : List Item) (i : ℕ) (item : Item) → IsBasic k → HasTaken first k (take i items) → i < length items → item ≡ get_or items i item → own_count (with_items first items) ≤ 2 ^ 31 → length k.definitions + cuts item ≤ 2 ^ 31
next_room first k items i item b h l g r =
    let s : sum (map cuts k.items) ≡ sum (map cuts (first.items ++ take i items)) = ap (λ (is : List Item). sum (map cuts is)) h.items in
    let c : cuts item ≡ cuts (get_or items i item) = ap cuts g in
    omega (arith, b.few, same_count first k (take i items) h, s, c, cuts-append first.items (take i items), cuts-append first.items items, cuts_at items i item l, r)

-- the cuts of the items that were taken are some of the cuts of the formula
pub front_cuts : (f : Problem) (items more : List Item) → f.items ≡ items ++ more → own_count f ≡ f.vars + sum (map cuts items) + sum (map cuts more)
front_cuts f items more e = let s : sum (map cuts f.items) ≡ sum (map cuts (items ++ more)) = ap (λ (is : List Item). sum (map cuts is)) e in omega (arith, s, cuts-append items more)

-- there is room for the variables of a formula
pub has_room : (k : Kernel) (f : Problem) → IsBasic k → Extends (problem_of (state_of k)) f → own_count f ≤ 2 ^ 31 → length k.definitions + (f.vars - outer_count k.definitions) ≤ 2 ^ 31
has_room k f b x r = omega (arith, b.few, x.vars, front_cuts f k.items x.more x.items, r)

-- and for the items behind those that were taken
pub rest_room : (f : Problem) (g : Kernel) (more : List Item) → outer_count g.definitions ≡ f.vars → f.items ≡ g.items ++ more → own_count f ≤ 2 ^ 31 → own_count (with_items g more) ≤ 2 ^ 31
rest_room f g more v e r = omega (arith, v, front_cuts f g.items more e, cuts-append g.items more, r)

-- outer variables were made
pub grown_outers : (k g : Kernel) (more : ℕ) → state_of g ≡ grown more (state_of k) → outer_count g.definitions ≡ outer_count k.definitions + more
grown_outers k g more e =
    let m : outer_count g.definitions ≡ outer_count (k.definitions ++ replicate more None) = ap (λ (z : State). outer_count z.definitions) e in
    omega (arith, m, outer_more k.definitions (replicate more None), nones (0 + length k.definitions) more)

pub grown_basic : (k g : Kernel) (more : ℕ) → IsBasic k → state_of g ≡ grown more (state_of k) → IsBasic g
grown_basic k g more b e = record {
  few =
      let n : length g.definitions ≡ length k.definitions + more =
      ap (λ (z : State). length z.definitions) e ∙ (length-append k.definitions (replicate more None) ∙ ap (λ (j : ℕ). length k.definitions + j) (length-replicate more None)) in
      let s : sum (map cuts g.items) ≡ sum (map cuts k.items) = ap (λ (z : State). sum (map cuts z.items)) e in
      omega (arith, b.few, n, s, grown_outers k g more e);
}

pub grown_count : (k g : Kernel) (vars : ℕ) → outer_count k.definitions ≤ vars → state_of g ≡ grown (vars - outer_count k.definitions) (state_of k) → outer_count g.definitions ≡ vars
grown_count k g vars old e = omega (arith, old, grown_outers k g (vars - outer_count k.definitions) e)

-- what is left of a formula's items behind those that were taken
pub rest_is : (all old more : List Item) (n : ℕ) → all ≡ old ++ more → n ≡ length old → take (length all - n) (drop n all) ≡ more
rest_is all old more n e f =
    let d : drop n all ≡ more = ap (λ (i : ℕ). drop i all) f ∙ (ap (drop (length old)) e ∙ drop-append_seam old more) in
    let l : length all ≡ length old + length more = ap length e ∙ length-append old more in
    ap (take (length all - n)) d ∙ take_all (length all - n) more (omega arith)

-- the rest passes what all items pass
pub rest_passes : (p : Item → Bool) (all old more : List Item) → all ≡ old ++ more → list_all p all ≡ true → list_all p more ≡ true
rest_passes p all old more e h = (and_parts _ _ (sym (list_all-append p old more) ∙ (ap (list_all p) (sym e) ∙ h))).1

-- some of the rest was taken
pub took_some : (f : Problem) (g n : Kernel) (more : List Item) (m : ℕ) → outer_count g.definitions ≡ f.vars → f.items ≡ g.items ++ more → HasTaken g n (take m more) → Extends (problem_of (state_of n)) f
took_some f g n more m v e h = record {
  vars = omega (arith, v, same_count g n (take m more) h);
  more = drop m more;
  items = e ∙ (ap (λ z. g.items ++ z) (sym (take-append-drop m more)) ∙ (sym (append_assoc g.items (take m more) (drop m more)) ∙ ap (λ z. z ++ drop m more) (sym h.items)));
}

-- and all of it
pub took_all : (f : Problem) (g n : Kernel) (more : List Item) → outer_count g.definitions ≡ f.vars → f.items ≡ g.items ++ more → HasTaken g n more → problem_of (state_of n) ≡ f
took_all f g n more v e h =
    ap₂ (λ (x : ℕ) (y : List Item). let z : Problem = record { vars = x; items = y } in z) (same_count g n more h ∙ v) (h.items ∙ sym e)

-- what was taken goes on from what was taken before
pub took_longer : (f : Problem) (k g n : Kernel) (more : List Item) → outer_count g.definitions ≡ f.vars → outer_count k.definitions ≤ f.vars → g.items ≡ k.items → HasTaken g n more → Extends (problem_of (state_of k)) (problem_of (state_of n))
took_longer f k g n more v w e h = record {
  vars = omega (arith, v, same_count g n more h);
  more = more;
  items = h.items ∙ ap (λ z. z ++ more) e;
}

-- what took nothing took a front of every formula
pub nothing_front : (taken f : Problem) → taken ≡ no_problem → Extends taken f
nothing_front taken f e = subst (λ (x : Problem). Extends x f) (sym e) (record { vars = omega arith; more = f.items; items = refl })

-- where the same was taken, it is still of this kind
pub basic_same : (k n : Kernel) → IsBasic k → TookSame k n → IsBasic n
basic_same k n b s =
    record {
      few = subst (λ (ds : List (Option Definition)). length ds ≤ own_count (record { vars = outer_count ds; items = n.items })) (sym s.definitions)
          (subst (λ (is : List Item). length k.definitions ≤ own_count (record { vars = outer_count k.definitions; items = is })) (sym s.items) b.few);
    }

-- and the formula is the same
pub problem_same : (k n : Kernel) → TookSame k n → problem_of (state_of n) ≡ problem_of (state_of k)
problem_same k n s = ap₂ (λ (ds : List (Option Definition)) (is : List Item). let z : Problem = record { vars = outer_count ds; items = is } in z) s.definitions s.items

-- a literal that came to no eliminated variable comes to none where items were taken
pub taken_free : (k n : Kernel) (more : List Item) (lits : List Lit) → HasTaken k n more → list_all (is_free k) lits ≡ true → list_all (is_free n) lits ≡ true
taken_free k n more lits h f = all_same (is_free n) (is_free k) each lits ∙ f
  where
    each : (l : Lit) → is_free n l ≡ is_free k l
    each l =
        ap (λ (s : List Entry). not (is_lost (root s (to_own n.definitions l)))) h.stack
        ∙ ap (λ (ns : List ℕ). let o : OwnLit = record { var = record { 0 = get_or ns l.var.0 0 }; negative = l.negative } in not (is_lost (root k.stack o))) h.outers

all_in : (p : Lit → Bool) (items : List Item) → list_all p (all_lits items) ≡ list_all (λ x. list_all p (lits_of x)) items
all_in p [] = refl
all_in p (x ∷ items) = ap (list_all p) (flat_map-cons lits_of x items) ∙ (list_all-append p (lits_of x) (all_lits items) ∙ ap (λ b. list_all p (lits_of x) && b) (all_in p items))

-- the literals of the item at a place are among those of all
pub free_at : (p : Lit → Bool) (items : List Item) (i : ℕ) (item : Item) → i < length items → item ≡ get_or items i item → list_all p (all_lits items) ≡ true → list_all p (lits_of item) ≡ true
free_at p items i item l e h = ap (λ (x : Item). list_all p (lits_of x)) e ∙ all_at (λ x. list_all p (lits_of x)) items i item l (sym (all_in p items) ∙ h)

-- where variables came back behind what was taken, that is still a front
pub came_front : (f : Problem) (g r : Kernel) (more : List Item) → outer_count g.definitions ≡ f.vars → f.items ≡ g.items ++ more → TookSame g r → Extends (problem_of (state_of r)) f
came_front f g r more v e s = subst (λ (x : Problem). Extends x f) (sym (problem_same g r s)) (record { vars = omega (arith, v); more = more; items = e })

-- and goes on from what was taken before
pub came_longer : (k g r : Kernel) → outer_count k.definitions ≤ outer_count g.definitions → g.items ≡ k.items → TookSame g r → Extends (problem_of (state_of k)) (problem_of (state_of r))
came_longer k g r v e s = subst (λ (x : Problem). Extends (problem_of (state_of k)) x) (sym (problem_same g r s)) (record { vars = v; more = []; items = e ∙ sym (append-nil k.items) })
