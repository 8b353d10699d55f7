-- What fixing a literal leaves of the clauses of one literal.
use Rattle.std.proofs.Common.{◌≡◌, ℕ, ◌+◌, ◌<◌, ◌≤◌, ◌==◌, Bool, true, false, cond, not, ◌&&◌, ◌||◌, List, [], ◌∷◌, ◌++◌, Option, Some, None, refl, sym, ap, ap₂, subst, ◌∙◌, ⊎_elim, append_assoc, append-nil, inl, inr, filter, map, set, get_or, count_by, length, arith}
use Rattle.std.specs.List.{list_any, list_all, cons_option}
use Rattle.std.specs.Bool.{beq}
use Rattle.std.proofs.lemmas.Bool.{and_parts, and_from, or_cases, or_left, or_right, eqb-true, eq-eqb, false≢true, true≢false, not-true}
use Rattle.std.proofs.lemmas.List.Folds.{list_any-append}
use Rattle.std.proofs.lemmas.List.Sums.{sum_by-set}
use Rattle.sat_lits.specs.Conflicts.{own_count}
use Rattle.sat_lits.specs.ListLaws.{all_or_any, any_mono, any_filter, all_push}
use Rattle.sat_lits.specs.ClauseLaws.{beq_true}
use Rattle.sat_lits.specs.Truth.{signed, clause_value}
use Rattle.sat_lits.specs.InLits.{same_lit as same_in}
use Rattle.sat_lits.specs.declared.literal.OwnLit.{OwnLit}
use Rattle.sat_lits.specs.declared.literal.InLit.{InLit}
use Rattle.rebuild_stack.specs.Values.{own_value}
use Rattle.rebuild_stack.specs.Entries.{names, is_gone}
use Rattle.rebuild_stack.specs.Roots.{root}
use Rattle.rebuild_stack.specs.PutIn.{same_lit, add_root, put_in, put_in_all}
use Rattle.rebuild_stack.specs.declared.entry.Root.TheVariants.{Known, Last}
use Rattle.rebuild_stack.specs.declared.entry.Entry.{Entry}
use Rattle.rebuild_stack.specs.declared.entry.Entry.TheVariants.{Fix}
use Rattle.clause_store.specs.Store.{Held, hard_of}
use Rattle.var_maps.specs.Maps.{Maps}
use Rattle.state_laws.specs.State.{State, is_active, problem_of}
use Rattle.state_laws.specs.Resolution.{mentions}
use Rattle.state_laws.specs.Moves.{put_through, put_into}
use Rattle.state_laws.specs.Conditions.{EntryFollows, IsContradicted}
use Rattle.state_laws.specs.Held.{own_of, own_clause, own_clauses}
use Rattle.state_laws.specs.Kernel.{Kernel, state_of, Standing, TookSame}
use Rattle.state_laws.specs.PlaceLaws.{active_in}
use Rattle.state_laws.specs.ViewLaws.{both_lists}
use Rattle.state_laws.specs.RootTableLaws.{entry_of, entry_of-some, entry_of-push}
use Rattle.removed_vars.specs.Removed.{fixed_value}
use Rattle.private_state.specs.MovingLaws.{active_unnamed}
use Rattle.sync_laws.specs.KeepLaws.{keeps_refl, keeps_trans, pushed-KeepsMet}
use Rattle.one_solver.specs.Basic.{IsBasic}
use Rattle.one_solver.specs.Fixing.{IsHeldOrFixed, IsFixing}
use Rattle.one_solver.specs.Learned.{HasForgotten}
use Rattle.one_solver.specs.Settled.{OnlyPushed}
use Rattle.one_solver.specs.Units.{is_short, is_empty, is_unit, HasNoUnits, IsFixed, StayFixed, FixesUnits}

-- a clause of one literal is that literal
pub unit_is : (l : InLit) (c : List InLit) → is_unit (same_in l) c ≡ true → c ≡ l ∷ []
unit_is l [] e = absurd (false≢true e)
unit_is l (k ∷ []) e =
    let p : ((l.var.0 == k.var.0) ≡ true) × (beq l.negative k.negative ≡ true) = and_parts _ _ e in
    let v : l.var.0 ≡ k.var.0 = eqb-true _ _ p.0 in
    let s : l.negative ≡ k.negative = beq_true _ _ p.1 in
    ap₂ (λ (n : ℕ) (b : Bool). let z : InLit = record { var = record { 0 = n }; negative = b } in z ∷ []) (sym v) (sym s)
unit_is l (k ∷ j ∷ c) e = absurd (false≢true e)

-- what passes for all clauses of a state passes for one of them
of_all : {R : Type 0} (k : Kernel) (p : List OwnLit → Bool) (q : List InLit → Bool) → list_all p (state_of k).hard ≡ true → list_all p (state_of k).learned ≡ true → list_any (λ h. q h.lits) k.store.held ≡ true
    → ((c : List InLit) → p (own_clause k.maps c) ≡ true → q c ≡ true → R) → R
of_all {R} k p q hard learned found f =
    all_or_any (λ (h : Held). p (own_clause k.maps h.lits)) (λ (h : Held). q h.lits) R k.store.held (both_lists k.maps p k.store.held hard learned) found (λ h x y. f h.lits x y)

-- the literal of a clause of one literal is active
pub unit_active : (k : Kernel) (l : InLit) → Standing k → list_any (λ h. is_unit (same_in l) h.lits) k.store.held ≡ true → is_active (state_of k) (own_of k.maps l).var.0 ≡ true
unit_active k l s e =
    of_all k (list_all (λ (o : OwnLit). is_active (state_of k) o.var.0)) (is_unit (same_in l)) s.stands.places.placed.hard s.stands.places.placed.learned e
    (λ c x y. let p : list_all (λ (o : OwnLit). is_active (state_of k) o.var.0) (own_clause k.maps (l ∷ [])) ≡ true =
    subst (λ (z : List InLit). list_all (λ (o : OwnLit). is_active (state_of k) o.var.0) (own_clause k.maps z) ≡ true) (unit_is l c y) x in (and_parts _ _ p).0)

-- and it follows
pub unit_follows : (k : Kernel) (l : InLit) → list_any (λ h. is_unit (same_in l) h.lits) k.store.held ≡ true → EntryFollows (state_of k) (Fix (own_of k.maps l))
unit_follows k l e w s =
    of_all k (clause_value (own_value w)) (is_unit (same_in l)) s.hard s.learned e
    (λ c x y. let p : clause_value (own_value w) (own_clause k.maps (l ∷ [])) ≡ true =
    subst (λ (z : List InLit). clause_value (own_value w) (own_clause k.maps z) ≡ true) (unit_is l c y) x in one (own_value w (own_of k.maps l)) p)
  where
    one : (b : Bool) → (b || false) ≡ true → b ≡ true
    one true f = refl
    one false f = f

-- an empty clause has no solution
pub empty_contradicted : (k : Kernel) → list_any (λ h. is_empty h.lits) k.store.held ≡ true → IsContradicted (state_of k)
empty_contradicted k e w s = of_all k (clause_value (own_value w)) is_empty s.hard s.learned e none
  where
    none : (c : List InLit) → clause_value (own_value w) (own_clause k.maps c) ≡ true → is_empty c ≡ true → ⊥
    none [] x y = false≢true x
    none (l ∷ c) x y = false≢true y

-- a clause of one literal of another variable does not hold this one
other_var : (v : ℕ) (l : OwnLit) (c : List OwnLit) → (l.var.0 == v) ≡ false → is_unit (same_lit l) c ≡ true → mentions v c ≡ false
other_var v l [] n e = absurd (false≢true e)
other_var v l (k ∷ []) n e =
    let p : ((l.var.0 == k.var.0) ≡ true) × (beq l.negative k.negative ≡ true) = and_parts _ _ e in
    let q : l.var.0 ≡ k.var.0 = eqb-true _ _ p.0 in
    subst (λ (z : ℕ). ((z == v) || false) ≡ false) q (ap (λ b. b || false) n)
other_var v l (k ∷ j ∷ c) n e = absurd (false≢true e)

-- such a clause stays where the variable is fixed
unit_stays : (v : ℕ) (l : OwnLit) (cs : List (List OwnLit)) → (l.var.0 == v) ≡ false → list_any (is_unit (same_lit l)) cs ≡ true → list_any (is_unit (same_lit l)) (filter (λ c. not (mentions v c)) cs) ≡ true
unit_stays v l cs n e = any_filter (is_unit (same_lit l)) (λ c. not (mentions v c)) cs (any_mono (is_unit (same_lit l)) (λ c. is_unit (same_lit l) c && not (mentions v c)) (λ c f. and_from _ _ f (ap not (other_var v l c n f))) cs e)

-- and so does the empty one
empty_stays : (v : ℕ) (cs : List (List OwnLit)) → list_any is_empty cs ≡ true → list_any is_empty (filter (λ c. not (mentions v c)) cs) ≡ true
empty_stays v cs e = any_filter is_empty (λ c. not (mentions v c)) cs (any_mono is_empty (λ c. is_empty c && not (mentions v c)) none cs e)
  where
    none : (c : List OwnLit) → is_empty c ≡ true → (is_empty c && not (mentions v c)) ≡ true
    none [] f = refl
    none (l ∷ c) f = absurd (false≢true f)

front : {X : Type 0} (p : X → Bool) (xs ys : List X) → list_any p xs ≡ true → list_any p (xs ++ ys) ≡ true
front p xs ys e = list_any-append p xs ys ∙ or_left _ _ e

back : {X : Type 0} (p : X → Bool) (xs ys : List X) → list_any p ys ≡ true → list_any p (xs ++ ys) ≡ true
back p xs ys e = list_any-append p xs ys ∙ or_right _ _ e

-- a clause of the negation alone becomes the empty one
turns_empty : (o l : OwnLit) (cs : List (List OwnLit)) → l.var.0 ≡ o.var.0 → beq l.negative o.negative ≡ false → list_any (is_unit (same_lit l)) cs ≡ true
    → list_any is_empty (put_in_all (root (Fix o ∷ [])) (filter (mentions o.var.0) cs)) ≡ true
turns_empty o l [] v n e = absurd (false≢true e)
turns_empty o l (c ∷ cs) v n e = ⊎_elim (λ f. here c f) (λ f. later (mentions o.var.0 c) (turns_empty o l cs v n f)) (or_cases _ _ e)
  where
    later : (b : Bool) → list_any is_empty (put_in_all (root (Fix o ∷ [])) (filter (mentions o.var.0) cs)) ≡ true
        → list_any is_empty (put_in_all (root (Fix o ∷ [])) (cond b (c ∷ filter (mentions o.var.0) cs) (filter (mentions o.var.0) cs))) ≡ true
    later false r = r
    later true r = rest (put_in (root (Fix o ∷ [])) c) r
      where
        rest : (p : Option (List OwnLit)) → list_any is_empty (put_in_all (root (Fix o ∷ [])) (filter (mentions o.var.0) cs)) ≡ true
            → list_any is_empty (cons_option p (put_in_all (root (Fix o ∷ [])) (filter (mentions o.var.0) cs))) ≡ true
        rest None r = r
        rest (Some d) r = or_right _ _ r

    signs : (a b : Bool) → beq a b ≡ false → signed a (not b) ≡ false
    signs true true f = absurd (true≢false f)
    signs false false f = absurd (true≢false f)
    signs true false f = refl
    signs false true f = refl

    here : (d : List OwnLit) → is_unit (same_lit l) d ≡ true → list_any is_empty (put_in_all (root (Fix o ∷ [])) (filter (mentions o.var.0) (d ∷ cs))) ≡ true
    here [] f = absurd (false≢true f)
    here (k ∷ j ∷ d) f = absurd (false≢true f)
    here (k ∷ []) f =
        let p : ((l.var.0 == k.var.0) ≡ true) × (beq l.negative k.negative ≡ true) = and_parts _ _ f in
        let q : k.var.0 ≡ o.var.0 = sym (eqb-true _ _ p.0) ∙ v in
        let r : (k.var.0 == o.var.0) ≡ true = eq-eqb _ _ q in
        let s : signed k.negative (not o.negative) ≡ false = signs k.negative o.negative (sym (ap (λ b. beq b o.negative) (beq_true _ _ p.1)) ∙ n) in
        let t : put_in (root (Fix o ∷ [])) (k ∷ []) ≡ Some [] = ap (λ b. add_root (cond b (Known (signed k.negative (not o.negative))) (Last k)) (Some [])) r ∙ ap (λ b. add_root (Known b) (Some [])) s in
        subst (λ (b : Bool). list_any is_empty (put_in_all (root (Fix o ∷ [])) (cond b ((k ∷ []) ∷ filter (mentions o.var.0) cs) (filter (mentions o.var.0) cs))) ≡ true) (sym (or_left _ false r))
        (subst (λ (z : Option (List OwnLit)). list_any is_empty (cons_option z (put_in_all (root (Fix o ∷ [])) (filter (mentions o.var.0) cs))) ≡ true) (sym t) refl)

-- a literal that was fixed is named by an entry
fixed_named : (k : Kernel) (l : OwnLit) → IsFixed k l → list_any (names l.var.0) k.stack ≡ true
fixed_named k l e = go (entry_of l.var.0 k.stack) refl e
  where
    go : (o : Option Entry) → entry_of l.var.0 k.stack ≡ o → fixed_value o ≡ Some (not l.negative) → list_any (names l.var.0) k.stack ≡ true
    go None f g = cc
    go (Some x) f g = entry_of-some l.var.0 k.stack x f

-- what is said of a clause of one literal stays said where another literal is fixed
hold_step : (k n : Kernel) (o l : OwnLit) → Standing k → is_active (state_of k) o.var.0 ≡ true → state_of n ≡ put_into (Fix o) (state_of k) → IsHeldOrFixed k l → IsHeldOrFixed n l
hold_step k n o l s a e h = ⊎_elim held (λ r. ⊎_elim fixed empty r) h
  where
    hard : (state_of n).hard ≡ put_through (Fix o) (state_of k).hard
    hard = ap (λ (z : State). z.hard) e

    none : list_any (names o.var.0) k.stack ≡ false
    none = active_unnamed k o.var.0 s a

    entry : entry_of l.var.0 n.stack ≡ cond (l.var.0 == o.var.0) (Some (Fix o)) (entry_of l.var.0 k.stack)
    entry = ap (λ (z : State). entry_of l.var.0 z.stack) e ∙ entry_of-push l.var.0 k.stack (Fix o) none

    move : (p : List OwnLit → Bool) → list_any p (put_through (Fix o) (state_of k).hard) ≡ true → list_any p (state_of n).hard ≡ true
    move p f = ap (list_any p) hard ∙ f

    empty : list_any is_empty (state_of k).hard ≡ true → IsHeldOrFixed n l
    empty f = inr (inr (move is_empty (front is_empty (filter (λ c. not (mentions o.var.0 c)) (state_of k).hard) (put_in_all (root (Fix o ∷ [])) (filter (mentions o.var.0) (state_of k).hard)) (empty_stays o.var.0 (state_of k).hard f))))

    fixed : IsFixed k l → IsHeldOrFixed n l
    fixed f = inr (inl (go (l.var.0 == o.var.0) refl))
      where
        go : (b : Bool) → (l.var.0 == o.var.0) ≡ b → IsFixed n l
        go false g = ap fixed_value (entry ∙ ap (λ b. cond b (Some (Fix o)) (entry_of l.var.0 k.stack)) g) ∙ f
        go true g = absurd (true≢false (sym (ap (λ (v : ℕ). list_any (names v) k.stack) (sym (eqb-true _ _ g)) ∙ fixed_named k l f) ∙ none))

    held : list_any (is_unit (same_lit l)) (state_of k).hard ≡ true → IsHeldOrFixed n l
    held f = go (l.var.0 == o.var.0) refl (beq l.negative o.negative) refl
      where
        go : (b : Bool) → (l.var.0 == o.var.0) ≡ b → (d : Bool) → beq l.negative o.negative ≡ d → IsHeldOrFixed n l
        go false g d q = inl (move (is_unit (same_lit l)) (front (is_unit (same_lit l)) (filter (λ c. not (mentions o.var.0 c)) (state_of k).hard) (put_in_all (root (Fix o ∷ [])) (filter (mentions o.var.0) (state_of k).hard)) (unit_stays o.var.0 l (state_of k).hard g f)))
        go true g true q = inr (inl (ap fixed_value (entry ∙ ap (λ b. cond b (Some (Fix o)) (entry_of l.var.0 k.stack)) g) ∙ ap (λ b. Some (not b)) (sym (beq_true _ _ q))))
        go true g false q = inr (inr (move is_empty (back is_empty (filter (λ c. not (mentions o.var.0 c)) (state_of k).hard) (put_in_all (root (Fix o ∷ [])) (filter (mentions o.var.0) (state_of k).hard)) (turns_empty o l (state_of k).hard (eqb-true _ _ g) q f))))

fixed_append : (v : ℕ) (b : Bool) (xs es : List Entry) → fixed_value (entry_of v xs) ≡ Some b → fixed_value (entry_of v (xs ++ es)) ≡ Some b
fixed_append v b [] es e = absurd (none b e)
  where
    none : (b : Bool) → None ≡ Some b → ⊥
    none b e = cc
fixed_append v b (x ∷ xs) es e = go (names v x) (fixed_append v b xs es) e
  where
    go : (c : Bool) → (fixed_value (entry_of v xs) ≡ Some b → fixed_value (entry_of v (xs ++ es)) ≡ Some b) → fixed_value (cond c (Some x) (entry_of v xs)) ≡ Some b → fixed_value (cond c (Some x) (entry_of v (xs ++ es))) ≡ Some b
    go true r f = f
    go false r f = r f

-- what was fixed is so where entries are pushed
pub stays_by : (k n : Kernel) (es : List Entry) → n.stack ≡ k.stack ++ es → StayFixed k n
stays_by k n es e l f = ap (λ (s : List Entry). fixed_value (entry_of l.var.0 s)) e ∙ fixed_append l.var.0 (not l.negative) k.stack es f

-- one of them is not true any more
pub one_fewer : (xs : List Bool) (i : ℕ) → get_or xs i false ≡ true → count_by (λ b. b) (set xs i false) + 1 ≡ count_by (λ b. b) xs
one_fewer xs i e =
    let one : cond {A = ℕ} (get_or xs i false) 1 0 ≡ 1 = ap (λ b. cond {A = ℕ} b 1 0) e in
    omega (arith, one, sum_by-set (λ (b : Bool). cond {A = ℕ} b 1 0) xs i false false (active_in xs i e))

-- fewer variables are active after each literal that is fixed
pub fewer_active : (k n : Kernel) (o : OwnLit) → is_active (state_of k) o.var.0 ≡ true → state_of n ≡ put_into (Fix o) (state_of k) → count_by (λ b. b) (state_of n).active < count_by (λ b. b) (state_of k).active
fewer_active k n o a e = subst (λ (xs : List Bool). count_by (λ b. b) xs < count_by (λ b. b) (state_of k).active) (sym (ap (λ (z : State). z.active) e)) (let f : count_by (λ b. b) (set (state_of k).active o.var.0 false) + 1 ≡ count_by (λ b. b) (state_of k).active = one_fewer (state_of k).active o.var.0 a in omega arith)

-- an entry more was pushed
pushed_more : (first k n : Kernel) (o : OwnLit) → state_of n ≡ put_into (Fix o) (state_of k) → OnlyPushed first k → OnlyPushed first n
pushed_more first k n o e p =
    record {
      definitions = ap (λ (z : State). z.definitions) e ∙ p.definitions;
      entries = p.entries ++ Fix o ∷ [];
      stack = ap (λ (z : State). z.stack) e ∙ (ap (λ z. z ++ Fix o ∷ []) p.stack ∙ append_assoc first.stack p.entries (Fix o ∷ []));
      kept = all_push (λ (x : Entry). not (is_gone x)) p.entries (Fix o) p.kept refl;
    }

-- a literal more is fixed
pub fixing_step : (first k n : Kernel) (o : OwnLit) → Standing k → is_active (state_of k) o.var.0 ≡ true → state_of n ≡ put_into (Fix o) (state_of k) → IsFixing first k → IsFixing first n
fixing_step first k n o s a e h =
    record {
      basic = record {
        few = subst (λ (z : State). length z.definitions ≤ own_count (problem_of z)) (sym e) h.basic.few;
      };
      same = record {
        items = ap (λ (z : State). z.items) e ∙ h.same.items;
        entries = ap (λ (z : State). z.entries) e ∙ h.same.entries;
        definitions = ap (λ (z : State). z.definitions) e ∙ h.same.definitions;
        okay = λ t. h.same.okay (sym (ap (λ (z : State). z.okay) e) ∙ t);
      };
      fewer = let f : count_by (λ b. b) (state_of n).active < count_by (λ b. b) (state_of k).active = fewer_active k n o a e in let g : count_by (λ b. b) (state_of k).active ≤ count_by (λ b. b) (state_of first).active = h.fewer in omega arith;
      pushed = pushed_more first k n o e h.pushed;
      met = keeps_trans (state_of first) (state_of k) (state_of n) h.met (pushed-KeepsMet k n (Fix o) refl e);
      units = λ l u. hold_step k n o l s a e (h.units l u);
    }

-- at first nothing was pushed
pub pushed_none : (k : Kernel) → OnlyPushed k k
pushed_none k = record { definitions = refl; entries = []; stack = sym (append-nil k.stack); kept = refl }

-- at first each is held
pub fixing_start : (k : Kernel) → IsBasic k → IsFixing k k
fixing_start k b = record { basic = b; same = record { items = refl; entries = refl; definitions = refl; okay = λ t. t }; fewer = omega arith; pushed = pushed_none k; met = keeps_refl (state_of k); units = λ l u. inl u }

short_own : (m : Maps) (c : List InLit) → is_short (own_clause m c) ≡ is_short c
short_own m [] = refl
short_own m (l ∷ []) = refl
short_own m (l ∷ k ∷ c) = refl

-- where no stored clause is short, no hard one is
no_units : (m : Maps) (held : List Held) → list_all (λ h. not (is_short h.lits)) held ≡ true → list_all (λ c. not (is_short c)) (own_clauses m (hard_of held)) ≡ true
no_units m [] e = refl
no_units m (h ∷ held) e =
    let p : (not (is_short h.lits) ≡ true) × (list_all (λ k. not (is_short k.lits)) held ≡ true) = and_parts _ _ e in
    go h.learned (no_units m held p.1) (ap not (short_own m h.lits) ∙ p.0)
  where
    go : (b : Bool) → list_all (λ c. not (is_short c)) (own_clauses m (hard_of held)) ≡ true → not (is_short (own_clause m h.lits)) ≡ true
        → list_all (λ c. not (is_short c)) (own_clauses m (map (λ (k : Held). k.lits) (cond (not b) (h ∷ filter (λ k. not k.learned) held) (filter (λ k. not k.learned) held)))) ≡ true
    go true r x = r
    go false r x = and_from _ _ x r

pub has_no_units : (k : Kernel) → list_all (λ h. not (is_short h.lits)) k.store.held ≡ true → HasNoUnits k
has_no_units k e = no_units k.maps k.store.held e

unit_short : (p : OwnLit → Bool) (c : List OwnLit) → is_unit p c ≡ true → is_short c ≡ true
unit_short p [] e = refl
unit_short p (l ∷ []) e = refl
unit_short p (l ∷ k ∷ c) e = e

empty_short : (c : List OwnLit) → is_empty c ≡ true → is_short c ≡ true
empty_short [] e = refl
empty_short (l ∷ []) e = refl
empty_short (l ∷ k ∷ c) e = e

-- at the end each is fixed
pub fixing_end : (first k : Kernel) → IsFixing first k → HasNoUnits k → FixesUnits first k
fixing_end first k h n l u = ⊎_elim (λ f. absurd (none (is_unit (same_lit l)) (unit_short (same_lit l)) f)) (λ r. ⊎_elim (λ f. f) (λ f. absurd (none is_empty empty_short f)) r) (h.units l u)
  where
    none : (p : List OwnLit → Bool) → ((c : List OwnLit) → p c ≡ true → is_short c ≡ true) → list_any p (state_of k).hard ≡ true → ⊥
    none p q f = all_or_any (λ c. not (is_short c)) p ⊥ (state_of k).hard n f (λ c x y. false≢true (sym (not-true _ x) ∙ q c y))

-- new ids of clauses change nothing of this
pub renumbered_basic : (k n : Kernel) → n ≡ record k { store = n.store } → IsBasic k → IsBasic n
renumbered_basic k n e b = subst (λ (z : Kernel). IsBasic z) (sym e) (record { few = b.few })

pub renumbered_same : (first k n : Kernel) → n ≡ record k { store = n.store } → TookSame first k → TookSame first n
renumbered_same first k n e t = subst (λ (z : Kernel). TookSame first z) (sym e) (record { items = t.items; entries = t.entries; definitions = t.definitions; okay = t.okay })

pub renumbered_fixed : (first k n : Kernel) → n ≡ record k { store = n.store } → (k.okay ≡ true → FixesUnits first k) → n.okay ≡ true → FixesUnits first n
renumbered_fixed first k n e f o l u = ap (λ (z : Kernel). fixed_value (entry_of l.var.0 z.stack)) e ∙ f (sym (ap (λ (z : Kernel). z.okay) e) ∙ o) l u

pub renumbered_fewer : (first k n : Kernel) → state_of n ≡ state_of k → count_by (λ b. b) (state_of k).active ≤ count_by (λ b. b) (state_of first).active → count_by (λ b. b) (state_of n).active ≤ count_by (λ b. b) (state_of first).active
renumbered_fewer first k n q h = subst (λ (s : State). count_by (λ b. b) s.active ≤ count_by (λ b. b) (state_of first).active) (sym q) h

pub renumbered_pushed : (first k n : Kernel) → n ≡ record k { store = n.store } → OnlyPushed first k → OnlyPushed first n
renumbered_pushed first k n e p = subst (λ (z : Kernel). OnlyPushed first z) (sym e) (record { definitions = p.definitions; entries = p.entries; stack = p.stack; kept = p.kept })

pub renumbered_left : (k n : Kernel) → n ≡ record k { store = n.store } → state_of n ≡ state_of k → (k.okay ≡ true → HasNoUnits k) → n.okay ≡ true → HasNoUnits n
renumbered_left k n e q h o = ap (λ (s : State). list_all (λ c. not (is_short c)) s.hard) q ∙ h (sym (ap (λ (z : Kernel). z.okay) e) ∙ o)

-- nor do learned clauses that are dropped
pub forgot_left : (k n : Kernel) → HasForgotten k n → (k.okay ≡ true → HasNoUnits k) → n.okay ≡ true → HasNoUnits n
forgot_left k n f h o = ap (list_all (λ c. not (is_short c))) f.hard ∙ h (sym (ap (λ (z : Kernel). z.okay) f.same) ∙ o)
