-- What is met stays so, whatever move is made.
use Rattle.std.proofs.Common.{◌≡◌, ℕ, ◌+◌, ◌<◌, ◌≤◌, ◌==◌, nat_lt, replicate, Bool, true, false, cond, not, ◌||◌, List, [], ◌∷◌, ◌++◌, Option, Some, None, filter, length, refl, sym, ap, subst, ◌∙◌, ⊎_elim, arith, length-append}
use Rattle.std.proofs.lemmas.Bool.{and_from, or_cases, or_parts, or_left, or_right, not-true, ltb-true, lt-ltb, false≢true, not_from_false}
use Rattle.std.proofs.lemmas.List.Folds.{list_all-map, list_any-append}
use Rattle.std.specs.List.{list_any, list_all, cons_option}
use Rattle.sat_lits.specs.ListLaws.{all_mono, all_or_any}
use Rattle.sat_lits.specs.Formulas.{names_known}
use Rattle.sat_lits.specs.declared.literal.Lit.{Lit}
use Rattle.sat_lits.specs.declared.literal.Own.{Own}
use Rattle.sat_lits.specs.declared.literal.OwnLit.{OwnLit}
use Rattle.sat_lits.specs.declared.formula.Item.{Item}
use Rattle.sat_lits.specs.declared.formula.Item.TheVariants.{Clause}
use Rattle.sat_lits.specs.declared.shared.Shared.{Shared}
use Rattle.rebuild_stack.specs.Entries.{names, is_gone, times_named}
use Rattle.rebuild_stack.specs.Roots.{root, is_lost}
use Rattle.rebuild_stack.specs.PutIn.{same_lit, put_in, put_in_all, is_clean, option_passes}
use Rattle.rebuild_stack.specs.RootLaws.{root_unnamed}
use Rattle.rebuild_stack.specs.OrderLaws.{times_any, unnamed}
use Rattle.rebuild_stack.specs.declared.entry.Entry.{Entry}
use Rattle.rebuild_stack.specs.declared.entry.Entry.TheVariants.{Fix, Equal, Gone}
use Rattle.rebuild_stack.specs.declared.entry.Root.{Root}
use Rattle.rebuild_stack.specs.declared.entry.Root.TheVariants.{Last}
use Rattle.state_laws.specs.declared.definition.Definition.{Definition}
use Rattle.state_laws.specs.State.{State, is_active, to_own, outers_from, outer_count}
use Rattle.state_laws.specs.Stands.{Stands, IsPlaced}
use Rattle.state_laws.specs.Resolution.{is_of, mentions}
use Rattle.state_laws.specs.Moves.{put_into, with_hard, with_learned, taking, taken, imported, learning, refuted, own_form, eliminated, restored, extended, grown}
use Rattle.state_laws.specs.Conditions.{Restorable, Takable}
use Rattle.state_laws.specs.Away.{is_away}
use Rattle.state_laws.specs.PlaceLaws.{one_if, once_named}
use Rattle.state_laws.specs.TakeLaws.{own_form_active}
use Rattle.state_laws.specs.ExtendLaws.{outers_from-append}
use Rattle.sync_laws.specs.Met.{bindings, gone_clauses, is_within, are_subsumed, is_covered, IsMet}
use Rattle.sync_laws.specs.Steps.{is_heard}
use Rattle.sync_laws.specs.FitLaws.{root_fits, stands_passes, put_in_fits}
use Rattle.sync_laws.specs.CoversLaws.{put_into-Covers, with_hard-Covers, taking-Covers, taken-Covers, imported-Covers, imported-own-Covers, eliminated-Covers, restored-Covers, extended-Covers, grown-Covers, put_in_agree, root_kept}

-- an entry that fixes or replaces a variable is put into the state
pub put_into-IsMet : (e : Entry) (s : State) (c : List Lit) → is_gone e ≡ false → IsMet s c → IsMet (put_into e s) c
put_into-IsMet e s c g m = record { there = m.there; covers = put_into-Covers e s c g m.covers }

-- hard clauses become others, of which each old one has all literals of one
pub with_hard-IsMet : (cs : List (List OwnLit)) (s : State) (c : List Lit) → are_subsumed s.hard cs ≡ true → IsMet s c → IsMet (with_hard cs s) c
with_hard-IsMet cs s c e m = record { there = m.there; covers = with_hard-Covers cs s c e m.covers }

-- learned clauses become others
pub with_learned-IsMet : (cs ms : List (List OwnLit)) (s : State) (c : List Lit) → IsMet s c → IsMet (with_learned cs ms s) c
with_learned-IsMet cs ms s c m = record { there = m.there; covers = m.covers }

-- a clause is learned
pub learning-IsMet : (d : List OwnLit) (s : State) (c : List Lit) → IsMet s c → IsMet (learning d s) c
learning-IsMet d s c m = record { there = m.there; covers = m.covers }

-- the state is refuted
pub refuted-IsMet : (s : State) (c : List Lit) → IsMet s c → IsMet (refuted s) c
refuted-IsMet s c m = record { there = m.there; covers = m.covers }

-- an item is taken with clauses that stand for it
pub taking-IsMet : (item : Item) (cs : List (List OwnLit)) (s : State) (c : List Lit) → IsMet s c → IsMet (taking item cs s) c
taking-IsMet item cs s c m = record { there = m.there; covers = taking-Covers item cs s c m.covers }

-- a clause is taken as an item
pub taken-IsMet : (d : List Lit) (s : State) (c : List Lit) → IsMet s c → IsMet (taken d s) c
taken-IsMet d s c m = record { there = m.there; covers = taken-Covers d s c m.covers }

-- a shared entry is taken
pub imported-IsMet : (x : Shared) (s : State) (c : List Lit) → IsMet s c → IsMet (imported x s) c
imported-IsMet x s c m = record { there = m.there; covers = imported-Covers x s c m.covers }

-- and that entry itself is met then
pub imported-own-IsMet : (x : Shared) (s : State) → Takable s x.clause → IsMet (imported x s) x.clause
imported-own-IsMet x s t = record { there = t.there; covers = imported-own-Covers x s t }

-- a variable is eliminated
pub eliminated-IsMet : (v : Own) (s : State) (c : List Lit) → list_all is_clean s.hard ≡ true → IsMet s c → IsMet (eliminated v s) c
eliminated-IsMet v s c h m = record { there = m.there; covers = eliminated-Covers v s c h m.covers }

-- a variable is restored
pub restored-IsMet : (at : ℕ) (v : Own) (cs : List (List OwnLit)) (s : State) (c : List Lit) → Restorable s at v cs → IsPlaced s → IsMet s c → IsMet (restored at v cs s) c
restored-IsMet at v cs s c r p m = record { there = m.there; covers = restored-Covers at v cs s c r p m.covers }

-- what is known of fewer variables is known of more
known_more : (a b : ℕ) (c : List Lit) → a ≤ b → names_known a (Clause c) ≡ true → names_known b (Clause c) ≡ true
known_more a b c h e =
    list_all-map (λ n. nat_lt n b) (λ (l : Lit). l.var.0) c
    ∙ all_mono (λ (l : Lit). nat_lt l.var.0 a) (λ (l : Lit). nat_lt l.var.0 b) (λ l g. let x : l.var.0 < a = ltb-true _ _ g in lt-ltb _ _ (omega arith)) c
    (sym (list_all-map (λ n. nat_lt n a) (λ (l : Lit). l.var.0) c) ∙ e)

outers_more : (ds es : List (Option Definition)) → outer_count ds ≤ outer_count (ds ++ es)
outers_more ds es =
    let a : outer_count (ds ++ es) ≡ outer_count ds + length (outers_from (0 + length ds) es) = ap length (outers_from-append 0 ds es) ∙ length-append (outers_from 0 ds) (outers_from (0 + length ds) es) in
    omega arith

-- an own variable is made
pub extended-IsMet : (d : Option Definition) (cs : List (List OwnLit)) (s : State) (c : List Lit) → IsMet s c → IsMet (extended d cs s) c
extended-IsMet d cs s c m = record { there = known_more (outer_count s.definitions) (outer_count (s.definitions ++ d ∷ [])) c (outers_more s.definitions (d ∷ [])) m.there; covers = extended-Covers d cs s c m.there m.covers }

-- outer variables are made
pub grown-IsMet : (more : ℕ) (s : State) (c : List Lit) → IsMet s c → IsMet (grown more s) c
grown-IsMet more s c m = record { there = known_more (outer_count s.definitions) (outer_count (s.definitions ++ replicate more None)) c (outers_more s.definitions (replicate more None)) m.there; covers = grown-Covers more s c m.there m.covers }

none_filter : (p q : Entry → Bool) (xs : List Entry) → list_any p xs ≡ false → list_any p (filter q xs) ≡ false
none_filter p q [] e = refl
none_filter p q (x ∷ xs) e = let a : (p x ≡ false) × (list_any p xs ≡ false) = or_parts _ _ e in go (q x) a.0 (none_filter p q xs a.1)
  where
    go : (b : Bool) → p x ≡ false → list_any p (filter q xs) ≡ false → list_any p (cond b (x ∷ filter q xs) (filter q xs)) ≡ false
    go true f h = ap (λ z. z || list_any p (filter q xs)) f ∙ h
    go false f h = h

-- a literal of a clause, of a variable that an entry of the stack names
pub record Named (st : List Entry) (d : List OwnLit) : Type 0 where
  pub lit : OwnLit
  pub named : list_any (names lit.var.0) st ≡ true
  pub here : list_any (same_lit lit) d ≡ true

record Found (v : ℕ) (d : List OwnLit) : Type 0 where
  pub lit : OwnLit
  pub of : is_of v lit ≡ true
  pub here : list_any (same_lit lit) d ≡ true

found_in : (v : ℕ) (r : OwnLit → Root) → ((l : OwnLit) → is_of v l ≡ true → r l ≡ Last l) → (d : List OwnLit) (cs : List (List OwnLit)) → list_any (λ g. is_within g d) (put_in_all r (filter (mentions v) cs)) ≡ true → Found v d
found_in v r h d [] e = absurd (false≢true e)
found_in v r h d (c ∷ cs) e = go (mentions v c) refl e (λ f. found_in v r h d cs f)
  where
    one : mentions v c ≡ true → (o : Option (List OwnLit)) → put_in r c ≡ o → list_any (λ g. is_within g d) (cons_option o (put_in_all r (filter (mentions v) cs))) ≡ true
        → (list_any (λ g. is_within g d) (put_in_all r (filter (mentions v) cs)) ≡ true → Found v d) → Found v d
    one m None f e k = k e
    one m (Some x) f e k =
        ⊎_elim
        (λ (w : is_within x d ≡ true). all_or_any (λ l. root_fits (λ j. list_any (same_lit j) x) (r l)) (is_of v) (Found v d) c (put_in_fits r c x f) m
        (λ l a b. record { lit = l; of = b; here = stands_passes (λ j. list_any (same_lit j) d) l x (sym (ap (root_fits (λ j. list_any (same_lit j) x)) (h l b)) ∙ a) w }))
        k
        (or_cases _ _ e)

    go : (b : Bool) → mentions v c ≡ b → list_any (λ g. is_within g d) (put_in_all r (cond b (c ∷ filter (mentions v) cs) (filter (mentions v) cs))) ≡ true
        → (list_any (λ g. is_within g d) (put_in_all r (filter (mentions v) cs)) ≡ true → Found v d) → Found v d
    go true m e k = one m (put_in r c) refl e k
    go false m e k = k e

-- a clause that has all literals of one of a `Gone` entry has one of the entry's variable
pub gone_named : (st : List Entry) → ((k : ℕ) → times_named k st ≤ 1) → (d : List OwnLit) → list_any (λ g. is_within g d) (gone_clauses st) ≡ true → Named st d
gone_named [] o d e = absurd (false≢true e)
gone_named (Fix l ∷ st) o d e =
    let n : Named st d = gone_named st (λ k. let a : cond {A = ℕ} (k == l.var.0) 1 0 + times_named k st ≤ 1 = o k in omega arith) d e in
    record { lit = n.lit; named = or_right _ _ n.named; here = n.here }
gone_named (Equal v l ∷ st) o d e =
    let n : Named st d = gone_named st (λ k. let a : cond {A = ℕ} (k == v.0) 1 0 + times_named k st ≤ 1 = o k in omega arith) d e in
    record { lit = n.lit; named = or_right _ _ n.named; here = n.here }
gone_named (Gone v cs ∷ st) o d e =
    ⊎_elim
    (λ (f : list_any (λ g. is_within g d) (put_in_all (root (bindings st)) (filter (mentions v.0) cs)) ≡ true).
    let n : Found v.0 d = found_in v.0 (root (bindings st)) (λ l i. root_unnamed (bindings st) l (none_filter (names l.var.0) (λ x. not (is_gone x)) st (alone l i))) d cs f in
    record { lit = n.lit; named = or_left _ _ n.of; here = n.here })
    (λ (f : list_any (λ g. is_within g d) (gone_clauses st) ≡ true).
    let n : Named st d = gone_named st (λ k. let a : cond {A = ℕ} (k == v.0) 1 0 + times_named k st ≤ 1 = o k in omega arith) d f in
    record { lit = n.lit; named = or_right _ _ n.named; here = n.here })
    (or_cases _ _ (sym (list_any-append (λ g. is_within g d) (put_in_all (root (bindings st)) (filter (mentions v.0) cs)) (gone_clauses st)) ∙ e))
  where
    alone : (l : OwnLit) → is_of v.0 l ≡ true → list_any (names l.var.0) st ≡ false
    alone l i =
        let a : cond {A = ℕ} (l.var.0 == v.0) 1 0 + times_named l.var.0 st ≤ 1 = o l.var.0 in
        let b : cond {A = ℕ} (l.var.0 == v.0) 1 0 ≡ 1 = one_if (l.var.0 == v.0) i in
        unnamed l.var.0 st (omega arith)

-- a state that stands heard of what it meets
pub met_heard : (s : State) (c : List Lit) → Stands s → IsMet s c → is_heard s c ≡ true
met_heard s c h m = go (list_any (is_away s) c) refl
  where
    all_here : (p : Lit → Bool) (d : List Lit) → list_any p d ≡ false → list_all (λ l. not (p l)) d ≡ true
    all_here p [] e = refl
    all_here p (l ∷ d) e = let a : (p l ≡ false) × (list_any p d ≡ false) = or_parts _ _ e in and_from _ _ (not_from_false _ a.0) (all_here p d a.1)

    inside : (o : Option (List OwnLit)) → option_passes (λ l. is_active s l.var.0) o ≡ true → is_covered (s.hard ++ gone_clauses s.stack) o ≡ true → is_covered (s.hard ++ s.learned) o ≡ true
    inside None a e = refl
    inside (Some d) a e =
        ⊎_elim
        (λ (f : list_any (λ g. is_within g d) s.hard ≡ true). list_any-append (λ g. is_within g d) s.hard s.learned ∙ or_left _ _ f)
        (λ (f : list_any (λ g. is_within g d) (gone_clauses s.stack) ≡ true).
        let n : Named s.stack d = gone_named s.stack (λ k. let x : times_named k s.stack + cond {A = ℕ} (is_active s k) 1 0 ≤ 1 = once_named s k h.places in omega arith) d f in
        let x : times_named n.lit.var.0 s.stack + cond {A = ℕ} (is_active s n.lit.var.0) 1 0 ≤ 1 = once_named s n.lit.var.0 h.places in
        let y : cond {A = ℕ} (is_active s n.lit.var.0) 1 0 ≡ 1 = one_if (is_active s n.lit.var.0) (stands_passes (λ l. is_active s l.var.0) n.lit d n.here a) in
        let z : 1 ≤ times_named n.lit.var.0 s.stack = times_any n.lit.var.0 s.stack n.named in
        absurd (omega arith))
        (or_cases _ _ (sym (list_any-append (λ g. is_within g d) s.hard (gone_clauses s.stack)) ∙ e))

    go : (b : Bool) → list_any (is_away s) c ≡ b → (b || is_covered (s.hard ++ s.learned) (own_form s c)) ≡ true
    go true e = refl
    go false e =
        let roots : list_all (λ l. not (is_lost (root s.stack (to_own s.definitions l)))) c ≡ true = all_here (is_away s) c e in
        inside (own_form s c) (own_form_active s c (record { there = m.there; roots = roots }) h.places)
        (subst (λ o. is_covered (s.hard ++ gone_clauses s.stack) o ≡ true)
        (put_in_agree (λ l. not (is_lost (root s.stack (to_own s.definitions l)))) (λ l. root (bindings s.stack) (to_own s.definitions l)) (λ l. root s.stack (to_own s.definitions l)) (λ l g. root_kept s.stack (to_own s.definitions l) (not-true _ g)) c roots)
        m.covers)
