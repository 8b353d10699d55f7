-- A state stands when an outer clause is taken, as an item or as a shared entry.
use Rattle.std.proofs.Common.{◌≡◌, ℕ, zero, suc, ◌+◌, ◌<◌, Bool, true, false, not, nat_lt, ◌&&◌, List, [], ◌∷◌, refl, sym, ap, ◌∙◌, arith, length, get_or, Option, Some, None, option_to_list}
use Rattle.std.proofs.lemmas.Bool.{and_parts, and_from, not-true, ltb-true}
use Rattle.std.proofs.lemmas.List.{get_or-map, length-map}
use Rattle.std.proofs.lemmas.List.Folds.{list_all-append, list_all-map}
use Rattle.std.specs.List.{list_all}
use Rattle.sat_lits.specs.Truth.{signed, clause_value, clauses_value}
use Rattle.sat_lits.specs.ListLaws.{all_mono, both_all, all_push}
use Rattle.sat_lits.specs.ClauseLaws.{clauses_value-append, clause_value_agree}
use Rattle.sat_lits.specs.Meaning.{is_true, satisfies, satisfies_clause}
use Rattle.sat_lits.specs.Formulas.{names_known}
use Rattle.sat_lits.specs.declared.literal.Lit.{Lit}
use Rattle.sat_lits.specs.declared.literal.OwnLit.{OwnLit}
use Rattle.sat_lits.specs.declared.formula.Item.TheVariants.{Clause}
use Rattle.sat_lits.specs.declared.shared.Shared.{Shared}
use Rattle.rebuild_stack.specs.Values.{own_value, each_lit}
use Rattle.rebuild_stack.specs.Entries.{rebuild, entry_value}
use Rattle.rebuild_stack.specs.Roots.{root, is_lost, root_value, root_passes}
use Rattle.rebuild_stack.specs.PutIn.{option_value, option_passes, option_clean, is_clean}
use Rattle.rebuild_stack.specs.RootLaws.{rebuild_root, holds_root}
use Rattle.rebuild_stack.specs.OrderLaws.{root_active}
use Rattle.rebuild_stack.specs.PutInLaws.{put_in_value, put_in_passes, put_in_clean}
use Rattle.rebuild_stack.specs.declared.entry.Root.{Root}
use Rattle.state_laws.specs.declared.definition.Definition.{Definition}
use Rattle.state_laws.specs.State.{State, is_active, outers_from, outer_count, outer_part, to_own, satisfies_entries}
use Rattle.state_laws.specs.Stands.{Accords, IsSound, IsPlaced, Placed, Stands}
use Rattle.state_laws.specs.Moves.{own_form, holding, taken, imported}
use Rattle.state_laws.specs.Conditions.{Takable}
use Rattle.state_laws.specs.PlaceLaws.{somewhere}

-- an outer literal has the value of its own one
pub outer_own : (ds : List (Option Definition)) (w : ℕ → Bool) (l : Lit) → l.var.0 < outer_count ds → is_true (outer_part ds w) l ≡ own_value w (to_own ds l)
outer_own ds w l h = ap (signed l.negative) (get_or-map w (outers_from 0 ds) l.var.0 0 false h)

-- the own number of an outer variable is that of an own variable
pub outers_below : (n : ℕ) (ds : List (Option Definition)) (j : ℕ) → j < length (outers_from n ds) → get_or (outers_from n ds) j 0 < n + length ds
outers_below n [] j h = absurd (omega arith)
outers_below n (None ∷ ds) zero h = omega arith
outers_below n (None ∷ ds) (suc j) h =
    let a : j < length (outers_from (suc n) ds) = omega arith in
    let b : get_or (outers_from (suc n) ds) j 0 < suc n + length ds = outers_below (suc n) ds j a in
    omega arith
outers_below n (Some d ∷ ds) j h = let b : get_or (outers_from (suc n) ds) j 0 < suc n + length ds = outers_below (suc n) ds j h in omega arith

option_list_value : (w : ℕ → Bool) (o : Option (List OwnLit)) → clauses_value (own_value w) (option_to_list o) ≡ option_value w o
option_list_value w None = refl
option_list_value w (Some c) = go (clause_value (own_value w) c)
  where
    go : (b : Bool) → (b && true) ≡ b
    go true = refl
    go false = refl

-- what an outer literal comes to in own literals
abbrev came_to : State → Lit → Root
came_to s l = root s.stack (to_own s.definitions l)

-- the hard clauses with one more outer clause have the value of both
holding_value : (s : State) (c : List Lit) (w : ℕ → Bool) → clauses_value (own_value w) (holding c s).hard ≡ (clauses_value (own_value w) s.hard && clause_value (λ l. root_value w (came_to s l)) c)
holding_value s c w =
    clauses_value-append (own_value w) s.hard (option_to_list (own_form s c))
    ∙ ap (λ z. clauses_value (own_value w) s.hard && z) (option_list_value w (own_form s c) ∙ put_in_value w (λ l. root s.stack (to_own s.definitions l)) c)

abbrev known : State → Lit → Bool
known s l = nat_lt l.var.0 (outer_count s.definitions)

takable_known : (s : State) (c : List Lit) → Takable s c → list_all (known s) c ≡ true
takable_known s c t = sym (list_all-map (λ n. nat_lt n (outer_count s.definitions)) (λ (l : Lit). l.var.0) c) ∙ t.there

abbrev fit : State → Lit → Bool
fit s l = known s l && not (is_lost (came_to s l))

all_fit : (s : State) (c : List Lit) → Takable s c → list_all (fit s) c ≡ true
all_fit s c t = both_all (known s) (λ l. not (is_lost (root s.stack (to_own s.definitions l)))) (λ l. known s l && not (is_lost (root s.stack (to_own s.definitions l)))) (λ l a b. and_from _ _ a b) c (takable_known s c t) t.roots

-- in values that the stack holds of, the outer clause has the value of what its literals come to
held_holds : (s : State) (c : List Lit) (w : ℕ → Bool) → Takable s c → list_all (entry_value w) s.stack ≡ true → clause_value (λ l. root_value w (came_to s l)) c ≡ satisfies_clause (outer_part s.definitions w) c
held_holds s c w t h = clause_value_agree (fit s) (λ l. root_value w (came_to s l)) (is_true (outer_part s.definitions w)) each c (all_fit s c t)
  where
    each : (l : Lit) → fit s l ≡ true → root_value w (came_to s l) ≡ is_true (outer_part s.definitions w) l
    each l e =
        let p : (nat_lt l.var.0 (outer_count s.definitions) ≡ true) × (not (is_lost (root s.stack (to_own s.definitions l))) ≡ true) = and_parts _ _ e in
        sym (outer_own s.definitions w l (ltb-true _ _ p.0) ∙ holds_root s.stack (to_own s.definitions l) w h (not-true _ p.1))

-- in rebuilt values too
held_rebuilt : (s : State) (c : List Lit) (w : ℕ → Bool) → Takable s c → clause_value (λ l. root_value w (came_to s l)) c ≡ satisfies_clause (outer_part s.definitions (rebuild s.stack w)) c
held_rebuilt s c w t = clause_value_agree (fit s) (λ l. root_value w (came_to s l)) (is_true (outer_part s.definitions (rebuild s.stack w))) each c (all_fit s c t)
  where
    each : (l : Lit) → fit s l ≡ true → root_value w (came_to s l) ≡ is_true (outer_part s.definitions (rebuild s.stack w)) l
    each l e =
        let p : (nat_lt l.var.0 (outer_count s.definitions) ≡ true) × (not (is_lost (root s.stack (to_own s.definitions l))) ≡ true) = and_parts _ _ e in
        sym (outer_own s.definitions (rebuild s.stack w) l (ltb-true _ _ p.0) ∙ rebuild_root s.stack (to_own s.definitions l) w (not-true _ p.1))

before_taken : (s : State) (c : List Lit) (w : ℕ → Bool) → Accords (taken c s) w → (Accords s w) × (satisfies_clause (outer_part s.definitions w) c ≡ true)
before_taken s c w a =
    let p : (list_all (satisfies (outer_part s.definitions w)) s.items ≡ true) × ((satisfies_clause (outer_part s.definitions w) c && true) ≡ true) =
    and_parts _ _ (sym (list_all-append (satisfies (outer_part s.definitions w)) s.items (Clause c ∷ [])) ∙ a.items) in
    let q : (satisfies_clause (outer_part s.definitions w) c ≡ true) × (true ≡ true) = and_parts _ _ p.1 in
    (record { defined = a.defined; items = p.0; entries = a.entries }, q.0)

before_imported : (s : State) (x : Shared) (w : ℕ → Bool) → Accords (imported x s) w → (Accords s w) × (satisfies_clause (outer_part s.definitions w) x.clause ≡ true)
before_imported s x w a =
    let p : (satisfies_entries (outer_part s.definitions w) s.entries ≡ true) × ((satisfies_clause (outer_part s.definitions w) x.clause && true) ≡ true) =
    and_parts _ _ (sym (list_all-append (λ (e : Shared). satisfies_clause (outer_part s.definitions w) e.clause) s.entries (x ∷ [])) ∙ a.entries) in
    let q : (satisfies_clause (outer_part s.definitions w) x.clause ≡ true) × (true ≡ true) = and_parts _ _ p.1 in
    (record { defined = a.defined; items = a.items; entries = p.0 }, q.0)

holding_holds : (s : State) (c : List Lit) (w : ℕ → Bool) → Takable s c → IsSound s → Accords s w → satisfies_clause (outer_part s.definitions w) c ≡ true → clauses_value (own_value w) (holding c s).hard ≡ true
holding_holds s c w t h a e = holding_value s c w ∙ and_from _ _ (h.hard w a) (held_holds s c w t (h.stack w a) ∙ e)

-- what the clause becomes is over active variables
pub own_form_active : (s : State) (c : List Lit) → Takable s c → IsPlaced s → option_passes (λ l. is_active s l.var.0) (own_form s c) ≡ true
own_form_active s c t h =
    put_in_passes (λ l. is_active s l.var.0) (λ l. root s.stack (to_own s.definitions l)) c
    (all_mono (known s) (λ l. root_passes (λ k. is_active s k.var.0) (root s.stack (to_own s.definitions l)))
    (λ l e. root_active (is_active s) s.stack (to_own s.definitions l) h.placed.in_order
    (somewhere s (get_or (outers_from 0 s.definitions) l.var.0 0) h (let a : get_or (outers_from 0 s.definitions) l.var.0 0 < 0 + length s.definitions = outers_below 0 s.definitions l.var.0 (ltb-true _ _ e) in omega arith))) c (takable_known s c t))

-- it is clean
pub own_form_clean : (s : State) (c : List Lit) → option_clean (own_form s c) ≡ true
own_form_clean s c = put_in_clean (λ l. root s.stack (to_own s.definitions l)) c

listed_passes : (p : OwnLit → Bool) (o : Option (List OwnLit)) → option_passes p o ≡ true → each_lit p (option_to_list o) ≡ true
listed_passes p None e = refl
listed_passes p (Some d) e = and_from _ _ e refl

listed_clean : (o : Option (List OwnLit)) → option_clean o ≡ true → list_all is_clean (option_to_list o) ≡ true
listed_clean None e = refl
listed_clean (Some d) e = and_from _ _ e refl

holding_Placed : (s : State) (c : List Lit) → Takable s c → IsPlaced s → Placed (is_active s) (length s.definitions) (holding c s).hard s.learned s.stack
holding_Placed s c t h =
    record {
      hard = list_all-append (list_all (λ l. is_active s l.var.0)) s.hard (option_to_list (own_form s c)) ∙ and_from _ _ h.placed.hard (listed_passes (λ l. is_active s l.var.0) (own_form s c) (own_form_active s c t h));
      learned = h.placed.learned;
      one_place = h.placed.one_place;
      in_order = h.placed.in_order;
    }

holding_clean : (s : State) (c : List Lit) → list_all is_clean s.hard ≡ true → list_all is_clean (holding c s).hard ≡ true
holding_clean s c e = list_all-append is_clean s.hard (option_to_list (own_form s c)) ∙ and_from _ _ e (listed_clean (own_form s c) (own_form_clean s c))

-- a clause is taken as an item
pub taken-Stands : (c : List Lit) (s : State) → Takable s c → Stands s → Stands (taken c s)
taken-Stands c s t h =
    record {
      sound = record {
        hard = λ w a. holding_holds s c w t h.sound (before_taken s c w a).0 (before_taken s c w a).1;
        learned = λ w a. h.sound.learned w (before_taken s c w a).0;
        stack = λ w a. h.sound.stack w (before_taken s c w a).0;
        okay = λ w a. h.sound.okay w (before_taken s c w a).0;
      };
      complete = record {
        rebuilt = λ o w e.
            let p : (clauses_value (own_value w) s.hard ≡ true) × (clause_value (λ l. root_value w (came_to s l)) c ≡ true) = and_parts _ _ (sym (holding_value s c w) ∙ e) in
            record {
              whole = length-map (outers_from 0 s.definitions) (rebuild s.stack w);
              holds = all_push (satisfies (outer_part s.definitions (rebuild s.stack w))) s.items (Clause c) (h.complete.rebuilt o w p.0).holds (sym (held_rebuilt s c w t) ∙ p.1);
            };
      };
      places = record { lengths = h.places.lengths; placed = holding_Placed s c t h.places };
      ranges = record { items = all_push (names_known (outer_count s.definitions)) s.items (Clause c) h.ranges.items t.there; entries = h.ranges.entries; definitions = h.ranges.definitions };
      clean = record { hard = holding_clean s c h.clean.hard; learned = h.clean.learned; stack = h.clean.stack };
    }

-- a shared entry is taken
pub imported-Stands : (x : Shared) (s : State) → Takable s x.clause → Stands s → Stands (imported x s)
imported-Stands x s t h =
    record {
      sound = record {
        hard = λ w a. holding_holds s x.clause w t h.sound (before_imported s x w a).0 (before_imported s x w a).1;
        learned = λ w a. h.sound.learned w (before_imported s x w a).0;
        stack = λ w a. h.sound.stack w (before_imported s x w a).0;
        okay = λ w a. h.sound.okay w (before_imported s x w a).0;
      };
      complete = record {
        rebuilt = λ o w e.
            let p : (clauses_value (own_value w) s.hard ≡ true) × (clause_value (λ l. root_value w (came_to s l)) x.clause ≡ true) = and_parts _ _ (sym (holding_value s x.clause w) ∙ e) in
            h.complete.rebuilt o w p.0;
      };
      places = record { lengths = h.places.lengths; placed = holding_Placed s x.clause t h.places };
      ranges = record { items = h.ranges.items; entries = all_push (λ (e : Shared). names_known (outer_count s.definitions) (Clause e.clause)) s.entries x h.ranges.entries t.there; definitions = h.ranges.definitions };
      clean = record { hard = holding_clean s x.clause h.clean.hard; learned = h.clean.learned; stack = h.clean.stack };
    }
