-- A state stands when an entry that fixes or replaces a variable is put into it.
use Rattle.std.proofs.Common.{◌≡◌, ℕ, Bool, true, false, not, ◌&&◌, List, [], ◌∷◌, refl, sym, ap, ap₂, subst, ◌∙◌, filter, length, ◌||◌, cond}
use Rattle.std.proofs.lemmas.Bool.{and_from, or_parts, true≢false}
use Rattle.std.proofs.lemmas.List.Folds.{list_all-append}
use Rattle.std.specs.List.{list_any, list_all}
use Rattle.sat_lits.specs.Truth.{signed, clause_value, clauses_value, with_value}
use Rattle.sat_lits.specs.ListLaws.{all_same, any_same, all_filter}
use Rattle.sat_lits.specs.ClauseLaws.{clauses_value-append, clauses_value-filter, with_value_other}
use Rattle.sat_lits.specs.Meaning.{IsModel}
use Rattle.sat_lits.specs.declared.literal.OwnLit.{OwnLit}
use Rattle.rebuild_stack.specs.Values.{own_value, each_lit}
use Rattle.rebuild_stack.specs.Entries.{undo, entry_value, named, is_gone, others_pass}
use Rattle.rebuild_stack.specs.Roots.{root, root_value, root_passes}
use Rattle.rebuild_stack.specs.PutIn.{put_in_all, is_clean}
use Rattle.rebuild_stack.specs.CommonLaws.{each_mono}
use Rattle.rebuild_stack.specs.RebuildLaws.{rebuild-append}
use Rattle.rebuild_stack.specs.RootLaws.{rebuild_root, holds_root, never_lost}
use Rattle.rebuild_stack.specs.PutInLaws.{put_in_all_value, put_in_all_passes, put_in_all_clean}
use Rattle.rebuild_stack.specs.declared.entry.Entry.{Entry}
use Rattle.rebuild_stack.specs.declared.entry.Entry.TheVariants.{Fix, Equal, Gone}
use Rattle.state_laws.specs.State.{State, is_active, outer_part, problem_of}
use Rattle.state_laws.specs.Stands.{Accords, Stands, is_clean_entry}
use Rattle.state_laws.specs.Resolution.{is_of, mentions}
use Rattle.state_laws.specs.Moves.{put_through, put_into}
use Rattle.state_laws.specs.Conditions.{Pushable, EntryFollows}
use Rattle.state_laws.specs.PlaceLaws.{placed_push, set_places, active_in, root_step, unmentioned_all}

and_comm : (a b : Bool) → (a && b) ≡ (b && a)
and_comm true true = refl
and_comm true false = refl
and_comm false true = refl
and_comm false false = refl

-- a clause without a variable does not see its value
pub clause_elsewhere : (w : ℕ → Bool) (v : ℕ) (x : Bool) (c : List OwnLit) → mentions v c ≡ false → clause_value (own_value (with_value w v x)) c ≡ clause_value (own_value w) c
clause_elsewhere w v x [] e = refl
clause_elsewhere w v x (l ∷ c) e =
    let p : (is_of v l ≡ false) × (mentions v c ≡ false) = or_parts _ _ e in
    ap₂ ◌||◌ (ap (signed l.negative) (with_value_other w v x l.var.0 p.0)) (clause_elsewhere w v x c p.1)

others_step : (f g : List OwnLit → Bool) (m : Bool) (c : List OwnLit) (cs : List (List OwnLit)) → (m ≡ false → f c ≡ g c) → list_all f cs ≡ list_all g cs
    → list_all f (cond (not m) (c ∷ cs) cs) ≡ list_all g (cond (not m) (c ∷ cs) cs)
others_step f g true c cs p e = e
others_step f g false c cs p e = ap₂ ◌&&◌ (p refl) e

-- nor do all clauses without it
pub clauses_elsewhere : (w : ℕ → Bool) (v : ℕ) (x : Bool) (cs : List (List OwnLit)) → clauses_value (own_value (with_value w v x)) (filter (λ c. not (mentions v c)) cs) ≡ clauses_value (own_value w) (filter (λ c. not (mentions v c)) cs)
clauses_elsewhere w v x [] = refl
clauses_elsewhere w v x (c ∷ cs) =
    others_step (list_any (own_value (with_value w v x))) (list_any (own_value w)) (mentions v c) c (filter (λ d. not (mentions v d)) cs) (clause_elsewhere w v x c) (clauses_elsewhere w v x cs)

unseen : (e : Entry) (w : ℕ → Bool) (cs : List (List OwnLit)) → clauses_value (own_value (undo e w)) (filter (λ c. not (mentions (named e) c)) cs) ≡ clauses_value (own_value w) (filter (λ c. not (mentions (named e) c)) cs)
unseen (Fix l) w cs = clauses_elsewhere w l.var.0 _ cs
unseen (Equal v l) w cs = clauses_elsewhere w v.0 _ cs
unseen (Gone v ds) w cs = clauses_elsewhere w v.0 _ cs

clauses_same : (p q : OwnLit → Bool) → ((l : OwnLit) → p l ≡ q l) → (cs : List (List OwnLit)) → clauses_value p cs ≡ clauses_value q cs
clauses_same p q h cs = all_same (list_any p) (list_any q) (any_same p q h) cs

-- clauses that an entry is put into say of values what they said of the values with the entry undone
put_value : (e : Entry) → is_gone e ≡ false → (w : ℕ → Bool) (cs : List (List OwnLit)) → clauses_value (own_value w) (put_in_all (root (e ∷ [])) cs) ≡ clauses_value (own_value (undo e w)) cs
put_value e g w cs =
    put_in_all_value w (root (e ∷ [])) cs
    ∙ clauses_same (λ l. root_value w (root (e ∷ []) l)) (own_value (undo e w)) (λ l. sym (rebuild_root (e ∷ []) l w (never_lost e g l))) cs

-- where the entry holds, they say the same
put_holds : (e : Entry) → is_gone e ≡ false → (w : ℕ → Bool) → entry_value w e ≡ true → (cs : List (List OwnLit)) → clauses_value (own_value w) (put_in_all (root (e ∷ [])) cs) ≡ clauses_value (own_value w) cs
put_holds e g w h cs =
    put_in_all_value w (root (e ∷ [])) cs
    ∙ clauses_same (λ l. root_value w (root (e ∷ []) l)) (own_value w) (λ l. sym (holds_root (e ∷ []) l w (and_from _ _ h refl) (never_lost e g l))) cs

-- the same where clauses without the variable keep their places
pub put_through_value : (e : Entry) → is_gone e ≡ false → (w : ℕ → Bool) (cs : List (List OwnLit)) → clauses_value (own_value w) (put_through e cs) ≡ clauses_value (own_value (undo e w)) cs
put_through_value e g w cs =
    clauses_value-append (own_value w) (filter (λ c. not (mentions (named e) c)) cs) (put_in_all (root (e ∷ [])) (filter (mentions (named e)) cs))
    ∙ (ap₂ ◌&&◌ (sym (unseen e w cs)) (put_value e g w (filter (mentions (named e)) cs))
    ∙ (and_comm (clauses_value (own_value (undo e w)) (filter (λ c. not (mentions (named e) c)) cs)) (clauses_value (own_value (undo e w)) (filter (mentions (named e)) cs)) ∙ sym (clauses_value-filter (own_value (undo e w)) (mentions (named e)) cs)))

-- and where the entry holds
pub put_through_holds : (e : Entry) → is_gone e ≡ false → (w : ℕ → Bool) → entry_value w e ≡ true → (cs : List (List OwnLit)) → clauses_value (own_value w) (put_through e cs) ≡ clauses_value (own_value w) cs
put_through_holds e g w h cs =
    clauses_value-append (own_value w) (filter (λ c. not (mentions (named e) c)) cs) (put_in_all (root (e ∷ [])) (filter (mentions (named e)) cs))
    ∙ (ap (λ z. clauses_value (own_value w) (filter (λ c. not (mentions (named e) c)) cs) && z) (put_holds e g w h (filter (mentions (named e)) cs))
    ∙ (and_comm (clauses_value (own_value w) (filter (λ c. not (mentions (named e) c)) cs)) (clauses_value (own_value w) (filter (mentions (named e)) cs)) ∙ sym (clauses_value-filter (own_value w) (mentions (named e)) cs)))

-- their literals are active without the entry's variable
put_through_active : (active : ℕ → Bool) (e : Entry) → is_gone e ≡ false → others_pass (with_value active (named e) false) e ≡ true → (cs : List (List OwnLit))
    → each_lit (λ l. active l.var.0) cs ≡ true → each_lit (λ l. with_value active (named e) false l.var.0) (put_through e cs) ≡ true
put_through_active active e g o cs f =
    list_all-append (list_all (λ l. with_value active (named e) false l.var.0)) (filter (λ c. not (mentions (named e) c)) cs) (put_in_all (root (e ∷ [])) (filter (mentions (named e)) cs))
    ∙ and_from _ _ (unmentioned_all active (named e) cs f)
    (put_in_all_passes (λ l. with_value active (named e) false l.var.0) (root (e ∷ [])) (filter (mentions (named e)) cs)
    (each_mono (λ l. active l.var.0) (λ l. root_passes (λ k. with_value active (named e) false k.var.0) (root (e ∷ []) l)) (root_step active e g o) (filter (mentions (named e)) cs)
    (all_filter (list_all (λ (l : OwnLit). active l.var.0)) (mentions (named e)) (list_all (λ (l : OwnLit). active l.var.0)) (λ c b m. b) cs f)))

-- they are clean
pub put_through_clean : (e : Entry) (cs : List (List OwnLit)) → list_all is_clean cs ≡ true → list_all is_clean (put_through e cs) ≡ true
put_through_clean e cs f =
    list_all-append is_clean (filter (λ c. not (mentions (named e) c)) cs) (put_in_all (root (e ∷ [])) (filter (mentions (named e)) cs))
    ∙ and_from _ _ (all_filter is_clean (λ c. not (mentions (named e) c)) is_clean (λ c b m. b) cs f) (put_in_all_clean (root (e ∷ [])) (filter (mentions (named e)) cs))

kept_is_clean : (e : Entry) → is_gone e ≡ false → is_clean_entry e ≡ true
kept_is_clean (Fix l) g = refl
kept_is_clean (Equal v l) g = refl
kept_is_clean (Gone v cs) g = absurd (true≢false g)

-- the state stands when the entry is put into it
pub put_into-Stands : (e : Entry) (s : State) → Pushable s e → EntryFollows s e → Stands s → Stands (put_into e s)
put_into-Stands e s p f h =
    record {
      sound = record {
        hard = λ w a. put_through_holds e p.kept w (holds w a) s.hard ∙ h.sound.hard w a;
        learned = λ w a. put_through_holds e p.kept w (holds w a) s.learned ∙ h.sound.learned w a;
        stack = λ w a. list_all-append (entry_value w) s.stack (e ∷ []) ∙ and_from _ _ (h.sound.stack w a) (and_from _ _ (holds w a) refl);
        okay = h.sound.okay;
      };
      complete = record {
        rebuilt = λ o w c. subst (λ (v : ℕ → Bool). IsModel (problem_of s) (outer_part s.definitions v)) (sym (rebuild-append s.stack (e ∷ []) w))
            (h.complete.rebuilt o (undo e w) (sym (put_through_value e p.kept w s.hard) ∙ c));
      };
      places = set_places s (put_into e s) (named e) false (active_in s.active (named e) p.active) refl refl h.places.lengths
          (placed_push (is_active s) (length s.definitions) s.hard s.learned (put_through e s.hard) (put_through e s.learned) s.stack e p.active p.others
          (put_through_active (is_active s) e p.kept p.others s.hard h.places.placed.hard) (put_through_active (is_active s) e p.kept p.others s.learned h.places.placed.learned) h.places.placed);
      ranges = record { items = h.ranges.items; entries = h.ranges.entries; definitions = h.ranges.definitions };
      clean = record {
        hard = put_through_clean e s.hard h.clean.hard;
        learned = put_through_clean e s.learned h.clean.learned;
        stack = list_all-append is_clean_entry s.stack (e ∷ []) ∙ and_from _ _ h.clean.stack (and_from _ _ (kept_is_clean e p.kept) refl);
      };
    }
  where
    holds : (w : ℕ → Bool) → Accords s w → entry_value w e ≡ true
    holds w a = f w (record { hard = h.sound.hard w a; learned = h.sound.learned w a })
