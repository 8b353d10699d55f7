-- A state stands when clauses are learned or dropped, and when it is refuted.
use Rattle.std.proofs.Common.{◌≡◌, ℕ, Bool, true, List, [], ◌∷◌, ◌++◌, refl, sym, ◌∙◌}
use Rattle.std.proofs.lemmas.Bool.{and_from, false≢true}
use Rattle.std.proofs.lemmas.List.Folds.{list_all-append}
use Rattle.std.specs.List.{list_all, list_any}
use Rattle.sat_lits.specs.Truth.{clauses_value}
use Rattle.sat_lits.specs.declared.literal.OwnLit.{OwnLit}
use Rattle.rebuild_stack.specs.Values.{own_value, each_lit}
use Rattle.rebuild_stack.specs.PutIn.{is_clean}
use Rattle.state_laws.specs.State.{State, is_active}
use Rattle.state_laws.specs.Stands.{Stands}
use Rattle.state_laws.specs.Moves.{learning, with_hard, with_learned, refuted}
use Rattle.state_laws.specs.Conditions.{Satisfies, Learnable, IsContradicted}

-- other hard clauses that say the same
pub with_hard-Stands : (cs : List (List OwnLit)) (s : State) → ((w : ℕ → Bool) → clauses_value (own_value w) cs ≡ clauses_value (own_value w) s.hard) → each_lit (λ l. is_active s l.var.0) cs ≡ true → list_all is_clean cs ≡ true
    → Stands s → Stands (with_hard cs s)
with_hard-Stands cs s e a c h =
    record {
      sound = record { hard = λ w b. e w ∙ h.sound.hard w b; learned = h.sound.learned; stack = h.sound.stack; okay = h.sound.okay };
      complete = record { rebuilt = λ o w d. h.complete.rebuilt o w (sym (e w) ∙ d) };
      places = record { lengths = h.places.lengths; placed = record { hard = a; learned = h.places.placed.learned; one_place = h.places.placed.one_place; in_order = h.places.placed.in_order } };
      ranges = record { items = h.ranges.items; entries = h.ranges.entries; definitions = h.ranges.definitions };
      clean = record { hard = c; learned = h.clean.learned; stack = h.clean.stack };
    }

-- other learned clauses that follow from the hard and the learned ones
pub with_learned-Stands : (cs ms : List (List OwnLit)) (s : State) → ((w : ℕ → Bool) → Satisfies s w → clauses_value (own_value w) cs ≡ true) → each_lit (λ l. is_active s l.var.0) cs ≡ true → list_all is_clean cs ≡ true
    → Stands s → Stands (with_learned cs ms s)
with_learned-Stands cs ms s e a c h =
    record {
      sound = record { hard = h.sound.hard; learned = λ w b. e w (record { hard = h.sound.hard w b; learned = h.sound.learned w b }); stack = h.sound.stack; okay = h.sound.okay };
      complete = record { rebuilt = h.complete.rebuilt };
      places = record { lengths = h.places.lengths; placed = record { hard = h.places.placed.hard; learned = a; one_place = h.places.placed.one_place; in_order = h.places.placed.in_order } };
      ranges = record { items = h.ranges.items; entries = h.ranges.entries; definitions = h.ranges.definitions };
      clean = record { hard = h.clean.hard; learned = c; stack = h.clean.stack };
    }

-- a clause is learned
pub learning-Stands : (c : List OwnLit) (s : State) → Learnable s c → Stands s → Stands (learning c s)
learning-Stands c s l h =
    with_learned-Stands (s.learned ++ c ∷ []) s.marked_learned s
    (λ w a. list_all-append (list_any (own_value w)) s.learned (c ∷ []) ∙ and_from _ _ a.learned (and_from _ _ (l.follows w a) refl))
    (list_all-append (list_all (λ (x : OwnLit). is_active s x.var.0)) s.learned (c ∷ []) ∙ and_from _ _ h.places.placed.learned (and_from _ _ l.active refl))
    (list_all-append is_clean s.learned (c ∷ []) ∙ and_from _ _ h.clean.learned (and_from _ _ l.clean refl)) h

-- the hard and the learned clauses have no solution
pub refuted-Stands : (s : State) → IsContradicted s → Stands s → Stands (refuted s)
refuted-Stands s f h =
    record {
      sound = record { hard = h.sound.hard; learned = h.sound.learned; stack = h.sound.stack; okay = λ w a. absurd (f w (record { hard = h.sound.hard w a; learned = h.sound.learned w a })) };
      complete = record { rebuilt = λ o. absurd (false≢true o) };
      places = record { lengths = h.places.lengths; placed = h.places.placed };
      ranges = record { items = h.ranges.items; entries = h.ranges.entries; definitions = h.ranges.definitions };
      clean = record { hard = h.clean.hard; learned = h.clean.learned; stack = h.clean.stack };
    }
