-- The way back after a conflict, with the learned clause.
use Rattle.std.proofs.Common.{◌≡◌, ◌<◌, ◌≤◌, ◌+◌, ◌^◌, inl, inr, ℕ, zero, suc, Bool, true, false, eqb, leb, ltb, cond, min, List, [], ◌∷◌, ◌++◌, length, map, take, get_or, Option, Some, None, option_to_list, refl, sym, ap, ap₂, subst, ◌∙◌, arith, length-append, ltb-true}
use Rattle.std.specs.Option.{is_some}
use Rattle.std.proofs.lemmas.Bool.{and_parts, and_from}
use Rattle.std.proofs.lemmas.Option.{none-some}
use Rattle.std.proofs.lemmas.List.{append-nil, map-append}
use Rattle.std.specs.List.{list_all}
use Rattle.sat_lits.specs.ListLaws.{all_filter, all_push}
use Rattle.sat_lits.specs.declared.literal.InLit.{InLit}
use Rattle.sat_lits.specs.declared.literal.ClauseId.{ClauseId}
use Rattle.trail.specs.declared.trail.Step.{Step}
use Rattle.trail.specs.Trail.{Assignment, shaped, level_of, back_to, lits_of, unset_in}
use Rattle.trail.specs.Laws.{shaped_step-assign, back_shaped, level_of-back_to, lits_of-back_to, lits_of-newest}
use Rattle.clause_store.specs.Store.{Held, IsKept, held_as, clause_at, hard_of, learned_of}
use Rattle.propagate.specs.Units.{gives}
use Rattle.propagate.specs.Reasons.{names, passes}
use Rattle.propagate.specs.Watching.{Watching, IsFront, taken_as, taken_at, is_taken}
use Rattle.propagate.specs.declared.watches.Taken.{Taken}
use Rattle.analyze.specs.Counting.{saturated}
use Rattle.analyze.specs.LearnedClauses.{IsLearned}
use Rattle.analyze.specs.FalsityLaws.{gone_unset}
use Rattle.analyze.specs.QuietLaws.{conflict_keeps, learned_unit, learned_new}
use Rattle.search_laws.specs.TrailNumber.{trail_number}
use Rattle.search_laws.specs.NumberLaws.{conflict_raises}
use Rattle.search_laws.specs.NumberLaws.{bounded_conflict}
use Rattle.pick_order.specs.Orders.{Order, HasPassedSet}
use Rattle.analyze.specs.declared.analyzer.Analyzer.{Analyzer}
use Rattle.state_laws.specs.Kernel.{Kernel}
use Rattle.search.specs.declared.work.Work.{Work}
use Rattle.search.specs.InUse.{in_use, is_among, lits_among, clauses_among, steps_among}
use Rattle.search.specs.Ordering.{HasSame}
use Rattle.search.specs.Learning.{HasAdded, HasLearned}
use Rattle.search.specs.Searching.{IsSearching, AtMove, EndsShort, gone_back}
use Rattle.search.specs.Assumed.{positive}
use Rattle.search.proofs.Assuming.{assumed_jump}
use Rattle.search.proofs.Orders.{same_just}
use Rattle.search.proofs.Passing.{passed_more}
use Rattle.search.proofs.Using.{among_below}
use Rattle.search.proofs.Conflicting.{learned_among, found_last, not_before, held_within, hard_last, learned_last}
use Rattle.propagate.specs.Laws.{back_reasoned, reasoned_more}

-- the step of the learned literal
abbrev pub learned_step : InLit → ℕ → ℕ → Step
learned_step first back id = record { lit = first; level = back; reason = Some (record { 0 = id }) }

pub searching_jump : (held : List Held) (numbers : List ℕ) (conflicts : ℕ) (t : List Step) (lits : List InLit) (back given id : ℕ) → IsSearching held numbers conflicts t → (l : IsLearned held t lits back) → list_all (λ h. ltb h.id given) held ≡ true → given ≤ id
    → IsSearching (held ++ held_as id true lits ∷ []) numbers (conflicts + 1) (learned_step l.first back id ∷ back_to back t)
searching_jump held numbers conflicts t lits back given id i l b g =
    let e : shaped (learned_step l.first back id ∷ back_to back t) ≡ true = and_from _ _ (shaped_step-assign (back_to back t) (learned_step l.first back id) (gone_unset t (level_of t) back l.first i.sound l.first_false l.below) level) (back_shaped t back i.sound) in
    let a : steps_among numbers (learned_step l.first back id ∷ back_to back t) ≡ true =
    and_from _ _ (and_parts _ _ (subst (λ (ls : List InLit). lits_among numbers ls ≡ true) l.parts (learned_among numbers held t lits back i.active l))).0
    (all_filter (λ (s : Step). is_among numbers s.lit.var.0) (λ (s : Step). leb s.level back) (λ (s : Step). is_among numbers s.lit.var.0) (λ s x y. x) t i.active) in
    record {
      sound = e;
      reasons = and_from _ _ reason (reasoned_more held (held_as id true lits) (back_to back t) (back_reasoned held t back i.sound i.reasons));
      active = a;
      quiet = conflict_keeps held t (held_as id true lits) back (learned_step l.first back id) i.sound l refl i.quiet;
      bound = bounded_conflict (length numbers) back (learned_step l.first back id) t conflicts i.sound l.below refl i.bound;
    }
  where
    level : back ≡ level_of (back_to back t)
    level = let z : level_of (back_to back t) ≡ min back (level_of t) = level_of-back_to t back i.sound in let y : back < level_of t = l.below in omega arith

    reason : names (held ++ held_as id true lits ∷ []) (record { 0 = id }) (gives (back_to back t) l.first) ≡ true
    reason =
        let p : (unset_in (back_to back t) l.first ≡ true) × (gives (back_to back t) l.first lits ≡ true) = and_parts _ _ (learned_unit held t lits back i.sound l) in
        ap (passes (gives (back_to back t) l.first)) (found_last held given (held_as id true lits) b g) ∙ p.1

pub jump_rises : (held : List Held) (numbers : List ℕ) (conflicts : ℕ) (t : List Step) (lits : List InLit) (back id : ℕ) → IsSearching held numbers conflicts t → (l : IsLearned held t lits back)
    → trail_number (length numbers) t < trail_number (length numbers) (learned_step l.first back id ∷ back_to back t)
jump_rises held numbers conflicts t lits back id i l = conflict_raises (length numbers) back (learned_step l.first back id) t i.sound i.bound.fits l.below refl

-- a front of a front, behind which other elements come
front_taken : {X : Type 0} (m : ℕ) (done lits more : List X) → take (length done) lits ≡ done → take (length (take m done)) (take m lits ++ more) ≡ take m done
front_taken zero done lits more f = refl
front_taken (suc m) [] lits more f = refl
front_taken (suc m) (d ∷ ds) [] more f = cc
front_taken {X = X} (suc m) (d ∷ ds) (l ∷ ls) more f =
    let g : l ≡ d = cc in
    let h : take (length ds) ls ≡ ds = cc in
    ap₂ (λ (x : X) (xs : List X). x ∷ xs) g (front_taken m ds ls more h)

-- what was done with below the level stays done with
front_back : (done : List InLit) (t : List Step) (s : Step) (back : ℕ) → shaped t ≡ true → IsFront done (lits_of t) → IsFront (take (length (back_to back t)) done) (lits_of (s ∷ back_to back t))
front_back done t s back e f =
    ap (take (length (take (length (back_to back t)) done))) (lits_of-newest (back_to back t) s ∙ ap (λ (z : List InLit). z ++ s.lit ∷ []) (lits_of-back_to t back e))
    ∙ front_taken (length (back_to back t)) done (lits_of t) (s.lit ∷ []) f

-- a clause that was added is live, has literals in use, and was not taken over before
pub added_live : (k n : Kernel) (lits : List InLit) (id : ClauseId) → IsKept k.store → HasAdded k n lits id.0 → clause_at n.store.held id.0 ≡ Some (held_as id.0 true lits)
added_live k n lits id s a = ap (λ (h : List Held). clause_at h id.0) a.held ∙ found_last k.store.held k.store.given (held_as id.0 true lits) s.below a.fresh

not_taken : (held : List Held) (id : ℕ) → clause_at held id ≡ None → is_taken (map taken_as held) id ≡ false
not_taken [] id e = refl
not_taken (h ∷ rest) id e = go (eqb h.id id) e (λ (f : clause_at rest id ≡ None). not_taken rest id f)
  where
    go : (b : Bool) → cond b (Some h) (clause_at rest id) ≡ None → (clause_at rest id ≡ None → is_taken (map taken_as rest) id ≡ false) → is_some (cond b (Some (taken_as h)) (taken_at (map taken_as rest) id)) ≡ false
    go true f more = absurd (none-some h (sym f))
    go false f more = more f

pub added_fresh : (k n : Kernel) (w : Work) (lits : List InLit) (id : ℕ) → IsKept k.store → AtMove k w → HasAdded k n lits id → is_taken w.watches.taken id ≡ false
added_fresh k n w lits id s m a = ap (λ (xs : List Taken). is_taken xs id) m.tables.taken ∙ not_taken k.store.held id (not_before k.store.held k.store.given id s.below a.fresh)

-- a conflict less than there are clauses was counted, so one more still has 64 bits
pub count_exact : (k n : Kernel) (w : Work) (lits : List InLit) (id : ℕ) → IsKept k.store → AtMove k w → 0 < length k.store.held → HasAdded k n lits id → id < 2 ^ 64 → saturated w.conflicts 1 ≡ w.conflicts + 1
count_exact k n w lits id s m h a b =
    let x : w.conflicts < length k.store.held = m.fewer h in
    let y : length k.store.held ≤ k.store.given = held_within k.store s in
    let z : k.store.given ≤ id = a.fresh in
    omega arith

-- nothing was learned
pub learned_none : (k n : Kernel) → n ≡ k → HasLearned k n 0
learned_none k n e = subst (λ (z : Kernel). HasLearned k z 0) (sym e)
    (record { news = []; same = refl; held = sym (append-nil k.store.held); hard = refl; learned = sym (append-nil _); new = refl; counted = refl; marked = refl })

-- one clause was
pub learned_one : (k n : Kernel) (w : Work) (lits : List InLit) (back id : ℕ) → AtMove k w → IsLearned k.store.held w.trail.steps lits back → HasAdded k n lits id → HasLearned k n 1
learned_one k n w lits back id m l a =
    record {
      news = held_as id true lits ∷ [];
      same = a.same;
      held = a.held;
      hard = ap hard_of a.held ∙ hard_last k.store.held (held_as id true lits) refl;
      learned = ap learned_of a.held ∙ learned_last k.store.held (held_as id true lits) refl;
      new = and_from _ _ (learned_new k.store.held w.trail.steps lits back m.searching.sound m.searching.quiet l) refl;
      counted = refl;
      marked = a.marked;
    }

-- the search after a conflict
abbrev pub after_conflict : Work → Kernel → InLit → ℕ → ℕ → ℕ → Order → Analyzer → Work
after_conflict w n first back id conflicts order analyzer =
    record {
      trail = record { steps = learned_step first back id ∷ back_to back w.trail.steps; reserved = w.trail.reserved };
      watches = record { taken = w.watches.taken ++ map taken_as (option_to_list (clause_at n.store.held id)); done = take (length (back_to back w.trail.steps)) w.watches.done; variables = w.watches.variables };
      order = order;
      analyzer = analyzer;
      assumptions = w.assumptions;
      positions = take back w.positions;
      next = get_or w.positions back w.next;
      conflicts = conflicts;
    }

-- all that holds between two moves holds after a conflict
pub jumped : (k n : Kernel) (w : Work) (lits : List InLit) (back id conflicts : ℕ) (order : Order) (analyzer : Analyzer) → AtMove k w → IsKept k.store → (l : IsLearned k.store.held w.trail.steps lits back) → HasAdded k n lits id → HasSame w.order.known order.known → HasPassedSet order (back_to back w.trail.steps) → conflicts ≡ w.conflicts + 1 → 0 < length k.store.held
    → AtMove n (after_conflict w n l.first back id conflicts order analyzer)
jumped k n w lits back id conflicts order analyzer m s l a o p c z =
    subst (λ (x : Kernel). AtMove x (after_conflict w n l.first back id conflicts order analyzer)) (sym a.same)
    (record {
      tables = record {
        reserved = m.tables.reserved;
        variables = m.tables.variables;
        order = same_just w.order.known order.known (in_use k.maps) o m.tables.order;
        passed = passed_more order (learned_step l.first back id) (back_to back w.trail.steps) p;
        taken = taken;
        done = front_back w.watches.done w.trail.steps (learned_step l.first back id) back m.searching.sound m.tables.done;
        clauses = ap (clauses_among (in_use k.maps)) a.held ∙ all_push (λ (h : Held). lits_among (in_use k.maps) h.lits) k.store.held (held_as id true lits) m.tables.clauses (learned_among (in_use k.maps) k.store.held w.trail.steps lits back m.searching.active l);
        assumptions = m.tables.assumptions;
        few = m.tables.few;
      };
      searching =
          subst (λ (held : List Held). IsSearching held (in_use k.maps) conflicts (learned_step l.first back id ∷ back_to back w.trail.steps)) (sym a.held)
          (subst (λ (count : ℕ). IsSearching (k.store.held ++ held_as id true lits ∷ []) (in_use k.maps) count (learned_step l.first back id ∷ back_to back w.trail.steps)) (sym c)
          (searching_jump k.store.held (in_use k.maps) w.conflicts w.trail.steps lits back k.store.given id m.searching l s.below a.fresh));
      assumes = assumed_jump w.assumptions w.positions w.next back w.trail.steps (learned_step l.first back id) l.below refl refl m.assumes;
      fewer = λ h. let x : w.conflicts < length k.store.held = m.fewer z in omega (arith, longer);
    })
  where
    taken : w.watches.taken ++ map taken_as (option_to_list (clause_at n.store.held id)) ≡ map taken_as n.store.held
    taken =
        ap₂ (λ (xs : List Taken) (o : Option Held). xs ++ map taken_as (option_to_list o)) m.tables.taken (added_live k n lits (record { 0 = id }) s a)
        ∙ (sym (map-append taken_as k.store.held (held_as id true lits ∷ [])) ∙ ap (map taken_as) (sym a.held))

    longer : length n.store.held ≡ length k.store.held + 1
    longer = ap length a.held ∙ length-append k.store.held (held_as id true lits ∷ [])

-- the first literal of a learned clause
pub first_at : (held : List Held) (t : List Step) (lits : List InLit) (back : ℕ) (l : IsLearned held t lits back) → get_or lits 0 (positive 0) ≡ l.first
first_at held t lits back l = ap (λ (ls : List InLit). get_or ls 0 (positive 0)) l.parts

-- it is unset after the way back, and its number is in use
pub first_unset : (held : List Held) (t : List Step) (lits : List InLit) (back : ℕ) → shaped t ≡ true → IsLearned held t lits back → unset_in (back_to back t) (get_or lits 0 (positive 0)) ≡ true
first_unset held t lits back e l = ap (unset_in (back_to back t)) (first_at held t lits back l) ∙ (and_parts _ _ (learned_unit held t lits back e l)).0

pub first_below : (k : Kernel) (w : Work) (lits : List InLit) (back : ℕ) → AtMove k w → IsLearned k.store.held w.trail.steps lits back → (get_or lits 0 (positive 0)).var.0 < w.trail.reserved
first_below k w lits back m l =
    let a : lits_among (in_use k.maps) (l.first ∷ l.others) ≡ true = subst (λ (ls : List InLit). lits_among (in_use k.maps) ls ≡ true) l.parts (learned_among (in_use k.maps) k.store.held w.trail.steps lits back m.searching.active l) in
    let b : l.first.var.0 < length k.maps.owners = ltb-true _ _ (among_below k.maps.owners l.first.var.0 (and_parts _ _ a).0) in
    subst (λ (n : ℕ). (get_or lits 0 (positive 0)).var.0 < n) (sym m.tables.reserved) (subst (λ (z : InLit). z.var.0 < length k.maps.owners) (sym (first_at k.store.held w.trail.steps lits back l)) b)

-- the trail after the moves of the code one after another
pub landed_trail : (k : Kernel) (w w1 w2 : Work) (watches : Watching) (trail : Assignment) (lits : List InLit) (back : ℕ) (id : ClauseId) → AtMove k w → (l : IsLearned k.store.held w.trail.steps lits back)
    → w1 ≡ record w { order = w1.order; analyzer = w1.analyzer; conflicts = w1.conflicts } → w2 ≡ gone_back back (record w1 { watches = watches })
    → trail ≡ record w2.trail { steps = record { lit = get_or lits 0 (positive 0); level = level_of w2.trail.steps; reason = Some id } ∷ w2.trail.steps }
    → trail ≡ record { steps = learned_step l.first back id.0 ∷ back_to back w.trail.steps; reserved = w.trail.reserved }
landed_trail k w w1 w2 watches trail lits back id m l e1 e3 e4 =
    e4
    ∙ (ap (λ (v : Work). record v.trail { steps = record { lit = get_or lits 0 (positive 0); level = level_of v.trail.steps; reason = Some id } ∷ v.trail.steps }) (e3 ∙ ap (λ (v : Work). gone_back back (record v { watches = watches })) e1)
    ∙ ap₂ (λ (x : InLit) (y : ℕ). record { steps = learned_step x y id.0 ∷ back_to back w.trail.steps; reserved = w.trail.reserved }) (first_at k.store.held w.trail.steps lits back l) level)
  where
    level : level_of (back_to back w.trail.steps) ≡ back
    level = let x : level_of (back_to back w.trail.steps) ≡ min back (level_of w.trail.steps) = level_of-back_to w.trail.steps back m.searching.sound in let y : back < level_of w.trail.steps = l.below in omega arith

-- and all that holds then
pub landed : (k n : Kernel) (w w1 w2 : Work) (watches : Watching) (trail : Assignment) (lits : List InLit) (back : ℕ) (id : ClauseId) → AtMove k w → IsKept k.store → (l : IsLearned k.store.held w.trail.steps lits back) → HasAdded k n lits id.0 → HasSame w.order.known w1.order.known → HasPassedSet w1.order (back_to back w.trail.steps) → w1.conflicts ≡ w.conflicts + 1 → 0 < length k.store.held
    → w1 ≡ record w { order = w1.order; analyzer = w1.analyzer; conflicts = w1.conflicts }
    → watches ≡ record w1.watches { taken = w1.watches.taken ++ map taken_as (option_to_list (clause_at n.store.held id.0)) }
    → w2 ≡ gone_back back (record w1 { watches = watches })
    → trail ≡ record w2.trail { steps = record { lit = get_or lits 0 (positive 0); level = level_of w2.trail.steps; reason = Some id } ∷ w2.trail.steps }
    → AtMove n (record w2 { trail = trail })
landed k n w w1 w2 watches trail lits back id m s l a o p c z e1 e2 e3 e4 = subst (AtMove n) (sym whole) (jumped k n w lits back id.0 w1.conflicts w1.order w1.analyzer m s l a o p c z)
  where
    p1 : watches ≡ record w.watches { taken = w.watches.taken ++ map taken_as (option_to_list (clause_at n.store.held id.0)) }
    p1 = e2 ∙ ap (λ (v : Work). record v.watches { taken = v.watches.taken ++ map taken_as (option_to_list (clause_at n.store.held id.0)) }) e1

    p2 : w2 ≡ gone_back back (record w { order = w1.order; analyzer = w1.analyzer; conflicts = w1.conflicts; watches = record w.watches { taken = w.watches.taken ++ map taken_as (option_to_list (clause_at n.store.held id.0)) } })
    p2 = e3 ∙ ap₂ (λ (v : Work) (x : Watching). gone_back back (record v { watches = x })) e1 p1

    whole : record w2 { trail = trail } ≡ after_conflict w n l.first back id.0 w1.conflicts w1.order w1.analyzer
    whole = ap₂ (λ (v : Work) (t : Assignment). record v { trail = t }) p2 (landed_trail k w w1 w2 watches trail lits back id m l e1 e3 e4)

-- memory ran out before a clause was learned
pub short_none : (k n : Kernel) (conflicts after tally now : ℕ) → n ≡ k → after ≡ conflicts → now ≡ tally → EndsShort k n conflicts after tally now
short_none k n conflicts after tally now e c t = record { counted = inl (c, t); added = 0; few = omega arith; learned = learned_none k n e }

saturated_up : (a : ℕ) → a < 2 ^ 64 → a + 0 ≤ saturated a 1
saturated_up a h = omega arith

-- memory ran out before the clause was added
pub short_counted : (k n : Kernel) (conflicts after tally now : ℕ) → n ≡ k → conflicts < 2 ^ 64 → after ≡ saturated conflicts 1 → now ≡ saturated tally 1 → EndsShort k n conflicts after tally now
short_counted k n conflicts after tally now e h c t =
    record { counted = inr (c, t); added = 0; few = subst (λ (x : ℕ). conflicts + 0 ≤ x) (sym c) (saturated_up conflicts h); learned = learned_none k n e }

-- memory ran out after it was
pub short_added : (k n : Kernel) (conflicts after tally now : ℕ) → HasLearned k n 1 → after ≡ conflicts + 1 → after ≡ saturated conflicts 1 → now ≡ saturated tally 1 → EndsShort k n conflicts after tally now
short_added k n conflicts after tally now l e c t = record { counted = inr (c, t); added = 1; few = omega arith; learned = l }
