-- The loop of an interval.
use Rattle.std.proofs.Common.{◌≡◌, ◌<◌, ◌≤◌, ◌+◌, ◌^◌, ◌-◌, ℕ, true, List, [], ◌∷◌, ◌++◌, length, map, Option, Some, None, refl, sym, ap, subst, ◌∙◌, ⊎_elim, arith, length-append, append_assoc}
use Rattle.std.proofs.lemmas.Bool.{and_parts, and_from, false≢true}
use Rattle.std.proofs.lemmas.List.{map-append, append-nil}
use Rattle.sat_lits.specs.declared.literal.InLit.{InLit}
use Rattle.sat_lits.specs.declared.literal.ClauseId.{ClauseId}
use Rattle.trail.specs.declared.trail.Step.{Step}
use Rattle.trail.specs.Trail.{level_of, back_to}
use Rattle.propagate.specs.Units.{false_clause}
use Rattle.propagate.specs.Reasons.{names}
use Rattle.clause_store.specs.Store.{Held, learned_of}
use Rattle.analyze.specs.Counting.{saturated}
use Rattle.analyze.specs.Quiet.{is_new}
use Rattle.search_laws.specs.TrailNumber.{trail_number}
use Rattle.search_laws.specs.NumberLaws.{number_bound}
use Rattle.search_laws.specs.NumberLaws.{bounded_end}
use Rattle.search_laws.specs.NumberLaws.{bounded_conflict}
use Rattle.state_laws.specs.Kernel.{Kernel}
use Rattle.search.specs.declared.work.Work.{Work}
use Rattle.search.specs.InUse.{in_use}
use Rattle.search.specs.Learning.{each_new, HasLearned}
use Rattle.search.specs.declared.answer.IntervalAnswer.{IntervalAnswer}
use Rattle.search.specs.declared.answer.IntervalAnswer.TheVariants.{Model, Failed, IntervalOver, Spent, Asked, Memory}
use Rattle.search.specs.Assumed.{positive}
use Rattle.search.specs.Answers.{IsBelow, IsUpTo, is_count, LearnsRight, AreFailed}
use Rattle.search.specs.Searching.{IsSearching, AtMove, EndsShort}
use Rattle.search.proofs.Jumping.{learned_step, learned_none}
use Rattle.search.proofs.Roots.{root_conflict}

-- what holds at each turn of the loop
pub record AtTurn (k n : Kernel) (old work : Work) (own left : Option ℕ) (tally now raises since : ℕ) : Type 0 where
  pub at : AtMove n work
  pub learned : HasLearned k n work.conflicts
  pub assumptions : work.assumptions ≡ old.assumptions
  pub tallied : now ≡ saturated tally work.conflicts
  pub own_below : IsBelow work.conflicts own
  pub left_below : IsBelow work.conflicts left
  pub later : raises ≤ since

each_new-append : (held xs ys : List Held) → each_new held xs ≡ true → each_new (held ++ xs) ys ≡ true → each_new held (xs ++ ys) ≡ true
each_new-append held [] ys a b = subst (λ (hs : List Held). each_new hs ys ≡ true) (append-nil held) b
each_new-append held (x ∷ xs) ys a b =
    let p : (is_new held x.lits ≡ true) × (each_new (held ++ x ∷ []) xs ≡ true) = and_parts _ _ a in
    and_from _ _ p.0 (each_new-append (held ++ x ∷ []) xs ys p.1 (subst (λ (hs : List Held). each_new hs ys ≡ true) (sym (append_assoc held (x ∷ []) xs)) b))

-- what was learned in two parts
pub learned_both : (k m n : Kernel) (a b : ℕ) → HasLearned k m a → HasLearned m n b → HasLearned k n (a + b)
learned_both k m n a b f s =
    record {
      news = f.news ++ s.news;
      same = s.same ∙ ap (λ (z : Kernel). record z { store = n.store }) f.same;
      held = s.held ∙ (ap (λ (z : List Held). z ++ s.news) f.held ∙ append_assoc k.store.held f.news s.news);
      hard = s.hard ∙ f.hard;
      learned =
          s.learned
          ∙ (ap (λ (z : List (List InLit)). z ++ map (λ (c : Held). c.lits) s.news) f.learned
          ∙ (append_assoc (learned_of k.store.held) (map (λ (c : Held). c.lits) f.news) (map (λ (c : Held). c.lits) s.news)
          ∙ ap (λ (z : List (List InLit)). learned_of k.store.held ++ z) (sym (map-append (λ (c : Held). c.lits) f.news s.news))));
      new = each_new-append k.store.held f.news s.news f.new (subst (λ (z : List Held). each_new z s.news ≡ true) f.held s.new);
      counted = length-append f.news s.news ∙ (ap (λ (x : ℕ). x + length s.news) f.counted ∙ ap (λ (x : ℕ). a + x) s.counted);
      marked = s.marked ∙ f.marked;
    }

-- the maps stay
pub same_use : (k n : Kernel) (count : ℕ) → HasLearned k n count → in_use n.maps ≡ in_use k.maps
same_use k n count l = ap (λ (z : Kernel). in_use z.maps) l.same

-- fewer conflicts than 3 to the number of variables in use
pub turn_few : (k n : Kernel) (work : Work) (count : ℕ) → AtMove n work → HasLearned k n count → work.conflicts < 3 ^ length (in_use k.maps)
turn_few k n work count m l =
    subst (λ (ns : List ℕ). work.conflicts < 3 ^ length ns) (same_use k n count l) (bounded_end (length (in_use n.maps)) work.trail.steps work.conflicts m.searching.bound)

-- two counts after one another
saturated_twice : (tally a b c : ℕ) → c ≡ saturated a b → saturated (saturated tally a) b ≡ saturated tally c
saturated_twice tally a b c e = omega arith

-- one turn that learns
pub tally_more : (tally mid now a c : ℕ) → mid ≡ saturated tally a → now ≡ saturated mid 1 → c ≡ a + 1 → now ≡ saturated tally c
tally_more tally mid now a c e f g = omega arith

below_up : (a b : ℕ) (o : Option ℕ) → b ≡ a + 1 → IsBelow a o → IsUpTo b o
below_up a b None e h = h
below_up a b (Some n) e h = omega arith

pub up_to : (a b : ℕ) (o : Option ℕ) → b ≡ a + 1 → IsBelow a o → IsUpTo b o
up_to a b o e h = below_up a b o e h

below_same : (a b : ℕ) (o : Option ℕ) → b ≡ a → IsBelow a o → IsUpTo b o
below_same a b None e h = h
below_same a b (Some n) e h = omega arith

-- the first turn
pub first_turn : (k : Kernel) (work : Work) (own left : Option ℕ) (tally raises : ℕ) → AtMove k work → work.conflicts ≡ 0 → IsBelow 0 own → IsBelow 0 left → tally < 2 ^ 64 → AtTurn k k work work own left tally tally raises raises
first_turn k work own left tally raises m z o l h =
    record {
      at = m;
      learned = subst (HasLearned k k) (sym z) (learned_none k k refl);
      assumptions = refl;
      tallied = omega arith;
      own_below = subst (λ (c : ℕ). IsBelow c own) (sym z) o;
      left_below = subst (λ (c : ℕ). IsBelow c left) (sym z) l;
      later = omega arith;
    }

-- a turn that learned
pub turn_learned : (k m n : Kernel) (old before work : Work) (own left : Option ℕ) (tally mid now raises since : ℕ) → AtTurn k m old before own left tally mid raises since → AtMove n work → HasLearned m n 1 → work.assumptions ≡ before.assumptions → work.conflicts ≡ before.conflicts + 1
    → now ≡ saturated mid 1 → IsBelow work.conflicts own → IsBelow work.conflicts left → AtTurn k n old work own left tally now raises since
turn_learned k m n old before work own left tally mid now raises since t a l s c u o f =
    record {
      at = a;
      learned = subst (HasLearned k n) (sym c) (learned_both k m n before.conflicts 1 t.learned l);
      assumptions = s ∙ t.assumptions;
      tallied = tally_more tally mid now before.conflicts work.conflicts t.tallied u c;
      own_below = o;
      left_below = f;
      later = t.later;
    }

-- the measure falls where the number of the trail rises
pub turn_smaller : (m n : Kernel) (before work : Work) → AtMove n work → in_use n.maps ≡ in_use m.maps → trail_number (length (in_use m.maps)) before.trail.steps < trail_number (length (in_use m.maps)) work.trail.steps
    → 3 ^ length (in_use n.maps) - trail_number (length (in_use n.maps)) work.trail.steps < 3 ^ length (in_use m.maps) - trail_number (length (in_use m.maps)) before.trail.steps
turn_smaller m n before work a e h =
    let b : trail_number (length (in_use n.maps)) work.trail.steps < 3 ^ length (in_use n.maps) = number_bound (length (in_use n.maps)) work.trail.steps a.searching.bound.fits in
    subst (λ (ns : List ℕ). 3 ^ length ns - trail_number (length ns) work.trail.steps < 3 ^ length (in_use m.maps) - trail_number (length (in_use m.maps)) before.trail.steps) (sym e)
    (falls (3 ^ length (in_use m.maps)) (trail_number (length (in_use m.maps)) before.trail.steps) (trail_number (length (in_use m.maps)) work.trail.steps)
    (subst (λ (ns : List ℕ). trail_number (length ns) work.trail.steps < 3 ^ length ns) e b) h)
  where
    falls : (p a b : ℕ) → b < p → a < b → p - b < p - a
    falls p a b h l = omega arith

-- one conflict more above level 0 is still few enough
pub one_more_few : (held : List Held) (numbers : List ℕ) (conflicts : ℕ) (t : List Step) → IsSearching held numbers conflicts t → 0 < level_of t → conflicts + 1 < 3 ^ length numbers
one_more_few held numbers conflicts t i h =
    bounded_end (length numbers) (learned_step (positive 0) 0 0 ∷ back_to 0 t) (conflicts + 1) (bounded_conflict (length numbers) 0 (learned_step (positive 0) 0 0) t conflicts i.sound h refl i.bound)

-- memory ran out: what was learned
pub short_learned : (k m n : Kernel) (before after tally now : ℕ) → HasLearned k m before → EndsShort m n before after tally now → (count : ℕ) × (count ≤ after) × HasLearned k n count
short_learned k m n before after tally now l e = (before + e.added, e.few, learned_both k m n before e.added l e.learned)

-- and how many conflicts that made
pub short_few : (m n : Kernel) (work : Work) (after tally now : ℕ) → AtMove m work → 0 < level_of work.trail.steps → EndsShort m n work.conflicts after tally now → after < 3 ^ length (in_use m.maps)
short_few m n work after tally now a h e =
    let f : work.conflicts + 1 < 3 ^ length (in_use m.maps) = one_more_few m.store.held (in_use m.maps) work.conflicts work.trail.steps a.searching h in
    ⊎_elim (λ (p : (after ≡ work.conflicts) × (now ≡ tally)). let c : after ≡ work.conflicts = p.0 in omega arith)
    (λ (p : (after ≡ saturated work.conflicts 1) × (now ≡ saturated tally 1)). let c : after ≡ saturated work.conflicts 1 = p.0 in omega arith) e.counted

-- an answer that comes at a number of conflicts says that one clause was learned for each
pub count_learned : (k n : Kernel) (conflicts : ℕ) (answer : IntervalAnswer) → is_count answer ≡ true → HasLearned k n conflicts → LearnsRight k n conflicts answer
count_learned k n conflicts (Model values) e l = absurd (false≢true e)
count_learned k n conflicts (Failed positions) e l = absurd (false≢true e)
count_learned k n conflicts IntervalOver e l = l
count_learned k n conflicts Spent e l = l
count_learned k n conflicts Asked e l = absurd (false≢true e)
count_learned k n conflicts Memory e l = absurd (false≢true e)

-- a clause that is false at level 0 contradicts the clauses alone
pub root_failed : (k : Kernel) (work : Work) (id : ClauseId) (assumptions : List InLit) → AtMove k work → level_of work.trail.steps ≡ 0 → names k.store.held id (false_clause work.trail.steps) ≡ true → AreFailed k.store.held assumptions []
root_failed k work id assumptions a z f =
    record {
      rising = λ i h. absurd (omega arith);
      within = refl;
      contradict = λ w v. absurd (root_conflict w k.store.held work.trail.steps id v a.searching.sound a.searching.reasons z f);
    }
