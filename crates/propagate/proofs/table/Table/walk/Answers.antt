use Rattle.std.proofs.lemmas.Bool.{eqb-true}
use Rattle.std.proofs.Common.{◌%◌, cond, eqb, ◌≡◌, ◌<◌, ◌-◌, ◌+◌, ◌*◌, ◌/◌, ℕ, Bool, true, false, length, get_or, set, inr, refl, sym, ap, subst, ◌∙◌, arith}
use Rattle.std.proofs.lemmas.List.{get_or_read_under}
use Rattle.std.specs.List.{list_any}
use Rattle.sat_lits.specs.InLits.{same_lit}
use Rattle.trail.specs.Trail.{false_in}
use Rattle.clause_store.specs.Store.{is_live}
use Rattle.sat_lits.specs.declared.literal.ClauseId.{ClauseId}
use Rattle.propagate.specs.Watching.{clauses_below}
use Rattle.propagate.specs.Watched.{id_of, other_of, code_of, cut_heads, cut_next, clause_of}
use Rattle.propagate.specs.Walks.{AllSettled}
use Rattle.propagate.proofs.Turning.{AtEntry, at_start, at_kept, at_moved, place_below, before_below, settle_within, settled_kept, found_below, smaller_kept, smaller_moved, walk_right, found_parts}
use Rattle.propagate.proofs.table.Table.walk.Goals as goal

other_within : (e n l : ℕ) → e < 2 * n → l ≡ 2 * n → other_of e < l
other_within e n l b q = go (eqb (e % 2) 0) refl
  where
    go : (x : Bool) → eqb (e % 2) 0 ≡ x → cond x (e + 1) (e - 1) < l
    go true z =
        let y : e % 2 ≡ 0 = eqb-true _ _ z in
        omega (arith, b, q, y)
    go false z = omega (arith, b, q)

pub walk-init : goal.walk-init
walk-init c = (
  at_start c.args.store.now.held c.args.taken.now c.args.lit c.args.trail.now c.args.self.now c.index.result.now c.requires.watched
      (subst (λ (k : ℕ). c.index.result.now ≡ get_or c.args.self.now.heads.items k 0) c.code_of-key.ensures
      (get_or_read_under c.args.self.now.heads.items c.code_of-key.result (length c.args.self.now.heads.items) c.index.result.now 0 c.index.ensures
      (subst (λ (k : ℕ). k < length c.args.self.now.heads.items) (sym c.code_of-key.ensures) c.requires.key) refl)),
  c.code_of-key.ensures,
)

pub turn_at-turn-requires-clause-next : goal.turn_at-turn-requires-clause-next
turn_at-turn-requires-clause-next c =
    let b : c.walk.entry - 1 < 2 * length c.args.taken.now = place_below c.args.store.now.held c.args.taken.now c.args.lit c.args.trail.now c.walk.trail c.args.self.now c.walk.self c.walk.before c.walk.entry c.walk.missed c.walk.invariant.0 c.walk-test.true in
    omega (arith, b, c.walk.invariant.0.watched.long)

pub turn_at-turn-requires-clause-watched : goal.turn_at-turn-requires-clause-watched
turn_at-turn-requires-clause-watched c =
    let b : c.walk.entry - 1 < 2 * length c.args.taken.now = place_below c.args.store.now.held c.args.taken.now c.args.lit c.args.trail.now c.walk.trail c.args.self.now c.walk.self c.walk.before c.walk.entry c.walk.missed c.walk.invariant.0 c.walk-test.true in
    other_within (c.walk.entry - 1) (length c.args.taken.now) (length c.walk.self.watched.items) b c.walk.invariant.0.watched.same

pub turn_at-turn-requires-clause-range : goal.turn_at-turn-requires-clause-range
turn_at-turn-requires-clause-range c =
    let b : c.walk.entry - 1 < 2 * length c.args.taken.now = place_below c.args.store.now.held c.args.taken.now c.args.lit c.args.trail.now c.walk.trail c.args.self.now c.walk.self c.walk.before c.walk.entry c.walk.missed c.walk.invariant.0 c.walk-test.true in
    omega (arith, b, c.requires.few)

pub meet-requires-clause-place : goal.meet-requires-clause-place
meet-requires-clause-place c = place_below c.args.store.now.held c.args.taken.now c.args.lit c.args.trail.now c.walk.trail c.args.self.now c.walk.self c.walk.before c.walk.entry c.walk.missed c.walk.invariant.0 c.walk-test.true

pub id_at-requires : goal.id_at-requires
id_at-requires c = place_below c.args.store.now.held c.args.taken.now c.args.lit c.args.trail.now c.walk.trail c.args.self.now c.walk.self c.walk.before c.walk.entry c.walk.missed c.walk.invariant.0 c.walk-test.true

pub meet-requires-clause-within : goal.meet-requires-clause-within
meet-requires-clause-within c = settle_within c.args.store.now.held c.args.taken.now c.args.lit c.args.trail.now c.walk.trail c.args.self.now c.walk.self c.walk.before c.walk.entry c.walk.missed (id_of c.args.taken.now (c.walk.entry - 1)) c.turn_at-turn.result.other c.walk.invariant.0 c.walk-test.true c.requires.taken refl c.turn_at-turn.ensures.other

pub shift-requires-clause-before : goal.shift-requires-clause-before
shift-requires-clause-before c = before_below c.args.store.now.held c.args.taken.now c.args.lit c.args.trail.now c.walk.trail c.args.self.now c.walk.self c.walk.before c.walk.entry c.walk.missed c.walk.invariant.0

pub shift-requires-clause-place : goal.shift-requires-clause-place
shift-requires-clause-place c =
    let b : c.walk.entry - 1 < 2 * length c.args.taken.now = place_below c.args.store.now.held c.args.taken.now c.args.lit c.args.trail.now c.walk.trail c.args.self.now c.walk.self c.walk.before c.walk.entry c.walk.missed c.walk.invariant.0 c.walk-test.true in
    omega (arith, b, c.walk.invariant.0.watched.long)

pub shift-requires-clause-watched : goal.shift-requires-clause-watched
shift-requires-clause-watched c =
    let b : c.walk.entry - 1 < 2 * length c.args.taken.now = place_below c.args.store.now.held c.args.taken.now c.args.lit c.args.trail.now c.walk.trail c.args.self.now c.walk.self c.walk.before c.walk.entry c.walk.missed c.walk.invariant.0 c.walk-test.true in
    omega (arith, b, c.walk.invariant.0.watched.same)

pub shift-requires-clause-few : goal.shift-requires-clause-few
shift-requires-clause-few c =
    let b : c.walk.entry - 1 < 2 * length c.args.taken.now = place_below c.args.store.now.held c.args.taken.now c.args.lit c.args.trail.now c.walk.trail c.args.self.now c.walk.self c.walk.before c.walk.entry c.walk.missed c.walk.invariant.0 c.walk-test.true in
    omega (arith, b, c.requires.few)

pub shift-requires-clause-lit : goal.shift-requires-clause-lit
shift-requires-clause-lit c =
    found_below c.args.store.now.held c.walk.trail.steps (id_of c.args.taken.now (c.walk.entry - 1)) c.turn_at-turn.result.other c.in-Moved.found (length c.walk.self.heads.items)
    (subst (λ (n : ℕ). clauses_below (n / 2) c.args.store.now.held ≡ true) (sym c.walk.invariant.0.heads) c.requires.clauses)
    c.in-Moved.ensures.right.1

pub walk-smaller-in-Kept : goal.walk-smaller-in-Kept
walk-smaller-in-Kept c = smaller_kept c.args.store.now.held c.args.taken.now c.args.lit c.args.trail.now c.walk.trail c.args.self.now c.walk.self c.walk.before c.walk.entry c.turn_at-turn.result.after c.walk.missed c.walk.invariant.0 c.walk-test.true c.turn_at-turn.ensures.after

pub walk-preserved-in-Kept : goal.walk-preserved-in-Kept
walk-preserved-in-Kept c = (
  subst (λ (z : ℕ). AtEntry c.args.store.now.held c.args.taken.now c.args.lit c.args.trail.now c.meet.new.trail c.args.self.now c.walk.self c.walk.entry z c.walk.missed) (sym c.turn_at-turn.ensures.after)
      (at_kept c.args.store.now.held c.args.taken.now c.args.lit c.args.trail.now c.walk.trail c.meet.new.trail c.args.self.now c.walk.self c.walk.before c.walk.entry c.walk.missed c.walk.missed c.walk.invariant.0 c.walk-test.true c.meet.ensures.extends c.meet.ensures.reserved (λ m. m)
      (settled_kept c.args.store.now.held c.args.taken.now c.args.lit c.args.trail.now c.walk.trail c.args.self.now c.walk.self c.walk.before c.walk.entry c.walk.missed c.meet.new.trail.steps c.turn_at-turn.result.other c.walk.invariant.0 c.walk-test.true c.turn_at-turn.ensures.other c.in-Kept.ensures.right)),
  c.walk.invariant.1,
)

pub walk-smaller-in-Lost : goal.walk-smaller-in-Lost
walk-smaller-in-Lost c = smaller_kept c.args.store.now.held c.args.taken.now c.args.lit c.args.trail.now c.walk.trail c.args.self.now c.walk.self c.walk.before c.walk.entry c.turn_at-turn.result.after c.walk.missed c.walk.invariant.0 c.walk-test.true c.turn_at-turn.ensures.after

pub walk-preserved-in-Lost : goal.walk-preserved-in-Lost
walk-preserved-in-Lost c = (
  subst (λ (z : ℕ). AtEntry c.args.store.now.held c.args.taken.now c.args.lit c.args.trail.now c.meet.new.trail c.args.self.now c.walk.self c.walk.entry z true) (sym c.turn_at-turn.ensures.after)
      (at_kept c.args.store.now.held c.args.taken.now c.args.lit c.args.trail.now c.walk.trail c.meet.new.trail c.args.self.now c.walk.self c.walk.before c.walk.entry c.walk.missed true c.walk.invariant.0 c.walk-test.true c.meet.ensures.extends c.meet.ensures.reserved (λ m. refl)
      (inr (refl, subst (λ (i : ClauseId). is_live c.args.store.now.held i.0 ≡ false) refl c.in-Lost.ensures.right.1))),
  c.walk.invariant.1,
)

pub walk-smaller : goal.walk-smaller
walk-smaller c =
    smaller_moved c.args.store.now.held c.args.taken.now c.args.lit c.args.trail.now c.walk.trail c.args.self.now c.walk.self c.walk.before c.walk.entry c.turn_at-turn.result.after c.walk.missed c.shift.new.self.next.items _ c.walk.invariant.0 c.walk-test.true
    (subst (λ (n : ℕ). code_of c.args.lit < n) (sym c.walk.invariant.0.heads) c.requires.key) c.turn_at-turn.ensures.after c.shift.ensures.next

pub walk-preserved : goal.walk-preserved
walk-preserved c = (
  subst (λ (z : ℕ). AtEntry c.args.store.now.held c.args.taken.now c.args.lit c.args.trail.now c.meet.new.trail c.args.self.now c.shift.new.self c.walk.before z c.walk.missed) (sym c.turn_at-turn.ensures.after)
      (at_moved c.args.store.now.held c.args.taken.now c.args.lit c.args.trail.now c.walk.trail c.meet.new.trail c.args.self.now c.walk.self c.shift.new.self c.walk.before c.walk.entry c.walk.missed c.in-Moved.found c.walk.invariant.0 c.walk-test.true c.in-Moved.ensures.right.0 c.meet.ensures.reserved c.requires.lit_false
      (subst (λ (n : ℕ). code_of c.args.lit < n) (sym c.walk.invariant.0.heads) c.requires.key)
      (found_below c.args.store.now.held c.walk.trail.steps (id_of c.args.taken.now (c.walk.entry - 1)) c.turn_at-turn.result.other c.in-Moved.found (length c.walk.self.heads.items)
      (subst (λ (n : ℕ). clauses_below (n / 2) c.args.store.now.held ≡ true) (sym c.walk.invariant.0.heads) c.requires.clauses)
      c.in-Moved.ensures.right.1)
      f.0 f.1
      (ap (λ z. same_lit z c.in-Moved.found) (sym c.turn_at-turn.ensures.other) ∙ f.2)
      (subst (λ (k : ℕ). c.shift.new.self.heads.items ≡ set (cut_heads c.walk.self.heads.items c.walk.self.next.items k c.walk.before (c.walk.entry - 1)) (code_of c.in-Moved.found) ((c.walk.entry - 1) + 1)) c.walk.invariant.1 c.shift.ensures.heads)
      (subst (λ (k : ℕ). c.shift.new.self.next.items ≡ set (cut_next c.walk.self.next.items c.walk.before (c.walk.entry - 1)) (c.walk.entry - 1) (get_or (cut_heads c.walk.self.heads.items c.walk.self.next.items k c.walk.before (c.walk.entry - 1)) (code_of c.in-Moved.found) 0)) c.walk.invariant.1 c.shift.ensures.next)
      c.shift.ensures.watched c.shift.ensures.whole),
  c.walk.invariant.1,
)
  where
    f : (list_any (same_lit c.in-Moved.found) (clause_of c.args.taken.now (c.walk.entry - 1)) ≡ true) × (false_in c.walk.trail.steps c.in-Moved.found ≡ false) × (same_lit c.turn_at-turn.result.other c.in-Moved.found ≡ false)
    f = found_parts c.args.taken.now c.args.store.now.held (id_of c.args.taken.now (c.walk.entry - 1)) (c.walk.entry - 1) c.walk.trail.steps c.turn_at-turn.result.other c.in-Moved.found c.requires.taken refl c.in-Moved.ensures.right.1

pub returns-then-missed-clause-right : goal.returns-then-missed-clause-right
returns-then-missed-clause-right c =
    subst (λ (m : Bool). AllSettled c.args.store.now.held c.args.taken.now c.walk.trail.steps c.walk.self.whole.items c.walk.self.watched.items c.args.lit m) c.if-missed.true
    (walk_right c.args.store.now.held c.args.taken.now c.args.lit c.args.trail.now c.walk.trail c.args.self.now c.walk.self c.walk.before c.walk.entry c.walk.missed c.walk.invariant.0 (omega (arith, c.walk-test.false)))

pub returns-else-missed-clause-right : goal.returns-else-missed-clause-right
returns-else-missed-clause-right c =
    subst (λ (m : Bool). AllSettled c.args.store.now.held c.args.taken.now c.walk.trail.steps c.walk.self.whole.items c.walk.self.watched.items c.args.lit m) c.if-missed.false
    (walk_right c.args.store.now.held c.args.taken.now c.args.lit c.args.trail.now c.walk.trail c.args.self.now c.walk.self c.walk.before c.walk.entry c.walk.missed c.walk.invariant.0 (omega (arith, c.walk-test.false)))
