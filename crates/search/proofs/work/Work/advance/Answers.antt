use Rattle.std.proofs.Common.{◌≡◌, ◌<◌, ◌∷◌, ℕ, length, true, not, List, sym, ap, subst, ◌∙◌, ltb-true, arith}
use Rattle.std.specs.Option.{is_some, unwrap_or, option_map}
use Rattle.std.specs.Borrow.{Bor}
use Rattle.sat_lits.specs.ListLaws.{all_at}
use Rattle.sat_lits.specs.declared.literal.InLit.{InLit}
use Rattle.trail.specs.Trail.{unset_in}
use Rattle.propagate.specs.Units.{all_quiet}
use Rattle.search_laws.specs.TrailNumber.{trail_number}
use Rattle.search.proofs.Using.{among_below}
use Rattle.search.proofs.Moves.{copied_some, unset_value}
use Rattle.search.specs.declared.work.Work.{Work}
use Rattle.search.specs.Assumed.{assumption_at, positive}
use Rattle.search.specs.InUse.{in_use, is_among}
use Rattle.search.specs.Searching.{AtMove}
use Rattle.search.proofs.Deciding.{decision, assumed_next, decide_rises, passed}
use Rattle.search.proofs.work.Work.advance.Goals as goal
use Rattle.search.proofs.work.Work.advance.Goals.{In-Some, After-is_none}

next_is : (c : In-Some) → (c.skip_true.new.self.next < length c.skip_true.new.self.assumptions) × (c.in-Some.lit ≡ assumption_at c.skip_true.new.self.assumptions c.skip_true.new.self.next)
next_is c =
    let p : (is_some c.get.result ≡ true) × (unwrap_or (option_map (λ (x : Bor InLit). x.now) c.get.result) (positive 0) ≡ c.in-Some.lit) = copied_some c.get.result c.in-Some.lit (positive 0) c.in-Some.ensures in (
      subst (λ (ls : List InLit). c.skip_true.new.self.next < length ls) c.as_slice.ensures (ltb-true _ _ (sym c.get.ensures.lookup.0 ∙ p.0)),
      sym p.1 ∙ (c.get.ensures.lookup.4 (omega arith) (positive 0) ∙ ap (λ (ls : List InLit). assumption_at ls c.skip_true.new.self.next) c.as_slice.ensures),
    )

next_among : (c : In-Some) → is_among (in_use c.args.state.now.maps) c.in-Some.lit.var.0 ≡ true
next_among c =
    let m : AtMove c.args.state.now c.skip_true.new.self = passed c.args.state.now c.args.self.now c.skip_true.new.self c.requires.at c.skip_true.ensures.assumes c.skip_true.ensures.same in
    let n : (c.skip_true.new.self.next < length c.skip_true.new.self.assumptions) × (c.in-Some.lit ≡ assumption_at c.skip_true.new.self.assumptions c.skip_true.new.self.next) = next_is c in
    subst (λ (l : InLit). is_among (in_use c.args.state.now.maps) l.var.0 ≡ true) (sym n.1)
    (all_at (λ (l : InLit). is_among (in_use c.args.state.now.maps) l.var.0) c.skip_true.new.self.assumptions c.skip_true.new.self.next (positive 0) n.0 m.tables.assumptions)

next_unset : (c : After-is_none) → c.is_none.result ≡ true → unset_in c.skip_true.new.self.trail.steps c.in-Some.lit ≡ true
next_unset c e =
    unset_value c.skip_true.new.self.trail.steps c.in-Some.lit (passed c.args.state.now c.args.self.now c.skip_true.new.self c.requires.at c.skip_true.ensures.assumes c.skip_true.ensures.same).searching.sound (ap is_some (sym c.value.ensures) ∙ (c.is_none.ensures ∙ ap not e))

pub assume-requires-clause-reserved : goal.assume-requires-clause-reserved
assume-requires-clause-reserved c =
    let m : AtMove c.args.state.now c.skip_true.new.self = passed c.args.state.now c.args.self.now c.skip_true.new.self c.requires.at c.skip_true.ensures.assumes c.skip_true.ensures.same in
    subst (λ (n : ℕ). c.in-Some.lit.var.0 < n) (sym m.tables.reserved) (ltb-true _ _ (among_below c.args.state.now.maps.owners c.in-Some.lit.var.0 (next_among (goal.at.assume-requires-clause-reserved c).In-Some)))

pub assume-requires-clause-unset : goal.assume-requires-clause-unset
assume-requires-clause-unset c = next_unset (goal.at.assume-requires-clause-unset c).After-is_none c.if-is_none.true

pub returns-in-Ok-clause-at : goal.returns-in-Ok-clause-at
returns-in-Ok-clause-at c =
    let n : (c.skip_true.new.self.next < length c.skip_true.new.self.assumptions) × (c.in-Some.lit ≡ assumption_at c.skip_true.new.self.assumptions c.skip_true.new.self.next) = next_is (goal.at.returns-in-Ok-clause-at c).In-Some in
    subst (AtMove c.args.state.now) (sym c.in-Ok.ensures.ok)
    (assumed_next c.args.state.now c.skip_true.new.self c.in-Some.lit (passed c.args.state.now c.args.self.now c.skip_true.new.self c.requires.at c.skip_true.ensures.assumes c.skip_true.ensures.same)
    (subst (λ (w : Work). all_quiet w.trail.steps c.args.state.now.store.held ≡ true) (sym c.skip_true.ensures.same) c.requires.quiet)
    (next_unset (goal.at.returns-in-Ok-clause-at c).After-is_none c.if-is_none.true) (next_among (goal.at.returns-in-Ok-clause-at c).In-Some) n.0 n.1)

pub returns-in-Ok-clause-rises : goal.returns-in-Ok-clause-rises
returns-in-Ok-clause-rises c =
    subst (λ (w : Work). trail_number (length (in_use c.args.state.now.maps)) c.args.self.now.trail.steps < trail_number (length (in_use c.args.state.now.maps)) w.trail.steps) (sym c.in-Ok.ensures.ok)
    (subst (λ (w : Work). trail_number (length (in_use c.args.state.now.maps)) w.trail.steps < trail_number (length (in_use c.args.state.now.maps)) (decision c.in-Some.lit c.skip_true.new.self.trail.steps ∷ c.skip_true.new.self.trail.steps)) c.skip_true.ensures.same
    (decide_rises c.args.state.now c.skip_true.new.self c.in-Some.lit (passed c.args.state.now c.args.self.now c.skip_true.new.self c.requires.at c.skip_true.ensures.assumes c.skip_true.ensures.same)
    (subst (λ (w : Work). all_quiet w.trail.steps c.args.state.now.store.held ≡ true) (sym c.skip_true.ensures.same) c.requires.quiet)
    (next_unset (goal.at.returns-in-Ok-clause-rises c).After-is_none c.if-is_none.true) (next_among (goal.at.returns-in-Ok-clause-rises c).In-Some)))
