use Rattle.std.proofs.Common.{◌≡◌, ◌<◌, ◌+◌, ◌-◌, ◌∙◌, ℕ, true, length, get_or, vec_len, sym, ap, subst, refl, arith}
use Rattle.std.proofs.lemmas.List.{get_or_read_under}
use Rattle.propagate.specs.declared.table.Table.{Table}
use Rattle.propagate.specs.Starts.{IsSeen, IsStarted}
use Rattle.propagate.proofs.Freshing.{AtFresh, fresh_same, fresh_stays, fresh_started, fresh_skipped, fresh_last, first_within}
use Rattle.propagate.proofs.table.Table.look_fresh.Goals as goal

pub look-preserved-then-not-index : goal.look-preserved-then-not-index
look-preserved-then-not-index c =
    fresh_skipped c.args.store.now.held c.args.taken.now c.args.done.now c.args.trail.now c.look.trail c.args.self.now c.look.self c.look.fresh.items c.swap_remove.new.self.items c.look.at c.args.walked.now c.look.walked c.look.invariant
    (omega (arith, c.look-test.true, c.len.ensures, c.look.fresh.ok.0))
    (record {
      len = omega (arith, c.swap_remove.ensures.len, c.look.fresh.ok.0, c.swap_remove.new.self.ok.0);
      last = λ h.
          let l : vec_len c.look.fresh - 1 ≡ length c.look.fresh.items - 1 = omega (arith, c.look.fresh.ok.0) in
          c.swap_remove.ensures.by_index.0 0 (omega (arith, h, c.look.fresh.ok.0)) ∙ ap (λ (j : ℕ). get_or c.look.fresh.items j 0) l;
      others = λ k q h. c.swap_remove.ensures.by_index.1 k 0 q (omega (arith, h, c.look.fresh.ok.0));
    })
    (ap (λ (n : ℕ). get_or c.look.self.whole.items n true) (sym (get_or_read_under c.look.fresh.items c.look.at (vec_len c.look.fresh) c.index-n.result.now 0 c.index-n.ensures (omega (arith, c.look-test.true, c.len.ensures)) (omega (arith, c.look.fresh.ok.0))))
    ∙ (sym (get_or_read_under c.look.self.whole.items c.index-n.result.now (length c.look.self.whole.items) c.index.result.now true c.index.ensures below refl) ∙ c.if-not-index.true))
  where
    below : c.index-n.result.now < length c.look.self.whole.items
    below =
        let q : c.index-n.result.now ≡ get_or c.look.fresh.items c.look.at 0 = (get_or_read_under c.look.fresh.items c.look.at (vec_len c.look.fresh) c.index-n.result.now 0 c.index-n.ensures (omega (arith, c.look-test.true, c.len.ensures)) (omega (arith, c.look.fresh.ok.0))) in
        let r : get_or c.look.fresh.items c.look.at 0 < length c.args.taken.now = c.look.invariant.listed.1 c.look.at (omega (arith, c.look-test.true, c.len.ensures, c.look.fresh.ok.0)) in
        omega (arith, q, r, c.look.invariant.watched.flags)

pub returns-in-Conflict-clause-extends : goal.returns-in-Conflict-clause-extends
returns-in-Conflict-clause-extends c = (fresh_same c.args.store.now.held c.args.taken.now c.args.done.now c.args.trail.now c.look.trail c.start.new.trail c.args.self.now c.look.self c.start.new.self c.look.fresh.items c.look.at c.args.walked.now c.look.walked c.look.invariant (first_within c.args.store.now.held c.args.done.now c.args.trail.now.steps c.look.trail.steps c.args.walked.now c.look.invariant.extends c.requires.done c.requires.walked) c.start.ensures.extends c.start.ensures.reserved c.in-Conflict.ensures.right.0).extends

pub returns-in-Conflict-clause-good : goal.returns-in-Conflict-clause-good
returns-in-Conflict-clause-good c = (fresh_same c.args.store.now.held c.args.taken.now c.args.done.now c.args.trail.now c.look.trail c.start.new.trail c.args.self.now c.look.self c.start.new.self c.look.fresh.items c.look.at c.args.walked.now c.look.walked c.look.invariant (first_within c.args.store.now.held c.args.done.now c.args.trail.now.steps c.look.trail.steps c.args.walked.now c.look.invariant.extends c.requires.done c.requires.walked) c.start.ensures.extends c.start.ensures.reserved c.in-Conflict.ensures.right.0).good

pub returns-in-Conflict-clause-fine : goal.returns-in-Conflict-clause-fine
returns-in-Conflict-clause-fine c = (fresh_same c.args.store.now.held c.args.taken.now c.args.done.now c.args.trail.now c.look.trail c.start.new.trail c.args.self.now c.look.self c.start.new.self c.look.fresh.items c.look.at c.args.walked.now c.look.walked c.look.invariant (first_within c.args.store.now.held c.args.done.now c.args.trail.now.steps c.look.trail.steps c.args.walked.now c.look.invariant.extends c.requires.done c.requires.walked) c.start.ensures.extends c.start.ensures.reserved c.in-Conflict.ensures.right.0).fine

pub look-preserved-in-Stays : goal.look-preserved-in-Stays
look-preserved-in-Stays c =
    subst (λ (z : Table). AtFresh c.args.store.now.held c.args.taken.now c.args.done.now c.args.trail.now c.start.new.trail c.args.self.now z c.look.fresh.items (c.look.at + 1) c.args.walked.now c.look.walked) (sym c.in-Stays.ensures.right.0)
    (fresh_stays c.args.store.now.held c.args.taken.now c.args.done.now c.args.trail.now c.look.trail c.start.new.trail c.args.self.now c.look.self c.look.fresh.items c.look.at c.args.walked.now c.look.walked c.look.invariant (first_within c.args.store.now.held c.args.done.now c.args.trail.now.steps c.look.trail.steps c.args.walked.now c.look.invariant.extends c.requires.done c.requires.walked) c.start.ensures.extends c.start.ensures.reserved
    (subst (λ (n : ℕ). IsSeen c.args.store.now.held c.args.taken.now c.start.new.trail.steps n) (get_or_read_under c.look.fresh.items c.look.at (vec_len c.look.fresh) c.index-n.result.now 0 c.index-n.ensures (omega (arith, c.look-test.true, c.len.ensures)) (omega (arith, c.look.fresh.ok.0))) c.in-Stays.ensures.right.1))

pub look-preserved : goal.look-preserved
look-preserved c =
    fresh_started c.args.store.now.held c.args.taken.now c.args.done.now c.args.trail.now c.look.trail c.start.new.trail c.args.self.now c.look.self c.start.new.self c.look.fresh.items c.swap_remove-in-Watched.new.self.items c.look.at c.args.walked.now c.look.walked c.walked_before.result c.in-Watched.two c.look.invariant
    (omega (arith, c.look-test.true, c.len.ensures, c.look.fresh.ok.0)) (first_within c.args.store.now.held c.args.done.now c.args.trail.now.steps c.look.trail.steps c.args.walked.now c.look.invariant.extends c.requires.done c.requires.walked) c.requires.done c.requires.walked (record {
      len = omega (arith, c.swap_remove-in-Watched.ensures.len, c.look.fresh.ok.0, c.swap_remove-in-Watched.new.self.ok.0);
      last = λ h.
          let l : vec_len c.look.fresh - 1 ≡ length c.look.fresh.items - 1 = omega (arith, c.look.fresh.ok.0) in
          c.swap_remove-in-Watched.ensures.by_index.0 0 (omega (arith, h, c.look.fresh.ok.0)) ∙ ap (λ (j : ℕ). get_or c.look.fresh.items j 0) l;
      others = λ k q h. c.swap_remove-in-Watched.ensures.by_index.1 k 0 q (omega (arith, h, c.look.fresh.ok.0));
    }) c.start.ensures.watched c.start.ensures.heads c.start.ensures.extends c.start.ensures.reserved
    (subst (λ (n : ℕ). IsStarted c.args.taken.now n c.look.trail.steps c.start.new.trail.steps c.look.self c.start.new.self c.in-Watched.two) (get_or_read_under c.look.fresh.items c.look.at (vec_len c.look.fresh) c.index-n.result.now 0 c.index-n.ensures (omega (arith, c.look-test.true, c.len.ensures)) (omega (arith, c.look.fresh.ok.0))) c.in-Watched.ensures.right)
    c.walked_before.ensures.less c.walked_before.ensures.apart

pub returns-clause-right : goal.returns-clause-right
returns-clause-right c = fresh_last c.args.store.now.held c.args.taken.now c.args.done.now c.args.trail.now c.look.trail c.args.self.now c.look.self c.look.fresh.items c.look.at c.args.walked.now c.look.walked c.look.invariant (omega (arith, c.look-test.false, c.len.ensures, c.look.fresh.ok.0))
