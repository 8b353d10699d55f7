use Rattle.std.proofs.Common.{◌≡◌, ◌∙◌, ℕ, ◌+◌, ◌-◌, List, length, sym, ap, subst, arith}
use Rattle.sat_lits.specs.declared.literal.Own.{Own}
use Rattle.state_laws.specs.Kernel.{state_of}
use Rattle.restore_var.specs.Marks.{is_marked}
use Rattle.restore_var.proofs.Restoring.{AreHalfway, none_listed, next_listed, next_kept, all_listed}
use Rattle.restore_var.proofs.bring_back.marked_gone.Goals as goal

pub down-init : goal.down-init
down-init c =
    rw (c.new-vars.ensures.items, ap length (c.entries-count.ensures ∙ c.stack.ensures)) (none_listed (is_marked c.args.marks.now) (state_of c.args.state.now))

pub down-preserved-in-Continue-1 : goal.down-preserved-in-Continue-1
down-preserved-in-Continue-1 c =
    let here : c.down.at ≡ (c.down.at - 1) + 1 = omega (arith, c.down-test.true) in
    subst (λ (vs : List Own). AreHalfway (is_marked c.args.marks.now) (state_of c.args.state.now) vs (c.down.at - 1)) (sym c.in_ok-push.ensures.items)
    (next_listed (is_marked c.args.marks.now) (state_of c.args.state.now) c.down.vars.items (c.down.at - 1) c.in-Some.var c.requires.standing.stands c.requires.closed
    (subst (λ (k : ℕ). AreHalfway (is_marked c.args.marks.now) (state_of c.args.state.now) c.down.vars.items k) here c.down.invariant) (λ e q. sym c.in-Some.is ∙ c.marked_at.ensures e q))

pub down-preserved : goal.down-preserved
down-preserved c =
    let here : c.down.at ≡ (c.down.at - 1) + 1 = omega (arith, c.down-test.true) in
    next_kept (is_marked c.args.marks.now) (state_of c.args.state.now) c.down.vars.items (c.down.at - 1)
    (subst (λ (k : ℕ). AreHalfway (is_marked c.args.marks.now) (state_of c.args.state.now) c.down.vars.items k) here c.down.invariant) (λ e q. sym c.in_default.is ∙ c.marked_at.ensures e q)

pub returns : goal.returns
returns c =
    let here : c.down.at ≡ 0 = omega (arith, c.down-test.false) in
    all_listed (is_marked c.args.marks.now) (state_of c.args.state.now) c.down.vars.items (subst (λ (k : ℕ). AreHalfway (is_marked c.args.marks.now) (state_of c.args.state.now) c.down.vars.items k) here c.down.invariant)
