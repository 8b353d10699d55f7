use Rattle.std.proofs.Common.{◌≡◌, ◌∙◌, List, sym, subst}
use Rattle.std.proofs.lemmas.Result.{IfOk-weaker}
use Rattle.sat_lits.specs.declared.literal.Own.{Own}
use Rattle.state_laws.specs.State.{outer_count}
use Rattle.var_elim.specs.Eliminating.{Eliminates, NoneCanGo, is_left}
use Rattle.state_laws.specs.Kernel.{state_of}
use Rattle.one_solver.specs.Roots.{last_vars}
use Rattle.one_solver.proofs.Freeing.{lits_there}
use Rattle.one_solver.proofs.Eliminating.{gone_fewer, gone_stays, none_gone, left_free, frozen_left}
use Rattle.one_solver.proofs.Settling.{last_same, both_ok}
use Rattle.one_solver.proofs.settle.eliminate_others.Goals as goal
use Rattle.one_solver.proofs.settle.eliminate_others.Goals.{After-eliminate_some}

pub last_vars-requires : goal.last_vars-requires
last_vars-requires c = lits_there (outer_count c.args.state.now.definitions) c.args.assumptions.now c.requires.known

-- the frozen variables are those that are left of the assumptions
frozen : (c : After-eliminate_some) → c.deref.result.now ≡ last_vars c.args.state.now c.args.assumptions.now
frozen c = c.deref.ensures.value ∙ c.in_ok-frozen.ensures

pub returns-clause-free : goal.returns-clause-free
returns-clause-free c =
    let d = (goal.at.returns-clause-free c).After-eliminate_some in
    let (n, h) = c.eliminate_some.ensures.some in
    left_free c.args.state.now c.eliminate_some.new.state n (is_left c.args.state.now.maps c.deref.result.now c.args.solver) h c.args.assumptions.now
    (frozen_left c.args.state.now c.args.assumptions.now c.deref.result.now c.args.solver (frozen d)) c.eliminate_some.ensures.same.definitions c.requires.free

pub returns-clause-stays : goal.returns-clause-stays
returns-clause-stays c =
    let (n, h) = c.eliminate_some.ensures.some in
    gone_stays c.args.state.now c.eliminate_some.new.state n (is_left c.args.state.now.maps c.deref.result.now c.args.solver) h

pub returns-clause-fewer : goal.returns-clause-fewer
returns-clause-fewer c =
    IfOk-weaker c.eliminate_some.result _ _ (λ n h. gone_fewer c.args.state.now c.eliminate_some.new.state n (is_left c.args.state.now.maps c.deref.result.now c.args.solver) h) c.eliminate_some.ensures.done

pub returns-clause-none : goal.returns-clause-none
returns-clause-none c =
    IfOk-weaker c.eliminate_some.result _ _ (λ n h. none_gone c.args.state.now c.eliminate_some.new.state n (is_left c.args.state.now.maps c.deref.result.now c.args.solver) h) c.eliminate_some.ensures.done

pub returns-clause-bound : goal.returns-clause-bound
returns-clause-bound c =
    let d = (goal.at.returns-clause-bound c).After-eliminate_some in
    both_ok c.eliminate_some.result (λ n. Eliminates n (is_left c.args.state.now.maps c.deref.result.now c.args.solver) (state_of c.args.state.now) (state_of c.eliminate_some.new.state))
    (λ n. n ≡ 0 → NoneCanGo c.eliminate_some.new.state c.deref.result.now c.args.solver)
    (λ n. n ≡ 0 → NoneCanGo c.eliminate_some.new.state (last_vars c.eliminate_some.new.state c.args.assumptions.now) c.args.solver)
    (λ n h b z.
    subst (λ (vs : List Own). NoneCanGo c.eliminate_some.new.state vs c.args.solver)
    (frozen d ∙ sym (last_same c.args.state.now c.eliminate_some.new.state c.args.assumptions.now (none_gone c.args.state.now c.eliminate_some.new.state n (is_left c.args.state.now.maps c.deref.result.now c.args.solver) h z))) (b z))
    c.eliminate_some.ensures.done c.eliminate_some.ensures.none
