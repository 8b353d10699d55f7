use Rattle.std.proofs.Common.{◌≡◌, ℕ, ◌-◌, ◌+◌, ◌^◌, ◌<◌, ◌≤◌, ◌++◌, true, List, length, take, drop, ap, sym, subst, ◌∙◌, arith, OnOk}
use Rattle.std.specs.List.{list_all}
use Rattle.std.proofs.lemmas.Result.{on_ok_weaker}
use Rattle.sat_lits.specs.Conflicts.{own_count}
use Rattle.sat_lits.specs.ConflictLaws.{own_count-few}
use Rattle.sat_lits.specs.Formulas.{names_known}
use Rattle.sat_lits.specs.declared.formula.Item.{Item}
use Rattle.state_laws.specs.State.{State, outer_count}
use Rattle.state_laws.specs.Kernel.{state_of}
use Rattle.state_laws.specs.Moves.{grown}
use Rattle.sync_laws.specs.Met.{KeepsMet}
use Rattle.sync_laws.specs.KeepLaws.{keeps_as, keeps_trans, plain-KeepsMet, grown-KeepsMet}
use Rattle.one_solver.specs.Taken.{HasTaken, with_items}
use Rattle.one_solver.proofs.Taking.{has_room, grown_basic, grown_count, rest_is, rest_passes, rest_room, took_some, took_all, took_longer, came_front, came_longer}
use Rattle.one_solver.proofs.take.take_formula.Goals as goal
use Rattle.one_solver.proofs.take.take_formula.Goals.{After-items}

pub grow-requires : goal.grow-requires
grow-requires c =
    let few : own_count c.args.formula.now.problem < 2 ^ 25 = own_count-few c.args.formula.now c.vars.ensures.within in
    subst (λ (n : ℕ). length c.args.state.now.definitions + (n - outer_count c.args.state.now.definitions) ≤ 2 ^ 31) (sym c.vars.ensures.value)
    (has_room c.args.state.now c.args.formula.now.problem c.requires.basic c.requires.front (omega (arith, few)))

known : (c : After-items) → outer_count c.grow.new.self.definitions ≡ c.args.formula.now.problem.vars
known c = grown_count c.args.state.now c.grow.new.self c.vars.result (subst (λ (n : ℕ). outer_count c.args.state.now.definitions ≤ n) (sym c.vars.ensures.value) c.requires.front.vars) c.in_ok-grow.ensures.ok ∙ c.vars.ensures.value

items : (c : After-items) → c.args.formula.now.problem.items ≡ c.grow.new.self.items ++ c.requires.front.more
items c = c.requires.front.items ∙ ap (λ (z : State). z.items ++ c.requires.front.more) (sym c.in_ok-grow.ensures.ok)

rest : (c : After-items) → take (length c.items.result.now - c.taken-taken.result) (drop c.taken-taken.result c.items.result.now) ≡ c.requires.front.more
rest c = rest_is c.items.result.now c.grow.new.self.items c.requires.front.more c.taken-taken.result (c.items.ensures.value ∙ items c) c.taken-taken.ensures

pub free_items-requires-clause-basic : goal.free_items-requires-clause-basic
free_items-requires-clause-basic c = grown_basic c.args.state.now c.grow.new.self _ c.requires.basic c.in_ok-grow.ensures.ok

pub free_items-requires-clause-known : goal.free_items-requires-clause-known
free_items-requires-clause-known c =
    let d : After-items = (goal.at.free_items-requires-clause-known c).After-items in
    subst (λ (xs : List Item). list_all (names_known (outer_count c.grow.new.self.definitions)) xs ≡ true) (sym (rest d))
    (rest_passes (names_known (outer_count c.grow.new.self.definitions)) c.args.formula.now.problem.items c.grow.new.self.items c.requires.front.more (items d)
    (subst (λ (n : ℕ). list_all (names_known n) c.args.formula.now.problem.items ≡ true) (sym (known d)) c.items.ensures.within.known))

pub returns-in_err-free_items-clause-front : goal.returns-in_err-free_items-clause-front
returns-in_err-free_items-clause-front c =
    let d : After-items = (goal.at.returns-in_err-free_items-clause-front c).After-items in
    came_front c.args.formula.now.problem c.grow.new.self c.free_items.new.state c.requires.front.more (known d) (items d) c.free_items.ensures.back.same

pub returns-in_err-free_items-clause-longer : goal.returns-in_err-free_items-clause-longer
returns-in_err-free_items-clause-longer c =
    let d : After-items = (goal.at.returns-in_err-free_items-clause-longer c).After-items in
    came_longer c.args.state.now c.grow.new.self c.free_items.new.state (let v : outer_count c.args.state.now.definitions ≤ c.args.formula.now.problem.vars = c.requires.front.vars in omega (arith, known d)) (ap (λ (z : State). z.items) c.in_ok-grow.ensures.ok) c.free_items.ensures.back.same

pub take_items-requires-clause-known : goal.take_items-requires-clause-known
take_items-requires-clause-known c =
    let d : After-items = (goal.at.take_items-requires-clause-known c).After-items in
    let vars : outer_count c.free_items.new.state.definitions ≡ c.args.formula.now.problem.vars = ap outer_count c.free_items.ensures.back.same.definitions ∙ known d in
    let all : c.args.formula.now.problem.items ≡ c.free_items.new.state.items ++ c.requires.front.more = items d ∙ ap (λ z. z ++ c.requires.front.more) (sym c.free_items.ensures.back.same.items) in
    subst (λ (xs : List Item). list_all (names_known (outer_count c.free_items.new.state.definitions)) xs ≡ true) (sym (rest d))
    (rest_passes (names_known (outer_count c.free_items.new.state.definitions)) c.args.formula.now.problem.items c.free_items.new.state.items c.requires.front.more all
    (subst (λ (n : ℕ). list_all (names_known n) c.args.formula.now.problem.items ≡ true) (sym vars) c.items.ensures.within.known))

pub take_items-requires-clause-room : goal.take_items-requires-clause-room
take_items-requires-clause-room c =
    let d : After-items = (goal.at.take_items-requires-clause-room c).After-items in
    let vars : outer_count c.free_items.new.state.definitions ≡ c.args.formula.now.problem.vars = ap outer_count c.free_items.ensures.back.same.definitions ∙ known d in
    let all : c.args.formula.now.problem.items ≡ c.free_items.new.state.items ++ c.requires.front.more = items d ∙ ap (λ z. z ++ c.requires.front.more) (sym c.free_items.ensures.back.same.items) in
    let few : own_count c.args.formula.now.problem < 2 ^ 25 = own_count-few c.args.formula.now c.vars.ensures.within in
    subst (λ (xs : List Item). own_count (with_items c.free_items.new.state xs) ≤ 2 ^ 31) (sym (rest d)) (rest_room c.args.formula.now.problem c.free_items.new.state c.requires.front.more vars all (omega (arith, few)))

pub returns-clause-ok : goal.returns-clause-ok
returns-clause-ok c =
    let d : After-items = (goal.at.returns-clause-ok c).After-items in
    let vars : outer_count c.free_items.new.state.definitions ≡ c.args.formula.now.problem.vars = ap outer_count c.free_items.ensures.back.same.definitions ∙ known d in
    let all : c.args.formula.now.problem.items ≡ c.free_items.new.state.items ++ c.requires.front.more = items d ∙ ap (λ z. z ++ c.requires.front.more) (sym c.free_items.ensures.back.same.items) in
    on_ok_weaker c.take_items.result (λ h. took_all c.args.formula.now.problem c.free_items.new.state c.take_items.new.state c.requires.front.more vars all h)
    (subst (λ (xs : List Item). OnOk c.take_items.result (HasTaken c.free_items.new.state c.take_items.new.state xs)) (rest d) c.take_items.ensures.ok)

pub returns-clause-front : goal.returns-clause-front
returns-clause-front c =
    let d : After-items = (goal.at.returns-clause-front c).After-items in
    let vars : outer_count c.free_items.new.state.definitions ≡ c.args.formula.now.problem.vars = ap outer_count c.free_items.ensures.back.same.definitions ∙ known d in
    let all : c.args.formula.now.problem.items ≡ c.free_items.new.state.items ++ c.requires.front.more = items d ∙ ap (λ z. z ++ c.requires.front.more) (sym c.free_items.ensures.back.same.items) in
    let (m, h) = subst (λ (xs : List Item). (n : ℕ) × HasTaken c.free_items.new.state c.take_items.new.state (take n xs)) (rest d) c.take_items.ensures.some in
    took_some c.args.formula.now.problem c.free_items.new.state c.take_items.new.state c.requires.front.more m vars all h

pub returns-clause-longer : goal.returns-clause-longer
returns-clause-longer c =
    let d : After-items = (goal.at.returns-clause-longer c).After-items in
    let vars : outer_count c.free_items.new.state.definitions ≡ c.args.formula.now.problem.vars = ap outer_count c.free_items.ensures.back.same.definitions ∙ known d in
    let (m, h) = subst (λ (xs : List Item). (n : ℕ) × HasTaken c.free_items.new.state c.take_items.new.state (take n xs)) (rest d) c.take_items.ensures.some in
    took_longer c.args.formula.now.problem c.args.state.now c.free_items.new.state c.take_items.new.state (take m c.requires.front.more) vars c.requires.front.vars
    (c.free_items.ensures.back.same.items ∙ ap (λ (z : State). z.items) c.in_ok-grow.ensures.ok) h

-- what is met stays so where the state grows
grown_met : (c : After-items) → KeepsMet (state_of c.args.state.now) (state_of c.grow.new.self)
grown_met c =
    let more : ℕ = c.vars.result - outer_count c.args.state.now.definitions in
    keeps_as (state_of c.args.state.now) (grown more (state_of c.args.state.now)) (state_of c.grow.new.self) c.in_ok-grow.ensures.ok (grown-KeepsMet more (state_of c.args.state.now))

pub returns-in_err-grow-clause-met : goal.returns-in_err-grow-clause-met
returns-in_err-grow-clause-met c = plain-KeepsMet c.args.state.now c.grow.new.self c.in_err-grow.ensures.err

pub returns-in_err-free_items-clause-met : goal.returns-in_err-free_items-clause-met
returns-in_err-free_items-clause-met c =
    let d : After-items = (goal.at.returns-in_err-free_items-clause-met c).After-items in
    keeps_trans (state_of c.args.state.now) (state_of c.grow.new.self) (state_of c.free_items.new.state) (grown_met d) c.free_items.ensures.met

pub returns-clause-met : goal.returns-clause-met
returns-clause-met c =
    let d : After-items = (goal.at.returns-clause-met c).After-items in
    let (n, h) = c.take_items.ensures.some in
    keeps_trans (state_of c.args.state.now) (state_of c.free_items.new.state) (state_of c.take_items.new.state)
    (keeps_trans (state_of c.args.state.now) (state_of c.grow.new.self) (state_of c.free_items.new.state) (grown_met d) c.free_items.ensures.met) h.met
