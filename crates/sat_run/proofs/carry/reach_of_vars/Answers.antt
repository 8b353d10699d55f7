use Rattle.std.proofs.Common.{◌≡◌, suc, List, map, take, ap, arith, ◌∙◌}
use Rattle.std.proofs.lemmas.List.{take_all}
use Rattle.sat_lits.specs.declared.literal.Var.{Var}
use Rattle.dimacs_text.specs.Commands.{greatest}
use Rattle.sat_run.proofs.Room.{within_greatest, greatest_more}
use Rattle.sat_run.proofs.carry.reach_of_vars.Goals as goal

no_var : Var
no_var = record { 0 = 0 }

pub overflow_add-var : goal.overflow_add-var
unfolding no_var
overflow_add-var c = omega (arith, within_greatest (λ (x : Var). suc x.0) c.args.vars.now c.loop-var.var-index no_var (omega arith), c.requires)

pub loop-var-preserved : goal.loop-var-preserved
unfolding no_var
loop-var-preserved c =
    let more = greatest_more (λ (x : Var). suc x.0) c.args.vars.now c.loop-var.var-index c.loop-var.reach no_var (omega arith) c.loop-var.invariant in
    omega (arith, c.max-reach.ensures, more)

pub returns : goal.returns
returns c =
    let whole : take c.loop-var.var-index c.args.vars.now ≡ c.args.vars.now = take_all _ _ (omega arith) in
    c.loop-var.invariant ∙ ap (λ (vs : List Var). greatest (map (λ x. suc x.0) vs)) whole
