use Rattle.std.proofs.Common.{◌≡◌, suc, false, List, map, take, ap, arith, ◌∙◌}
use Rattle.std.proofs.lemmas.List.{take_all}
use Rattle.sat_lits.specs.declared.literal.Lit.{Lit}
use Rattle.dimacs_text.specs.Commands.{greatest}
use Rattle.sat_run.proofs.Room.{within_greatest, greatest_more}
use Rattle.sat_run.proofs.carry.reach_of_lits.Goals as goal

no_lit : Lit
no_lit = record { var = record { 0 = 0 }; negative = false }

pub overflow_add-lit : goal.overflow_add-lit
unfolding no_lit
overflow_add-lit c = omega (arith, within_greatest (λ (x : Lit). suc x.var.0) c.args.lits.now c.loop-lit.lit-index no_lit (omega arith), c.requires)

pub loop-lit-preserved : goal.loop-lit-preserved
unfolding no_lit
loop-lit-preserved c =
    let more = greatest_more (λ (x : Lit). suc x.var.0) c.args.lits.now c.loop-lit.lit-index c.loop-lit.reach no_lit (omega arith) c.loop-lit.invariant in
    omega (arith, c.max-reach.ensures, more)

pub returns : goal.returns
returns c =
    let whole : take c.loop-lit.lit-index c.args.lits.now ≡ c.args.lits.now = take_all _ _ (omega arith) in
    c.loop-lit.invariant ∙ ap (λ (ls : List Lit). greatest (map (λ x. suc x.var.0) ls)) whole
