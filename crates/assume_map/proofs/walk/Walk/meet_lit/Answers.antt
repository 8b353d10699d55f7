use Rattle.std.proofs.Common.{◌<◌, length, sym, ◌∙◌, arith}
use Rattle.assume_map.proofs.Walked.{new_kept, inside}
use Rattle.assume_map.proofs.walk.Walk.meet_lit.Goals as goal

pub returns-in_ok-keep-in-None-clause-met : goal.returns-in_ok-keep-in-None-clause-met
returns-in_ok-keep-in-None-clause-met c =
    λ rs e w. new_kept c.args.maps.now rs c.args.position c.args.self.now c.keep.new.self c.args.lit e (sym c.mark_of.ensures ∙ c.in-None.is)
    (let b : c.args.lit.var.0 < length c.args.maps.now.inners = inside c.args.maps.now.inners c.args.lit.var.0 c.requires.active in omega (arith, c.requires.vars)) c.in_ok-keep-in-None.ensures.ok w
