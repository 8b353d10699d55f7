use Rattle.std.proofs.Common.{◌<◌, ◌∙◌, ap, unwrap_or, arith}
use Rattle.analyze.proofs.Unmarking.{level_reserved}
use Rattle.analyze.proofs.marks.Marks.mark.Goals as goal

pub insert-requires : goal.insert-requires
insert-requires c =
    let r : c.args.var.0 < c.args.trail.now.reserved =
    level_reserved c.args.trail.now c.args.var.0 c.requires.kept (λ e. c.if-level-eq0.false (c.unwrap_or-level.ensures ∙ (ap (λ o. unwrap_or o 0) c.level_of.ensures ∙ e))) in
    omega (arith, r, c.requires.room)
