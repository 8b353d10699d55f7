use Rattle.std.proofs.Common.{◌≡◌, ◌<◌, ◌+◌, ◌^◌, rules}
use Rattle.std.proofs.lemmas.Bool.{not-true}
use Rattle.trail.specs.Trail.{level_of}
use Rattle.trail.specs.Laws.{room_for_level}
use Rattle.trail.proofs.trail.Trail.decide.Goals as goal

pub overflow_add-level : goal.overflow_add-level
overflow_add-level c =
    let l : level_of c.args.self.now.steps + 1 < 2 ^ 32 = room_for_level c.args.self.now c.args.lit c.level-level.ensures.kept c.requires.reserved (not-true _ c.requires.unset) in
    let e : c.level-level.result ≡ level_of c.args.self.now.steps = c.level-level.ensures.value in
    search rules
