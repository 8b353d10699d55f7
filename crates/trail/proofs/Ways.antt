-- The way back, step by step.
use Rattle.std.proofs.Common.{◌≡◌, ◌<◌, ◌≤◌, ◌+◌, ℕ, min, true, List, [], ◌∷◌, drop, sym, ap, ◌∙◌, ⊎_elim, arith}
use Rattle.std.proofs.lemmas.Bool.{and_parts}
use Rattle.trail.specs.declared.trail.Step.{Step}
use Rattle.trail.specs.Trail.{Assignment, IsKept, level_of, decided, shaped, shaped_step, back_to}
use Rattle.trail.specs.Laws.{step_level, back_nowhere, back_to-drop}

-- a trail on its way back to a level
pub record IsOnWay (level : ℕ) (was trail : Assignment) : Type 0 where
  pub way : back_to level trail.steps ≡ back_to level was.steps
  pub room : trail.reserved ≡ was.reserved
  pub lower : min level (level_of trail.steps) ≡ min level (level_of was.steps)
  pub same : level_of was.steps ≤ level → trail ≡ was

lower_end : (t : List Step) (k : ℕ) → shaped t ≡ true → k < level_of t → min k (level_of (drop 1 t)) ≡ k
lower_end [] k e h = absurd (omega arith)
lower_end (s ∷ older) k e h =
    let p : (shaped_step older s ≡ true) × (shaped older ≡ true) = and_parts _ _ e in
    ⊎_elim (λ (f : s.level ≡ level_of older). omega arith) (λ (f : (s.level ≡ level_of older + 1) × (decided s.reason ≡ true)). omega arith) (step_level older s p.0)

-- one step more is taken back
pub way_on : (level : ℕ) (was trail : Assignment) → IsOnWay level was trail → IsKept trail → level < level_of trail.steps → IsOnWay level was (record trail { steps = drop 1 trail.steps })
way_on level was trail w k h =
    record {
      way = back_to-drop trail.steps level h ∙ w.way;
      room = w.room;
      lower = let a : min level (level_of (drop 1 trail.steps)) ≡ level = lower_end trail.steps level k.sound h in let b : min level (level_of trail.steps) ≡ min level (level_of was.steps) = w.lower in omega arith;
      same = λ l. absurd (let e : level_of trail.steps ≡ level_of was.steps = ap (λ (a : Assignment). level_of a.steps) (w.same l) in omega arith);
    }

-- the way is at its end
pub way_end : (level : ℕ) (was trail : Assignment) → IsOnWay level was trail → IsKept trail → level_of trail.steps ≤ level → trail ≡ record was { steps = back_to level was.steps }
way_end level was trail w k h =
    rw (← w.room) (ap (λ (t : List Step). record { steps = t; reserved = trail.reserved }) (sym (back_nowhere trail.steps level k.sound h) ∙ w.way))
