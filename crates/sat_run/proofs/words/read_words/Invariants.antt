use Rattle.std.proofs.Common.{◌≡◌, ◌<◌, ◌⊎◌, None, map, drop}
use Rattle.sat_run.specs.Words.{options_after, options_of}
use Rattle.sat_run.proofs.words.read_words.Given as goal

abbrev pub invariant-loop-at : goal.invariant-loop-at
invariant-loop-at l = record {
  read : options_after l.chosen (map (λ word. word.now) (drop l.at l.words)) ≡ options_of (map (λ word. word.now) l.words);
  some : (l.chosen.named ≡ None) ⊎ (0 < l.at);
}
