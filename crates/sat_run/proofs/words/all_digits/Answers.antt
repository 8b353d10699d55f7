use Rattle.std.proofs.Common.{◌≡◌, ◌↔◌, ℕ, ◌<◌, true, length, get_or, rules}
use Rattle.std.specs.Char.{is_ascii_digit}
use Rattle.sat_run.proofs.Options.{digits_test}
use Rattle.sat_run.proofs.words.all_digits.Goals as goal

pub returns : goal.returns
returns c =
    let ds = c.args.word.now in
    let each : (c.all.result ≡ true) ↔ ((k : ℕ) → k < length ds → is_ascii_digit (get_or ds k 0) ≡ true) = search rules in
    digits_test c.all.result ds each
