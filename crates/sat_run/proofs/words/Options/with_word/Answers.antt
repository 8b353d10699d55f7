use Rattle.std.proofs.Common.{◌≡◌, false, codes, sym, rules}
use Rattle.std.specs.Str.{bytes_eq}
use Rattle.std.proofs.lemmas.Str.Pattern.{starts_text}
use Rattle.sat_run.proofs.Options.{no_word}
use Rattle.sat_run.proofs.words.Options.with_word.Goals as goal

pub returns-in_default-strip_prefix-2 : goal.returns-in_default-strip_prefix-2
returns-in_default-strip_prefix-2 c =
    let word = c.args.word.now in
    let other : bytes_eq word (codes "--print-shared") ≡ false = search rules in
    no_word c.args.self word other (sym (starts_text false (codes "--maxconfl=") word c.in_default.ensures.cases)) (sym (starts_text false (codes "--max-input=") word c.in_default-strip_prefix.ensures.cases))
    (sym (starts_text false (codes "--threads=") word c.in_default-strip_prefix-2.ensures.cases))
