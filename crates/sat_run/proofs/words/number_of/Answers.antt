use Rattle.std.proofs.Common.{◌≡◌, true, length, sym, ap, ◌∙◌}
use Rattle.std.specs.Str.{all_ascii_digits}
use Rattle.sat_run.proofs.Options.{not_empty, number_parsed}
use Rattle.sat_run.proofs.words.number_of.Goals as goal

pub returns : goal.returns
returns c =
    let all : all_ascii_digits c.args.word.now ≡ true = ap all_ascii_digits (sym c.as_bytes.ensures.value) ∙ sym c.all_digits.ensures ∙ c.if-not-all_digits.false in
    let some = not_empty (length c.args.word.now) c.is_empty.result c.is_empty.ensures c.if-is_empty.false in
    c.ok.ensures.value ∙ number_parsed c.args.word.now c.parse.result all some c.if-word-gt-MOST_DIGITS.false c.parse.ensures.value.0
