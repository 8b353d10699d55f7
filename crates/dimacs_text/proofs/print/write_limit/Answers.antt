use Rattle.std.proofs.Common.{codes}
use Rattle.dimacs_text.specs.Texts.{counts_text}
use Rattle.dimacs_text.proofs.Printed.{parts_written}
use Rattle.dimacs_text.proofs.print.write_limit.Goals as goal

pub returns : goal.returns
returns c =
    parts_written _ _ _ _ _ (codes "s INDETERMINATE\nc limit") (counts_text c.args.counts.now) (codes "\n") c.in_ok-push_str.ensures.bytes c.in_ok-write_counts.ensures c.push_str-2.ensures.bytes
