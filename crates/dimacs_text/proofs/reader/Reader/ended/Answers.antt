use Rattle.dimacs_text.proofs.Calls.{tells, settles_ended}
use Rattle.dimacs_text.proofs.reader.Reader.ended.Goals as goal

pub returns : goal.returns
returns c = record {
  told = tells c.args.self.now c.has_ended.result c.has_ended.ensures;
  settled = λ e limits text given h. settles_ended c.args.self.now limits text given (c.has_ended.ensures.0 e) h;
}
