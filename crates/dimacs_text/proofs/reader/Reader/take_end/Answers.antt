use Rattle.dimacs_text.proofs.Calls.{concludes_goes, concludes_refused}
use Rattle.dimacs_text.proofs.reader.Reader.take_end.Goals as goal

pub returns-in-Ok-clause-ok : goal.returns-in-Ok-clause-ok
returns-in-Ok-clause-ok c = concludes_goes c.args.self.now c.end_step.new.self _ _ c.requires c.in-Ok.ensures

pub returns-in-Err-clause-refused : goal.returns-in-Err-clause-refused
returns-in-Err-clause-refused c = λ why e. concludes_refused c.args.self.now c.end_step.new.self _ _ c.in-Err.error why c.requires e c.in-Err.ensures
