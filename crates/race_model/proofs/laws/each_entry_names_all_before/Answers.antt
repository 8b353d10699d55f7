use Rattle.race_model.proofs.Runs.{each_names}
use Rattle.race_model.proofs.laws.each_entry_names_all_before.Goals as goal

pub returns : goal.returns
returns c = each_names
