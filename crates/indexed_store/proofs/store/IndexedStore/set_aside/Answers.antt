use Rattle.std.proofs.Common.{◌∙◌, ap, sym}
use Rattle.clause_store.specs.Store.{Store}
use Rattle.indexed_store.specs.Bounds.{is_bounded}
use Rattle.indexed_store.specs.Flags.{is_flagged}
use Rattle.indexed_store.proofs.Flagging.{aside_set}
use Rattle.indexed_store.proofs.store.IndexedStore.set_aside.Goals as goal

pub invariant_of-self : goal.invariant_of-self
invariant_of-self c =
    record {
      kept = c.self.invariant.kept;
      known = c.self.invariant.known;
      found = c.self.invariant.found;
      pairs_known = c.self.invariant.pairs_known;
      pairs_rise = c.self.invariant.pairs_rise;
      pairs_found = c.self.invariant.pairs_found;
      aside = λ v t. aside_set c.self.inside.aside.items c.self.inside.store.held c.args.var.0 v c.self.invariant.aside (ap (λ (s : Store). is_bounded c.args.var.0 s.held) c.self.view_is ∙ c.requires) (ap (λ z. is_flagged z v) (sym c.write_flag.ensures) ∙ t);
    }
