use Rattle.std.proofs.Common.{◌≡◌, List, sym, ap, ◌∙◌}
use Rattle.std.specs.List.{list_any}
use Rattle.sat_lits.specs.declared.shared.Shared.{Shared}
use Rattle.share_store.specs.Inside.{is_same}
use Rattle.share_store.proofs.Clauses.{found, not_found}
use Rattle.share_store.proofs.store.Store.has.Goals as goal

-- what the set answers is the answer of a walk over the log
walked : (c : goal.After-contains) → c.contains.result ≡ list_any (λ (e : Shared). is_same c.args.clause.now e.clause) c.args.self.now
walked c = c.contains.ensures ∙ c.self.invariant.indexed c.args.clause.now ∙ ap (λ (log : List Shared). list_any (λ e. is_same c.args.clause.now e.clause) log) c.self.view_is

pub returns-clause-yes : goal.returns-clause-yes
returns-clause-yes c e = found c.args.self.now c.args.clause.now (sym (walked c) ∙ e)

pub returns-clause-no : goal.returns-clause-no
returns-clause-no c e = not_found c.args.self.now c.args.clause.now (sym (walked c) ∙ e)
