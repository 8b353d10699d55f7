use Rattle.std.proofs.Common.{sym, ap, ◌∙◌}
use Rattle.std.proofs.lemmas.List.Folds.{list_all-map}
use Rattle.std.specs.List.{list_all}
use Rattle.sat_lits.specs.declared.literal.OwnLit.{OwnLit}
use Rattle.state_laws.specs.declared.definition.Definition.{Definition}
use Rattle.parity_forms.specs.Parities.{variables_of}
use Rattle.parity_forms.specs.InMaps.{may_be_named}
use Rattle.parity_forms.proofs.defined.defining_clauses.Goals as goal

pub and_clauses-requires : goal.and_clauses-requires
and_clauses-requires c =
    ap (list_all (λ (l : OwnLit). may_be_named c.args.maps.now l.var)) c.as_slice-in-And.ensures
    ∙ (sym (list_all-map (may_be_named c.args.maps.now) (λ (l : OwnLit). l.var) c.in-And.lits)
    ∙ (ap (λ (d : Definition). list_all (may_be_named c.args.maps.now) (variables_of d)) (sym c.in-And.is) ∙ c.requires))
