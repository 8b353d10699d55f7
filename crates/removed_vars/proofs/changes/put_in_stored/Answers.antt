use Rattle.std.proofs.Common.{◌∙◌, ap, sym, [], ◌∷◌}
use Rattle.rebuild_stack.specs.Roots.{root}
use Rattle.rebuild_stack.specs.PutIn.{put_in}
use Rattle.state_laws.specs.Held.{own_clause}
use Rattle.removed_vars.specs.CollectLaws.{put_active, put_distinct}
use Rattle.removed_vars.proofs.changes.put_in_stored.Goals as goal

pub in_lits-requires : goal.in_lits-requires
in_lits-requires c =
    rw c.as_slice-2.ensures
    (put_active c.args.maps.now (root (c.args.entry.now ∷ [])) (own_clause c.args.maps.now c.args.lits.now) c.in-Some.clause c.requires
    (sym c.in-Some.is ∙ (c.in_ok-clause.ensures ∙ ap (put_in (root (c.args.entry.now ∷ []))) (c.as_slice.ensures ∙ c.in_ok-own.ensures.own))))

pub returns-clause-distinct : goal.returns-clause-distinct
returns-clause-distinct c =
    put_distinct c.args.maps.now (root (c.args.entry.now ∷ [])) (own_clause c.args.maps.now c.args.lits.now) c.in-Some.clause c.in_ok-stored.stored
    (sym c.in-Some.is ∙ (c.in_ok-clause.ensures ∙ ap (put_in (root (c.args.entry.now ∷ []))) (c.as_slice.ensures ∙ c.in_ok-own.ensures.own)))
    (c.in_ok-stored.ensures ∙ c.as_slice-2.ensures)
