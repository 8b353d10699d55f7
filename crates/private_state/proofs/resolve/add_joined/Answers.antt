use Rattle.std.proofs.Common.{◌∙◌, ◌++◌, sym}
use Rattle.std.proofs.lemmas.List.Folds.{list_all-append}
use Rattle.std.proofs.lemmas.Bool.{and_from}
use Rattle.rebuild_stack.specs.declared.entry.Root.TheVariants.{Last}
use Rattle.state_laws.specs.Held.{has_inner}
use Rattle.removed_vars.specs.CollectLaws.{put_active, put_distinct}
use Rattle.removed_vars.specs.CollectLaws.{stores_more}
use Rattle.private_state.proofs.resolve.add_joined.Goals as goal

pub in_lits-requires : goal.in_lits-requires
in_lits-requires c =
    rw c.as_slice.ensures
    (put_active c.args.maps.now (λ l. Last l) (c.args.left.now ++ c.args.right.now) c.in-Some.clause
    (list_all-append (has_inner c.args.maps.now) c.args.left.now c.args.right.now ∙ and_from _ _ c.requires.left c.requires.right)
    (sym c.in-Some.is ∙ c.in_ok-clause.ensures))

pub returns : goal.returns
returns c = λ cs s.
    rw (sym (sym c.in-Some.is ∙ c.in_ok-clause.ensures))
    (stores_more c.args.maps.now c.args.to.now.items c.push.new.self.items cs c.in_ok-lits.lits c.in-Some.clause c.in_ok-push.ensures.items (c.in_ok-lits.ensures ∙ c.as_slice.ensures)
    (put_distinct c.args.maps.now (λ l. Last l) (c.args.left.now ++ c.args.right.now) c.in-Some.clause c.in_ok-lits.lits (sym c.in-Some.is ∙ c.in_ok-clause.ensures) (c.in_ok-lits.ensures ∙ c.as_slice.ensures))
    s)
