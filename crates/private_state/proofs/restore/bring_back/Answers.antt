use Rattle.std.proofs.Common.{◌≡◌, ◌∙◌, List, ap, eq-eqb, refl}
use Rattle.sat_lits.specs.ListLaws.{any_get}
use Rattle.sat_lits.specs.declared.literal.OwnLit.{OwnLit}
use Rattle.rebuild_stack.specs.Entries.{is_block_of}
use Rattle.rebuild_stack.specs.Roots.{root}
use Rattle.rebuild_stack.specs.PutIn.{put_in_all}
use Rattle.rebuild_stack.specs.Values.{each_lit}
use Rattle.rebuild_stack.specs.declared.entry.Entry.TheVariants.{Gone}
use Rattle.state_laws.specs.Held.{has_inner}
use Rattle.removed_vars.specs.Restoring.{left_by}
use Rattle.private_state.proofs.Reviving.{revived_back}
use Rattle.private_state.proofs.Thinning.{named_once, same_clauses}
use Rattle.private_state.proofs.restore.bring_back.Goals as goal

pub block_of-block-requires : goal.block_of-block-requires
block_of-block-requires c = any_get (is_block_of c.args.var) c.args.removed.now.entries c.requires.back.gone.place (Gone c.args.var c.requires.back.clauses) c.requires.back.gone.entry (eq-eqb c.args.var.0 c.args.var.0 refl)

pub hold_block-requires-clause-active : goal.hold_block-requires-clause-active
hold_block-requires-clause-active c =
    let same : c.block_of-block.result.now ≡ c.requires.back.clauses =
    same_clauses c.args.var c.args.removed.now.entries c.requires.back.clauses c.block_of-block.result.now (named_once c.args.removed.now.entries c.requires.order c.args.var.0) c.requires.back.gone c.block_of-block.ensures in
    ap (λ (cs : List (List OwnLit)). each_lit (has_inner c.revive.new.self) (put_in_all (root (left_by c.revive.new.self c.args.removed.now.entries)) cs)) same
    ∙ c.requires.back.active c.in_ok-revive.field-0 c.revive.new.self c.in_ok-revive.ensures.ok

pub returns-in-Err-clause-err : goal.returns-in-Err-clause-err
returns-in-Err-clause-err c = revived_back c.args.maps.now c.revive.new.self c.retire.new.self c.args.var c.in_ok-revive.field-0 c.in_ok-revive.ensures.ok c.requires.back.retired c.requires.back.there c.retire.ensures.retired
