use Rattle.std.proofs.Common.{true, false, arith}
use Rattle.state_laws.specs.Kernel.{state_of}
use Rattle.sync_laws.specs.KeepLaws.{keeps_trans}
use Rattle.equiv_replace.proofs.Replacing.{replaced_if, only_more_replaced, took_more}
use Rattle.equiv_replace.proofs.replace.replace_all.Goals as goal
use Rattle.equiv_replace.proofs.replace.replace_all.Goals.{then-branch, else-branch}

pub returns-in_err-replace_one-clause-kept : goal.returns-in_err-replace_one-clause-kept
returns-in_err-replace_one-clause-kept c = keeps_trans (state_of c.args.state.now) (state_of c.each.state) (state_of c.replace_one.new.state) c.each.invariant.kept c.replace_one.ensures.kept

pub each-preserved : goal.each-preserved
each-preserved c =
    record {
      replacing = c.in_ok-replace_one.ensures.replacing;
      replaced =
          elim c.if-branch.branch [
            | then-branch w ↦ replaced_if c.args.state.now c.each.state c.replace_one.new.state c.each.count c.if-branch.count c.in_ok-replace_one.field-0 true w.if-branch.true w.count-is c.each.invariant.replaced c.in_ok-replace_one.ensures.replaced
            | else-branch w ↦ replaced_if c.args.state.now c.each.state c.replace_one.new.state c.each.count c.if-branch.count c.in_ok-replace_one.field-0 false w.if-branch.false w.count-is c.each.invariant.replaced c.in_ok-replace_one.ensures.replaced
          ];
      taken = took_more c.args.state.now c.each.state c.replace_one.new.state c.each.invariant.taken c.replace_one.ensures.taken;
      pushed = only_more_replaced c.args.state.now c.each.state c.replace_one.new.state c.each.invariant.pushed c.replace_one.ensures.pushed;
      kept = keeps_trans (state_of c.args.state.now) (state_of c.each.state) (state_of c.replace_one.new.state) c.each.invariant.kept c.replace_one.ensures.kept;
      few =
          elim c.if-branch.branch [
            | then-branch w ↦ omega (arith, w.count-is, c.each.invariant.few)
            | else-branch w ↦ omega (arith, w.count-is, c.each.invariant.few)
          ];
    }
