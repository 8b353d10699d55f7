use Rattle.state_laws.specs.Kernel.{state_of}
use Rattle.sync_laws.specs.KeepLaws.{keeps_as}
use Rattle.one_solver.proofs.Fixing.{renumbered_basic, renumbered_same, renumbered_fewer, renumbered_pushed, renumbered_fixed, renumbered_left}
use Rattle.one_solver.proofs.units.fix_units.Goals as goal

pub returns-then-branch : goal.returns-then-branch
returns-then-branch c =
    record {
      basic = renumbered_basic c.fix_each.new.state c.compact.new.self c.compact.ensures.same c.in_ok-fix_each.ensures.basic;
      same = renumbered_same c.args.state.now c.fix_each.new.state c.compact.new.self c.compact.ensures.same c.in_ok-fix_each.ensures.same;
      fewer = renumbered_fewer c.args.state.now c.fix_each.new.state c.compact.new.self c.compact.ensures.state c.in_ok-fix_each.ensures.fewer;
      pushed = renumbered_pushed c.args.state.now c.fix_each.new.state c.compact.new.self c.compact.ensures.same c.in_ok-fix_each.ensures.pushed;
      met = keeps_as (state_of c.args.state.now) (state_of c.fix_each.new.state) (state_of c.compact.new.self) c.compact.ensures.state c.in_ok-fix_each.ensures.met;
      fixed = renumbered_fixed c.args.state.now c.fix_each.new.state c.compact.new.self c.compact.ensures.same c.in_ok-fix_each.ensures.fixed;
      left = renumbered_left c.fix_each.new.state c.compact.new.self c.compact.ensures.same c.compact.ensures.state c.in_ok-fix_each.ensures.left;
    }
