use Rattle.std.proofs.Common.{map, filter, ap, subst, ◌∙◌}
use Rattle.sat_lits.specs.declared.literal.ClauseId.{ClauseId}
use Rattle.clause_store.specs.Store.{Store, Held, IsKept}
use Rattle.state_laws.specs.Kernel.{state_of}
use Rattle.sync_laws.specs.KeepLaws.{keeps_trans}
use Rattle.one_solver.specs.Learned.{is_long, HasForgotten}
use Rattle.one_solver.proofs.Forgetting.{forgot_renumbered, forgot_met}
use Rattle.one_solver.proofs.Fixing.{renumbered_basic, renumbered_same, forgot_left}
use Rattle.one_solver.proofs.Keeping.{newest_renumbered, few_left}
use Rattle.one_solver.proofs.tidy.tidy.Goals as goal

pub drop_old-is_dropped-requires : goal.drop_old-is_dropped-requires
drop_old-is_dropped-requires c =
    record {
      kept = subst IsKept c.clauses.ensures.value c.in_ok-ids.ensures.kept;
      ids = ap (map (λ (k : ClauseId). k.0)) c.deref.ensures.value ∙ (c.in_ok-ids.ensures.ids ∙ ap (λ (s : Store). map (λ (h : Held). h.id) (filter is_long s.held)) c.clauses.ensures.value);
    }

pub returns : goal.returns
returns c =
    let f : HasForgotten c.fix_each.new.state c.compact_where.new.state = forgot_renumbered c.fix_each.new.state c.drop_old-is_dropped.new.state c.compact_where.new.state c.drop_old-is_dropped.ensures.forgotten c.compact_where.ensures.same c.compact_where.ensures.state in
    record {
      basic = renumbered_basic c.fix_each.new.state c.compact_where.new.state f.same c.in_ok-is_fixed.ensures.basic;
      same = renumbered_same c.args.state.now c.fix_each.new.state c.compact_where.new.state f.same c.in_ok-is_fixed.ensures.same;
      met = keeps_trans (state_of c.args.state.now) (state_of c.fix_each.new.state) (state_of c.compact_where.new.state) c.in_ok-is_fixed.ensures.met (forgot_met c.fix_each.new.state c.compact_where.new.state f);
      left = forgot_left c.fix_each.new.state c.compact_where.new.state f c.in_ok-is_fixed.ensures.left;
      few = few_left c.args.keep c.fix_each.new.state.store.held c.compact_where.new.state.store.held (newest_renumbered c.args.keep c.fix_each.new.state.store.held c.drop_old-is_dropped.new.state.store.held c.compact_where.new.state.store.held c.drop_old-is_dropped.ensures.newest c.compact_where.ensures.clauses);
    }
