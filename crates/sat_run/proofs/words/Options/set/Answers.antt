use Rattle.std.proofs.Common.{◌≡◌, ℕ, ◌<◌, ◌≤◌, sym, ◌∙◌, subst}
use Rattle.sat_lits.specs.Limits.{standard_limits}
use Rattle.sat_run.specs.Words.{threads_of}
use Rattle.sat_run.proofs.Options.{threads_given}
use Rattle.sat_run.proofs.Refusals.{takes_threads}
use Rattle.sat_run.proofs.words.Options.set.Goals as goal

pub unwrap-requires : goal.unwrap-requires
unwrap-requires c =
    let threads = c.unwrap_or.result in
    let e : threads_of c.args.self ≡ threads = sym (c.unwrap_or.ensures ∙ threads_given c.args.self) in
    takes_threads c.set_num_threads.result c.args.solver.now c.set_max_confl.new.self c.args.self.max_conflicts threads c.requires.new c.set_max_confl.ensures
    (subst (λ (n : ℕ). 0 < n) e c.requires.some) (subst (λ (n : ℕ). n ≤ standard_limits.threads) e c.requires.few)
    c.set_num_threads.ensures.bad_count c.set_num_threads.ensures.too_late c.set_num_threads.ensures.only
