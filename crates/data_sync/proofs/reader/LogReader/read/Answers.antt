use Rattle.std.proofs.Common.{◌≡◌, ◌∙◌, ◌+◌, ◌≤◌, ℕ, refl, ap, sym, subst, ◌==◌, [], ◌∷◌, ◌++◌, Some, None, arith}
use Rattle.std.specs.List.{slice_get}
use Rattle.std.proofs.lemmas.Option.{slice_get-get_or}
use Rattle.sat_lits.specs.declared.shared.Shared.{Shared}
use Rattle.state_laws.specs.State.{State}
use Rattle.state_laws.specs.Kernel.{state_of}
use Rattle.data_sync.specs.Taking.{Attempt, HasRead, IsRead, others}
use Rattle.data_sync.specs.ReadLaws.{next-IsRead, waits-IsRead}
use Rattle.data_sync.specs.TakingLaws.{read_takes, read_waits, others_more, attempt_one}
use Rattle.data_sync.proofs.reader.LogReader.read.Goals.{in-None+in_ok-push-in-None, in-Some}
use Rattle.data_sync.proofs.reader.LogReader.read.Goals as goal

pub read-preserved : goal.read-preserved
read-preserved c =
    let e : Shared = c.index-log-place.result in
    let s : State = state_of c.args.state.now in
    let t : State = state_of c.read.state in
    let u : State = state_of c.try_import.new.state in
    let at : slice_get c.args.log.now c.read.place ≡ Some e = slice_get-get_or c.args.log.now c.read.place e c.read-test.true ∙ ap (λ (z : Shared). Some z) (sym c.index-log-place.is) in
    let h : HasRead s t c.args.log.now c.read.place c.read.self-inside.waiting.items = subst (λ (n : ℕ). HasRead s t c.args.log.now n c.read.self-inside.waiting.items) c.read.invariant.at c.read.invariant.walked in
    let k : IsRead (state_of c.args.state.now) c.args.self.now.cursor c.args.self.now.waiting c.args.log.now → IsRead t c.read.place c.read.self-inside.waiting.items c.args.log.now =
    λ r. subst (λ (n : ℕ). IsRead t n c.read.self-inside.waiting.items c.args.log.now) c.read.invariant.at (c.read.invariant.read r) in
    elim c.match-branch-2.branch [
      | in-None+in_ok-push-in-None w ↦
          (let a : Attempt t u e c.args.solver None = subst (Attempt t u e c.args.solver) w.in-None.is c.in_ok-try_import.ensures.ok in
          record {
            at = refl;
            read = λ r. rw w.self-inside-is (rw w.in_ok-push-in-None.ensures.items (subst (λ (z : State). IsRead z (c.read.place + 1) (c.read.self-inside.waiting.items ++ c.read.place ∷ []) c.args.log.now) (sym a.0) (waits-IsRead t c.read.place c.read.self-inside.waiting.items c.args.log.now (k r))));
            walked = rw w.self-inside-is (rw w.in_ok-push-in-None.ensures.items (read_waits s t u c.args.log.now c.read.place c.read.self-inside.waiting.items e at h a.0 a.1));
            count = w.count-is ∙ (c.read.invariant.count ∙ ap (λ (z : State). others c.args.solver s z) (sym a.0));
            few = omega (arith, w.count-is, c.read.invariant.few);
          })
      | in-Some w ↦
          (let a : Attempt t u e c.args.solver (Some w.in-Some.other) = subst (Attempt t u e c.args.solver) w.in-Some.is c.in_ok-try_import.ensures.ok in
          let one : w.in-Some.other ≤ 1 = attempt_one w.in-Some.other (e.solver == c.args.solver) a.1 in
          record {
            at = refl;
            read = λ r. rw w.self-inside-is (next-IsRead t u c.read.place c.read.self-inside.waiting.items c.args.log.now e c.requires.once at a.0.entries (k r));
            walked = rw w.self-inside-is (read_takes s t u c.args.log.now c.read.place c.read.self-inside.waiting.items e at h a.0);
            count = w.count-is ∙ (ap (λ (n : ℕ). n + w.in-Some.other) c.read.invariant.count ∙ sym (others_more c.args.solver s t u c.args.log.now e w.in-Some.other h.reads a.0 a.1));
            few = omega (arith, w.count-is, c.read.invariant.few, one);
          })
    ]
