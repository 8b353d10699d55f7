-- What stays where variables are restored one after another.
use Rattle.std.proofs.Common.{◌≡◌, List, [], ◌∷◌, sym, ap, subst, ◌∙◌}
use Rattle.sat_lits.specs.declared.literal.Own.{Own}
use Rattle.state_laws.specs.State.{State}
use Rattle.state_laws.specs.Moves.{restored}
use Rattle.state_laws.specs.Stands.{Stands}
use Rattle.state_laws.specs.RestoreLaws.{restored-Stands}
use Rattle.state_laws.specs.Kernel.{Kernel, state_of, TookSame}
use Rattle.sync_laws.specs.Met.{KeepsMet}
use Rattle.sync_laws.specs.KeepLaws.{keeps_same, keeps_as, keeps_trans, restored-KeepsMet}
use Rattle.private_state.specs.Restoring.{Restores, AreRestored}

-- the state stands
one_stands : (s t : State) (v : Own) → Restores s t v → Stands s → Stands t
one_stands s t v r h = subst (λ (z : State). Stands z) (sym r.becomes) (restored-Stands r.place v r.clauses s r.restorable h)

pub still_stands : (vs : List Own) (s t : State) → AreRestored vs s t → Stands s → Stands t
still_stands [] s t a h = subst (λ (z : State). Stands z) (sym a) h
still_stands (v ∷ vs) s t a h = still_stands vs a.0 t a.1.1 (one_stands s a.0 v a.1.0 h)

-- each clause that was met is met
pub restored_KeepsMet : (vs : List Own) (s t : State) → AreRestored vs s t → Stands s → KeepsMet s t
restored_KeepsMet [] s t a h = keeps_same s t a
restored_KeepsMet (v ∷ vs) s t a h = keeps_trans s a.0 t (one a.0 a.1.0) (restored_KeepsMet vs a.0 t a.1.1 (one_stands s a.0 v a.1.0 h))
  where
    one : (m : State) → Restores s m v → KeepsMet s m
    one m r = keeps_as s (restored r.place v r.clauses s) m r.becomes (restored-KeepsMet r.place v r.clauses s r.restorable h.places)

same_parts : {X : Type 0} (f : State → X) → ((s t : State) (v : Own) → Restores s t v → f t ≡ f s) → (vs : List Own) (s t : State) → AreRestored vs s t → f t ≡ f s
same_parts f h [] s t a = ap f a
same_parts f h (v ∷ vs) s t a = same_parts f h vs a.0 t a.1.1 ∙ h s a.0 v a.1.0

-- what was taken is the same, and so is whether the state was refuted
pub restored_TookSame : (vs : List Own) (k n : Kernel) → AreRestored vs (state_of k) (state_of n) → TookSame k n
restored_TookSame vs k n a =
    record {
      items = same_parts (λ (s : State). s.items) (λ s t v r. ap (λ (z : State). z.items) r.becomes) vs (state_of k) (state_of n) a;
      entries = same_parts (λ (s : State). s.entries) (λ s t v r. ap (λ (z : State). z.entries) r.becomes) vs (state_of k) (state_of n) a;
      definitions = same_parts (λ (s : State). s.definitions) (λ s t v r. ap (λ (z : State). z.definitions) r.becomes) vs (state_of k) (state_of n) a;
      okay = λ e. sym (same_parts (λ (s : State). s.okay) (λ s t v r. ap (λ (z : State). z.okay) r.becomes) vs (state_of k) (state_of n) a) ∙ e;
    }
