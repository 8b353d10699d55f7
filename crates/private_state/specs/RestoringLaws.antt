-- What is told of variables that are restored one after another.
use Rattle.std.proofs.Common.{List, [], ◌∷◌, ◌++◌, refl, sym, subst}
use Rattle.sat_lits.specs.declared.literal.Own.{Own}
use Rattle.state_laws.specs.State.{State}
use Rattle.private_state.specs.Restoring.{CanRestore, Restores, CanRestoreAll, AreRestored}

-- one variable more is restored
pub restored_more : (vs : List Own) (s t u : State) (v : Own) → AreRestored vs s t → Restores t u v → AreRestored (vs ++ v ∷ []) s u
restored_more [] s t u v a r = (u, (subst (λ (z : State). Restores z u v) a r, refl))
restored_more (w ∷ vs) s t u v a r = (a.0, (a.1.0, restored_more vs a.0 t u v a.1.1 r))

-- one variable more can be restored where it can once the others are
pub can_more : (vs : List Own) (s : State) (v : Own) → CanRestoreAll vs s → ((t : State) → AreRestored vs s t → CanRestore t v) → CanRestoreAll (vs ++ v ∷ []) s
can_more [] s v c h = (h s refl, λ t r. tt)
can_more (w ∷ vs) s v c h = (c.0, λ m r. can_more vs m v (c.1 m r) (λ t a. h t (m, (r, a))))

-- what was restored before the last one
pub restored_before : (vs : List Own) (s u : State) (v : Own) → AreRestored (vs ++ v ∷ []) s u → (t : State) × (AreRestored vs s t × Restores t u v)
restored_before [] s u v a = (s, (refl, subst (λ (z : State). Restores s z v) (sym a.1.1) a.1.0))
restored_before (w ∷ vs) s u v a = let (t, b) = restored_before vs a.0 u v a.1.1 in (t, ((a.0, (a.1.0, b.0)), b.1))
