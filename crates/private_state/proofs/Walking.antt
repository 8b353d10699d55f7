-- Variables that come back one after another, before their entries are taken out of the stack.
use Rattle.std.proofs.Common.{◌≡◌, ℕ, ◌+◌, ◌<◌, arith, true, false, List, Result, Ok, Err, length, get_or, take, drop, refl, sym, ap, subst, ◌∙◌}
use Rattle.std.specs.Prelude.{OnOk, OnErr, IsOk}
use Rattle.std.specs.Result.{is_err}
use Rattle.std.proofs.lemmas.List.{drop_more, take_all}
use Rattle.sat_lits.specs.declared.literal.Own.{Own}
use Rattle.sat_lits.specs.declared.list.NoMemory.{NoMemory}
use Rattle.clause_store.specs.Store.{Store}
use Rattle.var_maps.specs.Maps.{Maps}
use Rattle.state_laws.specs.State.{State}
use Rattle.state_laws.specs.Kernel.{Kernel, Standing, state_of}
use Rattle.removed_vars.specs.CollectLaws.{taken_at}
use Rattle.removed_vars.specs.Removed.{IsInOrder}
use Rattle.private_state.specs.Restoring.{CanRestore, Restores, CanRestoreAll, AreRestored, RestoresFew, CanComeBack, ComesBack, SayTheSame}
use Rattle.private_state.specs.RestoringLaws.{restored_more}
use Rattle.private_state.specs.MovingLaws.{in_order}
use Rattle.private_state.proofs.Thinning.{thinned, standing_thinned, can_back, came_back, back_stands, refused_state, refused_stands}

-- the variables before a place came back, and the others can
pub record AreUnderWay (vars : List Own) (i : ℕ) (s : State) (k : Kernel) : Type 0 where
  pub standing : Standing (thinned k)
  pub order : IsInOrder k.stack
  pub moves : AreRestored (take i vars) s (state_of (thinned k))
  pub can : CanRestoreAll (drop i vars) (state_of (thinned k))

-- all of them came back, or only the first few
pub record AreOver (vars : List Own) (s : State) (k : Kernel) (r : Result (Unit {0}) NoMemory) : Type 0 where
  pub standing : Standing (thinned k)
  pub order : IsInOrder k.stack
  pub ok : OnOk r (AreRestored vars s (state_of (thinned k)))
  pub err : OnErr r (RestoresFew vars s (state_of (thinned k)))

pub begun : (vars : List Own) (k n : Kernel) → k ≡ n → Standing k → CanRestoreAll vars (state_of n) → AreUnderWay vars 0 (state_of n) k
begun vars k n e h c =
    let t : thinned k ≡ n = standing_thinned k h ∙ e in
    record { standing = subst (λ (z : Kernel). Standing z) (sym (standing_thinned k h)) h; order = in_order k h; moves = ap state_of t; can = subst (λ (z : Kernel). CanRestoreAll vars (state_of z)) (sym t) c }

-- the next one
module _ (vars : List Own) (i : ℕ) (d : Own) (s : State) (k : Kernel) (l : i < length vars) (w : AreUnderWay vars i s k) where
  abbrev now : State
  now = state_of (thinned k)

  abbrev v : Own
  v = get_or vars i d

  can : CanRestore now v × ((t : State) → Restores now t v → CanRestoreAll (drop (i + 1) vars) t)
  can = subst (λ (z : List Own). CanRestoreAll z now) (drop_more vars i d l) w.can

  pub next_back : CanComeBack v k.maps k.stack
  next_back = can_back k v w.order w.standing can.0

  pub went_on : (n : Maps) (t : Store) → ComesBack v k.stack k.maps n k.store t → AreUnderWay vars (i + 1) s (record k { maps = n; store = t })
  went_on n t b =
      let r : Restores now (state_of (thinned (record k { maps = n; store = t }))) v = came_back k v w.order w.standing can.0 n t b in
      record {
        standing = back_stands k v w.order w.standing can.0 n t b;
        order = w.order;
        moves = subst (λ (z : List Own). AreRestored z s (state_of (thinned (record k { maps = n; store = t })))) (sym (taken_at vars i d l))
            (restored_more (take i vars) s now (state_of (thinned (record k { maps = n; store = t }))) v w.moves r);
        can = can.1 (state_of (thinned (record k { maps = n; store = t }))) r;
      }

  pub stopped : (n : Maps) (t : Store) (r : Result (Unit {0}) NoMemory) → true ≡ is_err r → OnErr r (SayTheSame k.maps n) → OnErr r (t.held ≡ k.store.held) → t.mark ≡ k.store.mark → AreOver vars s (record k { maps = n; store = t }) r
  stopped n t (Ok u) e m g f = cc
  stopped n t (Err x) e m g f =
      record {
        standing = refused_stands k n t m g f w.standing;
        order = w.order;
        ok = tt;
        err = record { count = i; few = l; moves = subst (λ (z : State). AreRestored (take i vars) s z) (sym (refused_state k n t m g f)) w.moves };
      }

-- none is left
pub all_back : (vars : List Own) (i : ℕ) (s : State) (k : Kernel) (r : Result (Unit {0}) NoMemory) → length vars ≡ i → IsOk r → AreUnderWay vars i s k → AreOver vars s k r
all_back vars i s k (Ok u) e o w = record { standing = w.standing; order = w.order; ok = subst (λ (z : List Own). AreRestored z s (state_of (thinned k))) (take_all i vars (omega arith)) w.moves; err = tt }
all_back vars i s k (Err x) e o w = cc

-- what a call gave that was no error
pub came_through : (P : Type 0) (r : Result (Unit {0}) NoMemory) → false ≡ is_err r → OnOk r P → P
came_through P (Ok u) e p = p
came_through P (Err x) e p = cc

pub came_ok : (r : Result (Unit {0}) NoMemory) → false ≡ is_err r → IsOk r
came_ok (Ok u) e = refl
came_ok (Err x) e = cc
