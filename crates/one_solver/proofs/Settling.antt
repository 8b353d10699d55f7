-- What is kept while literals are fixed, variables replaced and others eliminated in turn.
use Rattle.std.proofs.Common.{◌≡◌, true, not, List, refl, ap, ◌∙◌, Result, Ok, Err, IfOk}
use Rattle.std.specs.List.{list_all}
use Rattle.sat_lits.specs.ListLaws.{all_mono}
use Rattle.sat_lits.specs.declared.literal.Lit.{Lit}
use Rattle.sat_lits.specs.declared.literal.Own.{Own}
use Rattle.rebuild_stack.specs.Entries.{is_gone}
use Rattle.rebuild_stack.specs.declared.entry.Entry.{Entry}
use Rattle.rebuild_stack.specs.declared.entry.Entry.TheVariants.{Fix, Equal, Gone}
use Rattle.state_laws.specs.State.{State}
use Rattle.state_laws.specs.Kernel.{Kernel, state_of, TookSame}
use Rattle.equiv_replace.specs.Replaced.{is_equal, OnlyReplaced}
use Rattle.one_solver.specs.Roots.{is_free, last_vars}
use Rattle.one_solver.specs.Settled.{OnlyPushed}
use Rattle.one_solver.specs.Units.{StayFixed}
use Rattle.one_solver.proofs.Fixing.{stays_by}
use Rattle.one_solver.proofs.Eliminating.{OnlyDropped}

equal_kept : (e : Entry) → is_equal e ≡ true → not (is_gone e) ≡ true
equal_kept (Fix l) h = refl
equal_kept (Equal v l) h = refl
equal_kept (Gone v cs) h = h

-- replacing takes no variable out
pub replaced_pushed : (k n : Kernel) → TookSame k n → OnlyReplaced k n → OnlyPushed k n
replaced_pushed k n s r = record { definitions = s.definitions; entries = r.entries; stack = r.stack; kept = all_mono is_equal (λ e. not (is_gone e)) equal_kept r.entries r.equal }

pub pushed_stays : (k n : Kernel) → OnlyPushed k n → StayFixed k n
pushed_stays k n p = stays_by k n p.entries p.stack

pub stay_both : (f k n : Kernel) → StayFixed f k → StayFixed k n → StayFixed f n
stay_both f k n a b l h = b l (a l h)

-- dropped clauses leave what literals come to
pub dropped_free : (k n : Kernel) (lits : List Lit) → OnlyDropped k n → list_all (is_free k) lits ≡ true → list_all (is_free n) lits ≡ true
dropped_free k n lits d f = ap (λ (z : Kernel). list_all (is_free z) lits) d.same ∙ f

-- the same variables are left of literals
pub last_same : (k n : Kernel) (lits : List Lit) → state_of n ≡ state_of k → last_vars n lits ≡ last_vars k lits
last_same k n lits e = ap (λ (s : State). vars_of s) e
  where
    vars_of : State → List Own
    vars_of s = last_vars (record k { definitions = s.definitions; stack = s.stack }) lits

-- what two facts on an answer come to
pub both_ok : {T E : Type 0} (r : Result T E) (P Q R : T → Type 0) → ((x : T) → P x → Q x → R x) → IfOk r P → IfOk r Q → IfOk r R
both_ok (Ok x) P Q R f p q = f x p q
both_ok (Err e) P Q R f p q = q
