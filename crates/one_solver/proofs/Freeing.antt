-- Variables that come back, so that literals come to no eliminated one.
use Rattle.std.proofs.Common.{◌≡◌, ℕ, suc, ◌==◌, Bool, true, false, cond, not, List, [], ◌∷◌, ◌++◌, refl, sym, ap, ◌∙◌, drop, nat_lt, append_assoc, append-nil, eq-eqb}
use Rattle.std.specs.List.{list_all, flat_map}
use Rattle.std.proofs.lemmas.Bool.{and_parts, and_from, or_left, or_right, false≢true}
use Rattle.std.proofs.lemmas.List.Concat.{flat_map-cons}
use Rattle.std.proofs.lemmas.List.Folds.{list_all-map, list_any-append}
use Rattle.sat_lits.specs.Truth.{signed}
use Rattle.sat_lits.specs.ListLaws.{all_mono, all_from_get, any_get}
use Rattle.sat_lits.specs.Formulas.{names_known}
use Rattle.sat_lits.specs.declared.literal.Lit.{Lit}
use Rattle.sat_lits.specs.declared.literal.Own.{Own}
use Rattle.sat_lits.specs.declared.literal.OwnLit.{OwnLit}
use Rattle.sat_lits.specs.declared.literal.Var.{Var}
use Rattle.sat_lits.specs.declared.formula.Item.TheVariants.{Clause, Parity}
use Rattle.rebuild_stack.specs.Entries.{is_gone}
use Rattle.rebuild_stack.specs.Roots.{root, root_passes, is_lost, turned}
use Rattle.rebuild_stack.specs.PutIn.{put_in_all}
use Rattle.rebuild_stack.specs.declared.entry.Entry.{Entry}
use Rattle.rebuild_stack.specs.declared.entry.Entry.TheVariants.{Fix, Equal, Gone}
use Rattle.rebuild_stack.specs.declared.entry.Root.{Root}
use Rattle.rebuild_stack.specs.declared.entry.Root.TheVariants.{Known, Last, Lost}
use Rattle.state_laws.specs.State.{State, to_own}
use Rattle.state_laws.specs.Kernel.{Kernel, state_of}
use Rattle.restore_var.specs.Needs.{is_among, all_pass, leads_to, AreFree}
use Rattle.private_state.specs.Restoring.{AreRestored}
use Rattle.restore_var.specs.Restored.{RestoresNeeded}
use Rattle.restore_var.specs.RestoredLaws.{restored_TookSame}
use Rattle.one_solver.specs.Roots.{root_in, is_free, lost_var, last_var, lost_vars, last_vars}
use Rattle.one_solver.specs.Settled.{OnlyPushed, CameBack}

-- what newer entries make of what a literal came to
abbrev pub root_on : List Entry → Root → Root
root_on newer (Known x) = Known x
root_on newer (Last k) = root newer k
root_on newer (Lost v) = Lost v

-- the newer entries are followed behind the older ones
pub root_after : (older newer : List Entry) (l : OwnLit) → root (older ++ newer) l ≡ root_on newer (root older l)
root_after [] newer l = refl
root_after (Fix k ∷ older) newer l = go (l.var.0 == k.var.0) (root_after older newer l)
  where
    go : (b : Bool) → root (older ++ newer) l ≡ root_on newer (root older l)
        → cond b (Known (signed l.negative (not k.negative))) (root (older ++ newer) l) ≡ root_on newer (cond b (Known (signed l.negative (not k.negative))) (root older l))
    go true r = refl
    go false r = r
root_after (Equal v k ∷ older) newer l = go (l.var.0 == v.0) (root_after older newer (turned l.negative k)) (root_after older newer l)
  where
    go : (b : Bool) → root (older ++ newer) (turned l.negative k) ≡ root_on newer (root older (turned l.negative k)) → root (older ++ newer) l ≡ root_on newer (root older l)
        → cond b (root (older ++ newer) (turned l.negative k)) (root (older ++ newer) l) ≡ root_on newer (cond b (root older (turned l.negative k)) (root older l))
    go true q r = q
    go false q r = r
root_after (Gone v cs ∷ older) newer l = go (l.var.0 == v.0) (root_after older newer l)
  where
    go : (b : Bool) → root (older ++ newer) l ≡ root_on newer (root older l) → cond b (Lost v) (root (older ++ newer) l) ≡ root_on newer (cond b (Lost v) (root older l))
    go true r = refl
    go false r = r

-- where no entry is of an eliminated variable, no literal is lost
never_lost : (s : List Entry) (l : OwnLit) → list_all (λ e. not (is_gone e)) s ≡ true → is_lost (root s l) ≡ false
never_lost [] l e = refl
never_lost (Fix k ∷ newer) l e = go (l.var.0 == k.var.0) (never_lost newer l e)
  where
    go : (b : Bool) → is_lost (root newer l) ≡ false → is_lost (cond b (Known (signed l.negative (not k.negative))) (root newer l)) ≡ false
    go true r = refl
    go false r = r
never_lost (Equal v k ∷ newer) l e = go (l.var.0 == v.0) (never_lost newer (turned l.negative k) e) (never_lost newer l e)
  where
    go : (b : Bool) → is_lost (root newer (turned l.negative k)) ≡ false → is_lost (root newer l) ≡ false → is_lost (cond b (root newer (turned l.negative k)) (root newer l)) ≡ false
    go true q r = q
    go false q r = r
never_lost (Gone v cs ∷ newer) l e = absurd (false≢true e)

-- literals that came to no eliminated variable come to none where variables are fixed or replaced
pub free_along : (k n : Kernel) (lits : List Lit) → OnlyPushed k n → list_all (is_free k) lits ≡ true → list_all (is_free n) lits ≡ true
free_along k n lits p f = all_mono (is_free k) (is_free n) each lits f
  where
    on : (r : Root) → not (is_lost r) ≡ true → not (is_lost (root_on p.entries r)) ≡ true
    on (Known x) e = refl
    on (Last l) e = ap not (never_lost p.entries l p.kept)
    on (Lost v) e = e

    each : (l : Lit) → is_free k l ≡ true → is_free n l ≡ true
    each l e =
        ap (λ (s : List Entry). not (is_lost (root s (to_own n.definitions l)))) p.stack
        ∙ (ap (λ ds. not (is_lost (root (k.stack ++ p.entries) (to_own ds l)))) p.definitions ∙ (ap (λ r. not (is_lost r)) (root_after k.stack p.entries (to_own k.definitions l)) ∙ on (root_in k l) e))

-- each variable of a list is among those of a longer one
own_among : (vars more : List Own) → all_pass (is_among (vars ++ more)) vars ≡ true
own_among vars more =
    all_from_get (λ (v : Own). is_among (vars ++ more) v.0) vars
    (λ i v e. list_any-append (λ (w : Own). w.0 == v.0) vars more ∙ or_left _ _ (any_get (λ (w : Own). w.0 == v.0) vars i v e (eq-eqb v.0 v.0 refl)))

-- what is noted for each literal is among what is noted for all
noted_among : (f : Lit → List Own) (lits : List Lit) → list_all (λ l. all_pass (is_among (flat_map f lits)) (f l)) lits ≡ true
noted_among f [] = refl
noted_among f (l ∷ lits) =
    ap (λ (all : List Own). list_all (λ k. all_pass (is_among all) (f k)) (l ∷ lits)) (flat_map-cons f l lits)
    ∙ and_from _ _ (own_among (f l) (flat_map f lits)) (all_mono (λ k. all_pass (is_among (flat_map f lits)) (f k)) (λ k. all_pass (is_among (f l ++ flat_map f lits)) (f k)) wider lits (noted_among f lits))
  where
    wider : (k : Lit) → all_pass (is_among (flat_map f lits)) (f k) ≡ true → all_pass (is_among (f l ++ flat_map f lits)) (f k) ≡ true
    wider k e =
        all_mono (λ (v : Own). is_among (flat_map f lits) v.0) (λ v. is_among (f l ++ flat_map f lits) v.0)
        (λ v g. list_any-append (λ (w : Own). w.0 == v.0) (f l) (flat_map f lits) ∙ or_right _ _ g) (f k) e

-- literals come to no eliminated variable where those to which they came are back
pub back_free : (k n : Kernel) (lits : List Lit) (vars : List Own) → vars ≡ lost_vars k lits → n.definitions ≡ k.definitions → AreFree vars k.stack n.stack → list_all (is_free n) lits ≡ true
back_free k n lits vars e d h = all_mono (λ l. all_pass (is_among (lost_vars k lits)) (lost_var (root_in k l))) (is_free n) each lits (noted_among (λ l. lost_var (root_in k l)) lits)
  where
    leads : (r : Root) → all_pass (is_among (lost_vars k lits)) (lost_var r) ≡ true → leads_to (is_among (lost_vars k lits)) r ≡ true
    leads (Known x) g = refl
    leads (Last l) g = refl
    leads (Lost v) g = (and_parts _ _ g).0

    each : (l : Lit) → all_pass (is_among (lost_vars k lits)) (lost_var (root_in k l)) ≡ true → is_free n l ≡ true
    each l g =
        ap (λ ds. not (is_lost (root n.stack (to_own ds l)))) d
        ∙ ap not (h (to_own k.definitions l) (ap (λ (vs : List Own). leads_to (is_among vs) (root_in k l)) e ∙ leads (root_in k l) g))

-- the variables that are left of literals are among those that were noted
pub last_among : (k : Kernel) (lits : List Lit) → list_all (λ l. root_passes (λ x. is_among (last_vars k lits) x.var.0) (root_in k l)) lits ≡ true
last_among k lits = all_mono (λ l. all_pass (is_among (last_vars k lits)) (last_var (root_in k l))) (λ l. root_passes (λ x. is_among (last_vars k lits) x.var.0) (root_in k l)) (λ l. passes (root_in k l)) lits (noted_among (λ l. last_var (root_in k l)) lits)
  where
    passes : (r : Root) → all_pass (is_among (last_vars k lits)) (last_var r) ≡ true → root_passes (λ x. is_among (last_vars k lits) x.var.0) r ≡ true
    passes (Known x) g = refl
    passes (Last l) g = (and_parts _ _ g).0
    passes (Lost v) g = refl

-- restoring leaves the hard clauses, in front of others
back_hard : (vs : List Own) (s t : State) → AreRestored vs s t → (cs : List (List OwnLit)) × (t.hard ≡ s.hard ++ cs)
back_hard [] s t a = ([], ap (λ (z : State). z.hard) a ∙ sym (append-nil s.hard))
back_hard (v ∷ vs) s t a =
    let (cs, e) = back_hard vs a.0 t a.1.1 in
    let ds : List (List OwnLit) = put_in_all (root (drop (suc a.1.0.place) s.stack)) a.1.0.clauses in
    let f : a.0.hard ≡ s.hard ++ ds = ap (λ (z : State). z.hard) a.1.0.becomes in
    (ds ++ cs, e ∙ (ap (λ z. z ++ cs) f ∙ append_assoc s.hard ds cs))

-- and whether the state is okay
back_okay : (vs : List Own) (s t : State) → AreRestored vs s t → t.okay ≡ s.okay
back_okay [] s t a = ap (λ (z : State). z.okay) a
back_okay (v ∷ vs) s t a = back_okay vs a.0 t a.1.1 ∙ ap (λ (z : State). z.okay) a.1.0.becomes

pub came_back : (k n : Kernel) (vars : List Own) → RestoresNeeded vars (state_of k) (state_of n) → CameBack k n
came_back k n vars r =
    let (cs, e) = back_hard r.restored (state_of k) (state_of n) r.moves in
    record { same = restored_TookSame r.restored k n r.moves; okay = back_okay r.restored (state_of k) (state_of n) r.moves; clauses = cs; hard = e }

-- the variables of a clause's literals are there
pub lits_there : (n : ℕ) (lits : List Lit) → names_known n (Clause lits) ≡ true → list_all (λ l. nat_lt l.var.0 n) lits ≡ true
lits_there n lits h = sym (list_all-map (λ m. nat_lt m n) (λ (l : Lit). l.var.0) lits) ∙ h

-- and those of a parity
pub vars_there : (n : ℕ) (vars : List Var) (rhs : Bool) → names_known n (Parity vars rhs) ≡ true → list_all (λ v. nat_lt v.0 n) vars ≡ true
vars_there n vars rhs h = sym (list_all-map (λ m. nat_lt m n) (λ (v : Var). v.0) vars) ∙ h
