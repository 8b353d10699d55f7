-- Looks at all clauses that are not watched.
use Rattle.std.proofs.Common.{◌≡◌, ◌≢◌, ◌<◌, ◌≤◌, ◌+◌, ◌-◌, ◌*◌, ◌/◌, ◌⊎◌, inl, inr, ⊎_elim, ℕ, Bool, true, false, eqb, min, List, length, take, get_or, refl, sym, ap, ap₂, subst, ◌∙◌, arith}
use Rattle.std.proofs.lemmas.Bool.{eqb-true, eqb-false, true≢false}
use Rattle.std.proofs.lemmas.List.{get_or-set_same, get_or-set_other, length-take}
use Rattle.std.proofs.lemmas.List.Folds.{list_any_at}
use Rattle.std.specs.List.{list_any}
use Rattle.sat_lits.specs.InLits.{same_lit, opposite}
use Rattle.sat_lits.specs.ListLaws.{any_mono}
use Rattle.sat_lits.specs.declared.literal.InLit.{InLit}
use Rattle.trail.specs.declared.trail.Step.{Step}
use Rattle.trail.specs.Trail.{Assignment, lits_of, true_in, false_in}
use Rattle.clause_store.specs.Store.{Held}
use Rattle.propagate.specs.declared.watches.Taken.{Taken}
use Rattle.propagate.specs.declared.table.Table.{Table}
use Rattle.propagate.specs.Reasons.{Extends}
use Rattle.propagate.specs.Watching.{IsFront}
use Rattle.propagate.specs.Watched.{no_lit, watch_at, clause_of, is_whole, AreWatched}
use Rattle.propagate.specs.Walks.{IsSettled, AllGood}
use Rattle.propagate.specs.Fine.{IsFine, AllFine}
use Rattle.propagate.specs.Starts.{IsStarted, IsSeen, IsListed, AreListed}
use Rattle.propagate.proofs.Turning.{extends_more, settled_more, any_extends}
use Rattle.propagate.proofs.Passing.{front_false, take_extends, length_extends}
use Rattle.propagate.proofs.Starting.{half_even, clause_at_half}
use Rattle.propagate.proofs.Fining.{fine_less}

-- what holds before each look
pub record AtFresh (held : List Held) (taken : List Taken) (done : List InLit) (from to : Assignment) (old now : Table) (fresh : List ℕ) (at first walked : ℕ) : Type 0 where
  pub watched : AreWatched now.heads.items now.next.items now.watched.items taken now.whole.items
  pub listed : AreListed taken now.whole.items fresh
  pub seen : (i : ℕ) → i < at → i < length fresh → get_or now.whole.items (get_or fresh i 0) true ≡ true → IsSeen held taken to.steps (get_or fresh i 0)
  pub good : AllGood held taken (take first (lits_of to.steps)) to.steps now.whole.items now.watched.items false
  pub fine : (starts : List ℕ) → AllFine done starts first taken old.whole.items old.watched.items → AllFine done starts walked taken now.whole.items now.watched.items
  pub less : walked ≤ first
  pub extends : Extends held from.steps to.steps
  pub reserved : to.reserved ≡ from.reserved
  pub heads : length now.heads.items ≡ length old.heads.items

pub seen_more : (held : List Held) (taken : List Taken) (from to : List Step) (n : ℕ) → Extends held from to → IsSeen held taken from n → IsSeen held taken to n
seen_more held taken from to n x s = ⊎_elim (λ a. inl (any_mono (true_in from) (true_in to) (λ l h. any_extends held (λ s. same_lit s.lit l) from to x h) (clause_of taken (2 * n)) a)) (λ b. inr b) s

-- a clause that stays is seen
pub fresh_stays : (held : List Held) (taken : List Taken) (done : List InLit) (from to more : Assignment) (old now : Table) (fresh : List ℕ) (at first walked : ℕ) → AtFresh held taken done from to old now fresh at first walked → first ≤ length (lits_of to.steps)
    → Extends held to.steps more.steps → more.reserved ≡ to.reserved → IsSeen held taken more.steps (get_or fresh at 0) → AtFresh held taken done from more old now fresh (at + 1) first walked
fresh_stays held taken done from to more old now fresh at first walked a fl x r s =
    record {
      watched = a.watched;
      listed = a.listed;
      seen = λ i b c d. seen i c d (eqb i at) refl b;
      good = good;
      fine = a.fine;
      less = a.less;
      extends = extends_more held from.steps to.steps more.steps a.extends x;
      reserved = r ∙ a.reserved;
      heads = a.heads;
    }
  where
    seen : (i : ℕ) → i < length fresh → get_or now.whole.items (get_or fresh i 0) true ≡ true → (b : Bool) → eqb i at ≡ b → i < at + 1 → IsSeen held taken more.steps (get_or fresh i 0)
    seen i c d true q h = subst (λ (j : ℕ). IsSeen held taken more.steps (get_or fresh j 0)) (sym (eqb-true i at q)) s
    seen i c d false q h =
        let n : i ≢ at = eqb-false i at q in
        seen_more held taken to.steps more.steps (get_or fresh i 0) x (a.seen i (omega (arith, h, n)) c d)

    good : AllGood held taken (take first (lits_of more.steps)) more.steps now.whole.items now.watched.items false
    good e b w f = settled_more held taken to.steps more.steps false e x (a.good e b w (ap (list_any (λ g. opposite g (watch_at now.watched.items e))) (sym (take_extends held to.steps more.steps first x fl)) ∙ f))

-- a place of a list after one was removed
pub record IsRemoved (old new : List ℕ) (at : ℕ) : Type 0 where
  pub len : length new + 1 ≡ length old
  pub last : at + 1 < length old → get_or new at 0 ≡ get_or old (length old - 1) 0
  pub others : (k : ℕ) → k ≢ at → k + 1 < length old → get_or new k 0 ≡ get_or old k 0

listed_removed : (taken : List Taken) (whole more : List Bool) (old new : List ℕ) (at : ℕ) → AreListed taken whole old → IsRemoved old new at → at < length old → get_or more (get_or old at 0) true ≡ false → ((n : ℕ) → get_or more n true ≡ true → get_or whole n true ≡ true) → AreListed taken more new
listed_removed taken whole more old new at l r b w s = (there, below)
  where
    find : (n : ℕ) → get_or more n true ≡ true → IsListed old n → IsListed new n
    find n m i = go (eqb i.at at) refl (eqb (i.at + 1) (length old)) refl
      where
        apart : i.at ≢ at
        apart q = true≢false (sym m ∙ (ap (λ (j : ℕ). get_or more j true) (sym i.is ∙ ap (λ (j : ℕ). get_or old j 0) q) ∙ w))

        go : (x : Bool) → eqb i.at at ≡ x → (y : Bool) → eqb (i.at + 1) (length old) ≡ y → IsListed new n
        go true q y p = absurd (apart (eqb-true _ _ q))
        go false q true p =
            let e : i.at + 1 ≡ length old = eqb-true _ _ p in
            let z : i.at ≡ length old - 1 = omega (arith, e) in
            record { at = at; below = omega (arith, r.len, b, apart, e); is = r.last (omega (arith, b, apart, e)) ∙ (ap (λ (j : ℕ). get_or old j 0) (sym z) ∙ i.is) }
        go false q false p =
            let e : i.at + 1 ≢ length old = eqb-false _ _ p in
            let h : i.at + 1 < length old = omega (arith, e, i.below) in
            record { at = i.at; below = omega (arith, r.len, h); is = r.others i.at apart h ∙ i.is }

    there : (n : ℕ) → n < length taken → get_or more n true ≡ true → IsListed new n
    there n h m = find n m (l.0 n h (s n m))

    below : (i : ℕ) → i < length new → get_or new i 0 < length taken
    below i h = go (eqb i at) refl
      where
        go : (x : Bool) → eqb i at ≡ x → get_or new i 0 < length taken
        go true q =
            let z : i ≡ at = eqb-true _ _ q in
            subst (λ (j : ℕ). get_or new j 0 < length taken) (sym z) (subst (λ (v : ℕ). v < length taken) (sym (r.last (omega (arith, r.len, h, z)))) (l.1 (length old - 1) (omega (arith, b))))
        go false q = subst (λ (v : ℕ). v < length taken) (sym (r.others i (eqb-false _ _ q) (omega (arith, r.len, h)))) (l.1 i (omega (arith, r.len, h)))

-- one that is watched already is taken off the list
pub fresh_skipped : (held : List Held) (taken : List Taken) (done : List InLit) (from to : Assignment) (old now : Table) (fresh less : List ℕ) (at first walked : ℕ) → AtFresh held taken done from to old now fresh at first walked → at < length fresh
    → IsRemoved fresh less at → get_or now.whole.items (get_or fresh at 0) true ≡ false → AtFresh held taken done from to old now less at first walked
fresh_skipped held taken done from to old now fresh less at first walked a b r w =
    record {
      watched = a.watched;
      listed = listed_removed taken now.whole.items now.whole.items fresh less at a.listed r b w (λ n m. m);
      seen = λ i h c d.
          let e : get_or less i 0 ≡ get_or fresh i 0 = r.others i (λ q. omega (arith, q, h)) (omega (arith, r.len, c)) in
          subst (λ (v : ℕ). IsSeen held taken to.steps v) (sym e) (a.seen i h (omega (arith, r.len, c)) (ap (λ (v : ℕ). get_or now.whole.items v true) (sym e) ∙ d));
      good = a.good;
      fine = a.fine;
      less = a.less;
      extends = a.extends;
      reserved = a.reserved;
      heads = a.heads;
    }

-- and one that is watched from now on
pub fresh_started : (held : List Held) (taken : List Taken) (done : List InLit) (from to more : Assignment) (old now new : Table) (fresh less : List ℕ) (at first walked fewer : ℕ) (two : InLit) → AtFresh held taken done from to old now fresh at first walked → at < length fresh → first ≤ length (lits_of to.steps)
    → IsFront done (lits_of from.steps) → first ≤ length done → IsRemoved fresh less at → AreWatched new.heads.items new.next.items new.watched.items taken new.whole.items → length new.heads.items ≡ length now.heads.items → Extends held to.steps more.steps → more.reserved ≡ to.reserved
    → IsStarted taken (get_or fresh at 0) to.steps more.steps now new two → fewer ≤ walked → ((p : ℕ) → p < fewer → opposite (get_or done p no_lit) two ≡ false) → AtFresh held taken done from more old new less at first fewer
fresh_started held taken done from to more old now new fresh less at first walked fewer two a b fl fr fd r w h x rs st fw ap_two =
    record {
      watched = w;
      listed = listed_removed taken now.whole.items new.whole.items fresh less at a.listed r b gone keep;
      seen = λ i k c d.
          let e : get_or less i 0 ≡ get_or fresh i 0 = r.others i (λ q. omega (arith, q, k)) (omega (arith, r.len, c)) in
          subst (λ (v : ℕ). IsSeen held taken more.steps v) (sym e) (seen_more held taken to.steps more.steps (get_or fresh i 0) x (a.seen i k (omega (arith, r.len, c)) (keep (get_or fresh i 0) (ap (λ (v : ℕ). get_or new.whole.items v true) (sym e) ∙ d))));
      good = λ e k v f. good e k v f (eqb (e / 2) (get_or fresh at 0)) refl;
      fine = λ starts f e k v. fine starts f e k v (eqb (e / 2) (get_or fresh at 0)) refl;
      less = omega (arith, fw, a.less);
      extends = extends_more held from.steps to.steps more.steps a.extends x;
      reserved = rs ∙ a.reserved;
      heads = h ∙ a.heads;
    }
  where
    n : ℕ
    n = get_or fresh at 0

    nl : n < length now.whole.items
    nl = omega (arith, a.watched.flags, a.listed.1 at b)

    gone : get_or new.whole.items n true ≡ false
    gone = ap (λ (z : List Bool). get_or z n true) st.whole ∙ get_or-set_same now.whole.items n false true nl

    same_whole : (m : ℕ) → m ≢ n → get_or new.whole.items m true ≡ get_or now.whole.items m true
    same_whole m q = ap (λ (z : List Bool). get_or z m true) st.whole ∙ get_or-set_other now.whole.items n m false true q

    keep : (m : ℕ) → get_or new.whole.items m true ≡ true → get_or now.whole.items m true ≡ true
    keep m t = sym (same_whole m (λ q. true≢false (sym t ∙ (ap (λ (j : ℕ). get_or new.whole.items j true) q ∙ gone)))) ∙ t

    which : (e : ℕ) → e / 2 ≡ n → (e ≡ 2 * n) ⊎ (e ≡ 2 * n + 1)
    which e q = go (eqb e (2 * n)) refl
      where
        go : (y : Bool) → eqb e (2 * n) ≡ y → (e ≡ 2 * n) ⊎ (e ≡ 2 * n + 1)
        go true p = inl (eqb-true _ _ p)
        go false p =
            let u : e ≢ 2 * n = eqb-false _ _ p in
            inr (omega (arith, u, q))

    good : (e : ℕ) → e < 2 * length taken → is_whole new.whole.items e ≡ false → list_any (λ f. opposite f (watch_at new.watched.items e)) (take first (lits_of more.steps)) ≡ true → (y : Bool) → eqb (e / 2) n ≡ y → IsSettled held taken more.steps false e
    good e k v f true q = ⊎_elim (λ z. absurd (first_not z)) (λ z. second z) (which e (eqb-true _ _ q))
      where
        front : list_any (λ g. opposite g (watch_at new.watched.items e)) (take first (lits_of to.steps)) ≡ true
        front = ap (list_any (λ g. opposite g (watch_at new.watched.items e))) (sym (take_extends held to.steps more.steps first x fl)) ∙ f

        is_false : false_in to.steps (watch_at new.watched.items e) ≡ true
        is_false = front_false to.steps first (watch_at new.watched.items e) front

        first_not : e ≡ 2 * n → ⊥
        first_not z = true≢false (sym is_false ∙ (ap (λ (j : ℕ). false_in to.steps (watch_at new.watched.items j)) z ∙ st.first))

        second : e ≡ 2 * n + 1 → IsSettled held taken more.steps false e
        second z =
            ⊎_elim (λ u. absurd (true≢false (sym is_false ∙ (ap (false_in to.steps) (ap (watch_at new.watched.items) z ∙ st.second) ∙ u))))
            (λ u. inl (subst (λ (c : List InLit). list_any (true_in more.steps) c ≡ true) (clause_at_half taken (2 * n) e (half_even n ∙ sym (eqb-true _ _ q))) u)) st.good
    good e k v f false q =
        let m : e / 2 ≢ n = eqb-false _ _ q in
        let y : watch_at new.watched.items e ≡ watch_at now.watched.items e = st.others e m in
        settled_more held taken to.steps more.steps false e x
        (a.good e k (sym (same_whole (e / 2) m) ∙ v)
        (ap₂ (λ (l : InLit) (c : List InLit). list_any (λ g. opposite g l) c) (sym y) (sym (take_extends held to.steps more.steps first x fl)) ∙ f))

    fine : (starts : List ℕ) → AllFine done starts first taken old.whole.items old.watched.items → (e : ℕ) → e < 2 * length taken → is_whole new.whole.items e ≡ false → (y : Bool) → eqb (e / 2) n ≡ y → IsFine done starts fewer (clause_of taken e) (watch_at new.watched.items e)
    fine starts f e k v true q p l o = absurd (⊎_elim one other (which e (eqb-true _ _ q)))
      where
        of_done : false_in from.steps (watch_at new.watched.items e) ≡ true
        of_done =
            front_false from.steps (length done) (watch_at new.watched.items e)
            (ap (list_any (λ g. opposite g (watch_at new.watched.items e))) fr ∙ list_any_at (λ g. opposite g (watch_at new.watched.items e)) done p no_lit (omega (arith, l, fw, a.less, fd)) o)

        one : e ≡ 2 * n → ⊥
        one z =
            true≢false
            (sym (any_extends held (λ s. opposite s.lit (watch_at new.watched.items e)) from.steps to.steps a.extends of_done)
            ∙ (ap (λ (j : ℕ). false_in to.steps (watch_at new.watched.items j)) z ∙ st.first))

        other : e ≡ 2 * n + 1 → ⊥
        other z = true≢false (sym o ∙ (ap (opposite (get_or done p no_lit)) (ap (watch_at new.watched.items) z ∙ st.second) ∙ ap_two p l))
    fine starts f e k v false q p l o =
        let m : e / 2 ≢ n = eqb-false _ _ q in
        fine_less done starts walked fewer (clause_of taken e) (watch_at now.watched.items e) fw (a.fine starts f e k (sym (same_whole (e / 2) m) ∙ v)) p l (ap (opposite (get_or done p no_lit)) (sym (st.others e m)) ∙ o)

-- at the end all that are not watched are seen
pub fresh_last : (held : List Held) (taken : List Taken) (done : List InLit) (from to : Assignment) (old now : Table) (fresh : List ℕ) (at first walked : ℕ) → AtFresh held taken done from to old now fresh at first walked → length fresh ≤ at
    → (n : ℕ) → n < length taken → get_or now.whole.items n true ≡ true → IsSeen held taken to.steps n
fresh_last held taken done from to old now fresh at first walked a l n b w = go (a.listed.0 n b w)
  where
    go : IsListed fresh n → IsSeen held taken to.steps n
    go i = subst (λ (j : ℕ). IsSeen held taken to.steps j) i.is (a.seen i.at (omega (arith, l, i.below)) i.below (ap (λ (j : ℕ). get_or now.whole.items j true) i.is ∙ w))

-- the trail goes on, and the clauses stay
pub fresh_same : (held : List Held) (taken : List Taken) (done : List InLit) (from to more : Assignment) (old now new : Table) (fresh : List ℕ) (at first walked : ℕ) → AtFresh held taken done from to old now fresh at first walked → first ≤ length (lits_of to.steps)
    → Extends held to.steps more.steps → more.reserved ≡ to.reserved → new ≡ now → AtFresh held taken done from more old new fresh at first walked
fresh_same held taken done from to more old now new fresh at first walked a fl x r e =
    subst (λ (z : Table). AtFresh held taken done from more old z fresh at first walked) (sym e)
    (record {
      watched = a.watched;
      listed = a.listed;
      seen = λ i b c d. seen_more held taken to.steps more.steps (get_or fresh i 0) x (a.seen i b c d);
      good = λ e b w f. settled_more held taken to.steps more.steps false e x (a.good e b w (ap (list_any (λ g. opposite g (watch_at now.watched.items e))) (sym (take_extends held to.steps more.steps first x fl)) ∙ f));
      fine = a.fine;
      less = a.less;
      extends = extends_more held from.steps to.steps more.steps a.extends x;
      reserved = r ∙ a.reserved;
      heads = a.heads;
    })

pub first_within : (held : List Held) (done : List InLit) (from to : List Step) (first : ℕ) → Extends held from to → IsFront done (lits_of from) → first ≤ length done → first ≤ length (lits_of to)
first_within held done from to first x f l =
    let a : length (lits_of from) ≤ length (lits_of to) = length_extends held from to x in
    let b : length done ≡ min (length done) (length (lits_of from)) = ap length (sym f) ∙ length-take (length done) (lits_of from) in
    omega (arith, a, b, l)
