-- Where all that watch false literals are settled, every clause is quiet.
use Rattle.std.proofs.Common.{◌≡◌, ◌<◌, ◌+◌, ◌*◌, ◌/◌, ⊎_elim, ℕ, suc, Bool, true, false, cond, not, eqb, ltb, ltb-true, ◌&&◌, List, [], ◌∷◌, length, get_or, Option, Some, None, option_map, refl, sym, ap, ap₂, subst, ◌∙◌, arith, eq-eqb}
use Rattle.std.specs.Option.{is_some}
use Rattle.std.specs.List.{list_any, list_all}
use Rattle.std.proofs.lemmas.Bool.{eqb-true, false≢true, true≢false, and_parts, and_from, or_left, or_right, not_from_false}
use Rattle.std.proofs.lemmas.Option.{same_Some, none-some}
use Rattle.sat_lits.specs.InLits.{same_lit, opposite}
use Rattle.sat_lits.specs.ListLaws.{any_mono}
use Rattle.sat_lits.specs.declared.literal.InLit.{InLit}
use Rattle.trail.specs.declared.trail.Step.{Step}
use Rattle.trail.specs.Trail.{lits_of, true_in, false_in, unset_in}
use Rattle.clause_store.specs.Store.{Held, clause_at, is_live, rising}
use Rattle.propagate.specs.declared.watches.Taken.{Taken}
use Rattle.propagate.specs.Units.{quiet_clause, all_quiet}
use Rattle.propagate.specs.Watching.{HasTakenOver, taken_at}
use Rattle.propagate.specs.Watched.{watch_at, clause_of, id_of, lits_in, no_taken, is_whole, AreWatched}
use Rattle.propagate.specs.Walks.{AllGood}
use Rattle.propagate.specs.Starts.{IsSeen}
use Rattle.propagate.proofs.Looking.{value_none}
use Rattle.propagate.proofs.Fining.{any_steps}
use Rattle.propagate.proofs.Starting.{half_even, half_odd, other_even, clause_at_half}
use Rattle.trail.specs.Laws.{same_lit_eq}

-- two watched literals that are not false make a clause quiet
pub pair_quiet : (t : List Step) (c : List InLit) (one two : InLit) → list_any (same_lit one) c ≡ true → list_any (same_lit two) c ≡ true → same_lit one two ≡ false → false_in t one ≡ false → false_in t two ≡ false → quiet_clause t c ≡ true
pair_quiet t c one two i j d f g = go (true_in t one) refl (true_in t two) refl
  where
    is_true : (l : InLit) → list_any (same_lit l) c ≡ true → true_in t l ≡ true → quiet_clause t c ≡ true
    is_true l m q = or_left _ _ (any_mono (same_lit l) (true_in t) (λ k s. ap (true_in t) (sym (same_lit_eq l k s)) ∙ q) c m)

    none : (l : InLit) → true_in t l ≡ false → false_in t l ≡ false → unset_in t l ≡ true
    none l p q = value_none t l (ap₂ (λ (a b : Bool). cond a (Some true) (cond b (Some false) None)) p q)

    go : (a : Bool) → true_in t one ≡ a → (b : Bool) → true_in t two ≡ b → quiet_clause t c ≡ true
    go true p b q = is_true one i p
    go false p true q = is_true two j q
    go false p false q =
        let second : list_any (λ m. unset_in t m && not (same_lit one m)) c ≡ true =
        any_mono (same_lit two) (λ (m : InLit). unset_in t m && not (same_lit one m)) (λ k s. subst (λ (z : InLit). (unset_in t z && not (same_lit one z)) ≡ true) (same_lit_eq two k s) (and_from _ _ (none two q g) (not_from_false _ d))) c j in
        let both : (unset_in t one && list_any (λ m. unset_in t m && not (same_lit one m)) c) ≡ true = and_from _ _ (none one p f) second in
        or_right _ _
        (any_mono (same_lit one) (λ (k : InLit). unset_in t k && list_any (λ m. unset_in t m && not (same_lit k m)) c)
        (λ k s. subst (λ (z : InLit). (unset_in t z && list_any (λ m. unset_in t m && not (same_lit z m)) c) ≡ true) (same_lit_eq one k s) both) c i)

-- the place of a clause that was taken over
pub record IsTakenAt (taken : List Taken) (id : ℕ) : Type 0 where
  pub at : ℕ
  pub below : at < length taken
  pub is : (get_or taken at no_taken).id.0 ≡ id

pub taken_place : (taken : List Taken) (id : ℕ) → is_some (taken_at taken id) ≡ true → IsTakenAt taken id
taken_place [] id e = absurd (false≢true e)
taken_place (x ∷ xs) id e = go (eqb x.id.0 id) refl e (λ (f : is_some (taken_at xs id) ≡ true). taken_place xs id f)
  where
    later : IsTakenAt xs id → IsTakenAt (x ∷ xs) id
    later i = record { at = suc i.at; below = omega (arith, i.below); is = i.is }

    go : (b : Bool) → eqb x.id.0 id ≡ b → is_some (cond b (Some x) (taken_at xs id)) ≡ true → (is_some (taken_at xs id) ≡ true → IsTakenAt xs id) → IsTakenAt (x ∷ xs) id
    go true q f more = record { at = 0; below = omega arith; is = eqb-true _ _ q }
    go false q f more = later (more f)

-- a clause that was taken over is quiet
pub taken_quiet : (held : List Held) (taken : List Taken) (t : List Step) (heads next : List ℕ) (watched : List InLit) (whole : List Bool) (missed : Bool) → AreWatched heads next watched taken whole → AllGood held taken (lits_of t) t whole watched missed
    → ((n : ℕ) → n < length taken → get_or whole n true ≡ true → IsSeen held taken t n) → (n : ℕ) → n < length taken → is_live held (id_of taken (2 * n)).0 ≡ true → quiet_clause t (clause_of taken (2 * n)) ≡ true
taken_quiet held taken t heads next watched whole missed a good seen n l live = go (get_or whole n true) refl
  where
    settled : (c : List InLit) → list_any (true_in t) c ≡ true → quiet_clause t c ≡ true
    settled c q = or_left _ _ q

    by_watch : (e : ℕ) → e / 2 ≡ n → e < 2 * length taken → is_whole whole e ≡ false → false_in t (watch_at watched e) ≡ true → quiet_clause t (clause_of taken e) ≡ true
    by_watch e y b w f =
        ⊎_elim (λ q. settled (clause_of taken e) q) (λ q. absurd (true≢false (sym live ∙ (ap (λ (j : ℕ). is_live held (get_or taken j no_taken).id.0) (half_even n ∙ sym y) ∙ q.1)))) (good e b w (any_steps (λ k. opposite k (watch_at watched e)) t f))

    b0 : 2 * n < 2 * length taken
    b0 = omega (arith, l)

    b1 : 2 * n + 1 < 2 * length taken
    b1 = omega (arith, l)

    go : (b : Bool) → get_or whole n true ≡ b → quiet_clause t (clause_of taken (2 * n)) ≡ true
    go true q = ⊎_elim (λ r. settled (clause_of taken (2 * n)) r) (λ r. absurd (true≢false (sym live ∙ r))) (seen n l q)
    go false q = pick (false_in t (watch_at watched (2 * n))) refl (false_in t (watch_at watched (2 * n + 1))) refl
      where
        v0 : is_whole whole (2 * n) ≡ false
        v0 = ap (λ (i : ℕ). get_or whole i true) (half_even n) ∙ q

        v1 : is_whole whole (2 * n + 1) ≡ false
        v1 = ap (λ (i : ℕ). get_or whole i true) (half_odd n) ∙ q

        same_clause : clause_of taken (2 * n + 1) ≡ clause_of taken (2 * n)
        same_clause = clause_at_half taken (2 * n + 1) (2 * n) (half_odd n ∙ sym (half_even n))

        pick : (x : Bool) → false_in t (watch_at watched (2 * n)) ≡ x → (y : Bool) → false_in t (watch_at watched (2 * n + 1)) ≡ y → quiet_clause t (clause_of taken (2 * n)) ≡ true
        pick true f y g = by_watch (2 * n) (half_even n) b0 v0 f
        pick false f true g = subst (λ (c : List InLit). quiet_clause t c ≡ true) same_clause (by_watch (2 * n + 1) (half_odd n) b1 v1 g)
        pick false f false g =
            pair_quiet t (clause_of taken (2 * n)) (watch_at watched (2 * n)) (watch_at watched (2 * n + 1)) (a.within (2 * n) b0 v0)
            (subst (λ (c : List InLit). list_any (same_lit (watch_at watched (2 * n + 1))) c ≡ true) same_clause (a.within (2 * n + 1) b1 v1))
            (ap (λ (i : ℕ). same_lit (watch_at watched (2 * n)) (watch_at watched i)) (sym (other_even n)) ∙ a.apart (2 * n) b0 v0)
            f g

-- where each clause that an id names is quiet, all are
each_quiet : (t : List Step) (held : List Held) → rising held ≡ true → ((id : ℕ) (lits : List InLit) → option_map (λ h. h.lits) (clause_at held id) ≡ Some lits → quiet_clause t lits ≡ true) → all_quiet t held ≡ true
each_quiet t [] r f = refl
each_quiet t (h ∷ rest) r f =
    let p : (list_all (λ k. ltb h.id k.id) rest ≡ true) × (rising rest ≡ true) = and_parts _ _ r in
    and_from _ _ (f h.id h.lits (ap (λ (b : Bool). option_map (λ (k : Held). k.lits) (cond b (Some h) (clause_at rest h.id))) (eq-eqb h.id h.id refl)))
    (each_quiet t rest p.1 (λ id lits e. f id lits (skip id (eqb h.id id) refl (past rest p.0 id lits e) ∙ e)))
  where
    past : (xs : List Held) → list_all (λ k. ltb h.id k.id) xs ≡ true → (id : ℕ) (lits : List InLit) → option_map (λ k. k.lits) (clause_at xs id) ≡ Some lits → h.id < id
    past [] a id lits e = absurd (none-some lits e)
    past (x ∷ xs) a id lits e =
        let p : (ltb h.id x.id ≡ true) × (list_all (λ k. ltb h.id k.id) xs ≡ true) = and_parts _ _ a in
        go (eqb x.id id) refl e (ltb-true _ _ p.0) (λ (g : option_map (λ k. k.lits) (clause_at xs id) ≡ Some lits). past xs p.1 id lits g)
      where
        go : (b : Bool) → eqb x.id id ≡ b → option_map (λ k. k.lits) (cond b (Some x) (clause_at xs id)) ≡ Some lits → h.id < x.id → (option_map (λ k. k.lits) (clause_at xs id) ≡ Some lits → h.id < id) → h.id < id
        go true q g l more = subst (λ (z : ℕ). h.id < z) (eqb-true _ _ q) l
        go false q g l more = more g

    skip : (id : ℕ) (b : Bool) → eqb h.id id ≡ b → h.id < id → option_map (λ k. k.lits) (clause_at (h ∷ rest) id) ≡ option_map (λ k. k.lits) (clause_at rest id)
    skip id true q l = absurd (let z : h.id ≡ id = eqb-true _ _ q in omega (arith, z, l))
    skip id false q l = ap (λ (b : Bool). option_map (λ (k : Held). k.lits) (cond b (Some h) (clause_at rest id))) q

-- so every clause is quiet
pub watched_quiet : (held : List Held) (taken : List Taken) (t : List Step) (heads next : List ℕ) (watched : List InLit) (whole : List Bool) (missed : Bool) → rising held ≡ true → HasTakenOver taken held → AreWatched heads next watched taken whole → AllGood held taken (lits_of t) t whole watched missed
    → ((n : ℕ) → n < length taken → get_or whole n true ≡ true → IsSeen held taken t n) → all_quiet t held ≡ true
watched_quiet held taken t heads next watched whole missed r k a good seen = each_quiet t held r one
  where
    one : (id : ℕ) (lits : List InLit) → option_map (λ h. h.lits) (clause_at held id) ≡ Some lits → quiet_clause t lits ≡ true
    one id lits e = by_place (taken_place taken id (some (taken_at taken id) (k id live ∙ e)))
      where
        some : (o : Option Taken) → option_map (λ (u : Taken). u.lits) o ≡ Some lits → is_some o ≡ true
        some None f = absurd (none-some lits f)
        some (Some u) f = refl

        held_some : (o : Option Held) → option_map (λ (h : Held). h.lits) o ≡ Some lits → is_some o ≡ true
        held_some None f = absurd (none-some lits f)
        held_some (Some h) f = refl

        live : is_live held id ≡ true
        live = held_some (clause_at held id) e

        its_lits : (o : Option Taken) → option_map (λ (u : Taken). u.lits) o ≡ Some lits → lits_in o ≡ lits
        its_lits None f = absurd (none-some lits f)
        its_lits (Some u) f = same_Some u.lits lits f

        by_place : IsTakenAt taken id → quiet_clause t lits ≡ true
        by_place i =
            let q : (id_of taken (2 * i.at)).0 ≡ id = ap (λ (j : ℕ). (get_or taken j no_taken).id.0) (half_even i.at) ∙ i.is in
            let c : clause_of taken (2 * i.at) ≡ lits = ap (λ (j : ℕ). lits_in (taken_at taken j)) q ∙ its_lits (taken_at taken id) (k id live ∙ e) in
            subst (λ (z : List InLit). quiet_clause t z ≡ true) c (taken_quiet held taken t heads next watched whole missed a good seen i.at i.below (ap (is_live held) q ∙ live))
