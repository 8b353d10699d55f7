-- A clause that was looked at whole is watched from then on.
use Rattle.std.proofs.Common.{◌≡◌, ◌≢◌, ◌<◌, ◌+◌, ◌*◌, ◌/◌, ◌%◌, inl, inr, ⊎_elim, ℕ, Bool, true, false, cond, eqb, ltb, ltb-true, List, [], ◌∷◌, length, set, get_or, refl, sym, ap, ap₂, subst, ◌∙◌, arith}
use Rattle.std.proofs.lemmas.Bool.{eqb-true, eqb-false, true≢false}
use Rattle.std.proofs.lemmas.List.{get_or-set_same, get_or-set_other, length-set}
use Rattle.std.specs.List.{list_any}
use Rattle.sat_lits.specs.InLits.{same_lit}
use Rattle.sat_lits.specs.declared.literal.InLit.{InLit}
use Rattle.propagate.specs.declared.watches.Taken.{Taken}
use Rattle.std.proofs.lemmas.List.{get_or_default}
use Rattle.sat_lits.specs.ListLaws.{all_or_any}
use Rattle.sat_lits.specs.declared.literal.ClauseId.{ClauseId}
use Rattle.trail.specs.declared.trail.Step.{Step}
use Rattle.trail.specs.Trail.{true_in, false_in}
use Rattle.clause_store.specs.Store.{Held}
use Rattle.propagate.specs.declared.table.Table.{Table}
use Rattle.propagate.specs.Reasons.{names}
use Rattle.propagate.specs.Laws.{named_all}
use Rattle.propagate.specs.Starts.{ArePair, IsStarted, IsSeen}
use Rattle.propagate.proofs.Turning.{names_taken}
use Rattle.propagate.specs.Watching.{taken_at, HasTakenOver, clauses_below, lits_below}
use Rattle.propagate.specs.Chains.{Lacks, AreChains, with_list}
use Rattle.propagate.specs.Watched.{Has, other_of, code_of, watch_at, key_in, no_lit, no_taken, lits_in, id_of, clause_of, is_whole, AreWatched}
use Rattle.propagate.proofs.Chaining.{put_in}
use Rattle.propagate.proofs.Moving.{has_with, with_has, with_here, not_same_sym, other_half}
use Rattle.trail.specs.Laws.{same_lit_eq}

-- the clause of an entry is that of its half
pub clause_at_half : (taken : List Taken) (i j : ℕ) → i / 2 ≡ j / 2 → clause_of taken i ≡ clause_of taken j
clause_at_half taken i j q = ap (λ (k : ℕ). lits_in (taken_at taken (get_or taken k no_taken).id.0)) q

lacks_from : (e : ℕ) (es : List ℕ) → (Has e es → ⊥) → Lacks e es
lacks_from e [] n = tt
lacks_from e (d ∷ ds) n = (λ q. n (inl q), lacks_from e ds (λ h. n (inr h)))

pub half_even : (n : ℕ) → (2 * n) / 2 ≡ n
half_even n = omega arith

pub half_odd : (n : ℕ) → (2 * n + 1) / 2 ≡ n
half_odd n = omega arith

pub other_even : (n : ℕ) → other_of (2 * n) ≡ 2 * n + 1
other_even n =
    let z : (2 * n) % 2 ≡ 0 = omega arith in
    rw z refl

other_odd : (n : ℕ) → other_of (2 * n + 1) ≡ 2 * n
other_odd n =
    let z : (2 * n + 1) % 2 ≡ 1 = omega arith in
    rw z (omega arith)

pub started :
    (heads next : List ℕ) (watched : List InLit) (taken : List Taken) (whole : List Bool) (a : AreWatched heads next watched taken whole) (n : ℕ) (one two : InLit) → n < length taken → get_or whole n true ≡ true → code_of one < length heads → code_of two < length heads
    → list_any (same_lit one) (clause_of taken (2 * n)) ≡ true → list_any (same_lit two) (clause_of taken (2 * n)) ≡ true → same_lit one two ≡ false
    → AreWatched (set (set heads (code_of one) (2 * n + 1)) (code_of two) ((2 * n + 1) + 1)) (set (set next (2 * n) (get_or heads (code_of one) 0)) (2 * n + 1) (get_or (set heads (code_of one) (2 * n + 1)) (code_of two) 0))
    (set (set watched (2 * n) one) (2 * n + 1) two) taken (set whole n false)
started heads next watched taken whole a n one two nl nw h1 h2 i1 i2 d =
    record {
      lists = lists2;
      chains = chains2;
      long = length-set _ (2 * n + 1) (get_or (set heads (code_of one) (2 * n + 1)) (code_of two) 0) ∙ (length-set next (2 * n) (get_or heads (code_of one) 0) ∙ a.long);
      same = length-set _ (2 * n + 1) two ∙ (length-set watched (2 * n) one ∙ a.same);
      flags = length-set whole n false ∙ a.flags;
      there = λ e b w. there e b w (eqb e (2 * n)) refl (eqb e (2 * n + 1)) refl;
      within = λ e b w. within e b w (eqb e (2 * n)) refl (eqb e (2 * n + 1)) refl;
      apart = λ e b w. apart e b w (eqb e (2 * n)) refl (eqb e (2 * n + 1)) refl;
      only = λ j e h. only j e h (eqb (e / 2) n) refl;
    }
  where
    w1 : List InLit
    w1 = set watched (2 * n) one

    w2 : List InLit
    w2 = set w1 (2 * n + 1) two

    e0 : 2 * n < length next
    e0 = omega (arith, a.long, nl)

    e1 : 2 * n + 1 < length next
    e1 = omega (arith, a.long, nl)

    v0 : 2 * n < length watched
    v0 = omega (arith, a.same, nl)

    v1 : 2 * n + 1 < length w1
    v1 = omega (arith, a.same, nl, length-set watched (2 * n) one)

    lists1 : ℕ → List ℕ
    lists1 = with_list (code_of one) ((2 * n) ∷ a.lists (code_of one)) a.lists

    lists2 : ℕ → List ℕ
    lists2 = with_list (code_of two) ((2 * n + 1) ∷ lists1 (code_of two)) lists1

    lacks : (e : ℕ) → e / 2 ≡ n → (j : ℕ) → Lacks e (a.lists j)
    lacks e q j = lacks_from e (a.lists j) (λ h. true≢false (sym (ap (λ (i : ℕ). get_or whole i true) q ∙ nw) ∙ a.only j e h))

    at0 : watch_at w1 (2 * n) ≡ one
    at0 = get_or-set_same watched (2 * n) one no_lit v0

    chains1 : AreChains (set heads (code_of one) (2 * n + 1)) (set next (2 * n) (get_or heads (code_of one) 0)) (key_in w1) lists1
    chains1 = put_in heads next (key_in watched) (key_in w1) a.lists (code_of one) (2 * n) a.chains (lacks (2 * n) (half_even n)) h1 e0 (ap code_of at0) (λ i m. ap code_of (get_or-set_other watched (2 * n) i one no_lit m))

    lacks1 : (j : ℕ) → Lacks (2 * n + 1) (lists1 j)
    lacks1 j = go (eqb j (code_of one))
      where
        go : (b : Bool) → Lacks (2 * n + 1) (cond b ((2 * n) ∷ a.lists (code_of one)) (a.lists j))
        go true = (λ q. omega (arith, q), lacks (2 * n + 1) (half_odd n) (code_of one))
        go false = lacks (2 * n + 1) (half_odd n) j

    at1 : watch_at w2 (2 * n + 1) ≡ two
    at1 = get_or-set_same w1 (2 * n + 1) two no_lit v1

    at0_still : watch_at w2 (2 * n) ≡ one
    at0_still = get_or-set_other w1 (2 * n + 1) (2 * n) two no_lit (λ q. omega (arith, q)) ∙ at0

    chains2 : AreChains (set (set heads (code_of one) (2 * n + 1)) (code_of two) ((2 * n + 1) + 1)) (set (set next (2 * n) (get_or heads (code_of one) 0)) (2 * n + 1) (get_or (set heads (code_of one) (2 * n + 1)) (code_of two) 0)) (key_in w2) lists2
    chains2 =
        put_in (set heads (code_of one) (2 * n + 1)) (set next (2 * n) (get_or heads (code_of one) 0)) (key_in w1) (key_in w2) lists1 (code_of two) (2 * n + 1) chains1 lacks1
        (subst (λ (m : ℕ). code_of two < m) (sym (length-set heads (code_of one) (2 * n + 1))) h2)
        (subst (λ (m : ℕ). 2 * n + 1 < m) (sym (length-set next (2 * n) (get_or heads (code_of one) 0))) e1)
        (ap code_of at1)
        (λ i m. ap code_of (get_or-set_other w1 (2 * n + 1) i two no_lit m))

    keep1 : (e j : ℕ) → Has e (a.lists j) → Has e (lists1 j)
    keep1 e j h = has_with (code_of one) ((2 * n) ∷ a.lists (code_of one)) a.lists j e (λ q r. inr (subst (λ (i : ℕ). Has e (a.lists i)) q r)) h

    keep2 : (e j : ℕ) → Has e (lists1 j) → Has e (lists2 j)
    keep2 e j h = has_with (code_of two) ((2 * n + 1) ∷ lists1 (code_of two)) lists1 j e (λ q r. inr (subst (λ (i : ℕ). Has e (lists1 i)) q r)) h

    other_watch : (e : ℕ) → e ≢ 2 * n → e ≢ 2 * n + 1 → watch_at w2 e ≡ watch_at watched e
    other_watch e p q = get_or-set_other w1 (2 * n + 1) e two no_lit q ∙ get_or-set_other watched (2 * n) e one no_lit p

    not_half : (e : ℕ) → e ≢ 2 * n → e ≢ 2 * n + 1 → e / 2 ≢ n
    not_half e p q r = omega (arith, p, q, r)

    old_whole : (e : ℕ) → e / 2 ≢ n → is_whole (set whole n false) e ≡ is_whole whole e
    old_whole e r = get_or-set_other whole n (e / 2) false true r

    there : (e : ℕ) → e < 2 * length taken → is_whole (set whole n false) e ≡ false → (b : Bool) → eqb e (2 * n) ≡ b → (b2 : Bool) → eqb e (2 * n + 1) ≡ b2 → Has e (lists2 (key_in w2 e))
    there e b w true q b2 q2 =
        let x : e ≡ 2 * n = eqb-true e (2 * n) q in
        let y : key_in w2 e ≡ code_of one = ap (key_in w2) x ∙ ap code_of at0_still in
        subst (λ (i : ℕ). Has e (lists2 i)) (sym y) (keep2 e (code_of one) (subst (Has e) (sym (with_here (code_of one) ((2 * n) ∷ a.lists (code_of one)) a.lists)) (inl (sym x))))
    there e b w false q true q2 =
        let x : e ≡ 2 * n + 1 = eqb-true e (2 * n + 1) q2 in
        let y : key_in w2 e ≡ code_of two = ap (key_in w2) x ∙ ap code_of at1 in
        subst (λ (i : ℕ). Has e (lists2 i)) (sym y) (subst (Has e) (sym (with_here (code_of two) ((2 * n + 1) ∷ lists1 (code_of two)) lists1)) (inl (sym x)))
    there e b w false q false q2 =
        let p : e ≢ 2 * n = eqb-false e (2 * n) q in
        let r : e ≢ 2 * n + 1 = eqb-false e (2 * n + 1) q2 in
        subst (λ (i : ℕ). Has e (lists2 i)) (sym (ap code_of (other_watch e p r))) (keep2 e (key_in watched e) (keep1 e (key_in watched e) (a.there e b (sym (old_whole e (not_half e p r)) ∙ w))))

    same_clause : clause_of taken (2 * n + 1) ≡ clause_of taken (2 * n)
    same_clause = clause_half (2 * n + 1) (2 * n) (half_odd n ∙ sym (half_even n))
      where
        clause_half : (i j : ℕ) → i / 2 ≡ j / 2 → clause_of taken i ≡ clause_of taken j
        clause_half i j q = clause_at_half taken i j q

    within : (e : ℕ) → e < 2 * length taken → is_whole (set whole n false) e ≡ false → (b : Bool) → eqb e (2 * n) ≡ b → (b2 : Bool) → eqb e (2 * n + 1) ≡ b2 → list_any (same_lit (watch_at w2 e)) (clause_of taken e) ≡ true
    within e b w true q b2 q2 =
        let x : e ≡ 2 * n = eqb-true e (2 * n) q in
        subst (λ (i : ℕ). list_any (same_lit (watch_at w2 i)) (clause_of taken i) ≡ true) (sym x) (subst (λ (m : InLit). list_any (same_lit m) (clause_of taken (2 * n)) ≡ true) (sym at0_still) i1)
    within e b w false q true q2 =
        let x : e ≡ 2 * n + 1 = eqb-true e (2 * n + 1) q2 in
        subst (λ (i : ℕ). list_any (same_lit (watch_at w2 i)) (clause_of taken i) ≡ true) (sym x)
        (subst (λ (m : InLit). list_any (same_lit m) (clause_of taken (2 * n + 1)) ≡ true) (sym at1) (subst (λ (c : List InLit). list_any (same_lit two) c ≡ true) (sym same_clause) i2))
    within e b w false q false q2 =
        let p : e ≢ 2 * n = eqb-false e (2 * n) q in
        let r : e ≢ 2 * n + 1 = eqb-false e (2 * n + 1) q2 in
        subst (λ (m : InLit). list_any (same_lit m) (clause_of taken e) ≡ true) (sym (other_watch e p r)) (a.within e b (sym (old_whole e (not_half e p r)) ∙ w))

    apart : (e : ℕ) → e < 2 * length taken → is_whole (set whole n false) e ≡ false → (b : Bool) → eqb e (2 * n) ≡ b → (b2 : Bool) → eqb e (2 * n + 1) ≡ b2 → same_lit (watch_at w2 e) (watch_at w2 (other_of e)) ≡ false
    apart e b w true q b2 q2 =
        let x : e ≡ 2 * n = eqb-true e (2 * n) q in
        ap₂ same_lit (ap (watch_at w2) x ∙ at0_still) (ap (λ (i : ℕ). watch_at w2 (other_of i)) x ∙ (ap (watch_at w2) (other_even n) ∙ at1)) ∙ d
    apart e b w false q true q2 =
        let x : e ≡ 2 * n + 1 = eqb-true e (2 * n + 1) q2 in
        ap₂ same_lit (ap (watch_at w2) x ∙ at1) (ap (λ (i : ℕ). watch_at w2 (other_of i)) x ∙ (ap (watch_at w2) (other_odd n) ∙ at0_still)) ∙ not_same_sym one two d
    apart e b w false q false q2 =
        let p : e ≢ 2 * n = eqb-false e (2 * n) q in
        let r : e ≢ 2 * n + 1 = eqb-false e (2 * n + 1) q2 in
        let h : e / 2 ≢ n = not_half e p r in
        let po : other_of e ≢ 2 * n = λ (z : other_of e ≡ 2 * n). h (sym (other_half e) ∙ (ap (λ (i : ℕ). i / 2) z ∙ half_even n)) in
        let ro : other_of e ≢ 2 * n + 1 = λ (z : other_of e ≡ 2 * n + 1). h (sym (other_half e) ∙ (ap (λ (i : ℕ). i / 2) z ∙ half_odd n)) in
        ap₂ same_lit (other_watch e p r) (other_watch (other_of e) po ro) ∙ a.apart e b (sym (old_whole e h) ∙ w)

    only : (j e : ℕ) → Has e (lists2 j) → (b : Bool) → eqb (e / 2) n ≡ b → is_whole (set whole n false) e ≡ false
    only j e h true q = ap (λ (i : ℕ). get_or (set whole n false) i true) (eqb-true (e / 2) n q) ∙ get_or-set_same whole n false true (omega (arith, a.flags, nl))
    only j e h false q =
        let r : e / 2 ≢ n = eqb-false (e / 2) n q in
        old_whole e r
        ∙ ⊎_elim
        (λ z. ⊎_elim (λ (y : 2 * n + 1 ≡ e). absurd (r (ap (λ (i : ℕ). i / 2) (sym y) ∙ half_odd n))) (λ y. first (code_of two) r y) z)
        (λ z. first j r z)
        (with_has (code_of two) ((2 * n + 1) ∷ lists1 (code_of two)) lists1 j e h)
      where
        first : (i : ℕ) → e / 2 ≢ n → Has e (lists1 i) → is_whole whole e ≡ false
        first i r y =
            ⊎_elim (λ z. ⊎_elim (λ (x : 2 * n ≡ e). absurd (r (ap (λ (i : ℕ). i / 2) (sym x) ∙ half_even n))) (λ x. a.only (code_of one) e x) z) (λ z. a.only i e z)
            (with_has (code_of one) ((2 * n) ∷ a.lists (code_of one)) a.lists i e y)

-- what is known of a clause that is watched from now on
pub record StartedAs (held : List Held) (taken : List Taken) (n : ℕ) (from to : List Step) (old new : Table) (two : InLit) : Type 0 where
  pub watched : AreWatched new.heads.items new.next.items new.watched.items taken new.whole.items
  pub is : IsStarted taken n from to old new two
  pub heads : length new.heads.items ≡ length old.heads.items

pub started_as : (held : List Held) (taken : List Taken) (n : ℕ) (id : ClauseId) (from to : List Step) (old new : Table) (one two : InLit) → AreWatched old.heads.items old.next.items old.watched.items taken old.whole.items → HasTakenOver taken held → n < length taken → get_or old.whole.items n true ≡ true
    → id ≡ id_of taken (2 * n) → ArePair held id from to one two → code_of one < length old.heads.items → code_of two < length old.heads.items
    → new.heads.items ≡ set (set old.heads.items (code_of one) (2 * n + 1)) (code_of two) ((2 * n + 1) + 1)
    → new.next.items ≡ set (set old.next.items (2 * n) (get_or old.heads.items (code_of one) 0)) (2 * n + 1) (get_or (set old.heads.items (code_of one) (2 * n + 1)) (code_of two) 0)
    → new.watched.items ≡ set (set old.watched.items (2 * n) one) (2 * n + 1) two → new.whole.items ≡ set old.whole.items n false → StartedAs held taken n from to old new two
started_as held taken n id from to old new one two a k nl nw i p h1 h2 eh en ew eo =
    record {
      watched =
          subst (λ (z : List ℕ). AreWatched z new.next.items new.watched.items taken new.whole.items) (sym eh)
          (subst (λ (z : List ℕ). AreWatched (set (set old.heads.items (code_of one) (2 * n + 1)) (code_of two) ((2 * n + 1) + 1)) z new.watched.items taken new.whole.items) (sym en)
          (subst (λ (z : List InLit). AreWatched (set (set old.heads.items (code_of one) (2 * n + 1)) (code_of two) ((2 * n + 1) + 1)) (set (set old.next.items (2 * n) (get_or old.heads.items (code_of one) 0)) (2 * n + 1) (get_or (set old.heads.items (code_of one) (2 * n + 1)) (code_of two) 0)) z taken new.whole.items) (sym ew)
          (subst (λ (z : List Bool). AreWatched (set (set old.heads.items (code_of one) (2 * n + 1)) (code_of two) ((2 * n + 1) + 1)) (set (set old.next.items (2 * n) (get_or old.heads.items (code_of one) 0)) (2 * n + 1) (get_or (set old.heads.items (code_of one) (2 * n + 1)) (code_of two) 0)) (set (set old.watched.items (2 * n) one) (2 * n + 1) two) taken z) (sym eo)
          (started old.heads.items old.next.items old.watched.items taken old.whole.items a n one two nl nw h1 h2 (in_clause (λ c. list_any (same_lit one) c) p.first) (in_clause (λ c. list_any (same_lit two) c) p.second) p.differ))));
      is = record {
        whole = eo;
        others = λ e h. ap (λ (z : List InLit). watch_at z e) ew ∙ (get_or-set_other (set old.watched.items (2 * n) one) (2 * n + 1) e two no_lit (λ q. h (ap (λ (j : ℕ). j / 2) q ∙ half_odd n)) ∙ get_or-set_other old.watched.items (2 * n) e one no_lit (λ q. h (ap (λ (j : ℕ). j / 2) q ∙ half_even n)));
        first =
            ap (false_in from)
            (ap (λ (z : List InLit). watch_at z (2 * n)) ew ∙ (get_or-set_other (set old.watched.items (2 * n) one) (2 * n + 1) (2 * n) two no_lit (λ q. omega (arith, q)) ∙ get_or-set_same old.watched.items (2 * n) one no_lit (omega (arith, a.same, nl))))
            ∙ p.able;
        second =
            ap (λ (z : List InLit). watch_at z (2 * n + 1)) ew
            ∙ get_or-set_same (set old.watched.items (2 * n) one) (2 * n + 1) two no_lit (omega (arith, a.same, nl, length-set old.watched.items (2 * n) one));
        good = ⊎_elim (λ x. inl x) (λ x. inr (in_clause (λ c. list_any (true_in to) c) x)) p.good;
      };
      heads = ap length eh ∙ (length-set (set old.heads.items (code_of one) (2 * n + 1)) (code_of two) ((2 * n + 1) + 1) ∙ length-set old.heads.items (code_of one) (2 * n + 1));
    }
  where
    in_clause : (test : List InLit → Bool) → names held id test ≡ true → test (clause_of taken (2 * n)) ≡ true
    in_clause test m = subst (λ (z : ClauseId). test (lits_in (taken_at taken z.0)) ≡ true) i (names_taken taken held id test k m)

-- an id is that of an entry
pub id_here : (taken : List Taken) (n : ℕ) (d : Taken) → n < length taken → (get_or taken n d).id ≡ id_of taken (2 * n)
id_here taken n d l = ap (λ (t : Taken). t.id) (get_or_default taken n d no_taken l) ∙ ap (λ (i : ℕ). (get_or taken i no_taken).id) (sym (half_even n))

pub seen_here : (taken : List Taken) (held : List Held) (n : ℕ) (id : ClauseId) (t : List Step) → HasTakenOver taken held → id ≡ id_of taken (2 * n) → names held id (λ c. list_any (true_in t) c) ≡ true → IsSeen held taken t n
seen_here taken held n id t k i m = inl (subst (λ (z : ClauseId). list_any (true_in t) (lits_in (taken_at taken z.0)) ≡ true) i (names_taken taken held id (λ c. list_any (true_in t) c) k m))

-- a literal of a clause has words of its own
pub named_code : (held : List Held) (id : ClauseId) (l : InLit) (n : ℕ) → clauses_below (n / 2) held ≡ true → names held id (λ c. list_any (same_lit l) c) ≡ true → code_of l < n
named_code held id l n b e =
    named_all (λ (h : Held). lits_below (n / 2) h.lits) (λ c. list_any (same_lit l) c) held id (code_of l < n) e b
    (λ h y q.
    let v : ltb l.var.0 (n / 2) ≡ true = all_or_any (λ (m : InLit). ltb m.var.0 (n / 2)) (same_lit l) (ltb l.var.0 (n / 2) ≡ true) h.lits y q (λ m u z. subst (λ (k : InLit). ltb k.var.0 (n / 2) ≡ true) (sym (same_lit_eq l m z)) u) in
    small l.negative (ltb-true _ _ v))
  where
    small : (s : Bool) → l.var.0 < n / 2 → 2 * l.var.0 + cond s 1 0 < n
    small true h = omega (arith, h)
    small false h = omega (arith, h)
