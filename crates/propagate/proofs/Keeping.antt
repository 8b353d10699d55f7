-- What watches keep from call to call.
use Rattle.std.proofs.Common.{◌≡◌, ◌<◌, ◌≤◌, ◌-◌, ◌*◌, ◌/◌, ◌⊎◌, inl, inr, ⊎_elim, ℕ, zero, suc, Bool, true, false, cond, eqb, eq-eqb, find, min, List, [], ◌∷◌, ◌++◌, Some, None, length, take, replicate, get_or, refl, sym, ap, ap₂, subst, ◌∙◌, arith}
use Rattle.std.specs.Option.{is_some}
use Rattle.std.proofs.lemmas.Bool.{false≢true, true≢false, cases_lt}
use Rattle.std.proofs.lemmas.List.{length-take, get_or_append_left, get_or-append_right, length-append, length-replicate}
use Rattle.std.specs.List.{list_any}
use Rattle.std.proofs.lemmas.List.Folds.{list_any_at}
use Rattle.sat_lits.specs.InLits.{same_lit, opposite}
use Rattle.sat_lits.specs.declared.literal.InLit.{InLit}
use Rattle.trail.specs.declared.trail.Step.{Step}
use Rattle.trail.specs.Trail.{lits_of, false_in}
use Rattle.clause_store.specs.Store.{Held, rising}
use Rattle.propagate.specs.declared.watches.Taken.{Taken}
use Rattle.propagate.specs.declared.table.Table.{Table}
use Rattle.propagate.specs.Reasons.{Extends}
use Rattle.propagate.specs.Watching.{IsFront, HasTakenOver, taken_at}
use Rattle.propagate.specs.Chains.{Linked, Keyed}
use Rattle.propagate.specs.Watched.{Has, no_lit, no_taken, watch_at, clause_of, id_of, lits_in, is_whole, code_of, key_in, other_of, AreWatched}
use Rattle.propagate.specs.Walks.{AllGood, Keeps}
use Rattle.propagate.specs.Starts.{IsListed, AreListed, LooksRight}
use Rattle.propagate.specs.Units.{all_quiet}
use Rattle.propagate.specs.Words.{AreWords, IsSame}
use Rattle.propagate.specs.Fine.{IsMarked, IsTold, IsFine, AllFine, IsLater}
use Rattle.propagate.specs.Inside.{AreKept}
use Rattle.propagate.proofs.Passing.{front_false, take_extends}
use Rattle.propagate.proofs.Quieting.{watched_quiet}
use Rattle.propagate.proofs.Freshing.{seen_more}
use Rattle.propagate.proofs.Fining.{get_taken, marked_back, fine_back, fine_all}

-- what holds before each literal is done with
pub record AtMark (lits done : List InLit) (first starts : List ℕ) (place walked : ℕ) : Type 0 where
  pub front : done ≡ take place lits
  pub later : IsLater first starts walked (length done)
  pub long : length first ≤ length done

take_past : {X : Type 0} (n : ℕ) (xs : List X) → length xs ≤ n → take n xs ≡ xs
take_past zero [] h = refl
take_past zero (x ∷ xs) h = absurd (omega (arith, h))
take_past (suc n) [] h = refl
take_past {X = X} (suc n) (x ∷ xs) h = ap (λ (z : List X). x ∷ z) (take_past n xs (omega (arith, h)))

-- at a lesser place from which literals are walked
pub marked_less : (done : List InLit) (starts : List ℕ) (walked less : ℕ) → IsMarked done starts walked → less ≤ walked → IsMarked done starts less
marked_less done starts walked less m l = record { same = m.same; low = m.low; rise = m.rise; within = omega (arith, m.within, l) }

-- after looks at all clauses that are not watched
pub keeps_looked : (taken : List Taken) (done : List InLit) (starts : List ℕ) (first walked n : ℕ) (old new : Table) (was fresh : List ℕ) → AreKept taken done starts first old was n → AreWatched new.heads.items new.next.items new.watched.items taken new.whole.items → AreListed taken new.whole.items fresh
    → length new.heads.items ≡ length old.heads.items → walked ≤ first → ((s : List ℕ) → AllFine done s first taken old.whole.items old.watched.items → AllFine done s walked taken new.whole.items new.watched.items) → AreKept taken done starts walked new fresh n
keeps_looked taken done starts first walked n old new was fresh k w l h b f = record { watched = w; marked = marked_less done starts first walked k.marked b; fine = f starts k.fine; listed = l; heads = h ∙ k.heads }

-- after a walk over chains
pub keeps_passed : (taken : List Taken) (done : List InLit) (starts : List ℕ) (walked n : ℕ) (old new : Table) (fresh : List ℕ) (t : List Step) → AreKept taken done starts walked old fresh n → IsFront done (lits_of t) → AreWatched new.heads.items new.next.items new.watched.items taken new.whole.items
    → Keeps t old.watched.items new.watched.items → length new.heads.items ≡ length old.heads.items → new.whole ≡ old.whole → AreKept taken done starts walked new fresh n
keeps_passed taken done starts walked n old new fresh t k fr w kp h wh =
    record {
      watched = w;
      marked = k.marked;
      fine = λ e b v p l o. fine e b (ap (λ (z : List Bool). is_whole z e) (sym whole_items) ∙ v) p l o (kp e);
      listed = subst (λ (z : List Bool). AreListed taken z fresh) (sym whole_items) k.listed;
      heads = h ∙ k.heads;
    }
  where
    whole_items : new.whole.items ≡ old.whole.items
    whole_items = ap (λ (z : _). z.items) wh

    fine : (e : ℕ) → e < 2 * length taken → is_whole old.whole.items e ≡ false → (p : ℕ) → p < walked → opposite (get_or done p no_lit) (watch_at new.watched.items e) ≡ true → (watch_at new.watched.items e ≡ watch_at old.watched.items e) ⊎ (false_in t (watch_at new.watched.items e) ≡ false) → IsTold done starts (clause_of taken e) p
    fine e b v p l o (inl y) = k.fine e b v p l (ap (opposite (get_or done p no_lit)) (sym y) ∙ o)
    fine e b v p l o (inr y) = absurd (true≢false (sym of_done ∙ y))
      where
        of_done : false_in t (watch_at new.watched.items e) ≡ true
        of_done =
            front_false t (length done) (watch_at new.watched.items e)
            (ap (list_any (λ g. opposite g (watch_at new.watched.items e))) fr ∙ list_any_at (λ g. opposite g (watch_at new.watched.items e)) done p no_lit (omega (arith, l, k.marked.within)) o)

-- a front stays one where a trail goes on
pub front_extends : (held : List Held) (done : List InLit) (from to : List Step) → Extends held from to → IsFront done (lits_of from) → IsFront done (lits_of to)
front_extends held done from to x f = take_extends held from to (length done) x short ∙ f
  where
    short : length done ≤ length (lits_of from)
    short =
        let e : length done ≡ min (length done) (length (lits_of from)) = ap length (sym f) ∙ length-take (length done) (lits_of from) in
        omega (arith, e)

front_short : (done lits : List InLit) → IsFront done lits → length done ≤ length lits
front_short done lits f =
    let e : length done ≡ min (length done) (length lits) = ap length (sym f) ∙ length-take (length done) lits in
    omega (arith, e)

marked_later : (done lits : List InLit) (starts more : List ℕ) (walked now : ℕ) → IsMarked done starts walked → IsFront done lits → IsLater starts more walked (length lits) → now ≤ length lits → IsMarked lits more now
marked_later done lits starts more walked now m f l nw =
    record {
      same = l.len;
      low = λ q h. first q h (cases_lt q (length starts));
      rise = λ q r o h. both q r o h (cases_lt q (length starts)) (cases_lt r (length starts));
      within = nw;
    }
  where
    first : (q : ℕ) → q < length more → (q < length starts) ⊎ (length starts ≤ q) → get_or more q 0 ≤ q
    first q h (inl a) =
        let e : get_or more q 0 ≡ min (get_or starts q 0) walked = l.old q a in
        let k : get_or starts q 0 ≤ q = m.low q a in
        omega (arith, e, k)
    first q h (inr a) =
        let e : get_or more q 0 ≡ walked = l.new q a (omega (arith, h, l.len)) in
        omega (arith, e, m.within, m.same, a)

    both : (q r : ℕ) → q ≤ r → r < length more → (q < length starts) ⊎ (length starts ≤ q) → (r < length starts) ⊎ (length starts ≤ r) → get_or more q 0 ≤ get_or more r 0
    both q r o h (inl a) (inl b) =
        let e : get_or more q 0 ≡ min (get_or starts q 0) walked = l.old q a in
        let g : get_or more r 0 ≡ min (get_or starts r 0) walked = l.old r b in
        let k : get_or starts q 0 ≤ get_or starts r 0 = m.rise q r o b in
        omega (arith, e, g, k)
    both q r o h (inl a) (inr b) =
        let e : get_or more q 0 ≡ min (get_or starts q 0) walked = l.old q a in
        let g : get_or more r 0 ≡ walked = l.new r b (omega (arith, h, l.len)) in
        omega (arith, e, g)
    both q r o h (inr a) (inl b) = absurd (omega (arith, a, b, o))
    both q r o h (inr a) (inr b) =
        let e : get_or more q 0 ≡ walked = l.new q a (omega (arith, o, h, l.len)) in
        let g : get_or more r 0 ≡ walked = l.new r b (omega (arith, h, l.len)) in
        omega (arith, e, g)

later_less : (starts more : List ℕ) (walked n : ℕ) → IsLater starts more walked n → (q : ℕ) → q < length starts → get_or more q 0 ≤ get_or starts q 0
later_less starts more walked n l q h =
    let e : get_or more q 0 ≡ min (get_or starts q 0) walked = l.old q h in
    omega (arith, e)

later_low : (starts more : List ℕ) (walked n : ℕ) → IsLater starts more walked n → (q : ℕ) → q < length more → get_or more q 0 ≤ walked
later_low starts more walked n l q h = go (cases_lt q (length starts))
  where
    go : (q < length starts) ⊎ (length starts ≤ q) → get_or more q 0 ≤ walked
    go (inl a) =
        let e : get_or more q 0 ≡ min (get_or starts q 0) walked = l.old q a in
        omega (arith, e)
    go (inr a) =
        let e : get_or more q 0 ≡ walked = l.new q a (omega (arith, h, l.len)) in
        omega (arith, e)

fine_longer : (done lits : List InLit) (starts more : List ℕ) (walked : ℕ) (c : List InLit) (w : InLit) → IsFront done lits → IsMarked done starts walked → ((q : ℕ) → q < length starts → get_or more q 0 ≤ get_or starts q 0) → IsFine done starts walked c w → IsFine lits more walked c w
fine_longer done lits starts more walked c w fr m less f p h o = told (f p h (ap (λ (z : InLit). opposite z w) (same_at p (omega (arith, h, m.within))) ∙ o))
  where
    same_at : (q : ℕ) → q < length done → get_or done q no_lit ≡ get_or lits q no_lit
    same_at q b = ap (λ (z : List InLit). get_or z q no_lit) (sym fr) ∙ get_taken lits (length done) q no_lit b

    short : length done ≤ length lits
    short = front_short done lits fr

    told : IsTold done starts c p → IsTold lits more c p
    told s =
        record {
          at = s.at;
          below = omega (arith, s.below, short);
          early =
              let l : get_or more s.at 0 ≤ get_or starts s.at 0 = less s.at (omega (arith, m.same, s.below)) in
              omega (arith, l, s.early);
          holds = ap (λ (z : InLit). list_any (same_lit z) c) (sym (same_at s.at s.below)) ∙ s.holds;
        }

-- after all literals of a trail are done with, where those from a place on are not walked
pub keeps_marked : (taken : List Taken) (done lits : List InLit) (starts more : List ℕ) (walked n : ℕ) (table : Table) (fresh : List ℕ) → AreKept taken done starts walked table fresh n → IsFront done lits → IsLater starts more walked (length lits) → AreKept taken lits more walked table fresh n
keeps_marked taken done lits starts more walked n table fresh k fr l =
    record {
      watched = k.watched;
      marked = marked_later done lits starts more walked walked k.marked fr l (let s : length done ≤ length lits = front_short done lits fr in omega (arith, s, k.marked.within));
      fine = λ e b v. fine_longer done lits starts more walked (clause_of taken e) (watch_at table.watched.items e) fr k.marked (later_less starts more walked (length lits) l) (k.fine e b v);
      listed = k.listed;
      heads = k.heads;
    }

-- and where all are walked
pub keeps_walked : (held : List Held) (taken : List Taken) (done : List InLit) (starts more : List ℕ) (walked n : ℕ) (table : Table) (fresh : List ℕ) (t : List Step) → AreKept taken done starts walked table fresh n → IsFront done (lits_of t) → IsLater starts more walked (length (lits_of t))
    → AllGood held taken (lits_of t) t table.whole.items table.watched.items false → AreKept taken (lits_of t) more (length (lits_of t)) table fresh n
keeps_walked held taken done starts more walked n table fresh t k fr l g =
    record {
      watched = k.watched;
      marked = marked_later done (lits_of t) starts more walked (length (lits_of t)) k.marked fr l (omega arith);
      fine = λ e b v.
          fine_all done starts more walked t (clause_of taken e) (watch_at table.watched.items e) fr k.marked l.len (later_less starts more walked (length (lits_of t)) l) (later_low starts more walked (length (lits_of t)) l)
          (λ q. ⊎_elim (λ a. a) (λ a. absurd (false≢true a.0)) (g e b v q)) (k.fine e b v);
      listed = k.listed;
      heads = k.heads;
    }

-- where a trail goes back
pub keeps_back : (taken : List Taken) (done : List InLit) (starts : List ℕ) (walked keep less n : ℕ) (table : Table) (fresh : List ℕ) → AreKept taken done starts walked table fresh n → keep < length done → less ≤ walked → less ≤ get_or starts keep 0 → AreKept taken (take keep done) (take keep starts) less table fresh n
keeps_back taken done starts walked keep less n table fresh k h a b =
    record {
      watched = k.watched;
      marked = marked_back done starts walked keep less k.marked h b;
      fine = λ e i v. fine_back done starts walked keep less (clause_of taken e) (watch_at table.watched.items e) k.marked h a b (k.fine e i v);
      listed = k.listed;
      heads = k.heads;
    }

get_or_replicate : {X : Type 0} (n i : ℕ) (x : X) → get_or (replicate n x) i x ≡ x
get_or_replicate zero i x = refl
get_or_replicate (suc n) zero x = refl
get_or_replicate (suc n) (suc i) x = get_or_replicate n i x

-- at first all clauses are looked at whole
pub keeps_first : (taken : List Taken) (table : Table) (fresh : List ℕ) (n : ℕ) → AreWords table n (length taken) → length fresh ≡ length taken → ((i : ℕ) → i < length taken → get_or fresh i 0 ≡ i) → AreKept taken [] [] 0 table fresh n
keeps_first taken table fresh n w l f =
    record {
      watched = record {
        lists = λ k. [];
        chains = record {
          linked = λ k. ap (λ (z : List ℕ). get_or z k 0) w.heads ∙ get_or_replicate (2 * n) k 0;
          once = λ k. record {};
          keyed = λ k. record {};
        };
        long = ap length w.next ∙ length-replicate (2 * length taken) 0;
        same = ap length w.watched ∙ length-replicate (2 * length taken) no_lit;
        flags = ap length w.whole ∙ length-replicate (length taken) true;
        there = λ e b v. absurd (none e v);
        within = λ e b v. absurd (none e v);
        apart = λ e b v. absurd (none e v);
        only = λ k e h. absurd h;
      };
      marked = record { same = refl; low = λ q h. absurd (omega (arith, h)); rise = λ q r o h. absurd (omega (arith, h)); within = omega arith };
      fine = λ e b v. absurd (none e v);
      listed = ((λ i b v. record { at = i; below = omega (arith, b, l); is = f i b }), (λ i b. let g : get_or fresh i 0 ≡ i = f i (omega (arith, b, l)) in omega (arith, b, l, g)));
      heads = ap length w.heads ∙ length-replicate (2 * n) 0;
    }
  where
    none : (e : ℕ) → is_whole table.whole.items e ≡ false → ⊥
    none e v = true≢false (sym (ap (λ (z : List Bool). get_or z (e / 2) true) w.whole ∙ get_or_replicate (length taken) (e / 2) true) ∙ v)

-- where the words are the same
pub keeps_same : (taken : List Taken) (done : List InLit) (starts : List ℕ) (walked n : ℕ) (old new : Table) (was fresh : List ℕ) → AreKept taken done starts walked old was n → IsSame old new → fresh ≡ was → AreKept taken done starts walked new fresh n
keeps_same taken done starts walked n old new was fresh k s f =
    record {
      watched =
          subst (λ (z : List ℕ). AreWatched z new.next.items new.watched.items taken new.whole.items) (sym s.heads)
          (subst (λ (z : List ℕ). AreWatched old.heads.items z new.watched.items taken new.whole.items) (sym s.next)
          (subst (λ (z : List InLit). AreWatched old.heads.items old.next.items z taken new.whole.items) (sym s.watched)
          (subst (λ (z : List Bool). AreWatched old.heads.items old.next.items old.watched.items taken z) (sym s.whole) k.watched)));
      marked = k.marked;
      fine =
          subst (λ (z : List InLit). AllFine done starts walked taken new.whole.items z) (sym s.watched)
          (subst (λ (z : List Bool). AllFine done starts walked taken z old.watched.items) (sym s.whole) k.fine);
      listed = subst (λ (z : List ℕ). AreListed taken new.whole.items z) (sym f) (subst (λ (z : List Bool). AreListed taken z was) (sym s.whole) k.listed);
      heads = ap length s.heads ∙ k.heads;
    }

get_or_pad : {X : Type 0} (xs ys : List X) (i : ℕ) (d : X) → ((j : ℕ) → get_or ys j d ≡ d) → get_or (xs ++ ys) i d ≡ get_or xs i d
get_or_pad [] ys i d h = h i
get_or_pad (x ∷ xs) ys zero d h = refl
get_or_pad (x ∷ xs) ys (suc i) d h = get_or_pad xs ys i d h

pad_one : {X : Type 0} (d : X) (j : ℕ) → get_or (d ∷ []) j d ≡ d
pad_one d zero = refl
pad_one d (suc j) = refl

pad_two : {X : Type 0} (d : X) (j : ℕ) → get_or (d ∷ d ∷ []) j d ≡ d
pad_two d zero = refl
pad_two d (suc j) = pad_one d j

found_left : {X : Type 0} (p : X → Bool) (xs ys : List X) → is_some (find p xs) ≡ true → find p (xs ++ ys) ≡ find p xs
found_left p [] ys e = absurd (false≢true e)
found_left {X = X} p (x ∷ xs) ys e = go (p x) e (λ (f : is_some (find p xs) ≡ true). found_left p xs ys f)
  where
    go : (b : Bool) → is_some (cond b (Some x) (find p xs)) ≡ true → (is_some (find p xs) ≡ true → find p (xs ++ ys) ≡ find p xs) → cond b (Some x) (find p (xs ++ ys)) ≡ cond b (Some x) (find p xs)
    go true f i = refl
    go false f i = i f

found_there : (taken : List Taken) (i : ℕ) → i < length taken → is_some (taken_at taken (get_or taken i no_taken).id.0) ≡ true
found_there [] i h = absurd (omega (arith, h))
found_there (x ∷ xs) zero h = ap (λ (b : Bool). is_some (cond b (Some x) (taken_at xs x.id.0))) (eq-eqb x.id.0 x.id.0 refl)
found_there (x ∷ xs) (suc i) h = go (eqb x.id.0 (get_or xs i no_taken).id.0) (found_there xs i (omega (arith, h)))
  where
    go : (b : Bool) → is_some (taken_at xs (get_or xs i no_taken).id.0) ≡ true → is_some (cond b (Some x) (taken_at xs (get_or xs i no_taken).id.0)) ≡ true
    go true f = refl
    go false f = f

clause_kept : (taken more : List Taken) (e : ℕ) → e / 2 < length taken → clause_of (taken ++ more) e ≡ clause_of taken e
clause_kept taken more e h =
    ap (λ (z : ℕ). lits_in (taken_at (taken ++ more) z)) (ap (λ (z : Taken). z.id.0) (get_or_append_left taken more no_taken (e / 2) h))
    ∙ ap lits_in (found_left (λ (u : Taken). eqb u.id.0 (id_of taken e).0) taken more (found_there taken (e / 2) h))

not_whole_in : (whole : List Bool) (i : ℕ) → get_or whole i true ≡ false → i < length whole
not_whole_in [] i h = absurd (true≢false h)
not_whole_in (b ∷ bs) zero h = omega arith
not_whole_in (b ∷ bs) (suc i) h = omega (arith, not_whole_in bs i h)

linked_more : (next more : List ℕ) (p : ℕ) (es : List ℕ) → ((j : ℕ) → get_or more j 0 ≡ 0) → Linked next p es → Linked (next ++ more) p es
linked_more next more p [] z l = l
linked_more next more p (e ∷ es) z l =
    (l.0, omega (arith, l.1, length-append next more), subst (λ (q : ℕ). Linked (next ++ more) q es) (sym (get_or_pad next more e 0 z)) (linked_more next more (get_or next e 0) es z l.2))

keyed_same : (key new : ℕ → ℕ) (k : ℕ) (es : List ℕ) → ((e : ℕ) → new e ≡ key e) → Keyed key k es → Keyed new k es
keyed_same key new k [] s l = l
keyed_same key new k (e ∷ es) s l = (s e ∙ l.0, keyed_same key new k es s l.1)

watched_attached : (taken : List Taken) (t : Taken) (heads next : List ℕ) (watched : List InLit) (whole : List Bool) → AreWatched heads next watched taken whole → AreWatched heads (next ++ 0 ∷ 0 ∷ []) (watched ++ no_lit ∷ no_lit ∷ []) (taken ++ t ∷ []) (whole ++ true ∷ [])
watched_attached taken t heads next watched whole a =
    record {
      lists = a.lists;
      chains = record {
        linked = λ k. linked_more next (0 ∷ 0 ∷ []) (get_or heads k 0) (a.lists k) (pad_two 0) (a.chains.linked k);
        once = a.chains.once;
        keyed = λ k. keyed_same (key_in watched) (key_in (watched ++ no_lit ∷ no_lit ∷ [])) k (a.lists k) (λ e. ap code_of (same_watch e)) (a.chains.keyed k);
      };
      long = length-append next (0 ∷ 0 ∷ []) ∙ omega (arith, a.long, length-append taken (t ∷ []));
      same = length-append watched (no_lit ∷ no_lit ∷ []) ∙ omega (arith, a.same, length-append taken (t ∷ []));
      flags = length-append whole (true ∷ []) ∙ omega (arith, a.flags, length-append taken (t ∷ []));
      there = λ e b v. subst (λ (z : InLit). Has e (a.lists (code_of z))) (sym (same_watch e)) (a.there e (before e v) (old e v));
      within = λ e b v.
          ap₂ (λ (z : InLit) (c : List InLit). list_any (same_lit z) c) (same_watch e) (clause_kept taken (t ∷ []) e (half e v)) ∙ a.within e (before e v) (old e v);
      apart = λ e b v. ap₂ same_lit (same_watch e) (same_watch (other_of e)) ∙ a.apart e (before e v) (old e v);
      only = λ k e h. get_or_pad whole (true ∷ []) (e / 2) true (pad_one true) ∙ a.only k e h;
    }
  where
    same_watch : (e : ℕ) → watch_at (watched ++ no_lit ∷ no_lit ∷ []) e ≡ watch_at watched e
    same_watch e = get_or_pad watched (no_lit ∷ no_lit ∷ []) e no_lit (pad_two no_lit)

    old : (e : ℕ) → is_whole (whole ++ true ∷ []) e ≡ false → is_whole whole e ≡ false
    old e v = sym (get_or_pad whole (true ∷ []) (e / 2) true (pad_one true)) ∙ v

    half : (e : ℕ) → is_whole (whole ++ true ∷ []) e ≡ false → e / 2 < length taken
    half e v = omega (arith, not_whole_in whole (e / 2) (old e v), a.flags)

    before : (e : ℕ) → is_whole (whole ++ true ∷ []) e ≡ false → e < 2 * length taken
    before e v = omega (arith, half e v)

fine_attached : (taken : List Taken) (t : Taken) (done : List InLit) (starts : List ℕ) (walked : ℕ) (whole : List Bool) (watched : List InLit) → length whole ≡ length taken → AllFine done starts walked taken whole watched → AllFine done starts walked (taken ++ t ∷ []) (whole ++ true ∷ []) (watched ++ no_lit ∷ no_lit ∷ [])
fine_attached taken t done starts walked whole watched l f e b v =
    let o : is_whole whole e ≡ false = sym (get_or_pad whole (true ∷ []) (e / 2) true (pad_one true)) ∙ v in
    let h : e / 2 < length taken = omega (arith, not_whole_in whole (e / 2) o, l) in
    subst (λ (c : List InLit). IsFine done starts walked c (watch_at (watched ++ no_lit ∷ no_lit ∷ []) e)) (sym (clause_kept taken (t ∷ []) e h))
    (subst (λ (z : InLit). IsFine done starts walked (clause_of taken e) z) (sym (get_or_pad watched (no_lit ∷ no_lit ∷ []) e no_lit (pad_two no_lit))) (f e (omega (arith, h)) o))

listed_attached : (taken : List Taken) (t : Taken) (whole : List Bool) (fresh : List ℕ) → AreListed taken whole fresh → AreListed (taken ++ t ∷ []) (whole ++ true ∷ []) (fresh ++ length taken ∷ [])
listed_attached taken t whole fresh l = ((λ n b v. there n b v (cases_lt n (length taken))), (λ i b. below i b (cases_lt i (length fresh))))
  where
    last : get_or (fresh ++ length taken ∷ []) (length fresh) 0 ≡ length taken
    last =
        let z : length fresh - length fresh ≡ 0 = omega arith in
        get_or-append_right fresh (length taken ∷ []) (length fresh) (length fresh) 0 refl (omega arith) ∙ ap (λ (i : ℕ). get_or (length taken ∷ []) i 0) z

    there : (n : ℕ) → n < length (taken ++ t ∷ []) → get_or (whole ++ true ∷ []) n true ≡ true → (n < length taken) ⊎ (length taken ≤ n) → IsListed (fresh ++ length taken ∷ []) n
    there n b v (inl a) = longer (l.0 n a (sym (get_or_pad whole (true ∷ []) n true (pad_one true)) ∙ v))
      where
        longer : IsListed fresh n → IsListed (fresh ++ length taken ∷ []) n
        longer i = record { at = i.at; below = omega (arith, i.below, length-append fresh (length taken ∷ [])); is = get_or_append_left fresh (length taken ∷ []) 0 i.at i.below ∙ i.is }
    there n b v (inr a) =
        record {
          at = length fresh;
          below = omega (arith, length-append fresh (length taken ∷ []));
          is = last ∙ omega (arith, a, b, length-append taken (t ∷ []));
        }

    below : (i : ℕ) → i < length (fresh ++ length taken ∷ []) → (i < length fresh) ⊎ (length fresh ≤ i) → get_or (fresh ++ length taken ∷ []) i 0 < length (taken ++ t ∷ [])
    below i b (inl a) =
        let e : get_or (fresh ++ length taken ∷ []) i 0 ≡ get_or fresh i 0 = get_or_append_left fresh (length taken ∷ []) 0 i a in
        let m : get_or fresh i 0 < length taken = l.1 i a in
        omega (arith, e, m, length-append taken (t ∷ []))
    below i b (inr a) =
        let z : i ≡ length fresh = omega (arith, a, b, length-append fresh (length taken ∷ [])) in
        let e : get_or (fresh ++ length taken ∷ []) i 0 ≡ length taken = ap (λ (j : ℕ). get_or (fresh ++ length taken ∷ []) j 0) z ∙ last in
        omega (arith, e, length-append taken (t ∷ []))

-- after one more clause was taken over
pub keeps_attached : (taken : List Taken) (t : Taken) (done : List InLit) (starts : List ℕ) (walked n : ℕ) (old new : Table) (was fresh : List ℕ) → AreKept taken done starts walked old was n → new.heads.items ≡ old.heads.items → new.next.items ≡ old.next.items ++ 0 ∷ 0 ∷ []
    → new.watched.items ≡ old.watched.items ++ no_lit ∷ no_lit ∷ [] → new.whole.items ≡ old.whole.items ++ true ∷ [] → fresh ≡ was ++ length taken ∷ [] → AreKept (taken ++ t ∷ []) done starts walked new fresh n
keeps_attached taken t done starts walked n old new was fresh k h x w b f =
    record {
      watched =
          subst (λ (z : List ℕ). AreWatched z new.next.items new.watched.items (taken ++ t ∷ []) new.whole.items) (sym h)
          (subst (λ (z : List ℕ). AreWatched old.heads.items z new.watched.items (taken ++ t ∷ []) new.whole.items) (sym x)
          (subst (λ (z : List InLit). AreWatched old.heads.items (old.next.items ++ 0 ∷ 0 ∷ []) z (taken ++ t ∷ []) new.whole.items) (sym w)
          (subst (λ (z : List Bool). AreWatched old.heads.items (old.next.items ++ 0 ∷ 0 ∷ []) (old.watched.items ++ no_lit ∷ no_lit ∷ []) (taken ++ t ∷ []) z) (sym b)
          (watched_attached taken t old.heads.items old.next.items old.watched.items old.whole.items k.watched))));
      marked = k.marked;
      fine =
          subst (λ (z : List InLit). AllFine done starts walked (taken ++ t ∷ []) new.whole.items z) (sym w)
          (subst (λ (z : List Bool). AllFine done starts walked (taken ++ t ∷ []) z (old.watched.items ++ no_lit ∷ no_lit ∷ [])) (sym b)
          (fine_attached taken t done starts walked old.whole.items old.watched.items k.watched.flags k.fine));
      listed =
          subst (λ (z : List ℕ). AreListed (taken ++ t ∷ []) new.whole.items z) (sym f)
          (subst (λ (z : List Bool). AreListed (taken ++ t ∷ []) z (was ++ length taken ∷ [])) (sym b) (listed_attached taken t old.whole.items was k.listed));
      heads = ap length h ∙ k.heads;
    }

-- the same, where the parts are read through slices
pub looked_kept : (taken read : List Taken) (done front : List InLit) (starts : List ℕ) (first walked n : ℕ) (old new : Table) (was fresh : List ℕ) → read ≡ taken → front ≡ done → AreKept taken done starts first old was n → AreWatched new.heads.items new.next.items new.watched.items read new.whole.items → AreListed read new.whole.items fresh
    → length new.heads.items ≡ length old.heads.items → walked ≤ first → ((s : List ℕ) → AllFine front s first read old.whole.items old.watched.items → AllFine front s walked read new.whole.items new.watched.items) → AreKept taken done starts walked new fresh n
looked_kept taken read done front starts first walked n old new was fresh r d k w l h b f =
    subst (λ (z : List Taken). AreKept z done starts walked new fresh n) r
    (subst (λ (z : List InLit). AreKept read z starts walked new fresh n) d
    (keeps_looked read front starts first walked n old new was fresh (subst (λ (z : List Taken). AreKept z front starts first old was n) (sym r) (subst (λ (z : List InLit). AreKept taken z starts first old was n) (sym d) k)) w l h b f))

pub passed_kept : (taken read : List Taken) (done : List InLit) (starts : List ℕ) (walked n : ℕ) (old new : Table) (fresh : List ℕ) (t : List Step) → read ≡ taken → AreKept taken done starts walked old fresh n → IsFront done (lits_of t) → AreWatched new.heads.items new.next.items new.watched.items read new.whole.items
    → Keeps t old.watched.items new.watched.items → length new.heads.items ≡ length old.heads.items → new.whole ≡ old.whole → AreKept taken done starts walked new fresh n
passed_kept taken read done starts walked n old new fresh t r k fr w kp h wh =
    keeps_passed taken done starts walked n old new fresh t k fr (subst (λ (z : List Taken). AreWatched new.heads.items new.next.items new.watched.items z new.whole.items) r w) kp h wh

-- before any literal is done with
pub keeps_start : (taken : List Taken) (done : List InLit) (starts : List ℕ) (table : Table) (fresh : List ℕ) (n m : ℕ) → done ≡ [] → starts ≡ [] → m ≡ length taken → AreWords table n m → length fresh ≡ m → ((i : ℕ) → i < m → get_or fresh i 0 ≡ i) → AreKept taken done starts 0 table fresh n
keeps_start taken done starts table fresh n m d s e w l f =
    subst (λ (z : List InLit). AreKept taken z starts 0 table fresh n) (sym d)
    (subst (λ (z : List ℕ). AreKept taken [] z 0 table fresh n) (sym s)
    (keeps_first taken table fresh n (subst (λ (z : ℕ). AreWords table n z) e w) (l ∙ e) (λ i h. f i (subst (λ (z : ℕ). i < z) (sym e) h))))

-- after a pass with no conflict every clause is quiet
pub passed_quiet : (held : List Held) (taken looked passed : List Taken) (from to : List Step) (mid new : Table) (missed : Bool) → rising held ≡ true → HasTakenOver taken held → looked ≡ taken → passed ≡ taken → AreWatched new.heads.items new.next.items new.watched.items passed new.whole.items
    → AllGood held passed (lits_of to) to new.whole.items new.watched.items missed → LooksRight held looked from mid.whole.items None → new.whole ≡ mid.whole → Extends held from to → all_quiet to held ≡ true
passed_quiet held taken looked passed from to mid new missed r h l p w g s wh x =
    watched_quiet held taken to new.heads.items new.next.items new.watched.items new.whole.items missed r h (subst (λ (z : List Taken). AreWatched new.heads.items new.next.items new.watched.items z new.whole.items) p w)
    (subst (λ (z : List Taken). AllGood held z (lits_of to) to new.whole.items new.watched.items missed) p g)
    (λ n b v. seen_more held taken from to n x (subst (λ (z : List Taken). LooksRight held z from mid.whole.items None) l s n b (ap (λ (z : List Bool). get_or z n true) (sym whole_items) ∙ v)))
  where
    whole_items : new.whole.items ≡ mid.whole.items
    whole_items = ap (λ (z : _). z.items) wh
