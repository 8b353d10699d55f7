-- How chains change.
use Rattle.std.proofs.Common.{◌≡◌, ◌≢◌, ◌<◌, ◌+◌, ℕ, Bool, true, false, cond, eqb, List, [], ◌∷◌, ◌++◌, length, set, get_or, refl, sym, ap, subst, ◌∙◌}
use Rattle.std.proofs.lemmas.Bool.{eqb-true, eqb-false}
use Rattle.std.proofs.lemmas.List.{get_or-set_same, get_or-set_other, length-set}
use Rattle.propagate.specs.Chains.{Linked, Lacks, Once, Keyed, AreChains, with_list}

-- a write at an entry leaves chains without it as they are
pub frame : (next : List ℕ) (e v p : ℕ) (es : List ℕ) → Lacks e es → Linked next p es → Linked (set next e v) p es
frame next e v p [] l h = h
frame next e v p (d ∷ ds) l h = (
  h.0,
  subst (λ (n : ℕ). d < n) (sym (length-set next e v)) h.1,
  subst (λ (z : ℕ). Linked (set next e v) z ds) (sym (get_or-set_other next e d v 0 l.0)) (frame next e v (get_or next d 0) ds l.1 h.2),
)

-- entries keep their keys where only another entry's is changed
pub rekeyed : (key more : ℕ → ℕ) (e k : ℕ) (es : List ℕ) → ((d : ℕ) → d ≢ e → more d ≡ key d) → Lacks e es → Keyed key k es → Keyed more k es
rekeyed key more e k [] s l h = tt
rekeyed key more e k (d ∷ ds) s l h = (s d l.0 ∙ h.0, rekeyed key more e k ds s l.1 h.1)

-- an entry of one key stands in no chain of another
pub other_lacks : (key : ℕ → ℕ) (e j : ℕ) (es : List ℕ) → key e ≢ j → Keyed key j es → Lacks e es
other_lacks key e j [] n h = tt
other_lacks key e j (d ∷ ds) n h = (λ q. n (sym (ap key q) ∙ h.0), other_lacks key e j ds n h.1)

-- an entry is put in front of a chain
pub put_in : (heads next : List ℕ) (key more : ℕ → ℕ) (lists : ℕ → List ℕ) (k e : ℕ) → AreChains heads next key lists → ((j : ℕ) → Lacks e (lists j)) → k < length heads → e < length next
    → more e ≡ k → ((d : ℕ) → d ≢ e → more d ≡ key d) → AreChains (set heads k (e + 1)) (set next e (get_or heads k 0)) more (with_list k (e ∷ lists k) lists)
put_in heads next key more lists k e a l hk he me mo =
    record {
      linked = λ j. linked j (eqb j k) refl;
      once = λ j. once j (eqb j k) refl;
      keyed = λ j. keyed j (eqb j k) refl;
    }
  where
    linked : (j : ℕ) (b : Bool) → eqb j k ≡ b → Linked (set next e (get_or heads k 0)) (get_or (set heads k (e + 1)) j 0) (cond b (e ∷ lists k) (lists j))
    linked j true q =
        let s : j ≡ k = eqb-true j k q in (
          ap (λ (z : ℕ). get_or (set heads k (e + 1)) z 0) s ∙ get_or-set_same heads k (e + 1) 0 hk,
          subst (λ (n : ℕ). e < n) (sym (length-set next e (get_or heads k 0))) he,
          subst (λ (z : ℕ). Linked (set next e (get_or heads k 0)) z (lists k)) (sym (get_or-set_same next e (get_or heads k 0) 0 he)) (frame next e (get_or heads k 0) (get_or heads k 0) (lists k) (l k) (a.linked k)),
        )
    linked j false q =
        subst (λ (z : ℕ). Linked (set next e (get_or heads k 0)) z (lists j)) (sym (get_or-set_other heads k j (e + 1) 0 (eqb-false j k q))) (frame next e (get_or heads k 0) (get_or heads j 0) (lists j) (l j) (a.linked j))

    once : (j : ℕ) (b : Bool) → eqb j k ≡ b → Once (cond b (e ∷ lists k) (lists j))
    once j true q = (l k, a.once k)
    once j false q = a.once j

    keyed : (j : ℕ) (b : Bool) → eqb j k ≡ b → Keyed more j (cond b (e ∷ lists k) (lists j))
    keyed j true q =
        let s : j ≡ k = eqb-true j k q in
        (me ∙ sym s, subst (λ (z : ℕ). Keyed more z (lists k)) (sym s) (rekeyed key more e k (lists k) mo (l k) (a.keyed k)))
    keyed j false q = rekeyed key more e j (lists j) mo (l j) (a.keyed j)

-- an entry is cut out of the chain, after another
pub cut : (next : List ℕ) (p b e : ℕ) (front back : List ℕ) → Linked next p (front ++ b ∷ e ∷ back) → Once (front ++ b ∷ e ∷ back) → Linked (set next b (get_or next e 0)) p (front ++ b ∷ back)
cut next p b e [] back h o = (
  h.0,
  subst (λ (n : ℕ). b < n) (sym (length-set next b (get_or next e 0))) h.1,
  subst (λ (z : ℕ). Linked (set next b (get_or next e 0)) z back) (sym (get_or-set_same next b (get_or next e 0) 0 h.1)) (frame next b (get_or next e 0) (get_or next e 0) back o.0.1 h.2.2),
)
cut next p b e (d ∷ ds) back h o = (
  h.0,
  subst (λ (n : ℕ). d < n) (sym (length-set next b (get_or next e 0))) h.1,
  subst (λ (z : ℕ). Linked (set next b (get_or next e 0)) z (ds ++ b ∷ back)) (sym (get_or-set_other next b d (get_or next e 0) 0 (away ds o.0))) (cut next (get_or next d 0) b e ds back h.2 o.1),
)
  where
    away : (xs : List ℕ) → Lacks d (xs ++ b ∷ e ∷ back) → d ≢ b
    away [] l q = l.0 (sym q)
    away (x ∷ xs) l q = away xs l.1 q

lacks_out : (d e : ℕ) (front back : List ℕ) → Lacks d (front ++ e ∷ back) → Lacks d (front ++ back)
lacks_out d e [] back l = l.1
lacks_out d e (x ∷ xs) back l = (l.0, lacks_out d e xs back l.1)

once_out : (e : ℕ) (front back : List ℕ) → Once (front ++ e ∷ back) → Once (front ++ back)
once_out e [] back o = o.1
once_out e (x ∷ xs) back o = (lacks_out x e xs back o.0, once_out e xs back o.1)

keyed_out : (key : ℕ → ℕ) (k e : ℕ) (front back : List ℕ) → Keyed key k (front ++ e ∷ back) → Keyed key k (front ++ back)
keyed_out key k e [] back h = h.1
keyed_out key k e (x ∷ xs) back h = (h.0, keyed_out key k e xs back h.1)

pub key_at : (key : ℕ → ℕ) (k e : ℕ) (front back : List ℕ) → Keyed key k (front ++ e ∷ back) → key e ≡ k
key_at key k e [] back h = h.0
key_at key k e (x ∷ xs) back h = key_at key k e xs back h.1

-- what was taken out stands there no more
pub gone : (e : ℕ) (front back : List ℕ) → Once (front ++ e ∷ back) → Lacks e (front ++ back)
gone e [] back o = o.0
gone e (x ∷ xs) back o = (not_here xs o.0, gone e xs back o.1)
  where
    not_here : (ys : List ℕ) → Lacks x (ys ++ e ∷ back) → x ≢ e
    not_here [] l q = l.0 (sym q)
    not_here (y ∷ ys) l q = not_here ys l.1 q

-- the first entry of a chain is taken out
pub take_first : (heads next : List ℕ) (key : ℕ → ℕ) (lists : ℕ → List ℕ) (k e : ℕ) (back : List ℕ) → AreChains heads next key lists → lists k ≡ e ∷ back → k < length heads
    → AreChains (set heads k (get_or next e 0)) next key (with_list k back lists)
take_first heads next key lists k e back a s hk =
    record {
      linked = λ j. linked j (eqb j k) refl;
      once = λ j. once j (eqb j k) refl;
      keyed = λ j. keyed j (eqb j k) refl;
    }
  where
    linked : (j : ℕ) (b : Bool) → eqb j k ≡ b → Linked next (get_or (set heads k (get_or next e 0)) j 0) (cond b back (lists j))
    linked j true q =
        let z : j ≡ k = eqb-true j k q in
        let l : Linked next (get_or heads k 0) (e ∷ back) = subst (λ (xs : List ℕ). Linked next (get_or heads k 0) xs) s (a.linked k) in
        subst (λ (w : ℕ). Linked next w back) (sym (ap (λ (i : ℕ). get_or (set heads k (get_or next e 0)) i 0) z ∙ get_or-set_same heads k (get_or next e 0) 0 hk)) l.2
    linked j false q = subst (λ (w : ℕ). Linked next w (lists j)) (sym (get_or-set_other heads k j (get_or next e 0) 0 (eqb-false j k q))) (a.linked j)

    once : (j : ℕ) (b : Bool) → eqb j k ≡ b → Once (cond b back (lists j))
    once j true q =
        let o : Once (e ∷ back) = subst Once s (a.once k) in
        o.1
    once j false q = a.once j

    keyed : (j : ℕ) (b : Bool) → eqb j k ≡ b → Keyed key j (cond b back (lists j))
    keyed j true q =
        let o : Keyed key k (e ∷ back) = subst (Keyed key k) s (a.keyed k) in
        subst (λ (z : ℕ). Keyed key z back) (sym (eqb-true j k q)) o.1
    keyed j false q = a.keyed j

-- an entry that comes after another one is taken out
pub take_after : (heads next : List ℕ) (key : ℕ → ℕ) (lists : ℕ → List ℕ) (k b e : ℕ) (front back : List ℕ) → AreChains heads next key lists → lists k ≡ front ++ b ∷ e ∷ back
    → AreChains heads (set next b (get_or next e 0)) key (with_list k (front ++ b ∷ back) lists)
take_after heads next key lists k b e front back a s =
    record {
      linked = λ j. linked j (eqb j k) refl;
      once = λ j. once j (eqb j k) refl;
      keyed = λ j. keyed j (eqb j k) refl;
    }
  where
    o : Once (front ++ b ∷ e ∷ back)
    o = subst Once s (a.once k)

    y : Keyed key k (front ++ b ∷ e ∷ back)
    y = subst (Keyed key k) s (a.keyed k)

    linked : (j : ℕ) (c : Bool) → eqb j k ≡ c → Linked (set next b (get_or next e 0)) (get_or heads j 0) (cond c (front ++ b ∷ back) (lists j))
    linked j true q =
        let z : j ≡ k = eqb-true j k q in
        let l : Linked next (get_or heads j 0) (front ++ b ∷ e ∷ back) = subst (λ (xs : List ℕ). Linked next (get_or heads j 0) xs) (ap lists z ∙ s) (a.linked j) in
        cut next (get_or heads j 0) b e front back l o
    linked j false q =
        frame next b (get_or next e 0) (get_or heads j 0) (lists j)
        (other_lacks key b j (lists j) (λ (r : key b ≡ j). eqb-false j k q (sym r ∙ key_at key k b front (e ∷ back) y)) (a.keyed j))
        (a.linked j)

    once : (j : ℕ) (c : Bool) → eqb j k ≡ c → Once (cond c (front ++ b ∷ back) (lists j))
    once j true q = once_after front o
      where
        once_after : (xs : List ℕ) → Once (xs ++ b ∷ e ∷ back) → Once (xs ++ b ∷ back)
        once_after [] p = (p.0.1, p.1.1)
        once_after (x ∷ xs) p = (lacks_after xs p.0, once_after xs p.1)
          where
            lacks_after : (zs : List ℕ) → Lacks x (zs ++ b ∷ e ∷ back) → Lacks x (zs ++ b ∷ back)
            lacks_after [] r = (r.0, r.1.1)
            lacks_after (z ∷ zs) r = (r.0, lacks_after zs r.1)
    once j false q = a.once j

    keyed : (j : ℕ) (c : Bool) → eqb j k ≡ c → Keyed key j (cond c (front ++ b ∷ back) (lists j))
    keyed j true q = subst (λ (z : ℕ). Keyed key z (front ++ b ∷ back)) (sym (eqb-true j k q)) (keyed_after front y)
      where
        keyed_after : (xs : List ℕ) → Keyed key k (xs ++ b ∷ e ∷ back) → Keyed key k (xs ++ b ∷ back)
        keyed_after [] p = (p.0, p.1.1)
        keyed_after (x ∷ xs) p = (p.0, keyed_after xs p.1)
    keyed j false q = a.keyed j
