-- A walk over the chain of a false literal.
use Rattle.std.proofs.Common.{◌≡◌, ◌≢◌, ◌<◌, ◌≤◌, ◌+◌, ◌-◌, ◌*◌, ◌/◌, ◌⊎◌, inl, inr, ⊎_elim, ℕ, Bool, true, false, cond, not, eqb, ltb, ltb-true, ◌&&◌, List, [], ◌∷◌, ◌++◌, length, set, get_or, Option, Some, None, option_map, refl, sym, ap, ap₂, subst, ◌∙◌, arith}
use Rattle.std.specs.Option.{is_some}
use Rattle.std.proofs.lemmas.Bool.{not-true, eqb-true, eqb-false, true≢false, false≢true, and_parts, and_from, or_right}
use Rattle.std.proofs.lemmas.Option.{same_Some, none-some}
use Rattle.std.proofs.lemmas.List.{get_or-set_same, get_or-set_other, length-set, append_assoc}
use Rattle.std.proofs.lemmas.List.Folds.{list_any-append}
use Rattle.std.specs.List.{list_any}
use Rattle.sat_lits.specs.InLits.{same_lit, opposite}
use Rattle.sat_lits.specs.ListLaws.{any_mono, all_or_any}
use Rattle.sat_lits.specs.declared.literal.InLit.{InLit}
use Rattle.sat_lits.specs.declared.literal.ClauseId.{ClauseId}
use Rattle.trail.specs.declared.trail.Step.{Step}
use Rattle.trail.specs.Trail.{Assignment, true_in, false_in, level_of}
use Rattle.clause_store.specs.Store.{Held, clause_at, is_live}
use Rattle.propagate.specs.declared.watches.Taken.{Taken}
use Rattle.propagate.specs.declared.table.Table.{Table}
use Rattle.propagate.specs.Reasons.{names, passes, Extends, derives, unit_reason}
use Rattle.propagate.specs.Laws.{derived_level, named_all, names_live}
use Rattle.propagate.specs.Watching.{taken_at, HasTakenOver, clauses_below, lits_below}
use Rattle.propagate.specs.Chains.{Linked, Once, AreChains, with_list}
use Rattle.propagate.specs.Watched.{Has, EndsAt, EndsWith, cut_heads, cut_next, other_of, code_of, watch_at, key_in, clause_of, lits_in, id_of, no_lit, no_taken, open_but, is_whole, AreWatched}
use Rattle.propagate.specs.Walks.{IsSettled, Keeps, AllSettled}
use Rattle.propagate.proofs.Chaining.{frame, take_first, take_after}
use Rattle.propagate.proofs.Spelling.{steps_from, chain_counted}
use Rattle.propagate.proofs.Moving.{MovedTo, moved, with_here, not_same_sym, entry_below, has_mid, other_half, other_below}
use Rattle.trail.specs.Laws.{same_lit_eq}

-- what a trail that goes on from one that goes on derives
derives_more : (held : List Held) (newer mid older : List Step) → derives held newer (mid ++ older) ≡ true → derives held mid older ≡ true → derives held (newer ++ mid) older ≡ true
derives_more held [] mid older a b = b
derives_more held (s ∷ newer) mid older a b =
    let p : ((unit_reason held (newer ++ (mid ++ older)) s.lit s.reason && eqb s.level (level_of (mid ++ older))) ≡ true) × (derives held newer (mid ++ older) ≡ true) = and_parts _ _ a in
    let q : (unit_reason held (newer ++ (mid ++ older)) s.lit s.reason ≡ true) × (eqb s.level (level_of (mid ++ older)) ≡ true) = and_parts _ _ p.0 in
    and_from _ _
    (and_from _ _ (subst (λ (z : List Step). unit_reason held z s.lit s.reason ≡ true) (sym (append_assoc newer mid older)) q.0)
    (subst (λ (n : ℕ). eqb s.level n ≡ true) (derived_level held mid older b) q.1))
    (derives_more held newer mid older p.1 b)

pub extends_more : (held : List Held) (from mid to : List Step) → Extends held from mid → Extends held mid to → Extends held from to
extends_more held from mid to x y =
    record {
      newer = y.newer ++ x.newer;
      parts = y.parts ∙ (ap (λ (z : List Step). y.newer ++ z) x.parts ∙ sym (append_assoc y.newer x.newer from));
      derived = derives_more held y.newer x.newer from (subst (λ (z : List Step). derives held y.newer z ≡ true) x.parts y.derived) x.derived;
    }

pub extends_none : (held : List Held) (t : List Step) → Extends held t t
extends_none held t = record { newer = []; parts = refl; derived = refl }

-- a test of steps that is met stays so
pub any_extends : (held : List Held) (p : Step → Bool) (from to : List Step) → Extends held from to → list_any p from ≡ true → list_any p to ≡ true
any_extends held p from to x e = ap (list_any p) x.parts ∙ (list_any-append p x.newer from ∙ or_right (list_any p x.newer) (list_any p from) e)

pub settled_more : (held : List Held) (taken : List Taken) (from to : List Step) (missed : Bool) (e : ℕ) → Extends held from to → IsSettled held taken from missed e → IsSettled held taken to missed e
settled_more held taken from to missed e x s =
    ⊎_elim (λ a. inl (any_mono (true_in from) (true_in to) (λ l h. any_extends held (λ s. same_lit s.lit l) from to x h) (clause_of taken e) a)) (λ b. inr b) s

-- what holds before each entry of a walk
pub record AtEntry (held : List Held) (taken : List Taken) (lit : InLit) (from to : Assignment) (old now : Table) (before entry : ℕ) (missed : Bool) : Type 0 where
  pub watched : AreWatched now.heads.items now.next.items now.watched.items taken now.whole.items
  pub front : List ℕ
  pub rest : List ℕ
  pub split : watched.lists (code_of lit) ≡ front ++ rest
  pub linked : Linked now.next.items entry rest
  pub ends : EndsAt before front
  pub settled : (e : ℕ) → Has e front → IsSettled held taken to.steps missed e
  pub keeps : Keeps from.steps old.watched.items now.watched.items
  pub extends : Extends held from.steps to.steps
  pub reserved : to.reserved ≡ from.reserved
  pub heads : length now.heads.items ≡ length old.heads.items
  pub whole : now.whole ≡ old.whole

-- at first
pub at_start : (held : List Held) (taken : List Taken) (lit : InLit) (from : Assignment) (old : Table) (entry : ℕ) → AreWatched old.heads.items old.next.items old.watched.items taken old.whole.items → entry ≡ get_or old.heads.items (code_of lit) 0
    → AtEntry held taken lit from from old old 0 entry false
at_start held taken lit from old entry a e =
    record {
      watched = a;
      front = [];
      rest = a.lists (code_of lit);
      split = refl;
      linked = subst (λ (z : ℕ). Linked old.next.items z (a.lists (code_of lit))) (sym e) (a.chains.linked (code_of lit));
      ends = inl (refl, refl);
      settled = λ d h. absurd h;
      keeps = λ d. inl refl;
      extends = extends_none held from.steps;
      reserved = refl;
      heads = refl;
      whole = refl;
    }

-- the entry that comes next
pub record IsNext (next : List ℕ) (entry : ℕ) (rest : List ℕ) : Type 0 where
  pub back : List ℕ
  pub is : rest ≡ (entry - 1) ∷ back
  pub word : entry ≡ (entry - 1) + 1
  pub below : entry - 1 < length next
  pub after : Linked next (get_or next (entry - 1) 0) back

pub next_entry : (next : List ℕ) (entry : ℕ) (rest : List ℕ) → 0 < entry → Linked next entry rest → IsNext next entry rest
next_entry next entry [] p h = absurd (omega (arith, p, h))
next_entry next entry (e ∷ es) p h =
    let q : e ≡ entry - 1 = omega (arith, h.0) in
    record {
      back = es;
      is = ap (λ (z : ℕ). z ∷ es) q;
      word = omega (arith, p);
      below = subst (λ (z : ℕ). z < length next) q h.1;
      after = subst (λ (z : ℕ). Linked next (get_or next z 0) es) q h.2;
    }

once_back : (front back : List ℕ) → Once (front ++ back) → Once back
once_back [] back o = o
once_back (x ∷ xs) back o = once_back xs back o.1

has_more : (d e : ℕ) (front : List ℕ) → Has d (front ++ e ∷ []) → Has d front ⊎ (d ≡ e)
has_more d e [] h = ⊎_elim (λ q. inr (sym q)) (λ r. absurd r) h
has_more d e (x ∷ xs) h = ⊎_elim (λ q. inl (inl q)) (λ r. ⊎_elim (λ a. inl (inr a)) (λ b. inr b) (has_more d e xs r)) h

-- the entry stays in the chain, and its clause is settled
pub at_kept : (held : List Held) (taken : List Taken) (lit : InLit) (from to more : Assignment) (old now : Table) (before entry : ℕ) (missed also : Bool) → AtEntry held taken lit from to old now before entry missed → 0 < entry → Extends held to.steps more.steps
    → more.reserved ≡ to.reserved → (missed ≡ true → also ≡ true) → IsSettled held taken more.steps also (entry - 1) → AtEntry held taken lit from more old now entry (get_or now.next.items (entry - 1) 0) also
at_kept held taken lit from to more old now before entry missed also a p x r m s =
    record {
      watched = a.watched;
      front = a.front ++ (entry - 1) ∷ [];
      rest = n.back;
      split = a.split ∙ (ap (λ (z : List ℕ). a.front ++ z) n.is ∙ sym (append_assoc a.front ((entry - 1) ∷ []) n.back));
      linked = n.after;
      ends = inr (record { init = a.front; last = entry - 1; parts = refl; word = n.word });
      settled = λ d h. ⊎_elim (λ f. settled_also d (settled_more held taken to.steps more.steps missed d x (a.settled d f))) (λ q. subst (λ (z : ℕ). IsSettled held taken more.steps also z) (sym q) s) (has_more d (entry - 1) a.front h);
      keeps = a.keeps;
      extends = extends_more held from.steps to.steps more.steps a.extends x;
      reserved = r ∙ a.reserved;
      heads = a.heads;
      whole = a.whole;
    }
  where
    n : IsNext now.next.items entry a.rest
    n = next_entry now.next.items entry a.rest p a.linked

    settled_also : (d : ℕ) → IsSettled held taken more.steps missed d → IsSettled held taken more.steps also d
    settled_also d h = ⊎_elim (λ b. inl b) (λ b. inr (m b.0, b.1)) h

-- the words after an entry was cut out
pub record CutOut (heads next : List ℕ) (key_of : ℕ → ℕ) (lists : ℕ → List ℕ) (key place before : ℕ) (front back : List ℕ) : Type 0 where
  pub chains : AreChains (cut_heads heads next key before place) (cut_next next before place) key_of (with_list key (front ++ back) lists)
  pub linked : Linked (cut_next next before place) (get_or next place 0) back
  pub wide : length (cut_heads heads next key before place) ≡ length heads
  pub long : length (cut_next next before place) ≡ length next

linked_mid : (next : List ℕ) (p e : ℕ) (front back : List ℕ) → Linked next p (front ++ e ∷ back) → Linked next (get_or next e 0) back
linked_mid next p e [] back h = h.2
linked_mid next p e (d ∷ ds) back h = linked_mid next (get_or next d 0) e ds back h.2

cut_first : (heads next : List ℕ) (key_of : ℕ → ℕ) (lists : ℕ → List ℕ) (key place : ℕ) (back : List ℕ) → AreChains heads next key_of lists → lists key ≡ place ∷ back → key < length heads → CutOut heads next key_of lists key place 0 [] back
cut_first heads next key_of lists key place back a s k =
    record {
      chains = take_first heads next key_of lists key place back a s k;
      linked =
          let h : Linked next (get_or heads key 0) (place ∷ back) = subst (λ (xs : List ℕ). Linked next (get_or heads key 0) xs) s (a.linked key) in
          h.2;
      wide = length-set heads key (get_or next place 0);
      long = refl;
    }

not_zero : (n : ℕ) → eqb (n + 1) 0 ≡ false
not_zero n = go (eqb (n + 1) 0) refl
  where
    go : (b : Bool) → eqb (n + 1) 0 ≡ b → b ≡ false
    go true q =
        let z : n + 1 ≡ 0 = eqb-true _ _ q in
        absurd (omega (arith, z))
    go false q = refl

cut_last : (heads next : List ℕ) (key_of : ℕ → ℕ) (lists : ℕ → List ℕ) (key place last : ℕ) (init back : List ℕ) → AreChains heads next key_of lists → lists key ≡ init ++ last ∷ place ∷ back
    → CutOut heads next key_of lists key place (last + 1) (init ++ last ∷ []) back
cut_last heads next key_of lists key place last init back a s =
    record {
      chains =
          subst (λ (h : List ℕ). AreChains h (cut_next next (last + 1) place) key_of (with_list key ((init ++ last ∷ []) ++ back) lists)) (sym ch)
          (subst (λ (n : List ℕ). AreChains heads n key_of (with_list key ((init ++ last ∷ []) ++ back) lists)) (sym cn)
          (subst (λ (xs : List ℕ). AreChains heads (set next last (get_or next place 0)) key_of (with_list key xs lists)) (sym (append_assoc init (last ∷ []) back)) (take_after heads next key_of lists key last place init back a s)));
      linked =
          subst (λ (n : List ℕ). Linked n (get_or next place 0) back) (sym cn)
          (frame next last (get_or next place 0) (get_or next place 0) back o.0.1 (linked_mid next (get_or next last 0) place [] back l));
      wide = ap length ch;
      long = ap length cn ∙ length-set next last (get_or next place 0);
    }
  where
    ch : cut_heads heads next key (last + 1) place ≡ heads
    ch = ap (λ (b : Bool). cond b (set heads key (get_or next place 0)) heads) (not_zero last)

    cn : cut_next next (last + 1) place ≡ set next last (get_or next place 0)
    cn =
        let m : (last + 1) - 1 ≡ last = omega arith in
        ap (λ (b : Bool). cond b next (set next ((last + 1) - 1) (get_or next place 0))) (not_zero last) ∙ ap (λ (i : ℕ). set next i (get_or next place 0)) m

    o : Once (last ∷ place ∷ back)
    o = once_back init (last ∷ place ∷ back) (subst Once s (a.once key))

    l : Linked next (get_or next last 0) (place ∷ back)
    l = linked_mid next (get_or heads key 0) last init (place ∷ back) (subst (λ (xs : List ℕ). Linked next (get_or heads key 0) xs) s (a.linked key))

pub cut_out : (heads next : List ℕ) (key_of : ℕ → ℕ) (lists : ℕ → List ℕ) (key place before : ℕ) (front back : List ℕ) → AreChains heads next key_of lists → lists key ≡ front ++ place ∷ back → EndsAt before front → key < length heads
    → CutOut heads next key_of lists key place before front back
cut_out heads next key_of lists key place before front back a s e k = ⊎_elim first last e
  where
    first : (before ≡ 0) × (front ≡ []) → CutOut heads next key_of lists key place before front back
    first p =
        subst (λ (b : ℕ). CutOut heads next key_of lists key place b front back) (sym p.0)
        (subst (λ (xs : List ℕ). CutOut heads next key_of lists key place 0 xs back) (sym p.1)
        (cut_first heads next key_of lists key place back a (s ∙ ap (λ (xs : List ℕ). xs ++ place ∷ back) p.1) k))

    last : EndsWith before front → CutOut heads next key_of lists key place before front back
    last w =
        subst (λ (b : ℕ). CutOut heads next key_of lists key place b front back) (sym w.word)
        (subst (λ (xs : List ℕ). CutOut heads next key_of lists key place (w.last + 1) xs back) (sym w.parts)
        (cut_last heads next key_of lists key place w.last w.init back a (s ∙ (ap (λ (xs : List ℕ). xs ++ place ∷ back) w.parts ∙ append_assoc w.init (w.last ∷ []) (place ∷ back)))))

pub code_same : (l m : InLit) → code_of l ≡ code_of m → l ≡ m
code_same l m e =
    let p : (l.var.0 ≡ m.var.0) × (l.negative ≡ m.negative) = go l.negative m.negative e in
    ap₂ (λ (v : ℕ) (n : Bool). record { var = record { 0 = v }; negative = n }) p.0 p.1
  where
    go : (a b : Bool) → 2 * l.var.0 + cond a 1 0 ≡ 2 * m.var.0 + cond b 1 0 → (l.var.0 ≡ m.var.0) × (a ≡ b)
    go true true h = (omega (arith, h), refl)
    go true false h = absurd (omega (arith, h))
    go false true h = absurd (omega (arith, h))
    go false false h = (omega (arith, h), refl)

pub not_before : (held : List Held) (from to : List Step) (l : InLit) → Extends held from to → false_in to l ≡ false → false_in from l ≡ false
not_before held from to l x e = go (false_in from l) refl
  where
    go : (b : Bool) → false_in from l ≡ b → b ≡ false
    go true q = absurd (true≢false (sym (any_extends held (λ s. opposite s.lit l) from to x q) ∙ e))
    go false q = refl

-- the entry leaves the chain for that of a literal that is not false
pub at_moved : (held : List Held) (taken : List Taken) (lit : InLit) (from to more : Assignment) (old now new : Table) (before entry : ℕ) (missed : Bool) (found : InLit) → AtEntry held taken lit from to old now before entry missed → 0 < entry
    → more.steps ≡ to.steps → more.reserved ≡ to.reserved → false_in from.steps lit ≡ true → code_of lit < length now.heads.items → code_of found < length now.heads.items
    → list_any (same_lit found) (clause_of taken (entry - 1)) ≡ true → false_in to.steps found ≡ false → same_lit (watch_at now.watched.items (other_of (entry - 1))) found ≡ false
    → new.heads.items ≡ set (cut_heads now.heads.items now.next.items (code_of lit) before (entry - 1)) (code_of found) ((entry - 1) + 1)
    → new.next.items ≡ set (cut_next now.next.items before (entry - 1)) (entry - 1) (get_or (cut_heads now.heads.items now.next.items (code_of lit) before (entry - 1)) (code_of found) 0)
    → new.watched.items ≡ set now.watched.items (entry - 1) found → new.whole ≡ now.whole
    → AtEntry held taken lit from more old new before (get_or now.next.items (entry - 1) 0) missed
at_moved held taken lit from to more old now new before entry missed found a p ts tr fl hk hf hl hn ho nh nn nw wh =
    record {
      watched = m.now;
      front = a.front;
      rest = n.back;
      split = m.at (code_of lit) apart ∙ with_here (code_of lit) (a.front ++ n.back) a.watched.lists;
      linked = subst (λ (z : List ℕ). Linked z (get_or now.next.items (entry - 1) 0) n.back) (sym nn) (frame (cut_next now.next.items before (entry - 1)) (entry - 1) (get_or (cut_heads now.heads.items now.next.items (code_of lit) before (entry - 1)) (code_of found) 0) (get_or now.next.items (entry - 1) 0) n.back lacks.0 co.linked);
      ends = a.ends;
      settled = λ d h. subst (λ (t : List Step). IsSettled held taken t missed d) (sym ts) (a.settled d h);
      keeps = λ d. keeps d (eqb d (entry - 1)) refl;
      extends = subst (λ (t : List Step). Extends held from.steps t) (sym ts) a.extends;
      reserved = tr ∙ a.reserved;
      heads = ap length nh ∙ (length-set (cut_heads now.heads.items now.next.items (code_of lit) before (entry - 1)) (code_of found) ((entry - 1) + 1) ∙ (co.wide ∙ a.heads));
      whole = wh ∙ a.whole;
    }
  where
    n : IsNext now.next.items entry a.rest
    n = next_entry now.next.items entry a.rest p a.linked

    split : a.watched.lists (code_of lit) ≡ a.front ++ (entry - 1) ∷ n.back
    split = a.split ∙ ap (λ (z : List ℕ). a.front ++ z) n.is

    co : CutOut now.heads.items now.next.items (key_in now.watched.items) a.watched.lists (code_of lit) (entry - 1) before a.front n.back
    co = cut_out now.heads.items now.next.items (key_in now.watched.items) a.watched.lists (code_of lit) (entry - 1) before a.front n.back a.watched.chains split a.ends hk

    lacks : Once ((entry - 1) ∷ n.back)
    lacks = once_back a.front ((entry - 1) ∷ n.back) (subst Once split (a.watched.chains.once (code_of lit)))

    apart : code_of lit ≢ code_of found
    apart q =
        true≢false
        (sym (any_extends held (λ s. opposite s.lit lit) from.steps to.steps a.extends fl)
        ∙ (ap (false_in to.steps) (code_same lit found q) ∙ hn))

    m : MovedTo new.heads.items new.next.items new.watched.items taken new.whole.items (code_of found) (with_list (code_of lit) (a.front ++ n.back) a.watched.lists)
    m =
        subst (λ (z : List ℕ). MovedTo z new.next.items new.watched.items taken new.whole.items (code_of found) (with_list (code_of lit) (a.front ++ n.back) a.watched.lists)) (sym nh)
        (subst (λ (z : List ℕ). MovedTo (set (cut_heads now.heads.items now.next.items (code_of lit) before (entry - 1)) (code_of found) ((entry - 1) + 1)) z new.watched.items taken new.whole.items (code_of found) (with_list (code_of lit) (a.front ++ n.back) a.watched.lists)) (sym nn)
        (subst
        (λ (z : List InLit).
        MovedTo (set (cut_heads now.heads.items now.next.items (code_of lit) before (entry - 1)) (code_of found) ((entry - 1) + 1))
        (set (cut_next now.next.items before (entry - 1)) (entry - 1) (get_or (cut_heads now.heads.items now.next.items (code_of lit) before (entry - 1)) (code_of found) 0)) z taken new.whole.items (code_of found) (with_list (code_of lit) (a.front ++ n.back) a.watched.lists))
        (sym nw)
        (subst
        (λ (z : List Bool).
        MovedTo (set (cut_heads now.heads.items now.next.items (code_of lit) before (entry - 1)) (code_of found) ((entry - 1) + 1))
        (set (cut_next now.next.items before (entry - 1)) (entry - 1) (get_or (cut_heads now.heads.items now.next.items (code_of lit) before (entry - 1)) (code_of found) 0)) (set now.watched.items (entry - 1) found) taken z (code_of found) (with_list (code_of lit) (a.front ++ n.back) a.watched.lists))
        (sym whole_items)
        (moved now.heads.items now.next.items now.watched.items taken now.whole.items a.watched (cut_heads now.heads.items now.next.items (code_of lit) before (entry - 1)) (cut_next now.next.items before (entry - 1)) (code_of lit) (entry - 1) a.front n.back found split
        co.chains co.wide co.long hf hl (not_same_sym (watch_at now.watched.items (other_of (entry - 1))) found ho)))))
      where
        whole_items : new.whole.items ≡ now.whole.items
        whole_items = ap (λ (z : _). z.items) wh

    keeps : (d : ℕ) (b : Bool) → eqb d (entry - 1) ≡ b → (watch_at new.watched.items d ≡ watch_at old.watched.items d) ⊎ (false_in from.steps (watch_at new.watched.items d) ≡ false)
    keeps d true q =
        let x : d ≡ entry - 1 = eqb-true d (entry - 1) q in
        let u : length now.next.items ≡ 2 * length taken = a.watched.long in
        let v : length now.watched.items ≡ 2 * length taken = a.watched.same in
        let w : entry - 1 < length now.next.items = n.below in
        let y : watch_at new.watched.items d ≡ found = ap (λ (z : List InLit). watch_at z d) nw ∙ (ap (watch_at (set now.watched.items (entry - 1) found)) x ∙ get_or-set_same now.watched.items (entry - 1) found no_lit (omega (arith, u, v, w))) in
        inr (ap (false_in from.steps) y ∙ not_before held from.steps to.steps found a.extends hn)
    keeps d false q =
        let y : watch_at new.watched.items d ≡ watch_at now.watched.items d = ap (λ (z : List InLit). watch_at z d) nw ∙ get_or-set_other now.watched.items (entry - 1) d found no_lit (eqb-false d (entry - 1) q) in
        ⊎_elim (λ r. inl (y ∙ r)) (λ r. inr (ap (false_in from.steps) y ∙ r)) (a.keeps d)

-- places of a walk are within the words
pub place_below : (held : List Held) (taken : List Taken) (lit : InLit) (from to : Assignment) (old now : Table) (before entry : ℕ) (missed : Bool) → AtEntry held taken lit from to old now before entry missed → 0 < entry → entry - 1 < 2 * length taken
place_below held taken lit from to old now before entry missed a p =
    let n : IsNext now.next.items entry a.rest = next_entry now.next.items entry a.rest p a.linked in
    let u : length now.next.items ≡ 2 * length taken = a.watched.long in
    omega (arith, u, n.below)

pub before_below : (held : List Held) (taken : List Taken) (lit : InLit) (from to : Assignment) (old now : Table) (before entry : ℕ) (missed : Bool) → AtEntry held taken lit from to old now before entry missed → before ≤ length now.next.items
before_below held taken lit from to old now before entry missed a = ⊎_elim first last a.ends
  where
    first : (before ≡ 0) × (a.front ≡ []) → before ≤ length now.next.items
    first q = omega (arith, q.0)

    last : EndsWith before a.front → before ≤ length now.next.items
    last w =
        let s : a.watched.lists (code_of lit) ≡ w.init ++ w.last ∷ a.rest = a.split ∙ (ap (λ (xs : List ℕ). xs ++ a.rest) w.parts ∙ append_assoc w.init (w.last ∷ []) a.rest) in
        let b : w.last < length now.next.items =
        entry_below now.next.items (get_or now.heads.items (code_of lit) 0) w.last w.init a.rest (subst (λ (xs : List ℕ). Linked now.next.items (get_or now.heads.items (code_of lit) 0) xs) s (a.watched.chains.linked (code_of lit))) in
        omega (arith, b, w.word)

-- a live clause is taken over with its literals
pub taken_names : (taken : List Taken) (held : List Held) (id : ClauseId) (test : List InLit → Bool) → HasTakenOver taken held → is_live held id.0 ≡ true → test (lits_in (taken_at taken id.0)) ≡ true → names held id test ≡ true
taken_names taken held id test k l e = go (clause_at held id.0) (taken_at taken id.0) l (k id.0 l) e
  where
    go : (o : Option Held) (t : Option Taken) → is_some o ≡ true → option_map (λ (u : Taken). u.lits) t ≡ option_map (λ (h : Held). h.lits) o → test (lits_in t) ≡ true → passes test o ≡ true
    go None t f g m = absurd (false≢true f)
    go (Some h) None f g m = absurd (none-some h.lits g)
    go (Some h) (Some t) f g m = ap test (sym (same_Some t.lits h.lits g)) ∙ m

pub names_taken : (taken : List Taken) (held : List Held) (id : ClauseId) (test : List InLit → Bool) → HasTakenOver taken held → names held id test ≡ true → test (lits_in (taken_at taken id.0)) ≡ true
names_taken taken held id test k e = go (clause_at held id.0) (taken_at taken id.0) (k id.0 (names_live held id test e)) e
  where
    go : (o : Option Held) (t : Option Taken) → option_map (λ (u : Taken). u.lits) t ≡ option_map (λ (h : Held). h.lits) o → passes test o ≡ true → test (lits_in t) ≡ true
    go None t g m = absurd (false≢true m)
    go (Some h) None g m = absurd (none-some h.lits g)
    go (Some h) (Some t) g m = ap test (same_Some t.lits h.lits g) ∙ m

-- the clause of the entry is not looked at whole
entry_watched : (held : List Held) (taken : List Taken) (lit : InLit) (from to : Assignment) (old now : Table) (before entry : ℕ) (missed : Bool) (a : AtEntry held taken lit from to old now before entry missed) → 0 < entry → is_whole now.whole.items (entry - 1) ≡ false
entry_watched held taken lit from to old now before entry missed a p =
    let n : IsNext now.next.items entry a.rest = next_entry now.next.items entry a.rest p a.linked in
    let s : a.watched.lists (code_of lit) ≡ a.front ++ (entry - 1) ∷ n.back = a.split ∙ ap (λ (z : List ℕ). a.front ++ z) n.is in
    a.watched.only (code_of lit) (entry - 1) (subst (Has (entry - 1)) (sym s) (has_mid (entry - 1) a.front n.back))

id_other : (taken : List Taken) (e : ℕ) → id_of taken (other_of e) ≡ id_of taken e
id_other taken e = ap (λ (i : ℕ). (get_or taken i no_taken).id) (other_half e)

-- the other watched literal stands in the clause
pub other_in : (held : List Held) (taken : List Taken) (lit : InLit) (from to : Assignment) (old now : Table) (before entry : ℕ) (missed : Bool) (a : AtEntry held taken lit from to old now before entry missed) → 0 < entry
    → list_any (same_lit (watch_at now.watched.items (other_of (entry - 1)))) (clause_of taken (entry - 1)) ≡ true
other_in held taken lit from to old now before entry missed a p =
    let w : is_whole now.whole.items (other_of (entry - 1)) ≡ false = ap (λ (i : ℕ). get_or now.whole.items i true) (other_half (entry - 1)) ∙ entry_watched held taken lit from to old now before entry missed a p in
    let b : other_of (entry - 1) < 2 * length taken = other_below (entry - 1) (length taken) (place_below held taken lit from to old now before entry missed a p) in
    subst (λ (i : ClauseId). list_any (same_lit (watch_at now.watched.items (other_of (entry - 1)))) (lits_in (taken_at taken i.0)) ≡ true) (id_other taken (entry - 1)) (a.watched.within (other_of (entry - 1)) b w)

pub settle_within : (held : List Held) (taken : List Taken) (lit : InLit) (from to : Assignment) (old now : Table) (before entry : ℕ) (missed : Bool) (id : ClauseId) (other : InLit) → AtEntry held taken lit from to old now before entry missed → 0 < entry → HasTakenOver taken held
    → id ≡ id_of taken (entry - 1) → other ≡ watch_at now.watched.items (other_of (entry - 1)) → is_live held id.0 ≡ true → names held id (λ lits. list_any (same_lit other) lits) ≡ true
settle_within held taken lit from to old now before entry missed id other a p k i o l =
    taken_names taken held id (λ lits. list_any (same_lit other) lits) k l
    (subst (λ (z : ClauseId). list_any (same_lit other) (lits_in (taken_at taken z.0)) ≡ true) (sym i)
    (subst (λ (z : InLit). list_any (same_lit z) (clause_of taken (entry - 1)) ≡ true) (sym o) (other_in held taken lit from to old now before entry missed a p)))

-- a true watched literal settles a clause
pub settled_kept : (held : List Held) (taken : List Taken) (lit : InLit) (from to : Assignment) (old now : Table) (before entry : ℕ) (missed : Bool) (more : List Step) (other : InLit) → AtEntry held taken lit from to old now before entry missed → 0 < entry
    → other ≡ watch_at now.watched.items (other_of (entry - 1)) → true_in more other ≡ true → IsSettled held taken more missed (entry - 1)
settled_kept held taken lit from to old now before entry missed more other a p o t =
    inl
    (any_mono (same_lit other) (true_in more) (λ l q. ap (true_in more) (sym (same_lit_eq other l q)) ∙ t) (clause_of taken (entry - 1))
    (subst (λ (z : InLit). list_any (same_lit z) (clause_of taken (entry - 1)) ≡ true) (sym o) (other_in held taken lit from to old now before entry missed a p)))

-- a literal of a clause has words of its own
pub found_below : (held : List Held) (t : List Step) (id : ClauseId) (other found : InLit) (n : ℕ) → clauses_below (n / 2) held ≡ true → names held id (λ lits. open_but t other lits found) ≡ true → code_of found < n
found_below held t id other found n b e =
    named_all (λ (h : Held). lits_below (n / 2) h.lits) (λ lits. open_but t other lits found) held id (code_of found < n) e b
    (λ h l o.
    let q : (list_any (same_lit found) h.lits ≡ true) × ((not (false_in t found) && not (same_lit other found)) ≡ true) = and_parts _ _ o in
    let v : ltb found.var.0 (n / 2) ≡ true = all_or_any (λ (m : InLit). ltb m.var.0 (n / 2)) (same_lit found) (ltb found.var.0 (n / 2) ≡ true) h.lits l q.0 (λ m y z. subst (λ (k : InLit). ltb k.var.0 (n / 2) ≡ true) (sym (same_lit_eq found m z)) y) in
    small found.negative (ltb-true _ _ v))
  where
    small : (s : Bool) → found.var.0 < n / 2 → 2 * found.var.0 + cond s 1 0 < n
    small true h = omega (arith, h)
    small false h = omega (arith, h)

-- fewer entries are left
pub smaller_from : (held : List Held) (taken : List Taken) (lit : InLit) (from to : Assignment) (old now : Table) (before entry : ℕ) (missed : Bool) (a : AtEntry held taken lit from to old now before entry missed) (p : 0 < entry) (next : List ℕ) (after : ℕ)
    → Linked next after (next_entry now.next.items entry a.rest p a.linked).back → steps_from next (length next) after < steps_from now.next.items (length now.next.items) entry
smaller_from held taken lit from to old now before entry missed a p next after h =
    let n : IsNext now.next.items entry a.rest = next_entry now.next.items entry a.rest p a.linked in
    let o : Once a.rest = once_back a.front a.rest (subst Once a.split (a.watched.chains.once (code_of lit))) in
    let ob : Once ((entry - 1) ∷ (next_entry now.next.items entry a.rest p a.linked).back) = subst Once (next_entry now.next.items entry a.rest p a.linked).is o in
    let x : steps_from now.next.items (length now.next.items) entry ≡ length a.rest = chain_counted now.next.items entry a.rest a.linked o in
    let y : steps_from next (length next) after ≡ length (next_entry now.next.items entry a.rest p a.linked).back = chain_counted next after (next_entry now.next.items entry a.rest p a.linked).back h ob.1 in
    let z : length a.rest ≡ length ((entry - 1) ∷ (next_entry now.next.items entry a.rest p a.linked).back) = ap length (next_entry now.next.items entry a.rest p a.linked).is in
    let w : length ((entry - 1) ∷ (next_entry now.next.items entry a.rest p a.linked).back) ≡ length (next_entry now.next.items entry a.rest p a.linked).back + 1 = omega arith in
    omega (arith, x, y, z, w)

pub smaller_kept : (held : List Held) (taken : List Taken) (lit : InLit) (from to : Assignment) (old now : Table) (before entry after : ℕ) (missed : Bool) → AtEntry held taken lit from to old now before entry missed → 0 < entry
    → after ≡ get_or now.next.items (entry - 1) 0 → steps_from now.next.items (length now.next.items) after < steps_from now.next.items (length now.next.items) entry
smaller_kept held taken lit from to old now before entry after missed a p e =
    smaller_from held taken lit from to old now before entry missed a p now.next.items after
    (subst (λ (z : ℕ). Linked now.next.items z (next_entry now.next.items entry a.rest p a.linked).back) (sym e) (next_entry now.next.items entry a.rest p a.linked).after)

pub smaller_moved : (held : List Held) (taken : List Taken) (lit : InLit) (from to : Assignment) (old now : Table) (before entry after : ℕ) (missed : Bool) (next : List ℕ) (v : ℕ) → AtEntry held taken lit from to old now before entry missed → 0 < entry
    → code_of lit < length now.heads.items → after ≡ get_or now.next.items (entry - 1) 0 → next ≡ set (cut_next now.next.items before (entry - 1)) (entry - 1) v
    → steps_from next (length next) after < steps_from now.next.items (length now.next.items) entry
smaller_moved held taken lit from to old now before entry after missed next v a p hk e q =
    smaller_from held taken lit from to old now before entry missed a p next after
    (subst (λ (z : ℕ). Linked next z n.back) (sym e) (subst (λ (z : List ℕ). Linked z (get_or now.next.items (entry - 1) 0) n.back) (sym q) (frame (cut_next now.next.items before (entry - 1)) (entry - 1) v (get_or now.next.items (entry - 1) 0) n.back lacks.0 co.linked)))
  where
    n : IsNext now.next.items entry a.rest
    n = next_entry now.next.items entry a.rest p a.linked

    split : a.watched.lists (code_of lit) ≡ a.front ++ (entry - 1) ∷ n.back
    split = a.split ∙ ap (λ (z : List ℕ). a.front ++ z) n.is

    co : CutOut now.heads.items now.next.items (key_in now.watched.items) a.watched.lists (code_of lit) (entry - 1) before a.front n.back
    co = cut_out now.heads.items now.next.items (key_in now.watched.items) a.watched.lists (code_of lit) (entry - 1) before a.front n.back a.watched.chains split a.ends hk

    lacks : Once ((entry - 1) ∷ n.back)
    lacks = once_back a.front ((entry - 1) ∷ n.back) (subst Once split (a.watched.chains.once (code_of lit)))

-- at the end of the chain all clauses that watch the literal are settled
pub walk_right : (held : List Held) (taken : List Taken) (lit : InLit) (from to : Assignment) (old now : Table) (before entry : ℕ) (missed : Bool) → AtEntry held taken lit from to old now before entry missed → entry ≡ 0
    → AllSettled held taken to.steps now.whole.items now.watched.items lit missed
walk_right held taken lit from to old now before entry missed a z e b w q =
    a.settled e
    (whole_front a.front a.rest (subst (λ (i : ℕ). Linked now.next.items i a.rest) z a.linked)
    (subst (Has e) a.split (subst (λ (i : InLit). Has e (a.watched.lists (code_of i))) q (a.watched.there e b w))))
  where
    whole_front : (front rest : List ℕ) → Linked now.next.items 0 rest → Has e (front ++ rest) → Has e front
    whole_front [] [] l h = h
    whole_front [] (d ∷ ds) l h = absurd (omega (arith, l.0))
    whole_front (x ∷ xs) rest l h = ⊎_elim (λ r. inl r) (λ r. inr (whole_front xs rest l r)) h

-- what is known of a literal that was found
pub found_parts : (taken : List Taken) (held : List Held) (id : ClauseId) (e : ℕ) (t : List Step) (other found : InLit) → HasTakenOver taken held → id ≡ id_of taken e → names held id (λ lits. open_but t other lits found) ≡ true
    → (list_any (same_lit found) (clause_of taken e) ≡ true) × (false_in t found ≡ false) × (same_lit other found ≡ false)
found_parts taken held id e t other found k i n =
    let m : open_but t other (clause_of taken e) found ≡ true = subst (λ (z : ClauseId). open_but t other (lits_in (taken_at taken z.0)) found ≡ true) i (names_taken taken held id (λ lits. open_but t other lits found) k n) in
    let p : (list_any (same_lit found) (clause_of taken e) ≡ true) × ((not (false_in t found) && not (same_lit other found)) ≡ true) = and_parts _ _ m in
    let q : (not (false_in t found) ≡ true) × (not (same_lit other found) ≡ true) = and_parts _ _ p.1 in
    (p.0, not-true _ q.0, not-true _ q.1)
