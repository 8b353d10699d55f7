-- What else the steps of a walk keep: a head is taken, parts are merged, a part is closed.
use Rattle.std.proofs.Common.{◌≡◌, ℕ, zero, suc, ◌+◌, ◌-◌, ◌<◌, ◌≤◌, ◌⊎◌, List, [], ◌∷◌, ◌++◌, length, set, refl, sym, ap, subst, ◌∙◌, arith, inl, inr, ⊎_elim, append_assoc}
use Rattle.std.proofs.lemmas.Bool.{cases_eq}
use Rattle.std.proofs.lemmas.List.{length-set, length-append}
use Rattle.std.proofs.lemmas.List.Elements.{Contains-append_left, Contains-append_right, Contains-append_cases, Contains-push}
use Rattle.std.specs.List.{Contains}
use Rattle.equiv_replace.specs.declared.components.Mark.{Mark}
use Rattle.equiv_replace.specs.declared.components.Mark.TheVariants.{New, Open, Closed}
use Rattle.equiv_replace.specs.Graphs.{HasEdge, Leads}
use Rattle.equiv_replace.specs.Parts.{Part, opened, merged}
use Rattle.equiv_replace.specs.Walks.{mark_of, all_closed, IsClosed, seen_by, IsLinked, StandsAt, news, news_left, IsWalking}
use Rattle.equiv_replace.proofs.Walking.{leads_on, covered_mono, nothing, only, stands_left, stands_cases, stands_right, contains_at, at_contains, mark_same, mark_other}

-- a head that is taken is among what edges may lead to
pub take_walking : (g : List (List ℕ)) (b : ℕ) (rest : List ℕ) (marks : List Mark) (p : Part) (older : List Part) (closed : ℕ) → p.heads ≡ rest ++ b ∷ []
    → IsWalking g [] marks (p ∷ older) closed → IsWalking g (b ∷ []) marks (record { nodes = p.nodes; heads = rest } ∷ older) closed
take_walking g b rest marks p older closed e w =
    record {
      each = w.each;
      places = w.places;
      marked = w.marked;
      linked = (λ a x y z. w.linked.0 a x y (less x z), λ x z. w.linked.1 x (less x z), w.linked.2);
      covered = (
        λ a x y h. ⊎_elim (λ (k : IsClosed marks x ⊎ Contains [] x). inl (⊎_elim (λ (i : IsClosed marks x). inl i) (λ (i : Contains [] x). absurd (nothing x i)) k)) (λ (k : Contains (seen_by p) x). split x k) (w.covered.0 a x y h),
        covered_mono g (λ x. (IsClosed marks x ⊎ Contains [] x) ⊎ Contains (seen_by p) x) (λ x. (IsClosed marks x ⊎ Contains (b ∷ []) x) ⊎ Contains (p.nodes ++ rest) x) older
            (λ x. ⊎_elim (λ (k : IsClosed marks x ⊎ Contains [] x). inl (⊎_elim (λ (i : IsClosed marks x). inl i) (λ (i : Contains [] x). absurd (nothing x i)) k)) (λ (k : Contains (seen_by p) x). split x k)) w.covered.1,
      );
      components = w.components;
      room = w.room;
      fits = w.fits;
      few = w.few;
    }
  where
    less : (x : ℕ) → Contains (p.nodes ++ rest) x → Contains (seen_by p) x
    less x h =
        ⊎_elim (λ (k : Contains p.nodes x). Contains-append_left p.nodes p.heads x k)
        (λ (k : Contains rest x). Contains-append_right p.nodes p.heads x (subst (λ (z : List ℕ). Contains z x) (sym e) (Contains-append_left rest (b ∷ []) x k)))
        (Contains-append_cases p.nodes rest x h)

    split : (x : ℕ) → Contains (seen_by p) x → (IsClosed marks x ⊎ Contains (b ∷ []) x) ⊎ Contains (p.nodes ++ rest) x
    split x h =
        ⊎_elim (λ (k : Contains p.nodes x). inr (Contains-append_left p.nodes rest x k))
        (λ (k : Contains p.heads x).
        ⊎_elim (λ (i : Contains rest x). inr (Contains-append_right p.nodes rest x i)) (λ (i : Contains (b ∷ []) x). inl (inr i))
        (Contains-append_cases rest (b ∷ []) x (subst (λ (z : List ℕ). Contains z x) e k)))
        (Contains-append_cases p.nodes p.heads x h)

-- all nodes of the path lead to it
pub take_leads : (g : List (List ℕ)) (b : ℕ) (rest : List ℕ) (p : Part) (older : List Part) → p.heads ≡ rest ++ b ∷ [] → IsLinked g (p ∷ older)
    → ((a : ℕ) → Contains (opened (p ∷ older)) a → Leads g a b) × (b < length g)
take_leads g b rest p older e h =
    let k : Contains (seen_by p) b = Contains-append_right p.nodes p.heads b (subst (λ (z : List ℕ). Contains z b) (sym e) (Contains-push rest b)) in
    (λ a x. h.0 a b x k, h.1 b k)

-- a node whose component was closed, or that the newest part has, is nothing more
pub known_walking : (g : List (List ℕ)) (b : ℕ) (marks : List Mark) (path : List Part) (closed : ℕ) → IsClosed marks b → IsWalking g (b ∷ []) marks path closed → IsWalking g [] marks path closed
known_walking g b marks path closed k w =
    record {
      each = w.each;
      places = w.places;
      marked = w.marked;
      linked = w.linked;
      components = w.components;
      room = w.room;
      fits = w.fits;
      few = w.few;
      covered = covered_mono g (λ x. IsClosed marks x ⊎ Contains (b ∷ []) x) (λ x. IsClosed marks x ⊎ Contains [] x) path
          (λ x. ⊎_elim (λ (i : IsClosed marks x). inl i) (λ (i : Contains (b ∷ []) x). inl (subst (λ (z : ℕ). IsClosed marks z) (only b x i) k))) w.covered;
    }

pub newest_walking : (g : List (List ℕ)) (b : ℕ) (marks : List Mark) (p : Part) (older : List Part) (closed : ℕ) → Contains p.nodes b → IsWalking g (b ∷ []) marks (p ∷ older) closed → IsWalking g [] marks (p ∷ older) closed
newest_walking g b marks p older closed k w =
    record {
      each = w.each;
      places = w.places;
      marked = w.marked;
      linked = w.linked;
      components = w.components;
      room = w.room;
      fits = w.fits;
      few = w.few;
      covered = (
        λ a x y h. ⊎_elim (λ (i : IsClosed marks x ⊎ Contains (b ∷ []) x). seen x (inl i)) (λ (i : Contains (seen_by p) x). inr i) (w.covered.0 a x y h),
        covered_mono g (λ x. (IsClosed marks x ⊎ Contains (b ∷ []) x) ⊎ Contains (seen_by p) x) (λ x. (IsClosed marks x ⊎ Contains [] x) ⊎ Contains (seen_by p) x) older seen w.covered.1,
      );
    }
  where
    seen : (x : ℕ) → (IsClosed marks x ⊎ Contains (b ∷ []) x) ⊎ Contains (seen_by p) x → (IsClosed marks x ⊎ Contains [] x) ⊎ Contains (seen_by p) x
    seen x =
        ⊎_elim (⊎_elim (λ (i : IsClosed marks x). inl (inl i)) (λ (i : Contains (b ∷ []) x). inr (subst (λ (z : ℕ). Contains (seen_by p) z) (only b x i) (Contains-append_left p.nodes p.heads b k))))
        (λ (i : Contains (seen_by p) x). inr i)

-- the two newest parts are made one, where all lead to a node of an older one
pub merge_opened : (p q : Part) (older : List Part) → opened (merged (p ∷ q ∷ older)) ≡ opened (p ∷ q ∷ older)
merge_opened p q older = sym (append_assoc (opened older) q.nodes p.nodes)

pub merge_walking : (g : List (List ℕ)) (b : ℕ) (marks : List Mark) (p q : Part) (older : List Part) (closed : ℕ) → Contains (opened (q ∷ older)) b → ((a : ℕ) → Contains (opened (p ∷ q ∷ older)) a → Leads g a b)
    → IsWalking g (b ∷ []) marks (p ∷ q ∷ older) closed → IsWalking g (b ∷ []) marks (merged (p ∷ q ∷ older)) closed
merge_walking g b marks p q older closed there leads w =
    record {
      each = w.each;
      places = λ a at e. subst (λ (z : List ℕ). StandsAt z at a) (sym (merge_opened p q older)) (w.places a at e);
      marked = λ a at h. w.marked a at (subst (λ (z : List ℕ). StandsAt z at a) (merge_opened p q older) h);
      linked = (
        λ a x y z. way a x (subst (λ (s : List ℕ). Contains s a) (merge_opened p q older) y) (one x z),
        λ x z. ⊎_elim (λ (k : Contains (seen_by p) x). w.linked.1 x k) (λ (k : Contains (seen_by q) x). w.linked.2.1 x k) (one x z),
        w.linked.2.2,
      );
      covered = (
        λ a x y h. ⊎_elim (λ (k : Contains q.nodes a). of_q x (w.covered.1.0 a x k h)) (λ (k : Contains p.nodes a). of_p x (w.covered.0 a x k h)) (Contains-append_cases q.nodes p.nodes a y),
        covered_mono g (λ x. ((IsClosed marks x ⊎ Contains (b ∷ []) x) ⊎ Contains (seen_by p) x) ⊎ Contains (seen_by q) x) (λ x. (IsClosed marks x ⊎ Contains (b ∷ []) x) ⊎ Contains (seen_by m) x) older of_q w.covered.1.1,
      );
      components = w.components;
      room = let r : closed + (length (p ∷ q ∷ older) + news marks) ≤ length g = w.room in omega arith;
      fits = let r : length (opened (p ∷ q ∷ older)) + news marks ≤ length g = w.fits in let e : length (opened (merged (p ∷ q ∷ older))) ≡ length (opened (p ∷ q ∷ older)) = ap length (merge_opened p q older) in omega arith;
      few = w.few;
    }
  where
    m : Part
    m = record { nodes = q.nodes ++ p.nodes; heads = q.heads ++ p.heads }

    one : (x : ℕ) → Contains (seen_by m) x → Contains (seen_by p) x ⊎ Contains (seen_by q) x
    one x h =
        ⊎_elim (λ (k : Contains (q.nodes ++ p.nodes) x).
        ⊎_elim (λ (i : Contains q.nodes x). inr (Contains-append_left q.nodes q.heads x i)) (λ (i : Contains p.nodes x). inl (Contains-append_left p.nodes p.heads x i)) (Contains-append_cases q.nodes p.nodes x k))
        (λ (k : Contains (q.heads ++ p.heads) x).
        ⊎_elim (λ (i : Contains q.heads x). inr (Contains-append_right q.nodes q.heads x i)) (λ (i : Contains p.heads x). inl (Contains-append_right p.nodes p.heads x i)) (Contains-append_cases q.heads p.heads x k))
        (Contains-append_cases (q.nodes ++ p.nodes) (q.heads ++ p.heads) x h)

    from_p : (x : ℕ) → Contains (seen_by p) x → Contains (seen_by m) x
    from_p x h =
        ⊎_elim (λ (k : Contains p.nodes x). Contains-append_left (q.nodes ++ p.nodes) (q.heads ++ p.heads) x (Contains-append_right q.nodes p.nodes x k))
        (λ (k : Contains p.heads x). Contains-append_right (q.nodes ++ p.nodes) (q.heads ++ p.heads) x (Contains-append_right q.heads p.heads x k))
        (Contains-append_cases p.nodes p.heads x h)

    from_q : (x : ℕ) → Contains (seen_by q) x → Contains (seen_by m) x
    from_q x h =
        ⊎_elim (λ (k : Contains q.nodes x). Contains-append_left (q.nodes ++ p.nodes) (q.heads ++ p.heads) x (Contains-append_left q.nodes p.nodes x k))
        (λ (k : Contains q.heads x). Contains-append_right (q.nodes ++ p.nodes) (q.heads ++ p.heads) x (Contains-append_left q.heads p.heads x k))
        (Contains-append_cases q.nodes q.heads x h)

    way : (a x : ℕ) → Contains (opened (p ∷ q ∷ older)) a → Contains (seen_by p) x ⊎ Contains (seen_by q) x → Leads g a x
    way a x h = ⊎_elim (λ (k : Contains (seen_by p) x). w.linked.0 a x h k) (λ (k : Contains (seen_by q) x). leads_on a b x (leads a h) (w.linked.2.0 b x there k))

    of_p : (x : ℕ) → (IsClosed marks x ⊎ Contains (b ∷ []) x) ⊎ Contains (seen_by p) x → (IsClosed marks x ⊎ Contains (b ∷ []) x) ⊎ Contains (seen_by m) x
    of_p x = ⊎_elim (λ (k : IsClosed marks x ⊎ Contains (b ∷ []) x). inl k) (λ (k : Contains (seen_by p) x). inr (from_p x k))

    of_q : (x : ℕ) → ((IsClosed marks x ⊎ Contains (b ∷ []) x) ⊎ Contains (seen_by p) x) ⊎ Contains (seen_by q) x → (IsClosed marks x ⊎ Contains (b ∷ []) x) ⊎ Contains (seen_by m) x
    of_q x = ⊎_elim (λ (k : (IsClosed marks x ⊎ Contains (b ∷ []) x) ⊎ Contains (seen_by p) x). of_p x k) (λ (k : Contains (seen_by q) x). inr (from_q x k))

-- nodes get the number of a component, and no others
pub length-all_closed : (r : ℕ) (nodes : List ℕ) (marks : List Mark) → length (all_closed r nodes marks) ≡ length marks
length-all_closed r [] marks = refl
length-all_closed r (n ∷ nodes) marks = length-all_closed r nodes (set marks n (Closed r)) ∙ length-set marks n (Closed r)

news-closed : (marks : List Mark) (a r : ℕ) → news (set marks a (Closed r)) ≤ news marks
news-closed [] a r = omega arith
news-closed (New ∷ marks) zero r = omega arith
news-closed (Open k ∷ marks) zero r = omega arith
news-closed (Closed q ∷ marks) zero r = omega arith
news-closed (New ∷ marks) (suc a) r = let i : news (set marks a (Closed r)) ≤ news marks = news-closed marks a r in omega arith
news-closed (Open k ∷ marks) (suc a) r = news-closed marks a r
news-closed (Closed q ∷ marks) (suc a) r = news-closed marks a r

news-all_closed : (r : ℕ) (nodes : List ℕ) (marks : List Mark) → news (all_closed r nodes marks) ≤ news marks
news-all_closed r [] marks = omega arith
news-all_closed r (n ∷ nodes) marks = let i : news (all_closed r nodes (set marks n (Closed r))) ≤ news (set marks n (Closed r)) = news-all_closed r nodes (set marks n (Closed r)) in omega (arith, news-closed marks n r)

left-closed : (g : List (List ℕ)) (marks : List Mark) (a r : ℕ) → news_left g (set marks a (Closed r)) ≤ news_left g marks
left-closed g [] a r = omega arith
left-closed [] (m ∷ marks) zero r = omega arith
left-closed [] (m ∷ marks) (suc a) r = omega arith
left-closed (hs ∷ g) (New ∷ marks) zero r = omega arith
left-closed (hs ∷ g) (Open k ∷ marks) zero r = omega arith
left-closed (hs ∷ g) (Closed q ∷ marks) zero r = omega arith
left-closed (hs ∷ g) (New ∷ marks) (suc a) r = let i : news_left g (set marks a (Closed r)) ≤ news_left g marks = left-closed g marks a r in omega arith
left-closed (hs ∷ g) (Open k ∷ marks) (suc a) r = left-closed g marks a r
left-closed (hs ∷ g) (Closed q ∷ marks) (suc a) r = left-closed g marks a r

pub left-all_closed : (g : List (List ℕ)) (r : ℕ) (nodes : List ℕ) (marks : List Mark) → news_left g (all_closed r nodes marks) ≤ news_left g marks
left-all_closed g r [] marks = omega arith
left-all_closed g r (n ∷ nodes) marks =
    let i : news_left g (all_closed r nodes (set marks n (Closed r))) ≤ news_left g (set marks n (Closed r)) = left-all_closed g r nodes (set marks n (Closed r)) in
    omega (arith, left-closed g marks n r)

contains_later : (n : ℕ) (nodes : List ℕ) (a : ℕ) → Contains nodes a → Contains (n ∷ nodes) a
contains_later n nodes a h = Contains-append_right (n ∷ []) nodes a h

contains_first : (n : ℕ) (nodes : List ℕ) → Contains (n ∷ nodes) n
contains_first n nodes = (0, omega arith, refl)

-- what a mark is then
abbrev IsSame : ℕ → List ℕ → List Mark → ℕ → Type 0
IsSame r nodes marks a = (mark_of (all_closed r nodes marks) a ≡ mark_of marks a) × (Contains nodes a → ⊥)

abbrev IsMade : ℕ → List ℕ → List Mark → ℕ → Type 0
IsMade r nodes marks a = (mark_of (all_closed r nodes marks) a ≡ Closed r) × Contains nodes a

closed_cases : (r : ℕ) (nodes : List ℕ) (marks : List Mark) (a : ℕ) → ((x : ℕ) → Contains nodes x → x < length marks)
    → (mark_of (all_closed r nodes marks) a ≡ mark_of marks a) × (Contains nodes a → ⊥) ⊎ (mark_of (all_closed r nodes marks) a ≡ Closed r) × Contains nodes a
closed_cases r [] marks a h = inl (refl, λ c. nothing a c)
closed_cases r (n ∷ nodes) marks a h =
    go (closed_cases r nodes (set marks n (Closed r)) a (λ x c. subst (λ (z : ℕ). x < z) (sym (length-set marks n (Closed r))) (h x (contains_later n nodes x c)))) (cases_eq a n)
  where
    go : (mark_of (all_closed r nodes (set marks n (Closed r))) a ≡ mark_of (set marks n (Closed r)) a) × (Contains nodes a → ⊥) ⊎ (mark_of (all_closed r nodes (set marks n (Closed r))) a ≡ Closed r) × Contains nodes a
        → (a ≡ n) ⊎ (a ≡ n → ⊥)
        → (mark_of (all_closed r nodes (set marks n (Closed r))) a ≡ mark_of marks a) × (Contains (n ∷ nodes) a → ⊥) ⊎ (mark_of (all_closed r nodes (set marks n (Closed r))) a ≡ Closed r) × Contains (n ∷ nodes) a
    go (inr x) e = inr (x.0, contains_later n nodes a x.1)
    go (inl x) (inl e) =
        inr (x.0 ∙ (ap (mark_of (set marks n (Closed r))) e ∙ mark_same marks n (Closed r) (h n (contains_first n nodes))), subst (λ (z : ℕ). Contains (n ∷ nodes) z) (sym e) (contains_first n nodes))
    go (inl x) (inr e) =
        inl (
          x.0 ∙ mark_other marks n a (Closed r) e,
          λ c. ⊎_elim (λ (k : Contains (n ∷ []) a). e (sym (only n a k))) (λ (k : Contains nodes a). x.1 k) (Contains-append_cases (n ∷ []) nodes a c),
        )

pub knows_closed : (r : ℕ) (nodes : List ℕ) (marks : List Mark) → ((x : ℕ) → Contains nodes x → x < length marks) → (a : ℕ) → mark_of (all_closed r nodes marks) a ≡ New → mark_of marks a ≡ New
knows_closed r nodes marks h a e = ⊎_elim (λ (x : IsSame r nodes marks a). sym x.0 ∙ e) (λ (x : IsMade r nodes marks a). let f : Closed r ≡ New = sym x.0 ∙ e in cc) (closed_cases r nodes marks a h)

-- the newest part is closed
pub close_walking : (g : List (List ℕ)) (marks : List Mark) (p : Part) (older : List Part) (closed : ℕ) → p.heads ≡ [] → IsWalking g [] marks (p ∷ older) closed
    → IsWalking g [] (all_closed closed p.nodes marks) older (closed + 1)
close_walking g marks p older closed none w =
    record {
      each = length-all_closed closed p.nodes marks ∙ w.each;
      places = λ a at e. ⊎_elim (λ (x : IsSame closed p.nodes marks a). lower a at (w.places a at (sym x.0 ∙ e)) x.1) (λ (x : IsMade closed p.nodes marks a). absurd (let f : Closed closed ≡ Open at = sym x.0 ∙ e in differ closed at f)) (cases a);
      marked = λ a at h. let e : mark_of marks a ≡ Open at = w.marked a at (stands_left (opened older) p.nodes at a h) in
          ⊎_elim (λ (x : IsSame closed p.nodes marks a). x.0 ∙ e) (λ (x : IsMade closed p.nodes marks a). absurd (apart a x.1 at h)) (cases a);
      linked = w.linked.2;
      covered = covered_mono g (λ b. (IsClosed marks b ⊎ Contains [] b) ⊎ Contains (seen_by p) b) (λ b. IsClosed next b ⊎ Contains [] b) older
          (λ b. ⊎_elim (⊎_elim (λ (x : IsClosed marks b). inl (onward b x)) (λ (x : Contains [] b). absurd (nothing b x))) (λ (x : Contains (seen_by p) b). inl (closed, made b (whole b x)))) w.covered.1;
      components = record {
        below = λ a r e. ⊎_elim (λ (x : IsSame closed p.nodes marks a). let i : r < closed = w.components.below a r (sym x.0 ∙ e) in omega arith) (λ (x : IsMade closed p.nodes marks a). let i : closed ≡ r = same closed r (sym x.0 ∙ e) in omega arith) (cases a);
        falls = falls;
        together = together;
      };
      room = let r : closed + (length (p ∷ older) + news marks) ≤ length g = w.room in omega (arith, news-all_closed closed p.nodes marks);
      fits = let r : length (opened older ++ p.nodes) + news marks ≤ length g = w.fits in omega (arith, length-append (opened older) p.nodes, news-all_closed closed p.nodes marks);
      few = w.few;
    }
  where
    next : List Mark
    next = all_closed closed p.nodes marks

    same : (x y : ℕ) → Closed x ≡ Closed y → x ≡ y
    same x y e = cc

    differ : (x y : ℕ) → Closed x ≡ Open y → ⊥
    differ x y e = cc

    inside : (x : ℕ) → Contains p.nodes x → x < length marks
    inside x h = let l : x < length g = w.linked.1 x (Contains-append_left p.nodes p.heads x h) in let e : length marks ≡ length g = w.each in omega arith

    cases : (a : ℕ) → IsSame closed p.nodes marks a ⊎ IsMade closed p.nodes marks a
    cases a = closed_cases closed p.nodes marks a inside

    -- a node of the newest part stands behind those of the older ones
    open_at : (a : ℕ) → Contains p.nodes a → (k : ℕ) × (mark_of marks a ≡ Open (length (opened older) + k))
    open_at a h = let k : (at : ℕ) × StandsAt p.nodes at a = contains_at p.nodes a h in (k.0, w.marked a (length (opened older) + k.0) (stands_right (opened older) p.nodes k.0 a k.1))

    apart : (a : ℕ) → Contains p.nodes a → (at : ℕ) → StandsAt (opened older) at a → ⊥
    apart a h at s =
        let k : (k : ℕ) × (mark_of marks a ≡ Open (length (opened older) + k)) = open_at a h in
        let e : mark_of marks a ≡ Open at = w.marked a at (stands_left (opened older) p.nodes at a s) in
        let i : length (opened older) + k.0 ≡ at = place (length (opened older) + k.0) at (sym k.1 ∙ e) in
        let l : at < length (opened older) = s.0 in
        omega arith
      where
        place : (x y : ℕ) → Open x ≡ Open y → x ≡ y
        place x y e = cc

    lower : (a at : ℕ) → StandsAt (opened older ++ p.nodes) at a → (Contains p.nodes a → ⊥) → StandsAt (opened older) at a
    lower a at s n =
        ⊎_elim (λ (x : StandsAt (opened older) at a). x) (λ (x : (length (opened older) ≤ at) × StandsAt p.nodes (at - length (opened older)) a). absurd (n (at_contains p.nodes (at - length (opened older)) a x.1)))
        (stands_cases (opened older) p.nodes at a s)

    made : (a : ℕ) → Contains p.nodes a → mark_of next a ≡ Closed closed
    made a h = ⊎_elim (λ (x : IsSame closed p.nodes marks a). absurd (x.1 h)) (λ (x : IsMade closed p.nodes marks a). x.0) (cases a)

    -- no node of the part was closed before
    unclosed : (a r : ℕ) → Contains p.nodes a → mark_of marks a ≡ Closed r → ⊥
    unclosed a r h e = let k : (k : ℕ) × (mark_of marks a ≡ Open (length (opened older) + k)) = open_at a h in differ r (length (opened older) + k.0) (sym e ∙ k.1)

    stays : (a r : ℕ) → mark_of marks a ≡ Closed r → mark_of next a ≡ Closed r
    stays a r e = ⊎_elim (λ (x : IsSame closed p.nodes marks a). x.0 ∙ e) (λ (x : IsMade closed p.nodes marks a). absurd (unclosed a r x.1 e)) (cases a)

    onward : (a : ℕ) → IsClosed marks a → IsClosed next a
    onward a h = (h.0, stays a h.0 h.1)

    whole : (a : ℕ) → Contains (seen_by p) a → Contains p.nodes a
    whole a h = ⊎_elim (λ (x : Contains p.nodes a). x) (λ (x : Contains p.heads a). absurd (nothing a (subst (λ (z : List ℕ). Contains z a) none x))) (Contains-append_cases p.nodes p.heads a h)

    falls : (a b r : ℕ) → mark_of next a ≡ Closed r → HasEdge g a b → (q : ℕ) × (mark_of next b ≡ Closed q) × (q ≤ r)
    falls a b r e h = ⊎_elim kept new (cases a)
      where
        kept : IsSame closed p.nodes marks a → (q : ℕ) × (mark_of next b ≡ Closed q) × (q ≤ r)
        kept x = let f : (q : ℕ) × (mark_of marks b ≡ Closed q) × (q ≤ r) = w.components.falls a b r (sym x.0 ∙ e) h in (f.0, stays b f.0 f.1, f.2)

        new : IsMade closed p.nodes marks a → (q : ℕ) × (mark_of next b ≡ Closed q) × (q ≤ r)
        new x =
            let i : closed ≡ r = same closed r (sym x.0 ∙ e) in
            ⊎_elim (⊎_elim (λ (y : IsClosed marks b). let l : y.0 < closed = w.components.below b y.0 y.1 in (y.0, stays b y.0 y.1, omega arith)) (λ (y : Contains [] b). absurd (nothing b y)))
            (λ (y : Contains (seen_by p) b). (closed, made b (whole b y), omega arith)) (w.covered.0 a b x.1 h)

    together : (a b r : ℕ) → mark_of next a ≡ Closed r → mark_of next b ≡ Closed r → Leads g a b
    together a b r e f = ⊎_elim (λ (x : IsSame closed p.nodes marks a). ⊎_elim (both x) (mixed x) (cases b)) (λ (x : IsMade closed p.nodes marks a). ⊎_elim (other x) (two x) (cases b)) (cases a)
      where
        both : IsSame closed p.nodes marks a → IsSame closed p.nodes marks b → Leads g a b
        both x y = w.components.together a b r (sym x.0 ∙ e) (sym y.0 ∙ f)

        mixed : IsSame closed p.nodes marks a → IsMade closed p.nodes marks b → Leads g a b
        mixed x y = absurd (let l : r < closed = w.components.below a r (sym x.0 ∙ e) in let i : closed ≡ r = same closed r (sym y.0 ∙ f) in omega arith)

        other : IsMade closed p.nodes marks a → IsSame closed p.nodes marks b → Leads g a b
        other x y = absurd (let l : r < closed = w.components.below b r (sym y.0 ∙ f) in let i : closed ≡ r = same closed r (sym x.0 ∙ e) in omega arith)

        two : IsMade closed p.nodes marks a → IsMade closed p.nodes marks b → Leads g a b
        two x y = w.linked.0 a b (Contains-append_right (opened older) p.nodes a x.1) (Contains-append_left p.nodes p.heads b y.1)
