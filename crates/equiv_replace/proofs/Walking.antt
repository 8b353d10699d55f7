-- What the steps of a walk over a graph keep.
use Rattle.std.proofs.Common.{◌≡◌, ◌≢◌, ℕ, zero, suc, ◌+◌, ◌-◌, ◌<◌, ◌≤◌, ◌⊎◌, List, [], ◌∷◌, ◌++◌, length, get_or, set, refl, sym, ap, subst, ◌∙◌, arith, inl, inr, ⊎_elim}
use Rattle.std.proofs.lemmas.Bool.{cases_eq, cases_lt}
use Rattle.std.proofs.lemmas.List.{length-set, length-append, get_or-set_same, get_or-set_other, get_or_append_left, get_or-append-add, get_or_default}
use Rattle.std.proofs.lemmas.List.Elements.{Contains-append_left, Contains-append_right, Contains-append_cases, Contains-push_cases}
use Rattle.std.specs.List.{Contains}
use Rattle.equiv_replace.specs.declared.components.Mark.{Mark}
use Rattle.equiv_replace.specs.declared.components.Mark.TheVariants.{New, Open, Closed}
use Rattle.equiv_replace.specs.Graphs.{heads_of, HasEdge, IsGraph, Leads}
use Rattle.equiv_replace.specs.Parts.{Part, opened}
use Rattle.equiv_replace.specs.Walks.{mark_of, IsClosed, seen_by, IsCovered, StandsAt, news, news_left, IsWalking}

-- a way goes on by another
pub leads_on : {g : List (List ℕ)} (a b c : ℕ) → Leads g a b → Leads g b c → Leads g a c
leads_on a b c (Leads.here x) q = q
leads_on a b c (Leads.along x y z e p) q = Leads.along a y c e (leads_on y b c p q)

pub leads_edge : {g : List (List ℕ)} (a b : ℕ) → HasEdge g a b → Leads g a b
leads_edge a b e = Leads.along a b b e (Leads.here b)

pub nothing : {X : Type 0} (x : X) → Contains [] x → ⊥
nothing x h = let l : h.0 < 0 = h.1 in omega arith

pub only : {X : Type 0} (y x : X) → Contains (y ∷ []) x → y ≡ x
only y x h = ⊎_elim (λ (e : Contains [] x). absurd (nothing x e)) (λ (e : y ≡ x). e) (Contains-push_cases [] y x h)

-- more is seen
pub covered_mono : (g : List (List ℕ)) (R S : ℕ → Type 0) (path : List Part) → ((b : ℕ) → R b → S b) → IsCovered g R path → IsCovered g S path
covered_mono g R S [] f c = tt
covered_mono g R S (p ∷ older) f c = (
  λ a b h e. ⊎_elim (λ (x : R b). inl (f b x)) (λ (x : Contains (seen_by p) b). inr x) (c.0 a b h e),
  covered_mono g (λ b. R b ⊎ Contains (seen_by p) b) (λ b. S b ⊎ Contains (seen_by p) b) older
      (λ b. ⊎_elim (λ (x : R b). inl (f b x)) (λ (x : Contains (seen_by p) b). inr x)) c.1,
)

-- places in a list with one more, or more, behind it
pub stands_left : (xs ys : List ℕ) (at a : ℕ) → StandsAt xs at a → StandsAt (xs ++ ys) at a
stands_left xs ys at a h = (omega (arith, length-append xs ys, h.0), get_or_append_left xs ys 0 at h.0 ∙ h.1)

pub stands_cases : (xs ys : List ℕ) (at a : ℕ) → StandsAt (xs ++ ys) at a → StandsAt xs at a ⊎ ((length xs ≤ at) × StandsAt ys (at - length xs) a)
stands_cases xs ys at a h =
    ⊎_elim (λ (l : at < length xs). inl (l, sym (get_or_append_left xs ys 0 at l) ∙ h.1))
    (λ (l : length xs ≤ at).
    let k : ℕ = at - length xs in
    let e : length xs + k ≡ at = omega arith in
    inr (l, (omega (arith, length-append xs ys, h.0), sym (get_or-append-add xs ys k 0) ∙ (ap (λ (n : ℕ). get_or (xs ++ ys) n 0) e ∙ h.1))))
    (cases_lt at (length xs))

pub stands_right : (xs ys : List ℕ) (k a : ℕ) → StandsAt ys k a → StandsAt (xs ++ ys) (length xs + k) a
stands_right xs ys k a h = (omega (arith, length-append xs ys, h.0), get_or-append-add xs ys k 0 ∙ h.1)

pub contains_at : (xs : List ℕ) (a : ℕ) → Contains xs a → (at : ℕ) × StandsAt xs at a
contains_at xs a h = (h.0, (h.1, get_or_default xs h.0 0 a h.1 ∙ h.2))

pub at_contains : (xs : List ℕ) (at a : ℕ) → StandsAt xs at a → Contains xs a
at_contains xs at a h = (at, h.0, get_or_default xs at a 0 h.0 ∙ h.1)

-- a mark is changed
pub mark_same : (marks : List Mark) (a : ℕ) (m : Mark) → a < length marks → mark_of (set marks a m) a ≡ m
mark_same marks a m h = get_or-set_same marks a m New h

pub mark_other : (marks : List Mark) (a b : ℕ) (m : Mark) → b ≢ a → mark_of (set marks a m) b ≡ mark_of marks b
mark_other marks a b m h = get_or-set_other marks a b m New h

news-set : (marks : List Mark) (a at : ℕ) → a < length marks → mark_of marks a ≡ New → news (set marks a (Open at)) + 1 ≡ news marks
news-set [] a at h e = absurd (omega arith)
news-set (New ∷ marks) zero at h e = omega arith
news-set (Open k ∷ marks) zero at h e = cc
news-set (Closed r ∷ marks) zero at h e = cc
news-set (New ∷ marks) (suc a) at h e = let i : news (set marks a (Open at)) + 1 ≡ news marks = news-set marks a at (omega arith) e in omega arith
news-set (Open k ∷ marks) (suc a) at h e = news-set marks a at (omega arith) e
news-set (Closed r ∷ marks) (suc a) at h e = news-set marks a at (omega arith) e

pub news_left-set : (g : List (List ℕ)) (marks : List Mark) (a at : ℕ) → length marks ≡ length g → a < length g → mark_of marks a ≡ New → news_left g (set marks a (Open at)) + (length (heads_of g a) + 2) ≡ news_left g marks
news_left-set g [] a at l h e = absurd (omega arith)
news_left-set [] (m ∷ marks) a at l h e = absurd (omega arith)
news_left-set (hs ∷ g) (New ∷ marks) zero at l h e = omega arith
news_left-set (hs ∷ g) (Open k ∷ marks) zero at l h e = cc
news_left-set (hs ∷ g) (Closed r ∷ marks) zero at l h e = cc
news_left-set (hs ∷ g) (New ∷ marks) (suc a) at l h e =
    let i : news_left g (set marks a (Open at)) + (length (heads_of g a) + 2) ≡ news_left g marks = news_left-set g marks a at (omega arith) (omega arith) e in omega arith
news_left-set (hs ∷ g) (Open k ∷ marks) (suc a) at l h e = news_left-set g marks a at (omega arith) (omega arith) e
news_left-set (hs ∷ g) (Closed r ∷ marks) (suc a) at l h e = news_left-set g marks a at (omega arith) (omega arith) e

-- a node is opened
pub open_walking : (g : List (List ℕ)) (node : ℕ) (marks : List Mark) (path : List Part) (closed : ℕ) → IsGraph g → node < length g → mark_of marks node ≡ New
    → ((a : ℕ) → Contains (opened path) a → Leads g a node) → IsWalking g (node ∷ []) marks path closed
    → IsWalking g [] (set marks node (Open (length (opened path)))) (record { nodes = node ∷ []; heads = heads_of g node } ∷ path) closed
open_walking g node marks path closed graph there new leads w =
    record {
      each = length-set marks node (Open n) ∙ w.each;
      places = places;
      marked = marked;
      linked = (λ a b x y. leads_on a node b (to_node a x) (from_node b y), ranges, w.linked);
      covered = (
        λ a b x e. inr (Contains-append_right (node ∷ []) (heads_of g node) b (subst (λ (z : ℕ). HasEdge g z b) (sym (only node a x)) e)),
        covered_mono g (λ b. IsClosed marks b ⊎ Contains (node ∷ []) b) (λ b. (IsClosed next b ⊎ Contains [] b) ⊎ Contains (node ∷ heads_of g node) b) path more w.covered,
      );
      components = record {
        below = λ a r e. w.components.below a r (back a r e);
        falls = λ a b r e h. let q : (q : ℕ) × (mark_of marks b ≡ Closed q) × (q ≤ r) = w.components.falls a b r (back a r e) h in (q.0, onward b q.0 q.1, q.2);
        together = λ a b r e f. w.components.together a b r (back a r e) (back b r f);
      };
      room = let i : news next + 1 ≡ news marks = news-set marks node n inside new in let r : closed + (length path + news marks) ≤ length g = w.room in omega arith;
      fits = let i : news next + 1 ≡ news marks = news-set marks node n inside new in let r : length (opened path) + news marks ≤ length g = w.fits in omega (arith, length-append (opened path) (node ∷ []));
      few = w.few;
    }
  where
    n : ℕ
    n = length (opened path)

    next : List Mark
    next = set marks node (Open n)

    inside : node < length marks
    inside = let e : length marks ≡ length g = w.each in omega arith

    now : mark_of next node ≡ Open n
    now = mark_same marks node (Open n) inside

    -- nothing else changes
    back : (a r : ℕ) → mark_of next a ≡ Closed r → mark_of marks a ≡ Closed r
    back a r e = ⊎_elim (λ (x : a ≡ node). let f : mark_of next node ≡ Closed r = ap (mark_of next) (sym x) ∙ e in let k : mark_of next node ≡ Open n = now in cc) (λ (x : a ≢ node). sym (mark_other marks node a (Open n) x) ∙ e) (cases_eq a node)

    onward : (a r : ℕ) → mark_of marks a ≡ Closed r → mark_of next a ≡ Closed r
    onward a r e = ⊎_elim (λ (x : a ≡ node). let f : mark_of marks node ≡ Closed r = ap (mark_of marks) (sym x) ∙ e in cc) (λ (x : a ≢ node). mark_other marks node a (Open n) x ∙ e) (cases_eq a node)

    places : (a at : ℕ) → mark_of next a ≡ Open at → StandsAt (opened path ++ node ∷ []) at a
    places a at e =
        ⊎_elim (λ (x : a ≡ node).
        let f : mark_of next node ≡ Open at = ap (mark_of next) (sym x) ∙ e in
        let k : mark_of next node ≡ Open n = now in
        let m : n ≡ at = cc in
        subst (λ (z : ℕ). StandsAt (opened path ++ node ∷ []) z a) m
        (subst (λ (z : ℕ). StandsAt (opened path ++ node ∷ []) n z) (sym x) (subst (λ (z : ℕ). StandsAt (opened path ++ node ∷ []) z node) (omega arith) (stands_right (opened path) (node ∷ []) 0 node (omega arith, refl)))))
        (λ (x : a ≢ node). stands_left (opened path) (node ∷ []) at a (w.places a at (sym (mark_other marks node a (Open n) x) ∙ e))) (cases_eq a node)

    marked : (a at : ℕ) → StandsAt (opened path ++ node ∷ []) at a → mark_of next a ≡ Open at
    marked a at h =
        ⊎_elim (λ (x : StandsAt (opened path) at a). older x (w.marked a at x))
        (λ (x : (n ≤ at) × StandsAt (node ∷ []) (at - n) a).
        let l : at - n < 1 = x.1.0 in
        let k : at ≡ n = omega (arith, x.0) in
        let z : at - n ≡ 0 = omega arith in
        let f : node ≡ a = ap (λ (i : ℕ). get_or (node ∷ []) i 0) (sym z) ∙ x.1.1 in
        ap (mark_of next) (sym f) ∙ (now ∙ ap Open (sym k)))
        (stands_cases (opened path) (node ∷ []) at a h)
      where
        older : StandsAt (opened path) at a → mark_of marks a ≡ Open at → mark_of next a ≡ Open at
        older x e = ⊎_elim (λ (y : a ≡ node). let f : mark_of marks node ≡ Open at = ap (mark_of marks) (sym y) ∙ e in cc) (λ (y : a ≢ node). mark_other marks node a (Open n) y ∙ e) (cases_eq a node)

    to_node : (a : ℕ) → Contains (opened path ++ node ∷ []) a → Leads g a node
    to_node a h = ⊎_elim (λ (x : Contains (opened path) a). leads a x) (λ (x : node ≡ a). subst (λ (z : ℕ). Leads g z node) x (Leads.here node)) (Contains-push_cases (opened path) node a h)

    from_node : (b : ℕ) → Contains (node ∷ heads_of g node) b → Leads g node b
    from_node b h =
        ⊎_elim (λ (x : Contains (node ∷ []) b). subst (λ (z : ℕ). Leads g node z) (only node b x) (Leads.here node)) (λ (x : Contains (heads_of g node) b). leads_edge node b x)
        (Contains-append_cases (node ∷ []) (heads_of g node) b h)

    ranges : (b : ℕ) → Contains (node ∷ heads_of g node) b → b < length g
    ranges b h =
        ⊎_elim (λ (x : Contains (node ∷ []) b). subst (λ (z : ℕ). z < length g) (only node b x) there) (λ (x : Contains (heads_of g node) b). graph node b x)
        (Contains-append_cases (node ∷ []) (heads_of g node) b h)

    more : (b : ℕ) → IsClosed marks b ⊎ Contains (node ∷ []) b → (IsClosed next b ⊎ Contains [] b) ⊎ Contains (node ∷ heads_of g node) b
    more b = ⊎_elim (λ (x : IsClosed marks b). inl (inl (x.0, onward b x.0 x.1))) (λ (x : Contains (node ∷ []) b). inr (Contains-append_left (node ∷ []) (heads_of g node) b x))

pub knows_open : (marks : List Mark) (node n : ℕ) → node < length marks → (a : ℕ) → mark_of (set marks node (Open n)) a ≡ New → mark_of marks a ≡ New
knows_open marks node n h a e =
    ⊎_elim (λ (x : a ≡ node). let f : Open n ≡ New = sym (mark_same marks node (Open n) h) ∙ (ap (mark_of (set marks node (Open n))) (sym x) ∙ e) in cc) (λ (x : a ≢ node). sym (mark_other marks node a (Open n) x) ∙ e) (cases_eq a node)

pub seen_open : (marks : List Mark) (node n : ℕ) → node < length marks → mark_of (set marks node (Open n)) node ≢ New
seen_open marks node n h e = let f : Open n ≡ New = sym (mark_same marks node (Open n) h) ∙ e in cc

-- a node of which nothing is known is counted
pub news_some : (marks : List Mark) (a : ℕ) → a < length marks → mark_of marks a ≡ New → 1 ≤ news marks
news_some marks a h e = omega (arith, news-set marks a 0 h e)
