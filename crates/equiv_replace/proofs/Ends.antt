-- A walk at its start and at its end.
use Rattle.std.proofs.Common.{◌≡◌, ℕ, zero, suc, ◌+◌, ◌^◌, ◌<◌, ◌≤◌, List, [], ◌∷◌, length, get_or, map, replicate, refl, sym, ap, subst, ◌∙◌, arith, ⊎_elim}
use Rattle.std.proofs.lemmas.Bool.{cases_lt}
use Rattle.std.proofs.lemmas.List.{length-map, length-replicate, get_or_past}
use Rattle.std.specs.List.{Contains}
use Rattle.equiv_replace.specs.declared.components.Mark.{Mark}
use Rattle.equiv_replace.specs.declared.components.Mark.TheVariants.{New, Open, Closed}
use Rattle.equiv_replace.specs.Graphs.{HasEdge, Leads, AreComponents}
use Rattle.equiv_replace.specs.Parts.{Part, opened}
use Rattle.equiv_replace.specs.Walks.{mark_of, IsClosed, StandsAt, news, IsWalking, KnowsMore, number_of}
use Rattle.equiv_replace.proofs.Walking.{nothing}

all_new : (n a : ℕ) → mark_of (replicate n New) a ≡ New
all_new zero a = refl
all_new (suc n) zero = refl
all_new (suc n) (suc a) = all_new n a

news-replicate : (n : ℕ) → news (replicate n New) ≡ n
news-replicate zero = refl
news-replicate (suc n) = let i : news (replicate n New) ≡ n = news-replicate n in omega arith

pub new_walking : (g : List (List ℕ)) → length g ≤ 2 ^ 32 → IsWalking g [] (replicate (length g) New) [] 0
new_walking g few =
    record {
      each = length-replicate (length g) New;
      places = λ a at e. let f : New ≡ Open at = sym (all_new (length g) a) ∙ e in absurd (new_open at f);
      marked = λ a at h. absurd (let l : at < 0 = h.0 in omega arith);
      linked = tt;
      covered = tt;
      components = record {
        below = λ a r e. absurd (new_closed r (sym (all_new (length g) a) ∙ e));
        falls = λ a b r e h. absurd (new_closed r (sym (all_new (length g) a) ∙ e));
        together = λ a b r e f. absurd (new_closed r (sym (all_new (length g) a) ∙ e));
      };
      room = omega (arith, news-replicate (length g));
      fits = omega (arith, news-replicate (length g));
      few = few;
    }
  where
    new_open : (at : ℕ) → New ≡ Open at → ⊥
    new_open at e = cc

    new_closed : (r : ℕ) → New ≡ Closed r → ⊥
    new_closed r e = cc

-- with no path, every node that was seen was closed
pub closed_of : (g : List (List ℕ)) (marks : List Mark) (path : List Part) (closed a : ℕ) → path ≡ [] → IsWalking g [] marks path closed → (mark_of marks a ≡ New → ⊥) → IsClosed marks a
closed_of g marks path closed a p w n = go (mark_of marks a) refl
  where
    go : (m : Mark) → mark_of marks a ≡ m → IsClosed marks a
    go New e = absurd (n e)
    go (Open at) e = absurd (let s : StandsAt [] at a = subst (λ (z : List Part). StandsAt (opened z) at a) p (w.places a at e) in let l : at < 0 = s.0 in omega arith)
    go (Closed r) e = (r, e)

-- and edges may lead anywhere
pub more_walking : (g : List (List ℕ)) (b : ℕ) (marks : List Mark) (path : List Part) (closed : ℕ) → path ≡ [] → IsWalking g [] marks path closed → IsWalking g (b ∷ []) marks path closed
more_walking g b marks [] closed p w = record { each = w.each; places = w.places; marked = w.marked; linked = w.linked; covered = tt; components = w.components; room = w.room; fits = w.fits; few = w.few }
more_walking g b marks (q ∷ path) closed p w = absurd (let e : suc (length path) ≡ 0 = ap length p in omega arith)

pub none_opened : (g : List (List ℕ)) (path : List Part) (b : ℕ) → path ≡ [] → (a : ℕ) → Contains (opened path) a → Leads g a b
none_opened g [] b e a h = absurd (nothing a h)
none_opened g (p ∷ path) b e a h = absurd (let e : suc (length path) ≡ 0 = ap length e in omega arith)

-- what was closed stays closed
pub stays_closed : (g : List (List ℕ)) (old marks : List Mark) (path : List Part) (closed a : ℕ) → path ≡ [] → IsWalking g [] marks path closed → KnowsMore old marks → IsClosed old a → IsClosed marks a
stays_closed g old marks path closed a p w k h = closed_of g marks path closed a p w (λ e. closed_new h.0 (sym h.1 ∙ k a e))
  where
    closed_new : (r : ℕ) → Closed r ≡ New → ⊥
    closed_new r e = cc

pub number_at : (marks : List Mark) (a : ℕ) → get_or (map number_of marks) a 0 ≡ number_of (mark_of marks a)
number_at [] a = refl
number_at (m ∷ marks) zero = refl
number_at (m ∷ marks) (suc a) = number_at marks a

-- where all nodes were closed, the numbers are those of components
pub all_components : (g : List (List ℕ)) (marks : List Mark) (path : List Part) (closed : ℕ) → IsWalking g [] marks path closed → ((a : ℕ) → a < length g → IsClosed marks a) → AreComponents g (map number_of marks)
all_components g marks path closed w all =
    record {
      each = length-map marks number_of ∙ w.each;
      below = below;
      falls = falls;
      together = together;
    }
  where
    number_is : (a r : ℕ) → mark_of marks a ≡ Closed r → get_or (map number_of marks) a 0 ≡ r
    number_is a r e = number_at marks a ∙ ap number_of e

    below : (a : ℕ) → a < length g → get_or (map number_of marks) a 0 < length g
    below a l =
        let x : IsClosed marks a = all a l in
        let b : x.0 < closed = w.components.below a x.0 x.1 in
        let r : closed + (length path + news marks) ≤ length g = w.room in
        omega (arith, number_is a x.0 x.1)

    edge_inside : (a b : ℕ) → HasEdge g a b → a < length g
    edge_inside a b h =
        ⊎_elim (λ (l : a < length g). l) (λ (l : length g ≤ a). absurd (nothing b (subst (λ (z : List ℕ). Contains z b) (get_or_past g a [] l) h))) (cases_lt a (length g))

    falls : (a b : ℕ) → HasEdge g a b → get_or (map number_of marks) b 0 ≤ get_or (map number_of marks) a 0
    falls a b h =
        let x : IsClosed marks a = all a (edge_inside a b h) in
        let y : (q : ℕ) × (mark_of marks b ≡ Closed q) × (q ≤ x.0) = w.components.falls a b x.0 x.1 h in
        omega (arith, number_is a x.0 x.1, number_is b y.0 y.1, y.2)

    together : (a b : ℕ) → a < length g → b < length g → get_or (map number_of marks) a 0 ≡ get_or (map number_of marks) b 0 → Leads g a b
    together a b l m e =
        let x : IsClosed marks a = all a l in
        let y : IsClosed marks b = all b m in
        let f : y.0 ≡ x.0 = omega (arith, number_is a x.0 x.1, number_is b y.0 y.1) in
        w.components.together a b x.0 x.1 (subst (λ (z : ℕ). mark_of marks b ≡ Closed z) f y.1)
