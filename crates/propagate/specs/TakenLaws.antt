-- How watches come to have taken all live clauses over.
use Rattle.std.proofs.Common.{◌≡◌, ℕ, Bool, true, false, cond, eqb, List, [], ◌∷◌, ◌++◌, map, find, Option, Some, None, option_map, refl, sym, ap, ◌∙◌}
use Rattle.std.specs.Option.{is_some}
use Rattle.std.proofs.lemmas.Bool.{false≢true, true≢false, eqb-true}
use Rattle.std.proofs.lemmas.Option.{none-some}
use Rattle.clause_store.specs.Store.{Held, clause_at}
use Rattle.propagate.specs.declared.watches.Taken.{Taken}
use Rattle.propagate.specs.Watching.{taken_as, taken_at, is_taken, HasTakenOver}

find_taken : (held : List Held) (id : ℕ) → taken_at (map taken_as held) id ≡ option_map taken_as (clause_at held id)
find_taken [] id = refl
find_taken (h ∷ rest) id = go (eqb h.id id) (find_taken rest id)
  where
    go : (b : Bool) → taken_at (map taken_as rest) id ≡ option_map taken_as (clause_at rest id) → cond b (Some (taken_as h)) (taken_at (map taken_as rest) id) ≡ option_map taken_as (cond b (Some h) (clause_at rest id))
    go true i = refl
    go false i = i

-- after `prepare`
pub takes_all : (held : List Held) → HasTakenOver (map taken_as held) held
takes_all held id live = ap (option_map (λ (t : Taken). t.lits)) (find_taken held id) ∙ twice (clause_at held id)
  where
    twice : (o : Option Held) → option_map (λ (t : Taken). t.lits) (option_map taken_as o) ≡ option_map (λ (h : Held). h.lits) o
    twice None = refl
    twice (Some h) = refl

find_left : {X : Type 0} (p : X → Bool) (xs ys : List X) (x : X) → find p xs ≡ Some x → find p (xs ++ ys) ≡ Some x
find_left p [] ys x e = absurd (none-some x e)
find_left {X = X} p (y ∷ xs) ys x e = go (p y) e (λ (f : find p xs ≡ Some x). find_left p xs ys x f)
  where
    go : (b : Bool) → cond b (Some y) (find p xs) ≡ Some x → (find p xs ≡ Some x → find p (xs ++ ys) ≡ Some x) → cond b (Some y) (find p (xs ++ ys)) ≡ Some x
    go true f i = f
    go false f i = i f

find_right : {X : Type 0} (p : X → Bool) (xs ys : List X) → find p xs ≡ None → find p (xs ++ ys) ≡ find p ys
find_right p [] ys e = refl
find_right {X = X} p (y ∷ xs) ys e = go (p y) e (λ (f : find p xs ≡ None). find_right p xs ys f)
  where
    go : (b : Bool) → cond b (Some y) (find p xs) ≡ None → (find p xs ≡ None → find p (xs ++ ys) ≡ find p ys) → cond b (Some y) (find p (xs ++ ys)) ≡ find p ys
    go true f i = absurd (none-some y (sym f))
    go false f i = i f

-- after `attach` of a clause that was added
pub takes_more : (taken : List Taken) (held : List Held) (h : Held) → HasTakenOver taken held → is_taken taken h.id ≡ false → HasTakenOver (taken ++ taken_as h ∷ []) (held ++ h ∷ [])
takes_more taken held h k n id live = go (clause_at held id) refl
  where
    same : (b : Bool) → option_map (λ (t : Taken). t.lits) (cond b (Some (taken_as h)) None) ≡ option_map (λ (g : Held). g.lits) (cond b (Some h) None)
    same true = refl
    same false = refl

    one_more : is_some (clause_at held id) ≡ true → (g : Held) (o : Option Taken) → clause_at held id ≡ Some g → taken_at taken id ≡ o
        → option_map (λ (t : Taken). t.lits) (taken_at (taken ++ taken_as h ∷ []) id) ≡ option_map (λ (c : Held). c.lits) (clause_at (held ++ h ∷ []) id)
    one_more l g None e f = absurd (none-some g.lits (sym (ap (option_map (λ (t : Taken). t.lits)) f) ∙ (k id l ∙ ap (option_map (λ (c : Held). c.lits)) e)))
    one_more l g (Some t) e f =
        ap (option_map (λ (u : Taken). u.lits)) (find_left (λ (u : Taken). eqb u.id.0 id) taken (taken_as h ∷ []) t f)
        ∙ (sym (ap (option_map (λ (u : Taken). u.lits)) f)
        ∙ (k id l
        ∙ (ap (option_map (λ (c : Held). c.lits)) e
        ∙ sym (ap (option_map (λ (c : Held). c.lits)) (find_left (λ (c : Held). eqb c.id id) held (h ∷ []) g e)))))

    last_one : (b : Bool) → eqb h.id id ≡ b → is_some (cond b (Some h) None) ≡ true → taken_at taken id ≡ None
    last_one true e l = none_there (taken_at taken id) (sym (ap (is_taken taken) (eqb-true h.id id e)) ∙ n)
      where
        none_there : (o : Option Taken) → is_some o ≡ false → o ≡ None
        none_there None f = refl
        none_there (Some t) f = absurd (true≢false f)
    last_one false e l = absurd (false≢true l)

    go : (o : Option Held) → clause_at held id ≡ o → option_map (λ (t : Taken). t.lits) (taken_at (taken ++ taken_as h ∷ []) id) ≡ option_map (λ (c : Held). c.lits) (clause_at (held ++ h ∷ []) id)
    go (Some g) e = one_more (ap is_some e) g (taken_at taken id) e refl
    go None e =
        let r : clause_at (held ++ h ∷ []) id ≡ clause_at (h ∷ []) id = find_right (λ (c : Held). eqb c.id id) held (h ∷ []) e in
        let t : taken_at taken id ≡ None = last_one (eqb h.id id) refl (sym (ap is_some r) ∙ live) in
        ap (option_map (λ (u : Taken). u.lits)) (find_right (λ (u : Taken). eqb u.id.0 id) taken (taken_as h ∷ []) t) ∙ (same (eqb h.id id) ∙ sym (ap (option_map (λ (c : Held). c.lits)) r))
