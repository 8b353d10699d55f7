-- Facts on held clauses that every crate above may cite.
use Rattle.std.proofs.Common.{◌≡◌, ℕ, nat_lt, ltb-true, append-nil, ◌==◌, ◌+◌, ◌-◌, ◌<◌, ◌≤◌, suc, Option, Some, None, Bool, true, false, cond, not, List, [], ◌∷◌, ◌++◌, length, map, filter, option_to_list, refl, sym, ap, ◌∙◌, arith, length-append}
use Rattle.std.proofs.lemmas.Bool.{false≢true}
use Rattle.std.proofs.lemmas.List.Elements.{filter-append}
use Rattle.std.specs.Option.{is_some}
use Rattle.sat_lits.specs.declared.literal.InLit.{InLit}
use Rattle.sat_lits.specs.declared.literal.ClauseId.{ClauseId}
use Rattle.clause_store.specs.Store.{Held, clause_at, is_live, before, contents, hard_of, learned_of}

-- the literals of the clauses that pass a test of their list
picked : (Bool → Bool) → List (Bool × List InLit) → List (List InLit)
picked test clauses = map (λ c. c.1) (filter (λ c. test c.0) clauses)

picked-contents : (test : Bool → Bool) (held : List Held) → map (λ h. h.lits) (filter (λ h. test h.learned) held) ≡ picked test (contents held)
unfolding picked
picked-contents test [] = refl
picked-contents test (h ∷ rest) = go (test h.learned) (picked-contents test rest)
  where
    go : (b : Bool) → map (λ k. k.lits) (filter (λ k. test k.learned) rest) ≡ picked test (contents rest)
        → map (λ k. k.lits) (cond b (h ∷ filter (λ k. test k.learned) rest) (filter (λ k. test k.learned) rest)) ≡ map (λ c. c.1) (cond b ((h.learned, h.lits) ∷ filter (λ c. test c.0) (contents rest)) (filter (λ c. test c.0) (contents rest)))
    go true e = ap (λ (z : List (List InLit)). h.lits ∷ z) e
    go false e = e

-- clauses that are the same, whatever their ids, have the same hard ones
pub hard_of-contents : (xs ys : List Held) → contents xs ≡ contents ys → hard_of xs ≡ hard_of ys
hard_of-contents xs ys e = picked-contents not xs ∙ (ap (picked not) e ∙ sym (picked-contents not ys))

-- and the same learned ones
pub learned_of-contents : (xs ys : List Held) → contents xs ≡ contents ys → learned_of xs ≡ learned_of ys
learned_of-contents xs ys e = picked-contents (λ b. b) xs ∙ (ap (picked (λ b. b)) e ∙ sym (picked-contents (λ b. b) ys))

-- where a walk has come to its end, all clauses stand before it
pub before-none : (held : List Held) → before held None ≡ held
before-none [] = refl
before-none (h ∷ rest) = refl

-- no more clauses stand before a place than there are
before_short : (held : List Held) (at : Option ClauseId) → length (before held at) ≤ length held
before_short [] at = omega arith
before_short (h ∷ held) None = omega arith
before_short (h ∷ held) (Some id) = go (h.id == id.0) (before_short held (Some id))
  where
    go : (b : Bool) → length (before held (Some id)) ≤ length held → length (cond b [] (h ∷ before held (Some id))) ≤ suc (length held)
    go true l = omega arith
    go false l = omega arith

-- a walk over the held clauses has fewer of them left after each step
pub shorter : (held : List Held) (at : Option ClauseId) (id : ClauseId) (next : Option ClauseId) → at ≡ Some id → is_live held id.0 ≡ true
    → before held next ≡ before held (Some id) ++ option_to_list (clause_at held id.0)
    → length held - length (before held next) < length held - length (before held at)
shorter held at id next e l s =
    let a : length (before held next) ≡ length (before held (Some id)) + 1 = ap length s ∙ (length-append (before held (Some id)) (option_to_list (clause_at held id.0)) ∙ ap (λ n. length (before held (Some id)) + n) (one (clause_at held id.0) l)) in
    let b : length (before held at) ≡ length (before held (Some id)) = ap (λ z. length (before held z)) e in
    let d : length (before held next) ≤ length held = before_short held next in
    omega arith
  where
    one : (found : Option Held) → is_some found ≡ true → length (option_to_list found) ≡ 1
    one None f = absurd (false≢true f)
    one (Some h) f = refl

-- a clause whose id is not below the mark is not marked
pub marked_more : (held : List Held) (mark : ℕ) (new : Held) → mark ≤ new.id → filter (λ clause. nat_lt clause.id mark) (held ++ new ∷ []) ≡ filter (λ clause. nat_lt clause.id mark) held
marked_more held mark new h = filter-append (λ (clause : Held). nat_lt clause.id mark) held (new ∷ []) ∙ go (nat_lt new.id mark) refl
  where
    go : (b : Bool) → nat_lt new.id mark ≡ b → filter (λ (clause : Held). nat_lt clause.id mark) held ++ cond b (new ∷ []) [] ≡ filter (λ (clause : Held). nat_lt clause.id mark) held
    go true e = let l : new.id < mark = ltb-true _ _ e in absurd (omega (arith, h, l))
    go false e = append-nil (filter (λ (clause : Held). nat_lt clause.id mark) held)
