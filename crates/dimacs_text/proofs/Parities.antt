-- The right side of a parity, literal by literal.
use Rattle.std.proofs.Common.{◌≡◌, ℕ, ◌+◌, ◌<◌, Bool, true, false, not, List, [], ◌∷◌, ◌++◌, length, map, take, get_or, refl, ◌∙◌, ap}
use Rattle.std.proofs.lemmas.List.{take_more, map-append}
use Rattle.sat_lits.specs.declared.literal.Lit.{Lit}
use Rattle.dimacs_text.specs.Lists.{right_side}

-- a literal flips the right side where it is negative
abbrev pub flipped : Bool → Bool → Bool
flipped negative rhs = elim negative [ true ↦ not rhs | false ↦ rhs ]

-- flips come in any order
flips : (a b rhs : Bool) → flipped a (flipped b rhs) ≡ flipped b (flipped a rhs)
flips true true rhs = refl
flips true false rhs = refl
flips false true rhs = refl
flips false false rhs = refl

-- one literal more
pub right_side-push : (lits : List Lit) (lit : Lit) → right_side (lits ++ lit ∷ []) ≡ flipped lit.negative (right_side lits)
right_side-push [] lit = refl
right_side-push (l ∷ lits) lit = ap (flipped l.negative) (right_side-push lits lit) ∙ flips l.negative lit.negative (right_side lits)

-- the loop over literals takes the one at its place i
pub right_side-more : (lits : List Lit) (i : ℕ) (d : Lit) → i < length lits → right_side (take (i + 1) lits) ≡ flipped (get_or lits i d).negative (right_side (take i lits))
right_side-more lits i d l = ap right_side (take_more lits i d l) ∙ right_side-push (take i lits) (get_or lits i d)

-- the variables of one literal more
pub vars-more : (lits : List Lit) (i : ℕ) (d : Lit) → i < length lits → map (λ (x : Lit). x.var) (take (i + 1) lits) ≡ map (λ (x : Lit). x.var) (take i lits) ++ (get_or lits i d).var ∷ []
vars-more lits i d l = ap (map (λ (x : Lit). x.var)) (take_more lits i d l) ∙ map-append (λ (x : Lit). x.var) (take i lits) (get_or lits i d ∷ [])

-- a literal with a minus flips the right side
pub right_side-flip : (lits : List Lit) (i : ℕ) (d : Lit) → i < length lits → (get_or lits i d).negative ≡ true → right_side (take (i + 1) lits) ≡ not (right_side (take i lits))
right_side-flip lits i d l h = right_side-more lits i d l ∙ ap (λ n. flipped n (right_side (take i lits))) h

-- one without a minus keeps it
pub right_side-keep : (lits : List Lit) (i : ℕ) (d : Lit) → i < length lits → (get_or lits i d).negative ≡ false → right_side (take (i + 1) lits) ≡ right_side (take i lits)
right_side-keep lits i d l h = right_side-more lits i d l ∙ ap (λ n. flipped n (right_side (take i lits))) h
