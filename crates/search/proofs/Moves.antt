-- Values of literals on a trail.
use Rattle.std.proofs.Common.{◌≡◌, Bool, true, false, not, cond, List, [], ◌∷◌, Option, Some, None, Result, Ok, Err, refl, sym, ap, ◌∙◌}
use Rattle.std.specs.Option.{unwrap_or, is_some, option_map, option_copied}
use Rattle.std.proofs.lemmas.Option.{none-some, same_Some}
use Rattle.std.specs.Borrow.{Bor}
use Rattle.std.specs.Result.{OnErr}
use Rattle.std.proofs.lemmas.Bool.{and_parts, false≢true, true≢false}
use Rattle.std.specs.List.{list_all}
use Rattle.sat_lits.specs.ListLaws.{all_push}
use Rattle.sat_lits.specs.declared.literal.InLit.{InLit}
use Rattle.trail.specs.declared.trail.Step.{Step}
use Rattle.trail.specs.Trail.{shaped, true_in, false_in, unset_in, value_in, lits_of}
use Rattle.trail.specs.Laws.{lits_of-newest, value_in-none}

-- a literal whose value, false where it is unset, is true is true
pub value_true : (t : List Step) (l : InLit) → unwrap_or (value_in t l) false ≡ true → true_in t l ≡ true
value_true t l e = go (true_in t l) (false_in t l) e
  where
    go : (a b : Bool) → unwrap_or (cond a (Some true) (cond b (Some false) None)) false ≡ true → a ≡ true
    go true b h = refl
    go false true h = absurd (false≢true h)
    go false false h = absurd (false≢true h)

-- what the literals of all steps pass, those of the trail do
pub lits_all : (p : InLit → Bool) (t : List Step) → list_all (λ s. p s.lit) t ≡ true → list_all p (lits_of t) ≡ true
lits_all p [] e = refl
lits_all p (s ∷ older) e =
    let a : (p s.lit ≡ true) × (list_all (λ r. p r.lit) older ≡ true) = and_parts _ _ e in
    ap (list_all p) (lits_of-newest older s) ∙ all_push p (lits_of older) s.lit (lits_all p older a.1) a.0

-- what holds in any case holds after an error
pub on_err : {T E P : Type 0} (r : Result T E) → P → OnErr r P
on_err (Ok v) p = tt
on_err (Err e) p = p

-- what is copied out of a reference that is there
pub copied_some : (o : Option (Bor InLit)) (l d : InLit) → Some l ≡ option_copied o → (is_some o ≡ true) × (unwrap_or (option_map (λ (x : Bor InLit). x.now) o) d ≡ l)
copied_some None l d e = absurd (none-some l (sym e))
copied_some (Some x) l d e = (refl, same_Some x.now l (sym e))

none_of : (o : Option Bool) → is_some o ≡ false → o ≡ None
none_of None e = refl
none_of (Some b) e = absurd (true≢false e)

-- a literal without a value is unset
pub unset_value : (t : List Step) (l : InLit) → shaped t ≡ true → is_some (value_in t l) ≡ false → unset_in t l ≡ true
unset_value t l e h = ap not (value_in-none t l e (none_of (value_in t l) h))

-- and one with a value that is not true is false
pub false_value : (t : List Step) (l : InLit) → is_some (value_in t l) ≡ true → unwrap_or (value_in t l) false ≡ false → false_in t l ≡ true
false_value t l h e = go (true_in t l) (false_in t l) h e
  where
    go : (a b : Bool) → is_some (cond a (Some true) (cond b (Some false) None)) ≡ true → unwrap_or (cond a (Some true) (cond b (Some false) None)) false ≡ false → b ≡ true
    go true b g f = absurd (true≢false f)
    go false true g f = refl
    go false false g f = absurd (false≢true g)
