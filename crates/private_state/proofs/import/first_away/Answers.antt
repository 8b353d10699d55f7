use Rattle.std.proofs.Common.{◌≡◌, ◌∙◌, refl, sym, ap, ℕ, zero, suc, ◌<◌, Bool, true, false, cond, List, [], ◌∷◌, Some, None, Option, length, get_or, take, find, option_map, arith, add-one}
use Rattle.std.proofs.lemmas.Bool.{false≢true}
use Rattle.sat_lits.specs.declared.literal.Lit.{Lit}
use Rattle.sat_lits.specs.declared.literal.OwnLit.{OwnLit}
use Rattle.rebuild_stack.specs.Roots.{root, is_lost}
use Rattle.rebuild_stack.specs.declared.entry.Root.{Root}
use Rattle.rebuild_stack.specs.declared.entry.Root.TheVariants.{Known, Last, Lost}
use Rattle.state_laws.specs.Held.{own_outer}
use Rattle.private_state.proofs.import.first_away.Goals as goal

none_cond : {X : Type 0} (b : Bool) (x : X) (o : Option X) → cond b (Some x) o ≡ None → (b ≡ false) × (o ≡ None)
none_cond true x o e = absurd (let k : Some x ≡ None = e in let z : ⊥ = cc in z)
none_cond false x o e = (refl, e)

cond_none : {X : Type 0} (b : Bool) (x : X) (o p : Option X) → b ≡ false → o ≡ p → cond b (Some x) o ≡ p
cond_none true x o p e f = absurd (false≢true (sym e))
cond_none false x o p e f = f

cond_some : {X : Type 0} (b : Bool) (x : X) (o : Option X) → b ≡ true → cond b (Some x) o ≡ Some x
cond_some true x o e = refl
cond_some false x o e = absurd (false≢true e)

find_here : {X : Type 0} (p : X → Bool) (xs : List X) (i : ℕ) (d : X) → i < length xs → find p (take i xs) ≡ None → p (get_or xs i d) ≡ true → find p xs ≡ Some (get_or xs i d)
find_here p [] i d h e f = absurd (omega arith)
find_here p (x ∷ xs) zero d h e f = cond_some (p x) x (find p xs) f
find_here p (x ∷ xs) (suc i) d h e f = let a : (p x ≡ false) × (find p (take i xs) ≡ None) = none_cond (p x) x (find p (take i xs)) e in cond_none (p x) x (find p xs) (Some (get_or xs i d)) a.0 (find_here p xs i d (omega arith) a.1 f)

find_more : {X : Type 0} (p : X → Bool) (xs : List X) (i : ℕ) (d : X) → i < length xs → find p (take i xs) ≡ None → p (get_or xs i d) ≡ false → find p (take (suc i) xs) ≡ None
find_more p [] i d h e f = absurd (omega arith)
find_more p (x ∷ xs) zero d h e f = cond_none (p x) x None None f refl
find_more p (x ∷ xs) (suc i) d h e f = let a : (p x ≡ false) × (find p (take i xs) ≡ None) = none_cond (p x) x (find p (take i xs)) e in cond_none (p x) x (find p (take (suc i) xs)) None a.0 (find_more p xs i d (omega arith) a.1 f)

not_lost : (r : Root) → ((v : _) → r ≡ Lost v → ⊥) → is_lost r ≡ false
not_lost (Known x) h = refl
not_lost (Last l) h = refl
not_lost (Lost v) h = absurd (h v refl)

pub returns-in-Lost : goal.returns-in-Lost
returns-in-Lost c =
    let zero_lit : Lit = record { var = record { 0 = 0 }; negative = false } in
    sym (ap (option_map (λ (l : Lit). l.var))
    (find_here (λ (l : Lit). is_lost (root c.args.removed.now.entries (own_outer c.args.maps.now l))) c.args.lits.now c.loop-lit.lit-index zero_lit c.loop-lit-test.true c.loop-lit.invariant
    (ap (λ (l : OwnLit). is_lost (root c.args.removed.now.entries l)) (sym c.outer_lit.ensures) ∙ (ap is_lost (sym c.root.ensures) ∙ ap is_lost c.in-Lost.is))))

pub loop-lit-preserved : goal.loop-lit-preserved
loop-lit-preserved c =
    let zero_lit : Lit = record { var = record { 0 = 0 }; negative = false } in
    ap (λ (n : ℕ). find (λ (l : Lit). is_lost (root c.args.removed.now.entries (own_outer c.args.maps.now l))) (take n c.args.lits.now)) (add-one c.loop-lit.lit-index)
    ∙ find_more (λ (l : Lit). is_lost (root c.args.removed.now.entries (own_outer c.args.maps.now l))) c.args.lits.now c.loop-lit.lit-index zero_lit c.loop-lit-test.true c.loop-lit.invariant
    (ap (λ (l : OwnLit). is_lost (root c.args.removed.now.entries l)) (sym c.outer_lit.ensures) ∙ (ap is_lost (sym c.root.ensures) ∙ not_lost c.root.result c.in_default.not-Lost))
