-- Facts on assignments, and on the clauses that follow from a formula.
use Rattle.std.proofs.Common.{◌≡◌, ℕ, ◌+◌, ◌≤◌, ◌%◌, Bool, true, false, not, cond, ◌&&◌, ◌==◌, List, [], ◌∷◌, ◌++◌, length, filter, take, get_or, nat_lt, refl, sym, ap, ap₂, ◌∙◌, arith}
use Rattle.std.specs.Bool.{beq}
use Rattle.std.specs.List.{list_all, count_by}
use Rattle.std.proofs.lemmas.Bool.{and_parts, and_from, ltb-true, not-true, eqb-true}
use Rattle.std.proofs.lemmas.List.{get_or-take, length-take-le, append_assoc, append-nil}
use Rattle.std.proofs.lemmas.List.Folds.{list_all-append, list_all-map}
use Rattle.std.proofs.lemmas.List.Sums.{sum_by-cons}
use Rattle.sat_lits.specs.ListLaws.{both_all}
use Rattle.sat_lits.specs.ClauseLaws.{clause_value_agree, resolvent_value}
use Rattle.sat_lits.specs.Truth.{signed}
use Rattle.sat_lits.specs.Meaning.{Problem, IsModel, Follows, value_of, is_true, satisfies}
use Rattle.sat_lits.specs.Formulas.{Extends, names_known, with_vars, with_item}
use Rattle.sat_lits.specs.declared.literal.Lit.{Lit}
use Rattle.sat_lits.specs.declared.literal.Var.{Var}
use Rattle.sat_lits.specs.declared.formula.Item.{Item}
use Rattle.sat_lits.specs.declared.formula.Item.TheVariants.{Clause, Parity}

-- a formula extends itself
pub Extends_itself : (f : Problem) → Extends f f
Extends_itself f = record { vars = omega arith; more = []; items = sym (append-nil f.items) }

-- what extends an extension extends the first formula
pub Extends_through : (a b c : Problem) → Extends a b → Extends b c → Extends a c
Extends_through a b c g h =
    record {
      vars = omega (arith, g.vars, h.vars);
      more = g.more ++ h.more;
      items = h.items ∙ (ap (λ items. items ++ h.more) g.items ∙ append_assoc a.items g.more h.more);
    }

-- a formula with more variables extends it
pub with_vars-Extends : (more : ℕ) (f : Problem) → Extends f (with_vars more f)
with_vars-Extends more f = record { vars = omega arith; more = []; items = sym (append-nil f.items) }

-- and so does one with one item more
pub with_item-Extends : (item : Item) (f : Problem) → Extends f (with_item item f)
with_item-Extends item f = record { vars = omega arith; more = item ∷ []; items = refl }

-- an assignment and its front have one value at each variable of the front
pub front_value : (values : List Bool) (vars : ℕ) (v : Var) → nat_lt v.0 vars ≡ true → value_of (take vars values) v ≡ value_of values v
front_value values vars v e = get_or-take vars values v.0 false (ltb-true v.0 vars e)

-- two tests that agree at each variable of a list count alike
count_agree : (stands p q : Var → Bool) → ((v : Var) → stands v ≡ true → p v ≡ q v) → (vars : List Var) → list_all stands vars ≡ true → count_by p vars ≡ count_by q vars
count_agree stands p q h [] e = refl
count_agree stands p q h (v ∷ vs) e =
    let a : (stands v ≡ true) × (list_all stands vs ≡ true) = and_parts _ _ e in
    sum_by-cons (λ x. cond (p x) 1 0) v vs
    ∙ (ap₂ ◌+◌ (ap (λ b. cond {A = ℕ} b 1 0) (h v a.0)) (count_agree stands p q h vs a.1) ∙ sym (sum_by-cons (λ x. cond (q x) 1 0) v vs))

module _ (a b : List Bool) (vars : ℕ) (same : (v : Var) → nat_lt v.0 vars ≡ true → value_of a v ≡ value_of b v) where
  -- two assignments that agree on the first variables agree on an item that names no others
  pub satisfies_agree : (item : Item) → names_known vars item ≡ true → satisfies a item ≡ satisfies b item
  satisfies_agree (Clause lits) e =
      clause_value_agree (λ l. nat_lt l.var.0 vars) (is_true a) (is_true b) (λ l h. ap (signed l.negative) (same l.var h)) lits
      (sym (list_all-map (λ n. nat_lt n vars) (λ l. l.var.0) lits) ∙ e)
  satisfies_agree (Parity vs rhs) e =
      ap (λ n. beq (n % 2 == 1) rhs)
      (count_agree (λ v. nat_lt v.0 vars) (value_of a) (value_of b) same vs (sym (list_all-map (λ n. nat_lt n vars) (λ v. v.0) vs) ∙ e))

-- the front of a model of an extension is a model of the formula, whose items name its own variables alone
pub front_IsModel : (old new : Problem) → list_all (names_known old.vars) old.items ≡ true → Extends old new → (values : List Bool) → IsModel new values → IsModel old (take old.vars values)
front_IsModel old new known ext values m =
    record {
      whole = let k : old.vars ≤ length values = omega (arith, m.whole, ext.vars) in length-take-le old.vars values k;
      holds = both_all (names_known old.vars) (satisfies values) (satisfies (take old.vars values))
          (λ item k h. satisfies_agree (take old.vars values) values old.vars (front_value values old.vars) item k ∙ h) old.items known (first (sym (ap (list_all (satisfies values)) ext.items) ∙ m.holds));
    }
  where
    first : list_all (satisfies values) (old.items ++ ext.more) ≡ true → list_all (satisfies values) old.items ≡ true
    first e = (and_parts (list_all (satisfies values) old.items) (list_all (satisfies values) ext.more) (sym (list_all-append (satisfies values) old.items ext.more) ∙ e)).0

-- a clause of the formula's variables that follows from it follows from each extension
pub Follows_more : (old new : Problem) (lits : List Lit) → list_all (names_known old.vars) old.items ≡ true → Extends old new → names_known old.vars (Clause lits) ≡ true → Follows old lits → Follows new lits
Follows_more old new lits known ext there follows values m =
    sym (satisfies_agree (take old.vars values) values old.vars (front_value values old.vars) (Clause lits) there)
    ∙ follows (take old.vars values) (front_IsModel old new known ext values m)

-- a clause that follows from a formula follows when items are added
pub Follows_items : (f : Problem) (more : List Item) (lits : List Lit) → Follows f lits → Follows (record { vars = f.vars; items = f.items ++ more }) lits
Follows_items f more lits follows values m =
    follows values
    (record { whole = m.whole; holds = (and_parts (list_all (satisfies values) f.items) (list_all (satisfies values) more) (sym (list_all-append (satisfies values) f.items more) ∙ m.holds)).0 })

-- what follows with items added that every model satisfies follows from the formula alone
pub Follows_through : (f : Problem) (more : List Item) (lits : List Lit) → ((values : List Bool) → IsModel f values → list_all (satisfies values) more ≡ true)
    → Follows (record { vars = f.vars; items = f.items ++ more }) lits → Follows f lits
Follows_through f more lits all follows values m =
    follows values (record { whole = m.whole; holds = list_all-append (satisfies values) f.items more ∙ and_from _ _ m.holds (all values m) })

-- what follows from a formula and a clause that follows from it follows from the formula
pub Follows_cut : (f : Problem) (c d : List Lit) → Follows f c → Follows (with_item (Clause c) f) d → Follows f d
Follows_cut f c d first second = Follows_through f (Clause c ∷ []) d (λ values m. and_from _ _ (first values m) refl) second

-- the resolvent of two clauses on a variable follows from what they follow from
pub Follows_resolvent : (f : Problem) (var : ℕ) (c d : List Lit) → Follows f c → Follows f d
    → Follows f (filter (λ l. not (l.var.0 == var && not l.negative)) c ++ filter (λ l. not (l.var.0 == var && l.negative)) d)
Follows_resolvent f var c d first second values m =
    resolvent_value (is_true values) (λ l. l.var.0 == var && not l.negative) (λ l. l.var.0 == var && l.negative) (get_or values var false)
    (λ l h. let a : ((l.var.0 == var) ≡ true) × (not l.negative ≡ true) = and_parts _ _ h in
    ap₂ signed (not-true l.negative a.1) (ap (λ n. get_or values n false) (eqb-true l.var.0 var a.0)))
    (λ l h. let a : ((l.var.0 == var) ≡ true) × (l.negative ≡ true) = and_parts _ _ h in
    ap₂ signed a.1 (ap (λ n. get_or values n false) (eqb-true l.var.0 var a.0)))
    c d (first values m) (second values m)
