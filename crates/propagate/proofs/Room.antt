-- Variables that are below a number: those of a unit clause and of a trail.
use Rattle.std.proofs.Common.{◌≡◌, ◌<◌, ◌≤◌, ℕ, true, ltb, ◌||◌, List, length, map, sym, subst, arith, ltb-true}
use Rattle.std.proofs.lemmas.Bool.{and_parts}
use Rattle.std.proofs.lemmas.List.{length-map, length-reverse}
use Rattle.std.specs.List.{list_any, list_all}
use Rattle.sat_lits.specs.InLits.{same_lit}
use Rattle.sat_lits.specs.ListLaws.{all_or_any}
use Rattle.sat_lits.specs.declared.literal.InLit.{InLit}
use Rattle.sat_lits.specs.declared.literal.ClauseId.{ClauseId}
use Rattle.trail.specs.declared.trail.Step.{Step}
use Rattle.trail.specs.Trail.{Assignment, IsKept, lits_of, false_in}
use Rattle.trail.specs.Laws.{steps_within, same_lit_eq}
use Rattle.clause_store.specs.Store.{Held}
use Rattle.propagate.specs.Units.{gives, unit_by}
use Rattle.propagate.specs.Reasons.{names}
use Rattle.propagate.specs.Watching.{lits_below, clauses_below, steps_below}
use Rattle.propagate.specs.Laws.{named_all, unit_named}

-- the literal that a clause is unit by has a variable of that clause
pub unit_below : (n : ℕ) (held : List Held) (t : List Step) (l : InLit) (id : ClauseId) → clauses_below n held ≡ true → names held id (unit_by t l) ≡ true → ltb l.var.0 n ≡ true
unit_below n held t l id a e =
    named_all (λ (h : Held). lits_below n h.lits) (gives t l) held id (ltb l.var.0 n ≡ true) (unit_named held t l id e).1 a
    (λ h b g.
    let p : (list_any (same_lit l) h.lits ≡ true) × (list_all (λ m. same_lit l m || false_in t m) h.lits ≡ true) = and_parts _ _ g in
    all_or_any (λ (m : InLit). ltb m.var.0 n) (same_lit l) (ltb l.var.0 n ≡ true) h.lits b p.0 (λ m y z. subst (λ (k : InLit). ltb k.var.0 n ≡ true) (sym (same_lit_eq l m z)) y))

-- its variable is reserved
pub unit_reserved : (n : ℕ) (held : List Held) (t : List Step) (l : InLit) (id : ClauseId) → clauses_below n held ≡ true → names held id (unit_by t l) ≡ true → l.var.0 < n
unit_reserved n held t l id a e = ltb-true _ _ (unit_below n held t l id a e)

-- there is room for every literal of a trail
pub lits_within : (trail : Assignment) (n : ℕ) → IsKept trail → steps_below n trail.steps ≡ true → length (lits_of trail.steps) ≤ n
lits_within trail n k b =
    let l : length trail.steps ≤ n = steps_within trail.steps n k.sound b in
    omega (arith, l, length-reverse (map (λ (s : Step). s.lit) trail.steps), length-map trail.steps (λ (s : Step). s.lit))
