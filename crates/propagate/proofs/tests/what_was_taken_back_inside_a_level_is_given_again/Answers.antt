use Rattle.std.proofs.Common.{◌≡◌, ◌∙◌, List, [], ◌∷◌, ◌++◌, take, map, reverse, refl, sym, ap, subst}
use Rattle.std.proofs.Math.Seq.{take-length}
use Rattle.std.proofs.lemmas.List.{map-append, reverse-append}
use Rattle.sat_lits.specs.declared.literal.InLit.{InLit}
use Rattle.trail.specs.declared.trail.Step.{Step}
use Rattle.trail.specs.Trail.{Assignment, lits_of}
use Rattle.clause_store.specs.Store.{Held}
use Rattle.propagate.specs.declared.watches.Found.{Found}
use Rattle.propagate.specs.declared.watches.Found.TheVariants.{Quiet, Conflict}
use Rattle.propagate.specs.Reasons.{Extends}
use Rattle.propagate.specs.Watching.{Watching, IsDone, IsFront}
use Rattle.propagate.proofs.tests.what_was_taken_back_inside_a_level_is_given_again.Goals as goal

done_front : (done lits : List InLit) (found : Found) → IsDone done lits found → IsFront done lits
done_front done lits Quiet e = subst (λ (xs : List InLit). IsFront xs lits) (sym e) (take-length lits)
done_front done lits (Conflict id) e = e

-- the first literal that is done with is the first of the trail, so of any trail that begins with it
front_one : (done lits more : List InLit) (l : InLit) → IsFront done (l ∷ lits) → IsFront (take 1 done) (l ∷ more)
front_one [] lits more l f = refl
front_one (d ∷ done) lits more l f = ap (take 1) f

-- the literals of a trail that goes on
lits_on : (held : List Held) (from to : List Step) (x : Extends held from to) → lits_of to ≡ lits_of from ++ lits_of x.newer
lits_on held from to x =
    ap lits_of x.parts
    ∙ (ap (reverse {A = InLit}) (map-append (λ (s : Step). s.lit) x.newer from) ∙ reverse-append (map (λ (s : Step). s.lit) x.newer) (map (λ (s : Step). s.lit) from))

-- the literals of one step, and of two
lits_one : (s : Step) (older all : List Step) → all ≡ s ∷ older → older ≡ [] → lits_of all ≡ s.lit ∷ []
lits_one s older all e f = ap lits_of e ∙ ap (λ (z : List Step). lits_of (s ∷ z)) f

lits_two : (s r : Step) (older mid all : List Step) → all ≡ s ∷ mid → mid ≡ r ∷ older → older ≡ [] → lits_of all ≡ r.lit ∷ s.lit ∷ []
lits_two s r older mid all e f g = ap lits_of e ∙ (ap (λ (z : List Step). lits_of (s ∷ z)) f ∙ ap (λ (z : List Step). lits_of (s ∷ (r ∷ z))) g)

pub propagate-requires-2-clause-done : goal.propagate-requires-2-clause-done
propagate-requires-2-clause-done g c =
    let none : c.reserve.new.self.steps ≡ [] = ap (λ (a : Assignment). a.steps) c.in_ok-reserve.ensures.ok ∙ ap (λ (a : Assignment). a.steps) c.new-before.ensures in
    let first = lits_one _ _ _ (ap (λ (a : Assignment). a.steps) c.decide.ensures) none in
    let whole = lits_on _ _ _ c.propagate.ensures.extends ∙ ap (λ (ls : List InLit). ls ++ lits_of c.propagate.ensures.extends.newer) first in
    let front = done_front _ _ c.propagate.result c.propagate.ensures.done in
    let none-2 : c.reserve-2.new.self.steps ≡ [] = ap (λ (a : Assignment). a.steps) c.in_ok-reserve-2.ensures.ok ∙ ap (λ (a : Assignment). a.steps) c.new-after.ensures in
    let both = lits_two _ _ _ _ _ (ap (λ (a : Assignment). a.steps) c.decide-3.ensures) (ap (λ (a : Assignment). a.steps) c.decide-2.ensures) none-2 in
    subst (λ (ls : List InLit). IsFront c.rewind.new.self.done ls) (sym both)
    (subst (λ (w : Watching). IsFront w.done _) (sym c.rewind.ensures)
    (front_one c.propagate.new.self.done _ _ _ (subst (λ (ls : List InLit). IsFront c.propagate.new.self.done ls) whole front)))
