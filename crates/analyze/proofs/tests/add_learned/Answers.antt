use Rattle.std.proofs.Common.{◌≡◌, List, false, true, map, sym, subst, refl, cond, not, eqb, Bool, [], ◌∷◌, ℕ, Some}
use Rattle.std.specs.Option.{is_some}
use Rattle.std.proofs.lemmas.Bool.{not_from_false}
use Rattle.clause_store.specs.Store.{Held, held_as, is_live, clause_at}
use Rattle.propagate.specs.declared.watches.Taken.{Taken}
use Rattle.propagate.specs.Reasons.{names}
use Rattle.propagate.specs.Watching.{taken_as, taken_at, is_taken, lits_below}
use Rattle.analyze.specs.AddedLaws.{added_live, added_named, not_given_live}
use Rattle.analyze.proofs.tests.add_learned.Goals as goal

-- no clause was taken over under an id that is not live
not_taken : (held : List Held) (id : ℕ) → is_live held id ≡ false → is_taken (map taken_as held) id ≡ false
not_taken [] id e = refl
not_taken (h ∷ rest) id e = go (eqb h.id id) e (λ (f : is_live rest id ≡ false). not_taken rest id f)
  where
    go : (b : Bool) → is_some (cond b (Some h) (clause_at rest id)) ≡ false → (is_live rest id ≡ false → is_taken (map taken_as rest) id ≡ false) → is_some (cond b (Some (taken_as h)) (taken_at (map taken_as rest) id)) ≡ false
    go true f r = f
    go false f r = r f

pub attach-requires-clause-live : goal.attach-requires-clause-live
attach-requires-clause-live c = subst (λ (z : List Held). is_live z c.in_ok-id.id.0 ≡ true) (sym c.in_ok-id.ensures.held) (added_live c.args.store.now.held (held_as c.in_ok-id.id.0 true c.args.lits.now))

pub attach-requires-clause-fresh : goal.attach-requires-clause-fresh
attach-requires-clause-fresh c =
    subst (λ (z : List Taken). not (is_taken z c.in_ok-id.id.0) ≡ true) (sym c.requires.taken)
    (not_from_false _ (not_taken c.args.store.now.held c.in_ok-id.id.0 (not_given_live c.args.store.now c.in_ok-id.id.0 c.first-oldest.ensures.kept c.in_ok-id.ensures.fresh)))

pub attach-requires-clause-variables : goal.attach-requires-clause-variables
attach-requires-clause-variables c =
    subst (λ (z : List Held). names z c.in_ok-id.id (lits_below c.args.watches.now.variables) ≡ true) (sym c.in_ok-id.ensures.held)
    (added_named c.args.store.now.held (held_as c.in_ok-id.id.0 true c.args.lits.now) (lits_below c.args.watches.now.variables) (not_given_live c.args.store.now c.in_ok-id.id.0 c.first-oldest.ensures.kept c.in_ok-id.ensures.fresh) c.requires.below)
