-- Facts on a clause that was added to a store, that every crate above may cite.
use Rattle.std.proofs.Common.{◌≡◌, ◌<◌, ◌≤◌, ℕ, Bool, true, false, cond, eqb, ltb, List, [], ◌∷◌, ◌++◌, Some, refl, arith, eq-eqb, ltb-true}
use Rattle.std.specs.Option.{is_some}
use Rattle.std.specs.List.{list_all}
use Rattle.std.proofs.lemmas.Bool.{and_parts, eqb-true, true≢false}
use Rattle.sat_lits.specs.declared.literal.InLit.{InLit}
use Rattle.clause_store.specs.Store.{Held, Store, IsKept, clause_at, is_live}
use Rattle.propagate.specs.Reasons.{names, passes}

-- its id is live
pub added_live : (held : List Held) (h : Held) → is_live (held ++ h ∷ []) h.id ≡ true
added_live [] h = rw (eq-eqb h.id h.id refl) refl
added_live (g ∷ rest) h = go (eqb g.id h.id) (added_live rest h)
  where
    go : (b : Bool) → is_live (rest ++ h ∷ []) h.id ≡ true → is_some (cond b (Some g) (clause_at (rest ++ h ∷ []) h.id)) ≡ true
    go true e = refl
    go false e = e

-- no id that was not given before is
pub not_given_live : (store : Store) (id : ℕ) → IsKept store → store.given ≤ id → is_live store.held id ≡ false
not_given_live store id k l = go store.held k.below
  where
    go : (held : List Held) → list_all (λ h. ltb h.id store.given) held ≡ true → is_live held id ≡ false
    go [] e = refl
    go (h ∷ rest) e =
        let p : (ltb h.id store.given ≡ true) × (list_all (λ g. ltb g.id store.given) rest ≡ true) = and_parts _ _ e in
        here (eqb h.id id) refl (ltb-true _ _ p.0) (go rest p.1)
      where
        here : (b : Bool) → eqb h.id id ≡ b → h.id < store.given → is_live rest id ≡ false → is_some (cond b (Some h) (clause_at rest id)) ≡ false
        here true f m r = absurd (let q : h.id ≡ id = eqb-true _ _ f in omega arith)
        here false f m r = r

-- a new id names the clause that was added
pub added_named : (held : List Held) (h : Held) (test : List InLit → Bool) → is_live held h.id ≡ false → test h.lits ≡ true → names (held ++ h ∷ []) (record { 0 = h.id }) test ≡ true
added_named [] h test d e = rw (eq-eqb h.id h.id refl) e
added_named (g ∷ rest) h test d e = go (eqb g.id h.id) d (λ (f : is_live rest h.id ≡ false). added_named rest h test f e)
  where
    go : (b : Bool) → is_some (cond b (Some g) (clause_at rest h.id)) ≡ false → (is_live rest h.id ≡ false → names (rest ++ h ∷ []) (record { 0 = h.id }) test ≡ true) → passes test (cond b (Some g) (clause_at (rest ++ h ∷ []) h.id)) ≡ true
    go true f r = absurd (true≢false f)
    go false f r = r f
