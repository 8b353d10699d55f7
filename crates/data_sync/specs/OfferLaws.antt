-- What offering a clause does to a log.
use Rattle.std.proofs.Common.{◌≡◌, ◌⊎◌, inl, inr, ℕ, List, [], ◌∷◌, ◌++◌, ◌+◌, refl, sym, subst, ⊎_elim}
use Rattle.std.proofs.lemmas.List.Quantifiers.{Any-push}
use Rattle.sat_lits.specs.declared.literal.Lit.{Lit}
use Rattle.sat_lits.specs.declared.shared.Shared.{Shared}
use Rattle.share_store.specs.Log.{HasClause, LacksClause, entry_of}
use Rattle.share_store.specs.declared.store.Offer.{Offer}
use Rattle.share_store.specs.declared.store.Offer.TheVariants.{Added, Known}
use Rattle.data_sync.specs.Giving.{Gives}
use Rattle.data_sync.specs.GivingLaws.{has_longer}

-- a log that got a clause has what it had
pub gives_has : (old new : List Shared) (solver after : ℕ) (c d : List Lit) → Gives old new solver after c → HasClause old d → HasClause new d
gives_has old new solver after c d g h =
    ⊎_elim
    (λ (e : new ≡ old). subst (λ (z : List Shared). HasClause z d) (sym e) h)
    (λ (e : _ × (new ≡ old ++ entry_of solver after c ∷ [])). subst (λ (z : List Shared). HasClause z d) (sym e.1) (has_longer old (entry_of solver after c ∷ []) d h))
    g

has_last : (log : List Shared) (e : Shared) → HasClause (log ++ e ∷ []) e.clause
has_last log e = Any-push (λ (x : Shared). x.clause ≡ e.clause) log e refl

-- the log has a clause that was offered
pub offer_has : (o : Offer) (old new : List Shared) (solver after : ℕ) (c : List Lit) → (o ≡ Known → new ≡ old) → (o ≡ Known → HasClause old c)
    → (o ≡ Added → new ≡ old ++ entry_of solver after c ∷ []) → HasClause new c
offer_has Known old new solver after c u k a = subst (λ (z : List Shared). HasClause z c) (sym (u refl)) (k refl)
offer_has Added old new solver after c u k a = subst (λ (z : List Shared). HasClause z c) (sym (a refl)) (has_last old (entry_of solver after c))

-- and stayed or got it
pub offer_gives : (o : Offer) (old new : List Shared) (solver after : ℕ) (c : List Lit) → (o ≡ Known → new ≡ old) → (o ≡ Added → LacksClause old c)
    → (o ≡ Added → new ≡ old ++ entry_of solver after c ∷ []) → Gives old new solver after c
offer_gives Known old new solver after c u l a = inl (u refl)
offer_gives Added old new solver after c u l a = inr (l refl, a refl)
