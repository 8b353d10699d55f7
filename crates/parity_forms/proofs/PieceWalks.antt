-- Walks over the pieces of a parity.
use Rattle.std.proofs.Common.{◌≡◌, ℕ, ◌+◌, List, [], ◌∷◌, ◌++◌, Option, Some, None, map, take, refl, sym, ap, ◌∙◌, append-nil, option_to_list}
use Rattle.std.proofs.lemmas.List.{map-append}
use Rattle.std.proofs.lemmas.List.Elements.{filter_map-append}
use Rattle.std.proofs.lemmas.List.Concat.{flat_map-append}
use Rattle.std.proofs.lemmas.Option.{slice_get_within}
use Rattle.std.specs.List.{slice_get, cons_option}
use Rattle.xor_cut.specs.declared.piece.Piece.{Piece}
use Rattle.state_laws.specs.declared.definition.Definition.{Definition}
use Rattle.state_laws.specs.Held.{InClause}
use Rattle.var_maps.specs.Maps.{Maps}
use Rattle.removed_vars.specs.Fresh.{hard_in}
use Rattle.parity_forms.specs.Parities.{piece_definition, definitions_of}
use Rattle.parity_forms.specs.InMaps.{stored_forms, all_stored_forms}
use Rattle.removed_vars.specs.CollectLaws.{taken_at, got}

-- the front of a list with the element that is found
pub taken_get : {X : Type 0} (xs : List X) (i : ℕ) (x : X) → slice_get xs i ≡ Some x → take (i + 1) xs ≡ take i xs ++ x ∷ []
taken_get xs i x e = taken_at xs i x (slice_get_within xs i x e) ∙ ap (λ z. take i xs ++ z ∷ []) (got xs i x x e)

-- the clauses of one piece more are added
pub forms_more : (m : Maps) (ps : List Piece) (i : ℕ) (p : Piece) (old new : List InClause) → slice_get ps i ≡ Some p → new ≡ old ++ map hard_in (stored_forms m p) → old ≡ map hard_in (all_stored_forms m (take i ps)) → new ≡ map hard_in (all_stored_forms m (take (i + 1) ps))
forms_more m ps i p old new e n o =
    n ∙ (ap (λ z. z ++ map hard_in (stored_forms m p)) o
    ∙ (sym (map-append hard_in (all_stored_forms m (take i ps)) (stored_forms m p))
    ∙ ap (map hard_in) (ap (λ z. all_stored_forms m (take i ps) ++ z) (sym (append-nil (stored_forms m p))) ∙ (sym (flat_map-append (stored_forms m) (take i ps) (p ∷ [])) ∙ ap (all_stored_forms m) (sym (taken_get ps i p e))))))

-- the definition of its fresh variable, if it has one
pub definitions_more : (ps : List Piece) (i : ℕ) (p : Piece) (old new : List Definition) → slice_get ps i ≡ Some p → new ≡ old ++ option_to_list (piece_definition p) → old ≡ definitions_of (take i ps) → new ≡ definitions_of (take (i + 1) ps)
definitions_more ps i p old new e n o =
    n ∙ (ap (λ z. z ++ option_to_list (piece_definition p)) o
    ∙ (ap (λ z. definitions_of (take i ps) ++ z) (last (piece_definition p)) ∙ (sym (filter_map-append piece_definition (take i ps) (p ∷ [])) ∙ ap definitions_of (sym (taken_get ps i p e)))))
  where
    last : (o : Option Definition) → option_to_list o ≡ cons_option o []
    last None = refl
    last (Some x) = refl
