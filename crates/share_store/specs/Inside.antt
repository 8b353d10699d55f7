-- What the fields of a store keep.
use Rattle.std.specs.Prelude.{◌≡◌, Bool, List}
use Rattle.std.specs.declared.cmp.Ordering.{Ordering}
use Rattle.std.specs.Ordering.{nat_cmp, bool_cmp, ordering_then, is_eq}
use Rattle.std.specs.Cmp.Lexicographic.{slice_cmp}
use Rattle.std.specs.List.{list_any}
use Rattle.sat_lits.specs.declared.literal.Lit.{Lit}
use Rattle.share_store.specs.declared.store.Store.TheInside.{Inside}
use Rattle.share_store.specs.Log.{IsKept}

-- the order of literals: by variable, then the positive one first
abbrev pub lit_cmp : Lit → Lit → Ordering
lit_cmp l m = ordering_then (nat_cmp l.var.0 m.var.0) (bool_cmp l.negative m.negative)

-- whether two clauses have the same literals in order
abbrev pub is_same : List Lit → List Lit → Bool
is_same c d = is_eq (slice_cmp lit_cmp c d)

-- the set of clauses has exactly those of the log
pub record IsIndexed (store : Inside) : Type 0 where
  pub indexed : (clause : List Lit) → list_any (λ c. is_same clause c.items) store.clauses.keys ≡ list_any (λ e. is_same clause e.clause) store.log.items
  pub kept : IsKept store.log.items
