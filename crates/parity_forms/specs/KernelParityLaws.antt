-- A kernel takes a parity.
use Rattle.std.proofs.Common.{◌≡◌, ℕ, ◌+◌, ◌≤◌, ◌^◌, Bool, true, false, nat_lt, nat_le, ◌&&◌, List, ◌++◌, Option, Some, is_some, length, map, refl, sym, ap, ap₂, subst, ◌∙◌, arith}
use Rattle.std.proofs.Math.Path.{fun_ext}
use Rattle.std.proofs.lemmas.Bool.{and_from, or_left, or_right, le-leb, lt-ltb}
use Rattle.std.proofs.lemmas.List.{length-map, length-append}
use Rattle.std.proofs.lemmas.List.Folds.{list_all-map}
use Rattle.std.specs.List.{list_all}
use Rattle.sat_lits.specs.ListLaws.{all_mono}
use Rattle.sat_lits.specs.Conflicts.{odd_vars, cuts_of_count}
use Rattle.sat_lits.specs.declared.literal.Var.{Var}
use Rattle.sat_lits.specs.declared.literal.Own.{Own}
use Rattle.sat_lits.specs.declared.literal.OwnLit.{OwnLit}
use Rattle.sat_lits.specs.declared.literal.InLit.{InLit}
use Rattle.sat_lits.specs.declared.formula.Item.{Item}
use Rattle.clause_store.specs.Store.{Store}
use Rattle.rebuild_stack.specs.Roots.{root}
use Rattle.rebuild_stack.specs.declared.entry.Root.{Root}
use Rattle.var_maps.specs.Maps.{Maps, Matched, inner_at, plain}
use Rattle.xor_cut.specs.Pieces.{are_different, own_vars, pieces}
use Rattle.xor_cut.specs.CutLaws.{different-pieces_by}
use Rattle.xor_cut.specs.declared.piece.Piece.{Piece}
use Rattle.state_laws.specs.State.{is_active, outers_from}
use Rattle.state_laws.specs.Kernel.{Kernel, state_of, Standing, plain_kernel}
use Rattle.state_laws.specs.Held.{own_clause, in_own, hard_clause, ExtendsBy}
use Rattle.state_laws.specs.declared.definition.Definition.{Definition}
use Rattle.state_laws.specs.KernelTakeLaws.{own_outer_lit, outers_len}
use Rattle.state_laws.specs.ViewLaws.{get_is_some}
use Rattle.parity_forms.specs.Parities.{parity_roots, left_vars, left_rhs, parity_pieces, definitions_of, clauses_of, ParityTakable}
use Rattle.parity_forms.specs.InMaps.{outer_root, may_be_named, all_stored_forms, HasPrivates}
use Rattle.parity_forms.specs.MadeOf.{Tables, IsMade, IsUnmade}
use Rattle.removed_vars.specs.Removed.{Removed}
use Rattle.removed_vars.specs.Fresh.{in_clauses, hard_in, are_distinct}
use Rattle.removed_vars.specs.declared.changes.Fresh.{Fresh}
use Rattle.parity_forms.specs.declared.made.Made.{Made}
use Rattle.parity_forms.specs.KernelMadeLaws.{HasMade}
use Rattle.parity_forms.specs.ParityRootLaws.{few_cuts}
use Rattle.parity_forms.specs.PieceLaws.{active_below, left_active, left_different}
use Rattle.parity_forms.specs.StoredLaws.{is_named, named_may, pieces_pass, pieces_clean, length-definitions_of, stored_distinct, all_stored_own, hard_own}

-- as many variables are in the maps as have definitions
pub inners_len : (k : Kernel) → Standing k → length k.maps.inners ≡ length k.definitions
inners_len k h = sym (length-map k.maps.inners is_some) ∙ h.stands.places.lengths

-- the maps give what the outer variables come to
pub same_roots : (k : Kernel) → Standing k → (vars : List Var) → map (outer_root k.maps k.stack) (odd_vars vars) ≡ parity_roots (state_of k) vars
same_roots k h vars = ap (λ (f : ℕ → Root). map f (odd_vars vars)) (fun_ext (λ n. ap (root k.stack) (own_outer_lit k h (record { var = record { 0 = n }; negative = false }))))

-- the parity's variables are in the maps
pub parity_there : (k : Kernel) (vars : List Var) (rhs : Bool) → Standing k → ParityTakable (state_of k) vars rhs → list_all (λ v. nat_lt v.0 (length k.maps.outers)) vars ≡ true
parity_there k vars rhs h t = subst (λ (n : ℕ). list_all (λ (v : Var). nat_lt v.0 n) vars ≡ true) (sym (outers_len k h)) (sym (list_all-map (λ n. nat_lt n (length (outers_from 0 k.definitions))) (λ (v : Var). v.0) vars) ∙ t.there)

-- what is left is below the next variable
pub parity_below : (k : Kernel) (vars : List Var) (rhs : Bool) → Standing k → ParityTakable (state_of k) vars rhs → list_all (λ v. nat_lt v.0 (length k.maps.inners)) (left_vars (map (outer_root k.maps k.stack) (odd_vars vars))) ≡ true
parity_below k vars rhs h t =
    rw (same_roots k h vars, inners_len k h) (active_below (state_of k) (left_vars (parity_roots (state_of k) vars)) h.stands.places (left_active (state_of k) vars rhs t h.stands.places))

-- there are numbers for its fresh variables
pub parity_room : (k : Kernel) (vars : List Var) (rhs : Bool) → Standing k → ParityTakable (state_of k) vars rhs → length k.maps.inners + cuts_of_count (length (left_vars (map (outer_root k.maps k.stack) (odd_vars vars)))) ≤ 2 ^ 31
parity_room k vars rhs h t = rw (same_roots k h vars, inners_len k h) (omega (arith, few_cuts (state_of k) vars rhs, t.room))

-- its pieces are those of the state
pub parity_pieces_are : (k : Kernel) (vars : List Var) (rhs : Bool) → Standing k
    → pieces (left_vars (map (outer_root k.maps k.stack) (odd_vars vars))) (left_rhs (map (outer_root k.maps k.stack) (odd_vars vars)) rhs) (length k.maps.inners) ≡ parity_pieces (state_of k) vars rhs
parity_pieces_are k vars rhs h = rw (same_roots k h vars, inners_len k h) refl

-- the number of its cuts
abbrev pub parity_cuts : Kernel → List Var → ℕ
parity_cuts k vars = cuts_of_count (length (left_vars (parity_roots (state_of k) vars)))

-- its pieces are over active variables, and those that are to be made
pub parity_named : (k : Kernel) (vars : List Var) (rhs : Bool) → Standing k → ParityTakable (state_of k) vars rhs → list_all (λ (p : Piece). list_all (is_named (parity_cuts k vars) k.maps) p.vars) (parity_pieces (state_of k) vars rhs) ≡ true
parity_named k vars rhs h t =
    pieces_pass (is_named (parity_cuts k vars) k.maps) (parity_cuts k vars) (left_vars (parity_roots (state_of k) vars)) (left_rhs (parity_roots (state_of k) vars) rhs) (length k.definitions)
    (all_mono (λ (v : Own). is_active (state_of k) v.0) (is_named (parity_cuts k vars) k.maps)
    (λ v a. or_left (is_some (inner_at k.maps v.0)) (nat_le (length k.maps.inners) v.0 && nat_lt v.0 (length k.maps.inners + parity_cuts k vars)) (sym (get_is_some k.maps.inners v.0) ∙ a))
    (left_vars (parity_roots (state_of k) vars)) (left_active (state_of k) vars rhs t h.stands.places))
    (λ j l u. or_right (is_some (inner_at k.maps j)) (nat_le (length k.maps.inners) j && nat_lt j (length k.maps.inners + parity_cuts k vars))
    (let e : length k.maps.inners ≡ length k.definitions = inners_len k h in and_from _ _ (le-leb (length k.maps.inners) j (omega arith)) (lt-ltb j (length k.maps.inners + parity_cuts k vars) (omega arith))))

-- so they may be named
pub parity_may : (k : Kernel) (vars : List Var) (rhs : Bool) → Standing k → ParityTakable (state_of k) vars rhs → list_all (λ (p : Piece). list_all (may_be_named k.maps) p.vars) (parity_pieces (state_of k) vars rhs) ≡ true
parity_may k vars rhs h t =
    all_mono (λ (p : Piece). list_all (is_named (parity_cuts k vars) k.maps) p.vars) (λ (p : Piece). list_all (may_be_named k.maps) p.vars)
    (λ p e. all_mono (is_named (parity_cuts k vars) k.maps) (may_be_named k.maps) (named_may (parity_cuts k vars) k.maps) p.vars e) (parity_pieces (state_of k) vars rhs) (parity_named k vars rhs h t)

-- a definition for each cut
pub parity_definitions : (k : Kernel) (vars : List Var) (rhs : Bool) → length (definitions_of (parity_pieces (state_of k) vars rhs)) ≡ parity_cuts k vars
parity_definitions k vars rhs = length-definitions_of (parity_cuts k vars) (left_vars (parity_roots (state_of k) vars)) (left_rhs (parity_roots (state_of k) vars) rhs) (length k.definitions)

-- no variable stands twice in a piece
pub parity_different : (k : Kernel) (vars : List Var) (rhs : Bool) → Standing k → ParityTakable (state_of k) vars rhs → list_all (λ (p : Piece). are_different p.vars) (parity_pieces (state_of k) vars rhs) ≡ true
parity_different k vars rhs h t =
    different-pieces_by (parity_cuts k vars) (left_vars (parity_roots (state_of k) vars)) (left_rhs (parity_roots (state_of k) vars) rhs) (length k.definitions) (left_different (parity_roots (state_of k) vars))
    (active_below (state_of k) (left_vars (parity_roots (state_of k) vars)) h.stands.places (left_active (state_of k) vars rhs t h.stands.places))

-- its private variables have numbers
pub parity_fits : (k : Kernel) (vars : List Var) (rhs : Bool) → Standing k → ParityTakable (state_of k) vars rhs → length k.maps.inners + parity_cuts k vars ≤ 2 ^ 31
parity_fits k vars rhs h t = omega (arith, inners_len k h, few_cuts (state_of k) vars rhs, t.room)

-- the clauses that are to be stored have no literal twice
pub parity_distinct : (k : Kernel) (vars : List Var) (rhs : Bool) (fresh : List Fresh) → Standing k → ParityTakable (state_of k) vars rhs → Matched k.maps → in_clauses fresh ≡ map hard_in (all_stored_forms k.maps (parity_pieces (state_of k) vars rhs)) → are_distinct fresh ≡ true
parity_distinct k vars rhs fresh h t d e =
    let n : Maps = record k.maps { owners = k.maps.owners ++ map Some (own_vars (length k.maps.inners) (parity_cuts k vars)) } in
    stored_distinct n (all_stored_forms k.maps (parity_pieces (state_of k) vars rhs)) (clauses_of (parity_pieces (state_of k) vars rhs)) fresh e
    (all_stored_own (parity_cuts k vars) k.maps n (parity_pieces (state_of k) vars rhs) refl d (parity_named k vars rhs h t)) (pieces_clean (parity_pieces (state_of k) vars rhs) (parity_different k vars rhs h t))

-- private variables and clauses were made in the tables of a kernel
pub tables_made : (k n : Kernel) (ds : List Definition) (forms : List (List InLit)) (own : List (List OwnLit)) (made : Made) (from to : Tables) → made.definitions.items ≡ ds → in_clauses made.clauses.items ≡ map hard_in forms → IsMade made from to
    → from.maps ≡ k.maps → from.store ≡ k.store → from.removed.entries ≡ k.stack → from.definitions ≡ k.definitions → n.maps ≡ to.maps → n.store ≡ to.store → n.stack ≡ to.removed.entries → n.definitions ≡ to.definitions
    → n.entries ≡ k.entries → n.okay ≡ k.okay → n.stack_mark ≡ k.stack_mark → (HasPrivates (length ds) k.maps n.maps → map (own_clause n.maps) forms ≡ own) → HasMade k n ds (in_clauses made.clauses.items) own
tables_made k n ds forms own made from to de cs x fm fs fr fd nm ns nr nd ne o sm become =
    let maps : HasPrivates (length ds) k.maps n.maps =
    subst (λ (m : Maps). HasPrivates (length ds) k.maps m) (sym nm)
    (subst (λ (m : Maps). HasPrivates (length ds) m to.maps) fm (subst (λ (z : List Definition). HasPrivates (length z) from.maps to.maps) de x.maps)) in
    record {
      entries = ne;
      definitions = nd ∙ (x.definitions ∙ ap₂ {C = List (Option Definition)} (λ (a : List (Option Definition)) (b : List Definition). a ++ map Some b) fd de);
      maps = maps;
      stack = nr ∙ (ap (λ (r : Removed). r.entries) x.removed ∙ fr);
      stack_mark = sm;
      okay = o;
      extends = subst (λ (s : Store). ExtendsBy k.store s (in_clauses made.clauses.items)) (sym ns) (subst (λ (s : Store). ExtendsBy s to.store (in_clauses made.clauses.items)) fs x.extends);
      become = ap (map (in_own n.maps)) cs ∙ (hard_own n.maps forms ∙ ap (map hard_clause) (become maps));
    }

-- the private variables and the clauses of a parity were made
pub parity_made : (k n : Kernel) (vars : List Var) (rhs : Bool) (made : Made) (from to : Tables) → Standing k → ParityTakable (state_of k) vars rhs → Matched k.maps
    → made.definitions.items ≡ definitions_of (parity_pieces (state_of k) vars rhs) → in_clauses made.clauses.items ≡ map hard_in (all_stored_forms k.maps (parity_pieces (state_of k) vars rhs)) → IsMade made from to
    → from.maps ≡ k.maps → from.store ≡ k.store → from.removed.entries ≡ k.stack → from.definitions ≡ k.definitions → n.maps ≡ to.maps → n.store ≡ to.store → n.stack ≡ to.removed.entries → n.definitions ≡ to.definitions
    → n.entries ≡ k.entries → n.okay ≡ k.okay → n.stack_mark ≡ k.stack_mark → HasMade k n (definitions_of (parity_pieces (state_of k) vars rhs)) (in_clauses made.clauses.items) (clauses_of (parity_pieces (state_of k) vars rhs))
parity_made k n vars rhs made from to h t d ds cs x fm fs fr fd nm ns nr nd ne o sm =
    tables_made k n (definitions_of (parity_pieces (state_of k) vars rhs)) (all_stored_forms k.maps (parity_pieces (state_of k) vars rhs)) (clauses_of (parity_pieces (state_of k) vars rhs)) made from to ds cs x fm fs fr fd nm ns nr nd ne o sm
    (λ m. all_stored_own (parity_cuts k vars) k.maps n.maps (parity_pieces (state_of k) vars rhs) (m.owners ∙ ap (λ j. k.maps.owners ++ map Some (own_vars (length k.maps.inners) j)) (parity_definitions k vars rhs)) d (parity_named k vars rhs h t))

-- all is as before
pub unmade_kernel : (k : Kernel) (items : List Item) (from to : Tables) → items ≡ k.items → from.maps ≡ k.maps → from.store ≡ k.store → from.removed.entries ≡ k.stack → from.definitions ≡ k.definitions → IsUnmade from to
    → plain_kernel (record k { items = items; definitions = to.definitions; maps = to.maps; store = to.store; stack = to.removed.entries }) ≡ plain_kernel k
unmade_kernel k items from to i fm fs fr fd x =
    ap (λ (z : Maps). let y : Kernel = record k { items = items; definitions = to.definitions; maps = z; store = record { held = to.store.held; given = 0; mark = to.store.mark }; stack = to.removed.entries } in y) (x.maps ∙ ap plain fm)
    ∙ rw (i, let a : to.definitions ≡ k.definitions = x.definitions ∙ fd in a, let b : to.store.held ≡ k.store.held = x.held ∙ ap (λ (s : Store). s.held) fs in b, let d : to.store.mark ≡ k.store.mark = x.mark ∙ ap (λ (s : Store). s.mark) fs in d, let c : to.removed.entries ≡ k.stack = ap (λ (r : Removed). r.entries) x.removed ∙ fr in c) refl

-- the table of removed variables knows the private ones that were made
pub made_vars : (r q : Removed) (ds : List Definition) (from to : List (Option Definition)) → r.vars ≡ length from → q ≡ record r { vars = r.vars + length ds } → to ≡ from ++ map (λ d. let o : Option Definition = Some d in o) ds → q.vars ≡ length to
made_vars r q ds from to e f g =
    ap (λ (z : Removed). z.vars) f
    ∙ (ap (λ n. n + length ds) e ∙ (ap (λ n. length from + n) (sym (length-map ds (λ d. let o : Option Definition = Some d in o))) ∙ (sym (length-append from (map (λ d. let o : Option Definition = Some d in o) ds)) ∙ ap length (sym g))))
