-- A state stands when a parity is taken in pieces.
use Rattle.std.proofs.Common.{◌≡◌, ℕ, zero, suc, ◌+◌, ◌-◌, ◌*◌, ◌<◌, ◌≤◌, ◌==◌, Bool, true, false, ltb, nat_lt, ◌||◌, List, [], ◌∷◌, ◌++◌, Some, length, map, filter_map, take, drop, replicate, get_or, refl, sym, ap, subst, ◌∙◌, arith, append-nil, append_assoc, ltb-true, lt-ltb, eq-eqb}
use Rattle.std.proofs.lemmas.Bool.{and_parts, and_from, or_left, or_right}
use Rattle.std.proofs.lemmas.List.{length_push, length-append, length-take-le, length-drop, get_or_append_left, get_or_push, take_at}
use Rattle.std.proofs.lemmas.List.Folds.{list_all-append, list_all-map}
use Rattle.std.specs.Bool.{beq}
use Rattle.std.specs.List.{list_all}
use Rattle.sat_lits.specs.Truth.{signed, clauses_value}
use Rattle.sat_lits.specs.ListLaws.{all_mono, all_front}
use Rattle.sat_lits.specs.ClauseLaws.{clauses_value-append, beq_true}
use Rattle.sat_lits.specs.Meaning.{satisfies}
use Rattle.sat_lits.specs.Formulas.{names_known}
use Rattle.sat_lits.specs.Conflicts.{odd_vars, cuts_of_count}
use Rattle.sat_lits.specs.declared.literal.Var.{Var}
use Rattle.sat_lits.specs.declared.literal.Own.{Own}
use Rattle.sat_lits.specs.declared.formula.Item.{Item}
use Rattle.sat_lits.specs.declared.formula.Item.TheVariants.{Parity}
use Rattle.rebuild_stack.specs.Values.{own_value}
use Rattle.rebuild_stack.specs.Entries.{rebuild}
use Rattle.rebuild_stack.specs.OrderLaws.{root_active}
use Rattle.rebuild_stack.specs.Roots.{root_passes}
use Rattle.rebuild_stack.specs.declared.entry.Root.{Root}
use Rattle.rebuild_stack.specs.declared.entry.Root.TheVariants.{Known, Last, Lost}
use Rattle.xor_cut.specs.Pieces.{exclusive_or, is_parity, are_different, own_var, pieces_by}
use Rattle.xor_cut.specs.CutLaws.{exclusive_or-push, rest_value, first_gives, all_drop, different_front, different_rest, different_push}
use Rattle.xor_cut.specs.declared.piece.Piece.{Piece}
use Rattle.state_laws.specs.declared.definition.Definition.TheVariants.{Xor}
use Rattle.state_laws.specs.State.{State, is_active, outer_count, outers_from, outer_part, is_as_defined, to_own}
use Rattle.state_laws.specs.State as st
use Rattle.state_laws.specs.Stands.{Accords, IsPlaced, Stands}
use Rattle.state_laws.specs.Moves.{taking, extended}
use Rattle.state_laws.specs.Conditions.{StandsFor, Defines}
use Rattle.state_laws.specs.ExtendLaws.{outers_from-append, taking-Stands, extended-Stands, before_extended, item_same}
use Rattle.state_laws.specs.TakeLaws.{outers_below}
use Rattle.state_laws.specs.PlaceLaws.{active_in, somewhere}
use Rattle.parity_forms.specs.Parities.{parity_clauses, odd_numbers, var_root, left_number, parity_roots, left_vars, left_rhs, definitions_of, clauses_of, defining, parity_taken, ParityTakable}
use Rattle.parity_forms.specs.OddLaws.{odd_all, apart-odd, different_own}
use Rattle.parity_forms.specs.FormLaws.{parity_clauses_value, parity_clauses_each, parity_clauses_clean}
use Rattle.parity_forms.specs.ParityRootLaws.{odd_there, parity_holds, parity_rebuilt}

-- both crates mean the same by an exclusive or
pub same_or : (w : ℕ → Bool) (vars : List Own) → st.exclusive_or w vars ≡ exclusive_or w vars
same_or w [] = refl
same_or w (v ∷ vars) = ap (signed (w v.0)) (same_or w vars)

-- variables that are active
abbrev pub are_active : State → List Own → Bool
are_active s vars = list_all (λ v. is_active s v.0) vars

-- active variables are below the next one
pub active_below : (s : State) (vars : List Own) → IsPlaced s → are_active s vars ≡ true → list_all (λ v. ltb v.0 (length s.definitions)) vars ≡ true
active_below s vars h e =
    all_mono (λ (v : Own). is_active s v.0) (λ (v : Own). ltb v.0 (length s.definitions)) (λ v a. let l : v.0 < length s.active = active_in s.active v.0 a in let d : length s.active ≡ length s.definitions = h.lengths in lt-ltb _ _ (let b : v.0 < length s.definitions = omega arith in b)) vars e

-- the exclusive or of active variables defines the next one by the clauses of the parity of all
pub xor_Defines : (s : State) (vars : List Own) → IsPlaced s → are_active s vars ≡ true → are_different vars ≡ true
    → Defines s (Some (Xor vars)) (parity_clauses (vars ++ own_var (length s.definitions) ∷ []) false)
xor_Defines s vars h a d =
    record {
      there = active_below s vars h a;
      active = parity_clauses_each (λ k. (k == length s.definitions) || is_active s k) (vars ++ own_var (length s.definitions) ∷ []) false
          (list_all-append (λ (v : Own). (v.0 == length s.definitions) || is_active s v.0) vars (own_var (length s.definitions) ∷ [])
          ∙ and_from _ _
          (all_mono (λ (v : Own). is_active s v.0) (λ (v : Own). (v.0 == length s.definitions) || is_active s v.0) (λ v e. or_right (v.0 == length s.definitions) (is_active s v.0) e) vars a)
          (and_from _ _ (or_left (length s.definitions == length s.definitions) (is_active s (length s.definitions)) (eq-eqb (length s.definitions) (length s.definitions) refl)) refl));
      clean = parity_clauses_clean (vars ++ own_var (length s.definitions) ∷ []) false (different_push (length s.definitions) vars (active_below s vars h a) d);
      follow = λ w e. parity_clauses_value w (vars ++ own_var (length s.definitions) ∷ []) false
          ∙ even w (beq_true (w (length s.definitions)) (st.exclusive_or w vars) e ∙ same_or w vars);
    }
  where
    even : (w : ℕ → Bool) → w (length s.definitions) ≡ exclusive_or w vars → is_parity w (vars ++ own_var (length s.definitions) ∷ []) false ≡ true
    even w e = ap (λ b. beq b false) (exclusive_or-push w vars (own_var (length s.definitions)) ∙ ap (signed (exclusive_or w vars)) e) ∙ twice (exclusive_or w vars)
      where
        twice : (b : Bool) → beq (signed b b) false ≡ true
        twice true = refl
        twice false = refl

-- what a parity that is cut some times asks of a state, and means in it
record Cuttable (n : ℕ) (vars : List Own) (rhs : Bool) (item : Item) (s : State) : Type 0 where
  long : 2 * n ≤ length vars - 1
  stands : Stands s
  there : names_known (outer_count s.definitions) item ≡ true
  active : are_active s vars ≡ true
  different : are_different vars ≡ true
  follow : (w : ℕ → Bool) → Accords s w → satisfies (outer_part s.definitions w) item ≡ true → is_parity w vars rhs ≡ true
  suffice : (w : ℕ → Bool) → clauses_value (own_value w) s.hard ≡ true → is_parity w vars rhs ≡ true → satisfies (outer_part s.definitions (rebuild s.stack w)) item ≡ true

-- the state in which all pieces are taken
abbrev cut_taken : ℕ → List Own → Bool → Item → State → State
cut_taken n vars rhs item s = record (defining (definitions_of (pieces_by n vars rhs (length s.definitions))) (clauses_of (pieces_by n vars rhs (length s.definitions))) s) { items = s.items ++ item ∷ [] }

-- the last piece stands for the item
whole : (vars : List Own) (rhs : Bool) (item : Item) (s : State) → Cuttable 0 vars rhs item s → Stands (cut_taken 0 vars rhs item s)
whole vars rhs item s c = subst (λ (t : State). Stands t) same (taking-Stands item (parity_clauses vars rhs) s stands_for c.stands)
  where
    stands_for : StandsFor s item (parity_clauses vars rhs)
    stands_for =
        record {
          there = c.there;
          active = parity_clauses_each (is_active s) vars rhs c.active;
          clean = parity_clauses_clean vars rhs c.different;
          follow = λ w a e. parity_clauses_value w vars rhs ∙ c.follow w a e;
          suffice = λ w h e. c.suffice w h (sym (parity_clauses_value w vars rhs) ∙ e);
        }

    same : taking item (parity_clauses vars rhs) s ≡ cut_taken 0 vars rhs item s
    same = rw (append-nil (parity_clauses vars rhs), append-nil s.definitions, append-nil s.active) refl

-- the state in which the first fresh variable is made
abbrev first_made : List Own → State → State
first_made vars s = extended (Some (Xor (take 3 vars))) (parity_clauses (take 3 vars ++ own_var (length s.definitions) ∷ []) false) s

first_Defines : (n : ℕ) (vars : List Own) (rhs : Bool) (item : Item) (s : State) → Cuttable (suc n) vars rhs item s → Defines s (Some (Xor (take 3 vars))) (parity_clauses (take 3 vars ++ own_var (length s.definitions) ∷ []) false)
first_Defines n vars rhs item s c = xor_Defines s (take 3 vars) c.stands.places (all_front (λ (v : Own). is_active s v.0) 3 vars c.active) (different_front 3 vars c.different)

-- what remains may be cut there
rest_Cuttable : (n : ℕ) (vars : List Own) (rhs : Bool) (item : Item) (s : State) → Cuttable (suc n) vars rhs item s → Cuttable n (drop 3 vars ++ own_var (length s.definitions) ∷ []) rhs item (first_made vars s)
rest_Cuttable n vars rhs item s c =
    record {
      long = omega (arith, length-append (drop 3 vars) (own_var (length s.definitions) ∷ []), length-drop 3 vars, c.long);
      stands = extended-Stands (Some (Xor (take 3 vars))) (parity_clauses (take 3 vars ++ own_var (length s.definitions) ∷ []) false) s (first_Defines n vars rhs item s c) c.stands;
      there = ap (λ z. names_known z item) outers ∙ c.there;
      active = list_all-append (λ (v : Own). is_active (first_made vars s) v.0) (drop 3 vars) (own_var (length s.definitions) ∷ [])
          ∙ and_from _ _
          (all_mono (λ (v : Own). is_active s v.0) (λ (v : Own). is_active (first_made vars s) v.0) (λ v e. get_or_append_left s.active (true ∷ []) false v.0 (active_in s.active v.0 e) ∙ e) (drop 3 vars) (all_drop (λ (v : Own). is_active s v.0) 3 vars c.active))
          (and_from _ _ (get_or_push s.active true false (length s.definitions) c.stands.places.lengths) refl);
      different = different_push (length s.definitions) (drop 3 vars) (all_drop (λ (v : Own). ltb v.0 (length s.definitions)) 3 vars (active_below s vars c.stands.places c.active)) (different_rest 3 vars c.different);
      follow = λ w a e.
          let b : (Accords s w) × (is_as_defined w (length s.definitions) (Some (Xor (take 3 vars))) ≡ true) =
          before_extended (Some (Xor (take 3 vars))) (parity_clauses (take 3 vars ++ own_var (length s.definitions) ∷ []) false) s w c.stands.ranges a in
          ap (λ z. beq z rhs) (rest_value w vars (length s.definitions) (beq_true (w (length s.definitions)) (st.exclusive_or w (take 3 vars)) b.1 ∙ same_or w (take 3 vars)))
          ∙ c.follow w b.0 (sym (item_same s.definitions (Some (Xor (take 3 vars))) w item c.there) ∙ e);
      suffice = λ w h e.
          let p : (clauses_value (own_value w) s.hard ≡ true) × (clauses_value (own_value w) (parity_clauses (take 3 vars ++ own_var (length s.definitions) ∷ []) false) ≡ true) =
          and_parts _ _ (sym (clauses_value-append (own_value w) s.hard (parity_clauses (take 3 vars ++ own_var (length s.definitions) ∷ []) false)) ∙ h) in
          let f : w (length s.definitions) ≡ exclusive_or w (take 3 vars) = first_gives w vars (length s.definitions) (sym (parity_clauses_value w (take 3 vars ++ own_var (length s.definitions) ∷ []) false) ∙ p.1) in
          item_same s.definitions (Some (Xor (take 3 vars))) (rebuild s.stack w) item c.there
          ∙ c.suffice w p.0 (ap (λ z. beq z rhs) (sym (rest_value w vars (length s.definitions) f)) ∙ e);
    }
  where
    outers : outer_count (s.definitions ++ Some (Xor (take 3 vars)) ∷ []) ≡ outer_count s.definitions
    outers = ap length (outers_from-append 0 s.definitions (Some (Xor (take 3 vars)) ∷ []) ∙ append-nil (outers_from 0 s.definitions))

-- the pieces of what remains
abbrev rest_pieces : ℕ → List Own → Bool → State → List Piece
rest_pieces n vars rhs s = pieces_by n (drop 3 vars ++ own_var (length s.definitions) ∷ []) rhs (suc (length s.definitions))

-- the first fresh variable is made before the others
first_then : (n : ℕ) (vars : List Own) (rhs : Bool) (item : Item) (s : State) → 3 ≤ length vars → cut_taken n (drop 3 vars ++ own_var (length s.definitions) ∷ []) rhs item (first_made vars s) ≡ cut_taken (suc n) vars rhs item s
first_then n vars rhs item s l =
    ap (λ (k : ℕ). let t : State = record (defining (definitions_of (pieces_by n (drop 3 vars ++ own_var (length s.definitions) ∷ []) rhs k)) (clauses_of (pieces_by n (drop 3 vars ++ own_var (length s.definitions) ∷ []) rhs k)) (first_made vars s)) { items = s.items ++ item ∷ [] } in t) next
    ∙ rw (
      append_assoc s.definitions (Some (Xor (take 3 vars)) ∷ []) (map Some (definitions_of (rest_pieces n vars rhs s))),
      append_assoc s.hard (parity_clauses (take 3 vars ++ own_var (length s.definitions) ∷ []) false) (clauses_of (rest_pieces n vars rhs s)),
      append_assoc s.active (true ∷ []) (replicate (length (definitions_of (rest_pieces n vars rhs s))) true),
      front,
    ) refl
  where
    next : length (s.definitions ++ Some (Xor (take 3 vars)) ∷ []) ≡ suc (length s.definitions)
    next = length_push s.definitions (Some (Xor (take 3 vars))) ∙ omega arith

    front : take 3 (take 3 vars ++ own_var (length s.definitions) ∷ []) ≡ take 3 vars
    front = take_at (take 3 vars) (own_var (length s.definitions) ∷ []) 3 (length-take-le 3 vars l)

-- a parity that is cut some times is taken
cut_Stands : (n : ℕ) (vars : List Own) (rhs : Bool) (item : Item) (s : State) → Cuttable n vars rhs item s → Stands (cut_taken n vars rhs item s)
cut_Stands zero vars rhs item s c = whole vars rhs item s c
cut_Stands (suc n) vars rhs item s c =
    subst (λ (t : State). Stands t) (first_then n vars rhs item s (let l : 2 * suc n ≤ length vars - 1 = c.long in omega arith))
    (cut_Stands n (drop 3 vars ++ own_var (length s.definitions) ∷ []) rhs item (first_made vars s) (rest_Cuttable n vars rhs item s c))

-- what is left of a parity is over active variables
pub left_active : (s : State) (vars : List Var) (rhs : Bool) → ParityTakable s vars rhs → IsPlaced s → are_active s (left_vars (parity_roots s vars)) ≡ true
left_active s vars rhs t h =
    list_all-map (λ (v : Own). is_active s v.0) own_var (odd_numbers (filter_map left_number (parity_roots s vars)))
    ∙ odd_all (is_active s) (filter_map left_number (parity_roots s vars)) (each (odd_vars vars) (odd_there (λ n. nat_lt n (outer_count s.definitions)) vars (sym (list_all-map (λ n. nat_lt n (outer_count s.definitions)) (λ (v : Var). v.0) vars) ∙ t.there)))
  where
    root_is : (n : ℕ) → nat_lt n (outer_count s.definitions) ≡ true → root_passes (λ k. is_active s k.var.0) (var_root s n) ≡ true
    root_is n e =
        root_active (is_active s) s.stack (to_own s.definitions (record { var = record { 0 = n }; negative = false })) h.placed.in_order
        (somewhere s (get_or (outers_from 0 s.definitions) n 0) h (let a : get_or (outers_from 0 s.definitions) n 0 < 0 + length s.definitions = outers_below 0 s.definitions n (ltb-true _ _ e) in omega arith))

    one : (r : Root) (rs : List Root) → root_passes (λ k. is_active s k.var.0) r ≡ true → list_all (is_active s) (filter_map left_number rs) ≡ true → list_all (is_active s) (filter_map left_number (r ∷ rs)) ≡ true
    one (Known x) rs e a = a
    one (Last l) rs e a = and_from _ _ e a
    one (Lost v) rs e a = a

    each : (ns : List ℕ) → list_all (λ n. nat_lt n (outer_count s.definitions)) ns ≡ true → list_all (is_active s) (filter_map left_number (map (var_root s) ns)) ≡ true
    each [] e = refl
    each (n ∷ ns) e =
        let p : (nat_lt n (outer_count s.definitions) ≡ true) × (list_all (λ m. nat_lt m (outer_count s.definitions)) ns ≡ true) = and_parts _ _ e in
        one (var_root s n) (map (var_root s) ns) (root_is n p.0) (each ns p.1)

-- and these are different
pub left_different : (roots : List Root) → are_different (left_vars roots) ≡ true
left_different roots = different_own (odd_numbers (filter_map left_number roots)) (apart-odd (filter_map left_number roots))

-- a parity is taken
pub parity-Stands : (vars : List Var) (rhs : Bool) (s : State) → ParityTakable s vars rhs → Stands s → Stands (parity_taken vars rhs s)
parity-Stands vars rhs s t h =
    cut_Stands (cuts_of_count (length (left_vars (parity_roots s vars)))) (left_vars (parity_roots s vars)) (left_rhs (parity_roots s vars) rhs) (Parity vars rhs) s
    (record {
      long = omega arith;
      stands = h;
      there = t.there;
      active = left_active s vars rhs t h.places;
      different = left_different (parity_roots s vars);
      follow = λ w a e. sym (parity_holds s w vars rhs t (h.sound.stack w a)) ∙ e;
      suffice = λ w c e. parity_rebuilt s w vars rhs t ∙ e;
    })
