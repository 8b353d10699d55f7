use Rattle.std.proofs.Common.{◌≡◌, ◌≢◌, ◌∙◌, ◌<◌, ◌≤◌, ℕ, Bool, true, false, refl, ap, sym, subst, List, [], ◌∷◌, Option, Some, None, length, get_or, option_map, IfOk, Result, Ok, Err, arith}
use Rattle.std.specs.List.{slice_get}
use Rattle.std.proofs.lemmas.Option.{same_Some, none-some}
use Rattle.sat_lits.specs.ListLaws.{all_get}
use Rattle.sat_lits.specs.declared.literal.Lit.{Lit}
use Rattle.sat_lits.specs.declared.literal.OwnLit.{OwnLit}
use Rattle.sat_lits.specs.declared.literal.InLit.{InLit}
use Rattle.rebuild_stack.specs.PutIn.{is_clean}
use Rattle.clause_store.specs.Store.{Store, Held, clause_at, learned_of}
use Rattle.var_maps.specs.Maps.{Maps, Matched}
use Rattle.state_laws.specs.State.{State, outer_count}
use Rattle.state_laws.specs.Held.{own_of, own_clause, own_clauses}
use Rattle.state_laws.specs.Kernel.{Kernel, Standing, state_of}
use Rattle.sync_laws.specs.Steps.{IsOuter, in_order}
use Rattle.sync_laws.specs.TurnLaws.{binary_follows}
use Rattle.data_sync.specs.HeardLaws.{binary_heard}
use Rattle.data_sync.specs.Giving.{stored_outer}
use Rattle.data_sync.specs.GivingLaws.{gives_turns}
use Rattle.data_sync.specs.BinaryLaws.{stored_is, stored_only, learned_place, outer_apart, pair_shareable, both_own}
use Rattle.share_store.specs.Log.{HasClause}
use Rattle.data_sync.specs.Giving.{IsToldAt}
use Rattle.data_sync.specs.BinaryLaws.{told_at, not_two}
use Rattle.data_sync.proofs.binaries.offer_clause.Goals as goal

if_ok : {X E : Type 0} (P Q : X → Type 0) → ((x : X) → P x → Q x) → (r : Result X E) → IfOk r P → IfOk r Q
if_ok P Q h (Ok x) e = h x e
if_ok P Q h (Err y) e = e

lits_of : (o : Option Held) (h : Held) (ls : List InLit) → option_map (λ c. c.lits) o ≡ Some ls → o ≡ Some h → h.lits ≡ ls
lits_of o h ls e f = same_Some h.lits ls (sym (ap (option_map (λ (c : Held). c.lits)) f) ∙ e)

learned_as : (o : Option Held) (h : Held) (b : Bool) → option_map (λ c. c.learned) o ≡ Some b → o ≡ Some h → h.learned ≡ b
learned_as o h b e f = same_Some h.learned b (sym (ap (option_map (λ (c : Held). c.learned)) f) ∙ e)

some_of : (o : Option Held) (ls : List InLit) → option_map (λ c. c.lits) o ≡ Some ls → (h : Held) × (o ≡ Some h)
some_of None ls e = absurd (none-some ls e)
some_of (Some h) ls e = (h, refl)

head_same : (a b c d : OwnLit) → a ∷ b ∷ [] ≡ c ∷ d ∷ [] → a ≡ c
head_same a b c d e = cc

next_same : (a b c d : OwnLit) → a ∷ b ∷ [] ≡ c ∷ d ∷ [] → b ≡ d
next_same a b c d e = cc

-- the own literals of the clause that was read
pairs : (k : Kernel) (s : Store) (id : ℕ) (lits : List InLit) (d : InLit) → s ≡ k.store → option_map (λ c. c.lits) (clause_at s.held id) ≡ Some lits → 2 ≤ length lits → length lits < 3
    → (h : Held) → clause_at k.store.held id ≡ Some h → own_clause k.maps h.lits ≡ own_of k.maps (get_or lits 0 d) ∷ own_of k.maps (get_or lits 1 d) ∷ []
pairs k s id lits d q e a b h f = ap (own_clause k.maps) (lits_of (clause_at s.held id) h lits e (ap (λ (z : Store). clause_at z.held id) q ∙ f)) ∙ both_own k.maps lits d a b

outer_found : (k : Kernel) (m : Maps) (x : InLit) (r : Option Lit) (own : OwnLit) (l : Lit) → Standing k → m ≡ k.maps → Matched m → r ≡ stored_outer m x → own_of k.maps x ≡ own
    → IsOuter (state_of k) l own → r ≡ Some l
outer_found k m x r own l h q t e f o =
    e ∙ (ap (λ (z : Maps). stored_outer z x) q ∙ stored_only k x l h (subst Matched q t) (subst (IsOuter (state_of k) l) (sym f) o))

is_found : (k : Kernel) (m : Maps) (x : InLit) (r : Option Lit) (l : Lit) → Standing k → m ≡ k.maps → Matched m → r ≡ stored_outer m x → r ≡ Some l → IsOuter (state_of k) l (own_of k.maps x)
is_found k m x r l h q t e f = stored_is k x l h (subst Matched q t) (sym (ap (λ (z : Maps). stored_outer z x) q) ∙ (sym e ∙ f))

abbrev zero_lit : InLit
zero_lit = record { var = record { 0 = 0 }; negative = false }

pub returns-in_default-clause-told : goal.returns-in_default-clause-told
returns-in_default-clause-told c =
    told_at c.args.state.now c.args.store.now c.args.id.0 c.clauses-clauses.ensures.standing
    (λ h e l x y first second q i j.
    let n : length c.lits.result.now ≡ 2 = not_two c.args.state.now.maps (clause_at c.args.state.now.store.held c.args.id.0) h c.lits.result.now first second (subst (λ (s : Store). option_map (λ (d : Held). d.lits) (clause_at s.held c.args.id.0) ≡ Some c.lits.result.now) c.clauses-clauses.ensures.value c.lits.ensures.value) e q in
    absurd (omega (arith, n, c.in_default.len_below)))

pub returns-in_default-2-clause-told : goal.returns-in_default-2-clause-told
returns-in_default-2-clause-told c =
    told_at c.args.state.now c.args.store.now c.args.id.0 c.clauses-clauses.ensures.standing
    (λ h e l x y first second q i j.
    let n : length c.lits.result.now ≡ 2 = not_two c.args.state.now.maps (clause_at c.args.state.now.store.held c.args.id.0) h c.lits.result.now first second (subst (λ (s : Store). option_map (λ (d : Held). d.lits) (clause_at s.held c.args.id.0) ≡ Some c.lits.result.now) c.clauses-clauses.ensures.value c.lits.ensures.value) e q in
    absurd (omega (arith, n, c.in_default.len_at_least)))

pub returns-in_default-outer_in-clause-told : goal.returns-in_default-outer_in-clause-told
returns-in_default-outer_in-clause-told c =
    told_at c.args.state.now c.args.store.now c.args.id.0 c.clauses-clauses.ensures.standing
    (λ h e l k m first second q o p.
    let two : own_clause c.args.state.now.maps h.lits ≡ own_of c.args.state.now.maps (get_or c.lits.result.now 0 zero_lit) ∷ own_of c.args.state.now.maps (get_or c.lits.result.now 1 zero_lit) ∷ [] =
    pairs c.args.state.now c.clauses-clauses.result.now c.args.id.0 c.lits.result.now zero_lit c.clauses-clauses.ensures.value c.lits.ensures.value c.in-len2.len_at_least c.in-len2.len_below h e in
    absurd (none-some k (sym c.in_default-outer_in.is
    ∙ outer_found c.args.state.now c.maps.result.now (get_or c.lits.result.now 0 zero_lit) c.outer_in.result first k c.clauses-clauses.ensures.standing c.maps.ensures.value c.outer_in.ensures.matched c.outer_in.ensures.value
    (head_same _ _ _ _ (sym two ∙ q)) o)))

pub returns-in_default-outer_in-2-clause-told : goal.returns-in_default-outer_in-2-clause-told
returns-in_default-outer_in-2-clause-told c =
    told_at c.args.state.now c.args.store.now c.args.id.0 c.clauses-clauses.ensures.standing
    (λ h e l k m first second q o p.
    let two : own_clause c.args.state.now.maps h.lits ≡ own_of c.args.state.now.maps (get_or c.lits.result.now 0 zero_lit) ∷ own_of c.args.state.now.maps (get_or c.lits.result.now 1 zero_lit) ∷ [] =
    pairs c.args.state.now c.clauses-clauses.result.now c.args.id.0 c.lits.result.now zero_lit c.clauses-clauses.ensures.value c.lits.ensures.value c.in-len2.len_at_least c.in-len2.len_below h e in
    absurd (none-some m (sym c.in_default-outer_in-2.is
    ∙ outer_found c.args.state.now c.maps-2.result.now (get_or c.lits.result.now 1 zero_lit) c.outer_in-2.result second m c.clauses-clauses.ensures.standing c.maps-2.ensures.value c.outer_in-2.ensures.matched c.outer_in-2.ensures.value
    (next_same _ _ _ _ (sym two ∙ q)) p)))

-- the clause that was read, as the state has it
record Read (k : Kernel) (x y : InLit) : Type 0 where
  at : ℕ
  stands : slice_get (state_of k).learned at ≡ Some (own_of k.maps x ∷ own_of k.maps y ∷ [])

read : (k : Kernel) (s t : Store) (id : ℕ) (lits : List InLit) (b : Bool) → s ≡ k.store → t ≡ k.store → option_map (λ c. c.learned) (clause_at s.held id) ≡ Some b → b ≡ true
    → option_map (λ c. c.lits) (clause_at t.held id) ≡ Some lits
    → 2 ≤ length lits → length lits < 3 → Read k (get_or lits 0 zero_lit) (get_or lits 1 zero_lit)
read k s t id lits b q r e f g m n =
    let x : (h : Held) × (clause_at k.store.held id ≡ Some h) = some_of (clause_at k.store.held id) lits (ap (λ (z : Store). option_map (λ (c : Held). c.lits) (clause_at z.held id)) (sym r) ∙ g) in
    let l : x.0.learned ≡ true = learned_as (clause_at k.store.held id) x.0 b (ap (λ (z : Store). option_map (λ (c : Held). c.learned) (clause_at z.held id)) (sym q) ∙ e) x.1 ∙ f in
    let p : (at : ℕ) × (slice_get (own_clauses k.maps (learned_of k.store.held)) at ≡ Some (own_clause k.maps x.0.lits)) = learned_place k.maps k.store.held id x.0 x.1 l in
    record { at = p.0; stands = p.1 ∙ ap (λ (z : List OwnLit). Some z) (pairs k t id lits zero_lit r g m n x.0 x.1) }

pub offer_pair-requires-clause-different : goal.offer_pair-requires-clause-different
offer_pair-requires-clause-different c =
    let k : Kernel = c.args.state.now in
    let x : InLit = get_or c.lits.result.now 0 zero_lit in
    let y : InLit = get_or c.lits.result.now 1 zero_lit in
    let r : Read k x y = read k c.clauses-clauses.result.now c.clauses-clauses.result.now c.args.id.0 c.lits.result.now c.is_learned.result c.clauses-clauses.ensures.value c.clauses-clauses.ensures.value c.is_learned.ensures.value c.if-not-is_learned.false c.lits.ensures.value c.in-len2.len_at_least c.in-len2.len_below in
    outer_apart (state_of k) c.in-Some.first c.in-Some-outer_in.second (own_of k.maps x) (own_of k.maps y) (all_get is_clean (state_of k).learned r.at (own_of k.maps x ∷ own_of k.maps y ∷ []) r.stands c.clauses-clauses.ensures.standing.stands.clean.learned)
    (is_found k c.maps.result.now x c.outer_in.result c.in-Some.first c.clauses-clauses.ensures.standing c.maps.ensures.value c.outer_in.ensures.matched c.outer_in.ensures.value c.in-Some.is)
    (is_found k c.maps-2.result.now y c.outer_in-2.result c.in-Some-outer_in.second c.clauses-clauses.ensures.standing c.maps-2.ensures.value c.outer_in-2.ensures.matched c.outer_in-2.ensures.value c.in-Some-outer_in.is)

pub returns-clause-told : goal.returns-clause-told
returns-clause-told c =
    if_ok (λ _. HasClause c.offer_pair.new.store (in_order c.in-Some.first c.in-Some-outer_in.second)) (λ _. IsToldAt c.args.state.now c.offer_pair.new.store c.args.id.0)
    (λ _ has. told_at c.args.state.now c.offer_pair.new.store c.args.id.0 c.clauses-clauses.ensures.standing
    (λ h e l k m first second q o p.
    let two : own_clause c.args.state.now.maps h.lits ≡ own_of c.args.state.now.maps (get_or c.lits.result.now 0 zero_lit) ∷ own_of c.args.state.now.maps (get_or c.lits.result.now 1 zero_lit) ∷ [] =
    pairs c.args.state.now c.clauses-clauses.result.now c.args.id.0 c.lits.result.now zero_lit c.clauses-clauses.ensures.value c.lits.ensures.value c.in-len2.len_at_least c.in-len2.len_below h e in
    let a : c.in-Some.first ≡ k = same_Some c.in-Some.first k (sym c.in-Some.is
    ∙ outer_found c.args.state.now c.maps.result.now (get_or c.lits.result.now 0 zero_lit) c.outer_in.result first k c.clauses-clauses.ensures.standing c.maps.ensures.value c.outer_in.ensures.matched c.outer_in.ensures.value (head_same _ _ _ _ (sym two ∙ q)) o) in
    let b : c.in-Some-outer_in.second ≡ m = same_Some c.in-Some-outer_in.second m (sym c.in-Some-outer_in.is
    ∙ outer_found c.args.state.now c.maps-2.result.now (get_or c.lits.result.now 1 zero_lit) c.outer_in-2.result second m c.clauses-clauses.ensures.standing c.maps-2.ensures.value c.outer_in-2.ensures.matched c.outer_in-2.ensures.value (next_same _ _ _ _ (sym two ∙ q)) p) in
    subst (λ (z : Lit). HasClause c.offer_pair.new.store (in_order k z)) b (subst (λ (z : Lit). HasClause c.offer_pair.new.store (in_order z c.in-Some-outer_in.second)) a has)))
    c.offer_pair.result c.offer_pair.ensures.has

pub returns-clause-turns : goal.returns-clause-turns
returns-clause-turns c =
    let k : Kernel = c.args.state.now in
    let s : State = state_of k in
    let x : InLit = get_or c.lits.result.now 0 zero_lit in
    let y : InLit = get_or c.lits.result.now 1 zero_lit in
    let r : Read k x y = read k c.clauses-clauses.result.now c.clauses-clauses.result.now c.args.id.0 c.lits.result.now c.is_learned.result c.clauses-clauses.ensures.value c.clauses-clauses.ensures.value c.is_learned.ensures.value c.if-not-is_learned.false c.lits.ensures.value c.in-len2.len_at_least c.in-len2.len_below in
    let o : IsOuter s c.in-Some.first (own_of k.maps x) = is_found k c.maps.result.now x c.outer_in.result c.in-Some.first c.clauses-clauses.ensures.standing c.maps.ensures.value c.outer_in.ensures.matched c.outer_in.ensures.value c.in-Some.is in
    let p : IsOuter s c.in-Some-outer_in.second (own_of k.maps y) = is_found k c.maps-2.result.now y c.outer_in-2.result c.in-Some-outer_in.second c.clauses-clauses.ensures.standing c.maps-2.ensures.value c.outer_in-2.ensures.matched c.outer_in-2.ensures.value c.in-Some-outer_in.is in
    let n : c.in-Some.first.var.0 ≢ c.in-Some-outer_in.second.var.0 =
    outer_apart s c.in-Some.first c.in-Some-outer_in.second (own_of k.maps x) (own_of k.maps y) (all_get is_clean s.learned r.at (own_of k.maps x ∷ own_of k.maps y ∷ []) r.stands c.clauses-clauses.ensures.standing.stands.clean.learned) o p in
    gives_turns s c.args.solver c.args.after c.args.store.now c.offer_pair.new.store (in_order c.in-Some.first c.in-Some-outer_in.second) (pair_shareable (outer_count s.definitions) c.in-Some.first c.in-Some-outer_in.second o.there p.there n)
    (binary_follows s r.at c.in-Some.first c.in-Some-outer_in.second (own_of k.maps x) (own_of k.maps y) c.clauses-clauses.ensures.standing.stands r.stands o p)
    (binary_heard s r.at c.in-Some.first c.in-Some-outer_in.second (own_of k.maps x) (own_of k.maps y) c.clauses-clauses.ensures.standing.stands r.stands o p) c.offer_pair.ensures.gives
