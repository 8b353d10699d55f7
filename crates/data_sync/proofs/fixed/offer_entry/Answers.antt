use Rattle.std.proofs.Common.{◌≡◌, ◌∙◌, ℕ, ap, sym, subst, [], ◌∷◌, Some, IfOk, Result, Ok, Err, ◌<◌, length, map, is_some, arith}
use Rattle.std.specs.List.{Any, slice_get}
use Rattle.std.proofs.lemmas.List.{length-map}
use Rattle.std.proofs.lemmas.Option.{same_Some, none-some}
use Rattle.sat_lits.specs.declared.literal.Lit.{Lit}
use Rattle.sat_lits.specs.declared.literal.OwnLit.{OwnLit}
use Rattle.rebuild_stack.specs.declared.entry.Entry.{Entry}
use Rattle.rebuild_stack.specs.declared.entry.Entry.TheVariants.{Fix}
use Rattle.share_store.specs.Log.{HasClause}
use Rattle.var_maps.specs.Maps.{Maps, Matched}
use Rattle.state_laws.specs.State.{State, outer_count}
use Rattle.state_laws.specs.Kernel.{Kernel, Standing, state_of}
use Rattle.sync_laws.specs.Told.{IsOuter, IsToldEntry}
use Rattle.sync_laws.specs.TurnLaws.{fixed_follows}
use Rattle.data_sync.specs.HeardLaws.{fixed_heard}
use Rattle.data_sync.specs.Giving.{outer_of}
use Rattle.data_sync.specs.GivingLaws.{gives_turns, outer_is, outer_only, one_shareable, stands_place, fixed_there}
use Rattle.data_sync.proofs.fixed.offer_entry.Goals as goal

if_ok : {X E : Type 0} (P Q : X → Type 0) → ((x : X) → P x → Q x) → (r : Result X E) → IfOk r P → IfOk r Q
if_ok P Q h (Ok x) e = h x e
if_ok P Q h (Err y) e = e

fix_same : (a b : OwnLit) → Fix a ≡ Fix b → a ≡ b
fix_same a b e = cc

-- the outer literal of what an entry fixes
found : (k : Kernel) (m : Maps) (e : Entry) (lit own : OwnLit) (l : Lit) → Standing k → m ≡ k.maps → Matched m → e ≡ Fix lit → e ≡ Fix own → IsOuter (state_of k) l own → outer_of m lit ≡ Some l
found k m e lit own l h q x i j o =
    ap (outer_of m) (fix_same lit own (sym i ∙ j))
    ∙ (ap (λ (z : Maps). outer_of z own) q ∙ outer_only k own l h (subst Matched q x) o)

pub outer_lit-requires : goal.outer_lit-requires
outer_lit-requires c =
    rw c.maps-maps.ensures.value (fixed_there c.args.state.now c.in-Fix.lit c.maps-maps.ensures.standing (subst (λ (e : Entry). Any (λ x. x ≡ e) c.args.state.now.stack) c.in-Fix.is c.requires.stands))

-- the variable of what an entry of the stack fixes is there
there : (k : Kernel) (e : Entry) → Standing k → Any (λ x. x ≡ e) k.stack → (own : OwnLit) → e ≡ Fix own → own.var.0 < length k.definitions
there k e h a own q =
    let b : own.var.0 < length k.maps.inners = fixed_there k own h (subst (λ (x : Entry). Any (λ y. y ≡ x) k.stack) q a) in
    let c : length (map is_some k.maps.inners) ≡ length k.definitions = h.stands.places.lengths in
    let d : length (map is_some k.maps.inners) ≡ length k.maps.inners = length-map k.maps.inners is_some in
    omega (arith, b, c, d)

pub returns-in-Some-clause-told : goal.returns-in-Some-clause-told
returns-in-Some-clause-told c =
    if_ok (λ _. HasClause c.give.new.store (c.in-Some.outer ∷ [])) (λ _. IsToldEntry (state_of c.args.state.now) c.give.new.store c.args.entry.now)
    (λ _ h. record {
      there = there c.args.state.now c.args.entry.now c.maps-maps.ensures.standing c.requires.stands;
      fixed = λ l own q o. subst (λ (z : Lit). HasClause c.give.new.store (z ∷ []))
          (same_Some c.in-Some.outer l (sym c.in-Some.is ∙ (c.outer_lit.ensures.value ∙ found c.args.state.now c.maps-maps.result.now c.args.entry.now c.in-Fix.lit own l c.maps-maps.ensures.standing c.maps-maps.ensures.value c.outer_lit.ensures.matched c.in-Fix.is q o)))
          h;
    })
    c.give.result c.give.ensures.has

pub returns-in-Some-clause-turns : goal.returns-in-Some-clause-turns
returns-in-Some-clause-turns c =
    let k : Kernel = c.args.state.now in
    let s : State = state_of k in
    let stands : Any (λ x. x ≡ Fix c.in-Fix.lit) k.stack = subst (λ (e : Entry). Any (λ x. x ≡ e) k.stack) c.in-Fix.is c.requires.stands in
    let place : (n : ℕ) × (slice_get k.stack n ≡ Some (Fix c.in-Fix.lit)) = stands_place k.stack (Fix c.in-Fix.lit) stands in
    let o : IsOuter s c.in-Some.outer c.in-Fix.lit =
    outer_is k c.in-Fix.lit c.in-Some.outer c.maps-maps.ensures.standing (subst Matched c.maps-maps.ensures.value c.outer_lit.ensures.matched) (ap (λ (z : Maps). outer_of z c.in-Fix.lit) (sym c.maps-maps.ensures.value) ∙ (sym c.outer_lit.ensures.value ∙ c.in-Some.is)) in
    gives_turns s c.args.solver c.args.after c.args.store.now c.give.new.store (c.in-Some.outer ∷ []) (one_shareable (outer_count s.definitions) c.in-Some.outer o.there) (fixed_follows s place.0 c.in-Some.outer c.in-Fix.lit c.maps-maps.ensures.standing.stands place.1 o) (fixed_heard s place.0 c.in-Some.outer c.in-Fix.lit c.maps-maps.ensures.standing.stands place.1 o) c.give.ensures.gives

pub returns-in_default-outer_lit-clause-told : goal.returns-in_default-outer_lit-clause-told
returns-in_default-outer_lit-clause-told c =
    record {
      there = there c.args.state.now c.args.entry.now c.maps-maps.ensures.standing c.requires.stands;
      fixed = λ l own q o. absurd (none-some l (sym c.in_default-outer_lit.is ∙ (c.outer_lit.ensures.value ∙ found c.args.state.now c.maps-maps.result.now c.args.entry.now c.in-Fix.lit own l c.maps-maps.ensures.standing c.maps-maps.ensures.value c.outer_lit.ensures.matched c.in-Fix.is q o)));
    }
