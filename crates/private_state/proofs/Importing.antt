-- What the import of a shared entry finds and does.
use Rattle.std.proofs.Common.{◌≡◌, ◌∙◌, ◌&&◌, ◌==◌, refl, ap, ap₂, is_some, sym, subst, ℕ, ◌≤◌, ◌<◌, Bool, true, false, cond, not, nat_lt, List, [], ◌∷◌, ◌++◌, Option, Some, None, find, option_map, length, map, option_to_list, filter, arith, append-nil, nat_le}
use Rattle.std.proofs.Math.Path.{fun_ext}
use Rattle.std.proofs.lemmas.Bool.{and_parts, and_from, or_left, le-leb, leb-true, ltb-true, eq-eqb, eqb-true, false≢true}
use Rattle.std.proofs.lemmas.Option.{same_Some, none-some}
use Rattle.std.proofs.lemmas.List.Folds.{list_all-map, list_all-append}
use Rattle.std.specs.List.{list_all}
use Rattle.sat_lits.specs.Formulas.{names_known}
use Rattle.sat_lits.specs.Truth.{clause_value, clauses_value}
use Rattle.sat_lits.specs.declared.literal.Lit.{Lit}
use Rattle.sat_lits.specs.declared.literal.Var.{Var}
use Rattle.sat_lits.specs.declared.literal.OwnLit.{OwnLit}
use Rattle.sat_lits.specs.declared.literal.InLit.{InLit}
use Rattle.sat_lits.specs.declared.formula.Item.TheVariants.{Clause}
use Rattle.sat_lits.specs.declared.shared.Shared.{Shared}
use Rattle.rebuild_stack.specs.Roots.{root, is_lost}
use Rattle.clause_store.specs.Store.{Store, Held, held_as, is_live, rising, without, marked, IsKept}
use Rattle.state_laws.specs.State.{State, is_active, outers_from, outer_count}
use Rattle.state_laws.specs.Conditions.{Takable, EntryFollows, IsContradicted}
use Rattle.state_laws.specs.Moves.{own_form, imported}
use Rattle.rebuild_stack.specs.Values.{own_value}
use Rattle.rebuild_stack.specs.PutIn.{is_clean, option_clean, option_passes}
use Rattle.rebuild_stack.specs.CommonLaws.{or_false}
use Rattle.rebuild_stack.specs.declared.entry.Entry.TheVariants.{Fix}
use Rattle.state_laws.specs.Stands.{Stands}
use Rattle.state_laws.specs.TakeLaws.{own_form_active, own_form_clean}
use Rattle.state_laws.specs.Held.{own_outer, own_clause, hard_clause, touches}
use Rattle.state_laws.specs.Kernel.{Kernel, Standing, state_of, plain_kernel, Longer, Keeps}
use Rattle.state_laws.specs.Resolution.{mentions}
use Rattle.var_maps.specs.Maps.{Maps, plain, retired}
use Rattle.sat_lits.specs.ListLaws.{all_mono}
use Rattle.std.proofs.lemmas.List.Elements.{filter-append}
use Rattle.state_laws.specs.KernelTakeLaws.{own_outer_lit, outers_len, HoldsMore}
use Rattle.private_state.specs.declared.import.Import.TheVariants.{Waits}
use Rattle.removed_vars.specs.Fresh.{hard_in}
use Rattle.state_laws.specs.Away.{is_away}
use Rattle.private_state.specs.Importing.{answer_of, settled, taken_unless, Holds, Leaves, ImportLeaves}
use Rattle.private_state.specs.ImportLaws.{none_found}

-- the variables of a clause that are there are in the maps
pub known_outer : (k : Kernel) (c : List Lit) → Standing k → names_known (outer_count k.definitions) (Clause c) ≡ true → list_all (λ l. nat_lt l.var.0 (length k.maps.outers)) c ≡ true
known_outer k c h t = subst (λ (n : ℕ). list_all (λ (l : Lit). nat_lt l.var.0 n) c ≡ true) (sym (outers_len k h)) (sym (list_all-map (λ n. nat_lt n (length (outers_from 0 k.definitions))) (λ (l : Lit). l.var.0) c) ∙ t)

-- the maps find the same literal away
pub outer_away : (k : Kernel) (c : List Lit) → Standing k → find (λ l. is_lost (root k.stack (own_outer k.maps l))) c ≡ find (is_away (state_of k)) c
outer_away k c h = ap (λ (p : Lit → Bool). find p c) (fun_ext (λ l. ap (λ (z : OwnLit). is_lost (root k.stack z)) (own_outer_lit k h l)))

-- a clause of which no literal is away can be taken
pub takable : (s : State) (c : List Lit) → names_known (outer_count s.definitions) (Clause c) ≡ true → find (is_away s) c ≡ None → Takable s c
takable s c t e = record { there = t; roots = none_found (is_away s) c e }

-- no variable is found where no literal is
pub no_var : (o : Option Lit) → option_map (λ l. l.var) o ≡ None → o ≡ None
no_var None e = refl
no_var (Some l) e = absurd (none-some l.var (sym e))

-- the answer where a literal is away
pub waits_answer : (o : Option Lit) (form : Option (List OwnLit)) (v : Var) → option_map (λ l. l.var) o ≡ Some v → Waits v ≡ answer_of o form
waits_answer None form v e = absurd (none-some v e)
waits_answer (Some l) form v e = ap (λ (z : Var). Waits z) (sym (same_Some l.var v e))

-- the state then
pub waits_state : (o : Option Lit) (e : Shared) (s : State) (v : Var) → option_map (λ l. l.var) o ≡ Some v → s ≡ taken_unless o e s
waits_state None e s v q = absurd (none-some v q)
waits_state (Some l) e s v q = refl

-- the state after an entry of which no literal is away
pub taken_state : (o : Option Lit) (e : Shared) (s : State) → o ≡ None → settled (own_form s e.clause) (imported e s) ≡ taken_unless o e s
taken_state o e s q = ap (λ (z : Option Lit). taken_unless z e s) (sym q)

-- the answer then
pub taken_answer : (o : Option Lit) (form p : Option (List OwnLit)) → o ≡ None → form ≡ p → answer_of None p ≡ answer_of o form
taken_answer o form p e f = ap₂ answer_of (sym e) (sym f)

-- a clause was added that is this in own literals
pub held_more : (k : Kernel) (s : Store) (entries : List Shared) (id : ℕ) (lits : List InLit) (c : List Lit) (own : List OwnLit) → own_form (state_of k) c ≡ Some own → own_clause k.maps lits ≡ own
    → s.held ≡ k.store.held ++ held_as id false lits ∷ [] → k.store.given ≤ id → s.mark ≡ k.store.mark → marked s ≡ marked k.store → HoldsMore k (record k { entries = entries; store = s }) (hard_in lits ∷ []) (option_to_list (own_form (state_of k) c))
held_more k s entries id lits c own f o e g m n =
    record {
      definitions = refl;
      maps = refl;
      stack = refl;
      stack_mark = refl;
      okay = refl;
      extends = record { news = held_as id false lits ∷ []; held = e; contents = refl; fresh = and_from _ _ (le-leb _ _ g) refl; mark = m; marked = n };
      become = ap (λ (z : List OwnLit). hard_clause z ∷ []) o ∙ ap (λ (z : Option (List OwnLit)). map hard_clause (option_to_list z)) (sym f);
    }

-- the literals of what an outer clause becomes are active
pub own_active : (k : Kernel) (c : List Lit) (own : List OwnLit) → Stands (state_of k) → Takable (state_of k) c → own_form (state_of k) c ≡ Some own → list_all (λ l. is_active (state_of k) l.var.0) own ≡ true
own_active k c own h t f = sym (ap (option_passes (λ l. is_active (state_of k) l.var.0)) f) ∙ own_form_active (state_of k) c t h.places

-- it is clean
pub own_clean : (k : Kernel) (c : List Lit) (own : List OwnLit) → own_form (state_of k) c ≡ Some own → is_clean own ≡ true
own_clean k c own f = sym (ap option_clean f) ∙ own_form_clean (state_of k) c

last_true : (w : ℕ → Bool) (cs : List (List OwnLit)) (d : List OwnLit) → clauses_value (own_value w) (cs ++ d ∷ []) ≡ true → clause_value (own_value w) d ≡ true
last_true w cs d e = (and_parts _ _ (and_parts _ _ (sym (list_all-append (clause_value (own_value w)) cs (d ∷ [])) ∙ e)).1).0

held_last : (s : State) (e : Shared) (own : List OwnLit) → own_form s e.clause ≡ Some own → (imported e s).hard ≡ s.hard ++ own ∷ []
held_last s e own f = ap (λ (o : Option (List OwnLit)). s.hard ++ option_to_list o) f

-- a literal that is all of a clause follows
pub unit_follows : (s : State) (e : Shared) (l : OwnLit) → own_form s e.clause ≡ Some (l ∷ []) → EntryFollows (imported e s) (Fix l)
unit_follows s e l f w a = sym (or_false (own_value w l)) ∙ last_true w s.hard (l ∷ []) (ap (clauses_value (own_value w)) (sym (held_last s e (l ∷ []) f)) ∙ a.hard)

-- the empty clause contradicts
pub empty_contradicts : (s : State) (e : Shared) → own_form s e.clause ≡ Some [] → IsContradicted (imported e s)
empty_contradicts s e f w a = false≢true (last_true w s.hard [] (ap (clauses_value (own_value w)) (sym (held_last s e [] f)) ∙ a.hard))

-- a clause that was added is live
pub added_live : (hs : List Held) (id : ℕ) (lits : List InLit) → is_live (hs ++ held_as id false lits ∷ []) id ≡ true
added_live [] id lits = ap (λ b. is_some (cond b (Some (held_as id false lits)) None)) (eq-eqb id id refl)
added_live (h ∷ hs) id lits = go (h.id == id) (added_live hs id lits)
  where
    go : (b : Bool) → is_some (find (λ (x : Held). x.id == id) (hs ++ held_as id false lits ∷ [])) ≡ true → is_some (cond b (Some h) (find (λ (x : Held). x.id == id) (hs ++ held_as id false lits ∷ []))) ≡ true
    go true e = refl
    go false e = e

-- without it all is as before
pub added_dropped : (hs : List Held) (id : ℕ) (lits : List InLit) → rising (hs ++ held_as id false lits ∷ []) ≡ true → without id (hs ++ held_as id false lits ∷ []) ≡ hs
added_dropped [] id lits e = ap (λ b. cond (not b) (held_as id false lits ∷ []) []) (eq-eqb id id refl)
added_dropped (h ∷ hs) id lits e =
    let a : (list_all (λ (x : Held). nat_lt h.id x.id) (hs ++ held_as id false lits ∷ []) ≡ true) × (rising (hs ++ held_as id false lits ∷ []) ≡ true) = and_parts _ _ e in
    let b : (list_all (λ (x : Held). nat_lt h.id x.id) hs ≡ true) × ((nat_lt h.id id && true) ≡ true) = and_parts _ _ (sym (list_all-append (λ (x : Held). nat_lt h.id x.id) hs (held_as id false lits ∷ [])) ∙ a.0) in
    let l : h.id < id = ltb-true _ _ (and_parts _ _ b.1).0 in
    go (h.id == id) refl l (added_dropped hs id lits a.1)
  where
    go : (b : Bool) → (h.id == id) ≡ b → h.id < id → without id (hs ++ held_as id false lits ∷ []) ≡ hs → cond (not b) (h ∷ without id (hs ++ held_as id false lits ∷ [])) (without id (hs ++ held_as id false lits ∷ [])) ≡ h ∷ hs
    go true f l e = let q : h.id ≡ id = eqb-true _ _ f in absurd (omega arith)
    go false f l e = ap (λ (z : List Held). h ∷ z) e

-- what the store has after a vain move
pub vain_held : (k h n : Kernel) (e : Shared) (lits : List InLit) (id : ℕ) → Holds k h e lits id → plain_kernel n ≡ plain_kernel h → n.store.held ≡ k.store.held ++ held_as id false lits ∷ []
vain_held k h n e lits id x q = ap (λ (z : Kernel). z.store.held) q ∙ x.held

-- after a vain move the entry is taken back
pub taken_back : (k h n : Kernel) (e : Shared) (lits : List InLit) (id : ℕ) → Holds k h e lits id → plain_kernel n ≡ plain_kernel h → IsKept n.store → (entries : List Shared) → entries ≡ k.entries
    → (s : Store) → s ≡ record n.store { held = without id n.store.held } → plain_kernel (record n { entries = entries; store = s }) ≡ plain_kernel k
taken_back k h n e lits id x q kept entries p s t =
    ap₂ (λ (es : List Shared) (y : Store). plain_kernel (record n { entries = es; store = y })) p t
    ∙ (ap₂ (λ (hs : List Held) (m : ℕ). plain_kernel (record n { entries = k.entries; store = record { held = hs; given = 0; mark = m } }))
    (ap (without id) (vain_held k h n e lits id x q) ∙ added_dropped k.store.held id lits (sym (ap rising (vain_held k h n e lits id x q)) ∙ kept.rises))
    (ap (λ (z : Kernel). z.store.mark) q ∙ x.mark)
    ∙ (ap (λ (z : Kernel). let y : Kernel = record z { entries = k.entries; store = record { held = k.store.held; given = 0; mark = k.store.mark } } in y) q
    ∙ ap (λ (z : Kernel). let y : Kernel = record (plain_kernel z) { entries = k.entries; store = record { held = k.store.held; given = 0; mark = k.store.mark } } in y) x.is))

-- where the entry is held, all other clauses keep their ids
pub holds_longer : (k h : Kernel) (e : Shared) (lits : List InLit) (id : ℕ) → Holds k h e lits id → Longer k h × (h.maps ≡ k.maps)
holds_longer k h e lits id x = (record { news = held_as id false lits ∷ []; held = x.held; fresh = and_from _ _ (le-leb _ _ x.fresh) refl }, ap (λ (z : Kernel). z.maps) x.is)

-- where nothing but the entry is noted, too
pub noted_longer : (k : Kernel) (entries : List Shared) → Longer k (record k { entries = entries }) × (k.maps ≡ k.maps)
noted_longer k entries = (record { news = []; held = sym (append-nil k.store.held); fresh = refl }, refl)

-- a clause of one literal touches its variable
one_touches : (m : Maps) (lits : List InLit) (l : OwnLit) (id : ℕ) → own_clause m lits ≡ l ∷ [] → filter (λ h. not (touches m l.var.0 h)) (held_as id false lits ∷ []) ≡ []
one_touches m lits l id e = go (touches m l.var.0 (held_as id false lits)) (ap (mentions l.var.0) e ∙ or_left _ _ (eq-eqb l.var.0 l.var.0 refl))
  where
    go : (b : Bool) → b ≡ true → cond (not b) (held_as id false lits ∷ []) [] ≡ []
    go true f = refl
    go false f = absurd (false≢true f)

-- where one literal is held and then fixed, its clause goes again, and the others keep their ids but for those that hold its variable
pub fixed_keeps : (k h n : Kernel) (e : Shared) (lits : List InLit) (id : ℕ) (l : OwnLit) → Holds k h e lits id → own_clause k.maps lits ≡ l ∷ [] → Keeps h n l.var.0 → plain n.maps ≡ plain (retired l.var.0 h.maps)
    → Keeps k n l.var.0 × (plain n.maps ≡ plain (retired l.var.0 k.maps))
fixed_keeps k h n e lits id l x o y p = (
  record {
    news = y.news;
    held = y.held
        ∙ ap (λ (z : List Held). z ++ y.news)
        (ap₂ (λ (m : Maps) (hs : List Held). filter (λ (c : Held). not (touches m l.var.0 c)) hs) maps x.held
        ∙ (filter-append (λ (c : Held). not (touches k.maps l.var.0 c)) k.store.held (held_as id false lits ∷ [])
        ∙ (ap (λ (z : List Held). filter (λ (c : Held). not (touches k.maps l.var.0 c)) k.store.held ++ z) (one_touches k.maps lits l id o) ∙ append-nil (filter (λ (c : Held). not (touches k.maps l.var.0 c)) k.store.held))));
    fresh = all_mono (λ (c : Held). nat_le h.store.given c.id) (λ (c : Held). nat_le k.store.given c.id)
        (λ c g. let a : k.store.given ≤ id = x.fresh in let b : id < h.store.given = x.given in let d : h.store.given ≤ c.id = leb-true _ _ g in le-leb _ _ (omega arith)) y.news y.fresh;
  },
  p ∙ ap (λ (m : Maps). plain (retired l.var.0 m)) maps,
)
  where
    maps : h.maps ≡ k.maps
    maps = ap (λ (z : Kernel). z.maps) x.is

-- an entry that waits leaves all
pub waits_leaves : (o : Option Lit) (form : Option (List OwnLit)) (k n : Kernel) (v : Var) → option_map (λ l. l.var) o ≡ Some v → n ≡ k → ImportLeaves o form k n
waits_leaves None form k n v e q = absurd (none-some v e)
waits_leaves (Some l) form k n v e q = q

-- one of which no literal is away leaves what it does
pub taken_leaves : (o : Option Lit) (form p : Option (List OwnLit)) (k n : Kernel) → o ≡ None → form ≡ p → Leaves p k n → ImportLeaves o form k n
taken_leaves o form p k n e f x = subst (λ (z : Option Lit). ImportLeaves z form k n) (sym e) (subst (λ (z : Option (List OwnLit)). Leaves z k n) (sym f) x)
