-- A kernel stands when an entry that fixes or replaces a variable is put into it.
use Rattle.std.proofs.Common.{◌≡◌, ℕ, Bool, true, false, not, List, [], ◌∷◌, ◌++◌, refl, sym, ap, subst, ◌∙◌, get_or, set, filter, map, Option, Some, None, is_some, ◌≤◌, length, ◌+◌, length-append, arith, ap₂, take}
use Rattle.std.proofs.lemmas.Bool.{or_right, false≢true}
use Rattle.std.proofs.lemmas.List.{map-set, take-append-le}
use Rattle.std.specs.List.{list_all}
use Rattle.sat_lits.specs.Truth.{with_value}
use Rattle.sat_lits.specs.ListLaws.{all_mono}
use Rattle.sat_lits.specs.declared.literal.OwnLit.{OwnLit}
use Rattle.sat_lits.specs.declared.literal.Inner.{Inner}
use Rattle.sat_lits.specs.declared.literal.InLit.{InLit}
use Rattle.rebuild_stack.specs.Values.{each_lit}
use Rattle.rebuild_stack.specs.Entries.{named}
use Rattle.rebuild_stack.specs.Roots.{root, root_passes}
use Rattle.rebuild_stack.specs.PutIn.{put_in_all}
use Rattle.rebuild_stack.specs.CommonLaws.{each_mono}
use Rattle.rebuild_stack.specs.declared.entry.Entry.{Entry}
use Rattle.rebuild_stack.specs.declared.entry.Root.{Root}
use Rattle.rebuild_stack.specs.declared.entry.Root.TheVariants.{Known, Last, Lost}
use Rattle.clause_store.specs.Store.{Store, Held, IsKept, hard_of, learned_of, marked}
use Rattle.var_maps.specs.Maps.{Maps, Matched, inner_at, retired, plain}
use Rattle.state_laws.specs.State.{State, is_active, outers_from}
use Rattle.state_laws.specs.Stands.{Stands}
use Rattle.state_laws.specs.Resolution.{mentions}
use Rattle.state_laws.specs.Moves.{put_through, put_into}
use Rattle.state_laws.specs.Conditions.{Pushable, EntryFollows}
use Rattle.state_laws.specs.Held.{own_clause, own_clauses, has_inner, touches, is_ready, InClause, strip, in_own, put_each, without_ids, ExtendsBy, Collected}
use Rattle.state_laws.specs.Kernel.{Kernel, state_of, Standing, Keeps}
use Rattle.state_laws.specs.PlaceLaws.{root_step, with_false}
use Rattle.state_laws.specs.PutIntoLaws.{put_into-Stands}
use Rattle.state_laws.specs.MarkLaws.{marked_pass, collected_marked, collected_marked_clauses}
use Rattle.state_laws.specs.ViewLaws.{state_of_parts, clauses_of, clauses_of-filter, clauses_of-strip, listed, listed-put_each, map_map, news_of, both_lists, collected_held, collected_clauses, retired_view, get_is_some}

passes_more : (p q : OwnLit → Bool) (r : Root) → ((l : OwnLit) → p l ≡ true → q l ≡ true) → root_passes p r ≡ true → root_passes q r ≡ true
passes_more p q (Known x) h e = refl
passes_more p q (Last l) h e = h l e
passes_more p q (Lost v) h e = refl

-- what the literals of the clauses with the entry's variable come to is active
pub pushed_ready : (k : Kernel) (e : Entry) → Pushable (state_of k) e → Stands (state_of k) → list_all (is_ready k.maps (root (e ∷ [])) (named e)) k.store.held ≡ true
pushed_ready k e p h =
    all_mono (λ (x : Held). list_all (λ (l : OwnLit). is_active (state_of k) l.var.0) (own_clause k.maps x.lits)) (is_ready k.maps (root (e ∷ [])) (named e))
    (λ x a. or_right (not (touches k.maps (named e) x)) (list_all (λ l. root_passes (has_inner k.maps) (root (e ∷ []) l)) (own_clause k.maps x.lits))
    (all_mono (λ (l : OwnLit). is_active (state_of k) l.var.0) (λ (l : OwnLit). root_passes (has_inner k.maps) (root (e ∷ []) l))
    (λ l b. passes_more (λ j. with_value (is_active (state_of k)) (named e) false j.var.0) (has_inner k.maps) (root (e ∷ []) l)
    (λ j c. sym (get_is_some k.maps.inners j.var.0) ∙ with_false (is_active (state_of k)) (named e) j.var.0 c)
    (root_step (is_active (state_of k)) e p.kept p.others l b)) (own_clause k.maps x.lits) a))
    k.store.held
    (both_lists k.maps (list_all (λ (l : OwnLit). is_active (state_of k) l.var.0)) k.store.held h.places.placed.hard h.places.placed.learned)

-- an active variable has an inner number
pub some_inner : (o : Option Inner) → is_some o ≡ true → (i : Inner) × (o ≡ Some i)
some_inner None e = absurd (false≢true e)
some_inner (Some i) e = (i, refl)

-- the clauses with the entry's variable were collected, their new forms added to make the store t, and then dropped; the entry was pushed and its variable retired
pub record Pushed (k n : Kernel) (e : Entry) (ids : List ℕ) (clauses : List InClause) (t : Store) : Type 0 where
  pub items : n.items ≡ k.items
  pub entries : n.entries ≡ k.entries
  pub definitions : n.definitions ≡ k.definitions
  pub maps : plain n.maps ≡ plain (retired (named e) k.maps)
  pub store : n.store ≡ without_ids ids t
  pub stack : n.stack ≡ k.stack ++ e ∷ []
  pub okay : n.okay ≡ k.okay
  pub stack_mark : n.stack_mark ≡ k.stack_mark
  pub within : k.stack_mark ≤ length k.stack
  pub collected : Collected k.maps (root (e ∷ [])) (named e) k.store.held ids clauses
  pub extends : ExtendsBy k.store t clauses
  pub matched : Matched k.maps
  pub kept : IsKept k.store

pushed_held : (k n : Kernel) (e : Entry) (ids : List ℕ) (clauses : List InClause) (t : Store) (p : Pushed k n e ids clauses t) → n.store.held ≡ filter (λ h. not (touches k.maps (named e) h)) k.store.held ++ p.extends.news
pushed_held k n e ids clauses t p = ap (λ (s : Store). s.held) p.store ∙ collected_held k.maps (named e) k.store t ids clauses p.collected.doomed p.kept p.extends

-- clauses without the variable keep their ids
pub pushed_keeps : (k n : Kernel) (e : Entry) (ids : List ℕ) (clauses : List InClause) (t : Store) → Pushed k n e ids clauses t → Keeps k n (named e)
pushed_keeps k n e ids clauses t p = record { news = p.extends.news; held = pushed_held k n e ids clauses t p; fresh = p.extends.fresh }

through : (k n : Kernel) (e : Entry) (ids : List ℕ) (clauses : List InClause) (t : Store) → Pushed k n e ids clauses t → (test : Bool → Bool) → clauses_of k.maps test n.store.held ≡ put_through e (clauses_of k.maps test k.store.held)
through k n e ids clauses t p test =
    collected_clauses k.maps (named e) test k.store n.store.held p.extends.news (put_in_all (root (e ∷ [])) (filter (mentions (named e)) (clauses_of k.maps test k.store.held))) (pushed_held k n e ids clauses t p)
    (news_of k.maps test k.store t clauses (put_each (root (e ∷ [])) (map (λ h. in_own k.maps (strip h)) (filter (touches k.maps (named e)) k.store.held))) p.collected.become p.extends
    ∙ (listed-put_each test (root (e ∷ [])) (map (λ h. in_own k.maps (strip h)) (filter (touches k.maps (named e)) k.store.held))
    ∙ ap (put_in_all (root (e ∷ [])))
    (sym (ap (listed test) (map_map (in_own k.maps) strip (filter (touches k.maps (named e)) k.store.held)))
    ∙ (sym (clauses_of-strip k.maps test (filter (touches k.maps (named e)) k.store.held)) ∙ clauses_of-filter k.maps test (mentions (named e)) k.store.held))))

left_marked : (k n : Kernel) (e : Entry) (ids : List ℕ) (clauses : List InClause) (t : Store) → Pushed k n e ids clauses t → own_clauses k.maps (learned_of (marked n.store)) ≡ (put_into e (state_of k)).marked_learned
left_marked k n e ids clauses t p = collected_marked_clauses k.maps (named e) k.store (marked n.store) (ap marked p.store ∙ collected_marked k.maps (named e) k.store t ids clauses p.collected.doomed p.kept p.extends)

-- it is seen as the state that the entry is put into
pub pushed_state : (k n : Kernel) (e : Entry) (ids : List ℕ) (clauses : List InClause) (t : Store) → Pushed k n e ids clauses t → Pushable (state_of k) e → Stands (put_into e (state_of k)) → state_of n ≡ put_into e (state_of k)
pushed_state k n e ids clauses t p q h =
    state_of_parts n p.items p.entries p.definitions
    (view (hard_of n.store.held) (put_through e (state_of k).hard) (through k n e ids clauses t p not) h.places.placed.hard)
    (view (learned_of n.store.held) (put_through e (state_of k).learned) (through k n e ids clauses t p (λ b. b)) h.places.placed.learned)
    p.stack
    (ap (λ (m : Maps). map is_some m.inners) p.maps ∙ map-set is_some k.maps.inners (named e) None)
    p.okay
    (view (learned_of (marked n.store)) (put_into e (state_of k)).marked_learned (left_marked k n e ids clauses t p)
    (subst (λ (z : List (List OwnLit)). each_lit (λ l. is_active (put_into e (state_of k)) l.var.0) z ≡ true) (left_marked k n e ids clauses t p)
    (marked_pass (list_all (λ (l : OwnLit). is_active (put_into e (state_of k)) l.var.0)) k.maps n.store
    (subst (λ (z : List (List OwnLit)). each_lit (λ l. is_active (put_into e (state_of k)) l.var.0) z ≡ true) (sym (through k n e ids clauses t p (λ b. b))) h.places.placed.learned))))
    (ap₂ {C = List Entry} take p.stack_mark p.stack ∙ take-append-le k.stack_mark k.stack (e ∷ []) p.within)
  where
    i : (i : Inner) × (inner_at k.maps (named e) ≡ Some i)
    i = some_inner (inner_at k.maps (named e)) (sym (get_is_some k.maps.inners (named e)) ∙ q.active)

    active : (j : ℕ) → is_active (put_into e (state_of k)) j ≡ is_some (get_or (set k.maps.inners (named e) None) j None)
    active j = ap (λ (z : List Bool). get_or z j false) (sym (map-set is_some k.maps.inners (named e) None)) ∙ get_is_some (set k.maps.inners (named e) None) j

    view : (cs : List (List InLit)) (made : List (List OwnLit)) → own_clauses k.maps cs ≡ made → each_lit (λ l. is_active (put_into e (state_of k)) l.var.0) made ≡ true → own_clauses n.maps cs ≡ made
    view cs made f a =
        ap (λ (m : Maps). own_clauses m cs) p.maps
        ∙ (sym (retired_view k.maps (named e) i.0 i.1 p.matched cs
        (each_mono (λ (l : OwnLit). is_active (put_into e (state_of k)) l.var.0) (λ (l : OwnLit). is_some (get_or (set k.maps.inners (named e) None) l.var.0 None)) (λ l b. sym (active l.var.0) ∙ b) (own_clauses k.maps cs)
        (ap (each_lit (λ (l : OwnLit). is_active (put_into e (state_of k)) l.var.0)) f ∙ a)))
        ∙ f)

-- and stands
pub pushed-Standing : (k n : Kernel) (e : Entry) (ids : List ℕ) (clauses : List InClause) (t : Store) → Pushed k n e ids clauses t → Pushable (state_of k) e → EntryFollows (state_of k) e → Standing k → Standing n
pushed-Standing k n e ids clauses t p q f h =
    record {
      stands = subst (λ (s : State). Stands s) (sym (pushed_state k n e ids clauses t p q (put_into-Stands e (state_of k) q f h.stands))) (put_into-Stands e (state_of k) q f h.stands);
      outers = ap (λ (m : Maps). map (λ v. v.0) m.outers) p.maps ∙ (h.outers ∙ ap (outers_from 0) (sym p.definitions));
      private = ap (map is_some) p.definitions ∙ (h.private ∙ sym (ap (λ (m : Maps). map (λ o. not (is_some o)) m.outer_numbers) p.maps));
      within = let b : n.stack_mark ≡ k.stack_mark = p.stack_mark in let c : length n.stack ≡ length k.stack + 1 = ap length p.stack ∙ length-append k.stack (e ∷ []) in omega (arith, h.within, b, c);
    }
