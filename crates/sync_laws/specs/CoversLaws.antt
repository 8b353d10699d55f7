-- What is met stays so.
use Rattle.std.proofs.Common.{◌≡◌, ℕ, suc, ◌+◌, ◌==◌, nat_lt, get_or, replicate, Bool, true, false, cond, not, ◌||◌, List, [], ◌∷◌, ◌++◌, Option, Some, None, filter, fold, length, take, drop, option_to_list, refl, sym, ap, ap₂, subst, ◌∙◌, append-nil, append_assoc}
use Rattle.std.proofs.Math.Path.{fun_ext}
use Rattle.std.proofs.lemmas.Bool.{and_parts, and_from, or_parts, or_left, or_right, not-true, ltb-true, false≢true, true≢false}
use Rattle.std.proofs.lemmas.List.{get_or_append_left}
use Rattle.std.proofs.lemmas.List.Folds.{list_all-map, list_any-append}
use Rattle.std.proofs.lemmas.List.Elements.{filter-append, filter_map-append}
use Rattle.std.specs.List.{list_any, list_all, cons_option}
use Rattle.sat_lits.specs.Truth.{signed}
use Rattle.sat_lits.specs.ListLaws.{all_mono, all_filter}
use Rattle.sat_lits.specs.declared.literal.Lit.{Lit}
use Rattle.sat_lits.specs.declared.literal.Own.{Own}
use Rattle.sat_lits.specs.declared.literal.OwnLit.{OwnLit}
use Rattle.sat_lits.specs.Formulas.{names_known}
use Rattle.sat_lits.specs.declared.formula.Item.{Item}
use Rattle.sat_lits.specs.declared.formula.Item.TheVariants.{Clause}
use Rattle.sat_lits.specs.declared.shared.Shared.{Shared}
use Rattle.rebuild_stack.specs.Entries.{named, is_gone}
use Rattle.rebuild_stack.specs.Roots.{turned, root, is_lost}
use Rattle.rebuild_stack.specs.PutIn.{same_lit, add_root, put_in, put_in_all, is_clean}
use Rattle.rebuild_stack.specs.RootLaws.{never_lost, root_unnamed}
use Rattle.rebuild_stack.specs.declared.entry.Entry.{Entry}
use Rattle.rebuild_stack.specs.declared.entry.Entry.TheVariants.{Fix, Equal, Gone}
use Rattle.rebuild_stack.specs.declared.entry.Root.{Root}
use Rattle.rebuild_stack.specs.declared.entry.Root.TheVariants.{Known, Last, Lost}
use Rattle.state_laws.specs.declared.definition.Definition.{Definition}
use Rattle.state_laws.specs.State.{State, to_own, outers_from, outer_count}
use Rattle.state_laws.specs.Stands.{IsPlaced}
use Rattle.state_laws.specs.ExtendLaws.{outers_from-append}
use Rattle.state_laws.specs.RestoreLaws.{split_at, Clear, between}
use Rattle.state_laws.specs.Resolution.{is_of, mentions, resolvents}
use Rattle.state_laws.specs.Moves.{put_through, put_into, with_hard, with_learned, taking, taken, imported, learning, refuted, own_form, eliminated, restored, extended, grown}
use Rattle.state_laws.specs.Conditions.{Restorable, Takable}
use Rattle.sync_laws.specs.Met.{bindings, kept_form, gone_clauses, is_within, are_subsumed, is_covered, Covers}
use Rattle.sync_laws.specs.FitLaws.{root_fits, left_passes, put_in_fits, put_in_left, clean_consistent}
use Rattle.sync_laws.specs.CoverLaws.{within_refl, subsumed_through, put_filter, all_split, any_here, any_cons, subsumed_right, subsumed_left, subsumed_refl, subsumed_both, subsumed_twice, covered_by, covered_put, all_put_split, on_root, opposite_root, IsWay}

on_cond : (r : OwnLit → Root) (b : Bool) (x y : Root) → on_root r (cond b x y) ≡ cond b (on_root r x) (on_root r y)
on_cond r true x y = refl
on_cond r false x y = refl

-- a stack is followed in two parts
pub root-append : (s t : List Entry) (l : OwnLit) → root (s ++ t) l ≡ on_root (root t) (root s l)
root-append [] t l = refl
root-append (Fix k ∷ s) t l =
    ap (λ z. cond (l.var.0 == k.var.0) (Known (signed l.negative (not k.negative))) z) (root-append s t l)
    ∙ sym (on_cond (root t) (l.var.0 == k.var.0) (Known (signed l.negative (not k.negative))) (root s l))
root-append (Equal v k ∷ s) t l =
    ap₂ (cond (l.var.0 == v.0)) (root-append s t (turned l.negative k)) (root-append s t l)
    ∙ sym (on_cond (root t) (l.var.0 == v.0) (root s (turned l.negative k)) (root s l))
root-append (Gone v cs ∷ s) t l =
    ap (λ z. cond (l.var.0 == v.0) (Lost v) z) (root-append s t l)
    ∙ sym (on_cond (root t) (l.var.0 == v.0) (Lost v) (root s l))

opposite_cond : (b : Bool) (x y : Root) → opposite_root (cond b x y) ≡ cond b (opposite_root x) (opposite_root y)
opposite_cond true x y = refl
opposite_cond false x y = refl

signed_turned : (a b : Bool) → signed (signed true a) b ≡ not (signed a b)
signed_turned true true = refl
signed_turned true false = refl
signed_turned false b = refl

turned_turned : (a : Bool) (k : OwnLit) → turned (signed true a) k ≡ turned true (turned a k)
turned_turned true k = ap (λ (b : Bool). let z : OwnLit = record { var = k.var; negative = b } in z) (go k.negative)
  where
    go : (b : Bool) → b ≡ signed true (signed true b)
    go true = refl
    go false = refl
turned_turned false k = refl

-- an entry that fixes or replaces a variable gives opposite literals opposite roots
pub entry_way : (e : Entry) → is_gone e ≡ false → IsWay (root (e ∷ []))
entry_way (Fix j) g =
    record {
      kept = never_lost (Fix j) g;
      opposite = λ k. ap (λ b. cond (k.var.0 == j.var.0) (Known b) (Last (turned true k))) (signed_turned k.negative (not j.negative)) ∙ sym (opposite_cond (k.var.0 == j.var.0) (Known (signed k.negative (not j.negative))) (Last k));
    }
entry_way (Equal v j) g =
    record {
      kept = never_lost (Equal v j) g;
      opposite = λ k. ap (λ (m : OwnLit). cond (k.var.0 == v.0) (Last m) (Last (turned true k))) (turned_turned k.negative j) ∙ sym (opposite_cond (k.var.0 == v.0) (Last (turned k.negative j)) (Last k));
    }
entry_way (Gone v cs) g = absurd (true≢false g)

binding_one : (e : Entry) (b : Bool) → b ≡ false → cond (not b) (e ∷ []) [] ≡ e ∷ []
binding_one e true h = absurd (true≢false h)
binding_one e false h = refl

-- a new entry that fixes or replaces a variable is the newest of them
pub bindings_push : (s : List Entry) (e : Entry) → is_gone e ≡ false → bindings (s ++ e ∷ []) ≡ bindings s ++ e ∷ []
bindings_push s e g = filter-append (λ x. not (is_gone x)) s (e ∷ []) ∙ ap (λ z. bindings s ++ z) (binding_one e (is_gone e) g)

root_push : (s : List Entry) (e : Entry) → is_gone e ≡ false → (l : OwnLit) → root (bindings (s ++ e ∷ [])) l ≡ on_root (root (e ∷ [])) (root (bindings s) l)
root_push s e g l = ap (λ z. root z l) (bindings_push s e g) ∙ root-append (bindings s) (e ∷ []) l

put_in_same : {L : Type 0} (r t : L → Root) → ((l : L) → r l ≡ t l) → (c : List L) → put_in r c ≡ put_in t c
put_in_same {L = L} r t h c = ap (λ (z : L → Root). put_in z c) (fun_ext h)

put_in_all_same : {L : Type 0} (r t : L → Root) → ((l : L) → r l ≡ t l) → (cs : List (List L)) → put_in_all r cs ≡ put_in_all t cs
put_in_all_same {L = L} r t h cs = ap (λ (z : L → Root). put_in_all z cs) (fun_ext h)

-- the clauses of the `Gone` entries with one more entry put in have all literals of those under the new stack
gone_push : (s : List Entry) (e : Entry) → is_gone e ≡ false → are_subsumed (put_in_all (root (e ∷ [])) (gone_clauses s)) (gone_clauses (s ++ e ∷ [])) ≡ true
gone_push [] e g = refl
gone_push (Fix l ∷ s) e g = gone_push s e g
gone_push (Equal v l ∷ s) e g = gone_push s e g
gone_push (Gone v cs ∷ s) e g =
    subst (λ z. are_subsumed z (gone_clauses ((Gone v cs ∷ s) ++ e ∷ [])) ≡ true)
    (sym (filter_map-append (put_in (root (e ∷ []))) (put_in_all (root (bindings s)) (filter (mentions v.0) cs)) (gone_clauses s)))
    (subsumed_both (put_in_all (root (e ∷ [])) (put_in_all (root (bindings s)) (filter (mentions v.0) cs))) (put_in_all (root (e ∷ [])) (gone_clauses s)) (gone_clauses ((Gone v cs ∷ s) ++ e ∷ []))
    (subsumed_right (put_in_all (root (e ∷ [])) (put_in_all (root (bindings s)) (filter (mentions v.0) cs))) (put_in_all (root (bindings (s ++ e ∷ []))) (filter (mentions v.0) cs)) (gone_clauses (s ++ e ∷ []))
    (subst (λ z. are_subsumed (put_in_all (root (e ∷ [])) (put_in_all (root (bindings s)) (filter (mentions v.0) cs))) z ≡ true)
    (put_in_all_same (λ l. on_root (root (e ∷ [])) (root (bindings s) l)) (root (bindings (s ++ e ∷ []))) (λ l. sym (root_push s e g l)) (filter (mentions v.0) cs))
    (subsumed_twice (root (bindings s)) (root (e ∷ [])) (filter (mentions v.0) cs))))
    (subsumed_left (put_in_all (root (e ∷ [])) (gone_clauses s)) (gone_clauses (s ++ e ∷ [])) (put_in_all (root (bindings (s ++ e ∷ []))) (filter (mentions v.0) cs)) (gone_push s e g)))

-- clauses without the entry's variable have all literals of themselves with the entry put in
unmentioned_put : (e : Entry) (cs : List (List OwnLit)) → are_subsumed (put_in_all (root (e ∷ [])) (filter (λ c. not (mentions (named e) c)) cs)) (filter (λ c. not (mentions (named e) c)) cs) ≡ true
unmentioned_put e [] = refl
unmentioned_put e (c ∷ cs) = go (mentions (named e) c) refl (unmentioned_put e cs)
  where
    left : (d : List OwnLit) → mentions (named e) d ≡ false → (x : List OwnLit) → list_all (λ l. root_fits (λ j. list_any (same_lit j) x) (root (e ∷ []) l)) d ≡ true → is_within d x ≡ true
    left [] m x f = refl
    left (l ∷ d) m x f =
        let a : (is_of (named e) l ≡ false) × (mentions (named e) d ≡ false) = or_parts _ _ m in
        let b : (root_fits (λ j. list_any (same_lit j) x) (root (e ∷ []) l) ≡ true) × (list_all (λ k. root_fits (λ j. list_any (same_lit j) x) (root (e ∷ []) k)) d ≡ true) = and_parts _ _ f in
        and_from _ _ (sym (ap (root_fits (λ j. list_any (same_lit j) x)) (root_unnamed (e ∷ []) l (ap (λ b. b || false) a.0))) ∙ b.0) (left d a.1 x b.1)

    kept : mentions (named e) c ≡ false → (o : Option (List OwnLit)) → put_in (root (e ∷ [])) c ≡ o
        → are_subsumed (put_in_all (root (e ∷ [])) (filter (λ d. not (mentions (named e) d)) cs)) (filter (λ d. not (mentions (named e) d)) cs) ≡ true
        → are_subsumed (cons_option o (put_in_all (root (e ∷ [])) (filter (λ d. not (mentions (named e) d)) cs))) (c ∷ filter (λ d. not (mentions (named e) d)) cs) ≡ true
    kept m None f h = subsumed_left (put_in_all (root (e ∷ [])) (filter (λ d. not (mentions (named e) d)) cs)) (filter (λ d. not (mentions (named e) d)) cs) (c ∷ []) h
    kept m (Some x) f h =
        and_from _ _ (or_left _ _ (left c m x (put_in_fits (root (e ∷ [])) c x f)))
        (subsumed_left (put_in_all (root (e ∷ [])) (filter (λ d. not (mentions (named e) d)) cs)) (filter (λ d. not (mentions (named e) d)) cs) (c ∷ []) h)

    go : (b : Bool) → mentions (named e) c ≡ b → are_subsumed (put_in_all (root (e ∷ [])) (filter (λ d. not (mentions (named e) d)) cs)) (filter (λ d. not (mentions (named e) d)) cs) ≡ true
        → are_subsumed (put_in_all (root (e ∷ [])) (cond (not b) (c ∷ filter (λ d. not (mentions (named e) d)) cs) (filter (λ d. not (mentions (named e) d)) cs))) (cond (not b) (c ∷ filter (λ d. not (mentions (named e) d)) cs) (filter (λ d. not (mentions (named e) d)) cs)) ≡ true
    go true m h = h
    go false m h = kept m (put_in (root (e ∷ [])) c) refl h

-- clauses with an entry put in have all literals of those that the move leaves
through_put : (e : Entry) (cs : List (List OwnLit)) → are_subsumed (put_in_all (root (e ∷ [])) cs) (put_through e cs) ≡ true
through_put e cs =
    all_put_split (λ c. list_any (λ d. is_within d c) (put_through e cs)) (root (e ∷ [])) (mentions (named e)) cs
    (subsumed_left (put_in_all (root (e ∷ [])) (filter (mentions (named e)) cs)) (put_in_all (root (e ∷ [])) (filter (mentions (named e)) cs)) (filter (λ c. not (mentions (named e) c)) cs) (subsumed_refl (put_in_all (root (e ∷ [])) (filter (mentions (named e)) cs))))
    (subsumed_right (put_in_all (root (e ∷ [])) (filter (λ c. not (mentions (named e) c)) cs)) (filter (λ c. not (mentions (named e) c)) cs) (put_in_all (root (e ∷ [])) (filter (mentions (named e)) cs)) (unmentioned_put e cs))

-- what is met stays so when an entry that fixes or replaces a variable is put into the state
pub put_into-Covers : (e : Entry) (s : State) (c : List Lit) → is_gone e ≡ false → Covers s c → Covers (put_into e s) c
put_into-Covers e s c g m =
    covered_by (put_in_all (root (e ∷ [])) (s.hard ++ gone_clauses s.stack)) (put_through e s.hard ++ gone_clauses (s.stack ++ e ∷ [])) (kept_form (put_into e s) c)
    (subst (λ z. are_subsumed z (put_through e s.hard ++ gone_clauses (s.stack ++ e ∷ [])) ≡ true) (sym (filter_map-append (put_in (root (e ∷ []))) s.hard (gone_clauses s.stack)))
    (subsumed_both (put_in_all (root (e ∷ [])) s.hard) (put_in_all (root (e ∷ [])) (gone_clauses s.stack)) (put_through e s.hard ++ gone_clauses (s.stack ++ e ∷ []))
    (subsumed_right (put_in_all (root (e ∷ [])) s.hard) (put_through e s.hard) (gone_clauses (s.stack ++ e ∷ [])) (through_put e s.hard))
    (subsumed_left (put_in_all (root (e ∷ [])) (gone_clauses s.stack)) (gone_clauses (s.stack ++ e ∷ [])) (put_through e s.hard) (gone_push s.stack e g))))
    (subst (λ o. is_covered (put_in_all (root (e ∷ [])) (s.hard ++ gone_clauses s.stack)) o ≡ true)
    (put_in_same (λ l. on_root (root (e ∷ [])) (root (bindings s.stack) (to_own s.definitions l))) (λ l. root (bindings (s.stack ++ e ∷ [])) (to_own s.definitions l)) (λ l. sym (root_push s.stack e g (to_own s.definitions l))) c)
    (covered_put (λ l. root (bindings s.stack) (to_own s.definitions l)) (root (e ∷ [])) (entry_way e g) (s.hard ++ gone_clauses s.stack) c m))

-- when the hard clauses become others, of which each old one has all literals of one
pub with_hard-Covers : (cs : List (List OwnLit)) (s : State) (c : List Lit) → are_subsumed s.hard cs ≡ true → Covers s c → Covers (with_hard cs s) c
with_hard-Covers cs s c e m =
    covered_by (s.hard ++ gone_clauses s.stack) (cs ++ gone_clauses s.stack) (kept_form s c)
    (subsumed_both s.hard (gone_clauses s.stack) (cs ++ gone_clauses s.stack) (subsumed_right s.hard cs (gone_clauses s.stack) e) (subsumed_left (gone_clauses s.stack) (gone_clauses s.stack) cs (subsumed_refl (gone_clauses s.stack)))) m

more_hard : (cs more gone : List (List OwnLit)) (o : Option (List OwnLit)) → is_covered (cs ++ gone) o ≡ true → is_covered ((cs ++ more) ++ gone) o ≡ true
more_hard cs more gone o m =
    covered_by (cs ++ gone) ((cs ++ more) ++ gone) o
    (subsumed_both cs gone ((cs ++ more) ++ gone) (subsumed_right cs (cs ++ more) gone (subsumed_right cs cs more (subsumed_refl cs))) (subsumed_left gone gone (cs ++ more) (subsumed_refl gone))) m

-- when an item is taken with clauses that stand for it
pub taking-Covers : (item : Item) (cs : List (List OwnLit)) (s : State) (c : List Lit) → Covers s c → Covers (taking item cs s) c
taking-Covers item cs s c m = more_hard s.hard cs (gone_clauses s.stack) (kept_form s c) m

-- when a clause is taken as an item
pub taken-Covers : (d : List Lit) (s : State) (c : List Lit) → Covers s c → Covers (taken d s) c
taken-Covers d s c m = more_hard s.hard (option_to_list (own_form s d)) (gone_clauses s.stack) (kept_form s c) m

-- when a shared entry is taken
pub imported-Covers : (x : Shared) (s : State) (c : List Lit) → Covers s c → Covers (imported x s) c
imported-Covers x s c m = more_hard s.hard (option_to_list (own_form s x.clause)) (gone_clauses s.stack) (kept_form s c) m

-- when a clause is learned
pub learning-Covers : (d : List OwnLit) (s : State) (c : List Lit) → Covers s c → Covers (learning d s) c
learning-Covers d s c m = m

-- when the learned clauses become others
pub with_learned-Covers : (ds ms : List (List OwnLit)) (s : State) (c : List Lit) → Covers s c → Covers (with_learned ds ms s) c
with_learned-Covers ds ms s c m = m

-- when the state is refuted
pub refuted-Covers : (s : State) (c : List Lit) → Covers s c → Covers (refuted s) c
refuted-Covers s c m = m

-- a list within another in a clean form
clean_put : (c : List OwnLit) → is_clean c ≡ true → left_passes (λ j. list_any (same_lit j) c) (put_in Last c) ≡ true
clean_put c e = put_in_left (λ j. list_any (same_lit j) c) (clean_consistent c e) Last c (within_refl c)

clean_all : (cs : List (List OwnLit)) → list_all is_clean cs ≡ true → are_subsumed cs (put_in_all Last cs) ≡ true
clean_all [] e = refl
clean_all (c ∷ cs) e =
    let a : (is_clean c ≡ true) × (list_all is_clean cs ≡ true) = and_parts _ _ e in
    and_from _ _
    (any_here (λ j. list_any (same_lit j) c) (λ y. is_within y c) (λ y g. g) (put_in Last c) (put_in_all Last cs) (clean_put c a.0))
    (all_mono (λ x. list_any (λ d. is_within d x) (put_in_all Last cs)) (λ x. list_any (λ d. is_within d x) (cons_option (put_in Last c) (put_in_all Last cs)))
    (λ x f. any_cons (λ d. is_within d x) (put_in Last c) (put_in_all Last cs) f) cs (clean_all cs a.1))

filter_twice : {X : Type 0} (q : X → Bool) (xs : List X) → filter q (filter q xs) ≡ filter q xs
filter_twice q [] = refl
filter_twice {X = X} q (x ∷ xs) = go (q x) refl (filter_twice q xs)
  where
    again : (b : Bool) → b ≡ true → (rest : List X) → cond b (x ∷ rest) rest ≡ x ∷ rest
    again true e rest = refl
    again false e rest = absurd (false≢true e)

    go : (b : Bool) → q x ≡ b → filter q (filter q xs) ≡ filter q xs → filter q (cond b (x ∷ filter q xs) (filter q xs)) ≡ cond b (x ∷ filter q xs) (filter q xs)
    go true e h = again (q x) e (filter q (filter q xs)) ∙ ap (λ z. x ∷ z) h
    go false e h = h

gone_gone : (s : List Entry) (v : Own) (cs : List (List OwnLit)) → bindings (s ++ Gone v cs ∷ []) ≡ bindings s
gone_gone s v cs = filter-append (λ x. not (is_gone x)) s (Gone v cs ∷ []) ∙ append-nil (bindings s)

-- the clauses of a new `Gone` entry stand behind those of the others
gone_new : (s : List Entry) (v : Own) (cs : List (List OwnLit)) → gone_clauses (s ++ Gone v cs ∷ []) ≡ gone_clauses s ++ put_in_all Last (filter (mentions v.0) cs)
gone_new [] v cs = append-nil (put_in_all Last (filter (mentions v.0) cs))
gone_new (Fix l ∷ s) v cs = gone_new s v cs
gone_new (Equal u l ∷ s) v cs = gone_new s v cs
gone_new (Gone u ds ∷ s) v cs =
    ap₂ ◌++◌ (ap (λ (z : List Entry). put_in_all (root z) (filter (mentions u.0) ds)) (gone_gone s v cs)) (gone_new s v cs)
    ∙ sym (append_assoc (put_in_all (root (bindings s)) (filter (mentions u.0) ds)) (gone_clauses s) (put_in_all Last (filter (mentions v.0) cs)))

-- when a variable is eliminated: what its clauses had, the entry has
pub eliminated-Covers : (v : Own) (s : State) (c : List Lit) → list_all is_clean s.hard ≡ true → Covers s c → Covers (eliminated v s) c
eliminated-Covers v s c h m =
    subst (λ (z : List Entry). is_covered (left ++ gone_clauses (s.stack ++ Gone v held ∷ [])) (put_in (λ l. root z (to_own s.definitions l)) c) ≡ true) (sym (gone_gone s.stack v held))
    (covered_by (s.hard ++ gone_clauses s.stack) (left ++ gone_clauses (s.stack ++ Gone v held ∷ [])) (kept_form s c)
    (subst (λ z. are_subsumed (s.hard ++ gone_clauses s.stack) (left ++ z) ≡ true) (sym (gone_new s.stack v held))
    (subsumed_both s.hard (gone_clauses s.stack) (left ++ (gone_clauses s.stack ++ block))
    (all_split (λ x. list_any (λ d. is_within d x) (left ++ (gone_clauses s.stack ++ block))) (mentions v.0) s.hard
    (subsumed_left held (gone_clauses s.stack ++ block) left (subsumed_left held block (gone_clauses s.stack)
    (subst (λ z. are_subsumed held (put_in_all Last z) ≡ true) (sym (filter_twice (mentions v.0) s.hard))
    (clean_all held (all_filter is_clean (mentions v.0) is_clean (λ d a b. a) s.hard h)))))
    (subsumed_right (filter (λ d. not (mentions v.0 d)) s.hard) left (gone_clauses s.stack ++ block)
    (subsumed_right (filter (λ d. not (mentions v.0 d)) s.hard) (filter (λ d. not (mentions v.0 d)) s.hard) (resolvents v.0 held) (subsumed_refl (filter (λ d. not (mentions v.0 d)) s.hard)))))
    (subsumed_left (gone_clauses s.stack) (gone_clauses s.stack ++ block) left (subsumed_right (gone_clauses s.stack) (gone_clauses s.stack) block (subsumed_refl (gone_clauses s.stack))))))
    m)
  where
    held : List (List OwnLit)
    held = filter (mentions v.0) s.hard

    left : List (List OwnLit)
    left = filter (λ d. not (mentions v.0 d)) s.hard ++ resolvents v.0 held

    block : List (List OwnLit)
    block = put_in_all Last (filter (mentions v.0) held)

bindings_without : (older newer : List Entry) (v : Own) (cs : List (List OwnLit)) → bindings (older ++ Gone v cs ∷ newer) ≡ bindings (older ++ newer)
bindings_without older newer v cs = filter-append (λ x. not (is_gone x)) older (Gone v cs ∷ newer) ∙ sym (filter-append (λ x. not (is_gone x)) older newer)

fold_agree : {L : Type 0} (test : L → Bool) (r t : L → Root) → ((l : L) → test l ≡ true → r l ≡ t l) → (o : Option (List OwnLit)) (c : List L) → list_all test c ≡ true → fold (λ b l. add_root (r l) b) o c ≡ fold (λ b l. add_root (t l) b) o c
fold_agree test r t h o [] e = refl
fold_agree test r t h o (l ∷ c) e =
    let a : (test l ≡ true) × (list_all test c ≡ true) = and_parts _ _ e in
    ap (λ z. fold (λ b k. add_root (r k) b) (add_root z o) c) (h l a.0) ∙ fold_agree test r t h (add_root (t l) o) c a.1

-- what is put in where the roots agree
pub put_in_agree : {L : Type 0} (test : L → Bool) (r t : L → Root) → ((l : L) → test l ≡ true → r l ≡ t l) → (c : List L) → list_all test c ≡ true → put_in r c ≡ put_in t c
put_in_agree test r t h c e = fold_agree test r t h (Some []) c e

put_in_all_agree : {L : Type 0} (test : L → Bool) (r t : L → Root) → ((l : L) → test l ≡ true → r l ≡ t l) → (cs : List (List L)) → list_all (list_all test) cs ≡ true → put_in_all r cs ≡ put_in_all t cs
put_in_all_agree test r t h [] e = refl
put_in_all_agree test r t h (c ∷ cs) e =
    let a : (list_all test c ≡ true) × (list_all (list_all test) cs ≡ true) = and_parts _ _ e in
    ap₂ cons_option (put_in_agree test r t h c a.0) (put_in_all_agree test r t h cs a.1)

pick_lost : (b : Bool) (s t u : Root) → (is_lost t ≡ false → u ≡ t) → (is_lost s ≡ false → u ≡ s) → is_lost (cond b s t) ≡ false → u ≡ cond b s t
pick_lost true s t u f g h = g h
pick_lost false s t u f g h = f h

pick_both : (b : Bool) (s t x y : Root) → (is_lost s ≡ false → x ≡ s) → (is_lost t ≡ false → y ≡ t) → is_lost (cond b s t) ≡ false → cond b x y ≡ cond b s t
pick_both true s t x y f g h = f h
pick_both false s t x y f g h = g h

-- a literal that is not lost comes to the same by the entries that fix or replace alone
pub root_kept : (s : List Entry) (l : OwnLit) → is_lost (root s l) ≡ false → root (bindings s) l ≡ root s l
root_kept [] l h = refl
root_kept (Fix k ∷ s) l h = pick_both (l.var.0 == k.var.0) (Known (signed l.negative (not k.negative))) (root s l) (Known (signed l.negative (not k.negative))) (root (bindings s) l) (λ _. refl) (root_kept s l) h
root_kept (Equal v k ∷ s) l h = pick_both (l.var.0 == v.0) (root s (turned l.negative k)) (root s l) (root (bindings s) (turned l.negative k)) (root (bindings s) l) (root_kept s (turned l.negative k)) (root_kept s l) h
root_kept (Gone v cs ∷ s) l h = pick_lost (l.var.0 == v.0) (Lost v) (root s l) (root (bindings s) l) (root_kept s l) (λ g. absurd (true≢false g)) h

-- the clauses of the `Gone` entries have all literals of those of the others and of its own, when one is taken out
gone_without : (older newer : List Entry) (v : Own) (cs : List (List OwnLit)) → are_subsumed (gone_clauses (older ++ Gone v cs ∷ newer)) (put_in_all (root (bindings newer)) cs ++ gone_clauses (older ++ newer)) ≡ true
gone_without [] newer v cs =
    subsumed_both (put_in_all (root (bindings newer)) (filter (mentions v.0) cs)) (gone_clauses newer) (put_in_all (root (bindings newer)) cs ++ gone_clauses newer)
    (subsumed_right (put_in_all (root (bindings newer)) (filter (mentions v.0) cs)) (put_in_all (root (bindings newer)) cs) (gone_clauses newer) (put_filter (root (bindings newer)) (mentions v.0) cs))
    (subsumed_left (gone_clauses newer) (gone_clauses newer) (put_in_all (root (bindings newer)) cs) (subsumed_refl (gone_clauses newer)))
gone_without (Fix l ∷ older) newer v cs = gone_without older newer v cs
gone_without (Equal u l ∷ older) newer v cs = gone_without older newer v cs
gone_without (Gone u ds ∷ older) newer v cs =
    subst (λ (z : List Entry). are_subsumed (put_in_all (root z) (filter (mentions u.0) ds) ++ gone_clauses (older ++ Gone v cs ∷ newer)) (put_in_all (root (bindings newer)) cs ++ (put_in_all (root (bindings (older ++ newer))) (filter (mentions u.0) ds) ++ gone_clauses (older ++ newer))) ≡ true)
    (sym (bindings_without older newer v cs))
    (subsumed_both block (gone_clauses (older ++ Gone v cs ∷ newer)) (out ++ (block ++ rest))
    (subsumed_left block (block ++ rest) out (subsumed_right block block rest (subsumed_refl block)))
    (subsumed_through (gone_clauses (older ++ Gone v cs ∷ newer)) (out ++ rest) (out ++ (block ++ rest)) (gone_without older newer v cs)
    (subsumed_both out rest (out ++ (block ++ rest)) (subsumed_right out out (block ++ rest) (subsumed_refl out)) (subsumed_left rest (block ++ rest) out (subsumed_left rest rest block (subsumed_refl rest))))))
  where
    block : List (List OwnLit)
    block = put_in_all (root (bindings (older ++ newer))) (filter (mentions u.0) ds)

    rest : List (List OwnLit)
    rest = gone_clauses (older ++ newer)

    out : List (List OwnLit)
    out = put_in_all (root (bindings newer)) cs

-- when a variable is restored: what its entry had, hard clauses have
pub restored-Covers : (at : ℕ) (v : Own) (cs : List (List OwnLit)) (s : State) (c : List Lit) → Restorable s at v cs → IsPlaced s → Covers s c → Covers (restored at v cs s) c
restored-Covers at v cs s c r p m =
    subst (λ (z : List Entry). is_covered ((s.hard ++ back) ++ gone_clauses (older ++ newer)) (put_in (λ l. root z (to_own s.definitions l)) c) ≡ true)
    (ap bindings stack_is ∙ bindings_without older newer v cs)
    (covered_by (s.hard ++ gone_clauses s.stack) ((s.hard ++ back) ++ gone_clauses (older ++ newer)) (kept_form s c)
    (subsumed_both s.hard (gone_clauses s.stack) ((s.hard ++ back) ++ gone_clauses (older ++ newer))
    (subsumed_right s.hard (s.hard ++ back) (gone_clauses (older ++ newer)) (subsumed_right s.hard s.hard back (subsumed_refl s.hard)))
    (subst (λ (z : List Entry). are_subsumed (gone_clauses z) ((s.hard ++ back) ++ gone_clauses (older ++ newer)) ≡ true) (sym stack_is)
    (subsumed_through (gone_clauses (older ++ Gone v cs ∷ newer)) (put_in_all (root (bindings newer)) cs ++ gone_clauses (older ++ newer)) ((s.hard ++ back) ++ gone_clauses (older ++ newer)) (gone_without older newer v cs)
    (subst (λ z. are_subsumed (z ++ gone_clauses (older ++ newer)) ((s.hard ++ back) ++ gone_clauses (older ++ newer)) ≡ true)
    (sym (put_in_all_agree b.test (root (bindings newer)) (root newer) (λ l t. root_kept newer l (b.found l t)) cs b.passes))
    (subsumed_both back (gone_clauses (older ++ newer)) ((s.hard ++ back) ++ gone_clauses (older ++ newer))
    (subsumed_right back (s.hard ++ back) (gone_clauses (older ++ newer)) (subsumed_left back back s.hard (subsumed_refl back)))
    (subsumed_left (gone_clauses (older ++ newer)) (gone_clauses (older ++ newer)) (s.hard ++ back) (subsumed_refl (gone_clauses (older ++ newer)))))))))
    m)
  where
    older : List Entry
    older = take at s.stack

    newer : List Entry
    newer = drop (suc at) s.stack

    stack_is : s.stack ≡ older ++ Gone v cs ∷ newer
    stack_is = split_at s.stack at (Gone v cs) r.entry

    b : Clear cs newer
    b = between s v cs older newer stack_is p r.roots

    back : List (List OwnLit)
    back = put_in_all (root newer) cs

-- an entry that was taken is met
pub imported-own-Covers : (x : Shared) (s : State) → Takable s x.clause → Covers (imported x s) x.clause
imported-own-Covers x s t =
    go (own_form s x.clause)
    (put_in_agree (λ l. not (is_lost (root s.stack (to_own s.definitions l)))) (λ l. root (bindings s.stack) (to_own s.definitions l)) (λ l. root s.stack (to_own s.definitions l)) (λ l e. root_kept s.stack (to_own s.definitions l) (not-true _ e)) x.clause t.roots)
  where
    go : (o : Option (List OwnLit)) → kept_form s x.clause ≡ o → is_covered ((s.hard ++ option_to_list o) ++ gone_clauses s.stack) (kept_form s x.clause) ≡ true
    go None e = ap (is_covered ((s.hard ++ []) ++ gone_clauses s.stack)) e
    go (Some d) e =
        ap (is_covered ((s.hard ++ d ∷ []) ++ gone_clauses s.stack)) e
        ∙ (list_any-append (λ k. is_within k d) (s.hard ++ d ∷ []) (gone_clauses s.stack)
        ∙ or_left _ _ (list_any-append (λ k. is_within k d) s.hard (d ∷ []) ∙ or_right _ _ (or_left _ _ (within_refl d))))

-- the variables of a clause have their own numbers when more are made
pub own_more : (ds es : List (Option Definition)) (c : List Lit) → names_known (outer_count ds) (Clause c) ≡ true → (r : OwnLit → Root) → put_in (λ l. r (to_own (ds ++ es) l)) c ≡ put_in (λ l. r (to_own ds l)) c
own_more ds es c k r =
    put_in_agree (λ l. nat_lt l.var.0 (outer_count ds)) (λ l. r (to_own (ds ++ es) l)) (λ l. r (to_own ds l))
    (λ l e. ap (λ (n : ℕ). r (let z : OwnLit = record { var = record { 0 = n }; negative = l.negative } in z))
    (ap (λ (z : List ℕ). get_or z l.var.0 0) (outers_from-append 0 ds es) ∙ get_or_append_left (outers_from 0 ds) (outers_from (0 + length ds) es) 0 l.var.0 (ltb-true _ _ e)))
    c (sym (list_all-map (λ n. nat_lt n (outer_count ds)) (λ (l : Lit). l.var.0) c) ∙ k)

-- when an own variable is made, for a clause whose variables were there
pub extended-Covers : (d : Option Definition) (cs : List (List OwnLit)) (s : State) (c : List Lit) → names_known (outer_count s.definitions) (Clause c) ≡ true → Covers s c → Covers (extended d cs s) c
extended-Covers d cs s c k m =
    subst (λ o. is_covered ((s.hard ++ cs) ++ gone_clauses s.stack) o ≡ true) (sym (own_more s.definitions (d ∷ []) c k (root (bindings s.stack))))
    (more_hard s.hard cs (gone_clauses s.stack) (kept_form s c) m)

-- when outer variables are made
pub grown-Covers : (more : ℕ) (s : State) (c : List Lit) → names_known (outer_count s.definitions) (Clause c) ≡ true → Covers s c → Covers (grown more s) c
grown-Covers more s c k m = subst (λ o. is_covered (s.hard ++ gone_clauses s.stack) o ≡ true) (sym (own_more s.definitions (replicate more None) c k (root (bindings s.stack)))) m
