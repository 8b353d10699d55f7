-- What is implied along chains of reasons.
use Rattle.std.proofs.Common.{◌≡◌, ◌⊎◌, ◌<◌, ◌≤◌, ◌-◌, ℕ, Bool, true, false, cond, not, eqb, ◌||◌, List, [], ◌∷◌, ◌++◌, length, take, drop, filter, All, Option, Some, None, refl, sym, ap, subst, ◌∙◌, ⊎_elim, arith, eq-eqb}
use Rattle.std.proofs.lemmas.Bool.{or_cases, or_left, or_right, eqb-true, false≢true, both_ways}
use Rattle.std.proofs.lemmas.List.{take_all}
use Rattle.std.proofs.lemmas.List.Elements.{All-weaker, All-push, All-nil, All-same}
use Rattle.std.specs.Option.{is_some}
use Rattle.std.specs.List.{list_any, list_all}
use Rattle.sat_lits.specs.ListLaws.{all_mono}
use Rattle.sat_lits.specs.declared.literal.Inner.{Inner}
use Rattle.sat_lits.specs.declared.literal.InLit.{InLit}
use Rattle.sat_lits.specs.declared.literal.ClauseId.{ClauseId}
use Rattle.trail.specs.declared.trail.Step.{Step}
use Rattle.trail.specs.Trail.{Assignment, IsKept, set_in, reason_in}
use Rattle.clause_store.specs.Store.{Held, clause_at, is_live}
use Rattle.propagate.specs.Reasons.{names, passes, reasoned}
use Rattle.analyze.specs.declared.chains.Chains.{Chains}
use Rattle.analyze.specs.declared.chains.Link.{Link}
use Rattle.analyze.specs.Marking.{Marking, is_marked, is_root, IsFresh, MarksNew}
use Rattle.analyze.specs.Chains.{either, is_settled, leaves_settled, AreImplied, AtChains, own_or_settled, Fits, IsPassedWhole, InChain, unlooked, HasLinked, HasBegun}
use Rattle.analyze.proofs.Tracking.{with_mark}
use Rattle.analyze.proofs.Marked.{is_marked-push, level_is_set}
use Rattle.analyze.proofs.Shortening.{reason_live}

-- at the start nothing is implied
pub chains_start : (held : List Held) (trail : Assignment) (seen : ℕ → Bool) (chains : Chains) → IsKept trail → IsFresh trail.reserved chains.implied → IsFresh trail.reserved chains.looked → AtChains held trail seen chains
chains_start held trail seen chains k i l = record { kept = k; room = i.enough; looked_room = l.enough; implied = λ v e. absurd (both_ways _ (ap (list_any (λ (w : Inner). eqb w.0 v)) i.none) e) }

-- what an id's clause passes, it passes a weaker test too
names_more : (held : List Held) (id : ClauseId) (p q : List InLit → Bool) → ((c : List InLit) → p c ≡ true → q c ≡ true) → names held id p ≡ true → names held id q ≡ true
names_more held id p q h e = go (clause_at held id.0) e
  where
    go : (o : Option Held) → passes p o ≡ true → passes q o ≡ true
    go None f = f
    go (Some c) f = h c.lits f

-- the clause of a live id passes a test that all clauses pass
live_names : (held : List Held) (id : ClauseId) (p : List InLit → Bool) → ((c : List InLit) → p c ≡ true) → is_live held id.0 ≡ true → names held id p ≡ true
live_names held id p h e = go (clause_at held id.0) e
  where
    go : (o : Option Held) → is_some o ≡ true → passes p o ≡ true
    go None f = absurd (false≢true f)
    go (Some c) f = h c.lits

-- with more implied variables more are settled
either_more : (seen a b : ℕ → Bool) → ((v : ℕ) → a v ≡ true → b v ≡ true) → (v : ℕ) → either seen a v ≡ true → either seen b v ≡ true
either_more seen a b h v e = ⊎_elim (λ (x : seen v ≡ true). or_left _ _ x) (λ (x : a v ≡ true). or_right _ _ (h v x)) (or_cases _ _ e)

settled_more : (a b : ℕ → Bool) (t : List Step) (v : ℕ) → ((v : ℕ) → a v ≡ true → b v ≡ true) → (a v || is_root t v) ≡ true → (b v || is_root t v) ≡ true
settled_more a b t v h e = ⊎_elim (λ (x : a v ≡ true). or_left _ _ (h v x)) (λ (x : is_root t v ≡ true). or_right _ _ x) (or_cases _ _ e)

own_more : (a b : ℕ → Bool) (t : List Step) (own v : ℕ) → ((v : ℕ) → a v ≡ true → b v ≡ true) → own_or_settled a t own v ≡ true → own_or_settled b t own v ≡ true
own_more a b t own v h e = ⊎_elim (λ (x : eqb v own ≡ true). or_left _ _ x) (λ (x : (a v || is_root t v) ≡ true). or_right _ _ (settled_more a b t v h x)) (or_cases _ _ e)

leaves_more : (held : List Held) (t : List Step) (a b : ℕ → Bool) (o : Option ClauseId) → ((v : ℕ) → a v ≡ true → b v ≡ true) → leaves_settled held t a o ≡ true → leaves_settled held t b o ≡ true
leaves_more held t a b None h e = e
leaves_more held t a b (Some id) h e = names_more held id (list_all (is_settled a t)) (list_all (is_settled b t)) (λ c f. all_mono (is_settled a t) (is_settled b t) (λ l x. settled_more a b t l.var.0 h x) c f) e

fits_more : (held : List Held) (t : List Step) (a b : ℕ → Bool) → ((v : ℕ) → a v ≡ true → b v ≡ true) → (link : Link) → Fits held t a link → Fits held t b link
fits_more held t a b h link f = record {
  has_reason = f.has_reason;
  passed =
      names_more held link.reason (λ c. list_all (λ l. own_or_settled a t link.var.0 l.var.0) (take link.passed c)) (λ c. list_all (λ l. own_or_settled b t link.var.0 l.var.0) (take link.passed c))
      (λ c e. all_mono (λ (l : InLit). own_or_settled a t link.var.0 l.var.0) (λ (l : InLit). own_or_settled b t link.var.0 l.var.0) (λ l x. own_more a b t link.var.0 l.var.0 h x) (take link.passed c) e) f.passed;
}

-- a variable is implied where all of its reason is settled, its own literal aside
whole_implied : (held : List Held) (t : List Step) (a b : ℕ → Bool) (link : Link) → ((v : ℕ) → a v ≡ true → b v ≡ true) → b link.var.0 ≡ true → reason_in t link.var.0 ≡ Some link.reason → IsPassedWhole held t a link → leaves_settled held t b (reason_in t link.var.0) ≡ true
whole_implied held t a b link h own r w =
    subst (λ (o : Option ClauseId). leaves_settled held t b o ≡ true) (sym r)
    (names_more held link.reason (list_all (λ l. own_or_settled a t link.var.0 l.var.0)) (list_all (is_settled b t))
    (λ c e. all_mono (λ (l : InLit). own_or_settled a t link.var.0 l.var.0) (is_settled b t)
    (λ l x. ⊎_elim (λ (y : eqb l.var.0 link.var.0 ≡ true). or_left _ _ (ap b (eqb-true _ _ y) ∙ own)) (λ (y : (a l.var.0 || is_root t l.var.0) ≡ true). settled_more a b t l.var.0 h y) (or_cases _ _ x)) c e) w)

-- one more variable is implied
pub implied_now : (held : List Held) (trail : Assignment) (seen : ℕ → Bool) (chains : Chains) (marks : Marking) (link : Link) (o : Option ℕ) → InChain held trail seen chains → reason_in trail.steps link.var.0 ≡ Some link.reason
    → IsPassedWhole held trail.steps (either seen (is_marked chains.implied)) link → MarksNew trail.steps link.var chains.implied marks o → InChain held trail seen (record chains { implied = marks })
implied_now held trail seen chains marks link None h r w m = subst (λ (z : Marking). InChain held trail seen (record chains { implied = z })) (sym m.0) h
implied_now held trail seen chains marks link (Some level) h r w m =
    subst (λ (z : Marking). InChain held trail seen (record chains { implied = z })) (sym m.0)
    (record {
      at = record { kept = h.at.kept; room = h.at.room; looked_room = h.at.looked_room; implied = λ v f. each v (or_cases _ _ (subst (λ (g : ℕ → Bool). g v ≡ true) e f)) };
      fit = All-weaker (Fits held trail.steps (either seen (is_marked chains.implied))) (Fits held trail.steps (either seen (is_marked (record chains.implied { vars = chains.implied.vars ++ link.var ∷ [] }))))
          (fits_more held trail.steps (either seen (is_marked chains.implied)) (either seen (is_marked (record chains.implied { vars = chains.implied.vars ++ link.var ∷ [] }))) grown) chains.links.items h.fit;
    })
  where
    e : is_marked (record chains.implied { vars = chains.implied.vars ++ link.var ∷ [] }) ≡ with_mark (is_marked chains.implied) link.var.0
    e = is_marked-push chains.implied.vars chains.implied.room link.var

    grown : (v : ℕ) → either seen (is_marked chains.implied) v ≡ true → either seen (is_marked (record chains.implied { vars = chains.implied.vars ++ link.var ∷ [] })) v ≡ true
    grown = either_more seen (is_marked chains.implied) (is_marked (record chains.implied { vars = chains.implied.vars ++ link.var ∷ [] })) (λ v f. subst (λ (g : ℕ → Bool). g v ≡ true) (sym e) (or_right (eqb v link.var.0) (is_marked chains.implied v) f))

    own : either seen (is_marked (record chains.implied { vars = chains.implied.vars ++ link.var ∷ [] })) link.var.0 ≡ true
    own = or_right _ _ (subst (λ (g : ℕ → Bool). g link.var.0 ≡ true) (sym e) (or_left _ _ (eq-eqb link.var.0 link.var.0 refl)))

    each : (v : ℕ) → (eqb v link.var.0 ≡ true) ⊎ (is_marked chains.implied v ≡ true)
        → leaves_settled held trail.steps (either seen (is_marked (record chains.implied { vars = chains.implied.vars ++ link.var ∷ [] }))) (reason_in trail.steps v) ≡ true
    each v c =
        ⊎_elim
        (λ (x : eqb v link.var.0 ≡ true). subst (λ (n : ℕ). leaves_settled held trail.steps (either seen (is_marked (record chains.implied { vars = chains.implied.vars ++ link.var ∷ [] }))) (reason_in trail.steps n) ≡ true) (sym (eqb-true _ _ x))
        (whole_implied held trail.steps (either seen (is_marked chains.implied)) (either seen (is_marked (record chains.implied { vars = chains.implied.vars ++ link.var ∷ [] }))) link grown own r w))
        (λ (x : is_marked chains.implied v ≡ true).
        leaves_more held trail.steps (either seen (is_marked chains.implied)) (either seen (is_marked (record chains.implied { vars = chains.implied.vars ++ link.var ∷ [] }))) (reason_in trail.steps v) grown (h.at.implied v x)) c

-- one more variable was looked at
no_more : (seen : ℕ → Bool) (v : ℕ) (t : List Step) → length (filter (λ s. not (with_mark seen v s.lit.var.0)) t) ≤ length (filter (λ s. not (seen s.lit.var.0)) t)
no_more seen v [] = omega arith
no_more seen v (s ∷ older) = go (eqb s.lit.var.0 v) (seen s.lit.var.0) (no_more seen v older)
  where
    go : (a b : Bool) → length (filter (λ q. not (with_mark seen v q.lit.var.0)) older) ≤ length (filter (λ q. not (seen q.lit.var.0)) older)
        → length (cond (not (a || b)) (s ∷ filter (λ q. not (with_mark seen v q.lit.var.0)) older) (filter (λ q. not (with_mark seen v q.lit.var.0)) older)) ≤ length (cond (not b) (s ∷ filter (λ q. not (seen q.lit.var.0)) older) (filter (λ q. not (seen q.lit.var.0)) older))
    go true true r = r
    go true false r = omega arith
    go false true r = r
    go false false r = omega arith

one_fewer : (seen : ℕ → Bool) (v : ℕ) (t : List Step) → set_in t v ≡ true → seen v ≡ false → length (filter (λ s. not (with_mark seen v s.lit.var.0)) t) < length (filter (λ s. not (seen s.lit.var.0)) t)
one_fewer seen v [] e n = absurd (false≢true e)
one_fewer seen v (s ∷ older) e n = go (eqb s.lit.var.0 v) (seen s.lit.var.0) refl refl e (λ (f : set_in older v ≡ true). one_fewer seen v older f n)
  where
    go : (a b : Bool) → eqb s.lit.var.0 v ≡ a → seen s.lit.var.0 ≡ b → (a || set_in older v) ≡ true → (set_in older v ≡ true → length (filter (λ q. not (with_mark seen v q.lit.var.0)) older) < length (filter (λ q. not (seen q.lit.var.0)) older))
        → length (cond (not (a || b)) (s ∷ filter (λ q. not (with_mark seen v q.lit.var.0)) older) (filter (λ q. not (with_mark seen v q.lit.var.0)) older)) < length (cond (not b) (s ∷ filter (λ q. not (seen q.lit.var.0)) older) (filter (λ q. not (seen q.lit.var.0)) older))
    go true true f g h r = absurd (both_ways _ (ap seen (eqb-true _ _ f) ∙ n) g)
    go true false f g h r = let z : length (filter (λ q. not (with_mark seen v q.lit.var.0)) older) ≤ length (filter (λ q. not (seen q.lit.var.0)) older) = no_more seen v older in omega arith
    go false true f g h r = r h
    go false false f g h r = let z : length (filter (λ q. not (with_mark seen v q.lit.var.0)) older) < length (filter (λ q. not (seen q.lit.var.0)) older) = r h in omega arith

fewer_unlooked : (t : List Step) (v : Inner) (old new : Marking) (level : ℕ) → MarksNew t v old new (Some level) → unlooked t new < unlooked t old
fewer_unlooked t v old new level m =
    subst (λ (z : Marking). unlooked t z < unlooked t old) (sym m.0)
    (subst (λ (f : ℕ → Bool). length (filter (λ s. not (f s.lit.var.0)) t) < unlooked t old) (sym (is_marked-push old.vars old.room v)) (one_fewer (is_marked old) v.0 t (level_is_set t v.0 level m.2) m.1))

-- a link that is begun
pub linked : (trail : Assignment) (var : Inner) (reason : ClauseId) (old new : Chains) (looked : Marking) (level : ℕ) → reason_in trail.steps var.0 ≡ Some reason → MarksNew trail.steps var old.looked looked (Some level)
    → new.looked ≡ looked → new.implied ≡ old.implied → new.links.items ≡ old.links.items ++ record { var = var; reason = reason; passed = 0 } ∷ [] → HasLinked trail.steps var old new
linked trail var reason old new looked level r m l i k = record {
  link = record { var = var; reason = reason; passed = 0 };
  links = k;
  has_reason = r;
  from_front = refl;
  implied = i;
  room = ap (λ (z : Marking). z.room) (l ∙ m.0);
  fewer = subst (λ (z : Marking). unlooked trail.steps z < unlooked trail.steps old.looked) (sym l) (fewer_unlooked trail.steps var old.looked looked level m);
}

-- nothing was begun yet
pub chain_none : (held : List Held) (trail : Assignment) (seen : ℕ → Bool) (chains : Chains) → AtChains held trail seen chains → chains.links.items ≡ [] → InChain held trail seen chains
chain_none held trail seen chains h e = record { at = h; fit = All-same (Fits held trail.steps (either seen (is_marked chains.implied))) chains.links.items [] e (All-nil (Fits held trail.steps (either seen (is_marked chains.implied)))) }

-- a link more
pub chain_more : (held : List Held) (trail : Assignment) (seen : ℕ → Bool) (var : Inner) (old new : Chains) (begun : Bool) → reasoned held trail.steps ≡ true → InChain held trail seen old → HasBegun trail.steps var old new begun → InChain held trail seen new
chain_more held trail seen var old new false r h b = subst (λ (z : Chains). InChain held trail seen z) (sym b) h
chain_more held trail seen var old new true r h b = record {
  at =
      record {
        kept = h.at.kept;
        room = subst (λ (z : Marking). trail.reserved ≤ z.room) (sym b.implied) h.at.room;
        looked_room = subst (λ (n : ℕ). trail.reserved ≤ n) (sym b.room) h.at.looked_room;
        implied = subst (λ (z : Marking). AreImplied held trail.steps seen (is_marked z)) (sym b.implied) h.at.implied;
      };
  fit =
      subst (λ (z : Marking). All (Fits held trail.steps (either seen (is_marked z))) new.links.items) (sym b.implied)
      (All-same (Fits held trail.steps (either seen (is_marked old.implied))) new.links.items (old.links.items ++ b.link ∷ []) b.links
      (All-push (Fits held trail.steps (either seen (is_marked old.implied))) old.links.items b.link h.fit
      (record {
        has_reason = b.has_reason;
        passed =
            subst (λ (n : ℕ). names held b.link.reason (λ c. list_all (λ l. own_or_settled (either seen (is_marked old.implied)) trail.steps b.link.var.0 l.var.0) (take n c)) ≡ true) (sym b.from_front)
            (live_names held b.link.reason (λ c. list_all (λ l. own_or_settled (either seen (is_marked old.implied)) trail.steps b.link.var.0 l.var.0) (take 0 c)) (λ c. refl) (reason_live held trail.steps b.link.var.0 b.link.reason r b.has_reason));
      })));
}

-- a link that is put back
pub chain_back : (held : List Held) (trail : Assignment) (seen : ℕ → Bool) (old new : Chains) (link : Link) → InChain held trail seen old → Fits held trail.steps (either seen (is_marked old.implied)) link
    → new.implied ≡ old.implied → new.looked ≡ old.looked → new.links.items ≡ old.links.items ++ link ∷ [] → InChain held trail seen new
chain_back held trail seen old new link h f i l k = record {
  at =
      record {
        kept = h.at.kept;
        room = subst (λ (z : Marking). trail.reserved ≤ z.room) (sym i) h.at.room;
        looked_room = subst (λ (z : Marking). trail.reserved ≤ z.room) (sym l) h.at.looked_room;
        implied = subst (λ (z : Marking). AreImplied held trail.steps seen (is_marked z)) (sym i) h.at.implied;
      };
  fit =
      subst (λ (z : Marking). All (Fits held trail.steps (either seen (is_marked z))) new.links.items) (sym i)
      (All-same (Fits held trail.steps (either seen (is_marked old.implied))) new.links.items (old.links.items ++ link ∷ []) k (All-push (Fits held trail.steps (either seen (is_marked old.implied))) old.links.items link h.fit f));
}

-- what stands after the first literal
pub after_first : (z kept : List InLit) (first : InLit) → z ≡ first ∷ kept → take (length z - 1) (drop 1 z) ≡ kept
after_first z kept first e = ap (λ (y : List InLit). take (length y - 1) (drop 1 y)) e ∙ take_all (length (first ∷ kept) - 1) kept (omega arith)
