-- Each step on the outcome keeps the rule.
use Rattle.std.proofs.Common.{◌≡◌, ◌≢◌, ◌⊎◌, ℕ, ◌+◌, ◌<◌, ◌≤◌, eqb, Bool, true, false, true≢false, List, [], ◌∷◌, length, get_or, set, Option, Some, None, refl, sym, ap, ◌∙◌, subst, ⊎_elim, inl, inr, arith, length-set, get_or-set_other, get_or-set_same}
use mathlib.Core.Logic.{dite}
use mathlib.Core.Option.{some, none, some-injective}
use mathlib.Core.Option as maybe
use native.Mathlib.Decide.{ℕ_discrete}
use lib.ListN.{get_elem?}
use prog.Atomic.{either}
use Rattle.std.proofs.lemmas.Option.{same_Some}
use Rattle.atomic_table.specs.Table.{Act, step, keeps, takes, gives, stepped, Valid, carried_after, Allows, rest}
use Rattle.atomic_table.proofs.Lists.{set_here, set_else, exchanged}
use Rattle.share_store.specs.Laws.{starts_refl}
use Rattle.share_turn.specs.declared.held.Held.TheVariants.{Stored, Said}
use Rattle.share_turn.specs.declared.held.Outcome.{Outcome}
use Rattle.share_turn.specs.declared.held.Outcome.TheVariants.{Verdict, Halted}
use Rattle.share_turn.specs.declared.view.View.{View}
use Rattle.share_turn.specs.declared.view.Question.{Question}
use Rattle.share_turn.specs.declared.view.Claim.{Claim}
use Rattle.share_turn.specs.declared.view.Claim.TheVariants.{Quiet, Claimed, Lifted, Put}
use Rattle.sat_lits.specs.Verdicts.{IsRight}
use Rattle.share_turn.specs.Views.{IsRightOutcome, at_claim, came_late, alarm_after, with_outcome, has_posted, saw_none, saw_end, MayPost}
use Rattle.share_turn.specs.Board.{Slot, Board, Fits, Stage, quiet, claimed, raised, put, posted, rank, stage_word, claim_at, outcome_home, RightAt}
use Rattle.share_turn.specs.Steps.{Mine, asked, held_up, laid, shown, looked}
use Rattle.share_turn.proofs.Fronts.{each_set, inside, live_same}
use Rattle.share_turn.proofs.TurnSteps.{St, K, stays, first_is, put_quiet, still_fits, learns}

-- word 1 is 0 only where nobody claimed the outcome
pub stage_free : (t : Stage) → stage_word t ≡ 0 → t ≡ quiet
stage_free quiet e = refl
stage_free claimed e = absurd (omega arith)
stage_free raised e = absurd (omega arith)
stage_free (put o) e = absurd (omega arith)
stage_free (posted o) e = absurd (omega arith)

-- and else somebody did
stage_taken : (t : Stage) → stage_word t ≢ 0 → 0 < rank t
stage_taken quiet n = absurd (n refl)
stage_taken claimed n = omega arith
stage_taken raised n = omega arith
stage_taken (put o) n = omega arith
stage_taken (posted o) n = omega arith

-- word 1 is 2 only where the outcome was posted
stage_end : (t : Stage) → stage_word t ≡ 2 → 4 ≤ rank t
stage_end quiet e = absurd (omega arith)
stage_end claimed e = absurd (omega arith)
stage_end raised e = absurd (omega arith)
stage_end (put o) e = absurd (omega arith)
stage_end (posted o) e = omega arith

-- and there it is
pub end_stage : (t : Stage) → 4 ≤ rank t → stage_word t ≡ 2
end_stage quiet e = absurd (omega arith)
end_stage claimed e = absurd (omega arith)
end_stage raised e = absurd (omega arith)
end_stage (put o) e = absurd (omega arith)
end_stage (posted o) e = refl

-- the stage that a claim shows
at_claimed : (t : Stage) → claim_at t ≡ Claimed → t ≡ claimed
at_claimed quiet e = absurd (cc)
at_claimed claimed e = refl
at_claimed raised e = absurd (cc)
at_claimed (put o) e = absurd (cc)
at_claimed (posted o) e = absurd (cc)

at_lifted : (t : Stage) → claim_at t ≡ Lifted → t ≡ raised
at_lifted quiet e = absurd (cc)
at_lifted claimed e = absurd (cc)
at_lifted raised e = refl
at_lifted (put o) e = absurd (cc)
at_lifted (posted o) e = absurd (cc)

pub at_put : (t : Stage) → claim_at t ≡ Put → (o : Outcome) × (t ≡ put o)
at_put quiet e = absurd (cc)
at_put claimed e = absurd (cc)
at_put raised e = absurd (cc)
at_put (put o) e = (o, refl)
at_put (posted o) e = absurd (cc)

-- the claims other than `Quiet` are other
claimed_quiet : Claimed ≡ Quiet → ⊥
claimed_quiet e = cc

pub lifted_quiet : Lifted ≡ Quiet → ⊥
lifted_quiet e = cc

-- the outcome in a slot
abbrev held_outcome : Outcome → Slot → Outcome
held_outcome d None = d
held_outcome d (Some (Stored log)) = d
held_outcome d (Some (Said o)) = o

-- the outcome in the slot that was taken last
abbrev outcome_in : Outcome → List (ℕ × Slot) → Outcome
outcome_in d [] = d
outcome_in d (x ∷ xs) = held_outcome d x.1

-- what is not true is false
pub not_true : (p : Bool) → (p ≡ true → ⊥) → p ≡ false
not_true true n = absurd (n refl)
not_true false n = refl

-- what a pass may post depends on its question and on whether it is first
pub may_move : (v w : View) (o : Outcome) → w.question ≡ v.question → w.first ≡ v.first → MayPost v o → MayPost w o
may_move v w (Verdict x) e f may = subst (λ (z : Question). IsRight z.formula.problem z.assumptions x) (sym e) may
may_move v w Halted e f may = f ∙ may

module _ (q : Question) where
  -- a pass that claims the outcome is the one that does
  pub claiming : (b : Board) (j : ℕ) (v : View) (c : Claim) → Fits q b j v → v.claim ≡ c → (c ≡ Quiet → ⊥) → (j ≡ b.claimer) × (claim_at b.stage ≡ c)
  claiming b j v c f is held = dite (ℕ_discrete j b.claimer) (λ e. (e, sym (f.claim_here e) ∙ is)) (λ n. absurd (held (sym is ∙ f.claim_else n)))

  -- the words after a write to word 1
  put_second : (s : St) (r : K q s) (n : ℕ) → (length (set s.words 1 n) ≡ 2) × (get_or (set s.words 1 n) 0 0 ≡ get_or s.words 0 0) × (get_or (set s.words 1 n) 1 0 ≡ n)
  put_second s r n = let two : length s.words ≡ 2 = r.words in (length-set s.words 1 n ∙ two, get_or-set_other s.words 1 0 n 0 (λ e. omega arith), get_or-set_same s.words 1 n 0 (omega arith))

  -- no pass has an outcome before one is put
  none_yet : (b : Board) (j : ℕ) (v : View) (o : Outcome) → Fits q b j v → rank b.stage < 3 → v.outcome ≡ Some o → ⊥
  none_yet b j v o f low e =
      ⊎_elim (λ (h : b.stage ≡ posted o). let k : rank b.stage ≡ 4 = ap rank h in omega arith)
      (λ (h : (b.stage ≡ put o) × (v.claim ≡ Put)). let k : rank b.stage ≡ 3 = ap rank h.0 in omega arith) (f.outcome o e)

  -- a step by which the outcome goes to the stage t, by the pass id
  staged : (s : St) (r : K q s) (id : ℕ) (v : View) (t : Stage) (over : Bool) (own : Option Outcome) (alarm alarms : Bool) (ws : List ℕ) (hs : List (maybe.Option Slot)) → get_elem? s.views id ≡ some v → v.spent ≡ false
      → (id ≡ r.board.claimer) ⊎ (claim_at r.board.stage ≡ Quiet) → rank r.board.stage ≤ rank t → rank r.board.stage < 4 → RightAt q alarms t → 0 < rank t → (over ≡ true → 4 ≤ rank t) → ((o : Outcome) → own ≡ Some o → (t ≡ posted o) ⊎ ((t ≡ put o) × (claim_at t ≡ Put))) → (alarm ≡ true → (4 ≤ rank t) ⊎ (claim_at t ≡ Put))
      → (id ≡ 0 → alarm ≡ alarms) → (id ≢ 0 → (alarm ≡ false) × (alarms ≡ r.board.alarmed))
      → (length ws ≡ 2) × (get_or ws 0 0 ≡ get_or s.words 0 0) × (get_or ws 1 0 ≡ stage_word t) → get_elem? hs 0 ≡ get_elem? s.homes 0 → get_elem? hs 1 ≡ some (outcome_home t)
      → K q record { words = ws; homes = hs; views = set s.views id (record v { claim = claim_at t; posted = over; outcome = own; alarmed = alarm }) }
  staged s r id v t over own alarm alarms ws hs at alive mine up unended right some_rank ended says rung here else words store outcome =
      let b : Board = r.board in
      let b' : Board = record b { claimer = id; stage = t; alarmed = alarms } in
      let w : View = record v { claim = claim_at t; posted = over; outcome = own; alarmed = alarm } in
      let f = r.each id v at in
      let long = length-set s.views id w in
      let quiet_else = λ (j : ℕ) (u : View) (g : Fits q b j u) (apart : j ≢ id). ⊎_elim (λ (h : id ≡ b.claimer). g.claim_else (λ same. apart (same ∙ sym h)))
      (λ (free : claim_at b.stage ≡ Quiet). dite (ℕ_discrete j b.claimer) (λ same. g.claim_here same ∙ free) (λ other. g.claim_else other)) mine in
      record {
        board = b';
        words = words.0;
        turn_is = words.1 ∙ r.turn_is;
        stage_is = words.2;
        store_is = store ∙ r.store_is;
        outcome_is = outcome;
        legal = r.legal;
        phase = r.phase;
        right = right;
        holder = subst (λ (k : ℕ). b.holder < k) (sym long) r.holder;
        claimer = let h = inside s.views id v at in subst (λ (k : ℕ). id < k) (sym long) h;
        counted = ap (λ (k : ℕ). k + b.joins) (live_same s.views id v w at refl) ∙ r.counted;
        each = each_set (Fits q b') s.views id w
            record {
              about = f.about;
              resting = λ dead. absurd (true≢false (sym dead ∙ alive));
              seen = f.seen;
              told = f.told;
              turn_here = f.turn_here;
              turn_else = f.turn_else;
              claim_here = λ _. refl;
              claim_else = λ other. absurd (other refl);
              late = λ _. some_rank;
              outcome = says;
              posted = ended;
              alarmed = rung;
              first_here = λ z. let m = f.first_here z in (m.0, m.1, here z, m.3, m.4);
              first_else = λ n. ((f.first_else n).0, (else n).0);
            }
            (λ j u apart e.
            let g = r.each j u e in
            let calm = quiet_else j u g apart in
            still_fits q b b' j u g (starts_refl b.log) (g.turn_here, g.turn_else) ((λ same. absurd (apart same)), λ _. calm) up (inr (calm, unended)) (λ z. ((else (λ o. apart (z ∙ sym o))).1, refl, refl)));
      }

  -- the try to claim the outcome keeps the rule
  pub asks : (slots id : ℕ) (me : Mine) → me.0.spent ≡ false → me.0.claim ≡ Quiet → Allows (K q) slots id me 1 (λ n. either (eqb n 0) 1 n) (asked (step slots 1 0 1 none) me)
  asks slots id me alive calm s r wide at small =
      let b : Board = r.board in
      let n : ℕ = get_or s.words 1 0 in
      let f = r.each id me.0 at in
      exchanged n 0 1 (λ x. (w : View) × (a : Act Slot) × Valid s.homes me.1 a × K q (stepped s 1 x id me.1 w a) × asked (step slots 1 0 1 none) me n (w, carried_after me.1 a))
      (λ hit.
      let on : b.stage ≡ quiet = stage_free b.stage (sym r.stage_is ∙ hit) in
      let low : rank b.stage ≡ 0 = ap rank on in (
        at_claim Claimed me.0,
        keeps,
        tt,
        staged s r id me.0 claimed me.0.posted me.0.outcome me.0.alarmed b.alarmed (set s.words 1 1) s.homes at alive (inr (ap claim_at on)) (omega arith) (omega arith) tt (omega arith)
            (λ h. let k = f.posted h in absurd (omega arith)) (λ o e. absurd (none_yet b id me.0 o f (omega arith) e)) (λ h. ⊎_elim (λ (x : 4 ≤ rank b.stage). absurd (omega arith)) (λ (x : me.0.claim ≡ Put). absurd (put_quiet (sym x ∙ calm))) (f.alarmed h)) (λ z. (f.first_here z).2) (λ o. ((f.first_else o).1, refl))
            (put_second s r 1) refl (r.outcome_is ∙ ap (λ t. some (outcome_home t)) on),
        (refl, (λ _. refl), λ miss. absurd (miss hit)),
      ))
      (λ miss. (
        came_late me.0,
        keeps,
        tt,
        stays q s r id me.0 (came_late me.0) (set s.words 1 n) at refl
            (learns q b id me.0 me.0.seen me.0.told true me.0.posted me.0.tries me.0.looks f f.seen f.told (λ _. stage_taken b.stage (λ z. miss (r.stage_is ∙ z))) f.posted)
            (put_second s r n),
        (refl, (λ hit. absurd (miss hit)), λ _. refl),
      ))

  -- the empty slot goes out
  pub holds_up : (slots id : ℕ) (me : Mine) → slots ≡ 2 → me.0.spent ≡ false → me.0.claim ≡ Claimed → Allows (K q) slots id me 1 (λ n. n) (held_up (step slots 1 0 0 none) me)
  holds_up slots id me two alive is s r wide at small =
      let b : Board = r.board in
      let n : ℕ = get_or s.words 1 0 in
      let f = r.each id me.0 at in
      let held = claiming b id me.0 Claimed f is claimed_quiet in
      let on : b.stage ≡ claimed = at_claimed b.stage held.1 in
      let low : rank b.stage ≡ 1 = ap rank on in
      let deep : length s.homes ≡ 2 = wide ∙ two in
      let ws = put_second s r n in (
        at_claim Lifted me.0,
        takes 1 None,
        r.outcome_is ∙ ap (λ t. some (outcome_home t)) on,
        staged s r id me.0 raised me.0.posted me.0.outcome me.0.alarmed b.alarmed (set s.words 1 n) (set s.homes 1 none) at alive (inl held.0) (omega arith) (omega arith) tt (omega arith)
            (λ h. let k = f.posted h in absurd (omega arith)) (λ o e. absurd (none_yet b id me.0 o f (omega arith) e)) (λ h. ⊎_elim (λ (x : 4 ≤ rank b.stage). absurd (omega arith)) (λ (x : me.0.claim ≡ Put). let y : Claimed ≡ Put = sym is ∙ x in absurd (cc)) (f.alarmed h)) (λ z. (f.first_here z).2) (λ o. ((f.first_else o).1, refl))
            (ws.0, ws.1, ws.2 ∙ r.stage_is ∙ ap stage_word on) (set_else s.homes 1 0 none (λ e. omega arith)) (set_here s.homes 1 none (omega arith)),
        (refl, refl),
      )

  -- an outcome that a pass may post is right once it is put
  right_after : (v : View) (b : Board) (o : Outcome) → v.question ≡ q → MayPost v o → IsRightOutcome q (alarm_after o b.alarmed) o
  right_after v b (Verdict x) e may = subst (λ (z : Question). IsRight z.formula.problem z.assumptions x) e may
  right_after v b Halted e may = refl

  -- only the first pass can be alarmed by what it puts
  alarm_else : (v : View) (b : Board) (id : ℕ) (o : Outcome) → Fits q b id v → MayPost v o → id ≢ 0 → (alarm_after o v.alarmed ≡ false) × (alarm_after o b.alarmed ≡ b.alarmed)
  alarm_else v b id (Verdict x) f may n = ((f.first_else n).1, refl)
  alarm_else v b id Halted f may n = absurd (n (first_is q b id v f may))

  -- the slot comes home with the outcome
  pub lays : (slots id : ℕ) (me : Mine) (o : Outcome) (xs : List (ℕ × Slot)) → slots ≡ 2 → me.0.spent ≡ false → me.0.claim ≡ Lifted → me.1 ≡ (1, Some (Said o)) ∷ xs → MayPost me.0 o
      → Allows (K q) slots id me 1 (λ n. n) (laid (step slots 1 0 0 none) me)
  lays slots id me o xs two alive is hand may s r wide at small =
      let b : Board = r.board in
      let n : ℕ = get_or s.words 1 0 in
      let f = r.each id me.0 at in
      let held = claiming b id me.0 Lifted f is lifted_quiet in
      let on : b.stage ≡ raised = at_lifted b.stage held.1 in
      let low : rank b.stage ≡ 2 = ap rank on in
      let deep : length s.homes ≡ 2 = wide ∙ two in
      let home : maybe.Option Slot = some (Some (Said o)) in
      let ws = put_second s r n in (
        with_outcome o me.0,
        gives,
        tt,
        subst (λ c. K q (stepped s 1 n id c (with_outcome o me.0) gives)) (sym hand)
            (staged s r id me.0 (put o) me.0.posted (Some o) (alarm_after o me.0.alarmed) (alarm_after o b.alarmed) (set s.words 1 n) (set s.homes 1 home) at alive (inl held.0) (omega arith) (omega arith)
            (right_after me.0 b o (f.about alive) may) (omega arith) (λ h. let k = f.posted h in absurd (omega arith)) (λ p e. inr (ap put (same_Some o p e), refl)) (λ _. inr refl)
            (λ z. ap (alarm_after o) (f.first_here z).2) (alarm_else me.0 b id o f may)
            (ws.0, ws.1, ws.2 ∙ r.stage_is ∙ ap stage_word on) (set_else s.homes 1 0 home (λ e. omega arith)) (set_here s.homes 1 home (omega arith))),
        (refl, λ p e. let both : (1, Some (Said o)) ∷ xs ≡ (1, Some (Said p)) ∷ rest me.1 = sym hand ∙ e in let same : o ≡ p = ap (outcome_in Halted) both in ap (λ x. with_outcome x me.0) same),
      )

  -- the outcome that a pass has while one is put is that one
  is_put_one : (b : Board) (j : ℕ) (v : View) (o p : Outcome) → Fits q b j v → b.stage ≡ put p → v.outcome ≡ Some o → p ≡ o
  is_put_one b j v o p f on e =
      ⊎_elim (λ (h : b.stage ≡ posted o). let z : put p ≡ posted o = sym on ∙ h in absurd (cc))
      (λ (h : (b.stage ≡ put o) × (v.claim ≡ Put)). let z : put p ≡ put o = sym on ∙ h.0 in cc) (f.outcome o e)

  -- the outcome is posted
  pub shows : (slots id : ℕ) (me : Mine) → me.0.spent ≡ false → me.0.claim ≡ Put → Allows (K q) slots id me 1 (λ _. 2) (λ _. shown (step slots 1 2 0 none) me 2)
  shows slots id me alive is s r wide at small =
      let b : Board = r.board in
      let f = r.each id me.0 at in
      let held = claiming b id me.0 Put f is put_quiet in
      let p = at_put b.stage held.1 in
      let on : b.stage ≡ put p.0 = p.1 in
      let low : rank b.stage ≡ 3 = ap rank on in (
        has_posted me.0,
        keeps,
        tt,
        staged s r id me.0 (posted p.0) true me.0.outcome me.0.alarmed b.alarmed (set s.words 1 2) s.homes at alive (inl held.0) (omega arith) (omega arith) (subst (RightAt q b.alarmed) on r.right) (omega arith)
            (λ _. omega arith) (λ o e. inl (ap posted (is_put_one b id me.0 o p.0 f on e))) (λ _. inl (omega arith)) (λ z. (f.first_here z).2) (λ o. ((f.first_else o).1, refl))
            (put_second s r 2) refl (r.outcome_is ∙ ap (λ t. some (outcome_home t)) on),
        (refl, refl),
      )

  -- a look keeps the rule
  pub glances : (slots id : ℕ) (me : Mine) → Allows (K q) slots id me 1 (λ n. n) (looked (step slots 1 0 0 none) me)
  glances slots id me s r wide at small =
      let b : Board = r.board in
      let n : ℕ = get_or s.words 1 0 in
      let f = r.each id me.0 at in
      dite (ℕ_discrete n 2)
      (λ over. (
        saw_end me.0,
        keeps,
        tt,
        stays q s r id me.0 (saw_end me.0) (set s.words 1 n) at refl
            (learns q b id me.0 me.0.seen me.0.told me.0.late true me.0.tries (me.0.looks + 1) f f.seen f.told f.late (λ _. stage_end b.stage (sym r.stage_is ∙ over)))
            (put_second s r n),
        (refl, (λ _. refl), λ not. absurd (not over)),
      ))
      (λ not. (
        saw_none me.0,
        keeps,
        tt,
        stays q s r id me.0 (saw_none me.0) (set s.words 1 n) at refl
            (learns q b id me.0 me.0.seen me.0.told me.0.late me.0.posted me.0.tries (me.0.looks + 1) f f.seen f.told f.late f.posted) (put_second s r n),
        (refl, (λ over. absurd (not over)), λ _. (not_true me.0.posted (λ h. not (r.stage_is ∙ end_stage b.stage (f.posted h))), refl)),
      ))
