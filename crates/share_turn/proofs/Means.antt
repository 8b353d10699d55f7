-- `HasBoard` says each sentence of `KeepsTurns`.
use Rattle.std.proofs.Common.{◌≡◌, ◌≢◌, ◌⊎◌, ℕ, ◌+◌, ◌<◌, ◌≤◌, Bool, false, true≢false, List, length, Some, refl, sym, ap, ◌∙◌, subst, ⊎_elim, inl, inr, arith}
use mathlib.Core.Logic.{dite}
use mathlib.Core.Option.{some, none}
use mathlib.Core.Option as maybe
use native.Mathlib.Decide.{ℕ_discrete}
use Rattle.share_turn.specs.declared.held.Held.TheVariants.{Stored, Said}
use Rattle.share_turn.specs.declared.held.Outcome.{Outcome}
use Rattle.share_turn.specs.declared.view.View.{View}
use Rattle.share_turn.specs.declared.view.Question.{Question}
use Rattle.share_turn.specs.declared.view.Phase.{Phase}
use Rattle.share_turn.specs.declared.view.Phase.TheVariants.{Free, Won, Away, Out, Back}
use Rattle.share_turn.specs.declared.view.Claim.{Claim}
use Rattle.share_turn.specs.declared.view.Claim.TheVariants.{Quiet, Claimed, Lifted, Put}
use Rattle.sat_lits.specs.declared.shared.Shared.{Shared}
use Rattle.share_store.specs.Log.{StartsWith}
use Rattle.share_turn.specs.Views.{IsLegalFor, IsRightOutcome}
use Rattle.share_turn.specs.Board.{RightAt, live, Board, Fits, HasBoard, Stage, quiet, claimed, raised, put, posted, rank, stage_word, claim_at, outcome_home, turn_word, store_home, PhaseOf}
use Rattle.share_turn.specs.Rule.{IsLive, HasOut, KeepsTurns}
use Rattle.share_turn.proofs.Fronts.{there}
use Rattle.share_turn.proofs.TurnSteps.{St, word_free, holding, away_free, out_free, back_free, first_is, put_quiet}
use Rattle.share_turn.proofs.OutcomeSteps.{not_true, claiming, stage_free, lifted_quiet}

-- word 0 is 0 or 1
word_cases : (t : Phase) → (turn_word t ≡ 0) ⊎ (turn_word t ≡ 1)
word_cases Free = inl refl
word_cases Won = inr refl
word_cases (Away h) = inr refl
word_cases (Out h) = inr refl
word_cases (Back h) = inr refl

-- word 1 is 0, 1 or 2
stage_cases : (t : Stage) → (stage_word t ≡ 0) ⊎ (stage_word t ≡ 1) ⊎ (stage_word t ≡ 2)
stage_cases quiet = inl refl
stage_cases claimed = inr (inl refl)
stage_cases raised = inr (inl refl)
stage_cases (put o) = inr (inl refl)
stage_cases (posted o) = inr (inr refl)

-- the store is at home unless it is out
home_unless : (log : List Shared) (t : Phase) → ((h : List Shared) → HasOut t h → ⊥) → store_home log t ≡ some (Some (Stored log))
home_unless log Free n = refl
home_unless log Won n = refl
home_unless log (Away h) n = absurd (n h (inr refl))
home_unless log (Out h) n = absurd (n h (inl refl))
home_unless log (Back h) n = refl

-- a store that is out is not at home
out_home : (log other : List Shared) (t : Phase) (h : List Shared) → HasOut t h → store_home log t ≡ some (Some (Stored other)) → ⊥
out_home log other t h out e = ⊎_elim
    (λ (is : t ≡ Out h). let f : store_home log (Out h) ≡ some (Some (Stored other)) = ap (store_home log) (sym is) ∙ e in cc)
    (λ (is : t ≡ Away h). let f : store_home log (Away h) ≡ some (Some (Stored other)) = ap (store_home log) (sym is) ∙ e in cc) out

-- its log is the log
out_log : (log : List Shared) (t : Phase) (h : List Shared) → HasOut t h → PhaseOf log t → h ≡ log
out_log log t h out p = ⊎_elim (λ (is : t ≡ Out h). subst (PhaseOf log) is p) (λ (is : t ≡ Away h). subst (PhaseOf log) is p) out

-- and the turn is not free then
has_free : (t : Phase) (h : List Shared) → HasOut t h → t ≡ Free → ⊥
has_free t h out e = ⊎_elim (λ (is : t ≡ Out h). out_free h (sym is ∙ e)) (λ (is : t ≡ Away h). away_free h (sym is ∙ e)) out

-- slot 0 is away only in the phase `Away`
none_away : (log : List Shared) (t : Phase) → store_home log t ≡ none → (h : List Shared) × (t ≡ Away h)
none_away log Free e = absurd (cc)
none_away log Won e = absurd (cc)
none_away log (Away h) e = (h, refl)
none_away log (Out h) e = absurd (cc)
none_away log (Back h) e = absurd (cc)

-- slot 1 is away only where the claim is `Lifted`
none_raised : (t : Stage) → outcome_home t ≡ none → claim_at t ≡ Lifted
none_raised quiet e = absurd (cc)
none_raised claimed e = absurd (cc)
none_raised raised e = refl
none_raised (put o) e = absurd (cc)
none_raised (posted o) e = absurd (cc)

-- and there it is
raised_none : (t : Stage) → claim_at t ≡ Lifted → outcome_home t ≡ none
raised_none quiet e = absurd (cc)
raised_none claimed e = absurd (cc)
raised_none raised e = refl
raised_none (put o) e = absurd (cc)
raised_none (posted o) e = absurd (cc)

-- where word 1 is 1 a pass claims the outcome, which is not posted
busy_stage : (t : Stage) → stage_word t ≡ 1 → (claim_at t ≡ Quiet → ⊥) × (rank t < 4)
busy_stage quiet e = absurd (omega arith)
busy_stage claimed e = ((λ f. cc), omega arith)
busy_stage raised e = ((λ f. cc), omega arith)
busy_stage (put o) e = ((λ f. cc), omega arith)
busy_stage (posted o) e = absurd (omega arith)

-- where word 1 is 2 none does
ended_stage : (t : Stage) → stage_word t ≡ 2 → claim_at t ≡ Quiet
ended_stage quiet e = absurd (omega arith)
ended_stage claimed e = absurd (omega arith)
ended_stage raised e = absurd (omega arith)
ended_stage (put o) e = absurd (omega arith)
ended_stage (posted o) e = refl

-- an outcome that was put or posted is at home and right
put_right : (q : Question) (a : Bool) (t : Stage) → (stage_word t ≡ 2) ⊎ (claim_at t ≡ Put) → RightAt q a t → (o : Outcome) × (outcome_home t ≡ some (Some (Said o))) × IsRightOutcome q a o
put_right q a quiet d r = absurd (⊎_elim (λ (e : 0 ≡ 2). omega arith) (λ (e : Quiet ≡ Put). cc) d)
put_right q a claimed d r = absurd (⊎_elim (λ (e : 1 ≡ 2). omega arith) (λ (e : Claimed ≡ Put). cc) d)
put_right q a raised d r = absurd (⊎_elim (λ (e : 1 ≡ 2). omega arith) (λ (e : Lifted ≡ Put). cc) d)
put_right q a (put o) d r = (o, refl, r)
put_right q a (posted o) d r = (o, refl, r)

-- an outcome that some pass has is at home
said_home : (t : Stage) (c : Claim) (o : Outcome) → (t ≡ posted o) ⊎ ((t ≡ put o) × (c ≡ Put)) → outcome_home t ≡ some (Some (Said o))
said_home t c o d = ⊎_elim (λ (e : t ≡ posted o). ap outcome_home e) (λ (e : (t ≡ put o) × (c ≡ Put)). ap outcome_home e.0) d

-- a pass with the turn or a claim was not joined
is_live : (q : Question) (b : Board) (j : ℕ) (v : View) → Fits q b j v → (v.turn ≡ Free → v.claim ≡ Quiet → ⊥) → v.spent ≡ false
is_live q b j v f busy = not_true v.spent (λ dead. let t = f.resting dead in busy t.0 t.1)

module _ (q : Question) (s : St) (r : HasBoard q s) where
  -- who has the turn was not joined
  holder_live : (r.board.turn ≡ Free → ⊥) → (w : View) × IsLive s r.board.holder w × (w.turn ≡ r.board.turn)
  holder_live taken = let h = there s.views r.board.holder r.holder in let g = r.each r.board.holder h.0 h.1 in let t = g.turn_here refl in
      (h.0, (h.1, is_live q r.board r.board.holder h.0 g (λ free _. taken (sym t ∙ free))), t)

  -- who claims the outcome was not joined
  claimer_live : (claim_at r.board.stage ≡ Quiet → ⊥) → (w : View) × IsLive s r.board.claimer w × (w.claim ≡ claim_at r.board.stage)
  claimer_live taken = let h = there s.views r.board.claimer r.claimer in let g = r.each r.board.claimer h.0 h.1 in let t = g.claim_here refl in
      (h.0, (h.1, is_live q r.board r.board.claimer h.0 g (λ _ calm. taken (sym t ∙ calm))), t)

  -- a pass whose turn is not free has the board's turn
  is_holder : (j : ℕ) (v : View) → IsLive s j v → v.turn ≢ Free → (j ≡ r.board.holder) × (r.board.turn ≡ v.turn)
  is_holder j v l taken = holding q r.board j v v.turn (r.each j v l.0) refl taken

  -- a pass that claims has the board's claim
  is_claimer : (j : ℕ) (v : View) → IsLive s j v → v.claim ≢ Quiet → (j ≡ r.board.claimer) × (claim_at r.board.stage ≡ v.claim)
  is_claimer j v l taken = claiming q r.board j v v.claim (r.each j v l.0) refl taken

  -- a store that some pass has out is out by the board
  out_here : (j : ℕ) (v : View) (h : List Shared) → IsLive s j v → HasOut v.turn h → HasOut r.board.turn h
  out_here j v h l out = let t = (is_holder j v l (has_free v.turn h out)).1 in subst (λ p. HasOut p h) (sym t) out

  -- each sentence of the rule
  pub means : KeepsTurns q s
  means =
      let b : Board = r.board in
      record {
        one_question = λ j v l. (r.each j v l.0).about l.1;
        turn_word = ⊎_elim (λ e. inl (r.turn_is ∙ e)) (λ e. inr (r.turn_is ∙ e)) (word_cases b.turn);
        turn_free = λ e j v l.
            let free : b.turn ≡ Free = word_free b.turn (sym r.turn_is ∙ e) in
            let g = r.each j v l.0 in
            dite (ℕ_discrete j b.holder) (λ here. g.turn_here here ∙ free) (λ other. g.turn_else other);
        turn_held = λ e.
            let taken : b.turn ≢ Free = λ free. let z : turn_word b.turn ≡ 0 = ap turn_word free in let w = r.turn_is in absurd (omega arith) in
            let h = holder_live taken in
            (b.holder, h.0, h.1, (λ free. taken (sym h.2 ∙ free)), λ j v l busy. (is_holder j v l busy).0);
        store_home = λ none_out.
            let home : ((h : List Shared) → HasOut b.turn h → ⊥) = λ h out. let w = holder_live (has_free b.turn h out) in none_out b.holder w.0 w.1 h (subst (λ p. HasOut p h) (sym w.2) out) in (
              b.log,
              r.store_is ∙ ap (λ x. some x) (home_unless b.log b.turn home),
              r.legal,
              (λ j v l. (r.each j v l.0).seen),
              λ j v l h is. let t = (is_holder j v l (λ free. back_free h (sym is ∙ free))).1 ∙ is in subst (PhaseOf b.log) t r.phase,
            );
        store_out = λ j v l h out.
            let here = out_here j v h l out in
            let log : h ≡ b.log = out_log b.log b.turn h here r.phase in (
              subst (IsLegalFor q) (sym log) r.legal,
              (λ i u m. subst (λ x. StartsWith x u.seen) (sym log) (r.each i u m.0).seen),
              λ log at. out_home b.log log b.turn h here (maybe.some-injective _ _ (sym r.store_is ∙ at)),
            );
        outcome_word = ⊎_elim (λ e. inl (r.stage_is ∙ e)) (λ f. inr (⊎_elim (λ e. inl (r.stage_is ∙ e)) (λ e. inr (r.stage_is ∙ e)) f)) (stage_cases b.stage);
        outcome_none = λ e j v l.
            let on : b.stage ≡ quiet = stage_free b.stage (sym r.stage_is ∙ e) in
            let low : rank b.stage ≡ 0 = ap rank on in
            let g = r.each j v l.0 in (
              dite (ℕ_discrete j b.claimer) (λ here. g.claim_here here ∙ ap claim_at on) (λ other. g.claim_else other),
              not_true v.late (λ h. let k = g.late h in absurd (omega arith)),
              not_true v.posted (λ h. let k = g.posted h in absurd (omega arith)),
              not_true v.alarmed (λ h. ⊎_elim (λ (k : 4 ≤ rank b.stage). absurd (omega arith))
                  (λ (k : v.claim ≡ Put). put_quiet (sym k ∙ dite (ℕ_discrete j b.claimer) (λ here. g.claim_here here ∙ ap claim_at on) (λ other. g.claim_else other))) (g.alarmed h)),
            );
        outcome_claimed = λ e.
            let busy = busy_stage b.stage (sym r.stage_is ∙ e) in
            let w = claimer_live busy.0 in
            let low = busy.1 in (
              (b.claimer, w.0, w.1, (λ calm. busy.0 (sym w.2 ∙ calm)), λ j v l taken. (is_claimer j v l taken).0),
              (λ j v l. not_true v.posted (λ h. let k = (r.each j v l.0).posted h in absurd (omega arith))),
              λ j v l h. ⊎_elim (λ (k : 4 ≤ rank b.stage). absurd (omega arith)) (λ (k : v.claim ≡ Put). k) ((r.each j v l.0).alarmed h),
            );
        outcome_posted = λ e j v l.
            let calm = ended_stage b.stage (sym r.stage_is ∙ e) in
            let g = r.each j v l.0 in
            dite (ℕ_discrete j b.claimer) (λ here. g.claim_here here ∙ calm) (λ other. g.claim_else other);
        outcome_right = λ d.
            let d' : (stage_word b.stage ≡ 2) ⊎ (claim_at b.stage ≡ Put) = ⊎_elim (λ e. inl (sym r.stage_is ∙ e))
            (λ (x : (j : ℕ) × (v : View) × IsLive s j v × (v.claim ≡ Put)). inr ((is_claimer x.0 x.1 x.2 (λ calm. put_quiet (sym x.3 ∙ calm))).1 ∙ x.3)) d in
            let p = put_right q b.alarmed b.stage d' r.right in (
              p.0,
              (
                r.outcome_is ∙ ap (λ x. some x) p.1,
                λ i w l first. let g = r.each i w l.0 in subst (λ a. IsRightOutcome q a p.0) (sym (g.first_here (first_is q b i w g first)).2) p.2,
              ),
            );
        outcome_said = λ j v l o e. r.outcome_is ∙ ap (λ x. some x) (said_home b.stage v.claim o ((r.each j v l.0).outcome o e));
        one_first =
            let long : 0 < length s.views = let h = r.holder in omega arith in
            let w = there s.views 0 long in
            let m = (r.each 0 w.0 w.1).first_here refl in
            (0, w.0, (w.1, m.1), m.0, λ j v l first. first_is q b j v (r.each j v l.0) first);
        counted = λ i w l first.
            let g = r.each i w l.0 in
            let m = g.first_here (first_is q b i w g first) in
            ap (λ (k : ℕ). live s.views + k) m.4 ∙ r.counted ∙ ap (λ (k : ℕ). 1 + k) (sym m.3);
        alarm_first = λ j v l h.
            let g = r.each j v l.0 in
            dite (ℕ_discrete j 0) (λ z. (g.first_here z).0) (λ n. absurd (true≢false (sym h ∙ (g.first_else n).1)));
        store_away = λ e.
            let a = none_away b.log b.turn (maybe.some-injective _ _ (sym r.store_is ∙ e)) in
            let w = holder_live (λ free. away_free a.0 (sym a.1 ∙ free)) in
            (b.holder, w.0, a.0, w.1, w.2 ∙ a.1);
        store_in_hand = λ j v l h is.
            let t = (is_holder j v l (λ free. away_free h (sym is ∙ free))).1 ∙ is in
            r.store_is ∙ ap (λ p. some (store_home b.log p)) t;
        outcome_away = λ e.
            let a = none_raised b.stage (maybe.some-injective _ _ (sym r.outcome_is ∙ e)) in
            let w = claimer_live (λ calm. lifted_quiet (sym a ∙ calm)) in
            (b.claimer, w.0, w.1, w.2 ∙ a);
        outcome_in_hand = λ j v l is.
            let t = (is_claimer j v l (λ calm. lifted_quiet (sym is ∙ calm))).1 ∙ is in
            r.outcome_is ∙ ap (λ x. some x) (raised_none b.stage t);
      }
