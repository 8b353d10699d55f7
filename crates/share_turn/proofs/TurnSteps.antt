-- Each step on the turn keeps the rule.
use Rattle.std.proofs.Common.{◌≡◌, ◌≢◌, ◌⊎◌, ℕ, zero, suc, ◌+◌, ◌<◌, ◌≤◌, eqb, Bool, true, false, true≢false, ◌||◌, if◌then◌else◌, List, [], ◌∷◌, ◌++◌, length, get_or, set, replicate, Option, Some, None, refl, sym, ap, ◌∙◌, subst, ⊎_elim, inl, inr, arith, length-set, length-append, get_or-set_other, get_or-set_same}
use mathlib.Core.Logic.{dite}
use mathlib.Core.Option.{some, none, some-ne-none, some-injective}
use mathlib.Core.Option as maybe
use native.Mathlib.Decide.{ℕ_discrete}
use lib.ListN.{get_elem?}
use prog.Atomic.{either}
use Rattle.std.specs.Option.{option_or}
use Rattle.std.proofs.lemmas.Option.{none-some}
use Rattle.atomic_table.specs.Table.{State, Me, step, keeps, takes, gives, stepped, put_back, Allows, Splits, Joins, opening, rest}
use Rattle.atomic_table.proofs.Lists.{at_set, set_here, set_else, exchanged}
use Rattle.share_turn.specs.declared.held.Held.TheVariants.{Stored, Said}
use Rattle.share_turn.specs.declared.held.Outcome.{Outcome}
use Rattle.share_turn.specs.declared.view.View.{View}
use Rattle.share_turn.specs.declared.view.Question.{Question}
use Rattle.share_turn.specs.declared.view.Phase.{Phase}
use Rattle.share_turn.specs.declared.view.Phase.TheVariants.{Free, Won, Away, Out, Back}
use Rattle.share_turn.specs.declared.view.Claim.TheVariants.{Quiet, Put}
use Rattle.sat_lits.specs.declared.shared.Shared.{Shared}
use Rattle.share_store.specs.Log.{StartsWith}
use Rattle.share_store.specs.Laws.{starts_refl, starts_trans, starts_none}
use Rattle.share_turn.specs.Views.{IsLegalFor, longer, at_turn, opening_view, newcomer, divided, united, heard_of, won, lost, freed}
use Rattle.share_turn.specs.Board.{Slot, Board, Fits, HasBoard, Stage, quiet, put, posted, rank, claim_at, turn_word, store_home, PhaseOf}
use Rattle.share_turn.specs.Steps.{Mine, phase_out, phase_back, gone, tried, lifted, emptied, reached, landed, released, heard}
use Rattle.share_turn.specs.Laws.{none_is_legal}
use Rattle.share_turn.proofs.Fronts.{longer_both, inside, at_end, each_set, weight, live_set, live_same, live_end}

-- the words, the slots and the views
abbrev pub St : Type 0
St = State Slot View

-- word 0 is 0 only where the turn is free
pub word_free : (t : Phase) → turn_word t ≡ 0 → t ≡ Free
word_free Free e = refl
word_free Won e = absurd (omega arith)
word_free (Away h) e = absurd (omega arith)
word_free (Out h) e = absurd (omega arith)
word_free (Back h) e = absurd (omega arith)

-- and else it is 1
word_taken : (t : Phase) → turn_word t ≢ 0 → turn_word t ≡ 1
word_taken Free n = absurd (n refl)
word_taken Won n = refl
word_taken (Away h) n = refl
word_taken (Out h) n = refl
word_taken (Back h) n = refl

-- one of two is true where either is
pub either_true : (p q : Bool) → (p || q) ≡ true → (p ≡ true) ⊎ (q ≡ true)
either_true true q e = inl refl
either_true false q e = inr e

-- the outcome that one of two passes has
either_outcome : (x y : Option Outcome) (o : Outcome) → option_or x y ≡ Some o → (x ≡ Some o) ⊎ (y ≡ Some o)
either_outcome None y o e = inr e
either_outcome (Some p) y o e = inl e

-- the claim of a pass that has put its outcome is not `Quiet`
pub put_quiet : Put ≡ Quiet → ⊥
put_quiet e = cc

-- the phases other than `Free` are other
won_free : Won ≡ Free → ⊥
won_free e = cc

pub away_free : (h : List Shared) → Away h ≡ Free → ⊥
away_free h e = cc

pub out_free : (h : List Shared) → Out h ≡ Free → ⊥
out_free h e = cc

pub back_free : (h : List Shared) → Back h ≡ Free → ⊥
back_free h e = cc

-- the log of the store in a slot
abbrev held_log : Slot → List Shared
held_log None = []
held_log (Some (Stored log)) = log
held_log (Some (Said o)) = []

-- the log of the store in the slot that was taken last
abbrev log_in : List (ℕ × Slot) → List Shared
log_in [] = []
log_in (x ∷ xs) = held_log x.1

-- the slot taken last stands before the rest
pub in_hand : (c : List (ℕ × Slot)) (x : ℕ × Slot) (xs : List (ℕ × Slot)) → c ≡ x ∷ xs → c ≡ x ∷ rest c
in_hand c x xs e = e ∙ (λ i. x ∷ ap rest (sym e) i)

module _ (q : Question) where
  -- the rule for this question
  abbrev pub K : St → Type 0
  K = HasBoard q

  -- a pass whose turn is not free is the one that has it
  pub holding : (b : Board) (j : ℕ) (v : View) (t : Phase) → Fits q b j v → v.turn ≡ t → (t ≡ Free → ⊥) → (j ≡ b.holder) × (b.turn ≡ t)
  holding b j v t f is held = dite (ℕ_discrete j b.holder) (λ e. (e, sym (f.turn_here e) ∙ is)) (λ n. absurd (held (sym is ∙ f.turn_else n)))

  -- the outcome that a pass without a claim has is the posted one
  pub has_posted_one : (b : Board) (j : ℕ) (v : View) (o : Outcome) → Fits q b j v → v.claim ≡ Quiet → v.outcome ≡ Some o → b.stage ≡ posted o
  has_posted_one b j v o f calm e = ⊎_elim (λ (h : b.stage ≡ posted o). h) (λ (h : (b.stage ≡ put o) × (v.claim ≡ Put)). absurd (put_quiet (sym h.1 ∙ calm))) (f.outcome o e)

  -- the words after a write to word 0
  pub put_word : (s : St) (r : K s) (n : ℕ) → (length (set s.words 0 n) ≡ 2) × (get_or (set s.words 0 n) 0 0 ≡ n) × (get_or (set s.words 0 n) 1 0 ≡ get_or s.words 1 0)
  put_word s r n = let two : length s.words ≡ 2 = r.words in (length-set s.words 0 n ∙ two, get_or-set_same s.words 0 n 0 (omega arith), get_or-set_other s.words 0 1 n 0 (λ e. omega arith))

  -- another pass keeps fitting: it has the same of the turn and of the claim as before, and the log and the stage go on
  pub still_fits : (b b' : Board) (j : ℕ) (u : View) → Fits q b j u → StartsWith b'.log b.log
      → (j ≡ b'.holder → u.turn ≡ b'.turn) × (j ≢ b'.holder → u.turn ≡ Free)
      → (j ≡ b'.claimer → u.claim ≡ claim_at b'.stage) × (j ≢ b'.claimer → u.claim ≡ Quiet)
      → rank b.stage ≤ rank b'.stage → (b'.stage ≡ b.stage) ⊎ ((u.claim ≡ Quiet) × (rank b.stage < 4))
      → (j ≡ 0 → (b'.alarmed ≡ b.alarmed) × (b'.splits ≡ b.splits) × (b'.joins ≡ b.joins)) → Fits q b' j u
  still_fits b b' j u g grown turn claim up stage first = record {
    about = g.about;
    resting = g.resting;
    seen = starts_trans b'.log b.log u.seen grown g.seen;
    told = starts_trans b'.log b.log u.told grown g.told;
    turn_here = turn.0;
    turn_else = turn.1;
    claim_here = claim.0;
    claim_else = claim.1;
    late = λ h. let k = g.late h in omega arith;
    outcome = λ o e. ⊎_elim (λ (same : b'.stage ≡ b.stage). subst (λ (t : Stage). (t ≡ posted o) ⊎ ((t ≡ put o) × (u.claim ≡ Put))) (sym same) (g.outcome o e))
        (λ (calm : (u.claim ≡ Quiet) × (rank b.stage < 4)). absurd (let k : rank b.stage ≡ 4 = ap rank (has_posted_one b j u o g calm.0 e) in let l = calm.1 in omega arith)) stage;
    posted = λ h. let k = g.posted h in omega arith;
    alarmed = λ h. ⊎_elim (λ (k : 4 ≤ rank b.stage). inl (omega arith)) (λ (k : u.claim ≡ Put). inr k) (g.alarmed h);
    first_here = λ z. let m = g.first_here z in let same = first z in (m.0, m.1, m.2 ∙ sym same.0, m.3 ∙ sym same.1, m.4 ∙ sym same.2);
    first_else = g.first_else;
  }

  -- and so does a pass that learns something of the log or of the outcome, and counts it
  pub learns : (b : Board) (j : ℕ) (v : View) (seen told : List Shared) (late over : Bool) (tries looks : ℕ) → Fits q b j v → StartsWith b.log seen → StartsWith b.log told → (late ≡ true → 0 < rank b.stage)
      → (over ≡ true → 4 ≤ rank b.stage) → Fits q b j (record v { seen = seen; told = told; late = late; posted = over; tries = tries; looks = looks })
  learns b j v seen told late over tries looks f fits_seen fits_told some_rank ended = record {
    about = f.about;
    resting = f.resting;
    seen = fits_seen;
    told = fits_told;
    turn_here = f.turn_here;
    turn_else = f.turn_else;
    claim_here = f.claim_here;
    claim_else = f.claim_else;
    late = some_rank;
    outcome = f.outcome;
    posted = ended;
    alarmed = f.alarmed;
    first_here = f.first_here;
    first_else = f.first_else;
  }

  -- a step by which the pass id goes to the phase t, and the log to `log`
  turned : (s : St) (r : K s) (id : ℕ) (v : View) (t : Phase) (log : List Shared) (seen told : List Shared) (n : ℕ) (ws : List ℕ) (hs : List (maybe.Option Slot)) → get_elem? s.views id ≡ some v → v.spent ≡ false
      → (id ≡ r.board.holder) ⊎ (r.board.turn ≡ Free) → StartsWith log seen → StartsWith log told → StartsWith log r.board.log → IsLegalFor q log → PhaseOf log t
      → (length ws ≡ 2) × (get_or ws 0 0 ≡ turn_word t) × (get_or ws 1 0 ≡ get_or s.words 1 0) → get_elem? hs 0 ≡ some (store_home log t) → get_elem? hs 1 ≡ get_elem? s.homes 1
      → K record { words = ws; homes = hs; views = set s.views id (record v { turn = t; seen = seen; told = told; tries = n }) }
  turned s r id v t log seen told n ws hs at alive mine fits_seen fits_told grown legal phase words store outcome =
      let b : Board = r.board in
      let b' : Board = record b { holder = id; turn = t; log = log } in
      let w : View = record v { turn = t; seen = seen; told = told; tries = n } in
      let f = r.each id v at in
      let long = length-set s.views id w in
      record {
        board = b';
        words = words.0;
        turn_is = words.1;
        stage_is = words.2 ∙ r.stage_is;
        store_is = store;
        outcome_is = outcome ∙ r.outcome_is;
        legal = legal;
        phase = phase;
        right = r.right;
        holder = let h = inside s.views id v at in subst (λ (k : ℕ). id < k) (sym long) h;
        claimer = subst (λ (k : ℕ). b.claimer < k) (sym long) r.claimer;
        counted = ap (λ (k : ℕ). k + b.joins) (live_same s.views id v w at refl) ∙ r.counted;
        each = each_set (Fits q b') s.views id w
            record {
              about = f.about;
              resting = λ dead. absurd (true≢false (sym dead ∙ alive));
              seen = fits_seen;
              told = fits_told;
              turn_here = λ _. refl;
              turn_else = λ other. absurd (other refl);
              claim_here = f.claim_here;
              claim_else = f.claim_else;
              late = f.late;
              outcome = f.outcome;
              posted = f.posted;
              alarmed = f.alarmed;
              first_here = f.first_here;
              first_else = f.first_else;
            }
            (λ j u apart e.
            let g = r.each j u e in
            let free_else = ⊎_elim (λ (here : id ≡ b.holder). g.turn_else (λ same. apart (same ∙ sym here)))
            (λ (free : b.turn ≡ Free). dite (ℕ_discrete j b.holder) (λ same. g.turn_here same ∙ free) (λ other. g.turn_else other)) mine in
            still_fits b b' j u g grown ((λ same. absurd (apart same)), λ _. free_else) (g.claim_here, g.claim_else) (omega arith) (inl refl) (λ _. (refl, refl, refl)));
      }

  -- a step at which a view alone changes
  pub stays : (s : St) (r : K s) (id : ℕ) (v w : View) (ws : List ℕ) → get_elem? s.views id ≡ some v → w.spent ≡ v.spent → Fits q r.board id w
      → (length ws ≡ 2) × (get_or ws 0 0 ≡ get_or s.words 0 0) × (get_or ws 1 0 ≡ get_or s.words 1 0)
      → K record { words = ws; homes = s.homes; views = set s.views id w }
  stays s r id v w ws at same fits words = let b : Board = r.board in let long = length-set s.views id w in record {
    board = b;
    words = words.0;
    turn_is = words.1 ∙ r.turn_is;
    stage_is = words.2 ∙ r.stage_is;
    store_is = r.store_is;
    outcome_is = r.outcome_is;
    legal = r.legal;
    phase = r.phase;
    right = r.right;
    holder = subst (λ (k : ℕ). b.holder < k) (sym long) r.holder;
    claimer = subst (λ (k : ℕ). b.claimer < k) (sym long) r.claimer;
    counted = ap (λ (k : ℕ). k + b.joins) (live_same s.views id v w at same) ∙ r.counted;
    each = each_set (Fits q b) s.views id w fits (λ j u _ e. r.each j u e);
  }

  -- the board as the table is made
  abbrev first_board : Board
  first_board = record { holder = 0; turn = Out []; log = []; claimer = 0; stage = quiet; alarmed = false; splits = 0; joins = 0 }

  -- the table as it is made keeps the rule
  pub begins : K (opening (1 ∷ 0 ∷ []) (replicate 2 None) (opening_view q))
  begins = record {
    board = first_board;
    words = refl;
    turn_is = refl;
    stage_is = refl;
    store_is = refl;
    outcome_is = refl;
    legal = none_is_legal q;
    phase = refl;
    right = tt;
    holder = omega arith;
    claimer = omega arith;
    counted = refl;
    each = one;
  }
    where
      one : (j : ℕ) (v : View) → get_elem? (opening_view q ∷ []) j ≡ some v → Fits q first_board j v
      one zero v e = subst (Fits q first_board 0) (some-injective _ _ e) record {
        about = λ _. refl;
        resting = λ h. absurd (true≢false (sym h));
        seen = starts_refl [];
        told = starts_refl [];
        turn_here = λ _. refl;
        turn_else = λ n. absurd (n refl);
        claim_here = λ _. refl;
        claim_else = λ _. refl;
        late = λ h. absurd (true≢false (sym h));
        posted = λ h. absurd (true≢false (sym h));
        outcome = λ o e. absurd (none-some o e);
        alarmed = λ h. absurd (true≢false (sym h));
        first_here = λ _. (refl, refl, refl, refl, refl);
        first_else = λ n. absurd (n refl);
      }
      one (suc j) v e = absurd (some-ne-none v (sym e))

  -- the try for the turn keeps it
  pub tries : (slots id : ℕ) (me : Mine) → me.0.turn ≡ Free → me.0.spent ≡ false → Allows K slots id me 0 (λ n. either (eqb n 0) 1 n) (tried (step slots 0 0 1 none) me)
  tries slots id me free alive s r wide at small =
      let b : Board = r.board in
      let n : ℕ = get_or s.words 0 0 in
      let f = r.each id me.0 at in
      exchanged n 0 1 (λ x. (w : View) × (a : Rattle.atomic_table.specs.Table.Act Slot) × Rattle.atomic_table.specs.Table.Valid s.homes me.1 a × K (stepped s 0 x id me.1 w a) × tried (step slots 0 0 1 none) me n (w, Rattle.atomic_table.specs.Table.carried_after me.1 a))
      (λ hit.
      let t : b.turn ≡ Free = word_free b.turn (sym r.turn_is ∙ hit) in
      let ws = put_word s r 1 in (
        won me.0,
        keeps,
        tt,
        turned s r id me.0 Won b.log me.0.seen me.0.told (me.0.tries + 1) (set s.words 0 1) s.homes at alive (inr t) f.seen f.told (starts_refl b.log) r.legal tt ws
            (r.store_is ∙ ap (λ p. some (store_home b.log p)) t) refl,
        (refl, (λ _. refl), λ miss. absurd (miss hit)),
      ))
      (λ miss.
      let ws = put_word s r n in (
        lost me.0,
        keeps,
        tt,
        stays s r id me.0 (lost me.0) (set s.words 0 n) at refl (learns b id me.0 me.0.seen me.0.told me.0.late me.0.posted (me.0.tries + 1) me.0.looks f f.seen f.told f.late f.posted) ws,
        (refl, (λ hit. absurd (miss hit)), λ _. (r.turn_is ∙ word_taken b.turn (λ z. miss (r.turn_is ∙ z)), refl)),
      ))

  -- the store goes out of its slot
  pub lifts : (slots id : ℕ) (me : Mine) → slots ≡ 2 → me.0.turn ≡ Won → me.0.spent ≡ false → Allows K slots id me 0 (λ n. n) (lifted (step slots 0 0 0 none) me)
  lifts slots id me two is alive s r wide at small =
      let b : Board = r.board in
      let log : List Shared = b.log in
      let n : ℕ = get_or s.words 0 0 in
      let f = r.each id me.0 at in
      let h = holding b id me.0 Won f is won_free in
      let ws = put_word s r n in
      let a = f.about alive in
      let deep : length s.homes ≡ 2 = wide ∙ two in (
        at_turn (Away log) me.0,
        takes 0 (Some (Stored log)),
        r.store_is ∙ ap (λ p. some (store_home log p)) h.1,
        turned s r id me.0 (Away log) log me.0.seen me.0.told me.0.tries (set s.words 0 n) (set s.homes 0 none) at alive (inl h.0) f.seen f.told (starts_refl log) r.legal refl
            (ws.0, ws.1 ∙ r.turn_is ∙ ap turn_word h.1, ws.2) (set_here s.homes 0 none (omega arith)) (set_else s.homes 0 1 none (λ e. omega arith)),
        (log, refl, subst (λ (z : Question). IsLegalFor z log) (sym a) r.legal, f.seen, refl),
      )

  -- the slot comes home without the store
  pub empties : (slots id : ℕ) (me : Mine) (h : List Shared) (xs : List (ℕ × Slot)) → slots ≡ 2 → me.0.turn ≡ Away h → me.1 ≡ (0, None) ∷ xs → me.0.spent ≡ false → Allows K slots id me 0 (λ n. n) (emptied (step slots 0 0 0 none) me)
  empties slots id me h xs two is hand alive s r wide at small =
      let b : Board = r.board in
      let n : ℕ = get_or s.words 0 0 in
      let f = r.each id me.0 at in
      let held = holding b id me.0 (Away h) f is (away_free h) in
      let ws = put_word s r n in
      let phase : h ≡ b.log = subst (PhaseOf b.log) held.1 r.phase in
      let deep : length s.homes ≡ 2 = wide ∙ two in (
        at_turn (Out h) me.0,
        gives,
        tt,
        subst (λ c. K (stepped s 0 n id c (at_turn (Out h) me.0) gives)) (sym hand)
            (turned s r id me.0 (Out h) b.log me.0.seen me.0.told me.0.tries (set s.words 0 n) (set s.homes 0 (some None)) at alive (inl held.0) f.seen f.told (starts_refl b.log) r.legal phase
            (ws.0, ws.1 ∙ r.turn_is ∙ ap turn_word held.1, ws.2) (set_here s.homes 0 (some None) (omega arith)) (set_else s.homes 0 1 (some None) (λ e. omega arith))),
        (refl, ap (λ t. at_turn (phase_out t) me.0) (sym is)),
      )

  -- the empty slot goes out
  pub reaches : (slots id : ℕ) (me : Mine) (h : List Shared) → slots ≡ 2 → me.0.turn ≡ Out h → me.0.spent ≡ false → Allows K slots id me 0 (λ n. n) (reached (step slots 0 0 0 none) me)
  reaches slots id me h two is alive s r wide at small =
      let b : Board = r.board in
      let n : ℕ = get_or s.words 0 0 in
      let f = r.each id me.0 at in
      let held = holding b id me.0 (Out h) f is (out_free h) in
      let ws = put_word s r n in
      let phase : h ≡ b.log = subst (PhaseOf b.log) held.1 r.phase in
      let deep : length s.homes ≡ 2 = wide ∙ two in (
        at_turn (Away h) me.0,
        takes 0 None,
        r.store_is ∙ ap (λ p. some (store_home b.log p)) held.1,
        turned s r id me.0 (Away h) b.log me.0.seen me.0.told me.0.tries (set s.words 0 n) (set s.homes 0 none) at alive (inl held.0) f.seen f.told (starts_refl b.log) r.legal phase
            (ws.0, ws.1 ∙ r.turn_is ∙ ap turn_word held.1, ws.2) (set_here s.homes 0 none (omega arith)) (set_else s.homes 0 1 none (λ e. omega arith)),
        (refl, ap (λ t. at_turn (phase_back t) me.0) (sym is)),
      )

  -- the slot comes home with a legal store that begins with what went out
  pub lands : (slots id : ℕ) (me : Mine) (h : List Shared) (store : List Shared) (xs : List (ℕ × Slot)) → slots ≡ 2 → me.0.turn ≡ Away h → me.1 ≡ (0, Some (Stored store)) ∷ xs → me.0.spent ≡ false
      → IsLegalFor me.0.question store → StartsWith store h → Allows K slots id me 0 (λ n. n) (landed (step slots 0 0 0 none) me)
  lands slots id me h store xs two is hand alive legal front s r wide at small =
      let b : Board = r.board in
      let n : ℕ = get_or s.words 0 0 in
      let f = r.each id me.0 at in
      let held = holding b id me.0 (Away h) f is (away_free h) in
      let ws = put_word s r n in
      let a = f.about alive in
      let phase : h ≡ b.log = subst (PhaseOf b.log) held.1 r.phase in
      let grown : StartsWith store b.log = subst (StartsWith store) phase front in
      let deep : length s.homes ≡ 2 = wide ∙ two in
      let home : maybe.Option Slot = some (Some (Stored store)) in (
        at_turn (Back store) me.0,
        gives,
        tt,
        subst (λ c. K (stepped s 0 n id c (at_turn (Back store) me.0) gives)) (sym hand)
            (turned s r id me.0 (Back store) store me.0.seen me.0.told me.0.tries (set s.words 0 n) (set s.homes 0 home) at alive (inl held.0) (starts_trans store b.log me.0.seen grown f.seen)
            (starts_trans store b.log me.0.told grown f.told) grown (subst (λ (z : Question). IsLegalFor z store) a legal) refl
            (ws.0, ws.1 ∙ r.turn_is ∙ ap turn_word held.1, ws.2) (set_here s.homes 0 home (omega arith)) (set_else s.homes 0 1 home (λ e. omega arith))),
        (refl, λ log e. let both : (0, Some (Stored store)) ∷ xs ≡ (0, Some (Stored log)) ∷ rest me.1 = sym hand ∙ e in let same : store ≡ log = ap log_in both in ap (λ (l : List Shared). at_turn (Back l) me.0) same),
      )

  -- the turn becomes free
  pub releases : (slots id : ℕ) (me : Mine) (h : List Shared) → me.0.turn ≡ Back h → me.0.spent ≡ false → Allows K slots id me 0 (λ _. 0) (λ _. released (step slots 0 0 0 none) me 0)
  releases slots id me h is alive s r wide at small =
      let b : Board = r.board in
      let f = r.each id me.0 at in
      let held = holding b id me.0 (Back h) f is (back_free h) in
      let ws = put_word s r 0 in
      let phase : h ≡ b.log = subst (PhaseOf b.log) held.1 r.phase in (
        freed h me.0,
        keeps,
        tt,
        turned s r id me.0 Free b.log h me.0.told me.0.tries (set s.words 0 0) s.homes at alive (inl held.0) (subst (StartsWith b.log) (sym phase) (starts_refl b.log)) f.told (starts_refl b.log) r.legal tt ws
            (r.store_is ∙ ap (λ p. some (store_home b.log p)) held.1) refl,
        (refl, λ log e. let both : Back h ≡ Back log = sym is ∙ e in let same : h ≡ log = cc in ap (λ l. freed l me.0) same),
      )

  -- the first pass is the seat 0
  pub first_is : (b : Board) (j : ℕ) (v : View) → Fits q b j v → v.first ≡ true → j ≡ 0
  first_is b j v f first = dite (ℕ_discrete j 0) (λ e. e) (λ n. absurd (true≢false (sym first ∙ (f.first_else n).0)))

  -- false is not true
  pub no : false ≡ true → ⊥
  no e = true≢false (sym e)

  -- a split keeps the rule
  pub divides : (id : ℕ) (v : View) → v.first ≡ true → Splits K id v (divided v) (newcomer v)
  divides id v first s r at =
      let b : Board = r.board in
      let b' : Board = record b { splits = b.splits + 1 } in
      let f = r.each id v at in
      let zero_th = first_is b id v f first in
      let mine = f.first_here zero_th in
      let w : View = divided v in
      let vs : List View = set s.views id w in
      let long : length vs ≡ length s.views = length-set s.views id w in
      let longer_by_one : length (vs ++ newcomer v ∷ []) ≡ length s.views + 1 = length-append vs (newcomer v ∷ []) ∙ ap (λ (k : ℕ). k + 1) long in
      let holder = r.holder in
      let claimer = r.claimer in
      record {
        board = b';
        words = r.words;
        turn_is = r.turn_is;
        stage_is = r.stage_is;
        store_is = r.store_is;
        outcome_is = r.outcome_is;
        legal = r.legal;
        phase = r.phase;
        right = r.right;
        holder = omega arith;
        claimer = omega arith;
        counted = let c = r.counted in let l = live_end vs (newcomer v) in let m = live_same s.views id v w at refl in omega arith;
        each = λ j u e. ⊎_elim
            (λ (old : get_elem? vs j ≡ some u). each_set (Fits q b') s.views id w
            record {
              about = f.about;
              resting = f.resting;
              seen = f.seen;
              told = f.told;
              turn_here = f.turn_here;
              turn_else = f.turn_else;
              claim_here = f.claim_here;
              claim_else = f.claim_else;
              late = f.late;
              outcome = f.outcome;
              posted = f.posted;
              alarmed = f.alarmed;
              first_here = λ _. (mine.0, mine.1, mine.2, ap (λ (k : ℕ). k + 1) mine.3, mine.4);
              first_else = f.first_else;
            }
            (λ i x apart a. let g = r.each i x a in
            still_fits b b' i x g (starts_refl b.log) (g.turn_here, g.turn_else) (g.claim_here, g.claim_else) (omega arith) (inl refl) (λ z. absurd (apart (z ∙ sym zero_th)))) j u old)
            (λ (new : (j ≡ length vs) × (newcomer v ≡ u)). let last : j ≡ length vs = new.0 in subst (Fits q b' j) new.1 record {
              about = λ _. f.about mine.1;
              resting = λ dead. absurd (no dead);
              seen = f.seen;
              told = starts_none b.log;
              turn_here = λ same. absurd (omega arith);
              turn_else = λ _. refl;
              claim_here = λ same. absurd (omega arith);
              claim_else = λ _. refl;
              late = λ t. absurd (no t);
              posted = λ t. absurd (no t);
              outcome = λ o e. absurd (none-some o e);
              alarmed = λ t. absurd (no t);
              first_here = λ z. absurd (omega arith);
              first_else = λ _. (refl, refl);
            }) (at_end vs (newcomer v) u j e);
      }

  -- a join keeps it
  pub unites : (id other : ℕ) (v u : View) → v.first ≡ true → u.turn ≡ Free → u.claim ≡ Quiet → u.spent ≡ false → Joins K id v other u (united v u) gone
  unites id other v u first free calm alive s r at apart there =
      let b : Board = r.board in
      let b' : Board = record b { joins = b.joins + 1 } in
      let f = r.each id v at in
      let zero_th = first_is b id v f first in
      let mine = f.first_here zero_th in
      let w : View = united v u in
      let vs : List View = set s.views id w in
      let same_long : length vs ≡ length s.views = length-set s.views id w in
      let long : length (set vs other gone) ≡ length s.views = length-set vs other gone ∙ same_long in
      let was : get_elem? s.views other ≡ some u = ⊎_elim (λ (t : (other ≡ id) × (w ≡ u)). absurd (apart t.0)) (λ (t : (other ≢ id) × (get_elem? s.views other ≡ some u)). t.1) (at_set s.views id other w u there) in
      let h = r.each other u was in
      let holder = r.holder in
      let claimer = r.claimer in
      record {
        board = b';
        words = r.words;
        turn_is = r.turn_is;
        stage_is = r.stage_is;
        store_is = r.store_is;
        outcome_is = r.outcome_is;
        legal = r.legal;
        phase = r.phase;
        right = r.right;
        holder = omega arith;
        claimer = omega arith;
        counted = let c = r.counted in let l = live_set vs other u gone there in let m = live_same s.views id v w at refl in let one : weight u ≡ 1 = ap (λ t. if t then 0 else 1) alive in omega arith;
        each = each_set (Fits q b') vs other gone
            record {
              about = λ t. absurd (true≢false t);
              resting = λ _. (refl, refl);
              seen = starts_none b.log;
              told = starts_none b.log;
              turn_here = λ e. sym free ∙ h.turn_here e;
              turn_else = λ _. refl;
              claim_here = λ e. sym calm ∙ h.claim_here e;
              claim_else = λ _. refl;
              late = λ t. absurd (no t);
              posted = λ t. absurd (no t);
              outcome = λ o e. absurd (none-some o e);
              alarmed = λ t. absurd (no t);
              first_here = λ z. absurd (apart (z ∙ sym zero_th));
              first_else = λ _. (refl, refl);
            }
            (λ j x _ e. each_set (Fits q b') s.views id w
            record {
              about = f.about;
              resting = f.resting;
              seen = f.seen;
              told = h.seen;
              turn_here = f.turn_here;
              turn_else = f.turn_else;
              claim_here = f.claim_here;
              claim_else = f.claim_else;
              late = λ t. ⊎_elim f.late h.late (either_true v.late u.late t);
              posted = λ t. ⊎_elim f.posted h.posted (either_true v.posted u.posted t);
              outcome = λ o e. ⊎_elim (f.outcome o) (λ (is : u.outcome ≡ Some o). inl (has_posted_one b other u o h calm is)) (either_outcome v.outcome u.outcome o e);
              alarmed = f.alarmed;
              first_here = λ _. (mine.0, mine.1, mine.2, mine.3, ap (λ (k : ℕ). k + 1) mine.4);
              first_else = f.first_else;
            }
            (λ i y off a. let g = r.each i y a in
            still_fits b b' i y g (starts_refl b.log) (g.turn_here, g.turn_else) (g.claim_here, g.claim_else) (omega arith) (inl refl) (λ z. absurd (off (z ∙ sym zero_th)))) j x e);
      }

  -- and so does the load after it, which shows that both passes had seen beginnings of one log
  pub hears : (slots id : ℕ) (me : Mine) → Allows K slots id me 0 (λ n. n) (heard (step slots 0 0 0 none) me)
  hears slots id me s r wide at small =
      let b : Board = r.board in
      let n : ℕ = get_or s.words 0 0 in
      let f = r.each id me.0 at in
      let l = longer_both b.log me.0.seen me.0.told f.seen f.told in (
        heard_of me.0,
        keeps,
        tt,
        stays s r id me.0 (heard_of me.0) (set s.words 0 n) at refl
            (learns b id me.0 (longer me.0.seen me.0.told) [] me.0.late me.0.posted me.0.tries me.0.looks f l.2 (starts_none b.log) f.late f.posted) (put_word s r n),
        (refl, refl, l.0, l.1),
      )
