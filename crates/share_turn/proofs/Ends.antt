-- What is known where an exchange is closed.
use Rattle.std.proofs.Common.{◌≡◌, ◌≢◌, ℕ, ◌<◌, Bool, true, false, List, get_or, Some, None, Option, refl, sym, ap, ◌∙◌, subst, arith, IfSome, IfNone, IsSome, rules}
use mathlib.Core.Logic.{dite}
use mathlib.Core.Option.{some, some-injective}
use native.Mathlib.Decide.{ℕ_discrete}
use lib.ListN.{get_elem?}
use Rattle.atomic_table.specs.Table.{Final, Seen}
use Rattle.share_turn.specs.declared.held.Held.TheVariants.{Stored, Said}
use Rattle.share_turn.specs.declared.held.Outcome.{Outcome}
use Rattle.share_turn.specs.declared.view.View.{View}
use Rattle.share_turn.specs.declared.view.Question.{Question}
use Rattle.share_turn.specs.declared.view.Phase.{Phase}
use Rattle.share_turn.specs.declared.view.Phase.TheVariants.{Free}
use Rattle.share_turn.specs.declared.view.Claim.TheVariants.{Quiet}
use Rattle.sat_lits.specs.declared.shared.Shared.{Shared}
use Rattle.share_store.specs.Log.{StartsWith}
use Rattle.share_turn.specs.Views.{IsLegalFor, IsRightOutcome}
use Rattle.share_turn.specs.Board.{Slot, Board, Stage, quiet, claimed, raised, put, posted, rank, stage_word, claim_at, outcome_home, RightAt, turn_word, store_home}
use Rattle.share_turn.proofs.Fronts.{live_one, live_two, there, index_of}
use Rattle.share_turn.proofs.TurnSteps.{St, K, first_is, has_posted_one}
use Rattle.share_turn.proofs.OutcomeSteps.{end_stage}

-- where no pass has a claim and the word is not 0, it is 2
all_ended : (t : Stage) → claim_at t ≡ Quiet → 0 < rank t → stage_word t ≡ 2
all_ended quiet e h = absurd (omega arith)
all_ended claimed e h = absurd (cc)
all_ended raised e h = absurd (cc)
all_ended (put o) e h = absurd (cc)
all_ended (posted o) e h = refl

-- what is asked where nothing is there holds where something is
if_there : {X : Type 0} (o : Option X) (P : Type 0) → IsSome o → IfNone o P
if_there None P there = absurd (search rules)
if_there (Some x) P there = tt

-- and where it holds anyway
if_holds : {X : Type 0} (o : Option X) (P : Type 0) → P → IfNone o P
if_holds None P p = p
if_holds (Some x) P p = tt

-- what holds of each value that may be there
pub if_each : {X : Type 0} (o : Option X) (P : X → Type 0) → ((x : X) → o ≡ Some x → P x) → IfSome o P
if_each None P each = tt
if_each (Some x) P each = each x refl

module _ (q : Question) where
  -- where as many passes were joined as split off, every other one was joined
  alone : (s : St) (r : K q s) (id : ℕ) (v : View) (at : get_elem? s.views id ≡ some v) → v.first ≡ true → v.splits ≡ v.joins → (j : ℕ) (u : View) → get_elem? s.views j ≡ some u → j ≢ id → u.spent ≡ true
  alone s r id v at first even j u e off = go u.spent refl
    where
      go : (t : Bool) → u.spent ≡ t → u.spent ≡ true
      go true is = is
      go false is =
          let f = r.each id v at in
          let mine = f.first_here (first_is q r.board id v f first) in
          let two = live_two s.views j id u v off e at is mine.1 in
          let c = r.counted in
          let p : r.board.splits ≡ r.board.joins = sym mine.3 ∙ even ∙ mine.4 in
          absurd (omega arith)

  -- so is the turn of the first pass the only one
  all_free : (s : St) (r : K q s) (id : ℕ) (v : View) → get_elem? s.views id ≡ some v → v.first ≡ true → v.splits ≡ v.joins → v.turn ≡ Free → r.board.turn ≡ Free
  all_free s r id v at first even free =
      let h = there s.views r.board.holder r.holder in
      let g = r.each r.board.holder h.0 h.1 in
      dite (ℕ_discrete r.board.holder id)
      (λ same. let f = r.each id v at in sym (f.turn_here (sym same)) ∙ free)
      (λ off. sym (g.turn_here refl) ∙ (g.resting (alone s r id v at first even r.board.holder h.0 h.1 off)).0)

  -- and so is its claim
  all_quiet : (s : St) (r : K q s) (id : ℕ) (v : View) → get_elem? s.views id ≡ some v → v.first ≡ true → v.splits ≡ v.joins → v.claim ≡ Quiet → claim_at r.board.stage ≡ Quiet
  all_quiet s r id v at first even calm =
      let h = there s.views r.board.claimer r.claimer in
      let g = r.each r.board.claimer h.0 h.1 in
      dite (ℕ_discrete r.board.claimer id)
      (λ same. let f = r.each id v at in sym (f.claim_here (sym same)) ∙ calm)
      (λ off. sym (g.claim_here refl) ∙ (g.resting (alone s r id v at first even r.board.claimer h.0 h.1 off)).1)

  -- where word 0 is 0 the store is at home
  free_word : (t : Phase) (log : List Shared) → turn_word t ≡ 0 → store_home log t ≡ some (Some (Stored log))
  free_word Free log e = refl
  free_word Rattle.share_turn.specs.declared.view.Phase.TheVariants.Won log e = refl
  free_word (Rattle.share_turn.specs.declared.view.Phase.TheVariants.Away h) log e = absurd (omega arith)
  free_word (Rattle.share_turn.specs.declared.view.Phase.TheVariants.Out h) log e = absurd (omega arith)
  free_word (Rattle.share_turn.specs.declared.view.Phase.TheVariants.Back h) log e = refl

  -- where word 1 is 2 a right outcome is at home
  posted_home : (t : Stage) (a : Bool) → stage_word t ≡ 2 → RightAt q a t → (o : Outcome) × (outcome_home t ≡ some (Some (Said o))) × IsRightOutcome q a o
  posted_home quiet a e r = absurd (omega arith)
  posted_home claimed a e r = absurd (omega arith)
  posted_home raised a e r = absurd (omega arith)
  posted_home (put o) a e r = absurd (omega arith)
  posted_home (posted o) a e r = (o, refl, r)

  module _ (id : ℕ) (v : View) (ws : List ℕ) (xs : List Slot) (end : Final (Seen (K q) id v) ws xs) (first : v.first ≡ true) where
    -- where word 0 is 0 at the end, slot 0 has a legal store that begins with what the first pass saw
    pub ends_store : get_elem? ws 0 ≡ some 0 → (log : List Shared) × (get_elem? xs 0 ≡ some (Some (Stored log))) × IsLegalFor v.question log × StartsWith log v.seen
    ends_store word =
        let s : St = end.0 in
        let r : K q s = end.1.0 in
        let b : Board = r.board in
        let f = r.each id v end.1.1 in
        let mine = f.first_here (first_is q b id v f first) in
        let a = f.about mine.1 in
        let zero_th : turn_word b.turn ≡ 0 = sym r.turn_is ∙ ap (λ (l : List ℕ). get_or l 0 0) end.2 ∙ index_of ws 0 0 word in
        (b.log, end.4 0 (Some (Stored b.log)) (r.store_is ∙ ap (λ h. some h) (free_word b.turn b.log zero_th)), subst (λ (z : Question). IsLegalFor z b.log) (sym a) r.legal, f.seen)

    -- where every pass was joined, word 0 is 0 at the end
    pub ends_free : v.splits ≡ v.joins → v.turn ≡ Free → (n : ℕ) → get_elem? ws 0 ≡ some n → n ≡ 0
    ends_free even free n word =
        let s : St = end.0 in
        let r : K q s = end.1.0 in
        sym (index_of ws 0 n word) ∙ ap (λ (l : List ℕ). get_or l 0 0) (sym end.2) ∙ r.turn_is ∙ ap turn_word (all_free s r id v end.1.1 first even free)

    -- where word 1 is 2 at the end, slot 1 has a right outcome
    pub ends_outcome : get_elem? ws 1 ≡ some 2 → (o : Outcome) × (get_elem? xs 1 ≡ some (Some (Said o))) × IsRightOutcome v.question v.alarmed o
    ends_outcome word =
        let s : St = end.0 in
        let r : K q s = end.1.0 in
        let b : Board = r.board in
        let f = r.each id v end.1.1 in
        let mine = f.first_here (first_is q b id v f first) in
        let a = f.about mine.1 in
        let two : stage_word b.stage ≡ 2 = sym r.stage_is ∙ ap (λ (l : List ℕ). get_or l 1 0) end.2 ∙ index_of ws 1 2 word in
        let p = posted_home b.stage b.alarmed two r.right in
        (p.0, end.4 1 (Some (Said p.0)) (r.outcome_is ∙ ap (λ h. some h) p.1), subst (λ (z : Question × Bool). IsRightOutcome z.0 z.1 p.0) (λ i. (sym a i, sym mine.2 i)) p.2)

    -- where the first pass knows of an outcome, word 1 is 2
    pub ends_posted : v.posted ≡ true → (n : ℕ) → get_elem? ws 1 ≡ some n → n ≡ 2
    ends_posted h n word =
        let s : St = end.0 in
        let r : K q s = end.1.0 in
        sym (index_of ws 1 n word) ∙ ap (λ (l : List ℕ). get_or l 1 0) (sym end.2) ∙ r.stage_is ∙ end_stage r.board.stage ((r.each id v end.1.1).posted h)

    -- and where it came late and every pass was joined
    pub ends_late : v.splits ≡ v.joins → v.claim ≡ Quiet → v.late ≡ true → (n : ℕ) → get_elem? ws 1 ≡ some n → n ≡ 2
    ends_late even calm h n word =
        let s : St = end.0 in
        let r : K q s = end.1.0 in
        sym (index_of ws 1 n word) ∙ ap (λ (l : List ℕ). get_or l 1 0) (sym end.2) ∙ r.stage_is ∙ all_ended r.board.stage (all_quiet s r id v end.1.1 first even calm) ((r.each id v end.1.1).late h)

    -- what `close` hands out of slot 0 is legal
    pub close_store : (o : Option (List Shared)) (turn : ℕ) (held : Slot) → ((log : List Shared) → turn ≡ 0 → held ≡ Some (Stored log) → o ≡ Some log) → (turn ≢ 0 → o ≡ None)
        → get_elem? ws 0 ≡ some turn → get_elem? xs 0 ≡ some held → IfSome o (λ (log : List Shared). IsLegalFor v.question log × StartsWith log v.seen)
    close_store o turn held free taken word slot = dite (ℕ_discrete turn 0)
        (λ zero_th.
        let e = ends_store (word ∙ ap (λ (n : ℕ). some n) zero_th) in
        let same : held ≡ Some (Stored e.0) = some-injective held (Some (Stored e.0)) (sym slot ∙ e.1) in
        subst (λ x. IfSome x (λ (log : List Shared). IsLegalFor v.question log × StartsWith log v.seen)) (sym (free e.0 zero_th same)) (e.2, e.3))
        (λ not. subst (λ x. IfSome x (λ (log : List Shared). IsLegalFor v.question log × StartsWith log v.seen)) (sym (taken not)) tt)

    -- it hands out a store where every pass was joined
    pub close_all : (o : Option (List Shared)) (turn : ℕ) (held : Slot) → ((log : List Shared) → turn ≡ 0 → held ≡ Some (Stored log) → o ≡ Some log)
        → get_elem? ws 0 ≡ some turn → get_elem? xs 0 ≡ some held → v.turn ≡ Free → v.splits ≡ v.joins → IsSome o
    close_all o turn held free word slot calm even =
        let zero_th : turn ≡ 0 = ends_free even calm turn word in
        let e = ends_store (word ∙ ap (λ (n : ℕ). some n) zero_th) in
        let same : held ≡ Some (Stored e.0) = some-injective held (Some (Stored e.0)) (sym slot ∙ e.1) in
        subst (λ (x : Option (List Shared)). IsSome x) (sym (free e.0 zero_th same)) (search rules)

    -- it hands out none only where a pass was not joined
    pub close_none : (o : Option (List Shared)) (turn : ℕ) (held : Slot) → ((log : List Shared) → turn ≡ 0 → held ≡ Some (Stored log) → o ≡ Some log)
        → get_elem? ws 0 ≡ some turn → get_elem? xs 0 ≡ some held → v.turn ≡ Free → IfNone o (v.joins < v.splits)
    close_none o turn held free word slot calm = dite (ℕ_discrete v.splits v.joins)
        (λ even. if_there o (v.joins < v.splits) (close_all o turn held free word slot calm even))
        (λ not.
        let s : St = end.0 in
        let r : K q s = end.1.0 in
        let f = r.each id v end.1.1 in
        let mine = f.first_here (first_is q r.board id v f first) in
        let some_live = live_one s.views id v end.1.1 mine.1 in
        let count = r.counted in
        let splits : v.splits ≡ r.board.splits = mine.3 in
        let joins : v.joins ≡ r.board.joins = mine.4 in
        if_holds o (v.joins < v.splits) (omega arith))

    -- what it hands out of slot 1 is right
    pub close_outcome : (o : Option Outcome) (stage : ℕ) (said : Slot) → ((x : Outcome) → stage ≡ 2 → said ≡ Some (Said x) → o ≡ Some x) → (stage ≢ 2 → o ≡ None)
        → get_elem? ws 1 ≡ some stage → get_elem? xs 1 ≡ some said → IfSome o (λ x. IsRightOutcome v.question v.alarmed x)
    close_outcome o stage said ended not_ended word slot = dite (ℕ_discrete stage 2)
        (λ two.
        let e = ends_outcome (word ∙ ap (λ (n : ℕ). some n) two) in
        let same : said ≡ Some (Said e.0) = some-injective said (Some (Said e.0)) (sym slot ∙ e.1) in
        subst (λ x. IfSome x (λ y. IsRightOutcome v.question v.alarmed y)) (sym (ended e.0 two same)) e.2)
        (λ not. subst (λ x. IfSome x (λ y. IsRightOutcome v.question v.alarmed y)) (sym (not_ended not)) tt)

    -- it hands out an outcome where word 1 is 2
    pub close_ended : (o : Option Outcome) (stage : ℕ) (said : Slot) → ((x : Outcome) → stage ≡ 2 → said ≡ Some (Said x) → o ≡ Some x)
        → get_elem? ws 1 ≡ some stage → get_elem? xs 1 ≡ some said → stage ≡ 2 → IsSome o
    close_ended o stage said ended word slot two =
        let e = ends_outcome (word ∙ ap (λ (n : ℕ). some n) two) in
        let same : said ≡ Some (Said e.0) = some-injective said (Some (Said e.0)) (sym slot ∙ e.1) in
        subst (λ (x : Option Outcome). IsSome x) (sym (ended e.0 two same)) (search rules)

    -- it hands out the outcome that the first pass has
    pub close_kept : (o : Option Outcome) (stage : ℕ) (said : Slot) (own : Outcome) → ((x : Outcome) → stage ≡ 2 → said ≡ Some (Said x) → o ≡ Some x)
        → get_elem? ws 1 ≡ some stage → get_elem? xs 1 ≡ some said → v.claim ≡ Quiet → v.outcome ≡ Some own → o ≡ Some own
    close_kept o stage said own ended word slot calm has =
        let s : St = end.0 in
        let r : K q s = end.1.0 in
        let on : r.board.stage ≡ posted own = has_posted_one q r.board id v own (r.each id v end.1.1) calm has in
        let two : stage ≡ 2 = sym (index_of ws 1 stage word) ∙ ap (λ (l : List ℕ). get_or l 1 0) (sym end.2) ∙ r.stage_is ∙ ap stage_word on in
        let home = end.4 1 (Some (Said own)) (r.outcome_is ∙ ap (λ t. some (outcome_home t)) on) in
        let same : said ≡ Some (Said own) = some-injective said (Some (Said own)) (sym slot ∙ home) in
        ended own two same
