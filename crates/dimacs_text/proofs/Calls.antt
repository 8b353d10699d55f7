-- What the calls of a reader make of a text.
use Rattle.std.proofs.Common.{◌≡◌, ℕ, suc, ◌+◌, ◌<◌, ◌≤◌, List, [], ◌∷◌, ◌++◌, length, take, drop, get_or, true, false, Result, Err, refl, sym, ◌∙◌, ap, subst, append_assoc, append-nil, Bool, ◌↔◌, ◌⊎◌, inl, inr, arith}
use Rattle.std.proofs.lemmas.Bool.{false≢true}
use Rattle.std.proofs.lemmas.List.{take_all, take-append-drop, take_more}
use Rattle.std.proofs.Math.Seq.{drop-cons}
use Rattle.sat_lits.specs.Limits.{LimitNumbers}
use Rattle.dimacs_text.specs.Walk.{walk}
use Rattle.dimacs_text.specs.Words.{word_after}
use Rattle.dimacs_text.specs.Lists.{Ended, Refused, Open}
use Rattle.dimacs_text.specs.Grammar.{Reading, read, reading_of, front_reading, reading_from, text_end, is_ended, ends_within}
use Rattle.dimacs_text.specs.Commands.{AreWithin}
use Rattle.dimacs_text.specs.Steps.{IsFresh, Step, Goes, Ends, Fails, GoesTo, FailsAs, Does, byte_step, end_step}
use Rattle.dimacs_text.specs.Stands.{IsWord, Stands, rest_at}
use Rattle.dimacs_text.specs.Counts.{Counts}
use Rattle.dimacs_text.specs.declared.state.State.{State}
use Rattle.dimacs_text.specs.declared.state.Stage.{Stage}
use Rattle.dimacs_text.specs.declared.state.Stage.TheVariants.{Open as IsOpen, Ended as IsEnded, Finished, Failed}
use Rattle.dimacs_text.specs.Reads.{IsUnrefused, IsSettled, Says, HasRead, Gives, Refuses, RunsOut, Concludes}
use Rattle.dimacs_text.specs.declared.refusal.ReadError.{ReadError}
use Rattle.dimacs_text.specs.declared.refusal.ReadError.TheVariants.{Refused as IsRefused, Memory}
use Rattle.dimacs_text.specs.declared.refusal.Refusal.{Refusal}
use Rattle.dimacs_text.specs.declared.reader.Reader.{Reader}
use Rattle.dimacs_text.specs.declared.command.Command.{Command}
use Rattle.dimacs_text.proofs.Ends.{reading_of-closed}
use Rattle.dimacs_text.proofs.Feed.{stands-open, Follows}
use Rattle.dimacs_text.proofs.Bytes.{byte-follows}
use Rattle.dimacs_text.proofs.EndFollows.{EndsAs, end-follows}
use Rattle.dimacs_text.proofs.Fronts.{stands-begins}
use Rattle.dimacs_text.proofs.Bounds.{Keeps, IsWithin, byte-keeps, end-within, counts-within, counts-fresh}

-- where nothing has come, the state stands for the empty text
stands-fresh : (limits : LimitNumbers) (st : State) → IsFresh limits st → Stands [] [] st
unfolding read rest_at word_after
stands-fresh limits st h = record {
  done = [];
  held = [];
  is_text = refl;
  holds = rw (h.comment, h.no_x) (held, h.word);
  place = omega (arith, h.place, h.start);
  taken = h.place;
  fits = omega (arith, h.place);
  fresh = λ _. h.lits;
  rest = λ whole tail. rw (h.start, h.phrase, h.named, h.count) refl;
}
  where
    held : IsWord st.phrase []
    held = tt

-- a reader that was fed nothing
pub has_read_nothing : (limits : LimitNumbers) (r : Reader) → IsFresh limits r.state → HasRead limits [] [] r
unfolding front_reading read reading_from walk text_end
has_read_nothing limits r h = let F : Stage → Type 0 = λ g. Says g [] [] r.state in record {
  decides = ap (λ (x : Reading). x.commands) nothing;
  unrefused = subst IsUnrefused (sym (ap (λ (x : Reading). x.end) nothing)) tt;
  begins = λ rest. ((reading_of limits rest).commands, refl);
  closes = λ rest. reading_of-closed limits rest;
  fits = λ _. omega arith;
  within = record { named = omega arith; few = omega arith };
  inside = record { limited = h.limited; says = subst F (sym h.stage) (stands-fresh limits r.state h, counts-fresh limits r.state h) };
}
  where
    nothing : front_reading limits [] ≡ record { commands = []; end = Open }
    nothing = ap (read false limits) (take_all limits.input [] (omega arith))

-- the text so far decides the commands so far, and is not refused
stands-front : (text : List ℕ) (commands : List Command) (st : State) → Stands text commands st → front_reading st.limits text ≡ record { commands = commands; end = Open }
unfolding front_reading
stands-front text commands st stands =
    let l : length text ≤ st.limits.input = omega (arith, stands.taken, stands.fits) in
    ap (read false st.limits) (take_all st.limits.input text l) ∙ stands-open text commands st stands

-- a text that is settled
settled-front : (limits : LimitNumbers) (text : List ℕ) (given : List Command) → IsSettled limits text given → front_reading limits text ≡ record { commands = given; end = Ended }
settled-front limits text given h = ap (front_reading limits) (sym (append-nil text)) ∙ h.fronts []

-- and stays so, however it goes on
settled-more : (limits : LimitNumbers) (text piece : List ℕ) (given : List Command) → IsSettled limits text given → IsSettled limits (text ++ piece) given
settled-more limits text piece given h = record {
  reads = λ rest. ap (reading_of limits) (append_assoc text piece rest) ∙ h.reads (piece ++ rest);
  fronts = λ rest. ap (front_reading limits) (append_assoc text piece rest) ∙ h.fronts (piece ++ rest);
}

-- what callers know where a `%` has ended the text
has_read_ended : (limits : LimitNumbers) (text : List ℕ) (given : List Command) (r : Reader) → r.state.limits ≡ limits → r.state.stage ≡ IsEnded → IsSettled limits text given
    → AreWithin limits given → HasRead limits text given r
has_read_ended limits text given r limited stage settled within = record {
  decides = ap (λ (x : Reading). x.commands) front;
  unrefused = subst IsUnrefused (sym (ap (λ (x : Reading). x.end) front)) tt;
  begins = λ rest. ([], ap (λ (x : Reading). x.commands) (settled.reads rest) ∙ sym (append-nil given));
  closes = λ rest. reading_of-closed limits (text ++ rest);
  fits = λ e. absurd (false≢true (sym e ∙ ap (λ (x : Reading). is_ended x.end) front));
  within = within;
  inside = record { limited = limited; says = subst F (sym stage) (subst G (sym limited) settled) };
}
  where
    front : front_reading limits text ≡ record { commands = given; end = Ended }
    front = settled-front limits text given settled

    F : Stage → Type 0
    F g = Says g text given r.state

    G : LimitNumbers → Type 0
    G l = IsSettled l text given

-- what a reader whose text has ended says of it
settled-by : (limits : LimitNumbers) (text : List ℕ) (given : List Command) (r : Reader) → r.state.stage ≡ IsEnded → HasRead limits text given r → IsSettled limits text given
settled-by limits text given r stage h =
    let F : Stage → Type 0 = λ g. Says g text given r.state in
    let G : LimitNumbers → Type 0 = λ l. IsSettled l text given in
    subst G h.inside.limited (subst F stage h.inside.says)

-- a `%` has ended its text
pub tells_ended : (r : Reader) (limits : LimitNumbers) (text : List ℕ) (given : List Command) → r.state.stage ≡ IsEnded → HasRead limits text given r → true ≡ ends_within limits text
tells_ended r limits text given stage h = sym (ap (λ (x : Reading). is_ended x.end) (settled-front limits text given (settled-by limits text given r stage h)))

-- whatever follows
pub settles_ended : (r : Reader) (limits : LimitNumbers) (text : List ℕ) (given : List Command) → r.state.stage ≡ IsEnded → HasRead limits text given r
    → (rest : List ℕ) → reading_of limits (text ++ rest) ≡ record { commands = given; end = Ended }
settles_ended r limits text given stage h = (settled-by limits text given r stage h).reads

-- no `%` has ended its text
pub tells_open : (r : Reader) (limits : LimitNumbers) (text : List ℕ) (given : List Command) → (r.state.stage ≡ IsEnded → ⊥) → HasRead limits text given r → false ≡ ends_within limits text
tells_open r limits text given stage h = go r.state.stage refl h.inside.says
  where
    go : (g : Stage) → r.state.stage ≡ g → Says g text given r.state → false ≡ ends_within limits text
    go IsOpen e s =
        let P : LimitNumbers → Type 0 = λ l. false ≡ ends_within l text in
        subst P h.inside.limited (sym (ap (λ (x : Reading). is_ended x.end) (stands-front text given r.state s.0)))
    go IsEnded e s = absurd (stage e)
    go Finished e s = absurd s
    go (Failed error) e s = absurd s

-- whether a reader's stage says that a `%` has ended its text, by a test of it
abbrev Tests : Reader → Bool → Type 0
Tests r v = (v ≡ true) ↔ (r.state.stage ≡ IsEnded)

-- so it is
pub tells : (r : Reader) (v : Bool) → Tests r v → (limits : LimitNumbers) (text : List ℕ) (given : List Command) → HasRead limits text given r → v ≡ ends_within limits text
tells r true t limits text given h = tells_ended r limits text given (t.0 refl) h
tells r false t limits text given h = tells_open r limits text given (λ e. false≢true (t.1 e)) h

-- a test that failed
pub goes_further : (r : Reader) (v : Bool) → Tests r v → v ≡ false → r.state.stage ≡ IsEnded → ⊥
goes_further r v t f e = false≢true (sym f ∙ t.1 e)

-- a reader takes no more: a `%` has ended its text, or it was said to end
abbrev TakesNone : Reader → Type 0
TakesNone r = (r.state.stage ≡ IsEnded) ⊎ (r.state.stage ≡ Finished)

-- where callers know its text, a `%` has ended it
none-ended : (limits : LimitNumbers) (text : List ℕ) (given : List Command) (r : Reader) → TakesNone r → HasRead limits text given r → r.state.stage ≡ IsEnded
none-ended limits text given r (inl stage) h = stage
none-ended limits text given r (inr stage) h = let F : Stage → Type 0 = λ g. Says g text given r.state in absurd (subst F stage h.inside.says)

-- nothing is taken behind a `%` that has ended the text
pub gives_nothing : (old : Reader) (piece : List ℕ) (before : List Command) → TakesNone old → Gives old old piece before before
gives_nothing old piece before none = record {
  commands = [];
  added = sym (append-nil before);
  has_read = λ limits text given h.
      let stage : old.state.stage ≡ IsEnded = none-ended limits text given old none h in
      rw append-nil (has_read_ended limits (text ++ piece) given old h.inside.limited stage (settled-more limits text piece given (settled-by limits text given old stage h)) h.within);
}

-- nor where the text is said to end
pub concludes_nothing : (old : Reader) (before : List Command) → TakesNone old → Concludes old before before Ended
concludes_nothing old before none = record {
  commands = [];
  added = sym (append-nil before);
  whole = λ limits text given h. rw append-nil (ap (reading_of limits) (sym (append-nil text)) ∙ (settled-by limits text given old (none-ended limits text given old none h) h).reads []);
  within = λ limits text given h. rw append-nil h.within;
}

-- the state of a reader that goes on stands for its text
open-says : (limits : LimitNumbers) (text : List ℕ) (given : List Command) (r : Reader) → (r.state.stage ≡ IsEnded → ⊥) → HasRead limits text given r
    → (r.state.stage ≡ IsOpen) × Stands text given r.state × Counts given r.state
open-says limits text given r none h = go r.state.stage refl h.inside.says
  where
    go : (g : Stage) → r.state.stage ≡ g → Says g text given r.state → (r.state.stage ≡ IsOpen) × Stands text given r.state × Counts given r.state
    go IsOpen e s = (e, s.0, s.1)
    go IsEnded e s = absurd (none e)
    go Finished e s = absurd s
    go (Failed error) e s = absurd s

-- what callers know follows from the state
has_read : (limits : LimitNumbers) (text : List ℕ) (given : List Command) (r : Reader) → r.state.limits ≡ limits → r.state.stage ≡ IsOpen → Stands text given r.state → Counts given r.state
    → HasRead limits text given r
has_read limits text given r limited stage stands counts =
    let P : LimitNumbers → Type 0 = λ l. HasRead l text given r in
    let F : Stage → Type 0 = λ g. Says g text given r.state in
    let front = stands-front text given r.state stands in
    subst P limited (record {
      decides = ap (λ (x : Reading). x.commands) front;
      unrefused = subst IsUnrefused (sym (ap (λ (x : Reading). x.end) front)) tt;
      begins = λ rest. stands-begins text rest given r.state stands;
      closes = λ rest. reading_of-closed r.state.limits (text ++ rest);
      fits = λ _. omega (arith, stands.taken, stands.fits);
      within = counts-within given r.state counts;
      inside = record { limited = refl; says = subst F (sym stage) (stands, counts) };
    })

-- what a byte makes of a reader
abbrev Reads : LimitNumbers → List ℕ → List Command → Step → Type 0
Reads limits text given (Goes s cs) = HasRead limits text (given ++ cs) (record { state = s })
Reads limits text given (Ends s cs) = HasRead limits text (given ++ cs) (record { state = s })
Reads limits text given (Fails why cs) = ((rest : List ℕ) → reading_of limits (text ++ rest) ≡ record { commands = given ++ cs; end = Refused why }) × AreWithin limits (given ++ cs)

-- a byte makes of a reader that goes on what its step says
byte-reads : (limits : LimitNumbers) (text : List ℕ) (given : List Command) (r : Reader) (b : ℕ) → (r.state.stage ≡ IsEnded → ⊥) → HasRead limits text given r
    → Reads limits (text ++ b ∷ []) given (byte_step r.state b)
byte-reads limits text given r b none h = go (byte_step r.state b) (byte-follows text given r.state b says.1) (byte-keeps given r.state b says.2)
  where
    says : (r.state.stage ≡ IsOpen) × Stands text given r.state × Counts given r.state
    says = open-says limits text given r none h

    go : (step : Step) → Follows r.state (text ++ b ∷ []) given step → Keeps r.state given step → Reads limits (text ++ b ∷ []) given step
    go (Goes s cs) f k = has_read limits (text ++ b ∷ []) (given ++ cs) (record { state = s }) (f.1 ∙ h.inside.limited) (f.2 ∙ says.0) f.0 k.0
    go (Ends s cs) f k =
        let P : LimitNumbers → Type 0 = λ l. AreWithin l (given ++ cs) in
        let Q : LimitNumbers → Type 0 = λ l. IsSettled l (text ++ b ∷ []) (given ++ cs) in
        has_read_ended limits (text ++ b ∷ []) (given ++ cs) (record { state = s }) (f.1 ∙ h.inside.limited) f.2 (subst Q h.inside.limited f.0) (subst P h.inside.limited k)
    go (Fails why cs) f k =
        let P : LimitNumbers → Type 0 = λ l. AreWithin l (given ++ cs) in
        (λ rest. ap (λ l. reading_of l (text ++ b ∷ [] ++ rest)) (sym h.inside.limited) ∙ f rest, subst P h.inside.limited k)

-- no byte was taken
pub gives_none : (old : Reader) (before : List Command) → Gives old old [] before before
gives_none old before = record {
  commands = [];
  added = sym (append-nil before);
  has_read = λ limits text given h. rw (append-nil, append-nil) h;
}

-- a piece was taken, and one byte more
gives_byte : (old st new : Reader) (piece : List ℕ) (b : ℕ) (before from to : List Command) → (st.state.stage ≡ IsEnded → ⊥) → Gives old st piece before from
    → GoesTo new.state from to (byte_step st.state b) → Gives old new (piece ++ b ∷ []) before to
gives_byte old st new piece b before from to none gives does = go (byte_step st.state b) refl does
  where
    taken : (s : State) (cs : List Command) → new.state ≡ s → to ≡ from ++ cs
        → ((limits : LimitNumbers) (text : List ℕ) (given : List Command) → HasRead limits text given old → HasRead limits (text ++ piece ++ b ∷ []) (given ++ gives.commands ++ cs) (record { state = s })) → Gives old new (piece ++ b ∷ []) before to
    taken s cs e f next = record {
      commands = gives.commands ++ cs;
      added = f ∙ (ap (λ x. x ++ cs) gives.added ∙ append_assoc before gives.commands cs);
      has_read = λ limits text given h.
          let F : State → Type 0 = λ x. HasRead limits (text ++ (piece ++ b ∷ [])) (given ++ (gives.commands ++ cs)) (record { state = x }) in
          subst F (sym e) (rw (← append_assoc text piece (b ∷ []), ← append_assoc given gives.commands cs) (next limits text given h));
    }

    reads : (step : Step) → byte_step st.state b ≡ step → (limits : LimitNumbers) (text : List ℕ) (given : List Command) → HasRead limits text given old
        → Reads limits (text ++ piece ++ b ∷ []) (given ++ gives.commands) step
    reads step e limits text given h =
        let P : Step → Type 0 = Reads limits (text ++ piece ++ b ∷ []) (given ++ gives.commands) in
        subst P e (byte-reads limits (text ++ piece) (given ++ gives.commands) st b none (gives.has_read limits text given h))

    go : (step : Step) → byte_step st.state b ≡ step → GoesTo new.state from to step → Gives old new (piece ++ b ∷ []) before to
    go (Goes s cs) e g = taken s cs g.0 g.1 (reads (Goes s cs) e)
    go (Ends s cs) e g = taken s cs g.0 g.1 (reads (Ends s cs) e)
    go (Fails why cs) e g = absurd g

-- the loop over a piece takes the byte at its place i
pub gives_more : (old st new : Reader) (piece : List ℕ) (i : ℕ) (before from to : List Command) → i < length piece → (st.state.stage ≡ IsEnded → ⊥) → Gives old st (take i piece) before from
    → GoesTo new.state from to (byte_step st.state (get_or piece i 0))
    → Gives old new (take (i + 1) piece) before to
gives_more old st new piece i before from to l none gives does = rw (take_more piece i 0 l) (gives_byte old st new (take i piece) (get_or piece i 0) before from to none gives does)

-- the loop stops where a `%` has ended the text
pub gives_rest : (old st : Reader) (piece : List ℕ) (i : ℕ) (before from : List Command) → st.state.stage ≡ IsEnded → Gives old st (take i piece) before from → Gives old st piece before from
gives_rest old st piece i before from stage gives = record {
  commands = gives.commands;
  added = gives.added;
  has_read = λ limits text given h.
      let front = gives.has_read limits text given h in
      let P : List ℕ → Type 0 = λ t. IsSettled limits t (given ++ gives.commands) in
      let whole : text ++ take i piece ++ drop i piece ≡ text ++ piece = append_assoc text (take i piece) (drop i piece) ∙ ap (λ t. text ++ t) (take-append-drop i piece) in
      let settled : IsSettled limits (text ++ piece) (given ++ gives.commands) = subst P whole (settled-more limits (text ++ take i piece) (drop i piece) (given ++ gives.commands) (settled-by limits (text ++ take i piece) (given ++ gives.commands) st stage front)) in
      has_read_ended limits (text ++ piece) (given ++ gives.commands) st front.inside.limited stage settled front.within;
}

-- the byte behind a front of a piece refuses the text, whatever follows
refuses_byte : (old st : Reader) (piece more : List ℕ) (b : ℕ) (before from to : List Command) (why : Refusal) → (st.state.stage ≡ IsEnded → ⊥) → Gives old st piece before from
    → FailsAs why from to (byte_step st.state b) → Refuses old (piece ++ b ∷ more) before to why
refuses_byte old st piece more b before from to why none gives does = go (byte_step st.state b) refl does
  where
    go : (step : Step) → byte_step st.state b ≡ step → FailsAs why from to step → Refuses old (piece ++ b ∷ more) before to why
    go (Goes s cs) e g = absurd g
    go (Ends s cs) e g = absurd g
    go (Fails why' cs) e g = record {
      commands = gives.commands ++ cs;
      added = g.1 ∙ (ap (λ x. x ++ cs) gives.added ∙ append_assoc before gives.commands cs);
      final = λ limits text given h rest.
          let same : text ++ (piece ++ b ∷ more) ++ rest ≡ text ++ piece ++ b ∷ [] ++ (more ++ rest) = simp append_assoc in
          rw (g.0, same, ← append_assoc given gives.commands cs) ((last limits text given h).0 (more ++ rest));
      within = λ limits text given h. rw (← append_assoc given gives.commands cs) (last limits text given h).1;
    }
      where
        last : (limits : LimitNumbers) (text : List ℕ) (given : List Command) → HasRead limits text given old → Reads limits (text ++ piece ++ b ∷ []) (given ++ gives.commands) (Fails why' cs)
        last limits text given h =
            let P : Step → Type 0 = Reads limits (text ++ piece ++ b ∷ []) (given ++ gives.commands) in
            subst P e (byte-reads limits (text ++ piece) (given ++ gives.commands) st b none (gives.has_read limits text given h))

-- the loop over a piece stops at a byte that refuses the text
pub refuses_at : (old st : Reader) (new : State) (piece : List ℕ) (i : ℕ) (before from to : List Command) (error : ReadError) (why : Refusal) → i < length piece
    → (st.state.stage ≡ IsEnded → ⊥) → Gives old st (take i piece) before from
    → ◌≡◌ {A = Result (Unit {0}) ReadError} (Err error) (Err (IsRefused why)) → Does {X = Unit {0}} (Err error) new from to (byte_step st.state (get_or piece i 0)) → Refuses old piece before to why
refuses_at old st new piece i before from to (IsRefused why') why l none gives e does =
    let same : why' ≡ why = cc in
    let whole : take i piece ++ get_or piece i 0 ∷ drop (suc i) piece ≡ piece = ap (λ t. take i piece ++ t) (sym (drop-cons piece i 0 l)) ∙ take-append-drop i piece in
    let P = λ (t : List ℕ). Refuses old t before to why in
    let Q = λ (w : Refusal). FailsAs w from to (byte_step st.state (get_or piece i 0)) in
    subst P whole (refuses_byte old st (take i piece) (drop (suc i) piece) (get_or piece i 0) before from to why none gives (subst Q same does))
refuses_at old st new piece i before from to Memory why l none gives e does = cc

-- memory runs out at the byte at the place i
pub runs_out_at : (old st : Reader) (new : State) (piece : List ℕ) (i : ℕ) (before from to : List Command) (error : ReadError) (step : Step) → Gives old st (take i piece) before from
    → ◌≡◌ {A = Result (Unit {0}) ReadError} (Err error) (Err Memory) → Does {X = Unit {0}} (Err error) new from to step → RunsOut old piece before to
runs_out_at old st new piece i before from to (IsRefused why) step gives e does = cc
runs_out_at old st new piece i before from to Memory step gives e does = record {
  commands = gives.commands;
  added = does ∙ gives.added;
  front = λ limits text given h. (i, (gives.has_read limits text given h).decides);
  within = λ limits text given h. (gives.has_read limits text given h).within;
}

-- what the end of a text makes of it
abbrev Reaches : LimitNumbers → List ℕ → List Command → Step → Type 0
Reaches limits text given (Goes s cs) = (reading_of limits text ≡ record { commands = given ++ cs; end = Ended }) × AreWithin limits (given ++ cs)
Reaches limits text given (Ends s cs) = (reading_of limits text ≡ record { commands = given ++ cs; end = Ended }) × AreWithin limits (given ++ cs)
Reaches limits text given (Fails why cs) = (reading_of limits text ≡ record { commands = given ++ cs; end = Refused why }) × AreWithin limits (given ++ cs)

-- the end of a text makes of a reader that goes on what its step says
end-reaches : (limits : LimitNumbers) (text : List ℕ) (given : List Command) (old : Reader) → old.state.stage ≡ IsOpen → HasRead limits text given old → Reaches limits text given (end_step old.state)
end-reaches limits text given old stage h =
    let P : LimitNumbers → Type 0 = λ l. Reaches l text given (end_step old.state) in
    let F : Stage → Type 0 = λ g. Says g text given old.state in
    let says : Stands text given old.state × Counts given old.state = subst F stage h.inside.says in
    subst P h.inside.limited (go (end_step old.state) (end-follows text given old.state says.0) (end-within given old.state says.1))
  where
    go : (step : Step) → EndsAs old.state text given step → IsWithin old.state.limits given step → Reaches old.state.limits text given step
    go (Goes s cs) e within = (e, within)
    go (Ends s cs) e within = (e, within)
    go (Fails why cs) e within = (e, within)

-- the text ends well
pub concludes_goes : (old : Reader) (new : State) (before now : List Command) → old.state.stage ≡ IsOpen → GoesTo new before now (end_step old.state) → Concludes old before now Ended
concludes_goes old new before now stage does = go (end_step old.state) (λ limits text given. end-reaches limits text given old stage) does
  where
    ends : (cs : List Command) → now ≡ before ++ cs → ((limits : LimitNumbers) (text : List ℕ) (given : List Command) → HasRead limits text given old → (reading_of limits text ≡ record { commands = given ++ cs; end = Ended }) × AreWithin limits (given ++ cs)) → Concludes old before now Ended
    ends cs e reaches = record {
      commands = cs;
      added = e;
      whole = λ limits text given h. (reaches limits text given h).0;
      within = λ limits text given h. (reaches limits text given h).1;
    }

    go : (step : Step) → ((limits : LimitNumbers) (text : List ℕ) (given : List Command) → HasRead limits text given old → Reaches limits text given step) → GoesTo new before now step
        → Concludes old before now Ended
    go (Goes s cs) reaches g = ends cs g.1 reaches
    go (Ends s cs) reaches g = ends cs g.1 reaches
    go (Fails why cs) reaches g = absurd g

-- the end of the text refuses it
concludes_fails : (old : Reader) (before now : List Command) (why : Refusal) → old.state.stage ≡ IsOpen → FailsAs why before now (end_step old.state) → Concludes old before now (Refused why)
concludes_fails old before now why stage does = go (end_step old.state) (λ limits text given. end-reaches limits text given old stage) does
  where
    go : (step : Step) → ((limits : LimitNumbers) (text : List ℕ) (given : List Command) → HasRead limits text given old → Reaches limits text given step) → FailsAs why before now step
        → Concludes old before now (Refused why)
    go (Goes s cs) reaches g = absurd g
    go (Ends s cs) reaches g = absurd g
    go (Fails why' cs) reaches g = record {
      commands = cs;
      added = g.1;
      whole = λ limits text given h. rw g.0 (reaches limits text given h).0;
      within = λ limits text given h. (reaches limits text given h).1;
    }

-- the same, from the error that a call answers
pub concludes_refused : (old : Reader) (new : State) (before now : List Command) (error : ReadError) (why : Refusal) → old.state.stage ≡ IsOpen → ◌≡◌ {A = Result (Unit {0}) ReadError} (Err error) (Err (IsRefused why))
    → Does {X = Unit {0}} (Err error) new before now (end_step old.state) → Concludes old before now (Refused why)
concludes_refused old new before now (IsRefused why') why stage e does =
    let same : why' ≡ why = cc in
    let Q = λ (w : Refusal). FailsAs w before now (end_step old.state) in
    concludes_fails old before now why stage (subst Q same does)
concludes_refused old new before now Memory why stage e does = cc
