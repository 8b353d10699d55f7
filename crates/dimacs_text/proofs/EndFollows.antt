-- The state stands for the text so far, where the text ends.
use Rattle.std.proofs.Common.{◌≡◌, ℕ, ◌≤◌, Bool, true, false, List, [], ◌++◌, length, nat_le, refl, sym, ◌∙◌, ap, append-nil, arith}
use Rattle.std.proofs.lemmas.Bool.{le-leb}
use Rattle.sat_lits.specs.Limits.{LimitNumbers}
use Rattle.dimacs_text.specs.Walk.{walk}
use Rattle.dimacs_text.specs.Phrases.{is_nothing}
use Rattle.dimacs_text.specs.CommentSteps.{in_comment}
use Rattle.dimacs_text.specs.Lists.{Ended, Refused, literals, literals_end}
use Rattle.dimacs_text.specs.Headers.{header, header_end}
use Rattle.dimacs_text.specs.Grammar.{read, reading_of, front_reading, reading_from, text_end}
use Rattle.dimacs_text.specs.Steps.{Step, Goes, Ends, Fails, word_step, line_by, last_step, at_end, end_step}
use Rattle.dimacs_text.specs.Stands.{Holds, Stands, rest_at, closed, headed, listing_in}
use Rattle.dimacs_text.specs.declared.phrase.Phrase.{Phrase}
use Rattle.dimacs_text.specs.declared.phrase.Phrase.TheVariants.{Nothing, Clause as InClause, Parity as InParity, Header as InHeader}
use Rattle.dimacs_text.specs.declared.state.State.{State}
use Rattle.dimacs_text.specs.declared.command.Command.{Command}
use Rattle.dimacs_text.specs.declared.refusal.Refusal.TheVariants.{Truncated}
use Rattle.dimacs_text.proofs.Walks.{elim_true}
use Rattle.dimacs_text.proofs.Leads.{Leads, leads_word}
use Rattle.dimacs_text.proofs.LineLeads.{leads_line}

-- what the end of a text makes of it
abbrev pub EndsAs : State → List ℕ → List Command → Step → Type 0
EndsAs old text commands (Goes s cs) = reading_of old.limits text ≡ record { commands = commands ++ cs; end = Ended }
EndsAs old text commands (Ends s cs) = reading_of old.limits text ≡ record { commands = commands ++ cs; end = Ended }
EndsAs old text commands (Fails r cs) = reading_of old.limits text ≡ record { commands = commands ++ cs; end = Refused r }

-- a text that is short enough is read whole
pub whole_reading : (limits : LimitNumbers) (text : List ℕ) → length text ≤ limits.input → reading_of limits text ≡ read true limits text
unfolding reading_of front_reading
whole_reading limits text h = elim_true (nat_le (length text) limits.input) (read true limits text) _ (le-leb _ _ h)

-- where the text ends nothing may be open
end_leads : (text : List ℕ) (commands : List Command) (st : State) → reading_of st.limits text ≡ read true st.limits (text ++ []) → (step : Step)
    → Leads true st.limits st.place [] commands (read true st.limits (text ++ [])) step → EndsAs st text commands (at_end st.place step)
unfolding rest_at closed headed literals header walk literals_end header_end reading_from text_end
end_leads text commands st e (Goes s cs) leads = go s.phrase (e ∙ leads)
  where
    go : (p : Phrase) → reading_of st.limits text ≡ rest_at true st.limits st.place (commands ++ cs) p (listing_in s) []
        → EndsAs st text commands (elim (is_nothing p) [ true ↦ Goes s cs | false ↦ Fails (Truncated st.place) cs ])
    go Nothing h = h
    go InClause h = h
    go InParity h = h
    go (InHeader wanted) h = h
end_leads text commands st e (Ends s cs) leads = absurd leads
end_leads text commands st e (Fails r cs) leads = e ∙ leads

-- The reader's step at the text's end.
pub end-follows : (text : List ℕ) (commands : List Command) (st : State) → Stands text commands st → EndsAs st text commands (end_step st)
unfolding end_step last_step
end-follows text commands st stands = end_leads text commands st whole _ (go (in_comment st.comment) stands.holds)
  where
    whole : reading_of st.limits text ≡ read true st.limits (text ++ [])
    whole = whole_reading st.limits text (omega (arith, stands.taken, stands.fits)) ∙ ap (read true st.limits) (sym (append-nil text))

    go : (c : Bool) → Holds c st stands.held → Leads true st.limits st.place [] commands (read true st.limits (text ++ [])) (elim c [ true ↦ line_by st false st.comment | false ↦ word_step st ])
    go true holds = leads_line text commands st stands holds true [] tt refl
    go false holds = leads_word text commands st stands holds true [] tt refl
