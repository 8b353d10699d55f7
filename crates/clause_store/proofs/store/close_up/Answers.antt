use Rattle.std.proofs.Common.{◌≡◌, ◌++◌, ◌+◌, ◌<◌, ◌≤◌, ◌∙◌, ◌⊎◌, inl, inr, cond, ℕ, ap, sym, drop, take, length, arith, rules}
use Rattle.std.proofs.lemmas.List.{drop-set-lt}
use Rattle.clause_store.specs.Words.{closed_up}
use Rattle.clause_store.proofs.Closing.{marked_on, done_stays, done_goes}
use Rattle.clause_store.proofs.store.close_up.Goals as goal
use Rattle.clause_store.proofs.store.close_up.Goals.{Joined-place-mark, then-stays, else-stays, then-place-mark, else-place-mark}

-- the words to come are as they were
to_come : (c : Joined-place-mark) → drop (c.loop-place.place + 1) c.if-stays.words ≡ drop (c.loop-place.place + 1) c.loop-place.words
to_come c = elim c.if-stays.branch [
  | then-stays w ↦ ap (drop (c.loop-place.place + 1)) w.words-is ∙ drop-set-lt (c.loop-place.place + 1) c.loop-place.words c.loop-place.end _ (omega (arith, c.loop-place.invariant.within))
  | else-stays w ↦ ap (drop (c.loop-place.place + 1)) w.words-is
]

-- a word that stays is counted
end_is : (c : Joined-place-mark) → c.if-stays.end ≡ c.loop-place.end + cond c.stays_after-stays.result 1 0
end_is c = elim c.if-stays.branch [
  | then-stays w ↦ w.end-is ∙ ap (λ b. c.loop-place.end + cond b 1 0) (sym w.if-stays.true)
  | else-stays w ↦ w.end-is ∙ (zero-right c.loop-place.end ∙ ap (λ b. c.loop-place.end + cond b 1 0) (sym w.if-stays.false))
]
  where
    zero-right : (n : ℕ) → n ≡ n + 0
    zero-right n = omega arith

-- the mark moves up to its word
mark_is : (c : Joined-place-mark) → ((c.loop-place.place < c.args.mark) × (c.if-place-mark.closed_mark ≡ c.if-stays.end)) ⊎ ((c.args.mark ≤ c.loop-place.place) × (c.if-place-mark.closed_mark ≡ c.loop-place.closed_mark))
mark_is c = elim c.if-place-mark.branch [
  | then-place-mark w ↦ inl (w.if-place-mark.true, w.closed_mark-is)
  | else-place-mark w ↦ inr (w.if-place-mark.false, w.closed_mark-is)
]

-- the word is one of them
within_words : (c : Joined-place-mark) → c.loop-place.place < length c.loop-place.words
within_words c = omega (arith, c.loop-place-test.true, c.loop-place.auto.words, c.loop-place.auto.place-end)

-- what is closed up so far
done_is : (c : Joined-place-mark) → take c.if-stays.end c.if-stays.words ++ closed_up c.stays_after-stays.result (drop (c.loop-place.place + 1) c.if-stays.words) ≡ take c.loop-place.end c.loop-place.words ++ closed_up c.loop-place.stays (drop c.loop-place.place c.loop-place.words)
done_is c = elim c.if-stays.branch [
  | then-stays w ↦ done_stays c.loop-place.words c.if-stays.words c.loop-place.end c.if-stays.end c.loop-place.place c.loop-place.stays c.stays_after-stays.result _ (within_words c) c.loop-place.invariant.within c.stays_after-stays.ensures w.if-stays.true w.words-is w.end-is
  | else-stays w ↦ done_goes c.loop-place.words c.if-stays.words c.loop-place.end c.if-stays.end c.loop-place.place c.loop-place.stays c.stays_after-stays.result _ (within_words c) c.stays_after-stays.ensures w.if-stays.false w.words-is w.end-is
]

pub loop-place-preserved : goal.loop-place-preserved
loop-place-preserved c = record {
  done = done_is c ∙ c.loop-place.invariant.done;
  within = search rules;
  marked =
      rw (to_come c)
      (marked_on c.loop-place.words c.loop-place.place c.args.mark c.loop-place.end c.if-stays.end c.loop-place.closed_mark c.if-place-mark.closed_mark _ c.loop-place.stays c.stays_after-stays.result _
      (within_words c) c.stays_after-stays.ensures (end_is c) (mark_is c) c.loop-place.invariant.last c.loop-place.invariant.marked);
  last = elim (mark_is c) [ inl p ↦ λ l. p.1 | inr p ↦ λ l. absurd (omega (arith, p.0, l)) ];
}
