use Rattle.std.proofs.Common.{◌<◌, IfSome, IfNone, ap, sym, ◌∙◌, subst}
use lib.ListN.{get_elem?}
use Rattle.share_store.specs.Log.{StartsWith}
use Rattle.share_turn.specs.Views.{Known, IsLegalFor, IsRightOutcome}
use Rattle.share_turn.proofs.Ends.{close_store, close_all, close_none, close_outcome, close_ended, close_kept, if_each, ends_posted, ends_late}
use Rattle.share_turn.proofs.exchange.Exchange.close.Goals as goal

pub returns-clause-store : goal.returns-clause-store
returns-clause-store c =
    let is = c.first.view_is in
    let first = ap (λ k. k.view.first) is ∙ c.requires.first in
    subst (λ (k : Known). IfSome c.store_of.result (λ s. IsLegalFor k.view.question s × StartsWith s k.view.seen)) is
    (close_store _ _ _ _ _ c.close_with-closed.ensures.values.2 first c.store_of.result c.word-turn.result c.take-held.result c.store_of.ensures.free c.store_of.ensures.taken c.word-turn.ensures c.take-held.ensures.value)

pub returns-clause-all : goal.returns-clause-all
returns-clause-all c even =
    let is = c.first.view_is in
    let first = ap (λ k. k.view.first) is ∙ c.requires.first in
    let free = ap (λ k. k.view.turn) is ∙ c.requires.free in
    let same = ap (λ k. k.view.splits) is ∙ even ∙ sym (ap (λ k. k.view.joins) is) in
    close_all _ _ _ _ _ c.close_with-closed.ensures.values.2 first c.store_of.result c.word-turn.result c.take-held.result c.store_of.ensures.free c.word-turn.ensures c.take-held.ensures.value free same

pub returns-clause-none : goal.returns-clause-none
returns-clause-none c =
    let is = c.first.view_is in
    let first = ap (λ k. k.view.first) is ∙ c.requires.first in
    let free = ap (λ k. k.view.turn) is ∙ c.requires.free in
    subst (λ (k : Known). IfNone c.store_of.result (k.view.joins < k.view.splits)) is
    (close_none _ _ _ _ _ c.close_with-closed.ensures.values.2 first c.store_of.result c.word-turn.result c.take-held.result c.store_of.ensures.free c.word-turn.ensures c.take-held.ensures.value free)

pub returns-clause-outcome : goal.returns-clause-outcome
returns-clause-outcome c =
    let is = c.first.view_is in
    let first = ap (λ k. k.view.first) is ∙ c.requires.first in
    let slot = ap (λ l. get_elem? l 1) (sym c.take-held.ensures.others.0) ∙ c.take-said.ensures.value in
    subst (λ (k : Known). IfSome c.outcome_of.result (λ o. IsRightOutcome k.view.question k.view.alarmed o)) is
    (close_outcome _ _ _ _ _ c.close_with-closed.ensures.values.2 first c.outcome_of.result c.word-stage.result c.take-said.result c.outcome_of.ensures.ended c.outcome_of.ensures.unended c.word-stage.ensures slot)

pub returns-clause-posted : goal.returns-clause-posted
returns-clause-posted c h =
    let is = c.first.view_is in
    let first = ap (λ k. k.view.first) is ∙ c.requires.first in
    let slot = ap (λ l. get_elem? l 1) (sym c.take-held.ensures.others.0) ∙ c.take-said.ensures.value in
    let end = c.close_with-closed.ensures.values.2 in
    close_ended _ _ _ _ _ end first c.outcome_of.result c.word-stage.result c.take-said.result c.outcome_of.ensures.ended c.word-stage.ensures slot
    (ends_posted _ _ _ _ _ end first (ap (λ k. k.view.posted) is ∙ h) c.word-stage.result c.word-stage.ensures)

pub returns-clause-late : goal.returns-clause-late
returns-clause-late c even h =
    let is = c.first.view_is in
    let first = ap (λ k. k.view.first) is ∙ c.requires.first in
    let slot = ap (λ l. get_elem? l 1) (sym c.take-held.ensures.others.0) ∙ c.take-said.ensures.value in
    let end = c.close_with-closed.ensures.values.2 in
    let same = ap (λ k. k.view.splits) is ∙ even ∙ sym (ap (λ k. k.view.joins) is) in
    close_ended _ _ _ _ _ end first c.outcome_of.result c.word-stage.result c.take-said.result c.outcome_of.ensures.ended c.word-stage.ensures slot
    (ends_late _ _ _ _ _ end first same c.first.invariant.quiet (ap (λ k. k.view.late) is ∙ h) c.word-stage.result c.word-stage.ensures)

pub returns-clause-kept : goal.returns-clause-kept
returns-clause-kept c =
    let is = c.first.view_is in
    let first = ap (λ k. k.view.first) is ∙ c.requires.first in
    let slot = ap (λ l. get_elem? l 1) (sym c.take-held.ensures.others.0) ∙ c.take-said.ensures.value in
    if_each c.args.first.view.outcome _
    (λ own has.
    close_kept _ _ _ _ _ c.close_with-closed.ensures.values.2 first c.outcome_of.result c.word-stage.result c.take-said.result own c.outcome_of.ensures.ended c.word-stage.ensures slot c.first.invariant.quiet
    (ap (λ k. k.view.outcome) is ∙ has))
