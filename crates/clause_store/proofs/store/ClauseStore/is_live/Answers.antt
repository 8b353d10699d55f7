use Rattle.std.proofs.Common.{◌<◌, ◌≤◌, ◌∙◌, ap, sym, length, arith}
use Rattle.std.proofs.lemmas.Bool.{le-ltb}
use Rattle.clause_store.specs.Store.{Store, is_live}
use Rattle.clause_store.specs.Words.{is_live_header}
use Rattle.clause_store.proofs.Blocks.{is_live-word, is_live-past_words, stored_kept}
use Rattle.clause_store.proofs.store.ClauseStore.is_live.Goals as goal

pub returns-then-place-len-clause-value : goal.returns-then-place-len-clause-value
returns-then-place-len-clause-value c =
    let l : c.args.id.0 < length c.self.inside.words.items = omega (arith, c.if-place-len.true, c.len.ensures, c.self.inside.words.ok.0) in
    c.is_live_header.ensures
    ∙ (ap is_live_header c.index.ensures
    ∙ (sym (is_live-word c.self.inside.words.items c.args.id.0 c.index.result.now l) ∙ ap (λ (s : Store). is_live s.held c.args.id.0) c.self.view_is))

pub returns-then-place-len-clause-kept : goal.returns-then-place-len-clause-kept
returns-then-place-len-clause-kept c = stored_kept c.self.inside c.args.self.now c.self.view_is c.self.invariant

pub returns-else-place-len-clause-value : goal.returns-else-place-len-clause-value
returns-else-place-len-clause-value c =
    let l : length c.self.inside.words.items ≤ c.args.id.0 = omega (arith, c.if-place-len.false, c.len.ensures, c.self.inside.words.ok.0) in
    le-ltb _ _ c.if-place-len.false ∙ (sym (is_live-past_words c.self.inside.words.items c.args.id.0 l) ∙ ap (λ (s : Store). is_live s.held c.args.id.0) c.self.view_is)

pub returns-else-place-len-clause-kept : goal.returns-else-place-len-clause-kept
returns-else-place-len-clause-kept c = stored_kept c.self.inside c.args.self.now c.self.view_is c.self.invariant
