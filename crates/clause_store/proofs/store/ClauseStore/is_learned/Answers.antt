use Rattle.std.proofs.Common.{◌<◌, length, arith}
use Rattle.clause_store.proofs.Blocks.{stored_within, word_learned, stored_kept}
use Rattle.clause_store.proofs.store.ClauseStore.is_learned.Goals as goal

pub index-requires : goal.index-requires
index-requires c =
    let l : c.args.id.0 < length c.self.inside.words.items = stored_within c.self.inside.words.items c.args.self.now c.args.id.0 c.self.view_is c.requires in
    omega (arith, l, c.self.inside.words.ok.0)

pub returns-clause-value : goal.returns-clause-value
returns-clause-value c = word_learned c.self.inside.words.items c.args.self.now c.args.id.0 c.index.result.now c.self.view_is c.requires c.index.ensures

pub returns-clause-kept : goal.returns-clause-kept
returns-clause-kept c = stored_kept c.self.inside c.args.self.now c.self.view_is c.self.invariant
