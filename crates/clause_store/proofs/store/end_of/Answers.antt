use Rattle.std.proofs.Common.{◌≤◌, ◌<◌, ◌+◌, length, rules}
use Rattle.clause_store.proofs.Blocks.{live_word, word_header, word_within, word_passed, word_lits}
use Rattle.clause_store.proofs.store.end_of.Goals as goal

pub overflow_add-result : goal.overflow_add-result
overflow_add-result c = let l : c.args.place < length c.args.words.now = live_word c.args.words.now c.args.place c.requires.live in search rules

pub offset_bounds-words-place : goal.offset_bounds-words-place
offset_bounds-words-place c = let l : c.args.place < length c.args.words.now = live_word c.args.words.now c.args.place c.requires.live in search rules

pub bounds-words-place : goal.bounds-words-place
bounds-words-place c = live_word c.args.words.now c.args.place c.requires.live

pub length_in-requires : goal.length_in-requires
length_in-requires c = word_header c.args.words.now c.args.place _ c.requires.live

pub overflow_add-result-2 : goal.overflow_add-result-2
overflow_add-result-2 c =
    let l : c.args.place + 1 + c.length_in.result ≤ length c.args.words.now = word_within c.args.words.now c.args.place c.length_in.result _ c.requires.blocks c.requires.live c.length_in.ensures in
    search rules

pub returns-clause-within : goal.returns-clause-within
returns-clause-within c = word_within c.args.words.now c.args.place c.length_in.result _ c.requires.blocks c.requires.live c.length_in.ensures

pub returns-clause-passed : goal.returns-clause-passed
returns-clause-passed c = word_passed c.args.words.now c.args.place c.length_in.result _ c.requires.blocks c.requires.live c.length_in.ensures

pub returns-clause-lits : goal.returns-clause-lits
returns-clause-lits c = word_lits c.args.words.now c.args.place c.length_in.result _ c.requires.live c.length_in.ensures
