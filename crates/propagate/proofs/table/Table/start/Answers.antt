use Rattle.std.proofs.Common.{◌≡◌, ◌∙◌, ap, refl, inr, subst, length, false}
use Rattle.sat_lits.specs.declared.literal.ClauseId.{ClauseId}
use Rattle.clause_store.specs.Store.{is_live}
use Rattle.propagate.specs.declared.watches.Taken.{Taken}
use Rattle.propagate.proofs.Starting.{started_as, id_here, seen_here, named_code}
use Rattle.propagate.proofs.table.Table.start.Goals as goal

pub watch-requires-clause-one : goal.watch-requires-clause-one
watch-requires-clause-one c = named_code c.args.store.now.held _ c.in-Pair.one (length c.args.self.now.heads.items) c.requires.clauses c.in-Pair.ensures.right.first

pub watch-requires-clause-two : goal.watch-requires-clause-two
watch-requires-clause-two c = named_code c.args.store.now.held _ c.in-Pair.two (length c.args.self.now.heads.items) c.requires.clauses c.in-Pair.ensures.right.second

pub returns-in-Pair-clause-watched : goal.returns-in-Pair-clause-watched
returns-in-Pair-clause-watched c =
    (started_as c.args.store.now.held c.args.taken.now c.args.n _ c.args.trail.now.steps c.choose.new.trail.steps c.args.self.now c.watch.new.self c.in-Pair.one c.in-Pair.two c.requires.watched c.requires.taken c.requires.n c.requires.whole
    (c.id-id.ensures ∙ (ap (λ (t : Taken). t.id) c.index-taken-n.is ∙ id_here c.args.taken.now c.args.n c.index-taken-n.result c.requires.n)) c.in-Pair.ensures.right
    (named_code c.args.store.now.held _ c.in-Pair.one (length c.args.self.now.heads.items) c.requires.clauses c.in-Pair.ensures.right.first)
    (named_code c.args.store.now.held _ c.in-Pair.two (length c.args.self.now.heads.items) c.requires.clauses c.in-Pair.ensures.right.second)
    c.watch.ensures.heads c.watch.ensures.next c.watch.ensures.watched c.watch.ensures.whole).watched

pub returns-in-Pair-clause-heads : goal.returns-in-Pair-clause-heads
returns-in-Pair-clause-heads c =
    (started_as c.args.store.now.held c.args.taken.now c.args.n _ c.args.trail.now.steps c.choose.new.trail.steps c.args.self.now c.watch.new.self c.in-Pair.one c.in-Pair.two c.requires.watched c.requires.taken c.requires.n c.requires.whole
    (c.id-id.ensures ∙ (ap (λ (t : Taken). t.id) c.index-taken-n.is ∙ id_here c.args.taken.now c.args.n c.index-taken-n.result c.requires.n)) c.in-Pair.ensures.right
    (named_code c.args.store.now.held _ c.in-Pair.one (length c.args.self.now.heads.items) c.requires.clauses c.in-Pair.ensures.right.first)
    (named_code c.args.store.now.held _ c.in-Pair.two (length c.args.self.now.heads.items) c.requires.clauses c.in-Pair.ensures.right.second)
    c.watch.ensures.heads c.watch.ensures.next c.watch.ensures.watched c.watch.ensures.whole).heads

pub returns-in-Pair-clause-right : goal.returns-in-Pair-clause-right
returns-in-Pair-clause-right c =
    (started_as c.args.store.now.held c.args.taken.now c.args.n _ c.args.trail.now.steps c.choose.new.trail.steps c.args.self.now c.watch.new.self c.in-Pair.one c.in-Pair.two c.requires.watched c.requires.taken c.requires.n c.requires.whole
    (c.id-id.ensures ∙ (ap (λ (t : Taken). t.id) c.index-taken-n.is ∙ id_here c.args.taken.now c.args.n c.index-taken-n.result c.requires.n)) c.in-Pair.ensures.right
    (named_code c.args.store.now.held _ c.in-Pair.one (length c.args.self.now.heads.items) c.requires.clauses c.in-Pair.ensures.right.first)
    (named_code c.args.store.now.held _ c.in-Pair.two (length c.args.self.now.heads.items) c.requires.clauses c.in-Pair.ensures.right.second)
    c.watch.ensures.heads c.watch.ensures.next c.watch.ensures.watched c.watch.ensures.whole).is

pub returns-in-Single-clause-right : goal.returns-in-Single-clause-right
returns-in-Single-clause-right c = (refl, seen_here c.args.taken.now c.args.store.now.held c.args.n _ c.choose.new.trail.steps c.requires.taken (c.id-id.ensures ∙ (ap (λ (t : Taken). t.id) c.index-taken-n.is ∙ id_here c.args.taken.now c.args.n c.index-taken-n.result c.requires.n)) c.in-Single.ensures.right)

pub returns-in-Lost-clause-right : goal.returns-in-Lost-clause-right
returns-in-Lost-clause-right c = (refl, inr (subst (λ (i : ClauseId). is_live c.args.store.now.held i.0 ≡ false) (c.id-id.ensures ∙ (ap (λ (t : Taken). t.id) c.index-taken-n.is ∙ id_here c.args.taken.now c.args.n c.index-taken-n.result c.requires.n)) c.in-Lost.ensures.right))
