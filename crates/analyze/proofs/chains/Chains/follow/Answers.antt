use Rattle.analyze.specs.Marking.{is_marked}
use Rattle.analyze.proofs.Chaining.{chain_none, chain_more}
use Rattle.analyze.proofs.chains.Chains.follow.Goals as goal

pub chain-init : goal.chain-init
chain-init c =
    chain_more c.args.store.now.held c.args.trail.now (is_marked c.args.marks.now) c.args.var (record c.args.self.now { links = c.clear.new.self }) c.begin.new.self c.in_ok-begin.field-0 c.requires.reasoned
    (chain_none c.args.store.now.held c.args.trail.now (is_marked c.args.marks.now) (record c.args.self.now { links = c.clear.new.self })
    (record { kept = c.requires.at.kept; room = c.requires.at.room; looked_room = c.requires.at.looked_room; implied = c.requires.at.implied }) c.clear.ensures.items)
    c.in_ok-begin.ensures
