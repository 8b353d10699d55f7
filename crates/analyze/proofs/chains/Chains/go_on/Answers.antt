use Rattle.std.proofs.Common.{Bool, refl}
use Rattle.analyze.specs.Marking.{is_marked}
use Rattle.analyze.specs.Chains.{InChain, HasBegun}
use Rattle.analyze.proofs.Entailing.{on_ok}
use Rattle.analyze.proofs.Chaining.{implied_now, chain_back, chain_more}
use Rattle.analyze.proofs.chains.Chains.go_on.Goals as goal

pub returns-in_default-clause-chain : goal.returns-in_default-clause-chain
returns-in_default-clause-chain c =
    implied_now c.args.store.now.held c.args.trail.now (is_marked c.args.marks.now) c.args.self.now c.mark.new.self c.args.link c.in_ok-_level._level c.requires.chain c.requires.fits.has_reason c.in_default.ensures.none c.in_ok-_level.ensures

pub returns-clause-chain : goal.returns-clause-chain
returns-clause-chain c =
    on_ok c.begin.result (λ begun. HasBegun c.args.trail.now.steps c.in-Some.open.var (record c.args.self.now { links = c.push.new.self }) c.begin.new.self begun) (λ _. InChain c.args.store.now.held c.args.trail.now (is_marked c.args.marks.now) c.begin.new.self)
    (λ (begun : Bool) b.
    chain_more c.args.store.now.held c.args.trail.now (is_marked c.args.marks.now) c.in-Some.open.var (record c.args.self.now { links = c.push.new.self }) c.begin.new.self begun c.requires.reasoned
    (chain_back c.args.store.now.held c.args.trail.now (is_marked c.args.marks.now) c.args.self.now (record c.args.self.now { links = c.push.new.self }) (record c.args.link { passed = c.in-Some.open.place }) c.requires.chain c.in-Some.ensures.some refl refl c.in_ok-push.ensures.items) b)
    c.begin.ensures
