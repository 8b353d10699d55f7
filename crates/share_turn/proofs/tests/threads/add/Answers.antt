use Rattle.share_store.specs.Log.{StartsWith}
use Rattle.share_turn.specs.Views.{IsLegalFor}
use Rattle.share_turn.proofs.Offers.{still_legal}
use Rattle.share_turn.proofs.tests.threads.add.Goals as goal

answered : (c : goal.After-offer) → IsLegalFor c.args.pass.now.view.question c.offer.new.self × StartsWith c.offer.new.self c.args.store.now
answered c =
    let r = c.requires in
    let e = c.offer.ensures in
    still_legal _ _ _ _ _ c.offer.result r.contradiction r.legal r.numbered r.there e.unchanged e.fresh e.appended e.err

pub returns-clause-legal : goal.returns-clause-legal
returns-clause-legal c = (answered c).0

pub returns-clause-grows : goal.returns-clause-grows
returns-clause-grows c = (answered c).1
