use Rattle.indexed_store.proofs.Filling.{places_enough}
use Rattle.indexed_store.proofs.Pairing.{pairs_enough}
use Rattle.indexed_store.proofs.store.IndexedStore.compact.Goals as goal

pub fill-requires-clause-places : goal.fill-requires-clause-places
fill-requires-clause-places c = λ v.
    places_enough c.self.inside.store.held c.compact.new.self.held c.clear_each.new.lists.items c.self.inside.lists.items v (c.self.invariant.found v) c.compact.ensures.clauses (c.clear_each.ensures.places v)

pub refill_pairs-requires : goal.refill_pairs-requires
refill_pairs-requires c = pairs_enough c.self.inside.store.held c.compact.new.self.held c.self.inside.pairs c.self.invariant.pairs_found c.compact.ensures.clauses
