use Rattle.exchange_tour.proofs.show_pair.Goals as goal

pub show_on-requires : goal.show_on-requires
show_on-requires g c =
    record {
      empty = c.new-store.ensures;
      first_took = c.requires.first;
      second_took = c.requires.second;
      first_step = c.requires.first_step c.new-store.result;
      second_step = c.requires.second_step c.new-store.result;
    }
