-- What the fields of a reader of the log mean.
use Rattle.data_sync.specs.Books.{Book}
use Rattle.data_sync.specs.declared.reader.LogReader.TheInside.{Inside}

abbrev pub place_of : Inside → Book
place_of p = record { cursor = p.cursor; waiting = p.waiting.items }
