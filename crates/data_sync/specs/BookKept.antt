-- What the fields of a book mean.
use Rattle.data_sync.specs.Books.{Book}
use Rattle.data_sync.specs.declared.book.SyncBook.TheInside.{Inside}

abbrev pub book_of : Inside → Book
book_of p = p.reader
