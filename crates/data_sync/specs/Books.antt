-- What contracts see of a book.
use Rattle.std.specs.Prelude.{ℕ, List, []}

-- the place in the log of the first entry that was not read, and those of the entries that wait
pub record Book : Type 0 where
  pub cursor : ℕ
  pub waiting : List ℕ

-- the book of a solver that read nothing
abbrev pub no_book : Book
no_book = record { cursor = 0; waiting = [] }
