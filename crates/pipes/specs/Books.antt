-- What came of a book, for what was read. Assumes nothing: these are definitions.
use Rattle.std.specs.Prelude.{◌≡◌, ◌==◌, ℕ, ◌≤◌, nat_lt, Bool, true, false, Result, Ok, Err}
use Rattle.pipes.specs.declared.reading.NotRead.{NotRead}
use Rattle.pipes.specs.declared.NotListed.{NotListed}
use Rattle.pipes.specs.declared.NotListed.TheVariants as why
use Rattle.pipes.specs.declared.books.Book.{Book}
use Rattle.pipes.specs.Reading.{ReadTo}

-- Of a book of so many bytes all came, and input may follow; or those until the input ended; a failed read brings no book.
abbrev pub BookOf : ℕ → Result ℕ NotRead → Result Book NotListed → Type 0
BookOf size (Ok count) book = book ≡ Ok (record { size = count; more = count == size })
BookOf size (Err failed) book = book ≡ Err why.BookNotRead

-- Where the input ends with the two bytes of the length or before, the book is empty.
abbrev pub BookBehind : Bool → Result Book NotListed → Type 0
BookBehind true book = book ≡ Ok (record { size = 0; more = false })
BookBehind false book = (size : ℕ) × ((size ≤ 65535) × ReadTo size (λ came. BookOf size came book))

-- Two bytes say the book's length, 65,535 at most.
abbrev pub SizedBook : Result ℕ NotRead → Result Book NotListed → Type 0
SizedBook (Ok told) book = BookBehind (nat_lt told 2) book
SizedBook (Err failed) book = book ≡ Err why.BookNotRead

-- A book that fills the buffer is too long.
abbrev pub ShortBook : Bool → ℕ → Result Book NotListed → Type 0
ShortBook true size book = book ≡ Err why.BookTooLong
ShortBook false size book = book ≡ Ok (record { size = size; more = true })

-- A book that is the whole input is shorter than the buffer, and its letter comes from elsewhere.
abbrev pub WholeBook : ℕ → Result ℕ NotRead → Result Book NotListed → Type 0
WholeBook room (Ok size) book = ShortBook (size == room) size book
WholeBook room (Err failed) book = book ≡ Err why.BookNotRead

-- No more than the buffer holds.
abbrev pub CameWithin : Result Book NotListed → ℕ → Type 0
CameWithin (Ok book) room = book.size ≤ room
CameWithin (Err told) room = Unit {0}
