-- A book that came lies in its buffer: by cases of what was read. Assumes nothing.
use Rattle.std.proofs.Common.{ℕ, ◌≤◌, Bool, true, false, eqb, ltb, Result, Ok, Err, arith}
use Rattle.pipes.specs.declared.reading.NotRead.{NotRead}
use Rattle.pipes.specs.declared.NotListed.{NotListed}
use Rattle.pipes.specs.declared.books.Book.{Book}
use Rattle.pipes.specs.Reading.{Fits}
use Rattle.pipes.specs.Books.{BookOf, BookBehind, SizedBook, ShortBook, WholeBook, CameWithin}

book_within : (size room : ℕ) (came : Result ℕ NotRead) (book : Result Book NotListed) → size ≤ room → Fits came size → BookOf size came book → CameWithin book room
book_within size room (Ok count) book long fits is = rw is (omega arith)
book_within size room (Err failed) book long fits is = rw is tt

behind_within : (short : Bool) (book : Result Book NotListed) (room : ℕ) → 65535 ≤ room → BookBehind short book → CameWithin book room
behind_within true book room long is = rw is (omega arith)
behind_within false book room long is = book_within is.0 room is.1.1.0 book (omega (arith, is.1.0)) is.1.1.1.0 is.1.1.1.1

pub sized_within : (told : Result ℕ NotRead) (book : Result Book NotListed) (room : ℕ) → 65535 ≤ room → SizedBook told book → CameWithin book room
sized_within (Ok told) book room long sized = behind_within (ltb told 2) book room long sized
sized_within (Err failed) book room long sized = rw sized tt

short_within : (full : Bool) (size room : ℕ) (book : Result Book NotListed) → size ≤ room → ShortBook full size book → CameWithin book room
short_within true size room book fits is = rw is tt
short_within false size room book fits is = rw is fits

pub whole_within : (came : Result ℕ NotRead) (room : ℕ) (book : Result Book NotListed) → Fits came room → WholeBook room came book → CameWithin book room
whole_within (Ok size) room book fits is = short_within (eqb size room) size room book fits is
whole_within (Err failed) room book fits is = rw is tt
