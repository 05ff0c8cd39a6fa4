-- Which ends of a listing can be told. Assumes nothing: these are definitions.
use Rattle.std.specs.Prelude.{◌≡◌, ◌⊎◌, ℕ, List, Option, Some, None, Result, Ok, Err}
use Rattle.lines.specs.declared.answers.BookRefused.{BookRefused}
use Rattle.pipes.specs.declared.NotListed.{NotListed}
use Rattle.pipes.specs.declared.NotListed.TheVariants as why
use Rattle.pipes.specs.declared.letter.Standing.{Standing}
use Rattle.pipes.specs.Letter.{OrNotWritten, CallEnd}
use Rattle.pipes.specs.Words.{sentence_of}
use Rattle.pipes.specs.Writing.{FrontWritten}

-- A letter is listed to its end, or a read fails, or a call ends it; no end of a book is told of it.
abbrev pub LetterEnd : Result (Unit {0}) NotListed → Type 0
LetterEnd (Ok done) = Unit {0}
LetterEnd (Err told) = (told ≡ why.LetterNotRead) ⊎ CallEnd told

-- A listing that is over ends as it did, and any other as its letter.
abbrev pub EndFrom : Result (Option Standing) NotListed → Result (Unit {0}) NotListed → Type 0
EndFrom (Ok (Some standing)) told = LetterEnd told
EndFrom (Ok None) told = told ≡ Ok tt
EndFrom (Err ended) told = told ≡ Err ended

-- What follows from opening the book: a refused one ends the listing once its line is written, and any other is listed as its letter.
abbrev pub OpenedEnd : Result ℕ BookRefused → Result (Unit {0}) NotListed → Type 0
OpenedEnd (Ok end) told = LetterEnd told
OpenedEnd (Err refused) told = OrNotWritten (Err why.BookRefused) told

-- The end of a listing whose book came: that of its letter, or that the book is refused.
abbrev pub ListingEnd : Result (Unit {0}) NotListed → Type 0
ListingEnd told = LetterEnd told ⊎ (told ≡ Err why.BookRefused)

-- The sentence of an end is told, or its first bytes where a write fails, and nothing else.
abbrev pub EndTold : Option (List ℕ) → Option (List ℕ) → Type 0
EndTold before after = (listed : Result (Unit {0}) NotListed) × FrontWritten before after (sentence_of listed)
