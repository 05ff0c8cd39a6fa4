-- The sentence of each end of a listing. Assumes nothing: these are definitions.
use Rattle.std.specs.Prelude.{List, ℕ, Result, Ok, Err, codes}
use Rattle.pipes.specs.declared.NotListed.{NotListed}
use Rattle.pipes.specs.declared.NotListed.TheVariants as why

abbrev pub sentence_of : Result (Unit {0}) NotListed → List ℕ
sentence_of (Ok done) = codes "the letter is listed to its end\n"
sentence_of (Err why.BookRefused) = codes "the book is refused, and the letter was not read\n"
sentence_of (Err why.LetterRefused) = codes "the letter is refused: it has more than 4,294,967,295 bytes\n"
sentence_of (Err why.BookTooLong) = codes "the book has more than 65,535 bytes; nothing is listed\n"
sentence_of (Err why.BookNotRead) = codes "the book could not be read; nothing is listed\n"
sentence_of (Err why.LetterNotRead) = codes "the letter could not be read further; the listing is not complete\n"
sentence_of (Err why.NotWritten) = codes "the listing could not be written further; it is not complete\n"
sentence_of (Err why.NotTaken) = codes "the scanner could not take the letter further; the listing is not complete\n"
