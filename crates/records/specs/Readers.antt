-- A reader of a book: its bytes, and the offset of the next record. Assumes nothing: these are definitions.
use Rattle.std.specs.Prelude.{ℕ, Result, Ok, Err}
use Rattle.records.specs.declared.reader.Reader.{Reader}
use Rattle.records.specs.declared.records.Found.{Found}
use Rattle.records.specs.declared.refusals.Refused.{Refused}

-- The offset behind what was found at an offset: a record is passed, and what is refused is not.
abbrev pub past_of : Result Found Refused → ℕ → ℕ
past_of (Ok found) at = found.next.at
past_of (Err refused) at = at

-- The reader of the same bytes, behind what it found.
abbrev pub moved_past : Reader → Result Found Refused → Reader
moved_past reader found = record { book = reader.book; at = past_of found reader.at }
