-- The keywords of the records before an offset, as they are found by reading those records again. Assumes nothing: these are definitions.
use Rattle.std.specs.Prelude.{cond, List, [], ◌∷◌, ◌++◌, ℕ, zero, suc, ◌+◌, ◌≤◌, ltb, length, Result, Ok, Err}
use Rattle.meaning.specs.Matching.{bytes_after}
use Rattle.records.specs.declared.records.Record.{Record}
use Rattle.records.specs.declared.records.Record.TheVariants.{Header, Phrase, Bounded, Open, Keyword, End}
use Rattle.records.specs.declared.records.Found.{Found}
use Rattle.records.specs.declared.refusals.Refused.{Refused}
use Rattle.records.specs.Records.{read_at}
use Rattle.records.specs.Readers.{past_of}

-- A keyword lies in the book.
abbrev pub Lies : List ℕ → Record → Type 0
Lies bytes (Header edition) = Unit {0}
Lies bytes (Phrase number rights) = Unit {0}
Lies bytes (Bounded least most) = Unit {0}
Lies bytes (Open least) = Unit {0}
Lies bytes (Keyword start count) = start + count ≤ length bytes
Lies bytes (End count) = Unit {0}

-- A keyword that was found lies in the book.
abbrev pub Inside : List ℕ → Result Found Refused → Type 0
Inside bytes (Ok found) = Lies bytes found.says
Inside bytes (Err refused) = Unit {0}

-- The keyword of a record, if it is one.
unfoldable pub keyword_of : List ℕ → Record → List (List ℕ)
unfolding bytes_after
keyword_of bytes (Header edition) = []
keyword_of bytes (Phrase number rights) = []
keyword_of bytes (Bounded least most) = []
keyword_of bytes (Open least) = []
keyword_of bytes (Keyword start count) = bytes_after start count bytes ∷ []
keyword_of bytes (End count) = []

-- The keyword that was found, if one was.
unfoldable pub keyword_in : List ℕ → Result Found Refused → List (List ℕ)
unfolding keyword_of
keyword_in bytes (Ok found) = keyword_of bytes found.says
keyword_in bytes (Err refused) = []

-- The keywords of the records from an offset on, up to an end, which is gone to where there is no record; at most n records.
unfoldable pub keywords_from : ℕ → List ℕ → ℕ → ℕ → List (List ℕ)
unfolding keyword_in read_at
keywords_from zero bytes end at = []
keywords_from (suc n) bytes end at =
    let rest : List (List ℕ) = keywords_from n bytes end (past_of (read_at bytes at) end) in
    cond (ltb at end) (keyword_in bytes (read_at bytes at) ++ rest) []

-- A record has at least one byte, so there are no more records than bytes.
unfoldable pub keywords_before : List ℕ → ℕ → List (List ℕ)
unfolding keywords_from
keywords_before bytes end = keywords_from (length bytes) bytes end 0
