-- What stands at an offset of a book by document 01's table, and how the record reader says it. Assumes nothing: these are definitions.
use Rattle.std.specs.Prelude.{◌≡◌, not, cond, List, [], ◌∷◌, ◌++◌, ℕ, ◌+◌, leb, ltb, eqb, length, take, drop, get_or, Result, Ok, Err}
use Rattle.format.specs.Refusals as format
use Rattle.format.specs.Refusals.{cut, kind}
use Rattle.format.specs.Written.{header_kind, phrase_kind, bounded_kind, open_kind, end_kind, keyword_base, two_bytes}
use Rattle.format.specs.Faults.{body_length, two}
use Rattle.counters.specs.Counters.{number_of}
use Rattle.records.specs.declared.records.Cursor.{Cursor}
use Rattle.records.specs.declared.records.Record.{Record}
use Rattle.records.specs.declared.records.Record.TheVariants.{Header, Phrase, Bounded, Open, Keyword, End}
use Rattle.records.specs.declared.records.Found.{Found}
use Rattle.records.specs.declared.refusals.Refused.{Refused}
use Rattle.records.specs.Kinds.{known}
use Rattle.records.specs.Refusals.{reason_of, refusal_for}

-- ── In the document's terms ──

-- At an offset stands a whole record, with its kind, its body and the offset behind it; or none, for a reason, at an offset.
pub data Standing : Type 0 where
  whole : ℕ → List ℕ → ℕ → Standing
  nothing : format.Refusal → ℕ → Standing

-- As many bytes behind the kind as the kind fixes.
unfoldable pub body_at : List ℕ → ℕ → ℕ → List ℕ
body_at bytes at k = take (body_length k) (drop (at + 1) bytes)

-- One byte of kind, then a body whose length the kind fixes: a kind that is not in the table, or too few bytes behind it, is no
-- record. Where the book stops before the offset, that is said at the book's length.
unfoldable pub standing_at : List ℕ → ℕ → Standing
standing_at bytes at =
    let k : ℕ = get_or bytes at 0 in
    cond (leb (length bytes) at) (nothing cut (length bytes))
    (cond (not (known k)) (nothing kind at)
    (cond (ltb (length (drop (at + 1) bytes)) (body_length k)) (nothing cut at)
    (whole k (body_at bytes at k) (at + (1 + body_length k)))))

-- ── As the reader says it ──

-- What each record says was read, with the offset behind: kind and body.
unfoldable pub whole_of : List ℕ → Record → ℕ → Standing
unfolding two_bytes
whole_of bytes (Header edition) next = whole header_kind (edition ∷ []) next
whole_of bytes (Phrase number rights) next = whole phrase_kind (two_bytes number.0 ++ rights ∷ []) next
whole_of bytes (Bounded least most) next = whole bounded_kind (two_bytes least ++ two_bytes most) next
whole_of bytes (Open least) next = whole open_kind (two_bytes least) next
whole_of bytes (Keyword start length) next = whole (keyword_base + length) (take length (drop start bytes)) next
whole_of bytes (End count) next = whole end_kind (two_bytes count) next

-- What the reader's answer says was read: a record and the offset behind, or the refusal and its offset.
unfoldable pub standing_of : List ℕ → Result Found Refused → Standing
unfolding whole_of reason_of
standing_of bytes (Ok found) = whole_of bytes found.says found.next.at
standing_of bytes (Err refused) = nothing (reason_of refused.why) refused.at

abbrev pub cursor_at : ℕ → Cursor
cursor_at at = record { at = at }

-- The cursor behind a record of kind k at an offset.
abbrev pub behind : ℕ → ℕ → Cursor
behind at k = cursor_at (at + (1 + body_length k))

-- What a record of kind k with its body says, at an offset.
unfoldable pub record_for : ℕ → ℕ → List ℕ → Record
record_for at k body =
    cond (eqb k header_kind) (Header (get_or body 0 0))
    (cond (eqb k phrase_kind) (Phrase (number_of (two body 0)) (get_or body 2 0))
    (cond (eqb k bounded_kind) (Bounded (two body 0) (two body 2))
    (cond (eqb k open_kind) (Open (two body 0))
    (cond (eqb k end_kind) (End (two body 0))
    (Keyword (at + 1) (body_length k))))))

-- The same, with the cursor behind it.
unfoldable pub found_for : ℕ → ℕ → List ℕ → Found
unfolding record_for
found_for at k body = record { says = record_for at k body; next = behind at k }

unfoldable pub whole_at : List ℕ → ℕ → ℕ → Found
unfolding found_for
whole_at bytes at k = found_for at k (body_at bytes at k)

-- The answer for what stands at an offset.
unfoldable pub found_as : ℕ → Standing → Result Found Refused
unfolding found_for refusal_for
found_as at (whole k body next) = Ok (found_for at k body)
found_as at (nothing why offset) = Err (record { why = refusal_for why; at = offset })

unfoldable pub read_at : List ℕ → ℕ → Result Found Refused
unfolding found_as standing_at
read_at bytes at = found_as at (standing_at bytes at)

-- What reading at an offset answers, and what that says.
pub record ReadRight (bytes : List ℕ) (at : ℕ) (found : Result Found Refused) : Type 0 where
  pub exact : found ≡ read_at bytes at
  pub meant : standing_of bytes found ≡ standing_at bytes at
