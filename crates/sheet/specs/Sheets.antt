-- The records of document 01's table as bytes, with any fields; and a sheet that is lent, on which bytes are written one after the other.
-- Assumes nothing: these are definitions.
use Rattle.std.specs.Prelude.{cond, List, [], ◌∷◌, ◌++◌, ℕ, zero, suc, ◌+◌, ◌/◌, ◌%◌, ltb, length, set}

-- Lent bytes, and where the next one goes. What does not fit is left out.
pub record Sheet : Type 0 where
  pub bytes : List ℕ
  pub next : ℕ

-- One byte more, if it fits.
unfoldable pub with_byte : Sheet → ℕ → Sheet
with_byte sheet byte =
    cond (ltb sheet.next (length sheet.bytes))
    (record { bytes = set sheet.bytes sheet.next byte; next = sheet.next + 1 })
    sheet

-- Some bytes more, one after the other.
unfoldable pub with_all : Sheet → List ℕ → Sheet
with_all sheet [] = sheet
with_all sheet (byte ∷ rest) = with_all (with_byte sheet byte) rest

-- The same byte so many times.
unfoldable pub with_many : Sheet → ℕ → ℕ → Sheet
with_many sheet zero byte = sheet
with_many sheet (suc n) byte = with_byte (with_many sheet n byte) byte

-- ── The records of document 01's table, with any fields ──

-- A number of two bytes, high byte first.
abbrev pub two_bytes : ℕ → List ℕ
two_bytes n = n / 256 ∷ n % 256 ∷ []

abbrev pub header_of : ℕ → List ℕ
header_of edition = 0x01 ∷ edition ∷ []

abbrev pub phrase_of : ℕ → ℕ → List ℕ
phrase_of number rights = 0x02 ∷ (two_bytes number ++ rights ∷ [])

abbrev pub bounded_of : ℕ → ℕ → List ℕ
bounded_of least most = 0x03 ∷ (two_bytes least ++ two_bytes most)

abbrev pub open_of : ℕ → List ℕ
open_of least = 0x04 ∷ two_bytes least

abbrev pub keyword_of : List ℕ → List ℕ
keyword_of letters = (0x80 + length letters) ∷ letters

abbrev pub end_of : ℕ → List ℕ
end_of phrases = 0x7f ∷ two_bytes phrases
