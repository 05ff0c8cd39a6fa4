-- How a line is written into a lent buffer: whole, or not at all.
-- Assumes nothing: these are definitions.
use Rattle.std.specs.Prelude.{cond, List, ℕ, ◌+◌, leb, length}
use Rattle.lent.specs.Numbers.{with_bytes}

-- What writing a line leaves: the buffer, and where the next line goes.
pub record Left : Type 0 where
  pub buffer : List ℕ
  pub next : ℕ

abbrev pub left : List ℕ → ℕ → Left
left buffer next = record { buffer = buffer; next = next }

-- A line that fits into the buffer from `at` on is written there, and the next goes behind it. One that does not leaves all as it was.
unfoldable pub with_line : List ℕ → ℕ → List ℕ → Left
unfolding with_bytes
with_line buffer at line = cond (leb (at + length line) (length buffer)) (left (with_bytes buffer at line) (at + length line)) (left buffer at)
