-- The last lines: what they are exactly, in any buffer, and what they mean. Assumes nothing: these are definitions.
use Rattle.std.specs.Prelude.{◌≡◌, Bool, cond, List, ℕ, ◌*◌, ◌≤◌, eqb, length, take}
use Rattle.listing.specs.Lines.{end_line, no_statement, letter_line, longest_line}
use Rattle.listing.specs.Writing.{Left, with_line}
use Rattle.listing.specs.Listing.{last_lines}

-- What the caller passes on: the bytes up to where the lines end.
abbrev pub text_of : Left → List ℕ
text_of left = take left.next left.buffer

-- ── Exactly ──

-- A letter had no hits.
unfoldable pub without_hits : ℕ → Bool
without_hits hits = eqb hits 0

-- The end line, and behind it, where there were no hits, what follows it then.
unfoldable pub last_of : List ℕ → ℕ → ℕ → ℕ → Left
last_of out taken hits steps =
    let line : Left = with_line out 0 (end_line taken hits steps) in
    cond (without_hits hits) (with_line line.buffer line.next no_statement) line

-- The line of a letter that is too long.
unfoldable pub too_long_of : List ℕ → ℕ → Left
too_long_of out taken = with_line out 0 (letter_line taken)

-- ── By document 01 ──

-- A buffer for two lines has the end line, and with no hits a further line.
abbrev pub LastRight : List ℕ → ℕ → ℕ → ℕ → Left → Type 0
LastRight out taken hits steps end = 2 * longest_line ≤ length out → text_of end ≡ last_lines taken hits steps

-- A buffer for one line has the line of 11.
abbrev pub TooLongRight : List ℕ → ℕ → Left → Type 0
TooLongRight out taken end = longest_line ≤ length out → text_of end ≡ letter_line taken

-- ── Promised ──

pub record LastPromise (out : List ℕ) (taken hits steps : ℕ) (end : Left) : Type 0 where
  pub exact : end ≡ last_of out taken hits steps
  pub means : LastRight out taken hits steps end

pub record TooLongPromise (out : List ℕ) (taken : ℕ) (end : Left) : Type 0 where
  pub exact : end ≡ too_long_of out taken
  pub means : TooLongRight out taken end
