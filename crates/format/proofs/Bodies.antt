-- What a kind says of its record: a keyword's kind is none of the others, because those are below 80 hex, and tells the length.
-- Assumes nothing.
use mathlib.Core.Path.{◌≡◌}
use mathlib.Core.Logic.{◌↔◌}
use mathlib.Core.Bool.{Bool, false, So, ◌||◌}
use mathlib.Core.List.{List}
use Prim.Native.Nat.{ℕ, ◌+◌, ◌-◌, ◌<◌}
use native.Mathlib.Omega.{arith}
use lib.Dec.{leb, eqb}
use lib.ListN.{length, take}
use lib.Seq.{get_or-take}
use borrow.Author.Tests.{ne_eqb, leb-true, le-leb}
use Rattle.format.specs.Limits.{longest_keyword, most_pieces_of_phrase, most_pieces, piece_count, Between}
use Rattle.format.specs.Written.{keyword_base}
use Rattle.format.specs.Stages.{Stage, phrases_at, pieces_at}
use Rattle.format.specs.Faults.{is_keyword, body_length, two, between}
use Rattle.format.proofs.Tests.{both, and_left, and_right}

-- The test of a range says what the range is.
pub between_iff : (low high n : ℕ) → So (between low high n) ↔ Between low high n
unfolding between
between_iff low high n = (
  λ h. (leb-true low n (and_left (leb low n) (leb n high) h), leb-true n high (and_right (leb low n) (leb n high) h)),
  λ h. both (leb low n) (leb n high) (le-leb low n h.0) (le-leb n high h.1),
)

-- A keyword's kind is 81 to A0,
pub keyword_range : (k : ℕ) → So (is_keyword k) → Between (keyword_base + 1) (keyword_base + longest_keyword) k
unfolding is_keyword between
keyword_range k h = (between_iff (keyword_base + 1) (keyword_base + longest_keyword) k).0 h

-- and 80 hex and a length of 1 to 32 is one.
pub keyword_is : (long : ℕ) → Between 1 longest_keyword long → So (is_keyword (keyword_base + long))
unfolding is_keyword between
keyword_is long h = (between_iff (keyword_base + 1) (keyword_base + longest_keyword) (keyword_base + long)).1 (omega arith)

-- It is none of the other kinds,
pub keyword_only : (k : ℕ) → So (is_keyword k) → (other : ℕ) → So (leb other keyword_base) → eqb k other ≡ false
keyword_only k h other l = ne_eqb k other (λ e. omega (arith, leb-true other keyword_base l, keyword_range k h))

-- and says the length of its body.
pub keyword_length : (k : ℕ) → So (is_keyword k) → body_length k ≡ k - keyword_base
unfolding body_length
keyword_length k h = simp (keyword_only k h)

-- A number in a body is the number behind the record's kind.
pub two_take : (n : ℕ) (behind : List ℕ) (i : ℕ) → i + 1 < n → two (take n behind) i ≡ two behind i
unfolding two
two_take n behind i h =
    let l : i < n = omega arith in
    rw (get_or-take n behind i 0 l, get_or-take n behind (i + 1) 0 h)

-- One piece more would be the ninth of its phrase or the 257th of the book.
abbrev pub no_room : Stage → Bool
no_room stage = leb most_pieces_of_phrase (length (pieces_at stage)) || leb most_pieces (piece_count (phrases_at stage))
