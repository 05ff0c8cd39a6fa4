-- One mark for each phrase that ends at a place. Assumes nothing: these are definitions.
use Rattle.std.specs.Prelude.{Bool, cond, ℕ, ltb}
use Rattle.bits.specs.Bits.{bit_of, set_bit}
use Rattle.marks.specs.declared.Marks.{Marks}

-- No phrase is marked.
abbrev pub no_marks : Marks
no_marks = record { bits = 0 }

-- The phrase of rank j is marked: bit j of the number is set.
unfoldable pub is_marked : Marks → ℕ → Bool
is_marked marks j = bit_of marks.bits j

-- The marks with one more, that of rank j. A book has at most 128 phrases, so a rank from 128 on is none and gets no mark.
unfoldable pub with_mark : Marks → ℕ → Marks
with_mark marks j = cond (ltb j 128) (record { bits = set_bit marks.bits j }) marks
