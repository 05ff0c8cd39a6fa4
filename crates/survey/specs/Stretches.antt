-- A stretch of a text. Assumes nothing: these are definitions.
use Rattle.std.specs.Prelude.{List, ℕ}
use Rattle.meaning.specs.Matching.{bytes_after}
use Rattle.survey.specs.declared.stretch.Stretch.{Stretch}

abbrev pub stretch : ℕ → ℕ → Stretch
stretch offset count = record { offset = offset; count = count }

-- No bytes at all.
abbrev pub nowhere : Stretch
nowhere = stretch 0 0

-- The bytes of a stretch of the text.
unfoldable pub bytes_of : List ℕ → Stretch → List ℕ
unfolding bytes_after
bytes_of text stretch = bytes_after stretch.offset stretch.count text
