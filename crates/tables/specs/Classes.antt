-- The bytes of the keywords in classes: each byte that occurs has its own, and all others share one. Assumes nothing: these are definitions.
use Rattle.std.specs.Prelude.{Bool, cond, List, ℕ, ◌+◌, eqb, length}
use Rattle.meaning.specs.Books.{Book, keywords}
use Rattle.meaning.specs.Reports.{choose}
use Rattle.meaning.specs.Automaton.{some_of}
use Rattle.numbering.specs.Listed.{below}
use Rattle.numbering.specs.States.{byte_values}

-- A byte occurs: some keyword has it.
unfoldable pub occurs : Book → ℕ → Bool
occurs book byte = some_of (some_of (eqb byte)) (keywords book.phrases)

-- The bytes below a number that occur, in order.
unfoldable pub occurring_below : Book → ℕ → List ℕ
occurring_below book n = choose (occurs book) (below n)

-- All bytes that occur, in order.
unfoldable pub occurring : Book → List ℕ
occurring book = occurring_below book byte_values

-- The class of a byte: 1, 2 and so on for the bytes that occur, in order, and 0 for every other.
unfoldable pub class_of : Book → ℕ → ℕ
class_of book byte = cond (occurs book byte) (length (occurring_below book byte) + 1) 0

-- There is one class more than bytes that occur: that of all others.
unfoldable pub class_count : Book → ℕ
class_count book = length (occurring book) + 1
