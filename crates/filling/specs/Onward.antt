-- By which bytes the keywords go on from a state. Assumes nothing: these are definitions.
use Rattle.std.specs.Prelude.{Bool, cond, ◌&&◌, List, ℕ, zero, suc, ◌+◌, ltb, get_or, set, replicate, Option, Some, None}
use Rattle.meaning.specs.Matching.{bytes_after, same}
use Rattle.numbering.specs.States.{byte_values}
use Rattle.survey.specs.declared.stretch.Stretch.{Stretch}
use Rattle.survey.specs.Stretches.{nowhere}

-- A keyword goes on from a state: it is longer, and begins with the bytes of the state.
unfoldable pub goes_on : List ℕ → Stretch → Stretch → Bool
unfolding bytes_after same
goes_on text state keyword =
    ltb state.count keyword.count && same (bytes_after state.offset state.count text) (bytes_after keyword.offset state.count text)

-- What is noted of the bytes onward, once keyword q is looked at: the keyword, at the byte by which it goes on.
unfoldable pub with_keyword : List ℕ → Stretch → ℕ → Stretch → List (Option ℕ) → List (Option ℕ)
unfolding goes_on
with_keyword text state q keyword onward =
    cond (goes_on text state keyword) (set onward (get_or text (keyword.offset + state.count) 0) (Some q)) onward

-- The same for the keywords below a number; at first nothing is noted.
unfoldable pub onward_from : List ℕ → List Stretch → Stretch → ℕ → List (Option ℕ)
unfolding with_keyword
onward_from text words state zero = replicate byte_values None
onward_from text words state (suc q) = with_keyword text state q (get_or words q nowhere) (onward_from text words state q)
