-- The state of a keyword is found child by child, as the code does it. Assumes nothing: these are definitions.
use Rattle.std.specs.Prelude.{List, ℕ, zero, suc, length, get_or, set, replicate}
use Rattle.format.specs.Limits.{most_pieces}
use Rattle.stepping.specs.Steps.{child_by_in}
use Rattle.survey.specs.declared.stretch.Stretch.{Stretch}
use Rattle.filling.specs.Keywords.{keyword_in}

-- The state that the first so many of some bytes lead to from the root.
unfoldable pub state_down : List ℕ → ℕ → List ℕ → ℕ → ℕ
unfolding child_by_in
state_down t states bytes zero = 0
state_down t states bytes (suc n) = child_by_in t states (state_down t states bytes n) (get_or bytes n 0)

-- The states of the keywords below a number, one after the other; 0 for the others.
unfoldable pub keyword_states : List ℕ → ℕ → List ℕ → List Stretch → ℕ → List ℕ
unfolding state_down keyword_in
keyword_states t states text words zero = replicate most_pieces 0
keyword_states t states text words (suc q) =
    set (keyword_states t states text words q) q (state_down t states (keyword_in text words q) (length (keyword_in text words q)))
