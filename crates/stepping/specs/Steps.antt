-- The step of a byte as it is read from table memory, whatever its bytes are. Assumes nothing: these are definitions.
use Rattle.std.specs.Prelude.{cond, List, ℕ, zero, suc, min, ◌+◌, ◌-◌, eqb, Option, Some, None}
use Rattle.numbering.specs.Walks.{Landed, walk}
use Rattle.tables.specs.Reads.{label_in, first_child_in, back_in}
use Rattle.counters.specs.declared.State.{State}
use Rattle.stepping.specs.declared.Stepped.{Stepped}

-- The first of some states whose label is the byte: so many states, from number i on. Where there is none it is 0, which is nobody's child.
unfoldable pub labelled_in : List ℕ → ℕ → ℕ → ℕ → ℕ
labelled_in t byte zero i = 0
labelled_in t byte (suc many) i = let later : ℕ = labelled_in t byte many (i + 1) in cond (eqb (label_in t i) byte) i later

-- The number of a state that was looked for, as the definitions have it: where none was found it is the root's, 0.
abbrev pub number_or_root : Option State → ℕ
number_or_root None = 0
number_or_root (Some state) = state.0

-- Where the numbers of the children of state i end: at the first child of the next state. No state has a number as large as the
-- count of the states, so that is where they end at the latest.
abbrev pub children_end_in : List ℕ → ℕ → ℕ → ℕ
children_end_in t states i = min (first_child_in t (i + 1)) states

-- The child of state i by the byte.
unfoldable pub child_by_in : List ℕ → ℕ → ℕ → ℕ → ℕ
unfolding labelled_in
child_by_in t states i byte = labelled_in t byte (children_end_in t states i - first_child_in t i) (first_child_in t i)

-- The next state, and how many failures are taken: to the child by the byte where there is one, else the same from the failure.
unfoldable pub next_in : List ℕ → ℕ → ℕ → ℕ → Landed
unfolding child_by_in back_in walk
next_in t states i byte = walk (child_by_in t states) (back_in t) (suc i) i byte

-- What the code answers, as the definition says it.
abbrev pub landed : Stepped → Landed
landed stepped = record { at = stepped.state.0; taken = stepped.steps }
