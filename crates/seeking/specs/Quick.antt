-- The quick next state, as it is read from table memory, whatever its bytes are. Assumes nothing: these are definitions.
use Rattle.std.specs.Prelude.{Bool, cond, ◌&&◌, List, ℕ, zero, suc, ◌-◌, ◌*◌, ltb, leb, eqb}
use Rattle.tables.specs.Reads.{state_count_in, dense_in, column_in, cell_in, back_in}
use Rattle.stepping.specs.Steps.{child_by_in}

-- The last offset at which a column may begin: behind it there is no room for the cells of all dense states.
abbrev pub last_column : ℕ → ℕ
last_column dense = 49152 - 2 * dense

-- The column in which the cells for a byte stand: the byte's own.
abbrev pub column_for : List ℕ → ℕ → ℕ
column_for t byte = column_in t byte

-- A byte has a column where a cell for each dense state fits. A number that is no byte has none.
unfoldable pub has_column : List ℕ → ℕ → ℕ → Bool
has_column t dense byte = ltb byte 256 && leb (column_for t byte) (last_column dense)

-- What the row of dense state i has for the byte: its cell. Without a column it is the number of the states, which no state has.
unfoldable pub row_in : List ℕ → ℕ → ℕ → ℕ → ℕ → ℕ
unfolding has_column
row_in t states dense i byte = cond (has_column t dense byte) (cell_in t (column_for t byte) i) states

-- The states below this number have a row: the dense ones.
abbrev pub rows_end : ℕ → ℕ
rows_end dense = dense

-- From a dense state the row says it. From any other state, which has no row, it is the child by the byte, and where there is none
-- the same from the failure. So many states are looked at.
unfoldable pub sought_within : List ℕ → ℕ → ℕ → ℕ → ℕ → ℕ → ℕ
unfolding row_in
sought_within t states dense zero i byte = 0
sought_within t states dense (suc most) i byte =
    let back : ℕ = sought_within t states dense most (back_in t i) byte in
    let child : ℕ = child_by_in t states i byte in
    cond (ltb i (rows_end dense)) (row_in t states dense i byte) (cond (eqb child 0) back child)

-- What is found for the byte from state i on: a failure has a smaller number, so at most i others are looked at.
unfoldable pub sought_in : List ℕ → ℕ → ℕ → ℕ → ℕ → ℕ
unfolding sought_within
sought_in t states dense i byte = sought_within t states dense (suc i) i byte

-- The next state is what is found. A number that no state has leads to the root.
unfoldable pub quick_in : List ℕ → ℕ → ℕ → ℕ → ℕ → ℕ
unfolding sought_in
quick_in t states dense i byte =
    let found : ℕ = sought_in t states dense i byte in
    cond (ltb found states) found 0

-- The same with the counts that the tables themselves hold.
abbrev pub quick_next : List ℕ → ℕ → ℕ → ℕ
quick_next t i byte = quick_in t (state_count_in t) (dense_in t) i byte
