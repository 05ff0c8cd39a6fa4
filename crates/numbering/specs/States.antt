-- The states of a book and their numbers. Assumes nothing: these are definitions.
use Rattle.std.specs.Prelude.{cond, List, [], ◌∷◌, ◌++◌, ℕ, suc, ◌+◌, ◌≤◌, ◌<◌, length, get_or}
use Rattle.meaning.specs.Books.{Book, keywords}
use Rattle.meaning.specs.Automaton.{is_state, after, failure, steps_for}
use Rattle.format.specs.Prefixes.{prefix_count}
use Rattle.numbering.specs.Listed.{listed, children_from, index_of}
use Rattle.numbering.specs.Walks.{Landed}

-- A byte is a number below 256.
abbrev pub byte_values : ℕ
byte_values = 256

-- All states of a book, in the order of their numbers: by length, then by bytes.
-- Each has a turn: the empty one, and the different nonempty prefixes of keywords.
unfoldable pub states_of : Book → List (List ℕ)
states_of book = listed (is_state book) byte_values (suc (prefix_count (keywords book.phrases)))

unfoldable pub state_count : Book → ℕ
state_count book = length (states_of book)

-- A book within the limits has at most 2,048 states: the empty one and 2,047 prefixes.
abbrev pub most_states : ℕ
most_states = 2048

-- The state that has a number.
unfoldable pub state_at : Book → ℕ → List ℕ
state_at book i = get_or (states_of book) i []

-- The number of a state.
unfoldable pub number_in : Book → List ℕ → ℕ
number_in book u = index_of u (states_of book)

-- The number at which the children of i begin.
unfoldable pub first_child : Book → ℕ → ℕ
first_child book i = children_from (is_state book) byte_values i

-- A number is that of a child of i: the children of i have the numbers from its first child on, up to, without, the first child of i + 1.
pub record ChildOf (book : Book) (i child : ℕ) : Type 0 where
  pub inside : i < state_count book
  pub low : first_child book i ≤ child
  pub high : child < first_child book (i + 1)

-- The last of some bytes; 0 where there is none.
unfoldable pub last_byte : List ℕ → ℕ
last_byte [] = 0
last_byte (x ∷ []) = x
last_byte (x ∷ y ∷ u) = last_byte (y ∷ u)

-- ── Steps by number ──

-- The number of the child of i by a byte; 0, which is nobody's child, where there is none.
unfoldable pub child_by : Book → ℕ → ℕ → ℕ
child_by book i a = let child : ℕ = number_in book (state_at book i ++ a ∷ []) in cond (is_state book (state_at book i ++ a ∷ [])) child 0

-- The number of the failure of i.
unfoldable pub failure_in : Book → ℕ → ℕ
failure_in book i = number_in book (failure (is_state book) (state_at book i))

-- What the step of a byte from i comes to: the number of the next state, and the failure steps.
unfoldable pub step_by : Book → ℕ → ℕ → Landed
step_by book i a = record {
  at = number_in book (after (is_state book) (state_at book i ++ a ∷ []));
  taken = steps_for (is_state book) (state_at book i) a;
}
