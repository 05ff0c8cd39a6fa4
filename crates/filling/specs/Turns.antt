-- How the states get their numbers, turn by turn, as the code does it. Assumes nothing: these are definitions.
use Rattle.std.specs.Prelude.{cond, List, ℕ, zero, suc, ◌+◌, ◌*◌, length, ltb, get_or, set, replicate, Option, Some, None}
use Rattle.lent.specs.Numbers.{with_number}
use Rattle.numbering.specs.States.{byte_values}
use Rattle.tables.specs.Layout.{label_at, child_at, room_for_states}
use Rattle.survey.specs.declared.stretch.Stretch.{Stretch}
use Rattle.survey.specs.Stretches.{stretch, nowhere}
use Rattle.filling.specs.declared.turns.Start.{Start}
use Rattle.filling.specs.Onward.{onward_from}

abbrev pub start : ℕ → ℕ → Start
start keyword count = record { keyword = keyword; count = count }

-- The root has no bytes, of whatever keyword.
abbrev pub root : Start
root = start 0 0

-- Where the bytes of a state stand: where the keyword begins of which they are the first.
unfoldable pub stretch_of : List Stretch → Start → Stretch
stretch_of words state = stretch (get_or words state.keyword nowhere).offset state.count

-- How far the numbering is: the tables; of each numbered state of which keyword its bytes are the first, and how many they are;
-- and how many states have a number.
pub record Progress : Type 0 where
  pub tables : List ℕ
  pub starts : List Start
  pub states : ℕ

abbrev pub progress : List ℕ → List Start → ℕ → Progress
progress tables starts states = record { tables = tables; starts = starts; states = states }

-- At first the empty state alone has a number, which is 0.
abbrev pub begun : List ℕ → Progress
begun tables = progress tables (replicate room_for_states root) 1

-- A child by a byte, of so many bytes, gets the next number. Its bytes are the first of a keyword that goes on by the byte.
unfoldable pub numbered_child : ℕ → ℕ → ℕ → Progress → Progress
numbered_child count byte keyword p = record {
  tables = set p.tables (label_at + p.states) byte;
  starts = set p.starts p.states (start keyword count);
  states = p.states + 1;
}

-- There is a child only by a byte of which a keyword is noted.
unfoldable pub with_child : ℕ → ℕ → Option ℕ → Progress → Progress
unfolding numbered_child
with_child count byte None p = p
with_child count byte (Some keyword) p = numbered_child count byte keyword p

-- The same for the bytes below a number, in their order.
unfoldable pub with_children : ℕ → List (Option ℕ) → ℕ → Progress → Progress
with_children count onward zero p = p
with_children count onward (suc byte) p = with_child count byte (get_or onward byte None) (with_children count onward byte p)

-- The bytes of a numbered state.
unfoldable pub state_stretch : List Stretch → Progress → ℕ → Stretch
unfolding stretch_of
state_stretch words p i = stretch_of words (get_or p.starts i root)

-- The first child of state i has the next number.
unfoldable pub with_first : ℕ → Progress → Progress
with_first i p = record {
  tables = with_number 2 p.tables (child_at + 2 * i) p.states;
  starts = p.starts;
  states = p.states;
}

-- The turn of state i: its first child has the next number, and its children, one byte longer than itself, get their numbers.
unfoldable pub with_turn : List ℕ → List Stretch → ℕ → Progress → Progress
with_turn text words i p =
    with_children ((get_or p.starts i root).count + 1) (onward_from text words (state_stretch words p i) (length words)) byte_values (with_first i p)

-- After so many turns. There is no turn for a number that no state has.
unfoldable pub after_turns : List ℕ → List Stretch → List ℕ → ℕ → Progress
after_turns text words tables zero = begun tables
after_turns text words tables (suc i) =
    let before : Progress = after_turns text words tables i in
    let further : Progress = with_turn text words i before in
    cond (ltb i before.states) further before

-- After the last turn. No more states have a turn than there is room for.
unfoldable pub numbered : List ℕ → List Stretch → List ℕ → Progress
numbered text words tables = after_turns text words tables room_for_states

-- At the end the tables say where the children of the last state end.
unfoldable pub closed : Progress → List ℕ
closed p = (with_first p.states p).tables
