-- Running memory that is a book's after some bytes, by what is read from it. Assumes nothing: these are definitions.
use Rattle.std.specs.Prelude.{◌≡◌, cond, List, ℕ, ◌<◌, length}
use Rattle.lent.specs.Numbers.{number_at}
use Rattle.meaning.specs.Books.{Book}
use Rattle.meaning.specs.Automaton.{is_state, after}
use Rattle.numbering.specs.States.{number_in}
use Rattle.tables.specs.Layout.{book_mark, room_for_pieces}
use Rattle.running.specs.Waiting.{slots, some_below}
use Rattle.running.specs.Layout.{tag_at, state_at, spare_at, place_at, mark_at, running_tag}
use Rattle.running.specs.Reads.{flag_in, closing_place_in, waits_in}
use Rattle.running.specs.Kept.{Kept}

-- A slot has its flag exactly when some piece has its bit there.
unfoldable pub Flagged : List ℕ → Type 0
Flagged m = (q : ℕ) → q < slots → flag_in m q ≡ cond (some_below (waits_in m q) room_for_pieces) 128 0

-- The windows in the memory m are the book's after the bytes x.
pub record Windows (book : Book) (x m : List ℕ) : Type 0 where
  pub flags : Flagged m
  pub kept : Kept book x (closing_place_in m) (waits_in m)

-- All of the memory m is the book's after the bytes x.
pub record Held (book : Book) (x m : List ℕ) : Type 0 where
  pub tag : number_at 8 m tag_at ≡ running_tag
  pub state : number_at 2 m state_at ≡ number_in book (after (is_state book) x)
  pub spare : number_at 6 m spare_at ≡ 0
  pub place : number_at 8 m place_at ≡ length x
  pub mark : number_at 8 m mark_at ≡ book_mark book
  pub windows : Windows book x m
