-- Calls that feed's contract allows are the calls that feed makes, because the contract determines each; so what they say comes to what those
-- come to. Assumes nothing.
use mathlib.Core.Path.{◌≡◌, refl, sym, subst}
use mathlib.Core.List.{List, [], ◌∷◌, ◌++◌, append-nil}
use Prim.Native.Nat.{ℕ, ◌+◌, ◌*◌, ◌≤◌}
use lib.ListN.{length, take}
use Rattle.lent.specs.Numbers.{Bytes}
use Rattle.meaning.specs.Books.{Book}
use Rattle.running.specs.Layout.{running_size}
use Rattle.scanner.specs.Answers.{said}
use Rattle.scanner.specs.Exact.{BeginEnd, FeedEnd, feed_of}
use Rattle.scanner.specs.Meant.{TablesOf, RunningOf}
use Rattle.scanner.specs.Promised.{BeginPromise}
use Rattle.scanner.specs.Letters.{Call, Came, feeds_of, LetterRead}
use Rattle.scanner.proofs.Letters.{calls_right, letter_read}
use Rattle.demands.specs.Desk.{Feed, Feeds, bytes_taken, reports_joined, steps_added}
use Rattle.demands.specs.Demands.{EachRight}

-- What the calls were lent.
unfoldable pub lent_to : List Feed → List Call
lent_to [] = []
lent_to (feed ∷ rest) = feed.lent ∷ lent_to rest

-- The running memory after them.
unfoldable pub memory_left : List ℕ → List Feed → List ℕ
memory_left running [] = running
memory_left running (feed ∷ rest) = memory_left feed.end.memory rest

-- What they come to, by what they say.
unfoldable pub came_to : List ℕ → List Feed → Came
came_to running feeds = record { memory = memory_left running feeds; read = bytes_taken feeds; written = reports_joined feeds; steps = steps_added feeds }

module _ (tables : List ℕ) where
  pub feeds_are : (feeds : List Feed) (running : List ℕ) → Feeds tables running feeds → feeds_of tables running (lent_to feeds) ≡ came_to running feeds
  unfolding Feeds feeds_of lent_to memory_left came_to bytes_taken reports_joined steps_added
  feeds_are [] running allowed = refl
  feeds_are (feed ∷ rest) running allowed =
      one (feed_of tables running feed.lent.part feed.lent.room) (sym allowed.0.exact) (feeds_are rest feed.end.memory allowed.1)
    where
      one : (end : FeedEnd) → end ≡ feed.end → feeds_of tables feed.end.memory (lent_to rest) ≡ came_to feed.end.memory rest
          → record {
            memory = (feeds_of tables end.memory (lent_to rest)).memory;
            read = take (said end.answer).taken feed.lent.part ++ (feeds_of tables end.memory (lent_to rest)).read;
            written = take (2 * (said end.answer).reports) end.room ++ (feeds_of tables end.memory (lent_to rest)).written;
            steps = (said end.answer).steps + (feeds_of tables end.memory (lent_to rest)).steps;
          } ≡ came_to running (feed ∷ rest)
      one end same later = rw (same, later) refl

  -- With the tables of a book and its memory after the bytes x, each call does what it means, and leaves the book's memory for the next.
  module _ (book : Book) (tables_of_lem : TablesOf book tables) where
    memory_left_lem : (feed : Feed) (x running : List ℕ) → RunningOf book x running → Feeds tables running (feed ∷ [])
        → RunningOf book (x ++ take (said feed.end.answer).taken feed.lent.part) feed.end.memory
    unfolding lent_to came_to memory_left bytes_taken
    memory_left_lem feed x running of-book allowed = rw append-nil at (subst
        (λ (came : Came). RunningOf book (x ++ came.read) came.memory)
        (feeds_are (feed ∷ []) running allowed)
        (calls_right book tables tables_of_lem (feed.lent ∷ []) x running of-book).memory)

    pub each_right : (feeds : List Feed) (x running : List ℕ) → RunningOf book x running → Feeds tables running feeds → EachRight book x running feeds
    unfolding Feeds EachRight
    each_right [] x running of-book allowed = tt
    each_right (feed ∷ rest) x running of-book allowed = (
      allowed.0.means book x tables_of_lem of-book,
      each_right rest (x ++ take (said feed.end.answer).taken feed.lent.part) feed.end.memory
          (memory_left_lem feed x running of-book (allowed.0, tt)) allowed.1,
    )

    -- From begin on: the calls come to what the letter comes to.
    pub feeds_read : (running : List ℕ) (begun : BeginEnd) (feeds : List Feed) → running_size ≤ length running → Bytes running
        → BeginPromise tables running begun → Feeds tables begun.memory feeds → LetterRead book (came_to begun.memory feeds)
    feeds_read running begun feeds large bytes begin allowed = subst (λ (came : Came). LetterRead book came)
        (feeds_are feeds begun.memory allowed)
        (subst (λ (end : BeginEnd). LetterRead book (feeds_of tables end.memory (lent_to feeds)))
        (sym begin.exact)
        (letter_read book tables tables_of_lem running large bytes (lent_to feeds)))
