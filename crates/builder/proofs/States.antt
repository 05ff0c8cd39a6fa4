-- The passes over the states have what they ask for: the numbering counts the states of the book, for which there is room, and the
-- tables with their failures lead each keyword to its own state. Assumes nothing.
use mathlib.Core.Path.{◌≡◌, ap, ◌∙◌}
use mathlib.Core.List.{List}
use Prim.Native.Nat.{ℕ, ◌≤◌, ◌<◌}
use native.Mathlib.Omega.{arith}
use lib.ListN.{length, get_or}
use Rattle.meaning.specs.Books.{Book}
use Rattle.format.specs.Limits.{most_prefixes}
use Rattle.format.specs.Prefixes.{prefix_count}
use Rattle.numbering.specs.States.{state_count, number_in, failure_in}
use Rattle.numbering.proofs.States.{count_some}
use Rattle.tables.specs.Spots.{spot_count}
use Rattle.tables.specs.Endings.{keyword_of}
use Rattle.tables.specs.Layout.{room_for_states}
use Rattle.tables.specs.Reads.{fail_in}
use Rattle.tables.proofs.Fits.{fits}
use Rattle.survey.specs.Turns.{Notes}
use Rattle.stepping.specs.Held.{HoldsFailures}
use Rattle.filling.specs.Keywords.{keywords_in}
use Rattle.filling.specs.Turns.{closed}
use Rattle.filling.proofs.Filled.{count_filled}
use Rattle.linking.specs.Failures.{linked}
use Rattle.linking.specs.Keywords.{keyword_states}
use Rattle.linking.specs.Filled.{Filled}
use Rattle.linking.proofs.Filled as linking
use Rattle.linking.proofs.Filled.{states_held, failures_held}
use Rattle.linking.proofs.Pieces.{given_count, piece_states}
use Rattle.endings.specs.Filled.{filled}
use Rattle.builder.specs.Passes.{Readied, StatesExact, numbered_by, linked_by, found_by, states_by}

module _ (book : Book) (bytes : List ℕ) (notes : Notes) (ready : Readied book bytes notes) where
  room : state_count book ≤ room_for_states
  room = (fits book ready.within).states

  -- ── What the numbering asks and answers ──

  pub few_prefixes : prefix_count (keywords_in bytes notes.words) ≤ most_prefixes
  few_prefixes = rw ready.gives.all ready.within.counts.prefixes

  pub count_is : (numbered_by bytes notes).states ≡ state_count book
  count_is = count_filled bytes notes.words book ready.gives room notes.tables ready.whole

  pub count_room : (numbered_by bytes notes).states ≤ room_for_states
  count_room = omega (arith, count_is, room)

  pub count_positive : 0 < (numbered_by bytes notes).states
  count_positive = omega (arith, count_is, count_some book)

  -- ── What is there once the failures are linked ──

  pub states_linked : Filled book notes.tables (linked_by bytes notes)
  unfolding linked_by
  states_linked = linking.filled bytes notes.words book ready.gives room notes.tables ready.whole ready.zeros

  pub fail_linked : (i : ℕ) → i < state_count book → fail_in (linked_by bytes notes) i ≡ failure_in book i
  unfolding HoldsFailures
  fail_linked = failures_held book room notes.tables (linked_by bytes notes) states_linked

  -- There are as many keywords as pieces, and for each the state is found that its piece ends in.
  pub pieces_is : length notes.words ≡ spot_count book
  pieces_is = given_count bytes notes.words book ready.gives

  pub found_keyword : (p : ℕ) → p < spot_count book → get_or (found_by bytes notes) p 0 ≡ number_in book (keyword_of book p)
  unfolding found_by
  found_keyword p l =
      ap (λ (n : ℕ). get_or (keyword_states (linked_by bytes notes) n bytes notes.words (length notes.words)) p 0) count_is
      ∙ piece_states bytes notes.words book ready.gives (linked_by bytes notes)
      (states_held book room notes.tables (linked_by bytes notes) states_linked) p l

  -- The passes one after the other, each as it is defined.
  pub states_exact : (states : ℕ) (numbers links at after : List ℕ) → states ≡ (numbered_by bytes notes).states → numbers ≡ closed (numbered_by bytes notes)
      → links ≡ linked numbers states → at ≡ keyword_states links states bytes notes.words (length notes.words) → after ≡ filled at states (length notes.words) links
      → StatesExact bytes notes states after
  unfolding states_by found_by linked_by
  states_exact states numbers links at after counted first second third fourth = record {
    count = counted;
    some = omega (arith, counted, count_positive);
    few = omega (arith, counted, count_room);
    tables = rw (fourth, third, second, first, counted);
  }
