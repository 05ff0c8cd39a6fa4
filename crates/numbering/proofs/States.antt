-- A book's states and their numbers: what holds of a complete list of states, said of the book's.
-- Assumes nothing.
use mathlib.Core.Path.{◌≡◌}
use mathlib.Core.Logic.{◌↔◌}
use mathlib.Core.Bool.{So}
use mathlib.Core.List.{List, [], Memᴰ}
use Prim.Native.Nat.{ℕ, suc, ◌<◌}
use lib.ListN.{length}
use Rattle.meaning.specs.Books.{Book, keywords}
use Rattle.meaning.specs.Reports.{Sorted}
use Rattle.meaning.specs.Automaton.{is_state}
use Rattle.meaning.proofs.Sorted.{sorted_only}
use Rattle.format.specs.Limits.{All, Bytes}
use Rattle.format.specs.Prefixes.{prefix_count}
use Rattle.numbering.specs.Order.{Before}
use Rattle.numbering.specs.States.{byte_values, states_of, state_count, state_at, number_in}
use Rattle.numbering.proofs.Lists.{sorted_weaken}
use Rattle.numbering.proofs.Order.{before_not_after, before_other}
use Rattle.numbering.proofs.Listed.{listed_sorted}
use Rattle.numbering.proofs.ListedNumbers.{listed_iff, size_some, string_empty, string_before, string_once, only_empty, shorter_first, string_state, number_inside, string_number, number_string}
use Rattle.numbering.proofs.Count.{states_complete}

module _ (book : Book) where
  abbrev turns : ℕ
  turns = suc (prefix_count (keywords book.phrases))

  -- ── In order ──

  -- By length, then by bytes.
  pub states_sorted : Sorted Before (states_of book)
  unfolding states_of
  states_sorted = listed_sorted (is_state book) byte_values turns

  -- None stands there twice.
  pub states_once : Sorted (λ (u v : List ℕ). u ≡ v → ⊥) (states_of book)
  states_once = sorted_weaken Before (λ u v. u ≡ v → ⊥) before_other (states_of book) states_sorted

  -- The empty state is always there.
  pub count_some : 0 < state_count book
  unfolding state_count states_of
  count_some = size_some (is_state book) byte_values turns

  -- The empty state has the number 0, and no other has.
  pub state_at_empty : state_at book 0 ≡ []
  unfolding state_at states_of
  state_at_empty = string_empty (is_state book) byte_values turns

  pub state_at_only_empty : (i : ℕ) → i < state_count book → state_at book i ≡ [] → i ≡ 0
  unfolding state_at state_count states_of
  state_at_only_empty = only_empty (is_state book) byte_values turns

  -- Of two numbers the smaller has the string that comes before; so no string has two numbers.
  pub state_at_before : (i j : ℕ) → i < j → j < state_count book → Before (state_at book i) (state_at book j)
  unfolding state_at state_count states_of
  state_at_before = string_before (is_state book) byte_values turns

  pub state_at_once : (i j : ℕ) → i < state_count book → j < state_count book → state_at book i ≡ state_at book j → i ≡ j
  unfolding state_at state_count states_of
  state_at_once = string_once (is_state book) byte_values turns

  -- A shorter state has a smaller number.
  pub state_at_shorter : (i j : ℕ) → i < state_count book → j < state_count book → length (state_at book i) < length (state_at book j) → i < j
  unfolding state_at state_count states_of
  state_at_shorter = shorter_first (is_state book) byte_values turns

  module _ (bytes : All Bytes (keywords book.phrases)) where
    -- ── Exactly the states ──

    pub states_iff : (u : List ℕ) → Memᴰ u (states_of book) ↔ So (is_state book u)
    unfolding states_of
    states_iff = listed_iff (is_state book) byte_values turns (states_complete book bytes)

    -- No other list has exactly the states in this order.
    pub states_only : (others : List (List ℕ)) → Sorted Before others → ((u : List ℕ) → Memᴰ u others ↔ So (is_state book u)) → others ≡ states_of book
    states_only others sorted same = sorted_only Before before_not_after others (states_of book) sorted states_sorted
        (λ u. (λ m. (states_iff u).1 ((same u).0 m), λ m. (same u).1 ((states_iff u).0 m)))

    -- ── Strings and numbers are each other's inverse ──

    -- Every number below the count is that of a state.
    pub state_at_state : (i : ℕ) → i < state_count book → So (is_state book (state_at book i))
    unfolding state_at state_count states_of
    state_at_state = string_state (is_state book) byte_values turns (states_complete book bytes)

    -- Every state has a number below the count, and that number has its string.
    pub number_below : (u : List ℕ) → So (is_state book u) → number_in book u < state_count book
    unfolding number_in state_count states_of
    number_below = number_inside (is_state book) byte_values turns (states_complete book bytes)

    pub state_at_number : (u : List ℕ) → So (is_state book u) → state_at book (number_in book u) ≡ u
    unfolding state_at number_in states_of
    state_at_number = string_number (is_state book) byte_values turns (states_complete book bytes)

    -- The string of a number has that number.
    pub number_state_at : (i : ℕ) → i < state_count book → number_in book (state_at book i) ≡ i
    unfolding number_in state_at state_count states_of
    number_state_at = number_string (is_state book) byte_values turns (states_complete book bytes)

    -- What has the string of a state has its number.
    pub number_is : (u : List ℕ) (i : ℕ) → i < state_count book → state_at book i ≡ u → number_in book u ≡ i
    number_is u i l e = rw (← e) (number_state_at i l)

    pub number_empty : number_in book [] ≡ 0
    number_empty = number_is [] 0 count_some state_at_empty
