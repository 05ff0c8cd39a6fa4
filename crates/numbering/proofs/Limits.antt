-- A book within the limits has 2 to 2,048 states: a keyword is a state and not empty, and there are at most 2,047 different prefixes.
-- Assumes nothing.
use mathlib.Core.Path.{◌≡◌, refl, sym, ap, ◌∙◌}
use mathlib.Core.Bool.{So}
use mathlib.Core.List.{List, [], Memᴰ}
use Prim.Native.Nat.{ℕ, zero, suc, ◌≤◌, ◌<◌}
use native.Mathlib.Omega.{arith}
use lib.ListN.{length}
use Rattle.meaning.specs.Books.{Book, keywords}
use Rattle.meaning.specs.Automaton.{is_state}
use Rattle.meaning.proofs.States.{keyword_state}
use Rattle.format.specs.Limits.{longest_keyword, All, Bytes, Within}
use Rattle.numbering.specs.States.{most_states, state_count, state_at, number_in}
use Rattle.numbering.proofs.Keywords.{within_bytes, within_long, within_some, state_short}
use Rattle.numbering.proofs.Count.{count_right}
use Rattle.numbering.proofs.States.{state_at_empty, state_at_state, number_below, state_at_number}

module _ (book : Book) (within : Within book) where
  bytes : All Bytes (keywords book.phrases)
  bytes = within_bytes book within

  -- At most 2,048 states, and at least the empty one and one more.
  pub count_most : state_count book ≤ most_states
  count_most = omega (arith, within.counts.prefixes, count_right book bytes)

  pub count_least : 2 ≤ state_count book
  count_least = go (number_in book some.0) refl
    where
      some : (keyword : List ℕ) × Memᴰ keyword (keywords book.phrases)
      some = within_some book within

      is_state_lem : So (is_state book some.0)
      is_state_lem = keyword_state book some.0 some.1

      go : (i : ℕ) → number_in book some.0 ≡ i → 2 ≤ state_count book
      go zero e =
          let empty : some.0 ≡ [] = sym (state_at_number book bytes some.0 is_state_lem) ∙ ap (state_at book) e ∙ state_at_empty book in
          absurd (omega (arith, (within_long book within some.0 some.1).0, ap length empty))
      go (suc i) e = omega (arith, e, number_below book bytes some.0 is_state_lem)

  -- A state has at most 32 bytes.
  pub state_at_short : (i : ℕ) → i < state_count book → length (state_at book i) ≤ longest_keyword
  state_at_short i l = state_short book within (state_at book i) (state_at_state book bytes i l)
