-- The states are the empty string and the different nonempty prefixes of keywords: neither list has doubles, and each is inside the other.
-- So there are as many turns as states. Assumes nothing.
use mathlib.Core.Path.{◌≡◌, refl, ap}
use mathlib.Core.Logic.{inl, inr, ⊎_elim}
use mathlib.Core.Bool.{So}
use mathlib.Core.List.Memᴰ
use mathlib.Core.List.{List, [], ◌∷◌, Memᴰ}
use Prim.Native.Nat.{ℕ, suc, ◌+◌, ◌≤◌}
use native.Mathlib.Omega.{arith}
use lib.ListN.{length}
use Rattle.meaning.specs.Books.{Book, keywords}
use Rattle.meaning.specs.Reports.{Sorted}
use Rattle.meaning.specs.Automaton.{IsState, is_state}
use Rattle.meaning.proofs.States.{is_state_iff, is_state_closed}
use Rattle.format.specs.Limits.{All, Bytes}
use Rattle.format.specs.Prefixes.{different_prefixes, prefix_count}
use Rattle.format.proofs.Chosen.{no_longer}
use Rattle.format.proofs.Prefixes.{different_iff, different_once}
use Rattle.numbering.specs.Order.{Before}
use Rattle.numbering.specs.Listed.{listed, Complete}
use Rattle.numbering.specs.States.{byte_values, states_of, state_count}
use Rattle.numbering.proofs.Lists.{sorted_weaken}
use Rattle.numbering.proofs.Order.{before_other}
use Rattle.numbering.proofs.Listed.{listed_state, listed_sorted}
use Rattle.numbering.proofs.ListedNumbers.{listed_iff}
use Rattle.numbering.proofs.Keywords.{state_byte}

module _ (book : Book) where
  -- The empty string and the different nonempty prefixes.
  abbrev prefixes : List (List ℕ)
  prefixes = [] ∷ different_prefixes (keywords book.phrases)

  state_prefix : (u : List ℕ) → So (is_state book u) → Memᴰ u prefixes
  unfolding IsState
  state_prefix [] h = Memᴰ.head refl
  state_prefix (x ∷ u) h = go ((is_state_iff book (x ∷ u)).0 h)
    where
      go : IsState book (x ∷ u) → Memᴰ (x ∷ u) prefixes
      go (inl e) = Memᴰ.head e
      go (inr p) = Memᴰ.tail ((different_iff (keywords book.phrases) (x ∷ u)).1 (omega arith, (p.keyword, p.listed, p.starts)))

  prefix_state : (u : List ℕ) → Memᴰ u prefixes → So (is_state book u)
  unfolding IsState
  prefix_state u m = ⊎_elim
      (λ (e : u ≡ []). (is_state_iff book u).1 (inl e))
      (λ k.
      let r = ((different_iff (keywords book.phrases) u).0 k).1 in
      (is_state_iff book u).1 (inr (record { keyword = r.0; listed = r.1; starts = r.2 })))
      (Memᴰ.cases_cons m)

  prefixes_once : Sorted (λ (u v : List ℕ). u ≡ v → ⊥) prefixes
  unfolding Sorted
  prefixes_once = (
    λ v m e. omega (arith, ap length e, ((different_iff (keywords book.phrases) v).0 m).0),
    different_once (keywords book.phrases),
  )

  -- However many turns there are, no more are listed.
  pub listed_at_most : (turns : ℕ) → length (listed (is_state book) byte_values turns) ≤ suc (prefix_count (keywords book.phrases))
  unfolding prefix_count
  listed_at_most turns =
      let list : List (List ℕ) = listed (is_state book) byte_values turns in
      no_longer list prefixes (sorted_weaken Before (λ u v. u ≡ v → ⊥) before_other list (listed_sorted (is_state book) byte_values turns))
      (λ u m. state_prefix u (listed_state (is_state book) byte_values (is_state_closed book).empty turns u m))

  module _ (bytes : All Bytes (keywords book.phrases)) where
    pub states_complete : Complete (is_state book) byte_values (suc (prefix_count (keywords book.phrases)))
    states_complete = record {
      closed = is_state_closed book;
      bytes = state_byte book bytes;
      turned = listed_at_most (suc (prefix_count (keywords book.phrases)));
    }

    -- There is one state more than there are different nonempty prefixes.
    pub count_right : state_count book ≡ 1 + prefix_count (keywords book.phrases)
    unfolding state_count states_of prefix_count
    count_right =
        let turns : ℕ = suc (length (different_prefixes (keywords book.phrases))) in
        let list : List (List ℕ) = listed (is_state book) byte_values turns in
        let inside : (u : List ℕ) → Memᴰ u prefixes → Memᴰ u list = λ u m. (listed_iff (is_state book) byte_values turns states_complete u).1 (prefix_state u m) in
        omega (arith, listed_at_most turns, no_longer prefixes list prefixes_once inside)
