-- Down from the root, byte by byte, the child is the state of one byte more: so a keyword leads to its own state.
-- Assumes nothing.
use mathlib.Core.Path.{◌≡◌, sym, ap, ◌∙◌}
use mathlib.Core.Logic.{⊎_elim}
use mathlib.Core.Bool.{So}
use mathlib.Core.List.{List, [], ◌∷◌, ◌++◌}
use Prim.Native.Nat.{ℕ, zero, suc, ◌≤◌, ◌<◌}
use native.Mathlib.Nat.{le-suc_iff}
use native.Mathlib.Omega.{arith}
use lib.ListN.{length, get_or, take, drop, length-set, length-replicate, take-append-drop}
use lib.Seq.{get_or-set_same, get_or-set_other, take-suc, take-length}
use Rattle.meaning.specs.Books.{Book, keywords}
use Rattle.meaning.specs.Automaton.{is_state}
use Rattle.meaning.proofs.States.{is_state_closed, keyword_state}
use Rattle.format.specs.Limits as limits
use Rattle.format.specs.Limits.{All, most_pieces}
use Rattle.numbering.specs.States.{state_count, state_at, number_in}
use Rattle.numbering.proofs.States.{number_below, state_at_number, number_empty}
use Rattle.numbering.proofs.Children.{child_by_state}
use Rattle.stepping.specs.Steps.{child_by_in}
use Rattle.stepping.specs.Held.{HoldsStates}
use Rattle.stepping.proofs.Right.{child_right}
use Rattle.survey.specs.declared.stretch.Stretch.{Stretch}
use Rattle.filling.specs.Keywords.{keyword_in, Gives}
use Rattle.filling.proofs.Given.{given_bytes, given_listed}
use Rattle.linking.specs.Keywords.{state_down, keyword_states}
use Rattle.linking.proofs.Words.{zeros}

module _ (book : Book) (bytes : All limits.Bytes (keywords book.phrases)) (t : List ℕ) (held : HoldsStates book t) where
  module _ (word : List ℕ) (state : So (is_state book word)) where
    -- Fewer bytes of a state are a state.
    state_start : (n : ℕ) → So (is_state book (take n word))
    state_start n = (is_state_closed book).shorter (take n word) word (record { rest = drop n word; split = take-append-drop n word }) state

    pub down_right : (n : ℕ) → n ≤ length word → state_down t (state_count book) word n ≡ number_in book (take n word)
    unfolding state_down
    down_right zero l = sym (number_empty book bytes)
    down_right (suc n) l =
        let u : List ℕ = take n word in
        let a : ℕ = get_or word n 0 in
        let string : state_at book (number_in book u) ≡ u = state_at_number book bytes u (state_start n) in
        let further : take (suc n) word ≡ u ++ a ∷ [] = take-suc word n 0 l in
        let next : state_at book (number_in book u) ++ a ∷ [] ≡ take (suc n) word = ap {B = List ℕ} (λ v. v ++ a ∷ []) string ∙ sym further in
        ap (λ i. child_by_in t (state_count book) i a) (down_right n (omega arith))
        ∙ child_right book bytes t held (number_in book u) a (number_below book bytes u (state_start n))
        ∙ child_by_state book bytes (number_in book u) a (rw next (state_start (suc n)))
        ∙ ap (number_in book) next

    -- All its bytes lead to the state itself.
    pub down_all : state_down t (state_count book) word (length word) ≡ number_in book word
    down_all = down_right (length word) (omega arith) ∙ ap (number_in book) (take-length word)

module _ (text : List ℕ) (words : List Stretch) (book : Book) (gives : Gives text words book) (t : List ℕ) (held : HoldsStates book t) where
  abbrev found : ℕ → List ℕ
  found n = keyword_states t (state_count book) text words n

  abbrev state_of : ℕ → ℕ
  state_of q = state_down t (state_count book) (keyword_in text words q) (length (keyword_in text words q))

  -- The state of a keyword has the number of the keyword.
  pub state_right : (q : ℕ) → q < length words → state_of q ≡ number_in book (keyword_in text words q)
  state_right q l =
      down_all book (given_bytes text words book gives) t held (keyword_in text words q)
      (keyword_state book (keyword_in text words q) (given_listed text words book gives q l))

  length_found : (n : ℕ) → length (found n) ≡ most_pieces
  unfolding keyword_states
  length_found zero = length-replicate {A = ℕ} most_pieces 0
  length_found (suc n) = length-set (found n) n (state_of n) ∙ length_found n

  found_to : (n : ℕ) → n ≤ length words → (q : ℕ) → q < n → get_or (found n) q 0 ≡ number_in book (keyword_in text words q)
  unfolding keyword_states
  found_to zero h q l = absurd (omega arith)
  found_to (suc n) h q l = ⊎_elim
      (λ (k : suc q ≤ n). get_or-set_other (found n) n q (state_of n) 0 (λ e. omega arith) ∙ found_to n (omega arith) q k)
      (λ (e : suc q ≡ suc n).
      let here : q ≡ n = omega arith in
      rw here (get_or-set_same (found n) n (state_of n) 0 (omega (arith, length_found n, gives.inside.few)) ∙ state_right n (omega arith)))
      (le-suc_iff.0 l)

  -- Of each keyword the number of its state is found.
  pub states_right : (q : ℕ) → q < length words → get_or (found (length words)) q 0 ≡ number_in book (keyword_in text words q)
  states_right q l = found_to (length words) (omega arith) q l

  none_past : (n q : ℕ) → n ≤ q → get_or (found n) q 0 ≡ 0
  unfolding keyword_states
  none_past zero q l = zeros most_pieces q
  none_past (suc n) q l = get_or-set_other (found n) n q (state_of n) 0 (λ e. omega arith) ∙ none_past n q (omega arith)

  -- Past the keywords there is nothing.
  pub states_past : (q : ℕ) → length words ≤ q → get_or (found (length words)) q 0 ≡ 0
  states_past q l = none_past (length words) q l
