-- An entry that is written stands in its own bytes, and all other bytes are as they were. Assumes nothing.
use mathlib.Core.Path.{◌≡◌, sym, ◌∙◌}
use mathlib.Core.Logic.{inl, inr, ⊎_elim}
use mathlib.Core.List.{List}
use Prim.Native.Nat.{ℕ, ◌+◌, ◌*◌, ◌≤◌, ◌<◌}
use native.Mathlib.Omega.{arith}
use lib.ListN.{length, get_or, set, length-set}
use lib.Seq.{get_or-set_same, get_or-set_other}
use Rattle.lent.specs.Numbers.{number_at, with_number, Apart}
use Rattle.lent.proofs.Cases.{lt_or_le}
use Rattle.lent.proofs.Numbers.{length_with_number, number_written, number_apart, number_apart_byte}
use Rattle.tables.specs.Layout.{piece_at, phrase_at, room_for_pieces, room_for_phrases}
use Rattle.tables.specs.Reads.{Whole, delay_in, span_in, link_in, rank_in, ends_in, phrase_number_in, phrase_rights_in}
use Rattle.tables.proofs.Parts.{number_one}
use Rattle.survey.specs.declared.entries.Entry.{Entry}
use Rattle.survey.specs.Entries.{with_phrase, with_piece}

pub length_with_phrase : (j number rights : ℕ) (t : List ℕ) → length (with_phrase j number rights t) ≡ length t
unfolding with_phrase
length_with_phrase j number rights t = simp (length-set, length_with_number)

pub length_with_piece : (p : ℕ) (entry : Entry) (t : List ℕ) → length (with_piece p entry t) ≡ length t
unfolding with_piece
length_with_piece p entry t = simp (length-set, length_with_number)

-- What lies apart from some bytes lies apart from a part of them.
narrow : (j m i n i' n' : ℕ) → Apart j m i n → i ≤ i' → i' + n' ≤ i + n → Apart j m i' n'
narrow j m i n i' n' (inl a) low high = inl (omega arith)
narrow j m i n i' n' (inr a) low high = inr (omega arith)

-- ── Piece p ──

module _ (p : ℕ) (entry : Entry) (t : List ℕ) where
  abbrev base : ℕ
  base = piece_at + 8 * p

  -- The memory once the two numbers of two bytes are written.
  abbrev numbers : List ℕ
  numbers = with_number 2 (with_number 2 t base entry.delay) (base + 2) entry.span

  length_numbers : length numbers ≡ length t
  length_numbers = simp length_with_number

  -- A number apart from both parts of the entry, before and behind the link, is as it was.
  pub piece_apart : (m j : ℕ) → Apart j m base 4 → Apart j m (base + 6) 2 → number_at m (with_piece p entry t) j ≡ number_at m t j
  unfolding with_piece
  piece_apart m j front back =
      number_apart_byte m _ _ entry.ends j (narrow j m (base + 6) 2 _ 1 back (omega arith) (omega arith))
      ∙ number_apart_byte m _ _ entry.rank.0 j (narrow j m (base + 6) 2 _ 1 back (omega arith) (omega arith))
      ∙ number_apart m 2 _ _ entry.span j (narrow j m base 4 _ 2 front (omega arith) (omega arith))
      ∙ number_apart m 2 t _ entry.delay j (narrow j m base 4 _ 2 front (omega arith) (omega arith))

  pub piece_byte : (k : ℕ) → Apart k 1 base 4 → Apart k 1 (base + 6) 2 → get_or (with_piece p entry t) k 0 ≡ get_or t k 0
  piece_byte k front back = sym (number_one (with_piece p entry t) k) ∙ piece_apart 1 k front back ∙ number_one t k

  -- The link is as it was.
  pub link_kept : link_in (with_piece p entry t) p ≡ link_in t p
  link_kept = piece_apart 2 (base + 4) (inr (omega arith)) (inl (omega arith))

  -- What lies in the entry of another piece is as it was.
  pub other_piece : (q : ℕ) → (q ≡ p → ⊥) → (m j : ℕ) → piece_at + 8 * q ≤ j → j + m ≤ piece_at + 8 * q + 8 → number_at m (with_piece p entry t) j ≡ number_at m t j
  other_piece q differ m j low high = ⊎_elim
      (λ (before : q < p). piece_apart m j (inl (omega arith)) (inl (omega arith)))
      (λ (from : p ≤ q). let after : p < q = omega (arith, differ) in piece_apart m j (inr (omega arith)) (inr (omega arith)))
      (lt_or_le q p)

  pub other_byte : (q : ℕ) → (q ≡ p → ⊥) → (k : ℕ) → piece_at + 8 * q ≤ k → k < piece_at + 8 * q + 8 → get_or (with_piece p entry t) k 0 ≡ get_or t k 0
  other_byte q differ k low high = sym (number_one (with_piece p entry t) k) ∙ other_piece q differ 1 k low (omega arith) ∙ number_one t k

  module _ (whole : Whole t) (room : p < room_for_pieces) where
    -- Each part is read back.
    pub delay_stored : entry.delay < 65536 → delay_in (with_piece p entry t) p ≡ entry.delay
    unfolding with_piece
    delay_stored small =
        number_apart_byte 2 _ (base + 7) entry.ends base (inl (omega arith))
        ∙ number_apart_byte 2 _ (base + 6) entry.rank.0 base (inl (omega arith))
        ∙ number_apart 2 2 _ (base + 2) entry.span base (inl (omega arith))
        ∙ number_written 2 t base entry.delay (omega arith) small

    pub span_stored : entry.span < 65536 → span_in (with_piece p entry t) p ≡ entry.span
    unfolding with_piece
    span_stored small =
        number_apart_byte 2 _ (base + 7) entry.ends (base + 2) (inl (omega arith))
        ∙ number_apart_byte 2 _ (base + 6) entry.rank.0 (base + 2) (inl (omega arith))
        ∙ number_written 2 _ (base + 2) entry.span (simp length_with_number (omega arith)) small

    pub rank_stored : rank_in (with_piece p entry t) p ≡ entry.rank.0
    unfolding with_piece
    rank_stored =
        get_or-set_other (set numbers (base + 6) entry.rank.0) (base + 7) (base + 6) entry.ends 0 (λ e. omega arith)
        ∙ get_or-set_same numbers (base + 6) entry.rank.0 0 (omega (arith, length_numbers))

    pub ends_stored : ends_in (with_piece p entry t) p ≡ entry.ends
    unfolding with_piece
    ends_stored = get_or-set_same (set numbers (base + 6) entry.rank.0) (base + 7) entry.ends 0 (simp length-set (omega (arith, length_numbers)))

-- ── The phrase of rank j ──

module _ (j number rights : ℕ) (t : List ℕ) where
  -- A number apart from the entry is as it was.
  pub phrase_apart : (m k : ℕ) → Apart k m (phrase_at + 4 * j) 3 → number_at m (with_phrase j number rights t) k ≡ number_at m t k
  unfolding with_phrase
  phrase_apart m k apart =
      number_apart_byte m _ _ rights k (narrow k m (phrase_at + 4 * j) 3 _ 1 apart (omega arith) (omega arith))
      ∙ number_apart m 2 t _ number k (narrow k m (phrase_at + 4 * j) 3 _ 2 apart (omega arith) (omega arith))

  pub phrase_byte : (k : ℕ) → Apart k 1 (phrase_at + 4 * j) 3 → get_or (with_phrase j number rights t) k 0 ≡ get_or t k 0
  phrase_byte k apart = sym (number_one (with_phrase j number rights t) k) ∙ phrase_apart 1 k apart ∙ number_one t k

  -- What lies in the entry of another phrase is as it was.
  pub other_phrase : (i : ℕ) → (i ≡ j → ⊥) → (m k : ℕ) → phrase_at + 4 * i ≤ k → k + m ≤ phrase_at + 4 * i + 4 → number_at m (with_phrase j number rights t) k ≡ number_at m t k
  other_phrase i differ m k low high = ⊎_elim
      (λ (before : i < j). phrase_apart m k (inl (omega arith)))
      (λ (from : j ≤ i). let after : j < i = omega (arith, differ) in phrase_apart m k (inr (omega arith)))
      (lt_or_le i j)

  pub other_phrase_byte : (i : ℕ) → (i ≡ j → ⊥) → (k : ℕ) → phrase_at + 4 * i ≤ k → k < phrase_at + 4 * i + 4 → get_or (with_phrase j number rights t) k 0 ≡ get_or t k 0
  other_phrase_byte i differ k low high = sym (number_one (with_phrase j number rights t) k) ∙ other_phrase i differ 1 k low (omega arith) ∙ number_one t k

  module _ (whole : Whole t) (room : j < room_for_phrases) where
    -- Each part is read back.
    pub number_stored : number < 65536 → phrase_number_in (with_phrase j number rights t) j ≡ number
    unfolding with_phrase
    number_stored small =
        number_apart_byte 2 _ _ rights (phrase_at + 4 * j) (inl (omega arith))
        ∙ number_written 2 t (phrase_at + 4 * j) number (omega arith) small

    pub rights_stored : phrase_rights_in (with_phrase j number rights t) j ≡ rights
    unfolding with_phrase
    rights_stored = get_or-set_same (with_number 2 t (phrase_at + 4 * j) number) (phrase_at + 4 * j + 2) rights 0 (simp length_with_number (omega arith))
