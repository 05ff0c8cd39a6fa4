-- With each entry that is written the columns of the tables are longer by one, and the rest is as it was. Assumes nothing.
use mathlib.Core.Path.{◌≡◌, refl, ◌∙◌}
use mathlib.Core.Logic.{◌⊎◌, inl, inr}
use mathlib.Core.List.{List, [], ◌∷◌, ◌++◌, map}
use Prim.Native.Nat.{ℕ, ◌+◌, ◌*◌, ◌≤◌, ◌<◌}
use native.Mathlib.Omega.{arith}
use lib.ListN.{length, get_or}
use Rattle.lent.specs.Numbers.{number_at}
use Rattle.lent.proofs.Cases.{eq_or_ne}
use Rattle.meaning.specs.Books.{Phrase}
use Rattle.meaning.specs.Windows.{delay}
use Rattle.tables.specs.Spots.{Spot}
use Rattle.tables.specs.Layout.{piece_at, phrase_at, rows_at, room_for_pieces, room_for_phrases, gap_span, spot_ends}
use Rattle.tables.specs.Reads.{Whole, delay_in, span_in, link_in, rank_in, ends_in, phrase_number_in, phrase_rights_in}
use Rattle.survey.specs.declared.entries.Entry.{Entry}
use Rattle.survey.specs.Entries.{with_phrase, with_piece}
use Rattle.survey.specs.Turns.{Notes}
use Rattle.survey.specs.Meant.{Blank}
use Rattle.survey.proofs.Columns.{Column, entry_more}
use Rattle.survey.proofs.Stored.{length_with_piece, piece_apart, piece_byte, link_kept, other_piece, other_byte, delay_stored, span_stored, rank_stored, ends_stored}
use Rattle.survey.proofs.Stored.{length_with_phrase, phrase_apart, phrase_byte, other_phrase, other_phrase_byte, number_stored, rights_stored}

-- What the columns of the tables say of a spot and of a phrase.
abbrev pub spot_delay : Spot → ℕ
spot_delay spot = delay spot.piece

abbrev pub spot_span : Spot → ℕ
spot_span spot = gap_span spot.piece.gap

abbrev pub spot_rank : Spot → ℕ
spot_rank spot = spot.rank

abbrev pub phrase_number : Phrase → ℕ
phrase_number phrase = phrase.number

abbrev pub phrase_rights : Phrase → ℕ
phrase_rights phrase = phrase.rights

-- The tables hold the entries of some spots and phrases, and nothing else in the columns of these.
pub record Held (before : List ℕ) (spots : List Spot) (phrases : List Phrase) (t : List ℕ) : Type 0 where
  pub long : length t ≡ length before
  pub delays : Column room_for_pieces (delay_in t) (map spot_delay spots)
  pub spans : Column room_for_pieces (span_in t) (map spot_span spots)
  pub links : (p : ℕ) → p < room_for_pieces → link_in t p ≡ link_in before p
  pub ranks : Column room_for_pieces (rank_in t) (map spot_rank spots)
  pub ends : Column room_for_pieces (ends_in t) (map spot_ends spots)
  pub numbers : Column room_for_phrases (phrase_number_in t) (map phrase_number phrases)
  pub rights : Column room_for_phrases (phrase_rights_in t) (map phrase_rights phrases)
  pub spares : (j : ℕ) → j < room_for_phrases → get_or t (phrase_at + 4 * j + 3) 0 ≡ 0
  pub elsewhere : (k : ℕ) → (k < piece_at) ⊎ (rows_at ≤ k) → get_or t k 0 ≡ get_or before k 0

zero_number : (t : List ℕ) (i : ℕ) → get_or t i 0 ≡ 0 → get_or t (i + 1) 0 ≡ 0 → number_at 2 t i ≡ 0
unfolding number_at
zero_number t i low high = omega arith

-- Before anything was entered the columns are zero.
pub held_blank : (before : Notes) → Blank before → Held before.tables [] [] before.tables
held_blank before blank =
    let t : List ℕ = before.tables in
    let zero = blank.zero in
    record {
      long = refl;
      delays = λ p inside. zero_number t (piece_at + 8 * p) (zero (piece_at + 8 * p) (omega arith) (omega arith)) (zero (piece_at + 8 * p + 1) (omega arith) (omega arith));
      spans = λ p inside. zero_number t (piece_at + 8 * p + 2) (zero (piece_at + 8 * p + 2) (omega arith) (omega arith)) (zero (piece_at + 8 * p + 2 + 1) (omega arith) (omega arith));
      links = λ p inside. refl;
      ranks = λ p inside. zero (piece_at + 8 * p + 6) (omega arith) (omega arith);
      ends = λ p inside. zero (piece_at + 8 * p + 7) (omega arith) (omega arith);
      numbers = λ j inside. zero_number t (phrase_at + 4 * j) (zero (phrase_at + 4 * j) (omega arith) (omega arith)) (zero (phrase_at + 4 * j + 1) (omega arith) (omega arith));
      rights = λ j inside. zero (phrase_at + 4 * j + 2) (omega arith) (omega arith);
      spares = λ j inside. zero (phrase_at + 4 * j + 3) (omega arith) (omega arith);
      elsewhere = λ k outside. refl;
    }

-- An entry says what is told of a spot.
pub record Says (entry : Entry) (spot : Spot) : Type 0 where
  pub delays : entry.delay ≡ spot_delay spot
  pub spans : entry.span ≡ spot_span spot
  pub ranks : entry.rank.0 ≡ spot_rank spot
  pub ends : entry.ends ≡ spot_ends spot
  pub soon : entry.delay < 65536
  pub short : entry.span < 65536

module _ (before : List ℕ) (whole : Whole before) (spots : List Spot) (phrases : List Phrase) (t : List ℕ) (held : Held before spots phrases t) where
  whole_now : Whole t
  whole_now = omega (arith, held.long)

  -- One more piece, behind the others.
  pub held_piece : (p : ℕ) → p ≡ length spots → p < room_for_pieces → (entry : Entry) (spot : Spot) → Says entry spot → Held before (spots ++ spot ∷ []) phrases (with_piece p entry t)
  held_piece p is room entry spot says = record {
    long = length_with_piece p entry t ∙ held.long;
    delays = entry_more spot_delay spots room_for_pieces (delay_in t) (delay_in t') spot p is held.delays
        (delay_stored p entry t whole_now room says.soon ∙ says.delays) (λ q differ. other_piece p entry t q differ 2 (piece_at + 8 * q) (omega arith) (omega arith));
    spans = entry_more spot_span spots room_for_pieces (span_in t) (span_in t') spot p is held.spans
        (span_stored p entry t whole_now room says.short ∙ says.spans) (λ q differ. other_piece p entry t q differ 2 (piece_at + 8 * q + 2) (omega arith) (omega arith));
    links = λ q inside. link q (eq_or_ne q p) ∙ held.links q inside;
    ranks = entry_more spot_rank spots room_for_pieces (rank_in t) (rank_in t') spot p is held.ranks
        (rank_stored p entry t whole_now room ∙ says.ranks) (λ q differ. other_byte p entry t q differ (piece_at + 8 * q + 6) (omega arith) (omega arith));
    ends = entry_more spot_ends spots room_for_pieces (ends_in t) (ends_in t') spot p is held.ends
        (ends_stored p entry t whole_now room ∙ says.ends) (λ q differ. other_byte p entry t q differ (piece_at + 8 * q + 7) (omega arith) (omega arith));
    numbers = λ j inside. piece_apart p entry t 2 (phrase_at + 4 * j) (inr (omega arith)) (inr (omega arith)) ∙ held.numbers j inside;
    rights = λ j inside. piece_byte p entry t (phrase_at + 4 * j + 2) (inr (omega arith)) (inr (omega arith)) ∙ held.rights j inside;
    spares = λ j inside. piece_byte p entry t (phrase_at + 4 * j + 3) (inr (omega arith)) (inr (omega arith)) ∙ held.spares j inside;
    elsewhere = λ k outside. apart k outside ∙ held.elsewhere k outside;
  }
    where
      t' : List ℕ
      t' = with_piece p entry t

      link : (q : ℕ) → (q ≡ p) ⊎ (q ≡ p → ⊥) → link_in t' q ≡ link_in t q
      link q (inl e) = rw e (link_kept p entry t)
      link q (inr differ) = other_piece p entry t q differ 2 (piece_at + 8 * q + 4) (omega arith) (omega arith)

      apart : (k : ℕ) → (k < piece_at) ⊎ (rows_at ≤ k) → get_or t' k 0 ≡ get_or t k 0
      apart k (inl below) = piece_byte p entry t k (inl (omega arith)) (inl (omega arith))
      apart k (inr above) = piece_byte p entry t k (inr (omega arith)) (inr (omega arith))

  -- One more phrase, behind the others.
  pub held_phrase : (j : ℕ) → j ≡ length phrases → j < room_for_phrases → (phrase : Phrase) → phrase.number < 65536
      → Held before spots (phrases ++ phrase ∷ []) (with_phrase j phrase.number phrase.rights t)
  held_phrase j is room phrase small = record {
    long = length_with_phrase j number rights t ∙ held.long;
    delays = λ p inside. phrase_apart j number rights t 2 (piece_at + 8 * p) (inl (omega arith)) ∙ held.delays p inside;
    spans = λ p inside. phrase_apart j number rights t 2 (piece_at + 8 * p + 2) (inl (omega arith)) ∙ held.spans p inside;
    links = λ p inside. phrase_apart j number rights t 2 (piece_at + 8 * p + 4) (inl (omega arith)) ∙ held.links p inside;
    ranks = λ p inside. phrase_byte j number rights t (piece_at + 8 * p + 6) (inl (omega arith)) ∙ held.ranks p inside;
    ends = λ p inside. phrase_byte j number rights t (piece_at + 8 * p + 7) (inl (omega arith)) ∙ held.ends p inside;
    numbers = entry_more phrase_number phrases room_for_phrases (phrase_number_in t) (phrase_number_in t') phrase j is held.numbers
        (number_stored j number rights t whole_now room small) (λ i differ. other_phrase j number rights t i differ 2 (phrase_at + 4 * i) (omega arith) (omega arith));
    rights = entry_more phrase_rights phrases room_for_phrases (phrase_rights_in t) (phrase_rights_in t') phrase j is held.rights
        (rights_stored j number rights t whole_now room) (λ i differ. other_phrase_byte j number rights t i differ (phrase_at + 4 * i + 2) (omega arith) (omega arith));
    spares = λ i inside. spare i (eq_or_ne i j) ∙ held.spares i inside;
    elsewhere = λ k outside. apart k outside ∙ held.elsewhere k outside;
  }
    where
      number : ℕ
      number = phrase.number

      rights : ℕ
      rights = phrase.rights

      t' : List ℕ
      t' = with_phrase j number rights t

      spare : (i : ℕ) → (i ≡ j) ⊎ (i ≡ j → ⊥) → get_or t' (phrase_at + 4 * i + 3) 0 ≡ get_or t (phrase_at + 4 * i + 3) 0
      spare i (inl e) = phrase_byte j number rights t (phrase_at + 4 * i + 3) (inr (omega arith))
      spare i (inr differ) = other_phrase_byte j number rights t i differ (phrase_at + 4 * i + 3) (omega arith) (omega arith)

      apart : (k : ℕ) → (k < piece_at) ⊎ (rows_at ≤ k) → get_or t' k 0 ≡ get_or t k 0
      apart k (inl below) = phrase_byte j number rights t k (inl (omega arith))
      apart k (inr above) = phrase_byte j number rights t k (inr (omega arith))
