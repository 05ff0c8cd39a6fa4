-- The numbers of the head stand side by side, so each is read back as it was written, and no byte beside them changes.
-- Assumes nothing.
use mathlib.Core.Path.{◌≡◌, ◌∙◌}
use mathlib.Core.Logic.{◌⊎◌, inl, inr}
use mathlib.Core.List.{List, [], ◌∷◌}
use Prim.Native.Nat.{ℕ, ◌≤◌, ◌<◌}
use native.Mathlib.Omega.{arith}
use lib.ListN.{length, get_or}
use Rattle.lent.specs.Numbers.{number_at, with_number}
use Rattle.lent.proofs.Numbers.{length_with_number, number_written, number_apart, number_byte_apart}
use Rattle.tables.specs.Layout.{tag_at, states_at, dense_at, pieces_at, phrases_at, mark_at, spare_at, room_for_states, room_for_pieces, room_for_phrases, tables_tag, mark_from}
use Rattle.tables.specs.Reads.{Whole, state_count_in, piece_count_in, phrase_count_in, mark_in}
use Rattle.builder.specs.Passes.{with_header}

-- A mark has 32 bits.
pub mark_small : (bytes : List ℕ) (m : ℕ) → m < 4294967296 → mark_from m bytes < 4294967296
unfolding mark_from
mark_small [] m l = l
mark_small (b ∷ rest) m l = mark_small rest _ (omega arith)

-- Five numbers stored one after the other: three of 2 bytes, then two of 8.
pub five_stored : (t t₁ t₂ t₃ t₄ t₅ : List ℕ) (a b c d e u v w x y : ℕ) → t₁ ≡ with_number 2 t a u → t₂ ≡ with_number 2 t₁ b v → t₃ ≡ with_number 2 t₂ c w
    → t₄ ≡ with_number 8 t₃ d x → t₅ ≡ with_number 8 t₄ e y
    → t₅ ≡ with_number 8 (with_number 8 (with_number 2 (with_number 2 (with_number 2 t a u) b v) c w) d x) e y
five_stored t t₁ t₂ t₃ t₄ t₅ a b c d e u v w x y first second third fourth fifth = rw (fifth, fourth, third, second, first)

module _ (states pieces phrases mark : ℕ) (t : List ℕ) where
  abbrev headed : List ℕ
  headed = with_header states pieces phrases mark t

  pub header_long : length headed ≡ length t
  unfolding with_header
  header_long =
      length_with_number 8 _ tag_at _ ∙ length_with_number 8 _ mark_at mark ∙ length_with_number 2 _ phrases_at phrases
      ∙ length_with_number 2 _ pieces_at pieces ∙ length_with_number 2 t states_at states

  -- Between the counts, and behind the head.
  pub header_kept : (k : ℕ) → ((dense_at ≤ k) × (k < pieces_at)) ⊎ (spare_at ≤ k) → get_or headed k 0 ≡ get_or t k 0
  unfolding with_header
  header_kept k (inl b) =
      number_byte_apart 8 _ tag_at _ k (inr (omega arith)) ∙ number_byte_apart 8 _ mark_at mark k (inl (omega arith))
      ∙ number_byte_apart 2 _ phrases_at phrases k (inl (omega arith)) ∙ number_byte_apart 2 _ pieces_at pieces k (inl (omega arith))
      ∙ number_byte_apart 2 t states_at states k (inr (omega arith))
  header_kept k (inr b) =
      number_byte_apart 8 _ tag_at _ k (inr (omega arith)) ∙ number_byte_apart 8 _ mark_at mark k (inr (omega arith))
      ∙ number_byte_apart 2 _ phrases_at phrases k (inr (omega arith)) ∙ number_byte_apart 2 _ pieces_at pieces k (inr (omega arith))
      ∙ number_byte_apart 2 t states_at states k (inr (omega arith))

  module _ (whole : Whole t) where
    abbrev counted1 : List ℕ
    counted1 = with_number 2 t states_at states

    abbrev counted2 : List ℕ
    counted2 = with_number 2 counted1 pieces_at pieces

    abbrev counted3 : List ℕ
    counted3 = with_number 2 counted2 phrases_at phrases

    abbrev marked : List ℕ
    marked = with_number 8 counted3 mark_at mark

    long1 : length counted1 ≡ length t
    long1 = length_with_number 2 t states_at states

    long2 : length counted2 ≡ length t
    long2 = length_with_number 2 counted1 pieces_at pieces ∙ long1

    long3 : length counted3 ≡ length t
    long3 = length_with_number 2 counted2 phrases_at phrases ∙ long2

    long4 : length marked ≡ length t
    long4 = length_with_number 8 counted3 mark_at mark ∙ long3

    pub tag_written : number_at 8 headed tag_at ≡ tables_tag
    unfolding with_header tables_tag
    tag_written = number_written 8 marked tag_at _ (omega (arith, long4)) (omega arith)

    pub mark_written : mark < 4294967296 → mark_in headed ≡ mark
    unfolding with_header
    mark_written small =
        number_apart 8 8 marked tag_at _ mark_at (inr (omega arith))
        ∙ number_written 8 counted3 mark_at mark (omega (arith, long3)) (omega arith)

    pub phrases_written : phrases ≤ room_for_phrases → phrase_count_in headed ≡ phrases
    unfolding with_header
    phrases_written small =
        number_apart 2 8 marked tag_at _ phrases_at (inr (omega arith)) ∙ number_apart 2 8 counted3 mark_at mark phrases_at (inl (omega arith))
        ∙ number_written 2 counted2 phrases_at phrases (omega (arith, long2)) (omega arith)

    pub pieces_written : pieces ≤ room_for_pieces → piece_count_in headed ≡ pieces
    unfolding with_header
    pieces_written small =
        number_apart 2 8 marked tag_at _ pieces_at (inr (omega arith)) ∙ number_apart 2 8 counted3 mark_at mark pieces_at (inl (omega arith))
        ∙ number_apart 2 2 counted2 phrases_at phrases pieces_at (inl (omega arith))
        ∙ number_written 2 counted1 pieces_at pieces (omega (arith, long1)) (omega arith)

    pub states_written : states ≤ room_for_states → state_count_in headed ≡ states
    unfolding with_header
    states_written small =
        number_apart 2 8 marked tag_at _ states_at (inr (omega arith)) ∙ number_apart 2 8 counted3 mark_at mark states_at (inl (omega arith))
        ∙ number_apart 2 2 counted2 phrases_at phrases states_at (inl (omega arith)) ∙ number_apart 2 2 counted1 pieces_at pieces states_at (inl (omega arith))
        ∙ number_written 2 t states_at states (omega arith) (omega arith)
