-- A store into one entry is seen in that entry and in no other, since no two entries share a byte. Assumes nothing.
use mathlib.Core.Path.{◌≡◌, refl, ◌∙◌}
use mathlib.Core.Logic.{◌⊎◌, inl, inr, ⊎_elim}
use mathlib.Core.Bool.{Bool, true, false, cond}
use mathlib.Core.List.{List}
use Prim.Native.Nat.{ℕ, ◌+◌, ◌*◌, ◌≤◌, ◌<◌}
use native.Mathlib.Omega.{arith}
use lib.Dec.{leb}
use lib.ListN.{length, get_or, set, length-set}
use lib.Seq.{get_or-set_same, get_or-set_other}
use Rattle.lent.specs.Numbers.{Apart}
use Rattle.lent.proofs.Cases.{lt_or_le}
use Rattle.lent.proofs.Numbers.{length_with_number, number_written, number_byte_apart, number_apart, number_agree}
use Rattle.meaning.specs.Automaton.{nonempty}
use Rattle.tables.specs.Endings.{link_to, head_of}
use Rattle.tables.specs.Layout.{info_at, out_at, fail_at, piece_at, room_for_states, room_for_pieces}
use Rattle.tables.specs.Reads.{Whole, link_in, fail_in, ending_in, first_link_in}
use Rattle.tables.proofs.Meant.{link_head}
use Rattle.endings.specs.Filled.{with_ending, with_link}
use Rattle.endings.specs.Right.{Elsewhere}
use Rattle.endings.specs.Progress.{Shows}

-- ── A state's endings ──

pub shows_ending : (t : List ℕ) (i : ℕ) (pieces : List ℕ) → Shows t i pieces → ending_in t i ≡ nonempty pieces
unfolding ending_in
shows_ending t i pieces h = rw h.info (go (nonempty pieces))
  where
    go : (v : Bool) → leb 128 (cond v 128 0) ≡ v
    go true = refl
    go false = refl

pub shows_link : (t : List ℕ) (i : ℕ) (pieces : List ℕ) → Shows t i pieces → first_link_in t i ≡ link_to pieces
unfolding first_link_in
shows_link t i pieces h = rw (shows_ending t i pieces h, h.out) (link_head pieces)

-- ── Stores ──

module _ (t : List ℕ) (whole : Whole t) where
  module _ (i : ℕ) (room : i < room_for_states) (out info : ℕ) where
    pub length_ending : length (with_ending t i out info) ≡ length t
    unfolding with_ending
    length_ending = simp length-set

    pub ending_new : (pieces : List ℕ) → out ≡ head_of pieces → info ≡ cond (nonempty pieces) 128 0 → Shows (with_ending t i out info) i pieces
    unfolding with_ending
    ending_new pieces o v = record {
      info = get_or-set_same (set t (out_at + i) out) (info_at + i) info 0 (simp length-set (omega arith)) ∙ v;
      out = get_or-set_other (set t (out_at + i) out) (info_at + i) (out_at + i) info 0 (λ e. omega arith) ∙ get_or-set_same t (out_at + i) out 0 (omega arith) ∙ o;
    }

    ending_apart : (k : ℕ) → (k ≡ out_at + i → ⊥) → (k ≡ info_at + i → ⊥) → get_or (with_ending t i out info) k 0 ≡ get_or t k 0
    unfolding with_ending
    ending_apart k a b = get_or-set_other (set t (out_at + i) out) (info_at + i) k info 0 b ∙ get_or-set_other t (out_at + i) k out 0 a

    pub ending_other : (j : ℕ) → j < room_for_states → (j ≡ i → ⊥) → (pieces : List ℕ) → Shows t j pieces → Shows (with_ending t i out info) j pieces
    ending_other j l ne pieces h = record {
      info = ending_apart (info_at + j) (λ e. omega arith) (λ e. ne (omega arith)) ∙ h.info;
      out = ending_apart (out_at + j) (λ e. ne (omega arith)) (λ e. omega arith) ∙ h.out;
    }

    pub ending_link : (q : ℕ) → q < room_for_pieces → link_in (with_ending t i out info) q ≡ link_in t q
    ending_link q l = number_agree 2 (with_ending t i out info) t (piece_at + 8 * q + 4) (λ k a b. ending_apart k (λ e. omega arith) (λ e. omega arith))

    pub ending_elsewhere : (k : ℕ) → Elsewhere k → get_or (with_ending t i out info) k 0 ≡ get_or t k 0
    ending_elsewhere k h = ⊎_elim
        (λ (l : k < info_at). ending_apart k (λ e. omega arith) (λ e. omega arith))
        (λ l. ending_apart k (λ e. omega arith) (λ e. omega arith))
        h.states

  module _ (p : ℕ) (room : p < room_for_pieces) (link : ℕ) where
    pub length_link : length (with_link t p link) ≡ length t
    unfolding with_link
    length_link = length_with_number 2 t _ link

    pub link_new : link < 65536 → link_in (with_link t p link) p ≡ link
    unfolding with_link
    link_new small = number_written 2 t _ link (omega arith) small

    pub link_other : (q : ℕ) → q < room_for_pieces → (q ≡ p → ⊥) → link_in (with_link t p link) q ≡ link_in t q
    unfolding with_link
    link_other q l ne = number_apart 2 2 t _ link _ (side (lt_or_le q p))
      where
        side : (q < p) ⊎ (p ≤ q) → Apart (piece_at + 8 * q + 4) 2 (piece_at + 8 * p + 4) 2
        side (inl a) = inl (omega arith)
        side (inr a) = inr (omega (arith, ne))

    pub link_shows : (j : ℕ) → j < room_for_states → (pieces : List ℕ) → Shows t j pieces → Shows (with_link t p link) j pieces
    unfolding with_link
    link_shows j l pieces h = record {
      info = number_byte_apart 2 t _ link (info_at + j) (inl (omega arith)) ∙ h.info;
      out = number_byte_apart 2 t _ link (out_at + j) (inl (omega arith)) ∙ h.out;
    }

    pub link_elsewhere : (k : ℕ) → Elsewhere k → get_or (with_link t p link) k 0 ≡ get_or t k 0
    unfolding with_link
    link_elsewhere k h = number_byte_apart 2 t _ link k (⊎_elim (λ (a : k < piece_at + 8 * p + 4). inl (omega arith)) (λ a. inr (omega arith)) (h.pieces p room))

-- ── Failures ──

-- Where nothing changed elsewhere, the failures are as they were.
pub fail_kept : (t now : List ℕ) → ((k : ℕ) → Elsewhere k → get_or now k 0 ≡ get_or t k 0) → (i : ℕ) → i < room_for_states → fail_in now i ≡ fail_in t i
fail_kept t now kept i room = number_agree 2 now t (fail_at + 2 * i) (λ k a b. kept k (record { states = inr (omega arith); pieces = λ p l. inl (omega arith) }))
