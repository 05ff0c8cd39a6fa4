-- The links are followed one by one: what the pieces from here on come to, from what has come so far, is what all of them come to.
-- Assumes nothing.
use mathlib.Core.Path.{◌≡◌, refl, sym, ap, ◌∙◌}
use mathlib.Core.Bool.{Bool, true, false, cond}
use mathlib.Core.List.{List, [], ◌∷◌}
use Prim.Native.Nat.{ℕ, zero, suc, ◌+◌, ◌-◌, ◌%◌, ◌≤◌, ◌<◌}
use native.Mathlib.Numerals.{add-one}
use native.Mathlib.Omega.{arith}
use lib.Dec.{ltb}
use lib.ListN.{length}
use Rattle.tables.specs.Endings.{chain}
use Rattle.tables.specs.Layout.{room_for_pieces}
use Rattle.tables.specs.Reads.{first_link_in, rank_in, onward_in, last_in}
use Rattle.marks.specs.Marked.{no_marks, with_mark}
use Rattle.marks.specs.declared.Marks.{Marks}
use Rattle.running.specs.Reads.{closing_place_in}
use Rattle.window.specs.Waiting.{with_waiting_from}
use Rattle.window.specs.Ending.{most_looked, pieces_in, Ended, piece_ended, pieces_ended}
use Rattle.window.proofs.Waiting.{length_waiting_from}

-- ── One piece ──

module _ (t : List ℕ) (place : ℕ) (marks : Marks) (m : List ℕ) (p : ℕ) where
  -- What has come so far.
  abbrev before : Ended
  before = record { marks = marks; memory = m }

  -- The next piece, which waits from the place.
  abbrev pub following : List ℕ
  following = with_waiting_from t m ((p + 1) % room_for_pieces) place

  pub ended_past : ltb (closing_place_in m p) place ≡ true → piece_ended t place before p ≡ before
  unfolding piece_ended
  ended_past past = rw past

  pub ended_last : ltb (closing_place_in m p) place ≡ false → last_in t p ≡ true → piece_ended t place before p ≡ record { marks = with_mark marks (rank_in t p); memory = m }
  unfolding piece_ended
  ended_last inside last = rw (inside, last)

  pub ended_more : ltb (closing_place_in m p) place ≡ false → last_in t p ≡ false → piece_ended t place before p ≡ record { marks = marks; memory = following }
  unfolding piece_ended
  ended_more inside more = rw (inside, more)

  pub length_ended : length (piece_ended t place before p).memory ≡ length m
  unfolding piece_ended
  length_ended = go (ltb (closing_place_in m p) place) (last_in t p)
    where
      go : (u v : Bool) → length (cond u before (cond v (record { marks = with_mark marks (rank_in t p); memory = m }) (record { marks = marks; memory = following }))).memory ≡ length m
      go true v = refl
      go false true = refl
      go false false = length_waiting_from t m ((p + 1) % room_for_pieces) place

-- ── The pieces of a state ──

pub length_pieces : (t : List ℕ) (place : ℕ) (pieces : List ℕ) (ended : Ended) → length (pieces_ended t place ended pieces).memory ≡ length ended.memory
unfolding pieces_ended
length_pieces t place [] ended = refl
length_pieces t place (p ∷ rest) ended =
    length_pieces t place rest (piece_ended t place ended p) ∙ length_ended t place ended.marks ended.memory p

pub chain_none : (onward : ℕ → ℕ) (most link : ℕ) → link ≡ 0 → chain onward most link ≡ []
unfolding chain
chain_none onward zero link e = refl
chain_none onward (suc most) link e = rw e

pub chain_more : (onward : ℕ → ℕ) (most link p : ℕ) → link ≡ p + 1 → chain onward (suc most) link ≡ p ∷ chain onward most (onward p)
unfolding chain
chain_more onward most link p some = rw (some, add-one)

-- Where the walk along the links stands: it has looked at some pieces, and those from a link on make up what comes of all.
pub record Walk (t : List ℕ) (place : ℕ) (m₀ : List ℕ) (goal : Ended) (m : List ℕ) (marks : Marks) (link looked : ℕ) : Type 0 where
  pub within : looked ≤ most_looked
  pub low : link ≤ room_for_pieces
  pub long : length m ≡ length m₀
  pub rest : pieces_ended t place (record { marks = marks; memory = m }) (chain (onward_in t) (most_looked - looked) link) ≡ goal

module _ (t : List ℕ) (place : ℕ) (m₀ : List ℕ) where
  -- What the pieces from a link on come to at first.
  abbrev pub whole : Marks → ℕ → Ended
  whole marks link = pieces_ended t place (record { marks = marks; memory = m₀ }) (chain (onward_in t) most_looked link)

  pub walk_start : (marks : Marks) (link : ℕ) → link ≤ room_for_pieces → Walk t place m₀ (whole marks link) m₀ marks link 0
  walk_start marks link low = record { within = omega arith; low = low; long = refl; rest = refl }

  pub walk_whole : (state : ℕ) (marks : Marks) (link : ℕ) → marks ≡ no_marks → link ≡ first_link_in t state
      → whole marks link ≡ pieces_ended t place (record { marks = no_marks; memory = m₀ }) (pieces_in t state)
  unfolding pieces_in
  walk_whole state marks link e f = rw (e, f)

  module _ {goal : Ended} {m : List ℕ} {marks : Marks} {link looked : ℕ} (walk : Walk t place m₀ goal m marks link looked) where
    -- What has come so far, and what the pieces of a chain then come to.
    abbrev so_far : Ended
    so_far = record { marks = marks; memory = m }

    abbrev from : List ℕ → Ended
    from pieces = pieces_ended t place so_far pieces

    pub walk_next : looked < most_looked → (p : ℕ) → link ≡ p + 1
        → (m' : List ℕ) (marks' : Marks) → record { marks = marks'; memory = m' } ≡ piece_ended t place so_far p
        → (link' : ℕ) → link' ≡ onward_in t p → link' ≤ room_for_pieces → Walk t place m₀ goal m' marks' link' (looked + 1)
    unfolding pieces_ended
    walk_next more p some m' marks' ended link' e low = record {
      within = omega arith;
      low = low;
      long = ap (λ (x : Ended). length x.memory) ended ∙ length_ended t place marks m p ∙ walk.long;
      rest = ap (λ (x : Ended). pieces_ended t place x later) ended ∙ sym (ap from met) ∙ walk.rest;
    }
      where
        later : List ℕ
        later = chain (onward_in t) (most_looked - (looked + 1)) link'

        met : chain (onward_in t) (most_looked - looked) link ≡ p ∷ later
        met =
            let z : most_looked - looked ≡ suc (most_looked - (looked + 1)) = omega arith in
            ap (λ (n : ℕ). chain (onward_in t) n link) z
            ∙ chain_more (onward_in t) (most_looked - (looked + 1)) link p some
            ∙ ap (λ (l : ℕ). p ∷ chain (onward_in t) (most_looked - (looked + 1)) l) (sym e)

    pub walk_stop : link ≡ 0 → so_far ≡ goal
    unfolding pieces_ended
    walk_stop e = sym (ap from (chain_none (onward_in t) (most_looked - looked) link e)) ∙ walk.rest

    pub walk_end : most_looked ≤ looked → so_far ≡ goal
    unfolding pieces_ended chain
    walk_end past =
        let z : most_looked - looked ≡ 0 = omega arith in
        sym (ap (λ (n : ℕ). from (chain (onward_in t) n link)) z) ∙ walk.rest
