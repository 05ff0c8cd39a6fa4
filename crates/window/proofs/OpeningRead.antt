-- Windows that open at a place replace the closing places of their pieces, each in bytes of its own, and change nothing else.
-- Assumes nothing.
use mathlib.Core.Path.{◌≡◌, refl, ap, ◌∙◌}
use mathlib.Core.Logic.{inl, inr, ⊎_elim}
use mathlib.Core.Bool.{Bool, true, false, cond, ◌&&◌}
use mathlib.Core.List.{List}
use Prim.Native.Nat.{ℕ, zero, suc, ◌+◌, ◌*◌, ◌^◌, ◌≤◌, ◌<◌}
use native.Mathlib.Omega.{arith}
use lib.Dec.{ltb, eqb, lit<}
use borrow.Author.Tests.{ltb-true, lt-ltb, le-ltb}
use Rattle.lent.specs.Numbers.{Bytes}
use Rattle.lent.proofs.Cases.{lt_or_le, eq_or_ne}
use Rattle.lent.proofs.Numbers.{number_written, number_apart, number_bytes_kept, number_below}
use Rattle.meaning.proofs.Truth.{same_truth}
use Rattle.tables.specs.Layout.{piece_at, room_for_pieces}
use Rattle.tables.specs.Reads.{span_in}
use Rattle.running.specs.Waiting.{never}
use Rattle.running.specs.Layout.{closing_at}
use Rattle.running.specs.Reads.{WholeRunning, closing_place_in}
use Rattle.window.specs.Opening.{open_span, closes_after, with_closing, window_opened, windows_opened}
use Rattle.window.proofs.Opening.{length_windows}

-- ── Windows that open ──

pub ltb_further : (g p : ℕ) → (g ≡ p → ⊥) → ltb g (suc p) ≡ ltb g p
ltb_further g p apart = same_truth (ltb g (suc p)) (ltb g p) (
  λ u. let l : g < suc p = ltb-true g (suc p) u in lt-ltb g p (omega arith),
  λ u. let l : g < p = ltb-true g p u in lt-ltb g (suc p) (omega arith),
)

module _ (t : List ℕ) (place : ℕ) (test : ℕ → Bool) where
  pub bytes_opened : (m : List ℕ) (n : ℕ) → Bytes m → Bytes (windows_opened t place test m n)
  unfolding windows_opened window_opened with_closing
  bytes_opened m zero bytes = bytes
  bytes_opened m (suc p) bytes = go (test p) (bytes_opened m p bytes)
    where
      go : (v : Bool) → Bytes (windows_opened t place test m p)
          → Bytes (cond v (window_opened t place (windows_opened t place test m p) p) (windows_opened t place test m p))
      go true before = number_bytes_kept 8 (windows_opened t place test m p) (closing_at + 8 * p) _ before
      go false before = before

  module _ (bytes : Bytes t) (early : place < 4294967296) (m : List ℕ) (whole : WholeRunning m) where
    -- A closing place fits into its 8 bytes.
    closes_fit : (p : ℕ) → closes_after (span_in t p) place < 256 ^ 8
    unfolding closes_after never
    closes_fit p = go (eqb (span_in t p) open_span)
      where
        go : (v : Bool) → cond v never (place + span_in t p) < 256 ^ 8
        go true = lit< tt
        go false = omega (arith, number_below 2 t (piece_at + 8 * p + 2) bytes)

    pub closing_opened : (n : ℕ) → n ≤ room_for_pieces → (g : ℕ) → g < room_for_pieces
        → closing_place_in (windows_opened t place test m n) g ≡ cond (ltb g n && test g) (closes_after (span_in t g) place) (closing_place_in m g)
    unfolding windows_opened window_opened with_closing
    closing_opened zero room g hg = rw (le-ltb g 0 (omega arith))
    closing_opened (suc p) room g hg = ⊎_elim
        (λ (e : g ≡ p). rw (e, lt-ltb p (suc p) (omega arith)) (same (test p) (closing_opened p (omega arith) p (omega arith))))
        (λ (d : g ≡ p → ⊥). rw (ltb_further g p d) (other (test p) d ∙ closing_opened p (omega arith) g hg))
        (eq_or_ne g p)
      where
        before : List ℕ
        before = windows_opened t place test m p

        same : (v : Bool) → closing_place_in before p ≡ cond (ltb p p && test p) (closes_after (span_in t p) place) (closing_place_in m p)
            → closing_place_in (cond v (window_opened t place before p) before) p ≡ cond v (closes_after (span_in t p) place) (closing_place_in m p)
        same true ih = number_written 8 before (closing_at + 8 * p) (closes_after (span_in t p) place) (rw (length_windows t place test m p) (omega arith)) (closes_fit p)
        same false ih = ih ∙ ap (λ v. cond (v && test p) (closes_after (span_in t p) place) (closing_place_in m p)) (le-ltb p p (omega arith))

        other : (v : Bool) → (g ≡ p → ⊥) → closing_place_in (cond v (window_opened t place before p) before) g ≡ closing_place_in before g
        other true d = number_apart 8 8 before (closing_at + 8 * p) _ (closing_at + 8 * g)
            (⊎_elim (λ (l : g < p). inl (omega arith)) (λ (l : p ≤ g). inr (omega arith)) (lt_or_le g p))
        other false d = refl
