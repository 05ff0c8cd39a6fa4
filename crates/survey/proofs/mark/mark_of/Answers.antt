-- The loop keeps: marking on from here, over the bytes that are left, gives the mark of all. Assumes nothing.
use mathlib.Core.Path.{◌≡◌, refl, ◌∙◌}
use mathlib.Core.List.{List}
use Prim.Native.Nat.{ℕ, ◌+◌, ◌*◌, ◌%◌, ◌≤◌, ◌<◌}
use native.Mathlib.Numerals.{add-one}
use native.Mathlib.Omega.{arith}
use lib.ListN.{length, drop, get_or, drop_of_length-le}
use lib.Seq.{drop-cons}
use Rattle.tables.specs.Layout.{mark_from}
use Rattle.survey.proofs.mark.mark_of.Goals as goal

module _ (bytes : List ℕ) (i m : ℕ) where
  mark-more : i < length bytes → {n : ℕ} → n ≡ (257 * m + get_or bytes i 0 + 1) % 4294967296 → mark_from n (drop (i + 1) bytes) ≡ mark_from m (drop i bytes)
  unfolding mark_from
  mark-more more e = rw (add-one, drop-cons bytes i 0 more, e)

  mark-done : length bytes ≤ i → m ≡ mark_from m (drop i bytes)
  unfolding mark_from
  mark-done past = rw (drop_of_length-le bytes past)

pub loop-byte-init : goal.loop-byte-init
loop-byte-init c = (omega arith, refl)

pub loop-byte-preserved : goal.loop-byte-preserved
loop-byte-preserved c =
    let a = c.args in (
      c.marked-m.ensures.1,
      mark-more a.book.now c.loop-byte.byte-index c.loop-byte.m (omega arith) c.marked-m.ensures.0 ∙ c.loop-byte.invariant.1,
    )

pub returns : goal.returns
returns c =
    let a = c.args in
    mark-done a.book.now c.loop-byte.byte-index c.loop-byte.m (omega arith) ∙ c.loop-byte.invariant.1
