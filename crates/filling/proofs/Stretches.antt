-- So many bytes after a place: one byte more stands behind them, and fewer are their start.
-- Assumes nothing.
use mathlib.Core.Path.{◌≡◌, ap, ◌∙◌}
use mathlib.Core.List.{List, [], ◌∷◌, ◌++◌}
use Prim.Native.Nat.{ℕ, ◌+◌, ◌≤◌, ◌<◌}
use native.Mathlib.Numerals.{add-one}
use native.Mathlib.Omega.{arith}
use lib.ListN.{length, get_or, take, drop, length-drop}
use lib.Seq.{length-take-le, take-suc, take-take, get_or-take, get_or-drop}
use Rattle.meaning.specs.Matching.{bytes_after}

module _ (text : List ℕ) (offset : ℕ) where
  pub length_after : (n : ℕ) → offset + n ≤ length text → length (bytes_after offset n text) ≡ n
  unfolding bytes_after
  length_after n h = length-take-le n (drop offset text) (simp length-drop (omega arith))

  pub after_further : (n : ℕ) → offset + n < length text → bytes_after offset (n + 1) text ≡ bytes_after offset n text ++ get_or text (offset + n) 0 ∷ []
  unfolding bytes_after
  after_further n h =
      rw add-one
      (take-suc (drop offset text) n 0 (simp length-drop (omega arith))
      ∙ ap {B = List ℕ} (λ a. take n (drop offset text) ++ a ∷ []) (get_or-drop offset text n 0))

  pub after_take : (n m : ℕ) → n ≤ m → take n (bytes_after offset m text) ≡ bytes_after offset n text
  unfolding bytes_after
  after_take n m h = take-take n m (drop offset text) h

  pub after_byte : (n i : ℕ) → i < n → get_or (bytes_after offset n text) i 0 ≡ get_or text (offset + i) 0
  unfolding bytes_after
  after_byte n i h = get_or-take n (drop offset text) i 0 h ∙ get_or-drop offset text i 0
