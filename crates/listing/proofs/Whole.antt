-- A line is written whole or not at all, by whether it fits; a text is written by storing the first byte of what is left of it.
-- Assumes nothing.
use mathlib.Core.Path.{◌≡◌, sym, ap, ap₂, ◌∙◌}
use mathlib.Core.List.{List, [], ◌∷◌, ◌++◌, append_assoc}
use Prim.Native.Nat.{ℕ, suc, ◌+◌, ◌≤◌, ◌<◌}
use native.Mathlib.Nat.{zero-add}
use native.Mathlib.Numerals.{add-one}
use native.Mathlib.Omega.{arith}
use lib.ListN.{length, set, take, drop, length-set, take-append-drop}
use lib.Seq.{ext_get_or, get_or-take, length-take-le, take-suc-set, drop-set-lt}
use borrow.Author.Tests.{le-leb, lt-leb}
use Rattle.lent.specs.Numbers.{with_bytes}
use Rattle.lent.proofs.Bytes.{length_with_bytes, byte_written}
use Rattle.listing.specs.Writing.{left, with_line}

-- A line that fits is written, and the next goes behind it.
pub line_fits
    : (out : List ℕ) (at : ℕ) (line : List ℕ)
    → at + length line ≤ length out
    → with_line out at line ≡ left (with_bytes out at line) (at + length line)
unfolding with_line
line_fits out at line h = rw (le-leb _ _ h)

-- A line that does not fit leaves all as it was.
pub line_short : (out : List ℕ) (at : ℕ) (line : List ℕ) → length out < at + length line → with_line out at line ≡ left out at
unfolding with_line
line_short out at line h = rw (lt-leb _ _ h)

-- A text that fits stands between the bytes before it and those behind it, which stay.
pub text_between
    : (out : List ℕ) (at : ℕ) (text : List ℕ)
    → at + length text ≤ length out
    → with_bytes out at text ≡ take at out ++ (text ++ drop (at + length text) out)
unfolding with_bytes
text_between out at [] h = sym (take-append-drop at out) ∙ ap (λ (k : ℕ). take at out ++ drop k out) (omega arith)
text_between out at (byte ∷ text) h =
    let stored : List ℕ = set out at byte in
    let front : take (at + 1) stored ≡ take at out ++ byte ∷ [] = ap (λ (k : ℕ). take k stored) (add-one at) ∙ take-suc-set out at byte (omega arith) in
    let behind : drop (at + 1 + length text) stored ≡ drop (at + suc (length text)) out
    = drop-set-lt (at + 1 + length text) out at byte (omega arith) ∙ ap (λ (k : ℕ). drop k out) (omega arith) in
    text_between stored (at + 1) text (rw length-set (omega arith))
    ∙ ap₂ (λ (a b : List ℕ). a ++ (text ++ b)) front behind
    ∙ append_assoc (take at out) (byte ∷ []) (text ++ drop (at + suc (length text)) out)

-- A line written at the start of a list is the first bytes there.
pub first_bytes
    : (s line : List ℕ) {t : List ℕ} {n : ℕ}
    → length line ≤ length s
    → n ≡ length line
    → t ≡ with_bytes s 0 line
    → take n t ≡ line
first_bytes s line room e w =
    let new : List ℕ = with_bytes s 0 line in
    let size : length (take (length line) new) ≡ length line = length-take-le (length line) new (rw length_with_bytes room) in
    ap₂ take e w
    ∙ ext_get_or
    0
    (take (length line) new)
    line
    size
    (λ k h. get_or-take (length line) new k 0 (omega arith) ∙ rw zero-add at (byte_written s 0 line k (omega arith) (omega arith)))
