-- A number below 2 ^ 64 has at most 20 digits, so a line takes at most its words, 20 bytes for each number, and the byte at its end.
-- Assumes nothing.
use mathlib.Core.Logic.{⊎_elim}
use Prim.Native.Nat.{ℕ, zero, suc, ◌/◌, ◌^◌, ◌≤◌, ◌<◌}
use native.Mathlib.Nat.{pow-suc, div-lt_iff_lt-mul}
use native.Mathlib.Omega.{arith}
use lib.Dec.{lit<}
use lib.ListN.{length, length-append}
use Rattle.lent.proofs.Cases.{lt_or_le}
use Rattle.listing.specs.Decimal.{digits}
use Rattle.listing.specs.Lines.{book_line, refused_line, hit_line, end_line, no_statement, letter_line, longest_line}
use Rattle.listing.proofs.Digits.{length_small, length_big}

-- A number below 10 ^ (k + 1) has at most k + 1 digits.
pub digits_below : (k n : ℕ) → n < 10 ^ suc k → length (digits n) ≤ suc k
digits_below zero n h = omega (arith, length_small n h)
digits_below (suc k) n h =
    let tenth : length (digits (n / 10)) ≤ suc k = digits_below k (n / 10) ((div-lt_iff_lt-mul (lit< tt)).1 (rw pow-suc at h)) in
    ⊎_elim (λ a. omega (arith, length_small n a)) (λ a. omega (arith, length_big n a)) (lt_or_le n 10)

pub digits_most : (n : ℕ) → n < 2 ^ 64 → length (digits n) ≤ 20
digits_most n h = digits_below 19 n (omega arith)

-- ── Every line fits into the longest ──

pub book_line_most : (n o p : ℕ) → n < 2 ^ 64 → o < 2 ^ 64 → p < 2 ^ 64 → length (book_line n o p) ≤ longest_line
unfolding book_line
book_line_most n o p a b c = simp length-append (omega (arith, digits_most n a, digits_most o b, digits_most p c))

pub refused_line_most : (n o : ℕ) → n < 2 ^ 64 → o < 2 ^ 64 → length (refused_line n o) ≤ longest_line
unfolding refused_line
refused_line_most n o a b = simp length-append (omega (arith, digits_most n a, digits_most o b))

pub hit_line_most : (e n r : ℕ) → e < 2 ^ 64 → n < 2 ^ 64 → r < 2 ^ 64 → length (hit_line e n r) ≤ longest_line
unfolding hit_line
hit_line_most e n r a b c = simp length-append (omega (arith, digits_most e a, digits_most n b, digits_most r c))

pub end_line_most : (t h s : ℕ) → t < 2 ^ 64 → h < 2 ^ 64 → s < 2 ^ 64 → length (end_line t h s) ≤ longest_line
unfolding end_line
end_line_most t h s a b c = simp length-append (omega (arith, digits_most t a, digits_most h b, digits_most s c))

pub no_statement_most : length no_statement ≤ longest_line
unfolding no_statement
no_statement_most = omega arith

pub letter_line_most : (t : ℕ) → t < 2 ^ 64 → length (letter_line t) ≤ longest_line
unfolding letter_line
letter_line_most t a = simp length-append (omega (arith, digits_most t a))
