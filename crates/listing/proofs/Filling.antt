-- A form makes its line byte by byte: what one byte shows is written, and what the form behind it makes is left to write.
-- Assumes nothing.
use mathlib.Core.Path.{◌≡◌, sym, ap, ◌∙◌}
use mathlib.Core.Logic.{⊎_elim}
use mathlib.Core.List.{List, [], ◌∷◌, ◌++◌}
use Prim.Native.Nat.{ℕ, ◌+◌, ◌≤◌, ◌<◌}
use native.Mathlib.Numerals.{add-one}
use native.Mathlib.Omega.{arith}
use lib.ListN.{length, get_or, drop, length-append, drop_of_length-le}
use lib.Seq.{drop-cons}
use borrow.Author.Tests.{eq-eqb, ne_eqb}
use Rattle.lent.specs.Numbers.{with_bytes}
use Rattle.lent.proofs.Bytes.{length_with_bytes, with_bytes_split}
use Rattle.lent.proofs.Cases.{eq_or_ne}
use Rattle.listing.specs.Decimal.{digits}
use Rattle.listing.specs.Forms.{mark, shown, next_number, filled}

-- A mark shows the digits of the next number, and the number after it is next.
module _ (b n : ℕ) (h : b ≡ mark) where
  pub shown_number : shown b n ≡ digits n
  unfolding shown
  shown_number = rw (eq-eqb b mark h)

  pub next_after_mark : next_number b n ≡ n + 1
  unfolding next_number
  next_after_mark = rw (eq-eqb b mark h)

-- Any other byte shows itself, and the same number is next.
module _ (b n : ℕ) (h : b ≡ mark → ⊥) where
  pub shown_byte : shown b n ≡ b ∷ []
  unfolding shown
  shown_byte = rw (ne_eqb b mark h)

  pub next_after_byte : next_number b n ≡ n
  unfolding next_number
  next_after_byte = rw (ne_eqb b mark h)

next_most : (b k : ℕ) → next_number b k ≤ k + 1
next_most b k = ⊎_elim (λ e. rw (next_after_mark b k e) (omega arith)) (λ d. rw (next_after_byte b k d) (omega arith)) (eq_or_ne b mark)

-- What the byte i of a form shows, and which number is next behind it, where the one at k was next before.
abbrev pub shows_at : List ℕ → List ℕ → ℕ → ℕ → List ℕ
shows_at form numbers k i = shown (get_or form i 0) (get_or numbers k 0)

abbrev pub next_at : List ℕ → ℕ → ℕ → ℕ
next_at form k i = next_number (get_or form i 0) k

-- A form from its byte i on makes what that byte shows, and then what the form behind it makes.
filled_from
    : (form numbers : List ℕ) (k i : ℕ)
    → i < length form
    → filled (drop i form) numbers k ≡ shows_at form numbers k i ++ filled (drop (i + 1) form) numbers (next_at form k i)
unfolding filled
filled_from form numbers k i h =
    ap (λ (rest : List ℕ). filled rest numbers k) (drop-cons form i 0 h ∙ ap (λ (j : ℕ). get_or form i 0 ∷ drop j form) (sym (add-one i)))

-- A line that a form has made up to `end`, with the form's byte i and the number at k next: what the rest of the form makes, from `end`
-- on, completes it.
pub record Filling (start form numbers line : List ℕ) (end k i : ℕ) : Type 0 where
  pub within : i ≤ length form
  pub next : k ≤ i
  pub size : length line ≡ length start
  pub ends : end + length (filled (drop i form) numbers k) ≡ length (filled form numbers 0)
  pub makes : with_bytes line end (filled (drop i form) numbers k) ≡ with_bytes start 0 (filled form numbers 0)

-- One byte of the form is shown, which leaves the form behind it.
pub one_shown
    : {start form numbers line : List ℕ} {end k i : ℕ}
    → Filling start form numbers line end k i
    → i < length form
    → Filling start form numbers (with_bytes line end (shows_at form numbers k i)) (end + length (shows_at form numbers k i)) (next_at form k i) (i + 1)
one_shown {form = form} {numbers = numbers} {line = line} {end = end} {k = k} {i = i} f h =
    let now : List ℕ = shows_at form numbers k i in
    let rest : List ℕ = filled (drop (i + 1) form) numbers (next_at form k i) in
    let cut : filled (drop i form) numbers k ≡ now ++ rest = filled_from form numbers k i h in
    let long : length (filled (drop i form) numbers k) ≡ length now + length rest = ap length cut ∙ length-append now rest in
    record {
      within = omega arith;
      next = omega (arith, next_most (get_or form i 0) k);
      size = length_with_bytes line end now ∙ f.size;
      ends = omega arith;
      makes = sym (with_bytes_split line end now rest) ∙ ap (with_bytes line end) (sym cut) ∙ f.makes;
    }

-- So it is for the line, the end and the next number that one turn comes to.
pub turn_shown
    : {start form numbers line : List ℕ} {end k i : ℕ}
    → Filling start form numbers line end k i
    → i < length form
    → {number end' k' : ℕ} {line' : List ℕ}
    → number ≡ get_or numbers k 0
    → end' ≡ end + length (shown (get_or form i 0) number)
    → line' ≡ with_bytes line end (shown (get_or form i 0) number)
    → k' ≡ next_at form k i
    → Filling start form numbers line' end' k' (i + 1)
turn_shown f h number ends written next = rw (written, ends, next, number) (one_shown f h)

-- What is shown next has room in the line.
pub shown_room
    : {start form numbers line : List ℕ} {end k i : ℕ}
    → Filling start form numbers line end k i
    → i < length form
    → end + length (shows_at form numbers k i) ≤ length (filled form numbers 0)
shown_room f h = omega (arith, (one_shown f h).ends)

-- Past its last byte the form has made the line.
pub all_shown
    : {start form numbers line : List ℕ} {end k i : ℕ}
    → Filling start form numbers line end k i
    → length form ≤ i
    → (end ≡ length (filled form numbers 0)) × (line ≡ with_bytes start 0 (filled form numbers 0))
unfolding filled with_bytes
all_shown {form = form} {numbers = numbers} {line = line} {end = end} {k = k} {i = i} f h =
    let none : filled (drop i form) numbers k ≡ [] = ap (λ (left : List ℕ). filled left numbers k) (drop_of_length-le form h) in
    (omega (arith, ap length none), ap (with_bytes line end) (sym none) ∙ f.makes)
