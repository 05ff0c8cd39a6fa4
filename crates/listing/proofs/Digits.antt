-- A number below ten is one digit, and any other is the digits of a tenth of it and one more: each law goes by these two cases.
-- Assumes nothing.
use mathlib.Core.Path.{◌≡◌, refl, sym, ap, ap₂, ◌∙◌}
use mathlib.Core.Logic.{⊎_elim}
use mathlib.Core.List.{List, [], ◌∷◌, ◌++◌, append-nil}
use Prim.Native.Nat.{ℕ, zero, suc, ◌+◌, ◌-◌, ◌*◌, ◌/◌, ◌%◌, ◌≤◌, ◌<◌}
use native.Mathlib.Omega.{arith}
use lib.ListN.{length, get_or, set, length-append, get_or-append}
use lib.Seq.{append_snoc, get_or_at}
use borrow.Author.Tests.{lt-ltb, le-ltb}
use Rattle.lent.specs.Numbers.{with_bytes}
use Rattle.lent.proofs.Bytes.{with_bytes_split}
use Rattle.lent.proofs.Cases.{lt_or_le}
use Rattle.listing.specs.Decimal.{digit, digits_up_to, digits, IsDigit, AllDigits, value_after, value_of}

small : (f n : ℕ) → n < 10 → digits_up_to f n ≡ digit n ∷ []
unfolding digits_up_to
small zero n h = refl
small (suc f) n h = rw (lt-ltb n 10 h, digits_up_to)

big : (f n : ℕ) → 10 ≤ n → digits_up_to (suc f) n ≡ digits_up_to f (n / 10) ++ digit (n % 10) ∷ []
unfolding digits_up_to
big f n h = rw (le-ltb n 10 h, digits_up_to)

-- A greater bound on the digits makes no difference.
enough : (f g n : ℕ) → n ≤ f → n ≤ g → digits_up_to f n ≡ digits_up_to g n
enough zero g n a b = small zero n (omega arith) ∙ sym (small g n (omega arith))
enough (suc f) zero n a b = small (suc f) n (omega arith) ∙ sym (small zero n (omega arith))
enough (suc f) (suc g) n a b =
    let tenth : digits_up_to f (n / 10) ≡ digits_up_to g (n / 10) = enough f g (n / 10) (omega arith) (omega arith) in
    ⊎_elim
    (λ h. small (suc f) n h ∙ sym (small (suc g) n h))
    (λ h. big f n h ∙ ap (λ (ds : List ℕ). ds ++ digit (n % 10) ∷ []) tenth ∙ sym (big g n h))
    (lt_or_le n 10)

-- A number below ten is its own digit.
pub digits_small : (n : ℕ) → n < 10 → digits n ≡ digit n ∷ []
unfolding digits
digits_small n h = small n n h

-- Any other is the digits of a tenth of it, and then its last digit.
pub digits_big : (n : ℕ) → 10 ≤ n → digits n ≡ digits (n / 10) ++ digit (n % 10) ∷ []
unfolding digits
digits_big zero h = absurd (omega arith)
digits_big (suc m) h =
    big m (suc m) h
    ∙ ap (λ (ds : List ℕ). ds ++ digit (suc m % 10) ∷ []) (enough m (suc m / 10) (suc m / 10) (omega arith) (omega arith))

-- What holds of the numbers below ten, and of a number where it holds of a tenth of it, holds of all.
by_tens : (P : ℕ → Type 0) → ((n : ℕ) → n < 10 → P n) → ((n : ℕ) → 10 ≤ n → P (n / 10) → P n) → (n : ℕ) → P n
by_tens P one more n = go n n (omega arith)
  where
    go : (f n : ℕ) → n ≤ f → P n
    go zero n h = one n (omega arith)
    go (suc f) n h =
        let tenth : P (n / 10) = go f (n / 10) (omega arith) in
        ⊎_elim (λ a. one n a) (λ a. more n a tenth) (lt_or_le n 10)

-- ── How many digits ──

pub length_small : (n : ℕ) → n < 10 → length (digits n) ≡ 1
length_small n h = rw (digits_small n h)

pub length_big : (n : ℕ) → 10 ≤ n → length (digits n) ≡ length (digits (n / 10)) + 1
length_big n h = rw (digits_big n h) (simp length-append)

some_digit : (n : ℕ) → 0 < length (digits n)
some_digit = by_tens (λ n. 0 < length (digits n)) (λ n h. omega (arith, length_small n h)) (λ n h tenth. omega (arith, length_big n h))

-- ── What the digits are ──

-- The first digit is 0 for the number 0 alone.
pub no_leading_zero : (n : ℕ) → get_or (digits n) 0 0 ≡ digit 0 → n ≡ 0
no_leading_zero = by_tens (λ n. get_or (digits n) 0 0 ≡ digit 0 → n ≡ 0) one more
  where
    one : (n : ℕ) → n < 10 → get_or (digits n) 0 0 ≡ digit 0 → n ≡ 0
    one n h e = omega (arith, rw (digits_small n h) at e)

    more : (n : ℕ) → 10 ≤ n → (get_or (digits (n / 10)) 0 0 ≡ digit 0 → n / 10 ≡ 0) → get_or (digits n) 0 0 ≡ digit 0 → n ≡ 0
    more n h tenth e =
        let first : get_or (digits n) 0 0 ≡ get_or (digits (n / 10)) 0 0 = rw (digits_big n h) (get_or-append (digits (n / 10)) _ 0 0 (some_digit (n / 10))) in
        absurd (omega (arith, tenth (sym first ∙ e)))

-- Every byte is a digit's.
pub digits_all : (n : ℕ) → AllDigits (digits n)
digits_all = by_tens (λ n. AllDigits (digits n)) one more
  where
    one : (n : ℕ) → n < 10 → AllDigits (digits n)
    one n h zero s = rw (digits_small n h) (omega arith)
    one n h (suc k) s = absurd (omega (arith, length_small n h))

    more : (n : ℕ) → 10 ≤ n → AllDigits (digits (n / 10)) → AllDigits (digits n)
    more n h tenth k s =
        ⊎_elim
        (λ a. rw (digits_big n h, get_or-append (digits (n / 10)) (digit (n % 10) ∷ []) 0 k a) (tenth k a))
        (λ (a : length (digits (n / 10)) ≤ k). rw (digits_big n h, get_or_at (digits (n / 10)) (digit (n % 10)) [] 0 k (omega (arith, length_big n h))) (omega arith))
        (lt_or_le k (length (digits (n / 10))))

value_append : (m : ℕ) (a b : List ℕ) → value_after m (a ++ b) ≡ value_after (value_after m a) b
unfolding value_after
value_append m [] b = refl
value_append m (d ∷ a) b = value_append (10 * m + (d - 48)) a b

-- Read back, the digits of a number make it.
pub digits_value : (n : ℕ) → value_of (digits n) ≡ n
unfolding value_of
digits_value = by_tens (λ n. value_of (digits n) ≡ n) one more
  where
    one : (n : ℕ) → n < 10 → value_of (digits n) ≡ n
    one n h = rw (digits_small n h) (omega arith)

    more : (n : ℕ) → 10 ≤ n → value_of (digits (n / 10)) ≡ n / 10 → value_of (digits n) ≡ n
    more n h tenth = rw (digits_big n h, value_append 0 (digits (n / 10)) (digit (n % 10) ∷ []), tenth) (omega arith)

-- So no two numbers have the same digits.
pub digits_differ : (m n : ℕ) → digits m ≡ digits n → m ≡ n
digits_differ m n e = sym (digits_value m) ∙ ap value_of e ∙ digits_value n

-- Digits behind those of a number above 0 are the digits of what they make together.
digits_behind : (m : ℕ) (bs : List ℕ) → 0 < m → AllDigits bs → digits (value_after m bs) ≡ digits m ++ bs
unfolding value_after
digits_behind m [] h all = sym (append-nil (digits m))
digits_behind m (b ∷ bs) h all =
    let is_digit : IsDigit b = all 0 (omega arith) in
    let n : ℕ = 10 * m + (b - 48) in
    let tenth : n / 10 ≡ m = omega arith in
    let last : digit (n % 10) ≡ b = omega arith in
    let digits_of : digits n ≡ digits m ++ b ∷ [] = digits_big n (omega arith) ∙ ap₂ (λ (t d : ℕ). digits t ++ d ∷ []) tenth last in
    digits_behind n bs (omega arith) (λ k s. all (suc k) (omega arith))
    ∙ ap (λ (ds : List ℕ). ds ++ bs) digits_of
    ∙ append_snoc (digits m) b bs

-- And no other digits without a leading zero make that number.
pub digits_only : (b : ℕ) (bs : List ℕ) → digit 0 < b → AllDigits (b ∷ bs) → digits (value_of (b ∷ bs)) ≡ b ∷ bs
unfolding value_of
digits_only b bs h all =
    let is_digit : IsDigit b = all 0 (omega arith) in
    let first : digits (10 * 0 + (b - 48)) ≡ b ∷ [] = digits_small (10 * 0 + (b - 48)) (omega arith) ∙ ap (λ (d : ℕ). d ∷ []) (omega arith) in
    digits_behind (10 * 0 + (b - 48)) bs (omega arith) (λ k s. all (suc k) (omega arith)) ∙ ap (λ (ds : List ℕ). ds ++ bs) first

-- ── Digits in a buffer ──

-- The last digit of a number goes behind the digits of a tenth of it.
pub last_digit
    : (out : List ℕ) (at n : ℕ)
    → 10 ≤ n
    → {last : ℕ} {out' : List ℕ}
    → last ≡ at + length (digits (n / 10))
    → out' ≡ with_bytes out at (digits (n / 10))
    → set out' last (digit (n % 10)) ≡ with_bytes out at (digits n)
unfolding with_bytes
last_digit out at n h end written =
    ap₂ (λ (l : List ℕ) (k : ℕ). set l k (digit (n % 10))) written end
    ∙ sym (ap (with_bytes out at) (digits_big n h) ∙ with_bytes_split out at (digits (n / 10)) (digit (n % 10) ∷ []))
