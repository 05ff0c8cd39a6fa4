-- A part of the bytes that is written whole: with other bytes put back, the list has these written from the part's start on.
-- Assumes nothing.
use mathlib.Core.Path.{◌≡◌, refl, sym, ap, ap₂, ◌∙◌}
use mathlib.Core.List.{List, [], ◌∷◌, ◌++◌, append_assoc}
use Prim.Native.Nat.{ℕ, zero, suc, ◌+◌, ◌/◌, ◌%◌, ◌^◌, ◌≤◌}
use native.Mathlib.Omega.{arith}
use lib.ListN.{length, set, take, drop, replicate, length-set}
use lib.Seq.{take-suc, get_or-set_same}
use borrow.Rule.Slice.PartMut.{put_mid}
use Rattle.std.specs.Int.{byte_at, bytes_low_first}
use Rattle.std.proofs.Math.Nat.{pow-suc, div-div-eq-div-mul}
use Rattle.std.proofs.lemmas.List.{take-append-drop, take-set, drop-set-lt, drop-drop, replicate-append-replicate, length-replicate}
use Rattle.lent.specs.Numbers.{with_bytes, low_bytes, with_number}
use Rattle.lent.specs.Zeros.{with_zeros}
use Rattle.lent.proofs.Bytes.{with_bytes_split}
use Rattle.lent.proofs.Orders.{length_low_bytes}

pub part_written : (bs s : List ℕ) (i : ℕ) → i + length bs ≤ length s → put_mid i (length bs) s bs ≡ with_bytes s i bs
unfolding with_bytes
part_written [] s i room = take-append-drop i s
part_written (b ∷ bs) s i room =
    let stored = set s i b in
    let long : length stored ≡ length s = length-set s i b in
    let on : suc i ≡ i + 1 = omega arith in
    let front : take i s ++ (b ∷ []) ≡ take (suc i) stored =
    sym (take-suc stored i 0 (omega arith) ∙ ap₂ (λ (xs : List ℕ) (x : ℕ). xs ++ (x ∷ [])) (take-set s i b) (get_or-set_same s i b 0 (omega arith))) in
    let back : drop (suc (length bs)) (drop i s) ≡ drop (length bs) (drop (suc i) stored) =
    drop-drop (suc (length bs)) i s ∙ ap (λ (n : ℕ). drop n s) (omega arith) ∙ sym (drop-drop (length bs) (suc i) s) ∙ ap (drop (length bs)) (sym (drop-set-lt (suc i) s i b (omega arith))) in
    sym (append_assoc (take i s) (b ∷ []) (bs ++ drop (suc (length bs)) (drop i s)))
    ∙ ap₂ (λ (xs ys : List ℕ). xs ++ (bs ++ ys)) front back
    ∙ ap (λ (j : ℕ). put_mid j (length bs) stored bs) on
    ∙ part_written bs stored (i + 1) (omega arith)

-- The bytes of a number are the same, told off one after the other or each by its place.
low_bytes_from : (k i v : ℕ) → bytes_low_first i k v ≡ low_bytes k (v / 256 ^ i)
unfolding low_bytes
low_bytes_from zero i v = refl
low_bytes_from (suc k) i v = ap₂ (λ (b : ℕ) (bs : List ℕ). b ∷ bs) (byte i) (low_bytes_from k (suc i) v ∙ ap (low_bytes k) next)
  where
    byte : (i : ℕ) → byte_at i v ≡ v / 256 ^ i % 256
    byte zero = omega arith
    byte (suc i) = refl

    next : v / 256 ^ suc i ≡ v / 256 ^ i / 256
    next = ap (λ (m : ℕ). v / m) (pow-suc 256 i) ∙ sym (div-div-eq-div-mul v (256 ^ i) 256)

low_bytes_are : (n v : ℕ) → bytes_low_first 0 n v ≡ low_bytes n v
low_bytes_are n v = low_bytes_from n 0 v ∙ ap (low_bytes n) (omega arith)

-- A part with other bytes put back, which are as many.
pub part_put : (s : List ℕ) {bs : List ℕ} (cs : List ℕ) (i : ℕ) {k : ℕ} → k ≡ length cs → i + length cs ≤ length s → bs ≡ cs → put_mid i k s bs ≡ with_bytes s i cs
part_put s cs i part room same = ap₂ (λ (k : ℕ) (bs : List ℕ). put_mid i k s bs) part same ∙ part_written cs s i room

-- The same, where they are those of a number of n bytes.
pub number_put : (n : ℕ) (s : List ℕ) {bs : List ℕ} (i : ℕ) {k : ℕ} (v : ℕ) → k ≡ n → i + n ≤ length s → bs ≡ bytes_low_first 0 n v → put_mid i k s bs ≡ with_number n s i v
unfolding with_number
number_put n s i v part room is =
    let long = length_low_bytes n v in
    part_put s (low_bytes n v) i (omega arith) (omega arith) (is ∙ low_bytes_are n v)

-- The same, where they are all zero.
zeros_written : (s : List ℕ) (i n : ℕ) → with_bytes s i (replicate n 0) ≡ with_zeros s i n
unfolding with_bytes with_zeros
zeros_written s i zero = refl
zeros_written s i (suc n) =
    let one_more : suc n ≡ n + 1 = omega arith in
    let more : replicate (suc n) 0 ≡ replicate n 0 ++ (0 ∷ []) = ap (λ (j : ℕ). replicate j 0) one_more ∙ sym (replicate-append-replicate n 1 0) in
    ap (with_bytes s i) more ∙ with_bytes_split s i (replicate n 0) (0 ∷ [])
    ∙ ap₂ (λ (t : List ℕ) (j : ℕ). set t (i + j) 0) (zeros_written s i n) (length-replicate n 0)

pub zeros_put : (n : ℕ) (s : List ℕ) {bs : List ℕ} (i : ℕ) {k m : ℕ} → k ≡ n → m ≡ n → i + n ≤ length s → bs ≡ replicate m 0 → put_mid i k s bs ≡ with_zeros s i n
zeros_put n s i part all room is =
    let long : length (replicate n 0) ≡ n = length-replicate n 0 in
    part_put s (replicate n 0) i (part ∙ sym long) (rw long room) (is ∙ ap (λ (j : ℕ). replicate j 0) all) ∙ zeros_written s i n
