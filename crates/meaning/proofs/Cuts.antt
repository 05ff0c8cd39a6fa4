-- A match at a place rests on the bytes up to that place alone, so a letter may be cut anywhere.
-- Assumes nothing.
use mathlib.Core.Path.{◌≡◌, refl, sym, ap, ◌∙◌, fun_ext}
use mathlib.Core.Logic.{◌↔◌}
use mathlib.Core.Bool.{Bool}
use mathlib.Core.List.{List, [], ◌∷◌, ◌++◌, map, append_assoc, append-nil}
use Prim.Native.Nat.{ℕ, zero, suc, ◌+◌, ◌≤◌}
use native.Mathlib.Numerals.{add-one}
use native.Mathlib.Omega.{arith}
use lib.ListN.{length, drop, length-append, length-drop, get_or-append}
use lib.Seq.{take-append-le, drop-append-le, append_snoc, take-append_seam, get_or-append_seam}
use Rattle.meaning.specs.Books.{Piece, Phrase, Book, width_in}
use Rattle.meaning.specs.Matching.{Fills, bytes_after, Follows, Ends, ends, matches}
use Rattle.meaning.specs.Reports.{report_of, choose, reports_at, reports_up_to, reports}
use Rattle.meaning.specs.Automaton.{is_state, after, steps_for, steps_up_to, steps}
use Rattle.meaning.specs.Calls.{reports_after, steps_after}
use Rattle.meaning.proofs.Truth.{same_truth}
use Rattle.meaning.proofs.Tests.{ends_iff}

-- Places of pieces that end one after the other never fall.
ends_rise : (width : List ℕ → ℕ) (letter : List ℕ) (pieces : List Piece) (previous place : ℕ)
    → Ends width letter previous pieces place → previous ≤ place
unfolding Ends
ends_rise width letter [] previous place h = omega arith
ends_rise width letter (piece ∷ rest) previous place h = omega (arith, ends_rise width letter rest h.0 place h.2, h.1.spans)

-- ── Inside the first part ──

-- What is so at a place inside x is so whatever bytes y follow.
module _ (x y : List ℕ) where
  fills_part : (keyword : List ℕ) (place : ℕ) → place ≤ length x → Fills keyword (x ++ y) place ↔ Fills keyword x place
  fills_part keyword place l = (
    λ f. record { before = f.before; split = f.split ∙ take-append-le place x y l; inside = l },
    λ f. record { before = f.before; split = f.split ∙ sym (take-append-le place x y l); inside = simp length-append (omega arith) },
  )

  bytes_after_part : (place n : ℕ) → place + n ≤ length x → bytes_after place n (x ++ y) ≡ bytes_after place n x
  unfolding bytes_after
  bytes_after_part place n l =
      let k : n ≤ length (drop place x) = simp length-drop (omega arith) in
      rw (drop-append-le place x y (omega arith), take-append-le n (drop place x) y k)

  follows_part : (width : List ℕ → ℕ) (piece : Piece) (previous place : ℕ) → place ≤ length x
      → Follows width (x ++ y) piece previous place ↔ Follows width x piece previous place
  follows_part width piece previous place l = (
    λ f. record {
      filled = (fills_part piece.keyword place l).0 f.filled;
      between = f.between;
      spans = f.spans;
      admitted = let k = bytes_after_part previous f.between (omega arith) in rw (← k) f.admitted;
    },
    λ f. record {
      filled = (fills_part piece.keyword place l).1 f.filled;
      between = f.between;
      spans = f.spans;
      admitted = let k = bytes_after_part previous f.between (omega arith) in rw k f.admitted;
    },
  )

  pub ends_part : (width : List ℕ → ℕ) (pieces : List Piece) (previous place : ℕ) → place ≤ length x
      → Ends width (x ++ y) previous pieces place ↔ Ends width x previous pieces place
  unfolding Ends
  ends_part width [] previous place l = (λ h. h, λ h. h)
  ends_part width (piece ∷ rest) previous place l = (
    λ h. let k : h.0 ≤ length x = omega (arith, ends_rise width (x ++ y) rest h.0 place h.2) in
        (h.0, (follows_part width piece previous h.0 k).0 h.1, (ends_part width rest h.0 place l).0 h.2),
    λ h. let k : h.0 ≤ length x = omega (arith, ends_rise width x rest h.0 place h.2) in
        (h.0, (follows_part width piece previous h.0 k).1 h.1, (ends_part width rest h.0 place l).1 h.2),
  )

  pub ends_kept : (width : List ℕ → ℕ) (pieces : List Piece) (previous place : ℕ) → place ≤ length x
      → ends width (x ++ y) previous pieces place ≡ ends width x previous pieces place
  ends_kept width pieces previous place l =
      let whole = ends_iff width (x ++ y) pieces previous place in
      let part = ends_iff width x pieces previous place in
      let same = ends_part width pieces previous place l in
      same_truth _ _ (λ h. part.1 (same.0 (whole.0 h)), λ h. whole.1 (same.1 (part.0 h)))

  pub matches_kept : (book : Book) (phrase : Phrase) (place : ℕ) → place ≤ length x
      → matches book phrase (x ++ y) place ≡ matches book phrase x place
  unfolding matches
  matches_kept book phrase place l = ends_kept (width_in book) phrase.pieces _ place l

  pub reports_at_kept : (book : Book) (place : ℕ) → place ≤ length x → reports_at book (x ++ y) place ≡ reports_at book x place
  unfolding reports_at
  reports_at_kept book place l =
      ap (λ f. map (λ p. report_of p place) (choose f book.phrases)) (fun_ext (λ (p : Phrase). matches_kept book p place l))

  pub reports_up_to_kept : (book : Book) (n : ℕ) → n ≤ length x → reports_up_to book (x ++ y) n ≡ reports_up_to book x n
  unfolding reports_up_to
  reports_up_to_kept book zero l = refl
  reports_up_to_kept book (suc n) l = rw (reports_up_to_kept book n (omega arith), reports_at_kept book (suc n) l)

  pub steps_up_to_kept : (state : List ℕ → Bool) (n : ℕ) → n ≤ length x → steps_up_to state (x ++ y) n ≡ steps_up_to state x n
  unfolding steps_up_to
  steps_up_to_kept state zero l = refl
  steps_up_to_kept state (suc n) l = rw (steps_up_to_kept state n (omega arith), take-append-le n x y (omega arith), get_or-append x y 0 n l)

-- ── One byte more ──

module _ (book : Book) where
  -- A byte more adds the reports of the place at which it ends, and the steps from the state before it.
  pub reports_snoc : (x : List ℕ) (a : ℕ) → reports book (x ++ a ∷ []) ≡ reports book x ++ reports_at book (x ++ a ∷ []) (suc (length x))
  unfolding reports reports_up_to
  reports_snoc x a = rw (length-append x (a ∷ []), add-one, reports_up_to_kept x (a ∷ []) book (length x) (omega arith))

  pub steps_snoc : (x : List ℕ) (a : ℕ) → steps book (x ++ a ∷ []) ≡ steps book x + steps_for (is_state book) (after (is_state book) x) a
  unfolding steps
  steps_snoc x a = rw (
    length-append x (a ∷ []),
    add-one,
    steps_up_to_kept x (a ∷ []) (is_state book) (length x) (omega arith),
    take-append_seam x (a ∷ []),
    get_or-append_seam x a [] 0,
  )

  -- ── A letter cut in two ──

  -- Reports and steps of the whole are those of the first part, and then those of the second, read after the first.
  pub reports_cut : (x y : List ℕ) → reports book (x ++ y) ≡ reports book x ++ reports_after book x y
  unfolding reports_after
  reports_cut x [] = simp append-nil
  reports_cut x (a ∷ y) = ap (reports book) (sym (append_snoc x a y)) ∙ reports_cut (x ++ a ∷ []) y ∙ rw (reports_snoc x a, append_assoc)

  pub steps_cut : (x y : List ℕ) → steps book (x ++ y) ≡ steps book x + steps_after book x y
  unfolding steps_after
  steps_cut x [] = rw append-nil (omega arith)
  steps_cut x (a ∷ y) = ap (steps book) (sym (append_snoc x a y)) ∙ steps_cut (x ++ a ∷ []) y ∙ rw (steps_snoc x a) (omega arith)

  -- Two parts, one after the other, are one part.
  pub reports_after_cut : (x y z : List ℕ) → reports_after book x (y ++ z) ≡ reports_after book x y ++ reports_after book (x ++ y) z
  unfolding reports_after
  reports_after_cut x [] z = simp append-nil
  reports_after_cut x (a ∷ y) z = rw (reports_after_cut (x ++ a ∷ []) y z, append_snoc x a y, append_assoc)

  pub steps_after_cut : (x y z : List ℕ) → steps_after book x (y ++ z) ≡ steps_after book x y + steps_after book (x ++ y) z
  unfolding steps_after
  steps_after_cut x [] z = rw append-nil (omega arith)
  steps_after_cut x (a ∷ y) z = rw (steps_after_cut (x ++ a ∷ []) y z, append_snoc x a y) (omega arith)
