-- What an accepted book is: its bytes are those of no other book, they are few, because each piece has at most 38 and each phrase
-- record four, and its phrase numbers ascend. Assumes nothing.
use mathlib.Core.Path.{◌≡◌, sym, ap, ◌∙◌}
use mathlib.Core.Logic.{⊎_elim}
use mathlib.Core.List.Memᴰ
use mathlib.Core.List.{List, [], ◌∷◌, ◌++◌, Memᴰ}
use Prim.Native.Nat.{ℕ, ◌+◌, ◌*◌, ◌≤◌, ◌<◌}
use native.Mathlib.Omega.{arith}
use lib.ListN.{length, length-append}
use Rattle.meaning.specs.Books.{Gap, bounded, open_from, Piece, Phrase, Book}
use Rattle.meaning.specs.Reports.{Sorted, Ascending}
use Rattle.format.specs.Limits.{All, Bytes, PieceWithin, PhraseWithin, Within, Ascend, piece_count, longest_book}
use Rattle.format.specs.Written.{two_bytes, written_header, written_name, written_gap, written_keyword, written_pieces, written_phrases, written_end, written}
use Rattle.format.specs.Judged.{accepted, judged}
use Rattle.format.proofs.Reading.{accepted_judged}
use Rattle.format.proofs.Theorem.{accepted_iff}

-- ── One book ──

-- Two books within the limits that are written alike are the same.
pub written_once : (b c : Book) → Within b → Within c → written b ≡ written c → b ≡ c
written_once b c wb wc e =
    let same : accepted b (length (written b)) ≡ accepted c (length (written c)) = sym (accepted_judged b wb) ∙ ap judged e ∙ accepted_judged c wc in
    cc

-- ── How long ──

gap_long : (gap : Gap) → length (written_gap gap) ≤ 5
unfolding written_gap two_bytes
gap_long (bounded least most) = omega arith
gap_long (open_from least) = omega arith

pieces_long : (pieces : List Piece) → All PieceWithin pieces → length (written_pieces pieces) ≤ 38 * length pieces
unfolding written_pieces written_keyword All
pieces_long [] w = omega arith
pieces_long (piece ∷ rest) w =
    let gap : List ℕ = written_gap piece.gap in
    let keyword : List ℕ = written_keyword piece.keyword in
    let behind : List ℕ = keyword ++ written_pieces rest in
    omega (arith, length-append gap behind, length-append keyword (written_pieces rest), gap_long piece.gap, w.0.long.1, pieces_long rest w.1)

phrases_long : (phrases : List Phrase) → All PhraseWithin phrases → length (written_phrases phrases) ≤ 4 * length phrases + 38 * piece_count phrases
unfolding written_phrases written_name two_bytes All piece_count
phrases_long [] w = omega arith
phrases_long (phrase ∷ rest) w =
    let own : length (written_pieces phrase.pieces) ≤ 38 * length phrase.pieces = pieces_long phrase.pieces w.0.so_far.pieces in
    omega (arith, length-append (written_pieces phrase.pieces) (written_phrases rest), phrases_long rest w.1)

-- No book within the limits is longer than 10,245 bytes: the header's 2, 128 phrase records of 4, 256 pieces of 38 and the end's 3.
pub written_long : (b : Book) → Within b → length (written b) ≤ longest_book
unfolding written written_header written_end two_bytes
written_long b w =
    let n : ℕ = length b.phrases in
    omega (arith, length-append (written_phrases b.phrases) (written_end n), phrases_long b.phrases w.each, w.counts.count, w.counts.pieces)

-- ── In order ──

ascend_above : (before : ℕ) (phrases : List Phrase) → Ascend before phrases → (phrase : Phrase) → Memᴰ phrase phrases → before < phrase.number
unfolding Ascend
ascend_above before [] a phrase m = absurd (Memᴰ.not-nil m)
ascend_above before (p ∷ rest) a phrase m = ⊎_elim
    (λ (e : phrase ≡ p). rw e a.0)
    (λ k. omega (arith, a.0, ascend_above p.number rest a.1 phrase k))
    (Memᴰ.cases_cons m)

ascend_sorted : (before : ℕ) (phrases : List Phrase) → Ascend before phrases → Sorted (λ (p q : Phrase). p.number < q.number) phrases
unfolding Ascend Sorted
ascend_sorted before [] a = tt
ascend_sorted before (p ∷ rest) a = (λ q m. ascend_above p.number rest a.1 q m, ascend_sorted p.number rest a.1)

-- The phrase numbers of a book within the limits ascend.
pub within_ascends : (b : Book) → Within b → Ascending b.phrases
unfolding Ascending
within_ascends b w = ascend_sorted 0 b.phrases w.counts.ascend

-- ── So of every accepted book ──

-- Bytes that are accepted as a book are no longer than 10,245, the book is within the limits, and its phrase numbers ascend.
pub accepted_known : (bytes : List ℕ) (book : Book) (offset : ℕ) → Bytes bytes → judged bytes ≡ accepted book offset
    → (length bytes ≤ longest_book) × Within book × Ascending book.phrases
accepted_known bytes book offset h e =
    let r = (accepted_iff bytes book offset h).0 e in
    (rw r.0.whole (written_long book r.0.within), r.0.within, within_ascends book r.0.within)
