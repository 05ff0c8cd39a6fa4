-- The spots of a book follow each other as its pieces do: what holds of the pieces of one phrase, one after the other, is joined phrase by phrase.
-- Assumes nothing.
use mathlib.Core.Path.{◌≡◌, refl, sym, ap, ◌∙◌}
use mathlib.Core.Logic.{⊎_elim}
use mathlib.Core.Bool.{true, false, false≢true}
use mathlib.Core.List.{List, [], ◌∷◌, ◌++◌, map, Memᴰ}
use Prim.Native.Nat.{ℕ, zero, suc, ◌+◌, ◌≤◌, ◌<◌}
use native.Mathlib.Nat.{zero-add}
use native.Mathlib.Numerals.{add-one}
use native.Mathlib.Omega.{arith}
use lib.ListN.{length, get_or, length-append, get_or-append}
use lib.Seq.{append_snoc, get_or-append_seam, get_or-append-add}
use Rattle.meaning.specs.Books.{Gap, bounded, open_from, Piece, Phrase, Book, keywords}
use Rattle.meaning.specs.Windows.{least_of, delay}
use Rattle.format.specs.Limits.{All, Between, GapWithin, PieceWithin, PhraseWithin, piece_count, Within, most_least}
use Rattle.format.proofs.Lists.{length_further, all_append}
use Rattle.tables.specs.Spots.{Spot, none_left, spots_after, spots_from, spots_of, no_spot, spot_at, spot_count, no_phrase, Placed}

-- ── Their number ──

pub length_after : (rank : ℕ) (before pieces : List Piece) → length (spots_after rank before pieces) ≡ length pieces
unfolding spots_after
length_after rank before [] = refl
length_after rank before (piece ∷ rest) = ap suc (length_after rank (before ++ piece ∷ []) rest)

length_from : (rank : ℕ) (phrases : List Phrase) → length (spots_from rank phrases) ≡ piece_count phrases
unfolding spots_from piece_count
length_from rank [] = refl
length_from rank (phrase ∷ rest) = rw (length-append, length_after, length_from (rank + 1) rest)

-- There are as many spots as pieces.
pub spot_count_lem : (book : Book) → spot_count book ≡ piece_count book.phrases
unfolding spot_count spots_of
spot_count_lem book = length_from 0 book.phrases

-- ── How each follows the one before ──

unfoldable Chained : List Spot → Type 0
Chained [] = Unit {0}
Chained (s ∷ []) = s.last ≡ true
Chained (s ∷ r ∷ rest) = (s.last ≡ true → r.before ≡ []) × (s.last ≡ false → r.before ≡ s.before ++ s.piece ∷ []) × Chained (r ∷ rest)

unfoldable Fresh : List Spot → Type 0
Fresh [] = Unit {0}
Fresh (s ∷ rest) = s.before ≡ []

after_chained : (rank : ℕ) (before : List Piece) (piece : Piece) (pieces : List Piece) (rest : List Spot)
    → Fresh rest → Chained rest → Chained (spots_after rank before (piece ∷ pieces) ++ rest)
unfolding spots_after Chained Fresh
after_chained rank before piece [] [] f c = refl
after_chained rank before piece [] (r ∷ rest) f c = (λ e. f, λ e. absurd (false≢true (sym e)), c)
after_chained rank before piece (next ∷ pieces) rest f c =
    (λ e. absurd (false≢true e), λ e. refl, after_chained rank (before ++ piece ∷ []) next pieces rest f c)

after_fresh : (rank : ℕ) (piece : Piece) (pieces : List Piece) (rest : List Spot) → Fresh (spots_after rank [] (piece ∷ pieces) ++ rest)
unfolding spots_after Fresh
after_fresh rank piece pieces rest = refl

from_chained : (phrases : List Phrase) (rank : ℕ) → All PhraseWithin phrases → Fresh (spots_from rank phrases) × Chained (spots_from rank phrases)
unfolding spots_from Fresh Chained All
from_chained [] rank h = (tt, tt)
from_chained (phrase ∷ rest) rank h = by phrase.pieces h.0.pieced (from_chained rest (rank + 1) h.1)
  where
    by : (pieces : List Piece) → 1 ≤ length pieces → Fresh (spots_from (rank + 1) rest) × Chained (spots_from (rank + 1) rest)
        → Fresh (spots_after rank [] pieces ++ spots_from (rank + 1) rest) × Chained (spots_after rank [] pieces ++ spots_from (rank + 1) rest)
    by [] some ih = absurd (omega arith)
    by (piece ∷ pieces) some ih =
        (after_fresh rank piece pieces (spots_from (rank + 1) rest), after_chained rank [] piece pieces (spots_from (rank + 1) rest) ih.0 ih.1)

chain_at : (l : List Spot) → Chained l → (p : ℕ) → p < length l → (get_or l p no_spot).last ≡ false
    → (p + 1 < length l) × ((get_or l (p + 1) no_spot).before ≡ (get_or l p no_spot).before ++ (get_or l p no_spot).piece ∷ [])
unfolding Chained
chain_at [] c p h e = absurd (omega arith)
chain_at (s ∷ []) c zero h e = absurd (false≢true (sym e ∙ c))
chain_at (s ∷ []) c (suc p) h e = absurd (omega arith)
chain_at (s ∷ r ∷ rest) c zero h e = (omega arith, c.1 e)
chain_at (s ∷ r ∷ rest) c (suc p) h e = let ih = chain_at (r ∷ rest) c.2 p (omega arith) e in rw add-one (omega (arith, ih.0), rw add-one at ih.1)

fresh_at : (l : List Spot) → Chained l → (p : ℕ) → p + 1 < length l → (get_or l p no_spot).last ≡ true → (get_or l (p + 1) no_spot).before ≡ []
unfolding Chained
fresh_at [] c p h e = absurd (omega arith)
fresh_at (s ∷ []) c p h e = absurd (omega arith)
fresh_at (s ∷ r ∷ rest) c zero h e = c.0 e
fresh_at (s ∷ r ∷ rest) c (suc p) h e = rw add-one (rw add-one at (fresh_at (r ∷ rest) c.2 p (omega arith) e))

fresh_first : (l : List Spot) → Fresh l → (get_or l 0 no_spot).before ≡ []
unfolding Fresh
fresh_first [] f = refl
fresh_first (s ∷ rest) f = f

-- ── What holds of each ──

pub all_at : {A : Type 0} (P : A → Type 0) (l : List A) (d : A) → All P l → (k : ℕ) → k < length l → P (get_or l k d)
unfolding All
all_at P [] d h k l = absurd (omega arith)
all_at P (x ∷ xs) d h zero l = h.0
all_at P (x ∷ xs) d h (suc k) l = all_at P xs d h.1 k (omega arith)

keyword_in_lem : (phrases : List Phrase) (phrase : Phrase) (piece : Piece) → Memᴰ phrase phrases → Memᴰ piece phrase.pieces
    → Memᴰ piece.keyword (keywords phrases)
unfolding keywords
keyword_in_lem [] phrase piece m k = absurd (mathlib.Core.List.Memᴰ.not-nil m)
keyword_in_lem (other ∷ rest) phrase piece m k = ⊎_elim
    (λ (e : phrase ≡ other). mathlib.Core.List.Memᴰ.append_left (keywords rest) (mathlib.Core.List.Memᴰ.map (λ (z : Piece). z.keyword) (rw e at k)))
    (λ n. mathlib.Core.List.Memᴰ.append_right (map (λ (z : Piece). z.keyword) other.pieces) (keyword_in_lem rest phrase piece n k))
    (mathlib.Core.List.Memᴰ.cases_cons m)

-- A piece within the limits may end 1 to 256 bytes after the one before it at the earliest: least is at most 224, a keyword has 1 to 32 bytes.
pub delay_within : (piece : Piece) → PieceWithin piece → Between 1 256 (delay piece)
unfolding delay GapWithin least_of
delay_within piece h = (omega (arith, h.long.0), omega (arith, h.long.1, least piece.gap h.gap))
  where
    least : (gap : Gap) → GapWithin gap → least_of gap ≤ most_least
    least (bounded low high) g = g.0
    least (open_from low) g = g

module _ (book : Book) where
  record Good (s : Spot) : Type 0 where
    within : PieceWithin s.piece
    listed : Memᴰ s.piece.keyword (keywords book.phrases)
    ranked : s.rank < length book.phrases
    whole : s.last ≡ true → s.before ++ s.piece ∷ [] ≡ (get_or book.phrases s.rank no_phrase).pieces

  after_good : (phrase : Phrase) → Memᴰ phrase book.phrases → (rank : ℕ) → rank < length book.phrases
      → get_or book.phrases rank no_phrase ≡ phrase → (before pieces : List Piece) → before ++ pieces ≡ phrase.pieces
      → All PieceWithin pieces → All Good (spots_after rank before pieces)
  unfolding All spots_after none_left
  after_good phrase m rank l at before [] e h = tt
  after_good phrase m rank l at before (piece ∷ pieces) e h =
      let here : Memᴰ piece phrase.pieces = rw (← e) (mathlib.Core.List.Memᴰ.append_right before (mathlib.Core.List.Memᴰ.head refl)) in (
        record { within = h.0; listed = keyword_in_lem book.phrases phrase piece m here; ranked = l; whole = whole pieces e },
        after_good phrase m rank l at (before ++ piece ∷ []) pieces (append_snoc before piece pieces ∙ e) h.1,
      )
    where
      whole : (pieces : List Piece) → before ++ piece ∷ pieces ≡ phrase.pieces → none_left pieces ≡ true
          → before ++ piece ∷ [] ≡ (get_or book.phrases rank no_phrase).pieces
      whole [] e z = e ∙ ap (λ (q : Phrase). q.pieces) (sym at)
      whole (next ∷ pieces) e z = absurd (false≢true z)

  from_good : (past phrases : List Phrase) → past ++ phrases ≡ book.phrases → All PhraseWithin phrases → All Good (spots_from (length past) phrases)
  unfolding All spots_from
  from_good past [] e h = tt
  from_good past (phrase ∷ rest) e h =
      all_append Good (spots_after (length past) [] phrase.pieces) (spots_from (length past + 1) rest)
      (after_good phrase (rw (← e) (mathlib.Core.List.Memᴰ.append_right past (mathlib.Core.List.Memᴰ.head refl))) (length past)
      (rw (← e) (omega (arith, length-append past (phrase ∷ rest)))) (rw (← e) (get_or-append_seam past phrase rest no_phrase)) [] phrase.pieces refl h.0.so_far.pieces)
      (rw (length_further past phrase) at (from_good (past ++ phrase ∷ []) rest (append_snoc past phrase rest ∙ e) h.1))

-- ── The last piece of each phrase ──

unfoldable Finished : List Spot → ℕ → Type 0
Finished l j = (p : ℕ) × (p < length l) × ((get_or l p no_spot).last ≡ true) × ((get_or l p no_spot).rank ≡ j)

finished_right : (l r : List Spot) (j : ℕ) → Finished r j → Finished (l ++ r) j
unfolding Finished
finished_right l r j e = (length l + e.0, rw length-append (omega (arith, e.1)), rw get_or-append-add e.2, rw get_or-append-add e.3)

finished_left : (l r : List Spot) (j : ℕ) → Finished l j → Finished (l ++ r) j
unfolding Finished
finished_left l r j e =
    let z = get_or-append l r no_spot e.0 e.1 in
    (e.0, rw length-append (omega (arith, e.1)), rw z e.2, rw z e.3)

after_finished : (rank : ℕ) (before pieces : List Piece) → 1 ≤ length pieces → Finished (spots_after rank before pieces) rank
unfolding Finished spots_after
after_finished rank before [] some = absurd (omega arith)
after_finished rank before (piece ∷ []) some = (0, omega arith, refl, refl)
after_finished rank before (piece ∷ next ∷ pieces) some =
    let ih = after_finished rank (before ++ piece ∷ []) (next ∷ pieces) (omega arith) in
    (suc ih.0, omega (arith, ih.1), ih.2, ih.3)

from_finished : (phrases : List Phrase) (rank : ℕ) → All PhraseWithin phrases → (i : ℕ) → i < length phrases → Finished (spots_from rank phrases) (rank + i)
unfolding spots_from All
from_finished [] rank h i l = absurd (omega arith)
from_finished (phrase ∷ rest) rank h zero l =
    let z : rank + 0 ≡ rank = omega arith in
    rw z (finished_left (spots_after rank [] phrase.pieces) (spots_from (rank + 1) rest) rank (after_finished rank [] phrase.pieces h.0.pieced))
from_finished (phrase ∷ rest) rank h (suc i) l =
    let z : rank + suc i ≡ rank + 1 + i = omega arith in
    rw z (finished_right (spots_after rank [] phrase.pieces) (spots_from (rank + 1) rest) (rank + 1 + i) (from_finished rest (rank + 1) h.1 i (omega arith)))

-- ── All of it ──

pub placed : (book : Book) → Within book → Placed book
unfolding spot_at spot_count spots_of Finished
placed book h =
    let spots : List Spot = spots_from 0 book.phrases in
    let c = from_chained book.phrases 0 h.each in
    let good : (p : ℕ) → p < length spots → Good book (get_or spots p no_spot) = all_at (Good book) spots no_spot (from_good book [] book.phrases refl h.each) in
    record {
      start = fresh_first spots c.0;
      fresh = fresh_at spots c.1;
      chain = chain_at spots c.1;
      within = λ p l. (good p l).within;
      soon = λ p l. delay_within (get_or spots p no_spot).piece (good p l).within;
      listed = λ p l. (good p l).listed;
      ranked = λ p l. (good p l).ranked;
      whole = λ p l. (good p l).whole;
      final = λ j l. rw zero-add at (from_finished book.phrases 0 h.each j l);
    }
