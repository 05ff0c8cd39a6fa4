-- The marks of a place are the phrases that match there, since a phrase ends with its last piece, and read off by rank they are its reports.
-- Assumes nothing.
use mathlib.Core.Path.{◌≡◌, refl, sym, ap, ◌∙◌}
use mathlib.Core.Bool.{Bool, true, false, cond, ◌&&◌}
use mathlib.Core.List.{List, [], ◌∷◌, ◌++◌, map}
use Prim.Native.Nat.{ℕ, suc, ◌+◌, ◌≤◌, ◌<◌}
use native.Mathlib.Omega.{arith}
use lib.Dec.{eqb}
use lib.ListN.{length, get_or}
use borrow.Author.Tests.{eq-eqb, eqb-true}
use Rattle.meaning.specs.Books.{Piece, Phrase, Book, width_in}
use Rattle.meaning.specs.Matching.{suffix, ends, matches}
use Rattle.meaning.specs.Reports.{report_of, choose, reports_at}
use Rattle.meaning.specs.Automaton.{is_state, after}
use Rattle.meaning.proofs.Truth.{both, and_left, and_right, same_truth}
use Rattle.format.specs.Limits.{Within}
use Rattle.tables.specs.Spots.{spot_at, spot_count, no_phrase}
use Rattle.tables.proofs.Spots.{placed}
use Rattle.running.specs.Waiting.{never}
use Rattle.running.specs.Kept.{Kept, ends_here, marked, read_off}
use Rattle.running.proofs.Below.{some_below_iff}
use Rattle.running.proofs.Kept.{ends_real}

module _ (book : Book) (limits : Within book) (x : List ℕ) (a : ℕ) (early : suc (length x) ≤ never)
    (closing : ℕ → ℕ) (waiting : ℕ → ℕ → Bool) (kept : Kept book x closing waiting)
    (ending : ℕ → Bool)
    (right : (p : ℕ) → p < spot_count book → ending p ≡ suffix (spot_at book p).piece.keyword (after (is_state book) (x ++ a ∷ []))) where
  -- The phrase of rank j is marked exactly when it matches at the new place.
  pub marked_matches : (j : ℕ) → j < length book.phrases
      → marked book (suc (length x)) closing waiting ending j ≡ matches book (get_or book.phrases j no_phrase) (x ++ a ∷ []) (suc (length x))
  unfolding marked matches width_in
  marked_matches j h = same_truth _ _ (
    λ u. let r = (some_below_iff final (spot_count book)).0 u in
        let p : ℕ = r.0 in
        let rest = and_right (spot_at book p).last (eqb (spot_at book p).rank j && ended p) r.2 in
        let is : (spot_at book p).rank ≡ j = eqb-true (spot_at book p).rank j (and_left (eqb (spot_at book p).rank j) (ended p) rest) in
        sym (of p r.1 (and_left (spot_at book p).last (eqb (spot_at book p).rank j && ended p) r.2) is)
        ∙ and_right (eqb (spot_at book p).rank j) (ended p) rest,
    λ u. let r = (placed book limits).final j h in
        let p : ℕ = r.0 in
        (some_below_iff final (spot_count book)).1 (
          p,
          r.1,
          both (spot_at book p).last (eqb (spot_at book p).rank j && ended p) r.2
              (both (eqb (spot_at book p).rank j) (ended p) (eq-eqb (spot_at book p).rank j r.3) (of p r.1 r.2 r.3 ∙ u)),
        ),
  )
    where
      ended : ℕ → Bool
      ended = ends_here book (suc (length x)) closing waiting ending

      final : ℕ → Bool
      final p = (spot_at book p).last && (eqb (spot_at book p).rank j && ended p)

      of : (p : ℕ) → p < spot_count book → (spot_at book p).last ≡ true → (spot_at book p).rank ≡ j
          → ended p ≡ ends length (x ++ a ∷ []) 0 (get_or book.phrases j no_phrase).pieces (suc (length x))
      of p l e r = ends_real book limits x a early closing waiting kept ending right p l
          ∙ ap (λ (pieces : List Piece). ends length (x ++ a ∷ []) 0 pieces (suc (length x)))
          ((placed book limits).whole p l e ∙ ap (λ (i : ℕ). (get_or book.phrases i no_phrase).pieces) r)

-- ── Read off by rank ──

-- Marks that say of each phrase whether a test holds of it give the reports of those of which it does, in order.
pub read_off_lem : (mark : ℕ → Bool) (test : Phrase → Bool) (place : ℕ) (phrases : List Phrase) (j : ℕ)
    → ((k : ℕ) → k < length phrases → mark (j + k) ≡ test (get_or phrases k no_phrase))
    → read_off mark place j phrases ≡ map (λ phrase. report_of phrase place) (choose test phrases)
unfolding read_off choose
read_off_lem mark test place [] j h = refl
read_off_lem mark test place (phrase ∷ rest) j h =
    let first : mark j ≡ test phrase = (let z : j + 0 ≡ j = omega arith in rw z at (h 0 (omega arith))) in
    rw (first, read_off_lem mark test place rest (suc j) (λ k l. let z : j + suc k ≡ suc j + k = omega arith in rw z at (h (suc k) (omega arith))))
    (pick (test phrase) (choose test rest))
  where
    pick : (v : Bool) (l : List Phrase)
        → cond v (report_of phrase place ∷ map (λ phrase. report_of phrase place) l) (map (λ phrase. report_of phrase place) l)
        ≡ map (λ phrase. report_of phrase place) (cond v (phrase ∷ l) l)
    pick true l = refl
    pick false l = refl

-- The reports of a place are read off from marks that say which phrases match there.
pub read_reports : (book : Book) (letter : List ℕ) (place : ℕ) (mark : ℕ → Bool)
    → ((j : ℕ) → j < length book.phrases → mark j ≡ matches book (get_or book.phrases j no_phrase) letter place)
    → read_off mark place 0 book.phrases ≡ reports_at book letter place
unfolding reports_at
read_reports book letter place mark h =
    read_off_lem mark (λ phrase. matches book phrase letter place) place book.phrases 0 (λ k l. let z : 0 + k ≡ k = omega arith in rw z (h k l))
