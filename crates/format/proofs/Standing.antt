-- What a record of each kind says when it stands: each test that concerns its kind is turned into the fact that it tests, and the
-- others say nothing. Assumes nothing.
use mathlib.Core.Path.{◌≡◌, refl, ap}
use mathlib.Core.Logic.{◌↔◌}
use mathlib.Core.Bool.{false, So, not, ◌&&◌}
use mathlib.Core.List.{List, [], ◌∷◌, ◌++◌}
use Prim.Native.Nat.{ℕ, ◌+◌, ◌≤◌, ◌<◌}
use native.Mathlib.Omega.{arith}
use lib.Dec.{leb, eqb}
use lib.ListN.{length, get_or}
use borrow.Author.Tests.{leb-true, leb-false, ltb-false, eqb-true, le-leb, lt-leb, le-ltb, eq-eqb, not-false}
use Rattle.meaning.specs.Books.{bounded, open_from, keywords}
use Rattle.format.specs.Prefixes.{prefix_count}
use Rattle.format.specs.Limits.{the_edition, most_number, most_rights, most_least, most_most, most_phrases, most_pieces_of_phrase, most_pieces, most_prefixes, piece_count, Between, GapWithin}
use Rattle.format.specs.Written.{header_kind, phrase_kind, bounded_kind, open_kind, end_kind, keyword_base}
use Rattle.format.specs.Stages.{Stage, start, phrases_at, pieces_at}
use Rattle.format.specs.Faults.{is_keyword, allowed, body_length, two, between, last_number, out_of_range, least_above_most, not_above, one_too_many, wrong_total, above_full, Stands}
use Rattle.format.proofs.Tests.{or_nothing, both, and_left, and_right, neither}
use Rattle.format.proofs.Bodies.{between_iff, keyword_range, no_room, keyword_only, keyword_length}

-- There is room for one piece more, in the phrase and in the book.
abbrev pub Room : Stage → Type 0
Room stage = (length (pieces_at stage) + 1 ≤ most_pieces_of_phrase) × (piece_count (phrases_at stage) + 1 ≤ most_pieces)

-- No test finds too many pieces exactly when there is room.
pub room_iff : (stage : Stage) → (no_room stage ≡ false) ↔ Room stage
room_iff stage = (
  λ e. let r = neither (leb most_pieces_of_phrase (length (pieces_at stage))) (leb most_pieces (piece_count (phrases_at stage))) e in (
    omega (arith, leb-false most_pieces_of_phrase (length (pieces_at stage)) r.0),
    omega (arith, leb-false most_pieces (piece_count (phrases_at stage)) r.1),
  ),
  λ r. simp (lt-leb most_pieces_of_phrase (length (pieces_at stage)) (omega arith), lt-leb most_pieces (piece_count (phrases_at stage)) (omega arith)),
)

-- A header stands exactly when it has one byte, the edition.
pub header_stands : (body : List ℕ) → Stands start header_kind body ↔ ((length body ≡ 1) × (get_or body 0 0 ≡ the_edition))
unfolding body_length allowed out_of_range least_above_most not_above one_too_many wrong_total above_full
header_stands body = (
  λ s. (s.whole, eqb-true (get_or body 0 0) the_edition (not-false (eqb (get_or body 0 0) the_edition) s.in_range)),
  λ h. record {
    allows = refl;
    whole = h.0;
    in_range = ap not (eq-eqb (get_or body 0 0) the_edition h.1);
    uncrossed = refl;
    above = refl;
    few_enough = refl;
    right_total = refl;
    not_full = refl;
  },
)

module _ (stage : Stage) (body : List ℕ) where
  -- A phrase record: number and rights code in range, the number above the last, and not the 129th phrase.
  pub phrase_stands : So (allowed stage phrase_kind)
      → Stands stage phrase_kind body
      ↔ ((length body ≡ 3) × Between 1 most_number (two body 0) × Between 1 most_rights (get_or body 2 0)
      × (last_number (phrases_at stage) < two body 0) × (length (phrases_at stage) < most_phrases))
  unfolding body_length out_of_range least_above_most not_above one_too_many wrong_total above_full
  phrase_stands allows = (
    λ s. let fields : So (between 1 most_number (two body 0) && between 1 most_rights (get_or body 2 0)) = not-false _ s.in_range in (
      s.whole,
      (between_iff 1 most_number (two body 0)).0 (and_left _ (between 1 most_rights (get_or body 2 0)) fields),
      (between_iff 1 most_rights (get_or body 2 0)).0 (and_right (between 1 most_number (two body 0)) _ fields),
      omega (arith, leb-false),
      let few = rw or_nothing at s.few_enough in omega (arith, leb-false),
    ),
    λ h. record {
      allows = allows;
      whole = h.0;
      in_range = ap not (both _ _ ((between_iff 1 most_number (two body 0)).1 h.1) ((between_iff 1 most_rights (get_or body 2 0)).1 h.2));
      uncrossed = refl;
      above = omega (arith, lt-leb);
      few_enough = rw or_nothing (omega (arith, lt-leb));
      right_total = refl;
      not_full = refl;
    },
  )

  -- A bounded gap: both fields in range, least not above most, and room for the piece.
  pub bounded_stands : So (allowed stage bounded_kind)
      → Stands stage bounded_kind body ↔ ((length body ≡ 4) × GapWithin (bounded (two body 0) (two body 2)) × Room stage)
  unfolding GapWithin body_length out_of_range least_above_most not_above one_too_many wrong_total above_full
  bounded_stands allows = (
    λ s. let fields : So (leb (two body 0) most_least && leb (two body 2) most_most) = not-false _ s.in_range in (
      s.whole,
      (
        leb-true (two body 0) most_least (and_left _ (leb (two body 2) most_most) fields),
        leb-true (two body 2) most_most (and_right (leb (two body 0) most_least) _ fields),
        omega (arith, leb-false),
      ),
      (room_iff stage).0 s.few_enough,
    ),
    λ h. record {
      allows = allows;
      whole = h.0;
      in_range = ap not (both _ _ (le-leb (two body 0) most_least h.1.0) (le-leb (two body 2) most_most h.1.1));
      uncrossed = omega (arith, lt-leb);
      above = refl;
      few_enough = (room_iff stage).1 h.2;
      right_total = refl;
      not_full = refl;
    },
  )

  -- An open gap: its least in range, and room for the piece.
  pub open_stands : So (allowed stage open_kind) → Stands stage open_kind body ↔ ((length body ≡ 2) × GapWithin (open_from (two body 0)) × Room stage)
  unfolding GapWithin body_length out_of_range least_above_most not_above one_too_many wrong_total above_full
  open_stands allows = (
    λ s. (s.whole, leb-true (two body 0) most_least (not-false _ s.in_range), (room_iff stage).0 s.few_enough),
    λ h. record {
      allows = allows;
      whole = h.0;
      in_range = ap not (le-leb (two body 0) most_least h.1);
      uncrossed = refl;
      above = refl;
      few_enough = (room_iff stage).1 h.2;
      right_total = refl;
      not_full = refl;
    },
  )

  -- An end record: its number is that of the phrases.
  pub end_stands : So (allowed stage end_kind) → Stands stage end_kind body ↔ ((length body ≡ 2) × (two body 0 ≡ length (phrases_at stage)))
  unfolding body_length out_of_range least_above_most not_above one_too_many wrong_total above_full
  end_stands allows = (
    λ s. (s.whole, eqb-true (two body 0) (length (phrases_at stage)) (not-false _ s.right_total)),
    λ h. record {
      allows = allows;
      whole = h.0;
      in_range = refl;
      uncrossed = refl;
      above = refl;
      few_enough = refl;
      right_total = ap not (eq-eqb (two body 0) (length (phrases_at stage)) h.1);
      not_full = refl;
    },
  )

  -- A keyword: its kind says its length, and the prefixes with it are at most 2,047.
  pub keyword_stands : (k : ℕ) → So (is_keyword k) → So (allowed stage k)
      → Stands stage k body ↔ ((k ≡ keyword_base + length body) × (prefix_count (keywords (phrases_at stage) ++ body ∷ []) ≤ most_prefixes))
  unfolding out_of_range least_above_most not_above one_too_many wrong_total above_full
  keyword_stands k is allows = (
    λ s. (
      omega (arith, keyword_length k is, s.whole, keyword_range k is),
      ltb-false most_prefixes (prefix_count (keywords (phrases_at stage) ++ body ∷ [])) (rw is at s.not_full),
    ),
    λ h. record {
      allows = allows;
      whole = omega (arith, keyword_length k is);
      in_range = simp (keyword_only k is);
      uncrossed = simp (keyword_only k is);
      above = simp (keyword_only k is);
      few_enough = simp (keyword_only k is);
      right_total = simp (keyword_only k is);
      not_full = simp (is, le-ltb most_prefixes (prefix_count (keywords (phrases_at stage) ++ body ∷ [])) h.1);
    },
  )
