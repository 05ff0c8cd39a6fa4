-- For whatever may come next at a stage there is a record that says it, and it stands: what is written is read again, and in range.
-- Assumes nothing.
use mathlib.Core.Path.{◌≡◌, refl, ap}
use mathlib.Core.Bool.{So}
use mathlib.Core.List.{List, [], ◌∷◌, ◌++◌}
use Prim.Native.Nat.{ℕ, ◌+◌, ◌≤◌, ◌<◌}
use lib.ListN.{length}
use Rattle.meaning.specs.Books.{Gap, bounded, open_from, Piece, Phrase, keywords}
use Rattle.format.specs.Prefixes.{prefix_count}
use Rattle.format.specs.Limits.{the_edition, most_number, most_rights, longest_keyword, most_phrases, most_prefixes, Bytes, Between, GapWithin}
use Rattle.format.specs.Written.{header_kind, phrase_kind, bounded_kind, open_kind, end_kind, keyword_base, two_bytes, written_name, written_gap}
use Rattle.format.specs.Stages.{Stage, start, headed, named, gapped, worded, ended, phrases_at, SoFar}
use Rattle.format.specs.Faults.{allowed, is_keyword, last_number, two, Stands}
use Rattle.format.specs.Judged.{gap_of, phrase_of, with_piece, onward}
use Rattle.format.proofs.Records.{two_read}
use Rattle.format.proofs.Bodies.{keyword_is}
use Rattle.format.proofs.Standing.{Room, header_stands, phrase_stands, bounded_stands, open_stands, end_stands, keyword_stands}
use Rattle.format.proofs.Steps.{PhraseBegins, PieceBegins, Leads, header_leads, phrase_leads, gap_leads, keyword_leads, end_leads}

-- Some record leads from one stage to the next.
pub record Made (stage next : Stage) : Type 0 where
  pub k : ℕ
  pub body : List ℕ
  pub leads : Leads stage k body next

-- The header.
pub header_made : Made start headed
header_made = record { k = header_kind; body = the_edition ∷ []; leads = header_leads (the_edition ∷ []) ((header_stands (the_edition ∷ [])).1 (refl, refl)) }

module _ (stage : Stage) (so_far : SoFar stage) (phrases : List Phrase) where
  -- The record of a phrase without pieces, if its fields are in range, its number is above the last, and there is room for it.
  pub phrase_made : PhraseBegins stage phrases → (phrase : Phrase) → phrase.pieces ≡ [] → Between 1 most_number phrase.number
      → Between 1 most_rights phrase.rights → last_number phrases < phrase.number → length phrases < most_phrases → Made stage (named phrases phrase)
  unfolding two_bytes
  phrase_made begins phrase none number rights above room = record {
    k = phrase_kind;
    body = body;
    leads = rw says at (phrase_leads stage so_far phrases begins body wrote stands);
  }
    where
      body : List ℕ
      body = two_bytes phrase.number ++ phrase.rights ∷ []

      read : two body 0 ≡ phrase.number
      read = unfold two in two_read phrase.number

      says : phrase_of body ≡ phrase
      says = unfold phrase_of in rw (read, ← none)

      wrote : written_name (phrase_of body) ≡ phrase_kind ∷ body
      wrote = rw says (unfold written_name in refl)

      stands : Stands stage phrase_kind body
      stands = (phrase_stands stage body begins.allows).1 (refl, rw read number, rights, rw (read, begins.at) above, rw begins.at room)

  module _ (phrase : Phrase) (begins : PieceBegins stage phrases phrase) where
    -- A record of either kind that says the gap and is written for it.
    by_gap : (gap : Gap) → GapWithin gap → Room stage → (k : ℕ) (body : List ℕ) → gap_of k body ≡ gap → written_gap gap ≡ k ∷ body
        → onward stage k body ≡ gapped phrases phrase (gap_of k body) → Stands stage k body → Made stage (gapped phrases phrase gap)
    by_gap gap within room k body says wrote next stands = record {
      k = k;
      body = body;
      leads = rw says at (gap_leads stage so_far phrases phrase begins k body (rw says wrote) next (rw says within) room stands);
    }

    -- The record of a gap, if that is within the limits and there is room for its piece.
    pub gap_made : (gap : Gap) → GapWithin gap → Room stage → Made stage (gapped phrases phrase gap)
    unfolding two_bytes gap_of written_gap two
    gap_made (bounded least most) within room =
        let body : List ℕ = two_bytes least ++ two_bytes most in
        let says : gap_of bounded_kind body ≡ bounded least most = rw (two_read least, two_read most) in
        let stands : Stands stage bounded_kind body = (bounded_stands stage body begins.allows_bounded).1 (refl, rw says within, room) in
        by_gap (bounded least most) within room bounded_kind body says refl (begins.next_bounded body) stands
    gap_made (open_from least) within room =
        let body : List ℕ = two_bytes least in
        let says : gap_of open_kind body ≡ open_from least = rw (two_read least) in
        let stands : Stands stage open_kind body = (open_stands stage body begins.allows_open).1 (refl, rw says within, room) in
        by_gap (open_from least) within room open_kind body says refl (begins.next_open body) stands

module _ (phrases : List Phrase) (phrase : Phrase) where
  -- The record of a keyword that has 1 to 32 bytes and does not bring too many prefixes.
  pub keyword_made : (piece : Piece) → SoFar (gapped phrases phrase piece.gap) → Between 1 longest_keyword (length piece.keyword) → Bytes piece.keyword
      → prefix_count (keywords (phrases ++ phrase ∷ []) ++ piece.keyword ∷ []) ≤ most_prefixes
      → Made (gapped phrases phrase piece.gap) (worded phrases (with_piece phrase piece))
  unfolding allowed phrases_at
  keyword_made piece so_far long bytes few =
      let stage : Stage = gapped phrases phrase piece.gap in
      let k : ℕ = keyword_base + length piece.keyword in
      let is : So (is_keyword k) = keyword_is (length piece.keyword) long in
      let stands : Stands stage k piece.keyword = (keyword_stands stage piece.keyword k is is).1 (refl, few) in
      record { k = k; body = piece.keyword; leads = keyword_leads phrases phrase piece.gap so_far piece.keyword bytes k stands }

  -- The end record.
  pub end_made : SoFar (worded phrases phrase) → Made (worded phrases phrase) (ended (phrases ++ phrase ∷ []))
  unfolding allowed phrases_at two_bytes two
  end_made so_far =
      let n : ℕ = length (phrases ++ phrase ∷ []) in
      let stands : Stands (worded phrases phrase) end_kind (two_bytes n) = (end_stands (worded phrases phrase) (two_bytes n) refl).1 (refl, two_read n) in
      record { k = end_kind; body = two_bytes n; leads = end_leads phrases phrase so_far (two_bytes n) (ap two_bytes (two_read n)) stands }
