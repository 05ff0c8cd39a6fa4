-- Each kind of record leads from where it may stand to the next stage: its bytes are written behind those before it, and what is
-- counted stays within the limits. Assumes nothing.
use mathlib.Core.Path.{◌≡◌, refl, ap}
use mathlib.Core.Bool.{So}
use mathlib.Core.List.{List, [], ◌∷◌, ◌++◌, append_assoc}
use Prim.Native.Nat.{ℕ, ◌+◌}
use native.Mathlib.Omega.{arith}
use lib.ListN.{length, get_or}
use Rattle.meaning.specs.Books.{Gap, Piece, Phrase}
use Rattle.format.specs.Limits.{All, Bytes, Between, GapWithin, PieceWithin, PhraseSoFar, PhraseWithin, CountsWithin, longest_keyword}
use Rattle.format.specs.Written.{header_kind, phrase_kind, bounded_kind, open_kind, end_kind, keyword_base, two_bytes, written_header, written_name, written_gap, written_pieces, written_phrases}
use Rattle.format.specs.Stages.{Stage, start, headed, named, gapped, worded, ended, phrases_at, pieces_at, written_to, SoFar}
use Rattle.format.specs.Faults.{allowed, two, Stands}
use Rattle.format.specs.Judged.{gap_of, phrase_of, with_piece, onward}
use Rattle.format.proofs.Lists.{length_further, all_append}
use Rattle.format.proofs.Records.{cells, one_by_one, phrases_further, piece_further}
use Rattle.format.proofs.Counted.{counts_none, counts_named, counts_piece}
use Rattle.format.proofs.Bodies.{keyword_range}
use Rattle.format.proofs.Standing.{Room, header_stands, phrase_stands, end_stands, keyword_stands}

-- ── Where a phrase and a piece may begin ──

-- A phrase may begin here, behind whole phrases.
pub record PhraseBegins (stage : Stage) (phrases : List Phrase) : Type 0 where
  pub allows : So (allowed stage phrase_kind)
  pub at : phrases_at stage ≡ phrases
  pub next : (body : List ℕ) → onward stage phrase_kind body ≡ named phrases (phrase_of body)
  pub before : written_to stage ≡ written_header ++ written_phrases phrases
  pub each : All PhraseWithin phrases
  pub counts : CountsWithin phrases

-- A piece may begin here, behind whole phrases and a phrase so far.
pub record PieceBegins (stage : Stage) (phrases : List Phrase) (phrase : Phrase) : Type 0 where
  pub allows_bounded : So (allowed stage bounded_kind)
  pub allows_open : So (allowed stage open_kind)
  pub at : phrases_at stage ≡ phrases ++ phrase ∷ []
  pub pieces : pieces_at stage ≡ phrase.pieces
  pub next_bounded : (body : List ℕ) → onward stage bounded_kind body ≡ gapped phrases phrase (gap_of bounded_kind body)
  pub next_open : (body : List ℕ) → onward stage open_kind body ≡ gapped phrases phrase (gap_of open_kind body)
  pub before : written_to stage ≡ written_header ++ (written_phrases phrases ++ (written_name phrase ++ written_pieces phrase.pieces))
  pub each : All PhraseWithin phrases
  pub so_far : PhraseSoFar phrase
  pub counts : CountsWithin (phrases ++ phrase ∷ [])

-- A phrase may begin behind the header,
pub phrase_headed : PhraseBegins headed []
unfolding allowed phrases_at onward written_to written_phrases All
phrase_headed = record { allows = refl; at = refl; next = λ body. refl; before = refl; each = tt; counts = counts_none }

-- and behind a phrase that has a piece at least.
pub phrase_worded : (phrases : List Phrase) (phrase : Phrase) → SoFar (worded phrases phrase) → PhraseBegins (worded phrases phrase) (phrases ++ phrase ∷ [])
unfolding allowed phrases_at onward written_to SoFar All
phrase_worded phrases phrase s = record {
  allows = refl;
  at = refl;
  next = λ body. refl;
  before = refl;
  each = all_append PhraseWithin phrases (phrase ∷ []) s.0 (s.1, tt);
  counts = s.2;
}

-- A piece may begin behind a phrase record,
pub piece_named : (phrases : List Phrase) (phrase : Phrase) → SoFar (named phrases phrase) → PieceBegins (named phrases phrase) phrases phrase
unfolding allowed phrases_at pieces_at onward written_to written_pieces SoFar
piece_named phrases phrase s = record {
  allows_bounded = refl;
  allows_open = refl;
  at = refl;
  pieces = refl;
  next_bounded = λ body. refl;
  next_open = λ body. refl;
  before = rw s.2;
  each = s.0;
  so_far = s.1;
  counts = s.3;
}

-- and behind another piece.
pub piece_worded : (phrases : List Phrase) (phrase : Phrase) → SoFar (worded phrases phrase) → PieceBegins (worded phrases phrase) phrases phrase
unfolding allowed phrases_at pieces_at onward written_to SoFar
piece_worded phrases phrase s = record {
  allows_bounded = refl;
  allows_open = refl;
  at = refl;
  pieces = refl;
  next_bounded = λ body. refl;
  next_open = λ body. refl;
  before = rw (phrases_further phrases phrase);
  each = s.0;
  so_far = s.1.so_far;
  counts = s.2;
}

-- ── A record leads on ──

-- A record of kind k leads from one stage to the next: it stands, it is what is written between them, and both are within the limits.
pub record Leads (stage : Stage) (k : ℕ) (body : List ℕ) (next : Stage) : Type 0 where
  pub stands : Stands stage k body
  pub goes : onward stage k body ≡ next
  pub writes : written_to next ≡ written_to stage ++ k ∷ body
  pub from : SoFar stage
  pub to : SoFar next

-- A header.
pub header_leads : (body : List ℕ) → Stands start header_kind body → Leads start header_kind body headed
unfolding onward written_to SoFar cells
header_leads body stands =
    let r = (header_stands body).0 stands in
    let e : body ≡ get_or body 0 0 ∷ [] = one_by_one 1 body r.0 in
    record { stands = stands; goes = refl; writes = rw (e, r.1); from = tt; to = tt }

module _ (stage : Stage) (so_far : SoFar stage) (phrases : List Phrase) where
  -- A phrase record, with the phrase that it names.
  pub phrase_leads : PhraseBegins stage phrases → (body : List ℕ) → written_name (phrase_of body) ≡ phrase_kind ∷ body
      → Stands stage phrase_kind body → Leads stage phrase_kind body (named phrases (phrase_of body))
  unfolding written_to SoFar phrase_of All
  phrase_leads begins body wrote stands =
      let r = (phrase_stands stage body begins.allows).0 stands in
      record {
        stands = stands;
        goes = begins.next body;
        writes = rw (begins.before, wrote) (simp append_assoc);
        from = so_far;
        to = (
          begins.each,
          record { number = r.1; rights = r.2; pieces = tt; count = omega arith },
          refl,
          counts_named phrases (phrase_of body) refl begins.counts (rw begins.at at r.3) (rw begins.at at r.4),
        );
      }

  -- A gap's record, with the gap that it says.
  pub gap_leads : (phrase : Phrase) → PieceBegins stage phrases phrase → (k : ℕ) (body : List ℕ) → written_gap (gap_of k body) ≡ k ∷ body
      → onward stage k body ≡ gapped phrases phrase (gap_of k body) → GapWithin (gap_of k body) → Room stage
      → Stands stage k body → Leads stage k body (gapped phrases phrase (gap_of k body))
  unfolding written_to SoFar
  gap_leads phrase begins k body wrote next within room stands = record {
    stands = stands;
    goes = next;
    writes = rw (begins.before, wrote) (simp append_assoc);
    from = so_far;
    to = (begins.each, begins.so_far, begins.counts, within, rw begins.pieces at room.0, rw begins.at at room.1);
  }

module _ (phrases : List Phrase) (phrase : Phrase) where
  -- A keyword, with the piece that it completes.
  pub keyword_leads : (gap : Gap) → SoFar (gapped phrases phrase gap) → (body : List ℕ) → Bytes body → (k : ℕ) → Stands (gapped phrases phrase gap) k body
      → Leads (gapped phrases phrase gap) k body (worded phrases (with_piece phrase (record { gap = gap; keyword = body })))
  unfolding allowed phrases_at onward written_to SoFar with_piece All
  keyword_leads gap so_far body bytes k stands =
      let piece : Piece = record { gap = gap; keyword = body } in
      let r = (keyword_stands (gapped phrases phrase gap) body k stands.allows stands.allows).0 stands in
      let e : k ≡ keyword_base + length body = r.0 in
      let long : Between 1 longest_keyword (length body) = omega (arith, keyword_range k stands.allows) in
      record {
        stands = stands;
        goes = refl;
        writes = rw e (ap (λ (l : List ℕ). written_header ++ l) (piece_further phrases phrase piece));
        from = so_far;
        to = (
          so_far.0,
          record {
            so_far = record {
              number = so_far.1.number;
              rights = so_far.1.rights;
              pieces = all_append PieceWithin phrase.pieces (piece ∷ []) so_far.1.pieces (record { gap = so_far.3; long = long; bytes = bytes }, tt);
              count = omega (arith, length_further phrase.pieces piece, so_far.4);
            };
            pieced = omega (arith, length_further phrase.pieces piece);
          },
          counts_piece phrases phrase piece so_far.2 so_far.5 r.1,
        );
      }

  -- The end record, with the phrases that it counts.
  pub end_leads : SoFar (worded phrases phrase) → (body : List ℕ) → two_bytes (two body 0) ≡ body → Stands (worded phrases phrase) end_kind body
      → Leads (worded phrases phrase) end_kind body (ended (phrases ++ phrase ∷ []))
  unfolding allowed phrases_at onward written_to SoFar All
  end_leads so_far body wrote stands =
      let r = (end_stands (worded phrases phrase) body stands.allows).0 stands in
      record {
        stands = stands;
        goes = refl;
        writes = rw (← r.1, wrote) (simp append_assoc);
        from = so_far;
        to = (all_append PhraseWithin phrases (phrase ∷ []) so_far.0 (so_far.1, tt), so_far.2, omega (arith, length_further phrases phrase));
      }
