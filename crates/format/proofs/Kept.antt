-- A record that stands leads on to a stage within the limits, and its bytes are what is written on the way there: each field of its
-- body is written as it was read. Assumes nothing.
use mathlib.Core.Path.{◌≡◌, sym, ap, ◌∙◌}
use mathlib.Core.Logic.{⊎_elim}
use mathlib.Core.Bool.{So, ◌||◌, false≢true}
use mathlib.Core.List.{List, [], ◌∷◌, ◌++◌}
use Prim.Native.Nat.{ℕ}
use lib.Dec.{eqb}
use lib.ListN.{length, get_or}
use borrow.Author.Tests.{eqb-true}
use Rattle.meaning.specs.Books.{Phrase}
use Rattle.format.specs.Limits.{Bytes, GapWithin}
use Rattle.format.specs.Written.{header_kind, phrase_kind, bounded_kind, open_kind, end_kind, two_bytes, written_name, written_gap}
use Rattle.format.specs.Stages.{Stage, start, headed, named, gapped, worded, ended, SoFar}
use Rattle.format.specs.Faults.{is_gap, allowed, body_length, two, Stands}
use Rattle.format.specs.Judged.{gap_of, phrase_of, with_piece, onward}
use Rattle.format.proofs.Tests.{or_cases}
use Rattle.format.proofs.Records.{cells, one_by_one, two_written}
use Rattle.format.proofs.Standing.{Room, bounded_stands, open_stands}
use Rattle.format.proofs.Steps.{PhraseBegins, PieceBegins, phrase_headed, phrase_worded, piece_named, piece_worded, Leads, header_leads, phrase_leads, gap_leads, keyword_leads, end_leads}

-- ── A body is written as it was read ──

module _ (body : List ℕ) (bytes : Bytes body) where
  two_back : length body ≡ 2 → two_bytes (two body 0) ≡ body
  unfolding cells
  two_back long =
      let s : body ≡ get_or body 0 0 ∷ get_or body 1 0 ∷ [] = one_by_one 2 body long in
      two_written body 0 bytes ∙ sym s

  phrase_back : length body ≡ 3 → written_name (phrase_of body) ≡ phrase_kind ∷ body
  unfolding cells written_name phrase_of
  phrase_back long =
      let s : body ≡ get_or body 0 0 ∷ get_or body 1 0 ∷ get_or body 2 0 ∷ [] = one_by_one 3 body long in
      let n : two_bytes (two body 0) ≡ get_or body 0 0 ∷ get_or body 1 0 ∷ [] = two_written body 0 bytes in
      cc

  bounded_back : length body ≡ 4 → written_gap (gap_of bounded_kind body) ≡ bounded_kind ∷ body
  unfolding cells written_gap gap_of
  bounded_back long =
      let s : body ≡ get_or body 0 0 ∷ get_or body 1 0 ∷ get_or body 2 0 ∷ get_or body 3 0 ∷ [] = one_by_one 4 body long in
      let m : two_bytes (two body 0) ≡ get_or body 0 0 ∷ get_or body 1 0 ∷ [] = two_written body 0 bytes in
      let n : two_bytes (two body 2) ≡ get_or body 2 0 ∷ get_or body 3 0 ∷ [] = two_written body 2 bytes in
      cc

  open_back : length body ≡ 2 → written_gap (gap_of open_kind body) ≡ open_kind ∷ body
  unfolding written_gap gap_of
  open_back long = ap {B = List ℕ} (λ l. open_kind ∷ l) (two_back long)

-- ── Every stage ──

-- A record leads on from a stage.
abbrev LeadsOn : Stage → ℕ → List ℕ → Type 0
LeadsOn stage k body = (next : Stage) × Leads stage k body next

-- What holds at a kind holds at a k that is found to be it.
at_kind : (stage : Stage) (body : List ℕ) (k other : ℕ) → (Stands stage other body → LeadsOn stage other body) → Stands stage k body → So (eqb k other)
    → LeadsOn stage k body
at_kind stage body k other h stands is = let e : k ≡ other = eqb-true k other is in rw e (h (rw e at stands))

module _ (stage : Stage) (so_far : SoFar stage) (body : List ℕ) (bytes : Bytes body) where
  phrase_on : (phrases : List Phrase) → PhraseBegins stage phrases → Stands stage phrase_kind body → LeadsOn stage phrase_kind body
  unfolding body_length
  phrase_on phrases begins stands = (
    named phrases (phrase_of body),
    phrase_leads stage so_far phrases begins body (phrase_back body bytes stands.whole) stands,
  )

  module _ (phrases : List Phrase) (phrase : Phrase) (begins : PieceBegins stage phrases phrase) where
    by_gap : (k : ℕ) → written_gap (gap_of k body) ≡ k ∷ body → onward stage k body ≡ gapped phrases phrase (gap_of k body) → GapWithin (gap_of k body)
        → Room stage → Stands stage k body → LeadsOn stage k body
    by_gap k wrote next within room stands = (
      gapped phrases phrase (gap_of k body),
      gap_leads stage so_far phrases phrase begins k body wrote next within room stands,
    )

    bounded_on : Stands stage bounded_kind body → LeadsOn stage bounded_kind body
    unfolding gap_of
    bounded_on stands =
        let r = (bounded_stands stage body begins.allows_bounded).0 stands in
        by_gap bounded_kind (bounded_back body bytes r.0) (begins.next_bounded body) r.1 r.2 stands

    open_on : Stands stage open_kind body → LeadsOn stage open_kind body
    unfolding gap_of
    open_on stands =
        let r = (open_stands stage body begins.allows_open).0 stands in
        by_gap open_kind (open_back body bytes r.0) (begins.next_open body) r.1 r.2 stands

    gap_on : (k : ℕ) → So (is_gap k) → Stands stage k body → LeadsOn stage k body
    unfolding is_gap
    gap_on k is stands = ⊎_elim
        (at_kind stage body k bounded_kind bounded_on stands)
        (at_kind stage body k open_kind open_on stands)
        (or_cases (eqb k bounded_kind) (eqb k open_kind) is)

module _ (phrases : List Phrase) (phrase : Phrase) (so_far : SoFar (worded phrases phrase)) (body : List ℕ) (bytes : Bytes body) where
  end_on : Stands (worded phrases phrase) end_kind body → LeadsOn (worded phrases phrase) end_kind body
  unfolding body_length
  end_on stands = (ended (phrases ++ phrase ∷ []), end_leads phrases phrase so_far body (two_back body bytes stands.whole) stands)

  -- Behind a keyword stands a phrase, the end or a gap.
  worded_on : (k : ℕ) → So (eqb k phrase_kind || (eqb k end_kind || is_gap k)) → Stands (worded phrases phrase) k body → LeadsOn (worded phrases phrase) k body
  worded_on k is stands =
      let stage : Stage = worded phrases phrase in
      let begins : PhraseBegins stage (phrases ++ phrase ∷ []) = phrase_worded phrases phrase so_far in
      ⊎_elim
      (at_kind stage body k phrase_kind (phrase_on stage so_far body bytes (phrases ++ phrase ∷ []) begins) stands)
      (λ h. ⊎_elim
      (at_kind stage body k end_kind end_on stands)
      (λ h. gap_on stage so_far body bytes phrases phrase (piece_worded phrases phrase so_far) k h stands)
      (or_cases (eqb k end_kind) (is_gap k) h))
      (or_cases (eqb k phrase_kind) (eqb k end_kind || is_gap k) is)

-- At every stage within the limits, a record that stands leads on.
pub leads_on : (stage : Stage) → SoFar stage → (k : ℕ) (body : List ℕ) → Bytes body → Stands stage k body → LeadsOn stage k body
unfolding allowed
leads_on start so_far k body bytes stands = at_kind start body k header_kind (λ s. (headed, header_leads body s)) stands stands.allows
leads_on headed so_far k body bytes stands = at_kind headed body k phrase_kind (phrase_on headed so_far body bytes [] phrase_headed) stands stands.allows
leads_on (named phrases phrase) so_far k body bytes stands =
    gap_on (named phrases phrase) so_far body bytes phrases phrase (piece_named phrases phrase so_far) k stands.allows stands
leads_on (gapped phrases phrase gap) so_far k body bytes stands =
    (worded phrases (with_piece phrase (record { gap = gap; keyword = body })), keyword_leads phrases phrase gap so_far body bytes k stands)
leads_on (worded phrases phrase) so_far k body bytes stands = worded_on phrases phrase so_far body bytes k stands.allows stands
leads_on (ended phrases) so_far k body bytes stands = absurd (false≢true stands.allows)
