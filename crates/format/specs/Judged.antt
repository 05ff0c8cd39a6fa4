-- What is answered for any bytes: the book that was read, or why and where it is refused. Assumes nothing: these are definitions.
use Rattle.std.specs.Prelude.{◌≡◌, cond, List, [], ◌∷◌, ◌++◌, ℕ, zero, suc, ◌+◌, ◌≤◌, eqb, length, take, drop, get_or}
use Rattle.std.proofs.Math.Option.{none, some}
use Rattle.meaning.specs.Books.{Gap, bounded, open_from, Piece, Phrase, Book}
use Rattle.format.specs.Refusals.{Refusal, cut, refusal_number}
use Rattle.format.specs.Limits.{Within}
use Rattle.format.specs.Written.{phrase_kind, bounded_kind, end_kind, written}
use Rattle.format.specs.Stages.{Stage, start, headed, named, gapped, worded, ended, written_to, SoFar}
use Rattle.format.specs.Faults.{body_length, two, first_fault}

-- A book is accepted, as the book that was read, or refused for a reason, at an offset.
pub data Judgement : Type 0 where
  accepted : Book → ℕ → Judgement
  refused : Refusal → ℕ → Judgement

-- Document 01's number and offset of a judgement, and the number of phrases, 0 where refused.
pub record Answer : Type 0 where
  pub number : ℕ
  pub offset : ℕ
  pub phrases : ℕ

unfoldable pub answer_of : Judgement → Answer
unfolding refusal_number
answer_of (accepted book offset) = record { number = 0; offset = offset; phrases = length book.phrases }
answer_of (refused why offset) = record { number = refusal_number why; offset = offset; phrases = 0 }

-- ── Reading on, past a record without a fault ──

unfoldable pub gap_of : ℕ → List ℕ → Gap
unfolding two
gap_of k body = cond (eqb k bounded_kind) (bounded (two body 0) (two body 2)) (open_from (two body 0))

-- The phrase of a phrase record, without its pieces.
unfoldable pub phrase_of : List ℕ → Phrase
unfolding two
phrase_of body = record { number = two body 0; rights = get_or body 2 0; pieces = [] }

unfoldable pub with_piece : Phrase → Piece → Phrase
with_piece phrase piece = record { number = phrase.number; rights = phrase.rights; pieces = phrase.pieces ++ piece ∷ [] }

-- The stage after a record of kind k with its body.
unfoldable pub onward : Stage → ℕ → List ℕ → Stage
unfolding gap_of phrase_of with_piece
onward start k body = headed
onward headed k body = named [] (phrase_of body)
onward (named phrases phrase) k body = gapped phrases phrase (gap_of k body)
onward (gapped phrases phrase gap) k body = worded phrases (with_piece phrase (record { gap = gap; keyword = body }))
onward (worded phrases phrase) k body =
    cond (eqb k phrase_kind) (named (phrases ++ phrase ∷ []) (phrase_of body))
    (cond (eqb k end_kind) (ended (phrases ++ phrase ∷ []))
    (gapped phrases phrase (gap_of k body)))
onward (ended phrases) k body = ended phrases

-- ── The whole book ──

-- The book has stopped without a fault: that is after its end record.
unfoldable pub stopped : Stage → ℕ → Judgement
stopped start offset = refused cut offset
stopped headed offset = refused cut offset
stopped (named phrases phrase) offset = refused cut offset
stopped (gapped phrases phrase gap) offset = refused cut offset
stopped (worded phrases phrase) offset = refused cut offset
stopped (ended phrases) offset = accepted (record { phrases = phrases }) offset

-- From a stage, at an offset, with the rest of the book: the first fault refuses, at the offset of the record's kind byte.
-- A record has at least one byte, so no more records are read than there are bytes.
unfoldable pub judged_from : ℕ → Stage → ℕ → List ℕ → Judgement
unfolding first_fault stopped onward body_length
judged_from zero stage offset rest = elim (first_fault stage rest) [ some why ↦ refused why offset | none ↦ stopped stage offset ]
judged_from (suc n) stage offset [] = elim (first_fault stage []) [ some why ↦ refused why offset | none ↦ stopped stage offset ]
judged_from (suc n) stage offset (k ∷ behind) =
    let body : List ℕ = take (body_length k) behind in
    let next : Judgement = judged_from n (onward stage k body) (offset + (1 + body_length k)) (drop (body_length k) behind) in
    elim (first_fault stage (k ∷ behind)) [ some why ↦ refused why offset | none ↦ next ]

unfoldable pub judged : List ℕ → Judgement
unfolding judged_from
judged bytes = judged_from (length bytes) start 0 bytes

-- ── The same without a reader ──

-- Bytes are refused for a reason at an offset: what stands before the offset is whole records within the limits, as a book
-- begins with them, and the first fault of what stands there, in the document's order, is that reason.
pub record RefusedFor (bytes : List ℕ) (why : Refusal) (offset : ℕ) : Type 0 where
  pub stage : Stage
  pub before : take offset bytes ≡ written_to stage
  pub inside : offset ≤ length bytes
  pub within : SoFar stage
  pub fault : first_fault stage (drop offset bytes) ≡ some why

-- Bytes are accepted as a book: they are the book's written form, and the book is within the limits.
pub record AcceptedAs (bytes : List ℕ) (book : Book) : Type 0 where
  pub whole : bytes ≡ written book
  pub within : Within book

-- What a judgement says of the bytes.
unfoldable pub Judges : List ℕ → Judgement → Type 0
Judges bytes (accepted book offset) = AcceptedAs bytes book × (offset ≡ length bytes)
Judges bytes (refused why offset) = RefusedFor bytes why offset
