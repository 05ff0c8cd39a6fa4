-- What can be wrong with the record that begins at a stage: a test for each of document 01's reasons, without regard to the others.
-- Assumes nothing: these are definitions.
use Rattle.std.specs.Prelude.{◌≡◌, Bool, true, false, not, cond, ◌&&◌, ◌||◌, List, [], ◌∷◌, ◌++◌, ℕ, ◌+◌, ◌-◌, ◌*◌, leb, ltb, eqb, length, take, get_or}
use Rattle.std.proofs.Math.Bool.{So}
use Rattle.std.proofs.Math.Option.{Option}
use Rattle.meaning.specs.Books.{Phrase, keywords}
use Rattle.meaning.specs.Automaton.{first}
use Rattle.format.specs.Refusals.{Refusal, cut, kind, field, crossed, order, many, total, full, in_order}
use Rattle.format.specs.Prefixes.{prefix_count}
use Rattle.format.specs.Limits.{the_edition, most_number, most_rights, most_least, most_most, longest_keyword, most_phrases, most_pieces_of_phrase, most_pieces, most_prefixes, piece_count}
use Rattle.format.specs.Written.{header_kind, phrase_kind, bounded_kind, open_kind, end_kind, keyword_base}
use Rattle.format.specs.Stages.{Stage, start, headed, named, gapped, worded, ended, phrases_at, pieces_at}

-- ── Kinds ──

unfoldable pub is_gap : ℕ → Bool
is_gap k = eqb k bounded_kind || eqb k open_kind

unfoldable pub is_keyword : ℕ → Bool
is_keyword k = leb (keyword_base + 1) k && leb k (keyword_base + longest_keyword)

-- Which kinds may stand at a stage: one header; one or more phrases, each a phrase record followed by one or more pieces,
-- a piece being a gap and then a keyword; the end record; nothing after it.
unfoldable pub allowed : Stage → ℕ → Bool
unfolding is_gap is_keyword
allowed start k = eqb k header_kind
allowed headed k = eqb k phrase_kind
allowed (named phrases phrase) k = is_gap k
allowed (gapped phrases phrase gap) k = is_keyword k
allowed (worded phrases phrase) k = eqb k phrase_kind || (eqb k end_kind || is_gap k)
allowed (ended phrases) k = false

-- The length of a record's body, which its kind fixes.
unfoldable pub body_length : ℕ → ℕ
body_length k =
    cond (eqb k header_kind) 1
    (cond (eqb k phrase_kind) 3
    (cond (eqb k bounded_kind) 4
    (cond (eqb k open_kind) 2
    (cond (eqb k end_kind) 2 (k - keyword_base)))))

-- ── Fields of a body ──

-- The number in the two bytes from i on, high byte first.
unfoldable pub two : List ℕ → ℕ → ℕ
two body i = get_or body i 0 * 256 + get_or body (i + 1) 0

unfoldable pub between : ℕ → ℕ → ℕ → Bool
between low high n = leb low n && leb n high

-- The number of the last of some phrases, 0 where there is none.
unfoldable pub last_number : List Phrase → ℕ
last_number [] = 0
last_number (phrase ∷ []) = phrase.number
last_number (phrase ∷ next ∷ rest) = last_number (next ∷ rest)

-- ── The faults of a record of kind k with its body ──

-- A field out of its range: edition 1; phrase number 1 to 65,535, rights code 1 to 12; least 0 to 224, most 0 to 60,000.
unfoldable pub out_of_range : ℕ → List ℕ → Bool
unfolding between two is_gap
out_of_range k body =
    cond (eqb k header_kind) (not (eqb (get_or body 0 0) the_edition))
    (cond (eqb k phrase_kind) (not (between 1 most_number (two body 0) && between 1 most_rights (get_or body 2 0)))
    (cond (eqb k bounded_kind) (not (leb (two body 0) most_least && leb (two body 2) most_most))
    (cond (eqb k open_kind) (not (leb (two body 0) most_least)) false)))

-- Least above most.
unfoldable pub least_above_most : ℕ → List ℕ → Bool
unfolding two
least_above_most k body = eqb k bounded_kind && ltb (two body 2) (two body 0)

-- A phrase number that is not above the one before.
unfoldable pub not_above : Stage → ℕ → List ℕ → Bool
unfolding two last_number phrases_at
not_above stage k body = eqb k phrase_kind && leb (two body 0) (last_number (phrases_at stage))

-- The 129th phrase, the ninth piece of a phrase or the 257th of the book, at its first record.
unfoldable pub one_too_many : Stage → ℕ → Bool
unfolding is_gap phrases_at pieces_at piece_count
one_too_many stage k =
    (eqb k phrase_kind && leb most_phrases (length (phrases_at stage)))
    || (is_gap k && (leb most_pieces_of_phrase (length (pieces_at stage)) || leb most_pieces (piece_count (phrases_at stage))))

-- An end record whose number is not the number of phrases.
unfoldable pub wrong_total : Stage → ℕ → List ℕ → Bool
unfolding two phrases_at
wrong_total stage k body = eqb k end_kind && not (eqb (two body 0) (length (phrases_at stage)))

-- A keyword that brings the prefixes above 2,047.
unfoldable pub above_full : Stage → ℕ → List ℕ → Bool
unfolding is_keyword phrases_at prefix_count keywords
above_full stage k body = is_keyword k && ltb most_prefixes (prefix_count (keywords (phrases_at stage) ++ body ∷ []))

-- ── The faults of what is left of the book ──

-- The book may stop where the end record has been read, and nowhere else.
unfoldable pub may_stop : Stage → Bool
may_stop start = false
may_stop headed = false
may_stop (named phrases phrase) = false
may_stop (gapped phrases phrase gap) = false
may_stop (worded phrases phrase) = false
may_stop (ended phrases) = true

-- A book that stops between records can only have stopped too early.
unfoldable pub stop_fault : Stage → Refusal → Bool
unfolding may_stop
stop_fault stage kind = false
stop_fault stage cut = not (may_stop stage)
stop_fault stage field = false
stop_fault stage crossed = false
stop_fault stage order = false
stop_fault stage many = false
stop_fault stage total = false
stop_fault stage full = false

-- A record of kind k, with the bytes behind its kind.
unfoldable pub record_fault : Stage → ℕ → List ℕ → Refusal → Bool
unfolding allowed body_length out_of_range least_above_most not_above one_too_many wrong_total above_full
record_fault stage k behind kind = not (allowed stage k)
record_fault stage k behind cut = ltb (length behind) (body_length k)
record_fault stage k behind field = out_of_range k (take (body_length k) behind)
record_fault stage k behind crossed = least_above_most k (take (body_length k) behind)
record_fault stage k behind order = not_above stage k (take (body_length k) behind)
record_fault stage k behind many = one_too_many stage k
record_fault stage k behind total = wrong_total stage k (take (body_length k) behind)
record_fault stage k behind full = above_full stage k (take (body_length k) behind)

unfoldable pub fault : Stage → List ℕ → Refusal → Bool
unfolding stop_fault record_fault
fault stage [] why = stop_fault stage why
fault stage (k ∷ behind) why = record_fault stage k behind why

-- The first fault in the document's order, if there is one.
unfoldable pub first_fault : Stage → List ℕ → Option Refusal
unfolding fault in_order first
first_fault stage rest = first (fault stage rest) in_order

-- A record of kind k stands with its body: none of the tests finds a fault in it.
pub record Stands (stage : Stage) (k : ℕ) (body : List ℕ) : Type 0 where
  pub allows : So (allowed stage k)
  pub whole : length body ≡ body_length k
  pub in_range : out_of_range k body ≡ false
  pub uncrossed : least_above_most k body ≡ false
  pub above : not_above stage k body ≡ false
  pub few_enough : one_too_many stage k ≡ false
  pub right_total : wrong_total stage k body ≡ false
  pub not_full : above_full stage k body ≡ false
