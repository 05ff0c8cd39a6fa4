-- What is within the limits so far can be completed: an end record, a keyword that stands there already, a gap, and so on back; a
-- phrase that has been named behind 256 pieces cannot. Assumes nothing.
use mathlib.Core.Path.{◌≡◌, refl, sym, ap, ◌∙◌}
use mathlib.Core.Logic.{◌↔◌, ⊎_elim}
use mathlib.Core.Bool.{Bool, false, ◌&&◌}
use mathlib.Core.List.Memᴰ
use mathlib.Core.List.{List, [], ◌∷◌, ◌++◌, append_assoc, append-nil, Memᴰ}
use mathlib.Core.Option.{Option, none, some}
use Prim.Native.Nat.{ℕ, ◌+◌, ◌≤◌, ◌<◌}
use native.Mathlib.Omega.{arith}
use lib.Dec.{leb, eqb}
use lib.ListN.{length, take}
use Rattle.meaning.specs.Books.{Gap, open_from, Piece, Phrase, keywords}
use Rattle.format.specs.Refusals.{Refusal, cut}
use Rattle.format.specs.Prefixes.{prefix_count}
use Rattle.format.specs.Limits.{All, Bytes, Between, GapWithin, PieceWithin, PhraseSoFar, PhraseWithin, piece_count, longest_keyword, most_phrases, most_pieces, most_prefixes}
use Rattle.format.specs.Written.{phrase_kind, written}
use Rattle.format.specs.Stages.{Stage, start, headed, named, gapped, worded, ended, phrases_at, pieces_at, written_to, SoFar, Begins, NoPieceLeft}
use Rattle.format.specs.Faults.{allowed, is_gap, body_length, last_number, one_too_many, may_stop, first_fault, Stands}
use Rattle.format.specs.Judged.{accepted, refused, with_piece, judged}
use Rattle.format.proofs.Tests.{neither, less_or_not}
use Rattle.format.proofs.Lists.{all_append, all_so}
use Rattle.format.proofs.Prefixes.{count_within}
use Rattle.format.proofs.Counted.{count_pieces, keywords_of}
use Rattle.format.proofs.Bodies.{no_room}
use Rattle.format.proofs.FirstFault.{stop_fault_lem, stands_iff}
use Rattle.format.proofs.Standing.{Room, room_iff}
use Rattle.format.proofs.Made.{Made, header_made, phrase_made, gap_made, keyword_made, end_made}
use Rattle.format.proofs.Steps.{phrase_headed, piece_named}
use Rattle.format.proofs.Reading.{Reached, reached, fault_refuses, accepted_judged}

-- A book that begins with a further record begins with those before it.
back : (stage next : Stage) → Made stage next → (SoFar next → Begins next) → Begins stage
back stage next made later =
    let begins : Begins next = later made.leads.to in
    let record_then : List ℕ = made.k ∷ made.body in
    record {
      book = begins.book;
      within = begins.within;
      rest = record_then ++ begins.rest;
      whole = begins.whole ∙ ap (λ (l : List ℕ). l ++ begins.rest) made.leads.writes ∙ append_assoc (written_to stage) record_then begins.rest;
    }

-- ── A keyword that brings no prefixes ──

-- A keyword of 1 to 32 bytes.
abbrev Fit : List ℕ → Type 0
Fit w = Between 1 longest_keyword (length w) × Bytes w

fit_pieces : (pieces : List Piece) → All PieceWithin pieces → All Fit (keywords_of pieces)
unfolding All
fit_pieces [] h = tt
fit_pieces (piece ∷ rest) h = ((h.0.long, h.0.bytes), fit_pieces rest h.1)

fit_phrases : (phrases : List Phrase) → All PhraseSoFar phrases → All Fit (keywords phrases)
unfolding All keywords
fit_phrases [] h = tt
fit_phrases (phrase ∷ rest) h =
    all_append Fit (keywords_of phrase.pieces) (keywords rest) (fit_pieces phrase.pieces h.0.pieces) (fit_phrases rest h.1)

-- There is always one more keyword: the first once more, or any where there is none.
record Further (ws : List (List ℕ)) : Type 0 where
  pub keyword : List ℕ
  pub fit : Fit keyword
  pub few : prefix_count (ws ++ keyword ∷ []) ≤ most_prefixes

further : (ws : List (List ℕ)) → All Fit ws → prefix_count ws ≤ most_prefixes → Further ws
unfolding All prefix_count
further [] h few = record { keyword = 0 ∷ []; fit = (omega arith, (omega arith, tt)); few = omega arith }
further (w ∷ ws) h few = record { keyword = w; fit = h.0; few = omega (arith, count_within (w ∷ ws ++ w ∷ []) (w ∷ ws) again) }
  where
    again : (v : List ℕ) → Memᴰ v (w ∷ ws ++ w ∷ []) → Memᴰ v (w ∷ ws)
    again v m = ⊎_elim (λ k. k) (λ k. Memᴰ.head (Memᴰ.eq_of_singleton k)) (Memᴰ.append_cases (w ∷ ws) m)

-- ── Back from the end ──

ended_begins : (phrases : List Phrase) → SoFar (ended phrases) → Begins (ended phrases)
unfolding SoFar written_to
ended_begins phrases s = record {
  book = record { phrases = phrases };
  within = record { each = s.0; counts = s.1; some = s.2 };
  rest = [];
  whole = sym (append-nil (written (record { phrases = phrases })));
}

worded_begins : (phrases : List Phrase) (phrase : Phrase) → SoFar (worded phrases phrase) → Begins (worded phrases phrase)
worded_begins phrases phrase s =
    let all : List Phrase = phrases ++ phrase ∷ [] in
    back (worded phrases phrase) (ended all) (end_made phrases phrase s) (ended_begins all)

gapped_begins : (phrases : List Phrase) (phrase : Phrase) (gap : Gap) → SoFar (gapped phrases phrase gap) → Begins (gapped phrases phrase gap)
unfolding SoFar All
gapped_begins phrases phrase gap s =
    let all : List Phrase = phrases ++ phrase ∷ [] in
    let earlier : All PhraseSoFar phrases = all_so PhraseWithin PhraseSoFar (λ p h. h.so_far) phrases s.0 in
    let fit : All Fit (keywords all) = fit_phrases all (all_append PhraseSoFar phrases (phrase ∷ []) earlier (s.1, tt)) in
    let more : Further (keywords all) = further (keywords all) fit s.2.prefixes in
    let piece : Piece = record { gap = gap; keyword = more.keyword } in
    let made = keyword_made phrases phrase piece s more.fit.0 more.fit.1 more.few in
    back (gapped phrases phrase gap) (worded phrases (with_piece phrase piece)) made (worded_begins phrases (with_piece phrase piece))

named_begins : (phrases : List Phrase) (phrase : Phrase) → SoFar (named phrases phrase) → piece_count phrases + 1 ≤ most_pieces → Begins (named phrases phrase)
unfolding SoFar phrases_at pieces_at GapWithin
named_begins phrases phrase s room =
    let stage : Stage = named phrases phrase in
    let none_yet : length phrase.pieces ≡ 0 = ap length s.2 in
    let in_both : Room stage = (omega arith, omega (arith, count_pieces phrases phrase)) in
    let made = gap_made stage s phrases phrase (piece_named phrases phrase s) (open_from 0) (omega arith) in_both in
    back stage (gapped phrases phrase (open_from 0)) made (gapped_begins phrases phrase (open_from 0))

headed_begins : Begins headed
unfolding SoFar piece_count last_number
headed_begins =
    let first : Phrase = record { number = 1; rights = 1; pieces = [] } in
    let made = phrase_made headed tt [] phrase_headed first refl (omega arith) (omega arith) (omega arith) (omega arith) in
    back headed (named [] first) made (λ s. named_begins [] first s (omega arith))

start_begins : Begins start
start_begins = back start headed header_made (λ s. headed_begins)

-- ── What cannot be completed ──

-- Behind 256 pieces no gap stands,
no_gap : (phrases : List Phrase) (phrase : Phrase) → piece_count phrases ≡ most_pieces → (k : ℕ) (body : List ℕ) → Stands (named phrases phrase) k body → ⊥
unfolding allowed phrases_at one_too_many
no_gap phrases phrase e k body stands =
    let stage : Stage = named phrases phrase in
    let r : is_gap k && no_room stage ≡ false =
    (neither (eqb k phrase_kind && leb most_phrases (length (phrases_at stage))) (is_gap k && no_room stage) stands.few_enough).1 in
    let room : no_room stage ≡ false = ap (λ (v : Bool). v && no_room stage) (sym stands.allows) ∙ r in
    omega (arith, ((room_iff stage).0 room).1, count_pieces phrases phrase)

-- and so whatever follows a phrase record there has a fault.
always_fault : (phrases : List Phrase) (phrase : Phrase) → piece_count phrases ≡ most_pieces → (rest : List ℕ)
    → (why : Refusal) × (first_fault (named phrases phrase) rest ≡ some why)
unfolding may_stop
always_fault phrases phrase e [] = (cut, stop_fault_lem (named phrases phrase))
always_fault phrases phrase e (k ∷ behind) = go (first_fault (named phrases phrase) (k ∷ behind)) refl
  where
    go : (v : Option Refusal) → first_fault (named phrases phrase) (k ∷ behind) ≡ v
        → (why : Refusal) × (first_fault (named phrases phrase) (k ∷ behind) ≡ some why)
    go none f = absurd (no_gap phrases phrase e k (take (body_length k) behind) ((stands_iff (named phrases phrase) k behind).0 f))
    go (some why) f = (why, f)

-- No book within the limits begins with a phrase record behind 256 pieces.
pub none_begins : (stage : Stage) → SoFar stage → NoPieceLeft stage → Begins stage → ⊥
unfolding NoPieceLeft Reached
none_begins start s e b = e
none_begins headed s e b = e
none_begins (named phrases phrase) s e b =
    let stage : Stage = named phrases phrase in
    let there = reached stage s b.rest in
    let f = always_fault phrases phrase e b.rest in
    let refuses = fault_refuses there.0 stage (length (written_to stage)) b.rest f.0 f.1 in
    let both : accepted b.book (length (written b.book)) ≡ refused f.0 (length (written_to stage)) =
    sym (accepted_judged b.book b.within) ∙ ap judged b.whole ∙ there.2 ∙ refuses in
    let z : ◌≡◌ {A = ℕ} 0 1 = cc in
    omega arith
none_begins (gapped phrases phrase gap) s e b = e
none_begins (worded phrases phrase) s e b = e
none_begins (ended phrases) s e b = e

-- ── Both ──

-- All else that is within the limits so far begins a book within the limits.
pub so_far_begins : (stage : Stage) → SoFar stage → (NoPieceLeft stage → ⊥) → Begins stage
unfolding NoPieceLeft SoFar
so_far_begins start s h = start_begins
so_far_begins headed s h = headed_begins
so_far_begins (named phrases phrase) s h = named_begins phrases phrase s (⊎_elim
    (λ (l : piece_count phrases < most_pieces). omega arith)
    (λ (l : most_pieces ≤ piece_count phrases). absurd (h (omega (arith, s.3.pieces, count_pieces phrases phrase))))
    (less_or_not (piece_count phrases) most_pieces))
so_far_begins (gapped phrases phrase gap) s h = gapped_begins phrases phrase gap s
so_far_begins (worded phrases phrase) s h = worded_begins phrases phrase s
so_far_begins (ended phrases) s h = ended_begins phrases s

-- What is within the limits so far begins a book within the limits exactly when it has not named a phrase behind 256 pieces.
pub begins_iff : (stage : Stage) → SoFar stage → Begins stage ↔ (NoPieceLeft stage → ⊥)
begins_iff stage s = (λ b e. none_begins stage s e b, so_far_begins stage s)
