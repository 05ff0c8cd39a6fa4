-- A turn does what its record asks for, and goes on behind it, in table memory as long as before. Assumes nothing.
use mathlib.Core.Path.{◌≡◌, refl, sym, ap, subst, ◌∙◌}
use mathlib.Core.Bool.{Bool, true, false, cond}
use mathlib.Core.List.{List}
use Prim.Native.Nat.{ℕ, ◌≤◌, ◌<◌}
use native.Mathlib.Omega.{arith}
use lib.Dec.{ltb}
use lib.ListN.{length, set}
use borrow.Author.Tests.{lt-ltb, le-ltb}
use Rattle.tables.specs.Layout.{room_for_pieces, room_for_phrases}
use Rattle.std.proofs.Common.{Result, Ok, Err}
use Rattle.records.specs.declared.refusals.Refused.{Refused}
use Rattle.records.specs.declared.records.Record.{Record}
use Rattle.records.specs.declared.records.Record.TheVariants.{Header, Phrase, Bounded, Open, Keyword, End}
use Rattle.records.specs.declared.records.Found.{Found}
use Rattle.records.specs.Records.{read_at}
use Rattle.records.specs.Readers.{past_of}
use Rattle.records.specs.Prefixes.{Lies, Inside}
use Rattle.records.proofs.Shared.{read_inside, goes_ahead}
use Rattle.counters.specs.declared.Number.{Number}
use Rattle.counters.specs.declared.Rank.{Rank}
use Rattle.counters.specs.Counters.{rank_of}
use Rattle.survey.specs.declared.entries.Entry.{Entry}
use Rattle.survey.specs.declared.progress.Progress.{Progress}
use Rattle.survey.specs.declared.stretch.Stretch.{Stretch}
use Rattle.survey.specs.Stretches.{stretch}
use Rattle.survey.specs.Progress.{moved_to, after_name, after_piece}
use Rattle.survey.specs.Entries.{with_phrase, with_piece}
use Rattle.survey.specs.Turns.{noted, Reading, reading, phrase_turn, entry_for, keyword_turn, record_turn, turn_for, turn_at}
use Rattle.survey.proofs.Stored.{length_with_phrase, length_with_piece}
use Rattle.survey.proofs.Found.{ShortRecord, Short, read_short}

-- ── What the reader told ──

module _ (bytes : List ℕ) (now : Reading) {found : Found} (is : Ok found ≡ read_at bytes now.progress.at) {says : Record} (tells : found.says ≡ says) where
  -- What a record leaves is what the turn leaves.
  pub turned : {after : Reading} → after ≡ record_turn bytes now says found.next.at → after ≡ turn_at bytes now
  unfolding turn_at
  turned left = left ∙ ap (λ (told : Record). record_turn bytes now told found.next.at) (sym tells) ∙ ap (turn_for bytes now) is

  -- A keyword lies in the book,
  pub lies_told : Lies bytes says
  lies_told = subst (Lies bytes) tells (subst (Inside bytes) (sym is) (read_inside bytes now.progress.at))

  -- and is short.
  pub short_told : ShortRecord says
  short_told = subst ShortRecord tells (subst Short (sym is) (read_short bytes now.progress.at))

-- What is no phrase, no gap and no keyword.
pub record Passed (says : Record) : Type 0 where
  pub no_phrase : (number : Number) (rights : ℕ) → says ≡ Phrase number rights → ⊥
  pub no_bounded : (least most : ℕ) → says ≡ Bounded least most → ⊥
  pub no_open : (least : ℕ) → says ≡ Open least → ⊥
  pub no_keyword : (start count : ℕ) → says ≡ Keyword start count → ⊥

-- It only moves the progress on, past it.
module _ (bytes : List ℕ) (now : Reading) where
  passed_by : (says : Record) → Passed says → (next : ℕ) → reading (moved_to next now.progress) now.notes ≡ record_turn bytes now says next
  passed_by (Header edition) other next = refl
  passed_by (Phrase number rights) other next = absurd (other.no_phrase number rights refl)
  passed_by (Bounded least most) other next = absurd (other.no_bounded least most refl)
  passed_by (Open least) other next = absurd (other.no_open least refl)
  passed_by (Keyword start count) other next = absurd (other.no_keyword start count refl)
  passed_by (End count) other next = refl

  pub passed_turn : {found : Found} {onward : Progress} → Ok found ≡ read_at bytes now.progress.at → Passed found.says
      → onward ≡ moved_to found.next.at now.progress → reading onward now.notes ≡ turn_at bytes now
  passed_turn {found = found} is other moved =
      turned bytes now is refl (ap (λ (p : Progress). reading p now.notes) moved ∙ passed_by found.says other found.next.at)

  -- Where no record is found, the progress moves on to the book's end.
  pub refused_turn : {refused : Refused} {onward : Progress} → Err refused ≡ read_at bytes now.progress.at
      → onward ≡ moved_to (length bytes) now.progress → reading onward now.notes ≡ turn_at bytes now
  unfolding turn_at
  refused_turn is moved = ap (λ (p : Progress). reading p now.notes) moved ∙ ap (turn_for bytes now) is

-- ── What the code stored ──

-- The entry of the phrase, and the progress behind its record, are the turn of a phrase.
pub phrase_stored : (tables : List ℕ) (words : List Stretch) (progress : Progress) (number : Number) (rights next : ℕ) {stored : List ℕ} {rank : Rank} {onward : Progress}
    → progress.phrases < room_for_phrases
    → stored ≡ with_phrase rank.0 number.0 rights tables
    → onward ≡ after_name rank next progress
    → rank ≡ rank_of progress.phrases
    → reading onward (noted stored words) ≡ phrase_turn number rights next (reading progress (noted tables words))
unfolding phrase_turn
phrase_stored tables words progress number rights next few put is ranked = rw (lt-ltb progress.phrases room_for_phrases few, is, put, ranked)

module _ (bytes tables : List ℕ) (words : List Stretch) (progress : Progress) where
  -- Where there is no room, only the progress moves on.
  pub keyword_full : (word : Stretch) (next : ℕ) {onward : Progress} → room_for_pieces ≤ progress.pieces → onward ≡ moved_to next progress
      → reading onward (noted tables words) ≡ keyword_turn bytes word next (reading progress (noted tables words))
  unfolding keyword_turn
  keyword_full word next full is = rw (le-ltb progress.pieces room_for_pieces full, is)

  -- The entry of the piece, the keyword noted, and the progress behind it are the turn of a keyword.
  pub keyword_stored : (word : Stretch) (next : ℕ) {stored : List ℕ} {entry : Entry} {onward : Progress} → progress.pieces < room_for_pieces
      → stored ≡ with_piece progress.pieces entry tables
      → onward ≡ after_piece next progress
      → entry ≡ entry_for bytes progress word next
      → reading onward (noted stored (set words progress.pieces word))
      ≡ keyword_turn bytes word next (reading progress (noted tables words))
  unfolding keyword_turn
  keyword_stored word next few put is entered = rw (lt-ltb progress.pieces room_for_pieces few, is, put, entered)

-- ── Where the turn goes on ──

-- The next reading stands at an offset, and its table memory is as long as before.
record Arrives (now next : Reading) (at : ℕ) : Type 0 where
  there : next.progress.at ≡ at
  long : length next.notes.tables ≡ length now.notes.tables

either : (P : Reading → Type 0) (test : Bool) {x y : Reading} → P x → P y → P (cond test x y)
either P true p q = p
either P false p q = q

module _ (bytes : List ℕ) (now : Reading) where
  phrase_on : (number : Number) (rights next : ℕ) → Arrives now (phrase_turn number rights next now) next
  unfolding phrase_turn
  phrase_on number rights next =
      either (λ later. Arrives now later next) (ltb now.progress.phrases room_for_phrases)
      (record { there = refl; long = length_with_phrase now.progress.phrases number.0 rights now.notes.tables }) (record { there = refl; long = refl })

  keyword_on : (word : Stretch) (next : ℕ) → Arrives now (keyword_turn bytes word next now) next
  unfolding keyword_turn
  keyword_on word next =
      either (λ later. Arrives now later next) (ltb now.progress.pieces room_for_pieces)
      (record { there = refl; long = length_with_piece now.progress.pieces (entry_for bytes now.progress word next) now.notes.tables }) (record { there = refl; long = refl })

  record_on : (says : Record) (next : ℕ) → Arrives now (record_turn bytes now says next) next
  record_on (Header edition) next = record { there = refl; long = refl }
  record_on (Phrase number rights) next = phrase_on number rights next
  record_on (Bounded least most) next = record { there = refl; long = refl }
  record_on (Open least) next = record { there = refl; long = refl }
  record_on (Keyword start count) next = keyword_on (stretch start count) next
  record_on (End count) next = record { there = refl; long = refl }

  found_on : (found : Result Found Refused) → Arrives now (turn_for bytes now found) (past_of found (length bytes))
  found_on (Ok found) = record_on found.says found.next.at
  found_on (Err refused) = record { there = refl; long = refl }

  -- A turn goes on ahead,
  pub turn_ahead : now.progress.at < length bytes → now.progress.at < (turn_at bytes now).progress.at
  unfolding turn_at
  turn_ahead more =
      let found : Result Found Refused = read_at bytes now.progress.at in
      omega (arith, (found_on found).there, goes_ahead bytes now.progress.at (length bytes) refl refl more)

  -- and leaves the table memory as long as it was.
  pub turn_long : length (turn_at bytes now).notes.tables ≡ length now.notes.tables
  unfolding turn_at
  turn_long = (found_on (read_at bytes now.progress.at)).long
