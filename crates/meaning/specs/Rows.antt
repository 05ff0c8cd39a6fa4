-- Rows A to M of document 01, as it lists them. Assumes nothing: these are definitions.
use Rattle.std.specs.Prelude.{List, [], ◌∷◌, ◌++◌, ℕ, zero, suc, length}
use Rattle.std.proofs.Math.Option.{Option, none, some, map}
use Prim.Native.Char.{code}
use Prim.Native.String.{String}
use Rattle.meaning.specs.Books.{bounded, open_from, Piece, Phrase, Book}
use Rattle.meaning.specs.Reports.{Report, reports}
use Rattle.meaning.specs.Automaton.{is_state, steps_at}

-- The bytes of a text of plain letters.
abbrev pub bytes : String → List ℕ
bytes String.[] = []
bytes (String.◌∷◌ c s) = code c ∷ bytes s

-- ── How a row is written ──

-- "~" in front of a keyword is an open gap from 0, "^" the gap 0 to 0, and {least,most} the gap between two keywords.
abbrev pub anywhere : String → Piece
anywhere w = record { gap = open_from 0; keyword = bytes w }

abbrev pub at_start : String → Piece
at_start w = record { gap = bounded 0 0; keyword = bytes w }

abbrev pub within : ℕ → ℕ → String → Piece
within least most w = record { gap = bounded least most; keyword = bytes w }

abbrev pub phrase : ℕ → List Piece → Phrase
phrase number pieces = record { number = number; rights = 1; pieces = pieces }

abbrev pub one_phrase : List Piece → Book
one_phrase pieces = record { phrases = phrase 1 pieces ∷ [] }

abbrev pub hit : ℕ → ℕ → Report
hit number place = record { number = number; place = place }

-- What a row lists: its reports, and in row L the failure steps of each byte.
pub record Listed : Type 0 where
  pub hits : List Report
  pub steps : Option (List ℕ)

pub record Row : Type 0 where
  pub book : Book
  pub letter : List ℕ
  pub listed : Listed

abbrev pub row : Book → String → List Report → Row
row book letter hits = record { book = book; letter = bytes letter; listed = record { hits = hits; steps = none } }

abbrev pub row_with_steps : Book → String → List Report → List ℕ → Row
row_with_steps book letter hits each = record { book = book; letter = bytes letter; listed = record { hits = hits; steps = some each } }

-- ── The rows ──

-- ~a{1,2}a
abbrev pub a_gap_a : Book
a_gap_a = one_phrase (anywhere "a" ∷ within 1 2 "a" ∷ [])

-- ~aa{0,0}aa
abbrev pub aa_then_aa : Book
aa_then_aa = one_phrase (anywhere "aa" ∷ within 0 0 "aa" ∷ [])

-- 1 ~aa, 2 ~abaaa, 3 ~abab
abbrev pub three : Book
three = record {
  phrases =
      phrase 1 (anywhere "aa" ∷ [])
      ∷ phrase 2 (anywhere "abaaa" ∷ [])
      ∷ phrase 3 (anywhere "abab" ∷ []) ∷ [];
}

unfoldable pub rows : List Row
rows =
    {- A -}
    row (one_phrase (at_start "ab" ∷ [])) "abab" (hit 1 2 ∷ [])
    ∷ {- B -} row (one_phrase (anywhere "ab" ∷ [])) "abab" (hit 1 2 ∷ hit 1 4 ∷ [])
    ∷ {- C -} row a_gap_a "aa" []
    ∷ {- D -} row a_gap_a "aba" (hit 1 3 ∷ [])
    ∷ {- E -} row a_gap_a "abba" (hit 1 4 ∷ [])
    ∷ {- F -} row a_gap_a "abbba" []
    ∷ {- G -} row a_gap_a "aaaaa" (hit 1 3 ∷ hit 1 4 ∷ hit 1 5 ∷ [])
    ∷ {- H -} row (one_phrase (anywhere "a" ∷ within 2 2 "b" ∷ [])) "aaxb" (hit 1 4 ∷ [])
    ∷ {- I -} row aa_then_aa "aaa" []
    ∷ {- J -} row aa_then_aa "aaaa" (hit 1 4 ∷ [])
    ∷ {- K -} row (one_phrase (anywhere "a" ∷ anywhere "b" ∷ [])) "aab" (hit 1 3 ∷ [])
    ∷ {- L -} row_with_steps three "abaaabab" (hit 1 4 ∷ hit 1 5 ∷ hit 2 5 ∷ hit 3 8 ∷ []) (0 ∷ 0 ∷ 0 ∷ 0 ∷ 0 ∷ 2 ∷ 0 ∷ 0 ∷ [])
    ∷ {- M -} row three "" []
    ∷ []

-- ── What the definitions give for a row ──

-- The failure steps of each of the first n bytes.
unfoldable pub steps_of_each : Book → List ℕ → ℕ → List ℕ
unfolding is_state steps_at
steps_of_each book letter zero = []
steps_of_each book letter (suc n) = steps_of_each book letter n ++ steps_at (is_state book) letter n ∷ []

-- The reports of the row's letter, and the steps of each byte where the row lists them.
unfoldable pub given : Row → Listed
unfolding reports steps_of_each
given r = record {
  hits = reports r.book r.letter;
  steps = map (λ _. steps_of_each r.book r.letter (length r.letter)) r.listed.steps;
}
