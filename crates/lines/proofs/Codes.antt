-- The rights codes of built tables are the book's: rank after rank the tables have the number and the code of the phrase that stands there.
-- Assumes nothing.
use mathlib.Core.Path.{◌≡◌, refl, sym, ap, ◌∙◌}
use mathlib.Core.Bool.{Bool, true, false, cond}
use mathlib.Core.List.{List, [], ◌∷◌}
use Prim.Native.Nat.{ℕ, zero, suc, ◌+◌, ◌<◌}
use native.Mathlib.Numerals.{add-one}
use native.Mathlib.Omega.{arith}
use lib.Dec.{eqb}
use lib.ListN.{length, drop, get_or, length-drop}
use lib.Seq.{drop-cons}
use Rattle.lent.specs.Numbers.{Bytes}
use Rattle.meaning.specs.Books.{Phrase, Book}
use Rattle.format.specs.Limits.{Within}
use Rattle.tables.specs.Spots.{no_phrase}
use Rattle.tables.specs.Regions.{Laid}
use Rattle.tables.specs.Layout.{tables_layout, number_of_rank, rights_of_rank}
use Rattle.tables.specs.Reads.{phrase_count_in, phrase_number_in}
use Rattle.tables.proofs.Fields.{phrase_count_laid, phrase_number_laid, phrase_rights_laid}
use Rattle.listing.specs.Listing.{rights_of}
use Rattle.lines.specs.Rights.{code_found, rights_from, rights_in}

-- A code is a byte.
code_small : (t : List ℕ) → Bytes t → (number j n : ℕ) → rights_from t number j n < 256
unfolding rights_from
code_small t bytes number j zero = omega arith
code_small t bytes number j (suc n) = go (eqb (phrase_number_in t j) number) (code_small t bytes number (j + 1) n)
  where
    go : (v : Bool) → rights_from t number (j + 1) n < 256 → cond v (code_found t j) (rights_from t number (j + 1) n) < 256
    go true later = bytes _
    go false later = later

same_choice : (number a b c d e f : ℕ) → a ≡ b → c ≡ d → e ≡ f → cond (eqb a number) c e ≡ cond (eqb b number) d f
same_choice number a b c d e f p q r = rw (p, q, r)

module _ (book : Book) (limits : Within book) (t : List ℕ) (laid : Laid (tables_layout book) t) where
  codes_from : (number j : ℕ) (rest : List Phrase) → drop j book.phrases ≡ rest → rights_from t number j (length rest) ≡ rights_of rest number
  unfolding rights_from rights_of number_of_rank rights_of_rank
  codes_from number j [] e = refl
  codes_from number j (phrase ∷ rest) e =
      let inside : j < length book.phrases = omega (arith, ap length e, length-drop j book.phrases) in
      let split : get_or book.phrases j no_phrase ∷ drop (suc j) book.phrases ≡ phrase ∷ rest = sym (drop-cons book.phrases j no_phrase inside) ∙ e in
      let here : get_or book.phrases j no_phrase ≡ phrase = ap (λ (l : List Phrase). get_or l 0 no_phrase) split in
      let behind : drop (j + 1) book.phrases ≡ rest = ap (λ (k : ℕ). drop k book.phrases) (add-one j) ∙ ap (λ (l : List Phrase). drop 1 l) split in
      same_choice number _ _ _ _ _ _
      (phrase_number_laid book limits t laid j inside ∙ ap (λ (p : Phrase). p.number) here)
      (phrase_rights_laid book limits t laid j inside ∙ ap (λ (p : Phrase). p.rights) here)
      (codes_from number (j + 1) rest behind)

  pub codes_right : (number : ℕ) → rights_in t number ≡ rights_of book.phrases number
  unfolding rights_in
  codes_right number = ap (rights_from t number 0) (phrase_count_laid book limits t laid) ∙ codes_from number 0 book.phrases refl

  pub code_fits : Bytes t → (number : ℕ) → rights_of book.phrases number < 256
  unfolding rights_in
  code_fits bytes number = rw (← codes_right number) (code_small t bytes number 0 (phrase_count_in t))
