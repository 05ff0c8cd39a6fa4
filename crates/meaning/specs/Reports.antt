-- Which reports a letter has, and in which order. Assumes nothing: these are definitions.
use Rattle.std.specs.Prelude.{◌≡◌, ◌⊎◌, Bool, cond, ℕ, zero, suc, ◌<◌, length}
use mathlib.Core.List.{List, [], ◌∷◌, ◌++◌, map, Memᴰ}
use Rattle.meaning.specs.Books.{Phrase, Book}
use Rattle.meaning.specs.Matching.{Matches, matches}

-- A report is a phrase number and a place.
pub record Report : Type 0 where
  pub number : ℕ
  pub place : ℕ

abbrev pub report_of : Phrase → ℕ → Report
report_of phrase place = record { number = phrase.number; place = place }

-- A report is due: it is that of a phrase of the book which matches at its place, and at least one byte has been read there.
pub record Due (book : Book) (letter : List ℕ) (report : Report) : Type 0 where
  pub phrase : Phrase
  pub place : ℕ
  pub is : report ≡ report_of phrase place
  pub listed : Memᴰ phrase book.phrases
  pub read : 0 < place
  pub matched : Matches book phrase letter place

-- The elements of which a test holds, in their order.
unfoldable pub choose : {A : Type 0} → (A → Bool) → List A → List A
choose test [] = []
choose test (x ∷ xs) = let rest = choose test xs in cond (test x) (x ∷ rest) rest

-- The reports of one place: the phrases that match there, each once, in the book's order, which is that of their numbers.
unfoldable pub reports_at : Book → List ℕ → ℕ → List Report
unfolding choose matches
reports_at book letter place = map (λ phrase. report_of phrase place) (choose (λ phrase. matches book phrase letter place) book.phrases)

-- The reports of the places 1 to n, one place after the other.
unfoldable pub reports_up_to : Book → List ℕ → ℕ → List Report
unfolding reports_at
reports_up_to book letter zero = []
reports_up_to book letter (suc n) = reports_up_to book letter n ++ reports_at book letter (suc n)

-- The reports of a letter: by place, then by phrase number.
unfoldable pub reports : Book → List ℕ → List Report
unfolding reports_up_to
reports book letter = reports_up_to book letter (length letter)

-- ── The order ──

-- One report comes before another: by place, then by phrase number.
unfoldable pub Before : Report → Report → Type 0
Before r s = (r.place < s.place) ⊎ ((r.place ≡ s.place) × (r.number < s.number))

-- Each element stands in a relation to all that come after it.
unfoldable pub Sorted : {A : Type 0} → (A → A → Type 0) → List A → Type 0
Sorted R [] = Unit {0}
Sorted R (x ∷ xs) = ((y : _) → Memᴰ y xs → R x y) × Sorted R xs

-- The phrase numbers ascend.
unfoldable pub Ascending : List Phrase → Type 0
unfolding Sorted
Ascending phrases = Sorted (λ p q. p.number < q.number) phrases
