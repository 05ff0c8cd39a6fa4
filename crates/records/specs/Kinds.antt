-- The kinds of document 01's table, and the bytes that say them. Assumes nothing: these are definitions.
use Rattle.std.specs.Prelude.{◌≡◌, Bool, true, false, ◌||◌, ℕ, ◌+◌, eqb, Option, Some, None}
use Rattle.format.specs.Written.{header_kind, phrase_kind, bounded_kind, open_kind, end_kind, keyword_base}
use Rattle.format.specs.Faults.{is_keyword}
use Rattle.records.specs.declared.kinds.Kind.{Kind}
use Rattle.records.specs.declared.kinds.Kind.TheVariants.{Header, Phrase, Bounded, Open, Keyword, End}

-- The kinds of the table.
unfoldable pub known : ℕ → Bool
unfolding is_keyword
known k = eqb k header_kind || (eqb k phrase_kind || (eqb k bounded_kind || (eqb k open_kind || (eqb k end_kind || is_keyword k))))

-- The byte that says a kind; that of a keyword says its length too.
abbrev pub byte_of : Kind → ℕ
byte_of Header = header_kind
byte_of Phrase = phrase_kind
byte_of Bounded = bounded_kind
byte_of Open = open_kind
byte_of (Keyword length) = keyword_base + length
byte_of End = end_kind

-- A byte of the table is read as the kind that it says, and any other as none.
abbrev pub Reads : ℕ → Option Kind → Type 0
Reads byte (Some kind) = (byte_of kind ≡ byte) × (known byte ≡ true)
Reads byte None = known byte ≡ false
