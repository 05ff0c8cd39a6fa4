-- What each function promises: exactly, for all that it can be lent, and by document 01's meaning.
-- Assumes nothing: these are definitions.
use Rattle.std.specs.Prelude.{◌≡◌, List, ℕ, ◌≤◌, length}
use Rattle.meaning.specs.Books.{Book}
use Rattle.format.specs.Judged.{judged}
use Rattle.tables.specs.Layout.{tables_size}
use Rattle.running.specs.Layout.{running_size}
use Rattle.scanner.specs.Meant.{TablesOf, RunningOf}
use Rattle.parts.specs.Exact.{OpenEnd, open_of, ListEnd, list_of}
use Rattle.parts.specs.Meant.{OpensAs, ListRight}

pub record OpenPromise (book t m out : List ℕ) (end : OpenEnd) : Type 0 where
  pub exact : end ≡ open_of book t m out
  pub means : tables_size ≤ length t → running_size ≤ length m → OpensAs (judged book) out end

pub record ListPromise (t m part room out : List ℕ) (end : ListEnd) : Type 0 where
  pub exact : end ≡ list_of t m part room out
  pub means : (book : Book) (x : List ℕ) → TablesOf book t → RunningOf book x m → ListRight book x m part room out end
