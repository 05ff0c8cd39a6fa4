-- The windows before the first byte: those of the first pieces wait from place 0. Assumes nothing: these are definitions.
use Rattle.std.specs.Prelude.{cond, List, ℕ, zero, suc}
use Rattle.lent.specs.Zeros.{with_zeros}
use Rattle.tables.specs.Reads.{piece_count_in, first_in}
use Rattle.running.specs.Layout.{running_size}
use Rattle.window.specs.Waiting.{with_waiting_from}

-- The memory with piece p waiting from place 0, if it is the first of its phrase.
unfoldable pub waiting_if_first : List ℕ → List ℕ → ℕ → List ℕ
waiting_if_first t m p = cond (first_in t p) (with_waiting_from t m p 0) m

-- The memory with each first piece, of the pieces below n, waiting from place 0.
unfoldable pub firsts_waiting : List ℕ → List ℕ → ℕ → List ℕ
firsts_waiting t m zero = m
firsts_waiting t m (suc p) = waiting_if_first t (firsts_waiting t m p) p

-- The running memory with nothing in it, whatever it held.
abbrev pub cleared : List ℕ → List ℕ
cleared m = with_zeros m 0 running_size

-- How many pieces are looked at: all that the tables have.
abbrev pub looked_through : List ℕ → ℕ
looked_through t = piece_count_in t

-- The running memory with nothing in it but the windows of the first pieces.
unfoldable pub windows_begun : List ℕ → List ℕ → List ℕ
windows_begun t m = firsts_waiting t (cleared m) (looked_through t)
