-- On the tables of a book begin leaves the book's memory before the first byte, whatever the memory held: it is zeroed, and the first
-- pieces wait.
-- Assumes nothing.
use mathlib.Core.Path.{◌≡◌, refl, ◌∙◌}
use mathlib.Core.Logic.{inr}
use mathlib.Core.List.{List}
use Prim.Native.Nat.{ℕ, ◌≤◌}
use native.Mathlib.Omega.{arith}
use lib.ListN.{length}
use Rattle.lent.specs.Numbers.{Bytes, with_number}
use Rattle.lent.proofs.Numbers.{length_with_number, number_byte_apart, number_bytes_kept}
use Rattle.meaning.specs.Books.{Book}
use Rattle.tables.specs.Reads.{mark_in}
use Rattle.tables.proofs.Passing.{laid_pass}
use Rattle.running.specs.Layout.{running_size, tag_at, mark_at, running_tag}
use Rattle.running.specs.Reads.{WholeRunning}
use Rattle.window.specs.Begun.{windows_begun}
use Rattle.window.proofs.Begun.{length_begun}
use Rattle.tracking.specs.Head.{begun_with}
use Rattle.window.proofs.Begin.{past_begin, bytes_begin}
use Rattle.tracking.proofs.Head.{laid_begin}
use Rattle.scanner.specs.Answers.{memory_number, begun_number}
use Rattle.scanner.specs.Exact.{BeginEnd, begin_of}
use Rattle.scanner.specs.Meant.{TablesOf, PastKept, BeginDone}
use Rattle.scanner.specs.Promised.{BeginPromise}
use Rattle.scanner.proofs.Passing.{small, large}
use Rattle.scanner.proofs.Cases.{begin_small, begin_not_tables, begin_done}

-- ── What begin writes keeps the length ──

pub length_begun_with : (t m : List ℕ) → length (begun_with t m) ≡ length m
unfolding begun_with
length_begun_with t m =
    length_with_number 8 (with_number 8 (windows_begun t m) mark_at (mark_in t)) tag_at running_tag
    ∙ length_with_number 8 (windows_begun t m) mark_at (mark_in t)
    ∙ length_begun t m

module _ (book : Book) (t m : List ℕ) (tables : TablesOf book t) (long : running_size ≤ length m) (bytes : Bytes m) where
  sized : WholeRunning m
  unfolding running_size
  sized = long

  past : PastKept m (begun_with t m)
  unfolding begun_with running_size
  past = (
    length_begun_with t m,
    λ i above. number_byte_apart 8 (with_number 8 (windows_begun t m) mark_at (mark_in t)) tag_at running_tag i (inr (omega arith))
        ∙ number_byte_apart 8 (windows_begun t m) mark_at (mark_in t) i (inr (omega arith))
        ∙ past_begin book tables.limits t tables.laid m sized i above,
  )

  begun_bytes : Bytes (begun_with t m)
  unfolding begun_with
  begun_bytes = number_bytes_kept 8 (with_number 8 (windows_begun t m) mark_at (mark_in t)) tag_at running_tag
      (number_bytes_kept 8 (windows_begun t m) mark_at (mark_in t) (bytes_begin book tables.limits t tables.laid m sized bytes))

  pub begin_means : BeginDone book m (begin_of t m)
  unfolding begun_number
  begin_means = rw (begin_done t m (large t m tables.long long) (laid_pass book tables.limits t tables.long tables.laid)) (record {
    number = refl;
    memory = record {
      early = omega arith;
      long = rw (length_begun_with t m) long;
      laid = laid_begin book tables.limits t tables.laid tables.bytes m sized bytes;
      bytes = begun_bytes;
    };
    past = past;
  })

-- ── All that begin promises follows from what it does exactly ──

pub begin_promised : (t m : List ℕ) (end : BeginEnd) → end ≡ begin_of t m → BeginPromise t m end
unfolding memory_number begun_number
begin_promised t m end e = rw e (record {
  exact = refl;
  small = λ h. rw (begin_small t m (small t m h)) (record { says = refl; memory_kept = refl });
  not_tables = λ a b p. rw (begin_not_tables t m (large t m a b) p) (record { says = refl; memory_kept = refl });
  means = λ book tables long bytes. begin_means book t m tables long bytes;
})
