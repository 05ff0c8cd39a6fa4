-- Each way through open_book is one case of its definition, by what build and begin answer.
-- Assumes nothing.
use mathlib.Core.Path.{◌≡◌, refl, sym, ap, ap₂, subst, ◌∙◌}
use mathlib.Core.Bool.{Bool, true, false, cond}
use mathlib.Core.List.{List}
use Prim.Native.Nat.{ℕ, ◌≤◌}
use native.Mathlib.Omega.{arith}
use lib.Dec.{eqb}
use lib.ListN.{length}
use borrow.Author.Tests.{eq-eqb, ne_eqb}
use Rattle.std.specs.Prelude.{Ok, Err}
use Rattle.tables.specs.Reads.{Whole, phrase_count_in}
use Rattle.builder.specs.Answers.{Built, Said, said, said_by}
use Rattle.builder.specs.Build.{Outcome, outcome, build_of}
use Rattle.builder.specs.declared.answers.BuildError.{BuildError}
use Rattle.builder.proofs.Once.{refused_number}
use Rattle.scanner.specs.declared.refusals.MemoryError.{MemoryError}
use Rattle.scanner.specs.Answers.{Begun, memory_number, begun_number}
use Rattle.scanner.specs.Passing.{too_small}
use Rattle.scanner.specs.Exact.{BeginEnd, begin_of}
use Rattle.scanner.proofs.Passing.{whole}
use Rattle.scanner.proofs.Cases.{begin_small}
use Rattle.listing.specs.Lines.{book_line, refused_line}
use Rattle.listing.specs.Writing.{Left, left, with_line}
use Rattle.lines.specs.Answers.{opened_end}
use Rattle.lines.proofs.Ends.{line_inside}
use Rattle.parts.specs.Exact.{OpenEnd, ready_with, ready_as, begun_of, refused_answer, refused_with, opened_as, open_of}

-- ── The letter begins ──

-- Tables that begin takes are as long as published.
pub begun_whole : (t m : List ℕ) (end : BeginEnd) → end ≡ begin_of t m → end.answer ≡ Ok tt → Whole t
unfolding memory_number begun_number
begun_whole t m end is done = go (too_small t m) refl
  where
    go : (v : Bool) → too_small t m ≡ v → Whole t
    go true small = absurd (omega (arith, ap begun_number (sym done ∙ ap (λ (e : BeginEnd). e.answer) (is ∙ begin_small t m small))))
    go false large = (whole t m large).0

module _ (t m out : List ℕ) (offset : ℕ) (end : BeginEnd) (is : end ≡ begin_of t m) where
  -- What begin answers decides.
  pub begun_as : (answer : Begun) → end.answer ≡ answer → ready_as answer t end.memory out offset ≡ begun_of t m out offset
  unfolding begun_of
  begun_as answer e =
      ap (λ (a : Begun). ready_as a t end.memory out offset) (sym e)
      ∙ ap (λ (b : BeginEnd). ready_as b.answer t b.memory out offset) is

  pub begun_refused : (why : MemoryError) → end.answer ≡ Err why
      → record { answer = Err (record { end = 0 }); tables = t; running = end.memory; out = out } ≡ begun_of t m out offset
  unfolding ready_as
  begun_refused why e = begun_as (Err why) e

  pub begun_ready : end.answer ≡ Ok tt → (after : List ℕ) (r : ℕ) → left after r ≡ with_line out 0 (book_line 0 offset (phrase_count_in t))
      → record { answer = Ok r; tables = t; running = end.memory; out = after } ≡ begun_of t m out offset
  unfolding ready_as ready_with
  begun_ready e after r line =
      ap (λ (l : Left). record { answer = Ok l.next; tables = t; running = end.memory; out = l.buffer }) line ∙ begun_as (Ok tt) e

-- ── The book ──

-- What build answers and leaves decides.
pub opened_by : (book t m out : List ℕ) (answer : Built) (after : List ℕ) → outcome answer after ≡ build_of book t
    → opened_as (said_by answer) after m out ≡ open_of book t m out
unfolding open_of
opened_by book t m out answer after is = ap (λ (o : Outcome). opened_as (said_by o.answer) o.tables m out) is

module _ (number offset : ℕ) (t m out : List ℕ) where
  pub refused_is : (number ≡ 0 → ⊥) → opened_as (said number offset) t m out ≡ refused_with (said number offset) t m out
  unfolding opened_as
  refused_is some = rw (ne_eqb number 0 some)

  pub taken_is : number ≡ 0 → opened_as (said number offset) t m out ≡ begun_of t m out offset
  unfolding opened_as
  taken_is none = rw (eq-eqb number 0 none)

module _ (book t m out after : List ℕ) where
  pub open_refused : (why : BuildError) → outcome (Err why) after ≡ build_of book t
      → (number offset : ℕ) → number ≡ (said_by (Err why)).number → offset ≡ (said_by (Err why)).offset
      → (written : List ℕ) (r : ℕ) → left written r ≡ with_line out 0 (refused_line number offset)
      → record { answer = refused_answer r; tables = after; running = m; out = written } ≡ open_of book t m out
  unfolding refused_with
  open_refused why is number offset counted found written r line =
      ap (λ (l : Left). record { answer = refused_answer l.next; tables = after; running = m; out = l.buffer }) line
      ∙ sym (refused_is number offset after m out (λ none. refused_number why (sym counted ∙ none)))
      ∙ ap (λ (s : Said). opened_as s after m out) (ap₂ said counted found)
      ∙ opened_by book t m out (Err why) after is

  pub open_taken : (long : ℕ) → outcome (Ok long) after ≡ build_of book t
      → (offset : ℕ) → offset ≡ long → (end : OpenEnd) → end ≡ begun_of after m out offset → end ≡ open_of book t m out
  unfolding said_by
  open_taken long is offset found end begins =
      begins ∙ ap (begun_of after m out) found ∙ sym (taken_is 0 long after m out refl) ∙ opened_by book t m out (Ok long) after is

-- ── The line of the book ends inside the buffer ──

ready_inside : (answer : Begun) (t m out : List ℕ) (offset : ℕ) → opened_end (ready_as answer t m out offset).answer ≤ length out
unfolding ready_as ready_with opened_end
ready_inside (Ok done) t m out offset = (line_inside out 0 (book_line 0 offset (phrase_count_in t)) (omega arith)).inside
ready_inside (Err why) t m out offset = omega arith

as_inside : (says : Said) (t m out : List ℕ) → opened_end (opened_as says t m out).answer ≤ length out
unfolding opened_as refused_with begun_of opened_end
as_inside says t m out = go (eqb says.number 0)
  where
    go : (v : Bool) → opened_end (cond v (begun_of t m out says.offset) (refused_with says t m out)).answer ≤ length out
    go true = ready_inside (begin_of t m).answer t (begin_of t m).memory out says.offset
    go false = (line_inside out 0 (refused_line says.number says.offset) (omega arith)).inside

pub open_inside : (book t m out : List ℕ) (end : OpenEnd) → end ≡ open_of book t m out → opened_end end.answer ≤ length out
unfolding open_of
open_inside book t m out end is =
    subst (λ (e : OpenEnd). opened_end e.answer ≤ length out) (sym is) (as_inside (said_by (build_of book t).answer) (build_of book t).tables m out)
