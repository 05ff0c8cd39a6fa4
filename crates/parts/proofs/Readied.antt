-- What open_book does follows from the book's judgement: build leaves the tables of an accepted book, with which begin does its work, and the line
-- of either judgement fits.
-- Assumes nothing.
use mathlib.Core.Path.{◌≡◌, refl, sym, ap, subst, ◌∙◌}
use mathlib.Core.List.{List}
use Prim.Native.Nat.{ℕ, ◌^◌, ◌≤◌, ◌<◌}
use native.Mathlib.Omega.{arith}
use lib.ListN.{length}
use Rattle.std.specs.Prelude.{Ok, Err}
use Rattle.lent.specs.Numbers.{Bytes}
use Rattle.meaning.specs.Books.{Book}
use Rattle.format.specs.Refusals.{refusal_number}
use Rattle.format.specs.Judged.{Judgement, accepted, refused, judged, Judges}
use Rattle.format.proofs.Theorem.{judges_judged}
use Rattle.format.proofs.Answers.{number_range}
use Rattle.tables.specs.Layout.{tables_size}
use Rattle.tables.specs.Reads.{phrase_count_in}
use Rattle.tables.proofs.Fields.{phrase_count_laid}
use Rattle.running.specs.Layout.{running_size}
use Rattle.builder.specs.Answers.{Built, Said, said, said_by, said_of}
use Rattle.builder.specs.Build.{Holds, Judged, BuiltRight}
use Rattle.scanner.specs.Answers.{begun_number}
use Rattle.scanner.proofs.Once.{begun_once}
use Rattle.scanner.specs.Exact.{begin_of}
use Rattle.scanner.specs.Meant.{TablesOf, BeginDone}
use Rattle.scanner.proofs.Begins.{begin_means}
use Rattle.listing.specs.Lines.{book_line, refused_line, longest_line}
use Rattle.listing.proofs.Lengths.{book_line_most, refused_line_most}
use Rattle.lines.specs.Answers.{opened_end}
use Rattle.lines.proofs.Texts.{line_text}
use Rattle.parts.specs.Exact.{OpenEnd, ready_with, ready_as, refused_with, opened_as, open_of}
use Rattle.parts.specs.Meant.{opened_text, BookReady, OpensAs}
use Rattle.parts.specs.Promised.{OpenPromise}
use Rattle.parts.proofs.Opens.{begun_as, opened_by, refused_is, taken_is}

module _ (bytes t m out : List ℕ) (held : Bytes m) (long : running_size ≤ length m) (short : length bytes < 2 ^ 64)
    (answer : Built) (after : List ℕ) (built : BuiltRight bytes t answer after) (tables_held : Bytes after) (large : tables_size ≤ length t) where
  -- ── An accepted book ──

  module _ (book : Book) (offset : ℕ) (true_of : Judges bytes (accepted book offset)) (laid : Holds (accepted book offset) after) (size : length after ≡ length t) where
    tables_of_lem : TablesOf book after
    unfolding Judges Holds
    tables_of_lem = record { limits = true_of.0.within; long = rw size large; laid = laid; bytes = tables_held }

    begins : BeginDone book m (begin_of after m)
    begins = begin_means book after m tables_of_lem long held

    ready_right : BookReady book offset out (ready_with after (begin_of after m).memory out offset)
    unfolding ready_with opened_end Judges
    ready_right = record {
      ready = refl;
      tables = tables_of_lem;
      running = begins.memory;
      text = λ room.
          let count = phrase_count_laid book tables_of_lem.limits after tables_of_lem.laid in
          let most = book_line_most 0 offset (phrase_count_in after) (omega arith) (omega (arith, true_of.1)) (omega (arith, count, tables_of_lem.limits.counts.count)) in
          line_text out (book_line 0 offset (phrase_count_in after)) (omega (arith, most))
          ∙ ap (book_line 0 offset) count;
    }

    accepted_opens : BookReady book offset out (opened_as (said 0 offset) after m out)
    unfolding ready_as begun_number
    accepted_opens =
        subst (BookReady book offset out)
        (begun_as after m out offset (begin_of after m) refl (Ok tt) (begun_once (begin_of after m).answer (Ok tt) begins.number)
        ∙ sym (taken_is 0 offset after m out refl))
        ready_right

  -- ── Any judgement ──

  refused_opens : (number offset : ℕ) → (number ≡ 0 → ⊥) → length (refused_line number offset) ≤ longest_line
      → (end : OpenEnd) → end ≡ opened_as (said number offset) after m out
      → (end.answer ≡ Err (record { end = opened_end end.answer })) × (longest_line ≤ length out → opened_text end ≡ refused_line number offset)
  unfolding refused_with opened_end
  refused_opens number offset some most end is =
      rw (is, refused_is number offset after m out some)
      (refl, λ room. line_text out (refused_line number offset) (omega arith))

  opens : (j : Judgement) → Judges bytes j → said_by answer ≡ said_of j → Holds j after → length after ≡ length t → OpensAs j out (opened_as (said_by answer) after m out)
  unfolding OpensAs said_of Judges
  opens (accepted book offset) true_of says laid size = rw says (accepted_opens book offset true_of laid size)
  opens (refused why offset) true_of says zeros size =
      let end : OpenEnd = opened_as (said_by answer) after m out in
      let most : length (refused_line (refusal_number why) offset) ≤ longest_line
      = refused_line_most (refusal_number why) offset (omega (arith, number_range why)) (omega (arith, true_of.inside)) in
      let right = refused_opens (refusal_number why) offset (λ none. omega (arith, number_range why)) most end (ap (λ (s : Said). opened_as s after m out) says) in
      record { not_ready = right.0; text = right.1 }

  pub open_means : (end : OpenEnd) → end ≡ open_of bytes t m out → OpensAs (judged bytes) out end
  open_means end is =
      let found : Judged bytes t answer after = built.meant.large large in
      subst (λ (j : Judgement). OpensAs j out end) (sym (judges_judged bytes found.judgement found.true_of))
      (subst (OpensAs found.judgement out) (sym (is ∙ sym (opened_by bytes t m out answer after built.exact)))
      (opens found.judgement found.true_of found.says found.holds found.long))

-- ── All that open_book promises follows from what it does exactly ──

pub open_promised : (bytes t m out : List ℕ) → Bytes m → length bytes < 2 ^ 64 → (answer : Built) (after : List ℕ) → BuiltRight bytes t answer after → Bytes after
    → (end : OpenEnd) → end ≡ open_of bytes t m out → OpenPromise bytes t m out end
open_promised bytes t m out held short answer after built tables_held end is = record {
  exact = is;
  means = λ large long. open_means bytes t m out held long short answer after built tables_held large end is;
}
