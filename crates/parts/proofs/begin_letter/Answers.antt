-- Begin's answer decides, and tables that it takes are whole. Assumes nothing.
use mathlib.Core.Path.{ap, ◌∙◌}
use Prim.Native.Nat.{ℕ}
use Rattle.tables.specs.Reads.{phrase_count_in}
use Rattle.listing.specs.Lines.{book_line}
use Rattle.listing.specs.Writing.{with_line}
use Rattle.parts.proofs.Opens.{begun_whole, begun_refused, begun_ready}
use Rattle.parts.proofs.begin_letter.Goals as goal

pub of-requires : goal.of-requires
of-requires c =
    let a = c.args in
    begun_whole a.tables.now a.running.now _ c.begin.ensures.exact c.in-Ok.is

pub returns-in-Ok : goal.returns-in-Ok
returns-in-Ok c =
    let a = c.args in
    begun_ready a.tables.now a.running.now a.out.now a.offset _ c.begin.ensures.exact c.in-Ok.is _ _
    (c.book_line.ensures ∙ ap (λ (n : ℕ). with_line a.out.now 0 (book_line 0 a.offset n)) (c.phrase_count-phrases.ensures.0 ∙ ap phrase_count_in c.of.ensures))

pub returns-in-Err : goal.returns-in-Err
returns-in-Err c =
    let a = c.args in
    begun_refused a.tables.now a.running.now a.out.now a.offset _ c.begin.ensures.exact _ c.in-Err.is
